use Rattle.std.proofs.Common.{◌≡◌, ◌∙◌, ◌-◌, ap, subst, sym, inl, List, take, get_or, false}
use Rattle.clause_logic.specs.declared.Lit.{Lit}
use Rattle.clause_logic.specs.Clauses.{In, Both, Listed}
use Rattle.clause_logic.specs.Trails.{Learned}
use Rattle.clause_trail.specs.View.{lists_of}
use Rattle.clause_trail.proofs.Keeping.{lower_is, last_is}
use Rattle.clause_trail.proofs.Settling.{ready_at, false_later}
use Rattle.clause_trail.proofs.Shorter.{shortens_more, shorter_learned}
use Rattle.clause_trail.proofs.State.derive.Goals as goal

abbrev none : Lit
none = record { var = 0; positive = false }

pub analyze-requires-clause-ready : goal.analyze-requires-clause-ready
analyze-requires-clause-ready c = ready_at (lists_of c.args.self.now) c.args.start c.requires.sound c.requires.last

pub shorten-requires-clause-false_there : goal.shorten-requires-clause-false_there
shorten-requires-clause-false_there c =
    let learned = c.in_ok-full.ensures in
    let e = ap (take (c.len-last.result - 1)) c.as_slice.ensures.value ∙ lower_is c.in_ok-full.full.items learned.0 learned.1 c.len-last.result learned.2 (c.len-last.ensures ∙ c.in_ok-full.full.ok.0) in
    λ m i. false_later c.args.self.now.order.items c.args.start m (learned.4 m (subst (In m) e i))

pub returns : goal.returns
returns c =
    let learned : Learned (Both (Listed c.args.self.now.clauses.items) (λ d. d ≡ c.args.lits.now)) c.args.self.now.order.items c.args.start c.in_ok-full.full.items = c.in_ok-full.ensures in
    let n = c.len-last.ensures ∙ c.in_ok-full.full.ok.0 in
    let e = ap (take (c.len-last.result - 1)) c.as_slice.ensures.value ∙ lower_is c.in_ok-full.full.items learned.0 learned.1 c.len-last.result learned.2 n in
    let f : get_or c.as_slice-2.result.now (c.len-last.result - 1) none ≡ learned.1 =
    ap (λ (xs : List Lit). get_or xs (c.len-last.result - 1) none) c.as_slice-2.ensures.value ∙ last_is c.in_ok-full.full.items learned.0 learned.1 none c.len-last.result learned.2 n in
    subst (Learned (Both (Listed c.args.self.now.clauses.items) (λ d. d ≡ c.args.lits.now)) c.args.self.now.order.items c.args.start) (sym (c.from_vec.ensures ∙ c.in_ok-push.ensures.items))
    (shorter_learned (Both (Listed c.args.self.now.clauses.items) (λ d. d ≡ c.args.lits.now)) c.args.self.now.order.items c.args.self.now.places.items c.args.start c.in_ok-full.full.items
    (take (c.len-last.result - 1) c.as_slice.result.now) c.in_ok-clause.clause.items (get_or c.as_slice-2.result.now (c.len-last.result - 1) none) c.requires.sound.base.found learned e f
    (λ m i. false_later c.args.self.now.order.items c.args.start m (learned.4 m (subst (In m) e i)))
    (shortens_more (Listed c.args.self.now.clauses.items) (Both (Listed c.args.self.now.clauses.items) (λ d. d ≡ c.args.lits.now)) c.args.self.now.order.items (take (c.len-last.result - 1) c.as_slice.result.now) c.in_ok-clause.clause.items
    (λ d there. inl there) c.in_ok-clause.ensures))
