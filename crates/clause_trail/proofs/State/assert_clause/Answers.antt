use Rattle.std.proofs.Common.{arith, ◌≡◌, ◌-◌, ◌∙◌, ap, subst, List, take, get_or, false}
use Rattle.std.proofs.lemmas.Option.{slice_get_within}
use Rattle.clause_logic.specs.declared.Lit.{Lit}
use Rattle.clause_logic.specs.Clauses.{In, opposite}
use Rattle.clause_trail.specs.View.{lists_of}
use Rattle.clause_trail.specs.Levels.{IsTop}
use Rattle.clause_trail.proofs.Keeping.{lower_is, last_is, keep_asserts}
use Rattle.clause_trail.proofs.Settling.{chosen_shrunk, chosen_asserted, false_later}
use Rattle.clause_trail.proofs.State.assert_clause.Goals as goal

abbrev none : Lit
none = record { var = 0; positive = false }

pub top_of-top-requires-clause-false_there : goal.top_of-top-requires-clause-false_there
top_of-top-requires-clause-false_there c =
    let (s, last, shape) = c.requires.asserting in
    let e = ap (take (c.len-last.result - 1)) c.as_slice-2.ensures ∙ lower_is c.args.clause shape.0 shape.1 c.len-last.result shape.2 c.len-last.ensures in
    λ m i. false_later c.args.self.now.order.items s m (shape.3 m (subst (In m) e i))

pub second_watch-second-requires : goal.second_watch-second-requires
second_watch-second-requires c =
    let (s, last, shape) = c.requires.asserting in
    let e = ap (take (c.len-last.result - 1)) c.as_slice-2.ensures ∙ lower_is c.args.clause shape.0 shape.1 c.len-last.result shape.2 c.len-last.ensures in
    let so : IsTop c.args.self.now.order.items s (take (c.len-last.result - 1) c.as_slice-2.result.now) c.top_of-top.result = c.top_of-top.ensures s (λ m i. shape.3 m (subst (In m) e i)) in
    omega (arith, so.bound, shape.4.1, slice_get_within c.args.self.now.order.items shape.4.0 (opposite shape.1) shape.4.2)

pub learn-requires-clause-asserts : goal.learn-requires-clause-asserts
learn-requires-clause-asserts c =
    let (s, last, shape) = c.requires.asserting in
    let e = ap (take (c.len-last.result - 1)) c.as_slice-2.ensures ∙ lower_is c.args.clause shape.0 shape.1 c.len-last.result shape.2 c.len-last.ensures in
    let so : IsTop c.args.self.now.order.items s (take (c.len-last.result - 1) c.as_slice-2.result.now) c.top_of-top.result = c.top_of-top.ensures s (λ m i. shape.3 m (subst (In m) e i)) in
    let f : get_or c.as_slice.result.now (c.len-last.result - 1) none ≡ shape.1 =
    ap (λ (xs : List Lit). get_or xs (c.len-last.result - 1) none) c.as_slice.ensures ∙ last_is c.args.clause shape.0 shape.1 none c.len-last.result shape.2 c.len-last.ensures in
    rw f (keep_asserts (lists_of c.args.self.now) (lists_of c.backtrack.new.self) s c.top_of-top.result c.levels_before-level.result shape.0 c.args.clause shape.1 c.second_watch-second.result c.requires.sound c.backtrack.ensures.backed c.backtrack.ensures.level
    last shape.2 shape.3 shape.4 (subst (λ (xs : List Lit). IsTop c.args.self.now.order.items s xs c.top_of-top.result) e so)
    (λ z. c.second_watch-second.ensures.none z ∙ f) c.second_watch-second.ensures.some c.levels_before-level.ensures.bound c.levels_before-level.ensures.below c.levels_before-level.ensures.above)

pub returns-clause-chosen : goal.returns-clause-chosen
returns-clause-chosen c = λ assumed h.
    chosen_asserted (lists_of c.backtrack.new.self) (lists_of c.learn.new.self) assumed c.args.clause _ c.in_ok-learn.ensures.ok
    (chosen_shrunk (lists_of c.args.self.now) (lists_of c.backtrack.new.self) assumed c.backtrack.ensures.backed.shrunk h)
