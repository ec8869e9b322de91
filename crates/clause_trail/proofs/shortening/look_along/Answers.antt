use Rattle.std.proofs.Common.{arith, false, get_or, take, ap, sym, ◌∙◌, ◌≡◌, inl, inr, ⊎_elim, subst, ◌⊎◌, Some}
use Rattle.std.proofs.lemmas.List.{take_more, take_all}
use Rattle.std.proofs.lemmas.Option.{slice_get_within, slice_get-get_or}
use Rattle.clause_logic.specs.declared.Lit.{Lit}
use Rattle.clause_logic.specs.Clauses.{In}
use Rattle.clause_logic.proofs.Members.{in_at, in_push_cases}
use Rattle.clause_trail.specs.Shortening.{HasFinding}
use Rattle.clause_trail.specs.declared.shortening.Finding.TheVariants as finding
use Rattle.clause_trail.proofs.Shorter.{found_at, read_found}
use Rattle.clause_trail.proofs.shortening.look_along.Goals as goal
use Rattle.clause_trail.proofs.shortening.look_along.Goals.{then-lit-var+in-Implied, else-lit-var}

abbrev none : Lit
none = record { var = 0; positive = false }

pub index-place-requires : goal.index-place-requires
index-place-requires c =
    let m : Lit = get_or c.args.lits.now c.loop-lit.lit-index none in
    let f = found_at c.args.state.now.order.items c.args.state.now.places.items c.args.var m c.requires.placed (c.requires.false_there m (in_at c.args.lits.now c.loop-lit.lit-index none c.loop-lit-test.true)) c.if-lit-var.true in
    omega (arith, slice_get_within c.args.state.now.places.items m.var f.0 f.2, c.args.state.now.places.ok)

pub bounds : goal.bounds
bounds c =
    let m : Lit = get_or c.args.lits.now c.loop-lit.lit-index none in
    let f = read_found c.args.state.now.order.items c.args.state.now.places.items c.args.var m c.requires.placed (c.requires.false_there m (in_at c.args.lits.now c.loop-lit.lit-index none c.loop-lit-test.true)) c.if-lit-var.true
    c.index-place.result.now c.index-place.ensures in
    omega (arith, f.0, c.requires.found)

pub index-requires : goal.index-requires
index-requires c = omega (arith, c.requires.reasons (get_or c.args.lits.now c.loop-lit.lit-index none) (in_at c.args.lits.now c.loop-lit.lit-index none c.loop-lit-test.true), c.args.state.now.reasons.ok)

pub returns-in-Unknown : goal.returns-in-Unknown
returns-in-Unknown c = (in_at c.args.lits.now c.loop-lit.lit-index none c.loop-lit-test.true, c.if-lit-var.true)

pub loop-lit-preserved : goal.loop-lit-preserved
loop-lit-preserved c = λ m h.
    let x : Lit = get_or c.args.lits.now c.loop-lit.lit-index none in
    ⊎_elim
    (λ (e : x ≡ m).
    elim c.if-lit-var.branch [
      | then-lit-var+in-Implied w ↦ subst (λ (y : Lit). (y.var ≡ c.args.var) ⊎ HasFinding c.args.state.now.places.items c.args.found.now y) e
          (let f = read_found c.args.state.now.order.items c.args.state.now.places.items c.args.var x c.requires.placed (c.requires.false_there x (in_at c.args.lits.now c.loop-lit.lit-index none c.loop-lit-test.true)) w.if-lit-var.true
          w.index-place.result.now w.index-place.ensures in
          inr (w.index-place.result.now, f.1, slice_get-get_or c.args.found.now w.index-place.result.now finding.Unknown (omega (arith, f.0, c.requires.found)) ∙ ap Some w.in-Implied.is))
      | else-lit-var w ↦ inl (ap (λ (y : Lit). y.var) (sym e) ∙ w.if-lit-var.false)
    ])
    (λ k. c.loop-lit.invariant m k)
    (in_push_cases (take c.loop-lit.lit-index c.args.lits.now) x m (rw (take_more c.args.lits.now c.loop-lit.lit-index none c.loop-lit-test.true) at h))

pub returns : goal.returns
returns c = λ m h. c.loop-lit.invariant m (subst (In m) (sym (take_all c.loop-lit.lit-index c.args.lits.now c.loop-lit-test.false)) h)
