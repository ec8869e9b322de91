use Rattle.std.proofs.Common.{◌<◌, ◌≤◌, ◌≡◌, ◌∙◌, ⊎_elim, ap, arith}
use Rattle.std.specs.Prelude.{slice_get}
use Rattle.std.proofs.lemmas.Bool.{cases_lt}
use Rattle.clause_search.proofs.solving.first_open.Goals as goal

pub loop-var-preserved : goal.loop-var-preserved
loop-var-preserved c = λ v below.
    ⊎_elim
    (λ (h : v < c.loop-var.var). c.loop-var.invariant v h)
    (λ (h : c.loop-var.var ≤ v). let e : v ≡ c.loop-var.var = omega arith in
    let b = c.if-is_open.ensures.no in (b.0, ap (slice_get c.args.state.now.values.items) e ∙ b.1))
    (cases_lt v c.loop-var.var)
