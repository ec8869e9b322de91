use Rattle.std.proofs.Common.{◌∙◌, not, sym, ap}
use Rattle.std.specs.Prelude.{if◌then◌else◌}
use Rattle.theory_combine.proofs.Valuing.{odd_more}
use Rattle.theory_combine.proofs.values.odd_true.Goals as goal
use Rattle.theory_combine.proofs.values.odd_true.Goals.{then-values-place, else-values-place}

pub loop-place-preserved : goal.loop-place-preserved
loop-place-preserved c =
    let odd = c.loop-place.odd in
    let more = odd_more c.args.values.now c.args.places.now c.loop-place.place-index c.loop-place-test.true odd c.loop-place.invariant in
    elim c.if-values-place.branch [
      | then-values-place w ↦ w.odd-is ∙ ap (λ b. if b then not odd else odd) (sym w.if-values-place.true) ∙ more
      | else-values-place w ↦ w.odd-is ∙ ap (λ b. if b then not odd else odd) (sym w.if-values-place.false) ∙ more
    ]
