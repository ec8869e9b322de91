use Rattle.std.proofs.Common.{◌∙◌, arith}
use Rattle.term_shapes.specs.Shapes.{args_of}
use Rattle.term_table.proofs.Misfitting.{widths_step}
use Rattle.term_table.proofs.table.Table.all_widths.Goals as goal

pub loop-place-preserved : goal.loop-place-preserved
loop-place-preserved c = (
  omega (arith, c.from-sum.ensures, c.width_at.type_inv, c.loop-place.invariant.0),
  (λ ks have. widths_step c.args.self.now (args_of c.args.shape.now) ks c.loop-place.place c.loop-place.sum c.from-sum.result have (omega (arith, c.loop-place-test.true, c.count_arguments-place-end.ensures))
      (λ k at. c.from-sum.ensures ∙ c.width_at.ensures ks k have at)
      (c.loop-place.invariant.1 ks have)),
)
