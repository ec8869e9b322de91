use Rattle.std.proofs.Common.{◌∙◌, ◌<◌, length, sym, arith}
use Rattle.std.proofs.lemmas.Option.{slice_get_within}
use Rattle.y_tree.specs.Sorts.{bit_vector}
use Rattle.term_shapes.specs.Shapes.{args_of}
use Rattle.term_table.proofs.Sorting.{have_length}
use Rattle.term_table.proofs.Misfitting.{left_is, first_other_is, wide_step, sort_in}
use Rattle.term_table.proofs.table.Table.other_width.Goals as goal

pub returns-then-right-left-clause-some : goal.returns-then-right-left-clause-some
returns-then-right-left-clause-some c ks have vectors =
    let low : c.loop-place.place < length (args_of c.args.shape.now) = omega (arith, c.loop-place-test.true, c.count_arguments-place-end.ensures) in
    let k = sort_in c.args.self.now (args_of c.args.shape.now) ks c.loop-place.place have low in (
      left_is c.args.self.now (args_of c.args.shape.now) ks c.width_at-left.result have (λ l at. c.width_at-left.ensures ks l have at) (omega (arith, low)),
      first_other_is ks c.loop-place.place c.width_at-left.result c.width_at-right.result k.0 vectors k.1 (c.width_at-right.ensures ks k.0 have k.1) c.if-right-left.true (c.loop-place.invariant ks have),
    )

pub loop-place-preserved : goal.loop-place-preserved
loop-place-preserved c ks have j m below at =
    let low : c.loop-place.place < length (args_of c.args.shape.now) = omega (arith, c.loop-place-test.true, c.count_arguments-place-end.ensures) in
    let k = sort_in c.args.self.now (args_of c.args.shape.now) ks c.loop-place.place have low in
    wide_step ks c.loop-place.place c.width_at-left.result c.width_at-right.result k.0 k.1 (c.width_at-right.ensures ks k.0 have k.1) c.if-right-left.false (c.loop-place.invariant ks have) j m below at

pub returns-clause-none : goal.returns-clause-none
returns-clause-none c ks have i m at =
    let within : i < length ks = slice_get_within ks i (bit_vector m) at in
    let all = have_length c.args.self.now (args_of c.args.shape.now) ks have in
    sym (left_is c.args.self.now (args_of c.args.shape.now) ks c.width_at-left.result have (λ l h. c.width_at-left.ensures ks l have h) (omega (arith, within, all)))
    ∙ c.loop-place.invariant ks have i m (omega (arith, within, all, c.loop-place-test.false, c.count_arguments-place-end.ensures)) at
