use Rattle.std.proofs.Common.{◌≡◌, ◌∙◌, ap, arith}
use Rattle.rationals.specs.Rational.{◌+ℚ◌, ◌*ℚ◌}
use Rattle.std.proofs.lemmas.Result.{err_from_is_err_and}
use Rattle.simplex_logic.specs.Vectors.{at, parts}
use Rattle.simplex_table.specs.View.{deltas}
use Rattle.simplex_table.proofs.Entries.{dot_more, at_read}
use Rattle.simplex_table.proofs.Values.{part_read, wide_as, length-values}
use Rattle.simplex_table.proofs.row.products.Goals as goal

pub returns-in_err-sum-clause-wide : goal.returns-in_err-sum-clause-wide
returns-in_err-sum-clause-wide c =
    let p = err_from_is_err_and c.from_residual.result c.from_residual.ensures.1 in
    let a : c.index-row-k.result ≡ at c.args.row.now c.loop-k.k = at_read c.args.row.now c.loop-k.k c.index-row-k.result (omega arith) c.index-row-k.is in
    let b : c.part.result ≡ at (parts c.args.real (deltas c.args.values.now)) c.loop-k.k = part_read c.args.real c.args.values.now c.loop-k.k c.index-values-k.result c.part.result (omega arith) c.index-values-k.is c.part.ensures in
    rw (p.1, p.2) (record { column = c.loop-k.k; inside = omega arith; by = wide_as _ _ _ _ _ _ _ c.loop-k.invariant a b c.in_err-sum.ensures.wide })

pub loop-k-preserved : goal.loop-k-preserved
loop-k-preserved c =
    let a : c.index-row-k.result ≡ at c.args.row.now c.loop-k.k = at_read c.args.row.now c.loop-k.k c.index-row-k.result (omega arith) c.index-row-k.is in
    let b : c.part.result ≡ at (parts c.args.real (deltas c.args.values.now)) c.loop-k.k = part_read c.args.real c.args.values.now c.loop-k.k c.index-values-k.result c.part.result (omega arith) c.index-values-k.is c.part.ensures in
    dot_more c.args.row.now (parts c.args.real (deltas c.args.values.now)) c.loop-k.k c.loop-k.sum c.in_ok-sum.sum (length-values c.args.real c.args.values.now ∙ c.requires) (omega arith)
    c.loop-k.invariant
    (c.in_ok-sum.ensures.ok ∙ ap (λ x. c.loop-k.sum +ℚ x *ℚ c.part.result) a ∙ ap (λ x. c.loop-k.sum +ℚ at c.args.row.now c.loop-k.k *ℚ x) b)
