use Rattle.std.proofs.Common.{◌≡◌, get_or, arith, ap, ◌∙◌, below_more}
use Rattle.std.proofs.lemmas.List.{get_or_read}
use Rattle.rationals.specs.Rational.{zero_ℚ}
use Rattle.simplex_logic.specs.Limits.{turned}
use Rattle.simplex_logic.specs.Vectors.{at}
use Rattle.simplex_core.proofs.ChoiceLemmas.{stuck_at, moves_at}
use Rattle.simplex_core.proofs.choice.first_moving.Goals as goal

pub returns-then-moves-clause-some : goal.returns-then-moves-clause-some
returns-then-moves-clause-some c =
    let i = c.requires.named c.loop-k.k (omega arith) in
    let e : c.oriented.result ≡ turned c.args.rises (at c.args.row.now c.loop-k.k) = c.oriented.ensures ∙ ap (turned c.args.rises) (get_or_read c.args.row.now c.loop-k.k c.index-row-k.result (omega (arith, c.requires.width)) c.index-row-k.is zero_ℚ) in
    record {
      is_column = omega arith;
      earlier = c.loop-k.invariant;
      moves = moves_at c.args.ranges.now c.args.values.now c.oriented.result (turned c.args.rises (at c.args.row.now c.loop-k.k)) (get_or c.args.columns.now c.loop-k.k 0) c.index-ranges-column.result c.index-values-column.result i c.requires.valued c.index-ranges-column.is c.index-values-column.is e c.if-moves.ensures.yes;
    }

pub loop-k-preserved : goal.loop-k-preserved
loop-k-preserved c =
    let i = c.requires.named c.loop-k.k (omega arith) in
    let e : c.oriented.result ≡ turned c.args.rises (at c.args.row.now c.loop-k.k) = c.oriented.ensures ∙ ap (turned c.args.rises) (get_or_read c.args.row.now c.loop-k.k c.index-row-k.result (omega (arith, c.requires.width)) c.index-row-k.is zero_ℚ) in
    below_more _ _ c.loop-k.invariant
    (stuck_at c.args.ranges.now c.args.values.now c.oriented.result (turned c.args.rises (at c.args.row.now c.loop-k.k)) (get_or c.args.columns.now c.loop-k.k 0) c.index-ranges-column.result c.index-values-column.result i c.requires.valued c.index-ranges-column.is c.index-values-column.is e c.if-moves.ensures.no)
