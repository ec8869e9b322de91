-- The sum of narrow fractions fits.
use Rattle.std.proofs.Common.{◌≡◌, ◌∙◌, sym, ap, true, Some}
use Rattle.fraction128.specs.Exact.{narrow, sum_fits}
use Rattle.fraction128.proofs.Exactly.{answered_true}
use Rattle.fraction128.proofs.Narrow.{narrow_sum_fits}
use Rattle.fraction128.proofs.number.Frac.sum.Goals as goal

pub returns-then-is_narrow-2 : goal.returns-then-is_narrow-2
returns-then-is_narrow-2 c =
    let h : narrow c.args.self ≡ true = sym c.is_narrow.ensures ∙ c.if-is_narrow.true in
    let k : narrow c.args.other ≡ true = sym c.is_narrow-then-is_narrow.ensures ∙ c.if-is_narrow-2.true in
    answered_true (sum_fits c.args.self c.args.other) _ _ _ (narrow_sum_fits c.args.self c.args.other h k) (ap Some c.narrow_sum.ensures)
