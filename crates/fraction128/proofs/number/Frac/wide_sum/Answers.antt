-- The sum over the least common denominator is the sum.
use Rattle.std.proofs.Common.{◌≡◌, ◌∙◌, sym, ap, ◌<◌, subst, unsigned_abs, true, Some}
use Rattle.std.proofs.Common.{rules, to_z, of_z}
use Rattle.std.proofs.lemmas.Int.{to_z-of_z}
use mir.Syntax.{w128}
use lib.IntN.{◌+ℤ◌}
use Rattle.fraction128.specs.Exact.{small, common, left_over, right_over, sum_fits}
use Rattle.rationals.specs.Rational.{frac}
use Rattle.fraction128.proofs.Exactly.{opt_some, all_four, abs_times, common_pos, sum_value, answered_true}
use Rattle.fraction128.proofs.number.Frac.wide_sum.Goals as goal

pub divided-requires-clause-positive : goal.divided-requires-clause-positive
divided-requires-clause-positive c =
    let m = (opt_some _ _ c.in_ok-common.common c.small_product.result c.small_product.ensures c.in_ok-common.was).1 in
    let e : c.in_ok-common.common ≡ common c.args.self c.args.other = cc m in
    subst (λ k. 0 < k) (sym e) (common_pos c.args.self c.args.other)

pub returns : goal.returns
returns c =
    let q = c.args.self in let r = c.args.other in
    let m = opt_some _ _ c.in_ok-common.common c.small_product.result c.small_product.ensures c.in_ok-common.was in
    let l = opt_some _ _ c.in_ok-left.left c.times.result c.times.ensures c.in_ok-left.was in
    let k = opt_some _ _ c.in_ok-right.right c.times-2.result c.times-2.ensures c.in_ok-right.was in
    let s = opt_some _ _ c.in_ok-sum.sum c.small_sum.result c.small_sum.ensures c.in_ok-sum.was in
    let ms = m.0 in let mv = m.1 in let ls = l.0 in let lv = l.1 in let ks = k.0 in let kv = k.1 in let ss = s.0 in let sv = s.1 in
    let e : c.in_ok-common.common ≡ common c.args.self c.args.other = cc mv in
    let f : c.in_ok-left.left ≡ left_over c.args.self c.args.other = cc lv in
    let g : c.in_ok-right.right ≡ right_over c.args.self c.args.other = cc kv in
    let bl : to_z w128 (of_z w128 c.in_ok-left.left) ≡ c.in_ok-left.left = to_z-of_z w128 c.in_ok-left.left (search rules) in
    let br : to_z w128 (of_z w128 c.in_ok-right.right) ≡ c.in_ok-right.right = to_z-of_z w128 c.in_ok-right.right (search rules) in
    let bs : to_z w128 (of_z w128 c.in_ok-sum.sum) ≡ c.in_ok-sum.sum = to_z-of_z w128 c.in_ok-sum.sum (search rules) in
    let h : c.in_ok-sum.sum ≡ left_over c.args.self c.args.other +ℤ right_over c.args.self c.args.other =
    sv ∙ ap (λ z. z +ℤ to_z w128 (of_z w128 c.in_ok-right.right)) (bl ∙ f) ∙ ap (λ z. left_over c.args.self c.args.other +ℤ z) (br ∙ g) in
    let a : small (common c.args.self c.args.other) ≡ true = ap small (sym e ∙ mv) ∙ ms in
    let b : small (unsigned_abs (left_over c.args.self c.args.other)) ≡ true = ap (λ z. small (unsigned_abs z)) (sym f ∙ lv) ∙ ap small (abs_times q.num _) ∙ ls in
    let d : small (unsigned_abs (right_over c.args.self c.args.other)) ≡ true = ap (λ z. small (unsigned_abs z)) (sym g ∙ kv) ∙ ap small (abs_times r.num _) ∙ ks in
    let t : small (unsigned_abs (left_over c.args.self c.args.other +ℤ right_over c.args.self c.args.other)) ≡ true = ap (λ z. small (unsigned_abs z)) (sym h ∙ sv) ∙ ss in
    answered_true (sum_fits c.args.self c.args.other) _ _ _ (all_four _ _ _ _ a b d ∙ t)
    (ap Some (c.divided.ensures ∙ ap (λ z. frac z c.in_ok-common.common) (bs ∙ h) ∙ ap (frac (left_over c.args.self c.args.other +ℤ right_over c.args.self c.args.other)) e ∙ sum_value c.args.self c.args.other))
