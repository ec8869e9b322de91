use Rattle.std.proofs.Common.{◌≡◌, ◌∙◌, sym, ap, ◌/◌, ◌&&◌, ◌<◌, subst, to_z, of_z, unsigned_abs, int_lt, pos, cond, Ok, Err}
use Rattle.std.proofs.lemmas.Int.{to_z-of_z}
use mir.Syntax.{w128}
use Rattle.fraction128.specs.Exact.{small, fits, with_sign, differ, ratio, is_zero_ℤ}
use Rattle.rationals.specs.Gcd.{gcd, quotient_pos, gcd_quotients}
use Rattle.rationals.specs.Rational.{frac}
use Rattle.fraction128.specs.declared.errors.FracError.TheVariants.{ZeroDen, Wide}
use Rattle.fraction128.proofs.Exactly.{new_value, new_fits, not_zero, answered_false, answered_some, answered_none}
use Rattle.fraction128.proofs.number.Frac.new.Goals as goal

pub build-requires-clause-positive : goal.build-requires-clause-positive
build-requires-clause-positive c =
    let d : c.unsigned_abs-size2.result ≡ unsigned_abs c.args.den = c.unsigned_abs-size2.ensures.value ∙ ap unsigned_abs (to_z-of_z w128 c.args.den c.ranges.den) in
    let z = (not_zero c.args.den (λ e. c.if-den-eq0.false (ap (of_z w128) e))).2 in
    let g = c.gcd-divisor.ensures.value in
    subst (λ k. 0 < c.unsigned_abs-size2.result / k) (sym g) (quotient_pos c.unsigned_abs-size.result c.unsigned_abs-size2.result (subst (λ k. 0 < k) (sym d) z))

pub build-requires-clause-lowest : goal.build-requires-clause-lowest
build-requires-clause-lowest c =
    let a : c.unsigned_abs-size.result ≡ unsigned_abs c.args.num = c.unsigned_abs-size.ensures.value ∙ ap unsigned_abs (to_z-of_z w128 c.args.num c.ranges.num) in
    let d : c.unsigned_abs-size2.result ≡ unsigned_abs c.args.den = c.unsigned_abs-size2.ensures.value ∙ ap unsigned_abs (to_z-of_z w128 c.args.den c.ranges.den) in
    let z = (not_zero c.args.den (λ e. c.if-den-eq0.false (ap (of_z w128) e))).2 in
    let g = c.gcd-divisor.ensures.value in
    subst (λ k. gcd (c.unsigned_abs-size.result / k) (c.unsigned_abs-size2.result / k) ≡ 1) (sym g)
    (gcd_quotients c.unsigned_abs-size.result c.unsigned_abs-size2.result (subst (λ k. 0 < k) (sym d) z))

pub returns-in-Some : goal.returns-in-Some
returns-in-Some c =
    let back : to_z w128 (of_z w128 c.args.num) ≡ c.args.num = to_z-of_z w128 c.args.num c.ranges.num in
    let back2 : to_z w128 (of_z w128 c.args.den) ≡ c.args.den = to_z-of_z w128 c.args.den c.ranges.den in
    let a : c.unsigned_abs-size.result ≡ unsigned_abs c.args.num = c.unsigned_abs-size.ensures.value ∙ ap unsigned_abs back in
    let b : c.unsigned_abs-size2.result ≡ unsigned_abs c.args.den = c.unsigned_abs-size2.ensures.value ∙ ap unsigned_abs back2 in
    let g = c.gcd-divisor.ensures.value in
    let z = not_zero c.args.den (λ e. c.if-den-eq0.false (ap (of_z w128) e)) in
    let m = unsigned_abs c.args.num in let n = unsigned_abs c.args.den in
    let top : c.unsigned_abs-size.result / c.gcd-divisor.result ≡ m / gcd m n = cc in
    let bottom : c.unsigned_abs-size2.result / c.gcd-divisor.result ≡ n / gcd m n = cc in
    let s : c.differ-negative.result ≡ differ (int_lt c.args.num (pos 0)) (int_lt c.args.den (pos 0)) =
    c.differ-negative.ensures ∙ ap (λ x. differ (int_lt x (pos 0)) (int_lt (to_z w128 (of_z w128 c.args.den)) (pos 0))) back ∙ ap (λ x. differ (int_lt c.args.num (pos 0)) (int_lt x (pos 0))) back2 in
    let x = c.unsigned_abs-size.result / c.gcd-divisor.result in let y = c.unsigned_abs-size2.result / c.gcd-divisor.result in
    let f : fits (ratio c.args.num c.args.den) ≡ (small x && small y) =
    new_fits c.args.num c.args.den z.0 z.2 ∙ ap (λ k. small k && small (n / gcd m n)) (sym top) ∙ ap (λ k. small x && small k) (sym bottom) in
    let v : frac (with_sign c.differ-negative.result x) y ≡ ratio c.args.num c.args.den =
    ap (λ k. frac (with_sign k x) y) s ∙ ap (λ k. frac (with_sign (differ (int_lt c.args.num (pos 0)) (int_lt c.args.den (pos 0))) k) y) top
    ∙ ap (frac (with_sign (differ (int_lt c.args.num (pos 0)) (int_lt c.args.den (pos 0))) (m / gcd m n))) bottom ∙ new_value c.args.num c.args.den z.0 z.2 in
    answered_some (small x && small y) (fits (ratio c.args.num c.args.den)) (frac (with_sign c.differ-negative.result x) y) (ratio c.args.num c.args.den) c.in-Some.f (Err Wide) c.build.result c.build.ensures c.in-Some.is f v
    ∙ answered_false (is_zero_ℤ c.args.den) (Err ZeroDen) (cond (fits (ratio c.args.num c.args.den)) (Ok (ratio c.args.num c.args.den)) (Err Wide)) z.1

pub returns-in-None : goal.returns-in-None
returns-in-None c =
    let back : to_z w128 (of_z w128 c.args.num) ≡ c.args.num = to_z-of_z w128 c.args.num c.ranges.num in
    let back2 : to_z w128 (of_z w128 c.args.den) ≡ c.args.den = to_z-of_z w128 c.args.den c.ranges.den in
    let a : c.unsigned_abs-size.result ≡ unsigned_abs c.args.num = c.unsigned_abs-size.ensures.value ∙ ap unsigned_abs back in
    let b : c.unsigned_abs-size2.result ≡ unsigned_abs c.args.den = c.unsigned_abs-size2.ensures.value ∙ ap unsigned_abs back2 in
    let g = c.gcd-divisor.ensures.value in
    let z = not_zero c.args.den (λ e. c.if-den-eq0.false (ap (of_z w128) e)) in
    let m = unsigned_abs c.args.num in let n = unsigned_abs c.args.den in
    let top : c.unsigned_abs-size.result / c.gcd-divisor.result ≡ m / gcd m n = cc in
    let bottom : c.unsigned_abs-size2.result / c.gcd-divisor.result ≡ n / gcd m n = cc in
    let s : c.differ-negative.result ≡ differ (int_lt c.args.num (pos 0)) (int_lt c.args.den (pos 0)) =
    c.differ-negative.ensures ∙ ap (λ x. differ (int_lt x (pos 0)) (int_lt (to_z w128 (of_z w128 c.args.den)) (pos 0))) back ∙ ap (λ x. differ (int_lt c.args.num (pos 0)) (int_lt x (pos 0))) back2 in
    let x = c.unsigned_abs-size.result / c.gcd-divisor.result in let y = c.unsigned_abs-size2.result / c.gcd-divisor.result in
    let f : fits (ratio c.args.num c.args.den) ≡ (small x && small y) =
    new_fits c.args.num c.args.den z.0 z.2 ∙ ap (λ k. small k && small (n / gcd m n)) (sym top) ∙ ap (λ k. small x && small k) (sym bottom) in
    answered_none (small x && small y) (fits (ratio c.args.num c.args.den)) (frac (with_sign c.differ-negative.result x) y) (ratio c.args.num c.args.den) Wide c.build.result c.build.ensures c.in-None.is f
    ∙ answered_false (is_zero_ℤ c.args.den) (Err ZeroDen) (cond (fits (ratio c.args.num c.args.den)) (Ok (ratio c.args.num c.args.den)) (Err Wide)) z.1
