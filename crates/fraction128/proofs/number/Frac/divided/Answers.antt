-- The quotients by the greatest common divisor are the lowest terms.
use Rattle.std.proofs.Common.{◌≡◌, ◌∙◌, sym, ap, ◌/◌, ◌<◌, subst, to_z, of_z, unsigned_abs, int_lt, pos}
use Rattle.std.proofs.lemmas.Int.{to_z-of_z}
use mir.Syntax.{w128}
use Rattle.fraction128.specs.Exact.{with_sign}
use Rattle.rationals.specs.Gcd.{gcd, gcd_pos, quotient_pos, gcd_quotients}
use Rattle.rationals.specs.Rational.{frac}
use Rattle.fraction128.proofs.Exactly.{reduced_value}
use Rattle.fraction128.proofs.number.Frac.divided.Goals as goal

pub nonzero_div-size : goal.nonzero_div-size
nonzero_div-size c = subst (λ k. 0 < k) (sym c.requires.common) (gcd_pos (unsigned_abs c.args.num) c.args.den c.requires.positive)

pub nonzero_div-den : goal.nonzero_div-den
nonzero_div-den c = subst (λ k. 0 < k) (sym c.requires.common) (gcd_pos (unsigned_abs c.args.num) c.args.den c.requires.positive)

pub make-requires-2-clause-positive : goal.make-requires-2-clause-positive
make-requires-2-clause-positive c =
    subst (λ k. 0 < c.args.den / k) (sym c.requires.common) (quotient_pos (unsigned_abs c.args.num) c.args.den c.requires.positive)

pub make-requires-2-clause-lowest : goal.make-requires-2-clause-lowest
make-requires-2-clause-lowest c =
    let back : to_z w128 (of_z w128 c.args.num) ≡ c.args.num = to_z-of_z w128 c.args.num c.ranges.num in
    let a : c.unsigned_abs-size.result ≡ unsigned_abs c.args.num = c.unsigned_abs-size.ensures.value ∙ ap unsigned_abs back in
    subst (λ k. gcd (k / c.args.divisor) (c.args.den / c.args.divisor) ≡ 1) (sym a)
    (subst (λ k. gcd (unsigned_abs c.args.num / k) (c.args.den / k) ≡ 1) (sym c.requires.common)
    (gcd_quotients (unsigned_abs c.args.num) c.args.den c.requires.positive))

pub returns : goal.returns
returns c =
    let back : to_z w128 (of_z w128 c.args.num) ≡ c.args.num = to_z-of_z w128 c.args.num c.ranges.num in
    let a : c.unsigned_abs-size.result ≡ unsigned_abs c.args.num = c.unsigned_abs-size.ensures.value ∙ ap unsigned_abs back in
    c.make-2.ensures
    ∙ ap (λ z. frac (with_sign (int_lt z (pos 0)) (c.unsigned_abs-size.result / c.args.divisor)) (c.args.den / c.args.divisor)) back
    ∙ ap (λ k. frac (with_sign (int_lt c.args.num (pos 0)) (k / c.args.divisor)) (c.args.den / c.args.divisor)) a
    ∙ ap (λ k. frac (with_sign (int_lt c.args.num (pos 0)) (unsigned_abs c.args.num / k)) (c.args.den / k)) c.requires.common
    ∙ reduced_value c.args.num c.args.den c.requires.positive
