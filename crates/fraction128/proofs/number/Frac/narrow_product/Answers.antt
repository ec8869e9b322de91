-- The product of narrow fractions, each numerator reduced by the other denominator, is in lowest terms.
use Rattle.std.proofs.Common.{◌≡◌, ◌∙◌, sym, ap, ◌*◌, ◌/◌, ◌<◌, ◌^◌, subst}
use Rattle.fraction128.specs.Exact.{with_sign, differ}
use Rattle.rationals.specs.Gcd.{gcd}
use Rattle.rationals.specs.Rational.{frac}
use Rattle.fraction128.proofs.Exactly.{mul_top, mul_bottom, mul_bottom_pos, mul_coprime, mul_value}
use Rattle.fraction128.proofs.Narrow.{narrow_top, narrow_bottom}
use Rattle.fraction128.proofs.number.Frac.narrow_product.Goals as goal

pub make-requires-clause-positive : goal.make-requires-clause-positive
make-requires-clause-positive c =
    let bottom : c.den_word-b.result / c.gcd_word-h.result * (c.den_word-d.result / c.gcd_word-g.result) ≡ mul_bottom c.args.self c.args.other = cc in
    subst (λ n. 0 < n) (sym bottom) (mul_bottom_pos c.args.self c.args.other)

pub make-requires-clause-lowest : goal.make-requires-clause-lowest
make-requires-clause-lowest c =
    let top : c.size_word-a.result / c.gcd_word-g.result * (c.size_word-c.result / c.gcd_word-h.result) ≡ mul_top c.args.self c.args.other = cc in
    let bottom : c.den_word-b.result / c.gcd_word-h.result * (c.den_word-d.result / c.gcd_word-g.result) ≡ mul_bottom c.args.self c.args.other = cc in
    ap (λ n. gcd n (c.den_word-b.result / c.gcd_word-h.result * (c.den_word-d.result / c.gcd_word-g.result))) top
    ∙ ap (gcd (mul_top c.args.self c.args.other)) bottom ∙ mul_coprime c.args.self c.args.other

pub make-requires-clause-top_small : goal.make-requires-clause-top_small
make-requires-clause-top_small c =
    let top : c.size_word-a.result / c.gcd_word-g.result * (c.size_word-c.result / c.gcd_word-h.result) ≡ mul_top c.args.self c.args.other = cc in
    subst (λ n. n < 2 ^ 127) (sym top) (narrow_top c.args.self c.args.other c.requires.left c.requires.right)

pub make-requires-clause-bottom_small : goal.make-requires-clause-bottom_small
make-requires-clause-bottom_small c =
    let bottom : c.den_word-b.result / c.gcd_word-h.result * (c.den_word-d.result / c.gcd_word-g.result) ≡ mul_bottom c.args.self c.args.other = cc in
    subst (λ n. n < 2 ^ 127) (sym bottom) (narrow_bottom c.args.self c.args.other c.requires.left c.requires.right)

pub returns : goal.returns
returns c =
    let top : c.size_word-a.result / c.gcd_word-g.result * (c.size_word-c.result / c.gcd_word-h.result) ≡ mul_top c.args.self c.args.other = cc in
    let bottom : c.den_word-b.result / c.gcd_word-h.result * (c.den_word-d.result / c.gcd_word-g.result) ≡ mul_bottom c.args.self c.args.other = cc in
    let s = c.is_negative.result in let t = c.is_negative-2.result in
    c.make.ensures
    ∙ ap (λ x. frac (with_sign x (c.size_word-a.result / c.gcd_word-g.result * (c.size_word-c.result / c.gcd_word-h.result))) (c.den_word-b.result / c.gcd_word-h.result * (c.den_word-d.result / c.gcd_word-g.result))) c.differ.ensures
    ∙ ap (λ n. frac (with_sign (differ s t) n) (c.den_word-b.result / c.gcd_word-h.result * (c.den_word-d.result / c.gcd_word-g.result))) top
    ∙ ap (frac (with_sign (differ s t) (mul_top c.args.self c.args.other))) bottom
    ∙ mul_value c.args.self c.args.other s t c.is_negative.ensures.sign c.is_negative-2.ensures.sign
