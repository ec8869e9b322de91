-- The product of the reduced parts is the lowest form of the product.
use Rattle.std.proofs.Common.{◌≡◌, ◌∙◌, sym, ap, ◌*◌, ◌/◌, ◌&&◌, ◌<◌, ◌^◌, subst, int_lt, pos, Some, None}
use Rattle.fraction128.specs.Exact.{small, fits, with_sign, differ}
use Rattle.rationals.specs.Gcd.{gcd}
use Rattle.rationals.specs.Rational.{◌*ℚ◌, frac}
use Rattle.fraction128.proofs.Parts.{sign_is}
use Rattle.fraction128.proofs.Exactly.{mul_top, mul_bottom, mul_bottom_pos, mul_coprime, mul_fits, mul_value, not_fit_top, not_fit_bottom, answered_false, built}
use Rattle.fraction128.proofs.number.Frac.wide_product.Goals as goal

pub returns-in_err-top : goal.returns-in_err-top
returns-in_err-top c =
    let q = c.args.self in let r = c.args.other in
    let top : c.size-a.result / c.gcd-g.result * (c.size-c.result / c.gcd-h.result) ≡ mul_top c.args.self c.args.other = cc in
    c.from_residual.ensures
    ∙ answered_false (fits (c.args.self *ℚ c.args.other)) (Some (c.args.self *ℚ c.args.other)) None
    (not_fit_top c.args.self c.args.other (int_lt q.num (pos 0)) (int_lt r.num (pos 0)) (sign_is q.num) (sign_is r.num)
    (λ x. c.in_err-top.ensures (subst (λ n. n < 2 ^ 128) (sym top) x)))

pub returns-in_err-bottom : goal.returns-in_err-bottom
returns-in_err-bottom c =
    let q = c.args.self in let r = c.args.other in
    let bottom : c.below-b.result / c.gcd-h.result * (c.below-d.result / c.gcd-g.result) ≡ mul_bottom c.args.self c.args.other = cc in
    c.from_residual-in_err-bottom.ensures
    ∙ answered_false (fits (c.args.self *ℚ c.args.other)) (Some (c.args.self *ℚ c.args.other)) None
    (not_fit_bottom c.args.self c.args.other (int_lt q.num (pos 0)) (int_lt r.num (pos 0)) (sign_is q.num) (sign_is r.num)
    (λ x. c.in_err-bottom.ensures (subst (λ n. n < 2 ^ 128) (sym bottom) x)))

pub build-requires-clause-positive : goal.build-requires-clause-positive
build-requires-clause-positive c =
    let b = c.in_ok-bottom.ensures.1 in
    let bottom : c.in_ok-bottom.bottom ≡ mul_bottom c.args.self c.args.other = cc b in
    subst (λ n. 0 < n) (sym bottom) (mul_bottom_pos c.args.self c.args.other)

pub build-requires-clause-lowest : goal.build-requires-clause-lowest
build-requires-clause-lowest c =
    let t = c.in_ok-top.ensures.1 in
    let b = c.in_ok-bottom.ensures.1 in
    let top : c.in_ok-top.top ≡ mul_top c.args.self c.args.other = cc t in
    let bottom : c.in_ok-bottom.bottom ≡ mul_bottom c.args.self c.args.other = cc b in
    ap (λ n. gcd n c.in_ok-bottom.bottom) top ∙ ap (λ n. gcd (mul_top c.args.self c.args.other) n) bottom ∙ mul_coprime c.args.self c.args.other

pub returns : goal.returns
returns c =
    let t = c.in_ok-top.ensures.1 in
    let b = c.in_ok-bottom.ensures.1 in
    let top : c.in_ok-top.top ≡ mul_top c.args.self c.args.other = cc t in
    let bottom : c.in_ok-bottom.bottom ≡ mul_bottom c.args.self c.args.other = cc b in
    let q = c.args.self in let r = c.args.other in let s = c.is_negative.result in let u = c.is_negative-2.result in
    let v = mul_value c.args.self c.args.other c.is_negative.result c.is_negative-2.result c.is_negative.ensures.sign c.is_negative-2.ensures.sign in
    let f = mul_fits c.args.self c.args.other c.is_negative.result c.is_negative-2.result c.is_negative.ensures.sign c.is_negative-2.ensures.sign in
    c.build.ensures
    ∙ built (small c.in_ok-top.top && small c.in_ok-bottom.bottom) (fits (q *ℚ r)) (frac (with_sign c.differ.result c.in_ok-top.top) c.in_ok-bottom.bottom) (q *ℚ r)
    (f ∙ ap (λ n. small n && small (mul_bottom q r)) (sym top) ∙ ap (λ n. small c.in_ok-top.top && small n) (sym bottom))
    (ap (λ x. frac (with_sign x c.in_ok-top.top) c.in_ok-bottom.bottom) c.differ.ensures ∙ ap (λ n. frac (with_sign (differ s u) n) c.in_ok-bottom.bottom) top ∙ ap (frac (with_sign (differ s u) (mul_top q r))) bottom ∙ v)
