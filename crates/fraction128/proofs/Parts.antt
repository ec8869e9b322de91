-- What the fields of a fraction say of its number.
use Rattle.std.proofs.Common.{◌≡◌, ℕ, zero, suc, ◌<◌, ◌^◌, ◌%◌, false, refl, sym, ap, ◌∙◌, subst, arith, ℤ, pos, negsuc, unsigned_abs, int_lt, to_z, of_z}
use Rattle.std.proofs.lemmas.Int.{ints, to_z-of_z, fits_signed_from_abs}
use Rattle.std.proofs.lemmas.Nat.Gcd.{IsGcd-from_mod, same_from_IsGcd}
use mir.Syntax.{w128}
use lib.IntN.{neg_ℤ, ◌-ℤ◌, +ℤ_idl}
use Rattle.rationals.specs.Gcd.{gcd, gcd_is}
use Rattle.rationals.specs.Rational.{ℚ, frac, neg_ℚ}
use Rattle.fraction128.specs.Exact.{IsFrac, kept, with_sign}

pub num_is : (n d : ℤ) (q : ℚ) → IsFrac n d → frac n (unsigned_abs d) ≡ q → n ≡ q.num
num_is n d q h e = sym (kept n d h).0 ∙ ap (λ (r : ℚ). r.num) e

pub den_is : (n d : ℤ) (q : ℚ) → IsFrac n d → frac n (unsigned_abs d) ≡ q → d ≡ pos q.den
den_is n d q h e = sym (kept n d h).1 ∙ ap (λ (r : ℚ). pos r.den) e

pub num_back : (n d : ℤ) (q : ℚ) → IsFrac n d → frac n (unsigned_abs d) ≡ q → to_z w128 (of_z w128 n) ≡ q.num
num_back n d q h e = to_z-of_z w128 n (fits_signed_from_abs w128 n h.num_small) ∙ num_is n d q h e

pub den_back : (n d : ℤ) (q : ℚ) → IsFrac n d → frac n (unsigned_abs d) ≡ q → to_z w128 (of_z w128 d) ≡ pos q.den
den_back n d q h e = to_z-of_z w128 d (fits_signed_from_abs w128 d h.den_small) ∙ den_is n d q h e

pub not_below : (n : ℕ) → int_lt (pos n) (pos 0) ≡ false
not_below n = grind (arith, ints)

pub sign_is : (n : ℤ) → with_sign (int_lt n (pos 0)) (unsigned_abs n) ≡ n
sign_is (pos n) = ap (λ b. with_sign b n) (not_below n)
sign_is (negsuc n) = refl

pub gcd-zero : (a : ℕ) → gcd a 0 ≡ a
unfolding gcd
gcd-zero a = refl

pub gcd-step : (a b : ℕ) → gcd a b ≡ gcd b (a % b)
gcd-step a b = same_from_IsGcd a b (gcd a b) (gcd b (a % b)) (gcd_is a b) (IsGcd-from_mod a b (gcd b (a % b)) (gcd_is b (a % b)))

abs-neg : (z : ℤ) → unsigned_abs (pos 0 -ℤ z) ≡ unsigned_abs z
abs-neg z = ap unsigned_abs (+ℤ_idl (neg_ℤ z)) ∙ flip z
  where
    flip : (z : ℤ) → unsigned_abs (neg_ℤ z) ≡ unsigned_abs z
    flip (pos zero) = refl
    flip (pos (suc n)) = refl
    flip (negsuc n) = refl

pub neg_back : (n d : ℤ) (q : ℚ) → IsFrac n d → frac n (unsigned_abs d) ≡ q →
    frac (to_z w128 (of_z w128 (pos 0 -ℤ to_z w128 (of_z w128 n)))) (unsigned_abs (to_z w128 (of_z w128 d))) ≡ neg_ℚ q
unfolding neg_ℚ
neg_back n d q h e =
    let a = num_back n d q h e in let b = den_back n d q h e in
    let small : unsigned_abs (pos 0 -ℤ to_z w128 (of_z w128 n)) < 2 ^ 127 =
    subst (λ m. m < 2 ^ 127) (sym (abs-neg (to_z w128 (of_z w128 n)) ∙ ap unsigned_abs (to_z-of_z w128 n (fits_signed_from_abs w128 n h.num_small)))) h.num_small in
    ap (λ z. frac z (unsigned_abs (to_z w128 (of_z w128 d)))) (to_z-of_z w128 (pos 0 -ℤ to_z w128 (of_z w128 n)) (fits_signed_from_abs w128 _ small) ∙ +ℤ_idl (neg_ℤ (to_z w128 (of_z w128 n))) ∙ ap neg_ℤ a)
    ∙ ap (λ z. frac (neg_ℤ q.num) (unsigned_abs z)) b
