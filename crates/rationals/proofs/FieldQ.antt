-- Division, equality that computes, and a code of the rational numbers.
use Rattle.std.proofs.Common.{◌≡◌, ℕ, zero, suc, ◌*◌, ◌<◌, ◌≢◌, Bool, false, eqb, refl, sym, ap, ◌∙◌, arith, ℤ, pos, negsuc, nat_abs}
use Rattle.std.specs.Coded.{Coded, code_by, coded×, coded_ℕ, coded_ℤ}
use lib.IntN.{neg_ℤ, ◌*ℤ◌, *ℤ_comm, zero-*ℤ, ℤ_discrete}
use mathlib.Core.HLevel.{hedberg}
use Rattle.rationals.specs.Rational.{ℚ, signed, frac, zero_ℚ, one_ℚ, ◌*ℚ◌, inv_ℚ}
use Rattle.rationals.proofs.RingZ.{neg-mul, mul-one}
use Rattle.rationals.proofs.Rationals.{ℚ_ext, den_pos, frac_self, frac_eq}
use Rattle.rationals.proofs.RingQ.{mul_frac, pos_mul}
use native.Mathlib.Decide.{ℕ_discrete}

pub zero_of_num : (q : ℚ) → q.num ≡ pos 0 → q ≡ zero_ℚ
zero_of_num q e =
    sym (frac_self q) ∙ frac_eq q.num (pos 0) q.den 1 (den_pos q) (omega arith)
    (ap (λ x. x *ℤ pos 1) e ∙ sym (zero-*ℤ (pos q.den)))

pub abs_pos : (z : ℤ) → z ≢ pos 0 → 0 < nat_abs z
abs_pos (pos zero) h = absurd (h refl)
abs_pos (pos (suc n)) h = omega arith
abs_pos (negsuc n) h = omega arith

neg_twice : (m : ℕ) → neg_ℤ (neg_ℤ (pos m)) ≡ pos m
neg_twice zero = refl
neg_twice (suc m) = refl

self_signed : (z : ℤ) (m : ℕ) → z *ℤ signed z m ≡ pos (nat_abs z * m)
self_signed (pos n) m = refl
self_signed (negsuc n) m = neg-mul (pos (suc n)) (neg_ℤ (pos m)) ∙ ap neg_ℤ (*ℤ_comm (pos (suc n)) (neg_ℤ (pos m)) ∙ neg-mul (pos m) (pos (suc n))) ∙ neg_twice (m * suc n) ∙ ap pos (omega arith)

-- a number that is not 0 times its inverse is 1
pub mul-inv : (q : ℚ) → q ≢ zero_ℚ → q *ℚ inv_ℚ q ≡ one_ℚ
unfolding inv_ℚ
mul-inv q h =
    let a : 0 < nat_abs q.num = abs_pos q.num (λ e. h (zero_of_num q e)) in
    ap (λ x. x *ℚ frac (signed q.num q.den) (nat_abs q.num)) (sym (frac_self q))
    ∙ mul_frac q.num (signed q.num q.den) q.den (nat_abs q.num) (den_pos q) a
    ∙ frac_eq _ (pos 1) (q.den * nat_abs q.num) 1 (pos_mul q.den (nat_abs q.num) (den_pos q) a) (omega arith)
    (mul-one (q.num *ℤ signed q.num q.den) ∙ self_signed q.num q.den ∙ ap pos (omega arith))

-- equality that computes
abbrev pub same_ℤ : ℤ → ℤ → Bool
same_ℤ (pos a) (pos b) = eqb a b
same_ℤ (pos a) (negsuc b) = false
same_ℤ (negsuc a) (pos b) = false
same_ℤ (negsuc a) (negsuc b) = eqb a b

-- equality is decided
pub ℚ_discrete : Discrete ℚ
ℚ_discrete q r = go (ℤ_discrete q.num r.num) (ℕ_discrete q.den r.den)
  where
    go : Dec (q.num ≡ r.num) → Dec (q.den ≡ r.den) → Dec (q ≡ r)
    go (yes p) (yes e) = yes (ℚ_ext q r p e)
    go (yes p) (no n) = no (λ h. n (ap (λ (x : ℚ). x.den) h))
    go (no n) e = no (λ h. n (ap (λ (x : ℚ). x.num) h))

-- two proofs of an equation are equal
pub ℚ_set : IsSet ℚ
ℚ_set = hedberg ℚ_discrete

-- a number is stored as its two parts
abbrev pub coded_ℚ : Coded ℚ
coded_ℚ = code_by (ℤ × ℕ) (coded× coded_ℤ coded_ℕ) (λ q. (q.num, q.den)) (λ p. frac p.0 p.1) frac_self
