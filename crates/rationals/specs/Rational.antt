-- The rational numbers. A number is a pair in lowest terms with a positive second, so equal is `≡`.
--     frac n d     the number n / d; at d = 0 it is 0
use Rattle.std.proofs.Common.{◌≡◌, ℕ, zero, suc, ◌*◌, ◌/◌, ◌<◌, ◌&&◌, Bool, false, T, eqb, List, [], ◌∷◌, ◌⊎◌, cond, refl, ap, ◌∙◌, subst, arith, ℤ, pos, negsuc, nat_abs}
use Rattle.std.specs.Prelude.{◌==◌}
use Rattle.std.specs.declared.cmp.Ordering.{Ordering}
use Rattle.std.specs.Ordering.{int_cmp, int_eq, is_lt}
use lib.IntN.{neg_ℤ, ◌+ℤ◌, ◌*ℤ◌}
use lib.Signed.{◌≤ℤ◌, ◌<ℤ◌}
use lib.Dec.{eqb_refl}
use Rattle.rationals.specs.Gcd.{gcd, gcd_quotients, quotient_pos}

-- the test of lowest terms: a positive second, and no divisor in common but 1
abbrev pub is_lowest : ℤ → ℕ → Bool
is_lowest n zero = false
is_lowest n (suc d) = eqb (gcd (nat_abs n) (suc d)) 1

-- a pair in lowest terms
pub record ℚ : Type 0 where
  pub num : ℤ
  pub den : ℕ
  pub low : T (is_lowest num den)

-- m with the sign of z
abbrev pub signed : ℤ → ℕ → ℤ
signed (pos n) m = pos m
signed (negsuc n) m = neg_ℤ (pos m)

-- the size of a negative number
pub abs-neg : (m : ℕ) → nat_abs (neg_ℤ (pos m)) ≡ m
abs-neg zero = refl
abs-neg (suc m) = refl

-- a sign leaves the size
pub abs-signed : (z : ℤ) (m : ℕ) → nat_abs (signed z m) ≡ m
abs-signed (pos n) m = refl
abs-signed (negsuc n) m = abs-neg m

-- positive and with no common divisor is lowest
pub low_of : (n : ℤ) (d : ℕ) → 0 < d → gcd (nat_abs n) d ≡ 1 → T (is_lowest n d)
low_of n zero h e = absurd (omega arith)
low_of n (suc d) h e = subst (λ x. T (eqb (gcd (nat_abs n) (suc d)) x)) e (eqb_refl (gcd (nat_abs n) (suc d)))

-- what is divided by the greatest common divisor is lowest
pub reduced_low : (n : ℤ) (d : ℕ) → 0 < d → T (is_lowest (signed n (nat_abs n / gcd (nat_abs n) d)) (d / gcd (nat_abs n) d))
reduced_low n d h =
    low_of (signed n (nat_abs n / gcd (nat_abs n) d)) (d / gcd (nat_abs n) d) (quotient_pos (nat_abs n) d h)
    (ap (λ x. gcd x (d / gcd (nat_abs n) d)) (abs-signed n (nat_abs n / gcd (nat_abs n) d)) ∙ gcd_quotients (nat_abs n) d h)

-- a successor is positive
pub pos_suc : (d : ℕ) → 0 < suc d
pos_suc d = omega arith

-- 0 / 1 is lowest
pub zero_low : T (is_lowest (pos 0) 1)
unfolding gcd
zero_low = tt

-- n / d in lowest terms, and 0 where d is 0
unfoldable pub frac : ℤ → ℕ → ℚ
frac n zero = record { num = pos 0; den = 1; low = zero_low }
frac n (suc d) =
    let g = gcd (nat_abs n) (suc d) in
    record { num = signed n (nat_abs n / g); den = suc d / g; low = reduced_low n (suc d) (pos_suc d) }

-- the operations, by their pairs
infixl 65 ◌+ℚ◌ ◌-ℚ◌
infixl 70 ◌*ℚ◌ ◌/ℚ◌
infix 50 ◌≤ℚ◌ ◌<ℚ◌
-- the number 0
abbrev pub zero_ℚ : ℚ
zero_ℚ = frac (pos 0) 1

-- the number 1
abbrev pub one_ℚ : ℚ
one_ℚ = frac (pos 1) 1

-- the sum
unfoldable pub ◌+ℚ◌ : ℚ → ℚ → ℚ
q +ℚ r = frac (q.num *ℤ pos r.den +ℤ r.num *ℤ pos q.den) (q.den * r.den)

-- the product
unfoldable pub ◌*ℚ◌ : ℚ → ℚ → ℚ
q *ℚ r = frac (q.num *ℤ r.num) (q.den * r.den)

-- the negated number
unfoldable pub neg_ℚ : ℚ → ℚ
neg_ℚ q = frac (neg_ℤ q.num) q.den

-- the difference
abbrev pub ◌-ℚ◌ : ℚ → ℚ → ℚ
q -ℚ r = q +ℚ neg_ℚ r

-- 1 / q, and 0 at 0
unfoldable pub inv_ℚ : ℚ → ℚ
inv_ℚ q = frac (signed q.num q.den) (nat_abs q.num)

-- the quotient, and 0 where r is 0
abbrev pub ◌/ℚ◌ : ℚ → ℚ → ℚ
q /ℚ r = q *ℚ inv_ℚ r

-- the absolute value
unfoldable pub abs_ℚ : ℚ → ℚ
abs_ℚ q = frac (pos (nat_abs q.num)) q.den

-- -1, 0 or 1
abbrev pub sign_ℤ : ℤ → ℤ
sign_ℤ (pos zero) = pos 0
sign_ℤ (pos (suc n)) = pos 1
sign_ℤ (negsuc n) = negsuc 0

-- -1, 0 or 1, as q is negative, zero or positive
abbrev pub sign_ℚ : ℚ → ℚ
sign_ℚ q = frac (sign_ℤ q.num) 1

-- at most, by the cross products
pub record ◌≤ℚ◌ (q r : ℚ) : Type 0 where
  pub le : (q.num *ℤ pos r.den) ≤ℤ (r.num *ℤ pos q.den)

-- below, by the cross products
pub record ◌<ℚ◌ (q r : ℚ) : Type 0 where
  pub lt : (q.num *ℤ pos r.den) <ℤ (r.num *ℤ pos q.den)

-- the order as `Ord::cmp` answers it, by the cross products
abbrev pub cmp_ℚ : ℚ → ℚ → Ordering
cmp_ℚ q r = int_cmp (q.num *ℤ pos r.den) (r.num *ℤ pos q.den)

-- the test of equality, by the parts
abbrev pub same_ℚ : ℚ → ℚ → Bool
same_ℚ q r = int_eq q.num r.num && (q.den == r.den)

-- the larger of two
abbrev pub max_ℚ : ℚ → ℚ → ℚ
max_ℚ q r = cond (is_lt (cmp_ℚ q r)) r q

-- the smaller of two
abbrev pub min_ℚ : ℚ → ℚ → ℚ
min_ℚ q r = cond (is_lt (cmp_ℚ r q)) r q

-- the largest of q and a list
abbrev pub largest : ℚ → List ℚ → ℚ
largest q [] = q
largest q (r ∷ rs) = largest (max_ℚ q r) rs

-- the least of q and a list
abbrev pub least : ℚ → List ℚ → ℚ
least q [] = q
least q (r ∷ rs) = least (min_ℚ q r) rs

-- every number of the list is at most m
abbrev pub AtMost : ℚ → List ℚ → Type 0
AtMost m [] = Unit {0}
AtMost m (q ∷ qs) = (q ≤ℚ m) × AtMost m qs

-- every number of the list is at least m
abbrev pub AtLeast : ℚ → List ℚ → Type 0
AtLeast m [] = Unit {0}
AtLeast m (q ∷ qs) = (m ≤ℚ q) × AtLeast m qs

-- m is one of the list
abbrev pub Among : ℚ → List ℚ → Type 0
Among m [] = ⊥
Among m (q ∷ qs) = (m ≡ q) ⊎ Among m qs
