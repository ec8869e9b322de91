-- Quotients, the order with sums and products, density, absolute values and signs.
use Rattle.std.proofs.Common.{◌≡◌, ℕ, zero, suc, ◌*◌, ◌<◌, ◌≢◌, ◌⊎◌, inl, inr, [], ◌∷◌, refl, sym, ap, ◌∙◌, subst, arith, ℤ, pos, negsuc, nat_abs}
use Rattle.std.proofs.lemmas.Int.{ints}
use lib.IntN.{neg_ℤ, ◌*ℤ◌}
use lib.Signed.{◌≤ℤ◌, ◌<ℤ◌}
use Rattle.rationals.specs.Rational.{ℚ, frac, zero_ℚ, ◌+ℚ◌, ◌*ℚ◌, ◌-ℚ◌, ◌/ℚ◌, neg_ℚ, inv_ℚ, abs_ℚ, sign_ℤ, sign_ℚ, ◌≤ℚ◌, ◌<ℚ◌}
use Rattle.rationals.proofs.Ring.{var, con, ◌⊕◌, ◌⊝◌, ◌⊗◌, minus, eqn, ring_by}
use Rattle.rationals.proofs.Rationals.{frac_self, den_pos}
use Rattle.rationals.proofs.RingQ.{coefs_ℚ, coef, ring-ℚ, mul_frac}
use Rattle.rationals.proofs.FieldQ.{mul-inv}
use Rattle.rationals.proofs.Linear.{◌≼◌, ◌≺◌, ◌≈◌}
use Rattle.rationals.proofs.OrderQ as O
use Rattle.rationals.proofs.OrderQ.{signs_ℚ, num_le, either, le_num, frac_le, lt_or_eq, sub_of_le, sub_of_lt}
use Rattle.rationals.proofs.Finder.{lin_le, lin_lt, lin_false}

-- ---- quotients
pub div-mul : (q r : ℚ) → r ≢ zero_ℚ → q /ℚ r *ℚ r ≡ q
div-mul q r h = ring_by coefs_ℚ (q ∷ r ∷ inv_ℚ r ∷ []) (var 0 ⊗ var 2 ⊗ var 1) (var 0)
    (eqn (var 0) (var 1 ⊗ var 2) (con (coef (pos 1) 0)) ∷ []) tt (mul-inv r h, tt)

pub mul-div : (q r : ℚ) → r ≢ zero_ℚ → q *ℚ r /ℚ r ≡ q
mul-div q r h = ring_by coefs_ℚ (q ∷ r ∷ inv_ℚ r ∷ []) (var 0 ⊗ var 1 ⊗ var 2) (var 0)
    (eqn (var 0) (var 1 ⊗ var 2) (con (coef (pos 1) 0)) ∷ []) tt (mul-inv r h, tt)

pub add-div : (q r s : ℚ) → (q +ℚ r) /ℚ s ≡ q /ℚ s +ℚ r /ℚ s
add-div q r s = ring-ℚ (q ∷ r ∷ inv_ℚ s ∷ []) ((var 0 ⊕ var 1) ⊗ var 2) (var 0 ⊗ var 2 ⊕ var 1 ⊗ var 2) tt

-- the quotient is the only number whose product with the divisor is the dividend
pub quotient_unique : (q r s : ℚ) → r ≢ zero_ℚ → s *ℚ r ≡ q → s ≡ q /ℚ r
quotient_unique q r s h e = ring_by coefs_ℚ (q ∷ r ∷ inv_ℚ r ∷ s ∷ []) (var 3) (var 0 ⊗ var 2)
    (eqn (var 2) (var 3 ⊗ var 1) (var 0) ∷ eqn (minus (var 3)) (var 1 ⊗ var 2) (con (coef (pos 1) 0)) ∷ []) tt (e, (mul-inv r h, tt))

-- ---- the order
pub le_refl : (q : ℚ) → q ≤ℚ q
le_refl q = lin_le signs_ℚ (q ∷ []) (var 0) (var 0) [] tt tt

pub le_trans : (q r s : ℚ) → q ≤ℚ r → r ≤ℚ s → q ≤ℚ s
le_trans q r s h k = lin_le signs_ℚ (q ∷ r ∷ s ∷ []) (var 0) (var 2) ((var 0 ≼ var 1) ∷ (var 1 ≼ var 2) ∷ []) tt (h, (k, tt))

pub lt_le_trans : (q r s : ℚ) → q <ℚ r → r ≤ℚ s → q <ℚ s
lt_le_trans q r s h k = lin_lt signs_ℚ (q ∷ r ∷ s ∷ []) (var 0) (var 2) ((var 0 ≺ var 1) ∷ (var 1 ≼ var 2) ∷ []) tt (h, (k, tt))

pub le_lt_trans : (q r s : ℚ) → q ≤ℚ r → r <ℚ s → q <ℚ s
le_lt_trans q r s h k = lin_lt signs_ℚ (q ∷ r ∷ s ∷ []) (var 0) (var 2) ((var 0 ≼ var 1) ∷ (var 1 ≺ var 2) ∷ []) tt (h, (k, tt))

pub le_of_lt : (q r : ℚ) → q <ℚ r → q ≤ℚ r
le_of_lt q r h = lin_le signs_ℚ (q ∷ r ∷ []) (var 0) (var 1) ((var 0 ≺ var 1) ∷ []) tt (h, tt)

pub add-le-add : (a b c d : ℚ) → a ≤ℚ b → c ≤ℚ d → a +ℚ c ≤ℚ b +ℚ d
add-le-add a b c d h k = lin_le signs_ℚ (a ∷ b ∷ c ∷ d ∷ []) (var 0 ⊕ var 2) (var 1 ⊕ var 3) ((var 0 ≼ var 1) ∷ (var 2 ≼ var 3) ∷ []) tt (h, (k, tt))

pub add-lt-add : (a b c d : ℚ) → a <ℚ b → c ≤ℚ d → a +ℚ c <ℚ b +ℚ d
add-lt-add a b c d h k = lin_lt signs_ℚ (a ∷ b ∷ c ∷ d ∷ []) (var 0 ⊕ var 2) (var 1 ⊕ var 3) ((var 0 ≺ var 1) ∷ (var 2 ≼ var 3) ∷ []) tt (h, (k, tt))

pub neg-le-neg : (q r : ℚ) → q ≤ℚ r → neg_ℚ r ≤ℚ neg_ℚ q
neg-le-neg q r h = lin_le signs_ℚ (q ∷ r ∷ []) (minus (var 1)) (minus (var 0)) ((var 0 ≼ var 1) ∷ []) tt (h, tt)

pub mul-le-mul : (c q r : ℚ) → zero_ℚ ≤ℚ c → q ≤ℚ r → c *ℚ q ≤ℚ c *ℚ r
mul-le-mul c q r h k =
    lin_le signs_ℚ (c ∷ q ∷ r ∷ []) (var 0 ⊗ var 1) (var 0 ⊗ var 2)
    ((con (coef (pos 0) 0) ≼ var 0 ⊗ (var 2 ⊝ var 1)) ∷ []) tt (O.mul_le c (r -ℚ q) h (sub_of_le q r k), tt)

pub mul-lt-mul : (c q r : ℚ) → zero_ℚ <ℚ c → q <ℚ r → c *ℚ q <ℚ c *ℚ r
mul-lt-mul c q r h k =
    lin_lt signs_ℚ (c ∷ q ∷ r ∷ []) (var 0 ⊗ var 1) (var 0 ⊗ var 2)
    ((con (coef (pos 0) 0) ≺ var 0 ⊗ (var 2 ⊝ var 1)) ∷ []) tt (O.mul_lt c (r -ℚ q) h (sub_of_lt q r k), tt)

-- ---- a number between two
abbrev pub middle : ℚ → ℚ → ℚ
middle q r = frac (pos 1) 2 *ℚ (q +ℚ r)

pub density : (q r : ℚ) → q <ℚ r → (s : ℚ) × (q <ℚ s) × (s <ℚ r)
density q r h = (
  middle q r,
  lin_lt signs_ℚ (q ∷ r ∷ []) (var 0) (con (coef (pos 1) 1) ⊗ (var 0 ⊕ var 1)) ((var 0 ≺ var 1) ∷ []) tt (h, tt),
  lin_lt signs_ℚ (q ∷ r ∷ []) (con (coef (pos 1) 1) ⊗ (var 0 ⊕ var 1)) (var 1) ((var 0 ≺ var 1) ∷ []) tt (h, tt),
)

-- ---- absolute values
by_sign : (z : ℤ) → ((pos 0 ≤ℤ z) × (pos (nat_abs z) ≡ z)) ⊎ ((z <ℤ pos 0) × (pos (nat_abs z) ≡ neg_ℤ z))
by_sign (pos n) = inl (omega (arith, ints), refl)
by_sign (negsuc n) = inr (omega (arith, ints), refl)

not_both : (z : ℤ) → pos 0 ≤ℤ z → z <ℤ pos 0 → ⊥
not_both z h k = omega (arith, ints)

not_less : (q : ℚ) → zero_ℚ ≤ℚ q → q <ℚ zero_ℚ → ⊥
not_less q h k = lin_false signs_ℚ (q ∷ []) ((con (coef (pos 0) 0) ≼ var 0) ∷ (var 0 ≺ con (coef (pos 0) 0)) ∷ []) tt (h, (k, tt))

pub abs-not_negative : (q : ℚ) → zero_ℚ ≤ℚ q → abs_ℚ q ≡ q
unfolding abs_ℚ
abs-not_negative q h = elim (by_sign q.num) [
  | inl p ↦ ap (λ z. frac z q.den) p.1 ∙ frac_self q
  | inr p ↦ absurd (not_both q.num (num_le q h) p.0)
]

pub abs-negative : (q : ℚ) → q <ℚ zero_ℚ → abs_ℚ q ≡ neg_ℚ q
unfolding abs_ℚ neg_ℚ
abs-negative q h = elim (by_sign q.num) [
  | inl p ↦ absurd (not_less q (le_num q p.0) h)
  | inr p ↦ ap (λ z. frac z q.den) p.1
]

-- the absolute value is the number or the negated number, and at least both
pub abs_cases : (q : ℚ) → ((zero_ℚ ≤ℚ q) × (abs_ℚ q ≡ q)) ⊎ ((q <ℚ zero_ℚ) × (abs_ℚ q ≡ neg_ℚ q))
abs_cases q = elim (either zero_ℚ q) [ inl h ↦ inl (h, abs-not_negative q h) | inr h ↦ inr (h, abs-negative q h) ]

pub zero_le_abs : (q : ℚ) → zero_ℚ ≤ℚ abs_ℚ q
zero_le_abs q = elim (abs_cases q) [
  | inl p ↦ subst (λ x. zero_ℚ ≤ℚ x) (sym p.1) p.0
  | inr p ↦ subst (λ x. zero_ℚ ≤ℚ x) (sym p.1) (lin_le signs_ℚ (q ∷ []) (con (coef (pos 0) 0)) (minus (var 0)) ((var 0 ≺ con (coef (pos 0) 0)) ∷ []) tt (p.0, tt))
]

pub le_abs : (q : ℚ) → q ≤ℚ abs_ℚ q
le_abs q = elim (abs_cases q) [
  | inl p ↦ subst (λ x. q ≤ℚ x) (sym p.1) (le_refl q)
  | inr p ↦ lin_le signs_ℚ (q ∷ abs_ℚ q ∷ []) (var 0) (var 1) ((var 0 ≺ con (coef (pos 0) 0)) ∷ (con (coef (pos 0) 0) ≼ var 1) ∷ []) tt (p.0, (zero_le_abs q, tt))
]

pub neg_le_abs : (q : ℚ) → neg_ℚ q ≤ℚ abs_ℚ q
neg_le_abs q = elim (abs_cases q) [
  | inl p ↦ lin_le signs_ℚ (q ∷ abs_ℚ q ∷ []) (minus (var 0)) (var 1) ((con (coef (pos 0) 0) ≼ var 0) ∷ (con (coef (pos 0) 0) ≼ var 1) ∷ []) tt (p.0, (zero_le_abs q, tt))
  | inr p ↦ subst (λ x. neg_ℚ q ≤ℚ x) (sym p.1) (le_refl (neg_ℚ q))
]

-- the triangle inequality
pub abs-add-le : (q r : ℚ) → abs_ℚ (q +ℚ r) ≤ℚ abs_ℚ q +ℚ abs_ℚ r
abs-add-le q r = elim (abs_cases (q +ℚ r)) [
  | inl p ↦ subst (λ x. x ≤ℚ abs_ℚ q +ℚ abs_ℚ r) (sym p.1) (add-le-add q (abs_ℚ q) r (abs_ℚ r) (le_abs q) (le_abs r))
  | inr p ↦ subst (λ x. x ≤ℚ abs_ℚ q +ℚ abs_ℚ r) (sym p.1)
      (lin_le signs_ℚ (q ∷ r ∷ abs_ℚ q ∷ abs_ℚ r ∷ []) (minus (var 0 ⊕ var 1)) (var 2 ⊕ var 3)
      ((minus (var 0) ≼ var 2) ∷ (minus (var 1) ≼ var 3) ∷ []) tt (neg_le_abs q, (neg_le_abs r, tt)))
]

-- ---- signs
sign-abs_ℤ : (z : ℤ) → sign_ℤ z *ℤ pos (nat_abs z) ≡ z
sign-abs_ℤ (pos zero) = refl
sign-abs_ℤ (pos (suc n)) = ap pos (omega arith)
sign-abs_ℤ (negsuc n) = ap (λ m. neg_ℤ (pos m)) one_time
  where
    one_time : 1 * suc n ≡ suc n
    one_time = omega arith

one_pos : 0 < 1
one_pos = omega arith

one_mul : (d : ℕ) → 1 * d ≡ d
one_mul d = omega arith

-- a number is its sign times its absolute value
pub sign-mul-abs : (q : ℚ) → sign_ℚ q *ℚ abs_ℚ q ≡ q
unfolding abs_ℚ
sign-mul-abs q =
    mul_frac (sign_ℤ q.num) (pos (nat_abs q.num)) 1 q.den one_pos (den_pos q)
    ∙ ap (λ d. frac (sign_ℤ q.num *ℤ pos (nat_abs q.num)) d) (one_mul q.den)
    ∙ ap (λ z. frac z q.den) (sign-abs_ℤ q.num) ∙ frac_self q

-- ---- absolute values of products
abs-not_positive : (q : ℚ) → q ≤ℚ zero_ℚ → abs_ℚ q ≡ neg_ℚ q
abs-not_positive q h = elim (lt_or_eq q zero_ℚ h) [
  | inl k ↦ abs-negative q k
  | inr e ↦ abs-not_negative q (subst (λ x. zero_ℚ ≤ℚ x) (sym e) (le_refl zero_ℚ))
      ∙ ring_by coefs_ℚ (q ∷ []) (var 0) (minus (var 0)) (eqn (con (coef (pos 2) 0)) (var 0) (con (coef (pos 0) 0)) ∷ []) tt (e, tt)
]

neg_le : (q : ℚ) → q <ℚ zero_ℚ → zero_ℚ ≤ℚ neg_ℚ q
neg_le q h = lin_le signs_ℚ (q ∷ []) (con (coef (pos 0) 0)) (minus (var 0)) ((var 0 ≺ con (coef (pos 0) 0)) ∷ []) tt (h, tt)

mul_le_neg : (q r : ℚ) → zero_ℚ ≤ℚ q → r <ℚ zero_ℚ → q *ℚ r ≤ℚ zero_ℚ
mul_le_neg q r h k = lin_le signs_ℚ (q ∷ r ∷ []) (var 0 ⊗ var 1) (con (coef (pos 0) 0)) ((con (coef (pos 0) 0) ≼ var 0 ⊗ minus (var 1)) ∷ []) tt (O.mul_le q (neg_ℚ r) h (neg_le r k), tt)

neg_mul_le : (q r : ℚ) → q <ℚ zero_ℚ → zero_ℚ ≤ℚ r → q *ℚ r ≤ℚ zero_ℚ
neg_mul_le q r h k = lin_le signs_ℚ (q ∷ r ∷ []) (var 0 ⊗ var 1) (con (coef (pos 0) 0)) ((con (coef (pos 0) 0) ≼ minus (var 0) ⊗ var 1) ∷ []) tt (O.mul_le (neg_ℚ q) r (neg_le q h) k, tt)

neg_mul_neg_le : (q r : ℚ) → q <ℚ zero_ℚ → r <ℚ zero_ℚ → zero_ℚ ≤ℚ q *ℚ r
neg_mul_neg_le q r h k = lin_le signs_ℚ (q ∷ r ∷ []) (con (coef (pos 0) 0)) (var 0 ⊗ var 1) ((con (coef (pos 0) 0) ≼ minus (var 0) ⊗ minus (var 1)) ∷ []) tt (O.mul_le (neg_ℚ q) (neg_ℚ r) (neg_le q h) (neg_le r k), tt)

both_abs : (q r a b : ℚ) → abs_ℚ q ≡ a → abs_ℚ r ≡ b → a *ℚ b ≡ abs_ℚ q *ℚ abs_ℚ r
both_abs q r a b e f = ap (λ x. x *ℚ b) (sym e) ∙ ap (λ x. abs_ℚ q *ℚ x) (sym f)

pub abs-mul : (q r : ℚ) → abs_ℚ (q *ℚ r) ≡ abs_ℚ q *ℚ abs_ℚ r
abs-mul q r = elim (abs_cases q) [
  | inl p ↦ elim (abs_cases r) [
    | inl s ↦ abs-not_negative (q *ℚ r) (O.mul_le q r p.0 s.0) ∙ both_abs q r q r p.1 s.1
    | inr s ↦ abs-not_positive (q *ℚ r) (mul_le_neg q r p.0 s.0)
        ∙ ring-ℚ (q ∷ r ∷ []) (minus (var 0 ⊗ var 1)) (var 0 ⊗ minus (var 1)) tt ∙ both_abs q r q (neg_ℚ r) p.1 s.1
  ]
  | inr p ↦ elim (abs_cases r) [
    | inl s ↦ abs-not_positive (q *ℚ r) (neg_mul_le q r p.0 s.0)
        ∙ ring-ℚ (q ∷ r ∷ []) (minus (var 0 ⊗ var 1)) (minus (var 0) ⊗ var 1) tt ∙ both_abs q r (neg_ℚ q) r p.1 s.1
    | inr s ↦ abs-not_negative (q *ℚ r) (neg_mul_neg_le q r p.0 s.0)
        ∙ ring-ℚ (q ∷ r ∷ []) (var 0 ⊗ var 1) (minus (var 0) ⊗ minus (var 1)) tt ∙ both_abs q r (neg_ℚ q) (neg_ℚ r) p.1 s.1
  ]
]

-- ---- inverses of positive numbers
not_zero : (q : ℚ) → zero_ℚ <ℚ q → q ≢ zero_ℚ
not_zero q h e = O.lt_irrefl zero_ℚ (subst (λ x. zero_ℚ <ℚ x) e h)

pub inv_positive : (q : ℚ) → zero_ℚ <ℚ q → zero_ℚ <ℚ inv_ℚ q
inv_positive q h = elim (either (inv_ℚ q) zero_ℚ) [
  | inl k ↦ absurd (lin_false signs_ℚ (q ∷ inv_ℚ q ∷ [])
      ((con (coef (pos 0) 0) ≼ var 0 ⊗ minus (var 1)) ∷ (var 0 ⊗ var 1 ≈ con (coef (pos 1) 0)) ∷ []) tt (
        O.mul_le q (neg_ℚ (inv_ℚ q)) (le_of_lt zero_ℚ q h)
            (lin_le signs_ℚ (inv_ℚ q ∷ []) (con (coef (pos 0) 0)) (minus (var 0)) ((var 0 ≼ con (coef (pos 0) 0)) ∷ []) tt (k, tt)),
        (mul-inv q (not_zero q h), tt),
      ))
  | inr k ↦ k
]
