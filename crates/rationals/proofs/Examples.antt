-- One use of each tool, to copy.
use Rattle.std.proofs.Common.{◌≡◌, [], ◌∷◌, pos, refl}
use Rattle.rationals.specs.Gcd.{gcd}
use Rattle.rationals.specs.Rational.{ℚ, frac, zero_ℚ, one_ℚ, ◌+ℚ◌, ◌*ℚ◌, ◌-ℚ◌, ◌≤ℚ◌, ◌<ℚ◌}
use Rattle.rationals.proofs.Ring.{var, con, ◌⊕◌, ◌⊝◌, ◌⊗◌, eqn, ring_by}
use Rattle.rationals.proofs.RingQ.{ring-ℚ, coef, coefs_ℚ}
use Rattle.rationals.proofs.LawsQ.{ring_laws}
use Rattle.rationals.proofs.Linear.{◌≼◌, ◌≺◌, ◌≈◌, refute}
use Rattle.rationals.proofs.OrderQ.{signs_ℚ}
use Rattle.rationals.proofs.Finder.{lin_le, lin_lt}

-- an identity by the rule set, and by the normaliser
squares : (a b : ℚ) → (a -ℚ b) *ℚ (a +ℚ b) ≡ a *ℚ a -ℚ b *ℚ b
squares a b = simp ring_laws

squares_by_norm : (a b : ℚ) → (a -ℚ b) *ℚ (a +ℚ b) ≡ a *ℚ a -ℚ b *ℚ b
squares_by_norm a b = ring-ℚ (a ∷ b ∷ []) ((var 0 ⊝ var 1) ⊗ (var 0 ⊕ var 1)) (var 0 ⊗ var 0 ⊝ var 1 ⊗ var 1) tt

-- a sum of three fractions over one denominator
three_over_one : (a b c d e f : ℚ) → (a *ℚ d +ℚ c *ℚ b) *ℚ f +ℚ e *ℚ (b *ℚ d) ≡ a *ℚ (d *ℚ f) +ℚ (c *ℚ f +ℚ e *ℚ d) *ℚ b
three_over_one a b c d e f = simp ring_laws

-- an identity under an equation
square_of_sum : (a b c : ℚ) → a ≡ b +ℚ c → a *ℚ a ≡ b *ℚ b +ℚ (b *ℚ c +ℚ (c *ℚ b +ℚ c *ℚ c))
square_of_sum a b c e = simp (e, ring_laws)

-- from a x = b and b y = c: a (x y) = c
chained_products : (a b c x y : ℚ) → a *ℚ x ≡ b → b *ℚ y ≡ c → a *ℚ (x *ℚ y) ≡ c
chained_products a b c x y h k =
    ring_by coefs_ℚ (a ∷ b ∷ c ∷ x ∷ y ∷ []) (var 0 ⊗ (var 3 ⊗ var 4)) (var 2)
    (eqn (var 4) (var 0 ⊗ var 3) (var 1) ∷ eqn (con (coef (pos 1) 0)) (var 1 ⊗ var 4) (var 2) ∷ []) tt (h, (k, tt))

-- x ≤ y, y < z and z ≤ x/2 + x/2, refuted by multipliers of one's own
halves_refuted : (x y z : ℚ) → x ≤ℚ y → y <ℚ z → z ≤ℚ (frac (pos 1) 2 *ℚ x +ℚ frac (pos 1) 2 *ℚ x) → ⊥
halves_refuted x y z h k m =
    refute signs_ℚ (x ∷ y ∷ z ∷ [])
    ((var 0 ≼ var 1) ∷ (var 1 ≺ var 2) ∷ (var 2 ≼ con (coef (pos 1) 1) ⊗ var 0 ⊕ con (coef (pos 1) 1) ⊗ var 0) ∷ [])
    (coef (pos 1) 0 ∷ coef (pos 1) 0 ∷ coef (pos 1) 0 ∷ []) tt (h, (k, (m, tt)))

-- 3 x + 2 y ≤ 12 and 2 ≤ x give y ≤ 3, with multipliers that are found
bounded : (x y : ℚ) → (frac (pos 3) 1 *ℚ x +ℚ frac (pos 2) 1 *ℚ y) ≤ℚ frac (pos 12) 1 → frac (pos 2) 1 ≤ℚ x → y ≤ℚ frac (pos 3) 1
bounded x y h k =
    let X = var 0 in let Y = var 1 in
    lin_le signs_ℚ (x ∷ y ∷ []) Y (con (coef (pos 3) 0))
    ((con (coef (pos 3) 0) ⊗ X ⊕ con (coef (pos 2) 0) ⊗ Y ≼ con (coef (pos 12) 0)) ∷ (con (coef (pos 2) 0) ≼ X) ∷ []) tt (h, (k, tt))

-- an equation among the hypotheses
below_zero : (x y z w : ℚ) → x +ℚ y ≡ z → z ≤ℚ w → w <ℚ x → y <ℚ zero_ℚ
below_zero x y z w e h k =
    lin_lt signs_ℚ (x ∷ y ∷ z ∷ w ∷ []) (var 1) (con (coef (pos 0) 0))
    ((var 0 ⊕ var 1 ≈ var 2) ∷ (var 2 ≼ var 3) ∷ (var 3 ≺ var 0) ∷ []) tt (e, (h, (k, tt)))

-- closed numbers: by computing, by the normaliser, and by linear arithmetic
half_and_third : frac (pos 1) 2 +ℚ frac (pos 1) 3 ≡ frac (pos 5) 6
unfolding ◌+ℚ◌ frac gcd
half_and_third = refl

half_and_third_by_norm : frac (pos 1) 2 +ℚ frac (pos 1) 3 ≡ frac (pos 5) 6
half_and_third_by_norm = ring-ℚ [] (con (coef (pos 1) 1) ⊕ con (coef (pos 1) 2)) (con (coef (pos 5) 5)) tt

third_below_half : frac (pos 1) 3 <ℚ frac (pos 1) 2
third_below_half = lin_lt signs_ℚ [] (con (coef (pos 1) 2)) (con (coef (pos 1) 1)) [] tt tt

-- computing reaches the edge of 127 bits
edge : frac (pos 170141183460469231731687303715884105727) 2 *ℚ frac (pos 2) 170141183460469231731687303715884105727 ≡ one_ℚ
unfolding ◌*ℚ◌ frac gcd
edge = refl
