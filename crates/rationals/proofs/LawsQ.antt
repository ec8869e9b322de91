-- The laws of the rational numbers' ring, as one set for `simp`: `simp ring_laws` proves an equation with no numerals but 0 and 1.
use Rattle.std.proofs.Common.{◌≡◌, sym, ap, ◌∙◌}
use Rattle.rationals.specs.Rational.{ℚ, zero_ℚ, ◌+ℚ◌, ◌*ℚ◌, neg_ℚ}
use Rattle.rationals.proofs.Ring as Ring
use Rattle.rationals.proofs.RingQ.{ring_ℚ, add_comm, add_assoc, add-zero, add-neg, mul_comm_ℚ, mul_assoc, mul-one, mul-add}

pub add_left_comm : (a b c : ℚ) → a +ℚ (b +ℚ c) ≡ b +ℚ (a +ℚ c)
add_left_comm = Ring.add_left_comm ring_ℚ

pub mul_left_comm : (a b c : ℚ) → a *ℚ (b *ℚ c) ≡ b *ℚ (a *ℚ c)
mul_left_comm = Ring.mul_left_comm ring_ℚ

pub add-mul : (a b c : ℚ) → (a +ℚ b) *ℚ c ≡ a *ℚ c +ℚ b *ℚ c
add-mul = Ring.add-mul ring_ℚ

pub neg-mul : (a b : ℚ) → neg_ℚ a *ℚ b ≡ neg_ℚ (a *ℚ b)
neg-mul = Ring.neg-mul ring_ℚ

pub mul-neg : (a b : ℚ) → a *ℚ neg_ℚ b ≡ neg_ℚ (a *ℚ b)
mul-neg = Ring.mul-neg ring_ℚ

pub neg-add : (a b : ℚ) → neg_ℚ (a +ℚ b) ≡ neg_ℚ a +ℚ neg_ℚ b
neg-add = Ring.neg-add ring_ℚ

pub neg-neg : (a : ℚ) → neg_ℚ (neg_ℚ a) ≡ a
neg-neg = Ring.neg-neg ring_ℚ

pub zero-add : (a : ℚ) → zero_ℚ +ℚ a ≡ a
zero-add = Ring.zero-add ring_ℚ

pub cancel_left : (a b : ℚ) → a +ℚ (neg_ℚ a +ℚ b) ≡ b
cancel_left a b = sym (add_assoc a (neg_ℚ a) b) ∙ ap (λ x. x +ℚ b) (add-neg a) ∙ zero-add b

pub ruleset ring_laws = (mul-add, add-mul, add_assoc, mul_assoc, add_left_comm, mul_left_comm, add_comm, mul_comm_ℚ, neg-mul, mul-neg, neg-add, neg-neg, add-neg, cancel_left, add-zero, zero-add, mul-one)
