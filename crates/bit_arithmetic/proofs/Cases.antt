-- The definitions' cases, one at a time.
use Rattle.std.proofs.Common.{◌≡◌, ◌∙◌, ℕ, ◌+◌, ◌-◌, ◌*◌, ◌/◌, ◌%◌, ◌^◌, ◌<◌, ◌≤◌, Bool, true, false, cond, eqb, leb, refl, sym, ap, arith}
use Rattle.std.proofs.lemmas.Bool.{cond-true, cond-false, eq-eqb, ne_eqb, le-leb, lt-leb, true≢false, false≢true}
use Rattle.y_tree.specs.BitVectors.{wrap, complement, negate, negate_if, differ, is_negative, divide, remainder, modulo_by_signs, shift_left, shift_right, shift_right_signed, sign_extend}
use Rattle.bit_arithmetic.proofs.Moduli.{cut, inverted_twice}

-- division by 0, and by others
pub divide_zero : (n a b : ℕ) → b ≡ 0 → 2 ^ n - 1 ≡ divide n a b
divide_zero n a b e = sym (cond-true (eqb b 0) (2 ^ n - 1) (a / b) (eq-eqb b 0 e))

pub divide_some : (n a b : ℕ) → (b ≡ 0 → ⊥) → a / b ≡ divide n a b
divide_some n a b e = sym (cond-false (eqb b 0) (2 ^ n - 1) (a / b) (ne_eqb b 0 e))

pub remainder_zero : (a b : ℕ) → b ≡ 0 → a ≡ remainder a b
remainder_zero a b e = sym (cond-true (eqb b 0) a (a % b) (eq-eqb b 0 e))

pub remainder_some : (a b : ℕ) → (b ≡ 0 → ⊥) → a % b ≡ remainder a b
remainder_some a b e = sym (cond-false (eqb b 0) a (a % b) (ne_eqb b 0 e))

-- the remainder with the sign of the divisor: signs that are one, a remainder 0, and others
pub modulo_same : (n b u : ℕ) (x y : Bool) → differ x y ≡ false → negate_if x n u ≡ modulo_by_signs n b u x y
modulo_same n b u true true e = refl
modulo_same n b u true false e = absurd (true≢false e)
modulo_same n b u false true e = absurd (true≢false e)
modulo_same n b u false false e = refl

pub modulo_zero : (n b u : ℕ) (x y : Bool) → differ x y ≡ true → u ≡ 0 → u ≡ modulo_by_signs n b u x y
modulo_zero n b u true true e z = absurd (false≢true e)
modulo_zero n b u true false e z = z ∙ sym (cond-true (eqb u 0) 0 (wrap n (negate n u + b)) (eq-eqb u 0 z))
modulo_zero n b u false true e z = z ∙ sym (cond-true (eqb u 0) 0 (wrap n (u + b)) (eq-eqb u 0 z))
modulo_zero n b u false false e z = absurd (false≢true e)

pub modulo_some : (n b u : ℕ) (x y : Bool) → differ x y ≡ true → (u ≡ 0 → ⊥) → wrap n (negate_if x n u + b) ≡ modulo_by_signs n b u x y
modulo_some n b u true true e z = absurd (false≢true e)
modulo_some n b u true false e z = sym (cond-false (eqb u 0) 0 (wrap n (negate n u + b)) (ne_eqb u 0 z))
modulo_some n b u false true e z = sym (cond-false (eqb u 0) 0 (wrap n (u + b)) (ne_eqb u 0 z))
modulo_some n b u false false e z = absurd (false≢true e)

-- shifts by the width or more, and by less
pub left_far : (n a b : ℕ) → n ≤ b → 0 ≡ shift_left n a b
left_far n a b h = sym (cond-true (leb n b) 0 (wrap n (a * 2 ^ b)) (le-leb n b h))

pub left_near : (n w a b x r : ℕ) → n ≤ w → b < n → x ≡ a * 2 ^ b % 2 ^ w → r ≡ wrap n x → r ≡ shift_left n a b
left_near n w a b x r h k e g = cut n w x (a * 2 ^ b) r h e g ∙ sym (cond-false (leb n b) 0 (wrap n (a * 2 ^ b)) (lt-leb n b k))

pub right_far : (n a b : ℕ) → n ≤ b → 0 ≡ shift_right n a b
right_far n a b h = sym (cond-true (leb n b) 0 (a / 2 ^ b) (le-leb n b h))

pub right_near : (n a b : ℕ) → b < n → a / 2 ^ b ≡ shift_right n a b
right_near n a b h = sym (cond-false (leb n b) 0 (a / 2 ^ b) (lt-leb n b h))

-- by the sign
pub signed_shift_negative : (n a b : ℕ) → is_negative n a ≡ true → complement n (shift_right n (complement n a) b) ≡ shift_right_signed n a b
signed_shift_negative n a b h = sym (cond-true (is_negative n a) (complement n (shift_right n (complement n a) b)) (shift_right n a b) h)

pub signed_shift_other : (n a b : ℕ) → is_negative n a ≡ false → shift_right n a b ≡ shift_right_signed n a b
signed_shift_other n a b h = sym (cond-false (is_negative n a) (complement n (shift_right n (complement n a) b)) (shift_right n a b) h)

pub extend_negative : (n k a : ℕ) → a < 2 ^ n → is_negative n a ≡ true → complement (n + k) (complement n a) ≡ sign_extend n k a
extend_negative n k a below h = inverted_twice n k a below ∙ sym (cond-true (is_negative n a) (2 ^ (n + k) - 2 ^ n + a) a h)

pub extend_other : (n k a : ℕ) → is_negative n a ≡ false → a ≡ sign_extend n k a
extend_other n k a h = sym (cond-false (is_negative n a) (2 ^ (n + k) - 2 ^ n + a) a h)
