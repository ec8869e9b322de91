-- Numbers modulo powers of two.
use Rattle.std.proofs.Common.{◌≡◌, ◌∙◌, ℕ, zero, suc, ◌+◌, ◌-◌, ◌*◌, ◌/◌, ◌%◌, ◌^◌, ◌<◌, ◌≤◌, refl, sym, ap, subst, arith}
use Rattle.std.specs.Int.Bits.{bit_and, bit_or}
use Rattle.std.proofs.Math.Nat.{add-mul-mod_self_left}
use Rattle.std.proofs.lemmas.Nat.{pow_pos, pow-add, mod-pow-add, mod_low, mod_below, div-mul-add, and_mask, shl_whole, or_shifted}
use Rattle.y_tree.specs.BitVectors.{wrap, complement, negate, subtract, concatenate}

-- the low n of w digits are those of the whole number
pub wrap_wide : (n w x : ℕ) → n ≤ w → wrap n (x % 2 ^ w) ≡ wrap n x
wrap_wide n w x h =
    let e : w - n + n ≡ w = omega arith in
    subst (λ k. x % 2 ^ k % 2 ^ n ≡ x % 2 ^ n) e
    (ap (λ y. y % 2 ^ n) (mod-pow-add x (w - n) n) ∙ mod_low (x / 2 ^ n % 2 ^ (w - n)) n (x % 2 ^ n) (mod_below x (2 ^ n) (pow_pos n)))

-- a power of two is a multiple of a smaller one
pub power_splits : (n w : ℕ) → n ≤ w → 2 ^ n * 2 ^ (w - n) ≡ 2 ^ w
power_splits n w h =
    let e : n + (w - n) ≡ w = omega arith in
    sym (pow-add 2 n (w - n)) ∙ ap (λ k. 2 ^ k) e

less_one : (p q : ℕ) → 0 < p → 0 < q → (p - 1) * q + (q - 1) ≡ p * q - 1
less_one zero q h k = absurd (omega arith)
less_one (suc p) q h k = let e : suc p - 1 ≡ p = omega arith in rw e (omega arith)

-- a row of ones, cut to n digits
pub ones_cut : (n w : ℕ) → n ≤ w → (2 ^ w - 1) / 2 ^ (w - n) ≡ 2 ^ n - 1
ones_cut n w h =
    let q : 0 < 2 ^ (w - n) = pow_pos (w - n) in
    let whole : (2 ^ n - 1) * 2 ^ (w - n) + (2 ^ (w - n) - 1) ≡ 2 ^ w - 1 = less_one (2 ^ n) (2 ^ (w - n)) (pow_pos n) q ∙ ap (λ x. x - 1) (power_splits n w h) in
    ap (λ x. x / 2 ^ (w - n)) (sym whole) ∙ div-mul-add (2 ^ n - 1) (2 ^ (w - n)) (2 ^ (w - n) - 1) (omega arith)

less_more : (a b p q : ℕ) → b < p → 0 < q → a + (p - b) + p * (q - 1) ≡ a + (p * q - b)
less_more a b p zero h k = absurd (omega arith)
less_more a b p (suc q) h k = let e : suc q - 1 ≡ q = omega arith in rw e (omega arith)

-- a number taken from a larger power of two has the same low digits
pub wrap_minus : (n w a b : ℕ) → n ≤ w → b < 2 ^ n → wrap n (a + (2 ^ w - b)) ≡ subtract n a b
wrap_minus n w a b h k =
    ap (λ x. (a + (x - b)) % 2 ^ n) (sym (power_splits n w h))
    ∙ ap (λ x. x % 2 ^ n) (sym (less_more a b (2 ^ n) (2 ^ (w - n)) k (pow_pos (w - n))))
    ∙ add-mul-mod_self_left (a + (2 ^ n - b)) (2 ^ n) (2 ^ (w - n) - 1)

-- what wrapped at w digits, cut to n
pub cut : (n w x y r : ℕ) → n ≤ w → x ≡ y % 2 ^ w → r ≡ wrap n x → r ≡ wrap n y
cut n w x y r h e g = g ∙ ap (wrap n) e ∙ wrap_wide n w y h

pub cut_difference : (n w a b x r : ℕ) → n ≤ w → b < 2 ^ n → x ≡ (a + (2 ^ w - b)) % 2 ^ w → r ≡ wrap n x → r ≡ subtract n a b
cut_difference n w a b x r h k e g = cut n w x (a + (2 ^ w - b)) r h e g ∙ wrap_minus n w a b h k

pub cut_negation : (n w a x r : ℕ) → n ≤ w → a < 2 ^ n → x ≡ (0 + (2 ^ w - a)) % 2 ^ w → r ≡ wrap n x → r ≡ negate n a
cut_negation n w a x r h k e g =
    let z : 0 + (2 ^ n - a) ≡ 2 ^ n - a = omega arith in
    cut_difference n w 0 a x r h k e g ∙ ap (wrap n) z

-- the low digits by a mask
pub masked : (n a m : ℕ) → m ≡ 2 ^ n - 1 → bit_and a m ≡ wrap n a
masked n a m e = ap (bit_and a) e ∙ and_mask a n

-- digits side by side
pub beside : (k m w a b : ℕ) → a < 2 ^ k → b < 2 ^ m → k + m ≤ w → bit_or (a * 2 ^ m % 2 ^ w) b ≡ concatenate m a b
beside k m w a b h g fit = ap (λ x. bit_or x b) (shl_whole a k m w h fit) ∙ or_shifted a m b g

at_least : (p q : ℕ) → 0 < q → p ≤ p * q
at_least p zero h = absurd (omega arith)
at_least p (suc q) h = omega arith

grown : (n k : ℕ) → 2 ^ n ≤ 2 ^ (n + k)
grown n k = subst (λ x. 2 ^ n ≤ x) (sym (pow-add 2 n k)) (at_least (2 ^ n) (2 ^ k) (pow_pos k))

-- inverted in n digits, and then in more: the new digits are ones
pub inverted_twice : (n k a : ℕ) → a < 2 ^ n → complement (n + k) (complement n a) ≡ 2 ^ (n + k) - 2 ^ n + a
inverted_twice n k a h = let e : 2 ^ n ≤ 2 ^ (n + k) = grown n k in omega arith
