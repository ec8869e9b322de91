-- Numbers by their bits, the low bit first.
use Rattle.std.proofs.Common.{◌≡◌, ◌∙◌, ℕ, zero, suc, ◌+◌, ◌*◌, ◌/◌, ◌%◌, ◌^◌, ◌<◌, ◌≤◌, min, max, Bool, true, false, not, ◌&&◌, ◌||◌, List, [], ◌∷◌, ◌++◌, length, map, take, drop, replicate, eqb, refl, sym, ap, arith}
use Rattle.std.specs.Int.Bits.{bit_and, bit_or, bit_xor, and_step, or_step, xor_step}
use Prim.Native.Nat.{differ as differ_digits}
use Rattle.std.proofs.Math.Nat.{pow-suc, pow-zero, mod-eq_of_lt, zero-mod, mod-one, zero-div, add-mul-mod_self_left}
use Rattle.std.proofs.lemmas.Nat.{mod-pow-add, shr-shr}
use Rattle.y_tree.specs.BitVectors.{differ, wrap}
use Rattle.bit_blast.specs.Bits.{bit, number}
use Rattle.bit_blast.specs.Bitwise.{pairwise}

pub bit_small : (b : Bool) → bit b ≤ 1
bit_small true = omega arith
bit_small false = omega arith

pub number_append : (xs ys : List Bool) → number (xs ++ ys) ≡ number xs + 2 ^ length xs * number ys
number_append [] ys = rw (pow-zero 2) (omega arith)
number_append (x ∷ xs) ys =
    rw (number_append xs ys, pow-suc 2 (length xs)) (omega arith)

pub number_push : (xs : List Bool) (b : Bool) → number (xs ++ b ∷ []) ≡ number xs + 2 ^ length xs * bit b
number_push xs b = number_append xs (b ∷ []) ∙ omega arith

pub number_below : (xs : List Bool) → number xs < 2 ^ length xs
number_below [] = rw (pow-zero 2) (omega arith)
number_below (x ∷ xs) = rw (pow-suc 2 (length xs)) (omega (arith, number_below xs, bit_small x))

bit_not : (b : Bool) → bit (not b) + bit b ≡ 1
bit_not true = refl
bit_not false = refl

pub number_not : (xs : List Bool) → number (map not xs) + number xs + 1 ≡ 2 ^ length xs
number_not [] = rw (pow-zero 2) refl
number_not (x ∷ xs) = rw (pow-suc 2 (length xs)) (omega (arith, number_not xs, bit_not x))

-- the number's low bit and the rest
pub number_half : (x : Bool) (xs : List Bool) → number (x ∷ xs) / 2 ≡ number xs
number_half x xs = omega (arith, bit_small x)

pub number_odd : (x : Bool) (xs : List Bool) → number (x ∷ xs) % 2 ≡ bit x
number_odd x xs = omega (arith, bit_small x)

bit_min : (x y : Bool) → min (bit x) (bit y) ≡ bit (x && y)
bit_min true true = refl
bit_min true false = refl
bit_min false true = refl
bit_min false false = refl

bit_max : (x y : Bool) → max (bit x) (bit y) ≡ bit (x || y)
bit_max true true = refl
bit_max true false = refl
bit_max false true = refl
bit_max false false = refl

pub number_and : (xs ys : List Bool) → length xs ≡ length ys → number (pairwise (λ x y. x && y) xs ys) ≡ bit_and (number xs) (number ys)
number_and [] [] h = refl
number_and [] (y ∷ ys) h = absurd (omega (arith, h))
number_and (x ∷ xs) [] h = absurd (omega (arith, h))
number_and (x ∷ xs) (y ∷ ys) h =
    sym (and_step (number (x ∷ xs)) (number (y ∷ ys))
    ∙ rw (number_half x xs, number_half y ys, number_odd x xs, number_odd y ys, bit_min x y, sym (number_and xs ys (omega (arith, h)))) (omega arith))

pub number_or : (xs ys : List Bool) → length xs ≡ length ys → number (pairwise (λ x y. x || y) xs ys) ≡ bit_or (number xs) (number ys)
number_or [] [] h = refl
number_or [] (y ∷ ys) h = absurd (omega (arith, h))
number_or (x ∷ xs) [] h = absurd (omega (arith, h))
number_or (x ∷ xs) (y ∷ ys) h =
    sym (or_step (number (x ∷ xs)) (number (y ∷ ys))
    ∙ rw (number_half x xs, number_half y ys, number_odd x xs, number_odd y ys, bit_max x y, sym (number_or xs ys (omega (arith, h)))) (omega arith))

bit_differ : (x y : Bool) → differ_digits (bit x) (bit y) ≡ bit (differ x y)
bit_differ true true = refl
bit_differ true false = refl
bit_differ false true = refl
bit_differ false false = refl

pub number_xor : (xs ys : List Bool) → length xs ≡ length ys → number (pairwise differ xs ys) ≡ bit_xor (number xs) (number ys)
number_xor [] [] h = refl
number_xor [] (y ∷ ys) h = absurd (omega (arith, h))
number_xor (x ∷ xs) [] h = absurd (omega (arith, h))
number_xor (x ∷ xs) (y ∷ ys) h =
    sym (xor_step (number (x ∷ xs)) (number (y ∷ ys))
    ∙ rw (number_half x xs, number_half y ys, number_odd x xs, number_odd y ys, bit_differ x y, sym (number_xor xs ys (omega (arith, h)))) (omega arith))

-- the k low bits, and the others
pub wrap_double : (k n b : ℕ) → b ≤ 1 → wrap (suc k) (b + 2 * n) ≡ b + 2 * wrap k n
wrap_double k n b h =
    let e : suc k ≡ k + 1 = omega arith in
    let low : (b + 2 * n) % 2 ≡ b = omega arith in
    let high : (b + 2 * n) / 2 ≡ n = omega arith in
    ap (λ j. (b + 2 * n) % 2 ^ j) e ∙ mod-pow-add (b + 2 * n) k 1 ∙ rw (low, high) (omega arith)

pub number_take : (k : ℕ) (xs : List Bool) → number (take k xs) ≡ wrap k (number xs)
number_take zero xs = rw (pow-zero 2) (omega (arith, mod-one (number xs)))
number_take (suc k) [] = sym (zero-mod (2 ^ suc k))
number_take (suc k) (x ∷ xs) = omega (arith, number_take k xs, wrap_double k (number xs) (bit x) (bit_small x))

pub number_drop : (k : ℕ) (xs : List Bool) → number (drop k xs) ≡ number xs / 2 ^ k
number_drop zero xs = rw (pow-zero 2) (omega arith)
number_drop (suc k) [] = sym (zero-div (2 ^ suc k))
number_drop (suc k) (x ∷ xs) =
    let e : 1 + k ≡ suc k = omega arith in
    number_drop k xs ∙ ap (λ n. n / 2 ^ k) (sym (number_half x xs)) ∙ shr-shr (number (x ∷ xs)) 1 k ∙ ap (λ j. number (x ∷ xs) / 2 ^ j) e

pub number_zeros : (n : ℕ) → number (replicate n false) ≡ 0
number_zeros zero = refl
number_zeros (suc n) = omega (arith, number_zeros n)

-- what is left of a number below 2^n and a multiple of 2^n
pub wrap_from : (n x q y : ℕ) → x < 2 ^ n → x + 2 ^ n * q ≡ y → x ≡ wrap n y
wrap_from n x q y h e = sym (ap (λ z. z % 2 ^ n) (sym e) ∙ add-mul-mod_self_left x (2 ^ n) q ∙ mod-eq_of_lt h)

pub not_empty : (n : ℕ) (b : Bool) → b ≡ eqb n 0 → b ≡ false → 0 < n
not_empty zero b e h = absurd (cc (sym e ∙ h))
not_empty (suc n) b e h = omega arith
