-- Fractions whose parts fit 62 bits: their sums and products fit, and one divisor on words reduces a sum.
use Rattle.std.proofs.Common.{◌≡◌, ℕ, suc, ◌+◌, ◌*◌, ◌/◌, ◌<◌, ◌≤◌, ◌^◌, ◌≢◌, Bool, true, false, ◌&&◌, nat_lt, nat_eq, IsTrue, [], ◌∷◌, refl, sym, ap, ◌∙◌, subst, arith, ℤ, pos, negsuc, unsigned_abs, int_lt, to_z, of_z}
use Rattle.std.proofs.lemmas.Int.{ints, to_z-of_z, fits_signed_from_abs}
use Rattle.std.specs.Int.RustNames.{FitsSigned}
use mir.Syntax.{w64, w128}
use Rattle.std.proofs.lemmas.Bool.Decides.{nat_tests}
use Rattle.std.proofs.lemmas.Nat.{mul-lt}
use Rattle.std.proofs.lemmas.Nat.Gcd.{dvd_trans, same_from_IsGcd}
use Prim.Native.Nat.{◌∣◌}
use native.Mathlib.Nat.{mul_comm, div-mul_cancel, div-le_self, dvd-mul_left, dvd-mul_left_of_dvd, dvd-mul_right_of_dvd}
use lib.IntN.{neg_ℤ, ◌+ℤ◌, ◌*ℤ◌, +ℤ_comm}
use Rattle.rationals.specs.Gcd.{gcd, gcd_is, gcd_left, gcd_right, gcd_quotients}
use Rattle.rationals.specs.Rational.{ℚ, signed, zero_ℚ, inv_ℚ, frac, ◌*ℚ◌, ◌+ℚ◌}
use Rattle.rationals.proofs.Ring.{var, ◌⊕◌, ◌⊗◌, ◌⊝◌, minus}
use Rattle.rationals.proofs.RingZ.{ring-ℤ, neg-mul}
use Rattle.rationals.proofs.Rationals.{den_pos, coprime}
use Rattle.rationals.proofs.FieldQ.{abs_pos, zero_of_num}
use Rattle.rationals.proofs.OrderQ.{zero_num}
use Rattle.fraction128.specs.Exact.{with_sign, small, fits, narrow, sum_fits, common, left_over, right_over}
use Rattle.fraction128.proofs.Parts.{not_below, sign_is}
use Rattle.fraction128.proofs.Exactly.{divides_one, coprime_of, divides_factor, abs_times, mul_top, mul_bottom, mul_fits, sum_value}

-- ---- what divides a sum and one of its parts divides the other
multiple : (z : ℤ) (k : ℕ) → k ∣ unsigned_abs z → z ≡ signed z (unsigned_abs z / k) *ℤ pos k
multiple (pos n) k h = ap pos (sym (div-mul_cancel k h))
multiple (negsuc n) k h = ap (λ m. neg_ℤ (pos m)) (sym (div-mul_cancel k h)) ∙ sym (neg-mul (pos (suc n / k)) (pos k))

divides : (z u : ℤ) (k : ℕ) → z ≡ u *ℤ pos k → k ∣ unsigned_abs z
divides z u k e = subst (λ n. k ∣ n) (sym (ap unsigned_abs e ∙ abs_times u k)) (dvd-mul_left k (unsigned_abs u))

take_out : (z w u v k : ℤ) → z +ℤ w ≡ u *ℤ k → w ≡ v *ℤ k → z ≡ (u +ℤ neg_ℤ v) *ℤ k
take_out z w u v k e f =
    ring-ℤ (z ∷ w ∷ []) (var 0) (var 0 ⊕ var 1 ⊝ var 1) tt
    ∙ ap (λ x. x +ℤ neg_ℤ w) e ∙ ap (λ x. u *ℤ k +ℤ neg_ℤ x) f
    ∙ ring-ℤ (u ∷ v ∷ k ∷ []) (var 0 ⊗ var 2 ⊝ var 1 ⊗ var 2) ((var 0 ⊕ minus (var 1)) ⊗ var 2) tt

pub divides_part : (z w : ℤ) (k : ℕ) → k ∣ unsigned_abs (z +ℤ w) → k ∣ unsigned_abs w → k ∣ unsigned_abs z
divides_part z w k h j =
    divides z (signed (z +ℤ w) (unsigned_abs (z +ℤ w) / k) +ℤ neg_ℤ (signed w (unsigned_abs w / k))) k
    (take_out z w (signed (z +ℤ w) (unsigned_abs (z +ℤ w) / k)) (signed w (unsigned_abs w / k)) (pos k) (multiple (z +ℤ w) k h) (multiple w k j))

-- ---- a sum over the least common denominator x y g has with it only the divisors that it has with g
sum_coprime : (n m : ℤ) (x y g k : ℕ) → gcd (unsigned_abs n) (x * g) ≡ 1 → gcd x y ≡ 1 → k ∣ unsigned_abs (n *ℤ pos y +ℤ m *ℤ pos x) → gcd x k ≡ 1
sum_coprime n m x y g k e f h = coprime_of x k (λ i p q.
    let s : i ∣ unsigned_abs (m *ℤ pos x) = subst (λ a. i ∣ a) (sym (abs_times m x)) (dvd-mul_left_of_dvd i p (unsigned_abs m)) in
    let a : i ∣ unsigned_abs (n *ℤ pos y) = divides_part (n *ℤ pos y) (m *ℤ pos x) i (dvd_trans i q h) s in
    let c : gcd y i ≡ 1 = coprime_of y i (λ j v w. divides_one x y j f (dvd_trans j w p) v) in
    divides_one (unsigned_abs n) (x * g) i e (divides_factor y i (unsigned_abs n) c (subst (λ b. i ∣ b) (abs_times n y) a)) (dvd-mul_right_of_dvd i p g))

gcd_comm_one : (a b : ℕ) → gcd a b ≡ 1 → gcd b a ≡ 1
gcd_comm_one a b e = coprime_of b a (λ k h j. divides_one a b k e j h)

same_gcd : (a b c : ℕ) → c ∣ b → ((k : ℕ) → k ∣ a → k ∣ b → k ∣ c) → gcd a b ≡ gcd a c
same_gcd a b c h f = same_from_IsGcd a c (gcd a b) (gcd a c)
    ((gcd_is a b).0, f (gcd a b) (gcd_is a b).0 (gcd_is a b).1, λ k p q. (gcd_is a b).2 k p (dvd_trans k q h)) (gcd_is a c)

pub sum_gcd : (n m : ℤ) (x y g : ℕ) → gcd (unsigned_abs n) (x * g) ≡ 1 → gcd (unsigned_abs m) (y * g) ≡ 1 → gcd x y ≡ 1 →
    gcd (unsigned_abs (n *ℤ pos y +ℤ m *ℤ pos x)) (x * (y * g)) ≡ gcd (unsigned_abs (n *ℤ pos y +ℤ m *ℤ pos x)) g
sum_gcd n m x y g e f h = same_gcd (unsigned_abs (n *ℤ pos y +ℤ m *ℤ pos x)) (x * (y * g)) g (dvd-mul_left_of_dvd g (dvd-mul_left g y) x) (λ k p q.
    let c : gcd x k ≡ 1 = sum_coprime n m x y g k e h p in
    let d : gcd y k ≡ 1 = sum_coprime m n y x g k f (gcd_comm_one x y h) (subst (λ z. k ∣ unsigned_abs z) (+ℤ_comm (n *ℤ pos y) (m *ℤ pos x)) p) in
    divides_factor y k g d (subst (λ a. k ∣ a) (mul_comm y g) (divides_factor x k (y * g) c (subst (λ a. k ∣ a) (mul_comm x (y * g)) q))))

-- the divisor of a sum of two numbers and their least common denominator
pub sum_divisor : (q r : ℚ) → gcd (unsigned_abs (left_over q r +ℤ right_over q r)) (common q r) ≡ gcd (unsigned_abs (left_over q r +ℤ right_over q r)) (gcd q.den r.den)
sum_divisor q r =
    let g = gcd q.den r.den in let x = q.den / gcd q.den r.den in let y = r.den / gcd q.den r.den in
    let b : x * g ≡ q.den = gcd_left q.den r.den in let d : y * g ≡ r.den = gcd_right q.den r.den in
    ap (λ n. gcd (unsigned_abs (left_over q r +ℤ right_over q r)) (x * n)) (sym d)
    ∙ sum_gcd q.num r.num x y g (ap (gcd (unsigned_abs q.num)) b ∙ coprime q) (ap (gcd (unsigned_abs r.num)) d ∙ coprime r) (gcd_quotients q.den r.den (den_pos r))

-- ---- divisors
one_divides : gcd 1 1 ≡ 1
unfolding gcd
one_divides = refl

pub gcd-one : (a : ℕ) → gcd a 1 ≡ 1
gcd-one a = coprime_of a 1 (λ k h j. divides_one 1 1 k one_divides j j)

-- ---- the parts of a narrow fraction
and_true : (a b : Bool) → (a && b) ≡ true → (a ≡ true) × (b ≡ true)
and_true true b e = (refl, e)
and_true false b e = absurd cc

pub narrow_num : (q : ℚ) → narrow q ≡ true → unsigned_abs q.num < 2 ^ 62
narrow_num q h = let e = (and_true (nat_lt (unsigned_abs q.num) (2 ^ 62)) (nat_lt q.den (2 ^ 62)) h).0 in grind (arith, nat_tests)

pub narrow_den : (q : ℚ) → narrow q ≡ true → q.den < 2 ^ 62
narrow_den q h = let e = (and_true (nat_lt (unsigned_abs q.num) (2 ^ 62)) (nat_lt q.den (2 ^ 62)) h).1 in grind (arith, nat_tests)

-- ---- and of what is computed from them
pub product_below : (a b : ℕ) → a < 2 ^ 62 → b < 2 ^ 62 → a * b < 2 ^ 124
product_below a b h k = mul-lt a b (2 ^ 62) (2 ^ 62) h k

pub quotient_below : (a k : ℕ) → a < 2 ^ 62 → a / k < 2 ^ 62
quotient_below a k h = let e = div-le_self a k in omega arith

pub abs_sum : (z w : ℤ) → unsigned_abs (z +ℤ w) ≤ unsigned_abs z + unsigned_abs w
abs_sum z w = omega (arith, ints)

pub sum_below : (z w : ℤ) → unsigned_abs z < 2 ^ 124 → unsigned_abs w < 2 ^ 124 → unsigned_abs (z +ℤ w) < 2 ^ 125
sum_below z w h k = let e = abs_sum z w in omega arith

small_below : (n : ℕ) → n < 2 ^ 125 → small n ≡ true
small_below n h = grind (arith, nat_tests)

four_true : (a b c d : Bool) → a ≡ true → b ≡ true → c ≡ true → d ≡ true → (a && (b && (c && d))) ≡ true
four_true true b c d e f g h = three b c d f g h
  where
    three : (b c d : Bool) → b ≡ true → c ≡ true → d ≡ true → (b && (c && d)) ≡ true
    three true true d f g h = h
    three true false d f g h = g
    three false c d f g h = f
four_true false b c d e f g h = e

over_below : (z : ℤ) (d k : ℕ) → unsigned_abs z < 2 ^ 62 → d < 2 ^ 62 → unsigned_abs (z *ℤ pos (d / k)) < 2 ^ 124
over_below z d k h j = subst (λ n. n < 2 ^ 124) (sym (abs_times z (d / k))) (product_below (unsigned_abs z) (d / k) h (quotient_below d k j))

pub narrow_left : (q r : ℚ) → narrow q ≡ true → narrow r ≡ true → unsigned_abs (left_over q r) < 2 ^ 124
narrow_left q r h k = over_below q.num r.den (gcd q.den r.den) (narrow_num q h) (narrow_den r k)

pub narrow_right : (q r : ℚ) → narrow q ≡ true → narrow r ≡ true → unsigned_abs (right_over q r) < 2 ^ 124
narrow_right q r h k = over_below r.num q.den (gcd q.den r.den) (narrow_num r k) (narrow_den q h)

pub narrow_common : (q r : ℚ) → narrow q ≡ true → narrow r ≡ true → common q r < 2 ^ 124
narrow_common q r h k = product_below (q.den / gcd q.den r.den) r.den (quotient_below q.den (gcd q.den r.den) (narrow_den q h)) (narrow_den r k)

up : (n : ℕ) → n < 2 ^ 124 → n < 2 ^ 125
up n h = omega arith

pub narrow_sum_fits : (q r : ℚ) → narrow q ≡ true → narrow r ≡ true → sum_fits q r ≡ true
narrow_sum_fits q r h k =
    four_true (small (common q r)) (small (unsigned_abs (left_over q r))) (small (unsigned_abs (right_over q r))) (small (unsigned_abs (left_over q r +ℤ right_over q r)))
    (small_below (common q r) (up (common q r) (narrow_common q r h k)))
    (small_below (unsigned_abs (left_over q r)) (up (unsigned_abs (left_over q r)) (narrow_left q r h k)))
    (small_below (unsigned_abs (right_over q r)) (up (unsigned_abs (right_over q r)) (narrow_right q r h k)))
    (small_below (unsigned_abs (left_over q r +ℤ right_over q r)) (sum_below (left_over q r) (right_over q r) (narrow_left q r h k) (narrow_right q r h k)))

both_small : (a b : Bool) → a ≡ true → b ≡ true → (a && b) ≡ true
both_small true b e f = f
both_small false b e f = e

mul_top_below : (q r : ℚ) → narrow q ≡ true → narrow r ≡ true → mul_top q r < 2 ^ 124
mul_top_below q r h k = product_below (unsigned_abs q.num / gcd (unsigned_abs q.num) r.den) (unsigned_abs r.num / gcd (unsigned_abs r.num) q.den)
    (quotient_below (unsigned_abs q.num) (gcd (unsigned_abs q.num) r.den) (narrow_num q h)) (quotient_below (unsigned_abs r.num) (gcd (unsigned_abs r.num) q.den) (narrow_num r k))

mul_bottom_below : (q r : ℚ) → narrow q ≡ true → narrow r ≡ true → mul_bottom q r < 2 ^ 124
mul_bottom_below q r h k = product_below (q.den / gcd (unsigned_abs r.num) q.den) (r.den / gcd (unsigned_abs q.num) r.den)
    (quotient_below q.den (gcd (unsigned_abs r.num) q.den) (narrow_den q h)) (quotient_below r.den (gcd (unsigned_abs q.num) r.den) (narrow_den r k))

far_up : (n : ℕ) → n < 2 ^ 124 → n < 2 ^ 127
far_up n h = omega arith

pub narrow_top : (q r : ℚ) → narrow q ≡ true → narrow r ≡ true → mul_top q r < 2 ^ 127
narrow_top q r h k = far_up (mul_top q r) (mul_top_below q r h k)

pub narrow_bottom : (q r : ℚ) → narrow q ≡ true → narrow r ≡ true → mul_bottom q r < 2 ^ 127
narrow_bottom q r h k = far_up (mul_bottom q r) (mul_bottom_below q r h k)

pub narrow_product_fits : (q r : ℚ) → narrow q ≡ true → narrow r ≡ true → fits (q *ℚ r) ≡ true
narrow_product_fits q r h k =
    mul_fits q r (int_lt q.num (pos 0)) (int_lt r.num (pos 0)) (sign_is q.num) (sign_is r.num)
    ∙ both_small (small (mul_top q r)) (small (mul_bottom q r))
    (small_below (mul_top q r) (up (mul_top q r) (mul_top_below q r h k))) (small_below (mul_bottom q r) (up (mul_bottom q r) (mul_bottom_below q r h k)))

-- ---- the inverse
signed_is : (z : ℤ) (m : ℕ) → with_sign (int_lt z (pos 0)) m ≡ signed z m
signed_is (pos n) m = ap (λ s. with_sign s m) (not_below n)
signed_is (negsuc n) m = refl

pub inverse_value : (q : ℚ) (s : Bool) (b a : ℕ) → s ≡ int_lt q.num (pos 0) → b ≡ q.den → a ≡ unsigned_abs q.num → frac (with_sign s b) a ≡ inv_ℚ q
unfolding inv_ℚ
inverse_value q s b a e f g =
    ap (λ x. frac (with_sign x b) a) e ∙ ap (λ x. frac (with_sign (int_lt q.num (pos 0)) x) a) f
    ∙ ap (λ x. frac (with_sign (int_lt q.num (pos 0)) q.den) x) g ∙ ap (λ z. frac z (unsigned_abs q.num)) (signed_is q.num q.den)

pub inverse_size : (q : ℚ) (a : ℕ) → a ≡ unsigned_abs q.num → q ≢ zero_ℚ → 0 < a
inverse_size q a e h = subst (λ n. 0 < n) (sym e) (abs_pos q.num (λ z. h (zero_of_num q z)))

pub inverse_lowest : (q : ℚ) (b a : ℕ) → b ≡ q.den → a ≡ unsigned_abs q.num → gcd b a ≡ 1
inverse_lowest q b a e f = ap (λ n. gcd n a) e ∙ ap (λ n. gcd q.den n) f ∙ gcd_comm_one (unsigned_abs q.num) q.den (coprime q)

-- ---- zero
zero_size : (z : ℤ) → unsigned_abs z ≡ 0 → z ≡ pos 0
zero_size (pos n) e = ap pos e
zero_size (negsuc n) e = absurd (omega arith)

zero_if : (q : ℚ) (a : ℕ) → a ≡ unsigned_abs q.num → a ≡ 0 → q ≡ zero_ℚ
zero_if q a e f = zero_of_num q (zero_size q.num (sym e ∙ f))

if_zero : (q : ℚ) (a : ℕ) → a ≡ unsigned_abs q.num → q ≡ zero_ℚ → a ≡ 0
if_zero q a e f = e ∙ ap (λ (x : ℚ). unsigned_abs x.num) f ∙ ap unsigned_abs zero_num

pub zero_test : (q : ℚ) (a : ℕ) → a ≡ unsigned_abs q.num → (IsTrue (nat_eq a 0) → q ≡ zero_ℚ) × (q ≡ zero_ℚ → IsTrue (nat_eq a 0))
zero_test q a e = (λ h. zero_if q a e (test_is a h), λ f. test_of a (if_zero q a e f))
  where
    test_is : (n : ℕ) → IsTrue (nat_eq n 0) → n ≡ 0
    test_is n h = grind (arith, nat_tests)

    test_of : (n : ℕ) → n ≡ 0 → IsTrue (nat_eq n 0)
    test_of n h = grind (arith, nat_tests)

-- ---- words
pub word_fits : (z : ℤ) (q : ℚ) → z ≡ q.num → narrow q ≡ true → FitsSigned w64 z
word_fits z q e h = fits_signed_from_abs w64 z (let k = narrow_num q h in let f : unsigned_abs z ≡ unsigned_abs q.num = ap unsigned_abs e in omega arith)

-- ---- the steps of a narrow sum
pub back_124 : (z : ℤ) → unsigned_abs z < 2 ^ 125 → to_z w128 (of_z w128 z) ≡ z
back_124 z h = to_z-of_z w128 z (fits_signed_from_abs w128 z (omega arith))

pub sum_back : (l r m n : ℤ) → unsigned_abs l < 2 ^ 124 → unsigned_abs r < 2 ^ 124 → l ≡ m → r ≡ n →
    to_z w128 (of_z w128 (to_z w128 (of_z w128 l) +ℤ to_z w128 (of_z w128 r))) ≡ m +ℤ n
sum_back l r m n h k e f =
    ap (λ z. to_z w128 (of_z w128 (z +ℤ to_z w128 (of_z w128 r)))) (back_124 l (up (unsigned_abs l) h))
    ∙ ap (λ z. to_z w128 (of_z w128 (l +ℤ z))) (back_124 r (up (unsigned_abs r) k))
    ∙ back_124 (l +ℤ r) (sum_below l r h k)
    ∙ ap (λ z. z +ℤ r) e ∙ ap (λ z. m +ℤ z) f

pub sum_divides : (q r : ℚ) (z : ℤ) (n g k d : ℕ) → z ≡ left_over q r +ℤ right_over q r → n ≡ unsigned_abs z → g ≡ gcd q.den r.den → k ≡ common q r → d ≡ gcd n g → d ≡ gcd (unsigned_abs z) k
sum_divides q r z n g k d e f h i j =
    j ∙ ap (λ m. gcd m g) (f ∙ ap unsigned_abs e) ∙ ap (gcd (unsigned_abs (left_over q r +ℤ right_over q r))) h ∙ sym (sum_divisor q r)
    ∙ ap (λ y. gcd (unsigned_abs y) (common q r)) (sym e) ∙ ap (gcd (unsigned_abs z)) (sym i)

pub sum_result : (q r f : ℚ) (z : ℤ) (k : ℕ) → z ≡ left_over q r +ℤ right_over q r → k ≡ common q r → f ≡ frac z k → f ≡ q +ℚ r
sum_result q r f z k e i h = h ∙ ap (λ y. frac y k) e ∙ ap (frac (left_over q r +ℤ right_over q r)) i ∙ sum_value q r
