-- Lowest terms of products and quotients by the common divisors, and the answers that follow.
use Rattle.std.proofs.Common.{◌≡◌, ℕ, zero, suc, ◌*◌, ◌/◌, ◌<◌, ◌^◌, Bool, true, false, cond, ◌&&◌, [], ◌∷◌, refl, sym, ap, ◌∙◌, subst, arith, ℤ, pos, negsuc, unsigned_abs, int_lt, Option, Some, None, Result, Ok, Err}
use Rattle.std.proofs.lemmas.Nat.Gcd.{dvd_trans}
use Prim.Native.Nat.{◌∣◌}
use native.Mathlib.Nat.{pos_of_dvd_of_pos, mul_comm, eq-one_of_dvd-one, dvd-zero, dvd-mul_right}
use lib.IntN as IntN
use lib.IntN.{neg_ℤ, ◌*ℤ◌, ◌+ℤ◌, zero-*ℤ}
use Rattle.rationals.specs.Gcd.{gcd, gcd_is, gcd_left, gcd_right, gcd_quotients, quotient_pos, quotient_cross, dvd_of_coprime}
use Rattle.rationals.specs.Rational.{ℚ, frac, ◌*ℚ◌, ◌+ℚ◌, low_of}
use Rattle.rationals.proofs.RingZ.{neg-mul, ring-ℤ}
use Rattle.rationals.proofs.Rationals.{frac_is, frac_eq, den_pos, coprime}
use Rattle.rationals.proofs.RingQ.{pos_mul}
use Rattle.fraction128.specs.Exact.{with_sign, small, fits, ratio, differ, is_zero_ℤ, common, left_over, right_over}
use Rattle.rationals.proofs.Ring.{var, ◌⊕◌, ◌⊗◌}
use Rattle.fraction128.proofs.Parts.{not_below, sign_is}
use Rattle.std.proofs.lemmas.Bool.Decides.{nat_tests}

pub divides_one : (a b k : ℕ) → gcd a b ≡ 1 → k ∣ a → k ∣ b → k ≡ 1
divides_one a b k e h j = eq-one_of_dvd-one (subst (λ x. k ∣ x) e ((gcd_is a b).2 k h j))

pub coprime_of : (a b : ℕ) → ((k : ℕ) → k ∣ a → k ∣ b → k ≡ 1) → gcd a b ≡ 1
coprime_of a b f = f (gcd a b) (gcd_is a b).0 (gcd_is a b).1

pub coprime_comm : (a b : ℕ) → gcd a b ≡ 1 → gcd b a ≡ 1
coprime_comm a b e = coprime_of b a (λ k h j. divides_one a b k e j h)

pub divides_factor : (x k y : ℕ) → gcd x k ≡ 1 → k ∣ y * x → k ∣ y
divides_factor x k zero e h = dvd-zero k
divides_factor x k (suc y) e h = dvd_of_coprime x k (suc y) e (omega arith) h

pub coprime_mul : (x y z : ℕ) → gcd x z ≡ 1 → gcd y z ≡ 1 → gcd (x * y) z ≡ 1
coprime_mul x y z e f = coprime_of (x * y) z (λ k h j.
    let c : gcd x k ≡ 1 = coprime_of x k (λ i p q. divides_one x z i e p (dvd_trans i q j)) in
    divides_one y z k f (divides_factor x k y c (subst (λ n. k ∣ n) (mul_comm x y) h)) j)

coprime_parts : (x a z b : ℕ) → gcd a b ≡ 1 → x ∣ a → z ∣ b → gcd x z ≡ 1
coprime_parts x a z b e h j = coprime_of x z (λ k p q. divides_one a b k e (dvd_trans k p h) (dvd_trans k q j))

part_left : (a d : ℕ) → a / gcd a d ∣ a
part_left a d = subst (λ n. a / gcd a d ∣ n) (gcd_left a d) (dvd-mul_right (a / gcd a d) (gcd a d))

part_right : (a d : ℕ) → d / gcd a d ∣ d
part_right a d = subst (λ n. d / gcd a d ∣ n) (gcd_right a d) (dvd-mul_right (d / gcd a d) (gcd a d))

pub mul_lowest : (a b c d : ℕ) → 0 < b → 0 < d → gcd a b ≡ 1 → gcd c d ≡ 1 → gcd (a / gcd a d * (c / gcd c b)) (b / gcd c b * (d / gcd a d)) ≡ 1
mul_lowest a b c d hb hd e f =
    let x = a / gcd a d in let w = d / gcd a d in let y = c / gcd c b in let z = b / gcd c b in
    let xz : gcd (a / gcd a d) (b / gcd c b) ≡ 1 = coprime_parts _ a _ b e (part_left a d) (part_right c b) in
    let yw : gcd (c / gcd c b) (d / gcd a d) ≡ 1 = coprime_parts _ c _ d f (part_left c b) (part_right a d) in
    let xw : gcd (a / gcd a d) (d / gcd a d) ≡ 1 = gcd_quotients a d hd in
    let yz : gcd (c / gcd c b) (b / gcd c b) ≡ 1 = gcd_quotients c b hb in
    coprime_comm (z * w) (x * y) (coprime_mul z w (x * y) (coprime_comm (x * y) z (coprime_mul x y z xz yz)) (coprime_comm (x * y) w (coprime_mul x y w xw yw)))

true_false : true ≡ false → ⊥
true_false e = cc

-- ---- signs
pub signs_mul : (s t : Bool) (m n : ℕ) → with_sign s m *ℤ with_sign t n ≡ with_sign (differ s t) (m * n)
signs_mul true true m n = neg-mul (pos m) (neg_ℤ (pos n)) ∙ ap neg_ℤ (IntN.*ℤ_comm (pos m) (neg_ℤ (pos n)) ∙ neg-mul (pos n) (pos m)) ∙ twice (n * m) ∙ ap pos (mul_comm n m)
  where
    twice : (k : ℕ) → neg_ℤ (neg_ℤ (pos k)) ≡ pos k
    twice zero = refl
    twice (suc k) = refl
signs_mul true false m n = neg-mul (pos m) (pos n)
signs_mul false true m n = IntN.*ℤ_comm (pos m) (neg_ℤ (pos n)) ∙ neg-mul (pos n) (pos m) ∙ ap (λ k. neg_ℤ (pos k)) (mul_comm n m)
signs_mul false false m n = refl

pub sign_times : (s : Bool) (m k : ℕ) → with_sign s m *ℤ pos k ≡ with_sign s (m * k)
sign_times true m k = neg-mul (pos m) (pos k)
sign_times false m k = refl

pub abs_sign : (s : Bool) (m : ℕ) → unsigned_abs (with_sign s m) ≡ m
abs_sign true zero = refl
abs_sign true (suc m) = refl
abs_sign false m = refl

-- the number of a sign and sizes in lowest terms has just these
pub lowest_num : (s : Bool) (m k : ℕ) → 0 < k → gcd m k ≡ 1 → ((frac (with_sign s m) k).num ≡ with_sign s m) × ((frac (with_sign s m) k).den ≡ k)
lowest_num s m k h e =
    let l = low_of (with_sign s m) k h (ap (λ n. gcd n k) (abs_sign s m) ∙ e) in
    let r : ℚ = record { num = with_sign s m; den = k; low = l } in
    let p : frac (with_sign s m) k ≡ record { num = with_sign s m; den = k; low = l } = frac_is (with_sign s m) k r h refl in
    (ap (λ (q : ℚ). q.num) p, ap (λ (q : ℚ). q.den) p)

pub fits_is : (s : Bool) (m k : ℕ) (q : ℚ) → 0 < k → gcd m k ≡ 1 → frac (with_sign s m) k ≡ q → fits q ≡ (small m && small k)
fits_is s m k q h e p =
    let l = lowest_num s m k h e in
    ap fits (sym p) ∙ ap (λ n. small (unsigned_abs n) && small (frac (with_sign s m) k).den) l.0
    ∙ ap (λ n. small n && small (frac (with_sign s m) k).den) (abs_sign s m) ∙ ap (λ n. small m && small n) l.1

sizes : (x g y h z w : ℕ) → x * y * (z * h * (w * g)) ≡ x * g * (y * h) * (z * w)
sizes x g y h z w = omega arith

pub mul_value : (q r : ℚ) (s t : Bool) → with_sign s (unsigned_abs q.num) ≡ q.num → with_sign t (unsigned_abs r.num) ≡ r.num →
    let a = unsigned_abs q.num in let b = q.den in let c = unsigned_abs r.num in let d = r.den in
    frac (with_sign (differ s t) (a / gcd a d * (c / gcd c b))) (b / gcd c b * (d / gcd a d)) ≡ q *ℚ r
unfolding ◌*ℚ◌
mul_value q r s t e f =
    let a = unsigned_abs q.num in let b = q.den in let c = unsigned_abs r.num in let d = r.den in
    let x = a / gcd a d in let g = gcd a d in let w = d / gcd a d in let y = c / gcd c b in let z = b / gcd c b in let h = gcd c b in
    frac_eq _ _ (z * w) (b * d) (pos_mul z w (quotient_pos c b (den_pos q)) (quotient_pos a d (den_pos r))) (pos_mul b d (den_pos q) (den_pos r))
    (sign_times (differ s t) (x * y) (b * d)
    ∙ ap (with_sign (differ s t))
    (ap (λ n. x * y * (n * d)) (sym (gcd_right c b)) ∙ ap (λ n. x * y * (z * h * n)) (sym (gcd_right a d)) ∙ sizes x g y h z w
    ∙ ap (λ n. n * (y * h) * (z * w)) (gcd_left a d) ∙ ap (λ n. a * n * (z * w)) (gcd_left c b))
    ∙ sym (sign_times (differ s t) (a * c) (z * w))
    ∙ ap (λ n. n *ℤ pos (z * w)) (sym (signs_mul s t a c) ∙ ap (λ n. n *ℤ with_sign t c) e ∙ ap (λ n. q.num *ℤ n) f))

-- ---- the answers
abbrev pub mul_top : ℚ → ℚ → ℕ
mul_top q r = unsigned_abs q.num / gcd (unsigned_abs q.num) r.den * (unsigned_abs r.num / gcd (unsigned_abs r.num) q.den)

abbrev pub mul_bottom : ℚ → ℚ → ℕ
mul_bottom q r = q.den / gcd (unsigned_abs r.num) q.den * (r.den / gcd (unsigned_abs q.num) r.den)

pub mul_bottom_pos : (q r : ℚ) → 0 < mul_bottom q r
mul_bottom_pos q r = pos_mul _ _ (quotient_pos (unsigned_abs r.num) q.den (den_pos q)) (quotient_pos (unsigned_abs q.num) r.den (den_pos r))

pub mul_coprime : (q r : ℚ) → gcd (mul_top q r) (mul_bottom q r) ≡ 1
mul_coprime q r = mul_lowest (unsigned_abs q.num) q.den (unsigned_abs r.num) r.den (den_pos q) (den_pos r) (coprime q) (coprime r)

pub mul_fits : (q r : ℚ) (s t : Bool) → with_sign s (unsigned_abs q.num) ≡ q.num → with_sign t (unsigned_abs r.num) ≡ r.num → fits (q *ℚ r) ≡ (small (mul_top q r) && small (mul_bottom q r))
mul_fits q r s t e f = fits_is (differ s t) (mul_top q r) (mul_bottom q r) (q *ℚ r) (mul_bottom_pos q r) (mul_coprime q r) (mul_value q r s t e f)

pub large : (n : ℕ) → (n < 2 ^ 128 → ⊥) → small n ≡ false
large n h = grind (arith, nat_tests)

and_false : (b c : Bool) → b ≡ false → (b && c) ≡ false
and_false b c e = ap (λ x. x && c) e

false_and : (b c : Bool) → c ≡ false → (b && c) ≡ false
false_and true c e = e
false_and false c e = refl

pub not_fit_top : (q r : ℚ) (s t : Bool) → with_sign s (unsigned_abs q.num) ≡ q.num → with_sign t (unsigned_abs r.num) ≡ r.num → (mul_top q r < 2 ^ 128 → ⊥) → fits (q *ℚ r) ≡ false
not_fit_top q r s t e f h = mul_fits q r s t e f ∙ and_false (small (mul_top q r)) (small (mul_bottom q r)) (large (mul_top q r) h)

pub not_fit_bottom : (q r : ℚ) (s t : Bool) → with_sign s (unsigned_abs q.num) ≡ q.num → with_sign t (unsigned_abs r.num) ≡ r.num → (mul_bottom q r < 2 ^ 128 → ⊥) → fits (q *ℚ r) ≡ false
not_fit_bottom q r s t e f h = mul_fits q r s t e f ∙ false_and (small (mul_top q r)) (small (mul_bottom q r)) (large (mul_bottom q r) h)

pub answered_false : {A : Type 0} (b : Bool) (x y : A) → b ≡ false → y ≡ cond b x y
answered_false b x y h = sym (ap (λ k. cond k x y) h)

pub answered_some : {E : Type 0} (b b' : Bool) (v v' f : ℚ) (e : Result ℚ E) (o : Option ℚ) → o ≡ cond b (Some v) None → o ≡ Some f → b' ≡ b → v ≡ v' → Ok f ≡ cond b' (Ok v') e
answered_some true b' v v' f e o h k l m = let x : f ≡ v' = cc in ap Ok x ∙ sym (ap (λ y. cond y (Ok v') e) l)
answered_some false b' v v' f e o h k l m = absurd cc

pub answered_none : {E : Type 0} (b b' : Bool) (v v' : ℚ) (e : E) (o : Option ℚ) → o ≡ cond b (Some v) None → o ≡ None → b' ≡ b → Err e ≡ cond b' (Ok v') (Err e)
answered_none true b' v v' e o h k l = absurd cc
answered_none false b' v v' e o h k l = sym (ap (λ y. cond y (Ok v') (Err e)) l)

pub built : (b b' : Bool) (v v' : ℚ) → b' ≡ b → v ≡ v' → cond b (Some v) None ≡ cond b' (Some v') None
built b b' v v' e f = ap (λ x. cond b (Some x) None) f ∙ ap (λ x. cond x (Some v') None) (sym e)

-- ---- a new fraction
differ_false : (s : Bool) → differ s false ≡ s
differ_false true = refl
differ_false false = refl

pub ratio_is : (n d : ℤ) → (is_zero_ℤ d ≡ true → ⊥) → frac (with_sign (differ (int_lt n (pos 0)) (int_lt d (pos 0))) (unsigned_abs n)) (unsigned_abs d) ≡ ratio n d
ratio_is n (pos d) h = ap (λ s. frac (with_sign (differ (int_lt n (pos 0)) s) (unsigned_abs n)) d) (not_below d) ∙ ap (λ s. frac (with_sign s (unsigned_abs n)) d) (differ_false (int_lt n (pos 0))) ∙ ap (λ z. frac z d) (sign_is n)
ratio_is n (negsuc d) h = ap (λ z. frac z (suc d)) (flip n)
  where
    flip : (n : ℤ) → with_sign (differ (int_lt n (pos 0)) true) (unsigned_abs n) ≡ neg_ℤ n
    flip (pos n) = ap (λ s. with_sign (differ s true) n) (not_below n)
    flip (negsuc n) = refl

pub reduced_is : (s : Bool) (a b : ℕ) → 0 < b → frac (with_sign s (a / gcd a b)) (b / gcd a b) ≡ frac (with_sign s a) b
reduced_is s a b h =
    frac_eq _ _ (b / gcd a b) b (quotient_pos a b h) h
    (sign_times s (a / gcd a b) b ∙ ap (with_sign s) (sym (quotient_cross a b)) ∙ sym (sign_times s a (b / gcd a b)))

pub new_value : (n d : ℤ) → (is_zero_ℤ d ≡ true → ⊥) → 0 < unsigned_abs d →
    let a = unsigned_abs n in let b = unsigned_abs d in
    frac (with_sign (differ (int_lt n (pos 0)) (int_lt d (pos 0))) (a / gcd a b)) (b / gcd a b) ≡ ratio n d
new_value n d h p = reduced_is (differ (int_lt n (pos 0)) (int_lt d (pos 0))) (unsigned_abs n) (unsigned_abs d) p ∙ ratio_is n d h

pub new_fits : (n d : ℤ) → (is_zero_ℤ d ≡ true → ⊥) → 0 < unsigned_abs d →
    let a = unsigned_abs n in let b = unsigned_abs d in
    fits (ratio n d) ≡ (small (a / gcd a b) && small (b / gcd a b))
new_fits n d h p =
    let a = unsigned_abs n in let b = unsigned_abs d in
    fits_is (differ (int_lt n (pos 0)) (int_lt d (pos 0))) (a / gcd a b) (b / gcd a b) (ratio n d) (quotient_pos a b p) (gcd_quotients a b p) (new_value n d h p)

pub not_zero : (d : ℤ) → (d ≡ pos 0 → ⊥) → (is_zero_ℤ d ≡ true → ⊥) × (is_zero_ℤ d ≡ false) × (0 < unsigned_abs d)
not_zero (pos zero) h = absurd (h refl)
not_zero (pos (suc n)) h = (λ e. true_false (sym e), refl, omega arith)
not_zero (negsuc n) h = (λ e. true_false (sym e), refl, omega arith)

-- ---- sums
pub reduced_value : (n : ℤ) (d : ℕ) → 0 < d → frac (with_sign (int_lt n (pos 0)) (unsigned_abs n / gcd (unsigned_abs n) d)) (d / gcd (unsigned_abs n) d) ≡ frac n d
reduced_value n d h = reduced_is (int_lt n (pos 0)) (unsigned_abs n) d h ∙ ap (λ z. frac z d) (sign_is n)

pub common_pos : (q r : ℚ) → 0 < common q r
common_pos q r = pos_mul (q.den / gcd q.den r.den) r.den (quotient_pos' q.den r.den (den_pos q) (den_pos r)) (den_pos r)
  where
    quotient_pos' : (a b : ℕ) → 0 < a → 0 < b → 0 < a / gcd a b
    quotient_pos' a b ha hb = pos_of_dvd_of_pos (part_left a b) ha

sum_cross : (n m x y g : ℤ) → (n *ℤ y +ℤ m *ℤ x) *ℤ ((x *ℤ g) *ℤ (y *ℤ g)) ≡ (n *ℤ (y *ℤ g) +ℤ m *ℤ (x *ℤ g)) *ℤ (x *ℤ (y *ℤ g))
sum_cross n m x y g =
    let N = var 0 in let M = var 1 in let X = var 2 in let Y = var 3 in let G = var 4 in
    ring-ℤ (n ∷ m ∷ x ∷ y ∷ g ∷ []) ((N ⊗ Y ⊕ M ⊗ X) ⊗ ((X ⊗ G) ⊗ (Y ⊗ G))) ((N ⊗ (Y ⊗ G) ⊕ M ⊗ (X ⊗ G)) ⊗ (X ⊗ (Y ⊗ G))) tt

pub sum_value : (q r : ℚ) → frac (left_over q r +ℤ right_over q r) (common q r) ≡ q +ℚ r
unfolding ◌+ℚ◌
sum_value q r =
    let g = gcd q.den r.den in let x = q.den / gcd q.den r.den in let y = r.den / gcd q.den r.den in
    let b : x * g ≡ q.den = gcd_left q.den r.den in let d : y * g ≡ r.den = gcd_right q.den r.den in
    frac_eq _ _ (common q r) (q.den * r.den) (common_pos q r) (pos_mul q.den r.den (den_pos q) (den_pos r))
    (ap (λ k. (q.num *ℤ pos y +ℤ r.num *ℤ pos x) *ℤ pos (k * r.den)) (sym b) ∙ ap (λ k. (q.num *ℤ pos y +ℤ r.num *ℤ pos x) *ℤ pos (x * g * k)) (sym d)
    ∙ sum_cross q.num r.num (pos x) (pos y) (pos g)
    ∙ ap (λ k. (q.num *ℤ pos k +ℤ r.num *ℤ pos (x * g)) *ℤ pos (x * k)) d ∙ ap (λ k. (q.num *ℤ pos r.den +ℤ r.num *ℤ pos k) *ℤ pos (x * r.den)) b)

pub opt_some : {A : Type 0} (b : Bool) (v x : A) (o : Option A) → o ≡ cond b (Some v) None → o ≡ Some x → (b ≡ true) × (x ≡ v)
opt_some true v x o e f = (refl, cc)
opt_some false v x o e f = absurd cc

pub all_four : (a b c d : Bool) → a ≡ true → b ≡ true → c ≡ true → (a && (b && (c && d))) ≡ d
all_four a b c d e f g = ap (λ x. x && (b && (c && d))) e ∙ ap (λ x. x && (c && d)) f ∙ ap (λ x. x && d) g

pub abs_times : (z : ℤ) (k : ℕ) → unsigned_abs (z *ℤ pos k) ≡ unsigned_abs z * k
abs_times (pos n) k = refl
abs_times (negsuc n) k = abs_sign true (suc n * k)

pub answered_true : {A : Type 0} (b : Bool) (x y z : A) → b ≡ true → z ≡ x → z ≡ cond b x y
answered_true b x y z h e = e ∙ sym (ap (λ k. cond k x y) h)
