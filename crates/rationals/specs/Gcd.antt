-- the greatest common divisor, which computes, and what lowest terms need of it.
use Rattle.std.proofs.Common.{◌≡◌, ℕ, zero, suc, ◌+◌, ◌*◌, ◌/◌, ◌%◌, ◌<◌, sym, ap, ◌∙◌, subst, arith}
use Rattle.std.specs.Int.{IsGcd}
use Rattle.std.proofs.lemmas.Nat.{mod-mul-add, div-add-mod', mod_below}
use Rattle.std.proofs.lemmas.Nat.Gcd.{IsGcd-from_zero, IsGcd-from_mod, same_from_IsGcd, dvd_antisymm}
use Prim.Native.Nat.{◌∣◌}
use native.Mathlib.Nat.{mul_comm, mul-one, dvd-mul_left, dvd-mul_right, pos_of_dvd_of_pos, div-mul_cancel, eq_of_mul-eq-mul_left, eq_of_mul-eq-mul_right}

-- Euclid's, with a number above the second argument to recurse on
abbrev pub gcd_fuel : ℕ → ℕ → ℕ → ℕ
gcd_fuel zero a b = a
gcd_fuel (suc k) a zero = a
gcd_fuel (suc k) a (suc b) = gcd_fuel k (suc b) (a % suc b)

-- the greatest common divisor
unfoldable pub gcd : ℕ → ℕ → ℕ
gcd a b = gcd_fuel (suc b) a b

mod_scale : (k a b : ℕ) → 0 < k → 0 < b → (k * a) % (k * b) ≡ k * (a % b)
mod_scale k a b hk hb =
    let e : a / b * b + a % b ≡ a = div-add-mod' a b in
    let l : a % b < b = mod_below a b hb in
    let s : k * (a % b) < k * b = grind arith in
    ap (λ x. x % (k * b)) (ap (λ x. k * x) (sym e) ∙ omega arith) ∙ mod-mul-add (a / b) (k * b) (k * (a % b)) s

fuel_is : (f k a b : ℕ) → b < f → 0 < k → IsGcd (k * a) (k * b) (k * gcd_fuel f a b)
fuel_is zero k a b h hk = absurd (omega arith)
fuel_is (suc f) k a zero h hk = IsGcd-from_zero (k * a) (k * zero) (omega arith)
fuel_is (suc f) k a (suc b) h hk =
    let l : a % suc b < suc b = mod_below a (suc b) (omega arith) in
    IsGcd-from_mod (k * a) (k * suc b) (k * gcd_fuel f (suc b) (a % suc b))
    (subst (λ x. IsGcd (k * suc b) x (k * gcd_fuel f (suc b) (a % suc b))) (sym (mod_scale k a (suc b) hk (omega arith)))
    (fuel_is f k (suc b) (a % suc b) (omega arith) hk))

-- a common factor comes out
pub gcd_scaled : (k a b : ℕ) → 0 < k → IsGcd (k * a) (k * b) (k * gcd a b)
unfolding gcd
gcd_scaled k a b hk = fuel_is (suc b) k a b (omega arith) hk

one_mul : (a : ℕ) → 1 * a ≡ a
one_mul a = omega arith

-- it divides both, and each common divisor divides it
pub gcd_is : (a b : ℕ) → IsGcd a b (gcd a b)
gcd_is a b = let g = gcd_scaled 1 a b (omega arith) in simp one_mul at g

-- it is positive
pub gcd_pos : (a b : ℕ) → 0 < b → 0 < gcd a b
gcd_pos a b h = pos_of_dvd_of_pos (gcd_is a b).1 h

-- a number that divides a multiple of another, and has no divisor in common with that, divides the factor
pub dvd_of_coprime : (a b d : ℕ) → gcd a b ≡ 1 → 0 < d → b ∣ d * a → b ∣ d
dvd_of_coprime a b d e hd h =
    let g : IsGcd (d * a) (d * b) (d * gcd a b) = gcd_scaled d a b hd in
    let r : b ∣ d * gcd a b = g.2 b h (dvd-mul_left b d) in
    subst (λ x. b ∣ x) (ap (λ x. d * x) e ∙ mul-one d) r

-- a fraction has one form in lowest terms
pub lowest_unique : (a b c d : ℕ) → gcd a b ≡ 1 → gcd c d ≡ 1 → 0 < b → 0 < d → a * d ≡ c * b → (a ≡ c) × (b ≡ d)
lowest_unique a b c d e e' hb hd h =
    let p : b ∣ d = dvd_of_coprime a b d e hd (subst (λ x. b ∣ x) (sym h ∙ mul_comm a d) (dvd-mul_left b c)) in
    let q : d ∣ b = dvd_of_coprime c d b e' hb (subst (λ x. d ∣ x) (h ∙ mul_comm c b) (dvd-mul_left d a)) in
    let s : b ≡ d = dvd_antisymm p q in
    (eq_of_mul-eq-mul_right b hb a c (ap (λ x. a * x) s ∙ h), s)

-- the two quotients by the divisor have none in common
pub gcd_quotients : (a b : ℕ) → 0 < b → gcd (a / gcd a b) (b / gcd a b) ≡ 1
gcd_quotients a b h =
    let g = gcd a b in
    let hg : 0 < gcd a b = gcd_pos a b h in
    let ea : gcd a b * (a / gcd a b) ≡ a = mul_comm (gcd a b) (a / gcd a b) ∙ div-mul_cancel (gcd a b) (gcd_is a b).0 in
    let eb : gcd a b * (b / gcd a b) ≡ b = mul_comm (gcd a b) (b / gcd a b) ∙ div-mul_cancel (gcd a b) (gcd_is a b).1 in
    let s : IsGcd (gcd a b * (a / gcd a b)) (gcd a b * (b / gcd a b)) (gcd a b * gcd (a / gcd a b) (b / gcd a b)) = gcd_scaled (gcd a b) (a / gcd a b) (b / gcd a b) hg in
    let t : IsGcd a b (gcd a b * gcd (a / gcd a b) (b / gcd a b)) =
    subst (λ x. IsGcd x b (gcd a b * gcd (a / gcd a b) (b / gcd a b))) ea (subst (λ y. IsGcd (gcd a b * (a / gcd a b)) y (gcd a b * gcd (a / gcd a b) (b / gcd a b))) eb s) in
    eq_of_mul-eq-mul_left (gcd a b) hg (gcd (a / gcd a b) (b / gcd a b)) 1 (sym (same_from_IsGcd a b (gcd a b) _ (gcd_is a b) t) ∙ sym (mul-one (gcd a b)))

-- the quotient of the first number, times the divisor
pub gcd_left : (a b : ℕ) → a / gcd a b * gcd a b ≡ a
gcd_left a b = div-mul_cancel (gcd a b) (gcd_is a b).0

-- the quotient of the second number, times the divisor
pub gcd_right : (a b : ℕ) → b / gcd a b * gcd a b ≡ b
gcd_right a b = div-mul_cancel (gcd a b) (gcd_is a b).1

-- the quotient of a positive number is positive
pub quotient_pos : (a b : ℕ) → 0 < b → 0 < b / gcd a b
quotient_pos a b h =
    pos_of_dvd_of_pos (subst (λ x. b / gcd a b ∣ x) (gcd_right a b) (dvd-mul_right (b / gcd a b) (gcd a b))) h

-- the quotients by the divisor, multiplied across
pub quotient_cross : (a b : ℕ) → a * (b / gcd a b) ≡ a / gcd a b * b
quotient_cross a b =
    ap (λ x. x * (b / gcd a b)) (sym (gcd_left a b))
    ∙ shift (a / gcd a b) (gcd a b) (b / gcd a b)
    ∙ ap (λ x. a / gcd a b * x) (gcd_right a b)
  where
    shift : (x y z : ℕ) → x * y * z ≡ x * (z * y)
    shift x y z = omega arith
