-- The laws of the rational numbers.
use Rattle.std.proofs.Common.{◌≡◌, ℕ, zero, suc, ◌*◌, ◌/◌, ◌<◌, T, [], ◌∷◌, refl, sym, ap, ◌∙◌, arith, ℤ, pos, negsuc, nat_abs}
use Rattle.std.proofs.lemmas.Int.{ints}
use lib.IntN.{neg_ℤ, ◌*ℤ◌}
use lib.Dec.{eqb→eq, T_prop}
use mathlib.Core.HLevel.{is_prop→PathP}
use native.Mathlib.Nat.{eq_of_mul-eq-mul_right}
use Rattle.rationals.specs.Gcd.{gcd, lowest_unique, quotient_cross}
use Rattle.rationals.specs.Rational.{is_lowest, ℚ, signed, abs-neg, frac}
use Rattle.rationals.proofs.Ring.{var, ◌⊗◌}
use Rattle.rationals.proofs.RingZ.{neg-mul, ring-ℤ}

-- ---- lowest terms
den_low : (n : ℤ) (d : ℕ) → T (is_lowest n d) → (0 < d) × (gcd (nat_abs n) d ≡ 1)
den_low n zero h = absurd h
den_low n (suc d) h = (omega arith, eqb→eq (gcd (nat_abs n) (suc d)) 1 h)

pub den_pos : (q : ℚ) → 0 < q.den
den_pos q = (den_low q.num q.den q.low).0

pub coprime : (q : ℚ) → gcd (nat_abs q.num) q.den ≡ 1
coprime q = (den_low q.num q.den q.low).1

pub ℚ_ext : (q r : ℚ) → q.num ≡ r.num → q.den ≡ r.den → q ≡ r
ℚ_ext q r p e = λ i. record {
  num = p i;
  den = e i;
  low = is_prop→PathP (λ j. T (is_lowest (p j) (e j))) (λ j. T_prop (is_lowest (p j) (e j))) q.low r.low i;
}

pos_mul : (a b : ℕ) → 0 < a → 0 < b → 0 < a * b
pos_mul a b h k = grind arith

-- two products by positive numbers are equal: so are the sizes, and the signs
cross : (n m : ℤ) (k l : ℕ) → 0 < k → 0 < l → n *ℤ pos k ≡ m *ℤ pos l → (nat_abs n * k ≡ nat_abs m * l) × (nat_abs n ≡ nat_abs m → n ≡ m)
cross (pos a) (pos b) k l hk hl e = (ap nat_abs e, λ h. ap pos h)
cross (pos a) (negsuc b) k l hk hl e = absurd (omega (arith, ints, pos_mul (suc b) l (omega arith) hl))
cross (negsuc a) (pos b) k l hk hl e = absurd (omega (arith, ints, pos_mul (suc a) k (omega arith) hk))
cross (negsuc a) (negsuc b) k l hk hl e =
    (sym (abs-neg (suc a * k)) ∙ ap nat_abs e ∙ abs-neg (suc b * l), λ h. ap negsuc (omega arith))

pub cancel : (n m : ℤ) (k : ℕ) → 0 < k → n *ℤ pos k ≡ m *ℤ pos k → n ≡ m
cancel n m k h e = let c = cross n m k k h h e in c.1 (eq_of_mul-eq-mul_right k h (nat_abs n) (nat_abs m) c.0)

pub eq_of_cross : (q r : ℚ) → q.num *ℤ pos r.den ≡ r.num *ℤ pos q.den → q ≡ r
eq_of_cross q r e =
    let c = cross q.num r.num r.den q.den (den_pos r) (den_pos q) e in
    let u = lowest_unique (nat_abs q.num) q.den (nat_abs r.num) r.den (coprime q) (coprime r) (den_pos q) (den_pos r) c.0 in
    ℚ_ext q r (c.1 u.0) u.1

signed_mul : (n : ℤ) (a b d : ℕ) → nat_abs n * a ≡ b * d → n *ℤ pos a ≡ signed n b *ℤ pos d
signed_mul (pos n) a b d e = ap pos e
signed_mul (negsuc n) a b d e = ap (λ x. neg_ℤ (pos x)) e ∙ sym (neg-mul (pos b) (pos d))

pub frac_cross : (n : ℤ) (d : ℕ) → 0 < d → n *ℤ pos (frac n d).den ≡ (frac n d).num *ℤ pos d
unfolding frac
frac_cross n zero h = absurd (omega arith)
frac_cross n (suc d) h = signed_mul n (suc d / gcd (nat_abs n) (suc d)) (nat_abs n / gcd (nat_abs n) (suc d)) (suc d) (quotient_cross (nat_abs n) (suc d))

to_cross : (n m d e a b : ℤ) → n *ℤ b ≡ a *ℤ d → (a *ℤ e) *ℤ d ≡ (n *ℤ e) *ℤ b
to_cross n m d e a b h =
    let N = var 0 in let D = var 1 in let E = var 2 in let A = var 3 in let B = var 4 in
    let ρ = n ∷ d ∷ e ∷ a ∷ b ∷ [] in
    ring-ℤ ρ (A ⊗ E ⊗ D) (A ⊗ D ⊗ E) tt ∙ ap (λ x. x *ℤ e) (sym h) ∙ ring-ℤ ρ (N ⊗ B ⊗ E) (N ⊗ E ⊗ B) tt

-- the number with n / d = a / b
pub frac_is : (n : ℤ) (d : ℕ) (r : ℚ) → 0 < d → n *ℤ pos r.den ≡ r.num *ℤ pos d → frac n d ≡ r
frac_is n d r h e =
    let q = frac n d in
    eq_of_cross (frac n d) r
    (cancel ((frac n d).num *ℤ pos r.den) (r.num *ℤ pos (frac n d).den) d h
    (to_cross n n (pos d) (pos r.den) (frac n d).num (pos (frac n d).den) (frac_cross n d h)
    ∙ ap (λ x. x *ℤ pos (frac n d).den) e
    ∙ ring-ℤ (r.num ∷ pos d ∷ pos (frac n d).den ∷ []) (var 0 ⊗ var 1 ⊗ var 2) (var 0 ⊗ var 2 ⊗ var 1) tt))

pub frac_self : (q : ℚ) → frac q.num q.den ≡ q
frac_self q = frac_is q.num q.den q (den_pos q) refl

pub frac_eq : (n m : ℤ) (d e : ℕ) → 0 < d → 0 < e → n *ℤ pos e ≡ m *ℤ pos d → frac n d ≡ frac m e
frac_eq n m d e hd he h =
    frac_is n d (frac m e) hd
    (cancel (n *ℤ pos (frac m e).den) ((frac m e).num *ℤ pos d) e he
    (ring-ℤ (n ∷ pos (frac m e).den ∷ pos e ∷ []) (var 0 ⊗ var 1 ⊗ var 2) (var 0 ⊗ var 2 ⊗ var 1) tt
    ∙ ap (λ x. x *ℤ pos (frac m e).den) h
    ∙ ring-ℤ (m ∷ pos d ∷ pos (frac m e).den ∷ []) (var 0 ⊗ var 1 ⊗ var 2) (var 0 ⊗ var 2 ⊗ var 1) tt
    ∙ ap (λ x. x *ℤ pos d) (frac_cross m e he)
    ∙ ring-ℤ ((frac m e).num ∷ pos e ∷ pos d ∷ []) (var 0 ⊗ var 1 ⊗ var 2) (var 0 ⊗ var 2 ⊗ var 1) tt))

pub cross_of_frac : (n m : ℤ) (d e : ℕ) → 0 < d → 0 < e → frac n d ≡ frac m e → n *ℤ pos e ≡ m *ℤ pos d
cross_of_frac n m d e hd he h =
    cancel (n *ℤ pos e) (m *ℤ pos d) (frac n d).den (den_pos (frac n d))
    (ring-ℤ (n ∷ pos e ∷ pos (frac n d).den ∷ []) (var 0 ⊗ var 1 ⊗ var 2) (var 0 ⊗ var 2 ⊗ var 1) tt
    ∙ ap (λ x. x *ℤ pos e) (frac_cross n d hd)
    ∙ ap (λ (q : ℚ). q.num *ℤ pos d *ℤ pos e) h
    ∙ ring-ℤ ((frac m e).num ∷ pos d ∷ pos e ∷ []) (var 0 ⊗ var 1 ⊗ var 2) (var 0 ⊗ var 2 ⊗ var 1) tt
    ∙ ap (λ x. x *ℤ pos d) (sym (frac_cross m e he))
    ∙ ring-ℤ (m ∷ pos (frac m e).den ∷ pos d ∷ []) (var 0 ⊗ var 1 ⊗ var 2) (var 0 ⊗ var 2 ⊗ var 1) tt
    ∙ ap (λ (q : ℚ). m *ℤ pos d *ℤ pos q.den) (sym h))
