-- The rational numbers are a field, and their normaliser.
use Rattle.std.proofs.Common.{◌≡◌, ℕ, suc, ◌+◌, ◌*◌, ◌<◌, T, List, [], ◌∷◌, refl, sym, ap, ◌∙◌, subst, arith, ℤ, pos}
use lib.IntN.{neg_ℤ, ◌+ℤ◌, ◌*ℤ◌, zero-*ℤ}
use Rattle.rationals.specs.Rational.{ℚ, frac, zero_ℚ, one_ℚ, ◌+ℚ◌, ◌*ℚ◌, neg_ℚ}
use Rattle.rationals.proofs.Ring.{CommRing, Coefs, Ex, var, con, ◌⊕◌, ◌⊗◌, ◌⊝◌, minus, ev, ring, norm, all_zero}
use Rattle.rationals.proofs.RingZ.{neg-mul, ring-ℤ, is_zero, zero_is}
use Rattle.rationals.proofs.Rationals.{den_pos, frac_cross, frac_self, frac_eq}

pub pos_mul : (a b : ℕ) → 0 < a → 0 < b → 0 < a * b
pos_mul a b h k = grind arith

-- ---- the operations at n / d
add_cross : (a b c d n k m l : ℤ) → a *ℤ k ≡ n *ℤ b → c *ℤ l ≡ m *ℤ d → (n *ℤ l +ℤ m *ℤ k) *ℤ (b *ℤ d) ≡ (a *ℤ d +ℤ c *ℤ b) *ℤ (k *ℤ l)
add_cross a b c d n k m l e f =
    let B = var 0 in let D = var 1 in let K = var 2 in let L = var 3 in let X = var 4 in let Y = var 5 in
    ring-ℤ (b ∷ d ∷ k ∷ l ∷ n ∷ m ∷ []) ((X ⊗ L ⊕ Y ⊗ K) ⊗ (B ⊗ D)) ((X ⊗ B) ⊗ (L ⊗ D) ⊕ (Y ⊗ D) ⊗ (K ⊗ B)) tt
    ∙ ap (λ x. x *ℤ (l *ℤ d) +ℤ (m *ℤ d) *ℤ (k *ℤ b)) (sym e)
    ∙ ap (λ x. (a *ℤ k) *ℤ (l *ℤ d) +ℤ x *ℤ (k *ℤ b)) (sym f)
    ∙ ring-ℤ (b ∷ d ∷ k ∷ l ∷ a ∷ c ∷ []) ((X ⊗ K) ⊗ (L ⊗ D) ⊕ (Y ⊗ L) ⊗ (K ⊗ B)) ((X ⊗ D ⊕ Y ⊗ B) ⊗ (K ⊗ L)) tt

pub add_frac : (a c : ℤ) (b d : ℕ) → 0 < b → 0 < d → frac a b +ℚ frac c d ≡ frac (a *ℤ pos d +ℤ c *ℤ pos b) (b * d)
unfolding ◌+ℚ◌
add_frac a c b d hb hd =
    let q = frac a b in let r = frac c d in
    frac_eq _ _ (q.den * r.den) (b * d) (pos_mul q.den r.den (den_pos q) (den_pos r)) (pos_mul b d hb hd)
    (add_cross a (pos b) c (pos d) q.num (pos q.den) r.num (pos r.den) (frac_cross a b hb) (frac_cross c d hd))

mul_cross : (a b c d n k m l : ℤ) → a *ℤ k ≡ n *ℤ b → c *ℤ l ≡ m *ℤ d → (n *ℤ m) *ℤ (b *ℤ d) ≡ (a *ℤ c) *ℤ (k *ℤ l)
mul_cross a b c d n k m l e f =
    let B = var 0 in let D = var 1 in let K = var 2 in let L = var 3 in let X = var 4 in let Y = var 5 in
    ring-ℤ (b ∷ d ∷ k ∷ l ∷ n ∷ m ∷ []) ((X ⊗ Y) ⊗ (B ⊗ D)) ((X ⊗ B) ⊗ (Y ⊗ D)) tt
    ∙ ap (λ x. x *ℤ (m *ℤ d)) (sym e) ∙ ap (λ x. (a *ℤ k) *ℤ x) (sym f)
    ∙ ring-ℤ (b ∷ d ∷ k ∷ l ∷ a ∷ c ∷ []) ((X ⊗ K) ⊗ (Y ⊗ L)) ((X ⊗ Y) ⊗ (K ⊗ L)) tt

pub mul_frac : (a c : ℤ) (b d : ℕ) → 0 < b → 0 < d → frac a b *ℚ frac c d ≡ frac (a *ℤ c) (b * d)
unfolding ◌*ℚ◌
mul_frac a c b d hb hd =
    let q = frac a b in let r = frac c d in
    frac_eq _ _ (q.den * r.den) (b * d) (pos_mul q.den r.den (den_pos q) (den_pos r)) (pos_mul b d hb hd)
    (mul_cross a (pos b) c (pos d) q.num (pos q.den) r.num (pos r.den) (frac_cross a b hb) (frac_cross c d hd))

pub neg_frac : (a : ℤ) (b : ℕ) → 0 < b → neg_ℚ (frac a b) ≡ frac (neg_ℤ a) b
unfolding neg_ℚ
neg_frac a b hb =
    let q = frac a b in
    frac_eq (neg_ℤ q.num) (neg_ℤ a) q.den b (den_pos q) hb
    (neg-mul q.num (pos b) ∙ ap neg_ℤ (sym (frac_cross a b hb)) ∙ sym (neg-mul a (pos q.den)))

-- what holds of each n / d
pub by_frac : (P : ℚ → Type 0) → ((n : ℤ) (d : ℕ) → 0 < d → P (frac n d)) → (q : ℚ) → P q
by_frac P f q = subst P (frac_self q) (f q.num q.den (den_pos q))

-- ---- the laws
pub add_comm : (q r : ℚ) → q +ℚ r ≡ r +ℚ q
unfolding ◌+ℚ◌
add_comm q r =
    frac_eq _ _ (q.den * r.den) (r.den * q.den) (pos_mul q.den r.den (den_pos q) (den_pos r)) (pos_mul r.den q.den (den_pos r) (den_pos q))
    (ring-ℤ (q.num ∷ pos q.den ∷ r.num ∷ pos r.den ∷ []) ((var 0 ⊗ var 3 ⊕ var 2 ⊗ var 1) ⊗ (var 3 ⊗ var 1)) ((var 2 ⊗ var 1 ⊕ var 0 ⊗ var 3) ⊗ (var 1 ⊗ var 3)) tt)

pub mul_comm_ℚ : (q r : ℚ) → q *ℚ r ≡ r *ℚ q
unfolding ◌*ℚ◌
mul_comm_ℚ q r =
    frac_eq _ _ (q.den * r.den) (r.den * q.den) (pos_mul q.den r.den (den_pos q) (den_pos r)) (pos_mul r.den q.den (den_pos r) (den_pos q))
    (ring-ℤ (q.num ∷ pos q.den ∷ r.num ∷ pos r.den ∷ []) ((var 0 ⊗ var 2) ⊗ (var 3 ⊗ var 1)) ((var 2 ⊗ var 0) ⊗ (var 1 ⊗ var 3)) tt)

add_assoc_frac : (a c e : ℤ) (b d f : ℕ) → 0 < b → 0 < d → 0 < f → (frac a b +ℚ frac c d) +ℚ frac e f ≡ frac a b +ℚ (frac c d +ℚ frac e f)
add_assoc_frac a c e b d f hb hd hf =
    ap (λ x. x +ℚ frac e f) (add_frac a c b d hb hd) ∙ add_frac _ e (b * d) f (pos_mul b d hb hd) hf
    ∙ frac_eq _ _ (b * d * f) (b * (d * f)) (pos_mul (b * d) f (pos_mul b d hb hd) hf) (pos_mul b (d * f) hb (pos_mul d f hd hf))
    (ring-ℤ (a ∷ pos b ∷ c ∷ pos d ∷ e ∷ pos f ∷ [])
    (((var 0 ⊗ var 3 ⊕ var 2 ⊗ var 1) ⊗ var 5 ⊕ var 4 ⊗ (var 1 ⊗ var 3)) ⊗ (var 1 ⊗ (var 3 ⊗ var 5)))
    ((var 0 ⊗ (var 3 ⊗ var 5) ⊕ (var 2 ⊗ var 5 ⊕ var 4 ⊗ var 3) ⊗ var 1) ⊗ (var 1 ⊗ var 3 ⊗ var 5)) tt)
    ∙ sym (ap (λ x. frac a b +ℚ x) (add_frac c e d f hd hf) ∙ add_frac a _ b (d * f) hb (pos_mul d f hd hf))

pub add_assoc : (q r s : ℚ) → (q +ℚ r) +ℚ s ≡ q +ℚ (r +ℚ s)
add_assoc = by_frac (λ q. (r s : ℚ) → (q +ℚ r) +ℚ s ≡ q +ℚ (r +ℚ s)) (λ a b hb. by_frac (λ r. (s : ℚ) → (frac a b +ℚ r) +ℚ s ≡ frac a b +ℚ (r +ℚ s))
    (λ c d hd. by_frac (λ s. (frac a b +ℚ frac c d) +ℚ s ≡ frac a b +ℚ (frac c d +ℚ s)) (λ e f hf. add_assoc_frac a c e b d f hb hd hf)))

mul_assoc_frac : (a c e : ℤ) (b d f : ℕ) → 0 < b → 0 < d → 0 < f → (frac a b *ℚ frac c d) *ℚ frac e f ≡ frac a b *ℚ (frac c d *ℚ frac e f)
mul_assoc_frac a c e b d f hb hd hf =
    ap (λ x. x *ℚ frac e f) (mul_frac a c b d hb hd) ∙ mul_frac _ e (b * d) f (pos_mul b d hb hd) hf
    ∙ frac_eq _ _ (b * d * f) (b * (d * f)) (pos_mul (b * d) f (pos_mul b d hb hd) hf) (pos_mul b (d * f) hb (pos_mul d f hd hf))
    (ring-ℤ (a ∷ pos b ∷ c ∷ pos d ∷ e ∷ pos f ∷ [])
    (((var 0 ⊗ var 2) ⊗ var 4) ⊗ (var 1 ⊗ (var 3 ⊗ var 5)))
    ((var 0 ⊗ (var 2 ⊗ var 4)) ⊗ (var 1 ⊗ var 3 ⊗ var 5)) tt)
    ∙ sym (ap (λ x. frac a b *ℚ x) (mul_frac c e d f hd hf) ∙ mul_frac a _ b (d * f) hb (pos_mul d f hd hf))

pub mul_assoc : (q r s : ℚ) → (q *ℚ r) *ℚ s ≡ q *ℚ (r *ℚ s)
mul_assoc = by_frac (λ q. (r s : ℚ) → (q *ℚ r) *ℚ s ≡ q *ℚ (r *ℚ s)) (λ a b hb. by_frac (λ r. (s : ℚ) → (frac a b *ℚ r) *ℚ s ≡ frac a b *ℚ (r *ℚ s))
    (λ c d hd. by_frac (λ s. (frac a b *ℚ frac c d) *ℚ s ≡ frac a b *ℚ (frac c d *ℚ s)) (λ e f hf. mul_assoc_frac a c e b d f hb hd hf)))

mul-add_frac : (a c e : ℤ) (b d f : ℕ) → 0 < b → 0 < d → 0 < f → frac a b *ℚ (frac c d +ℚ frac e f) ≡ frac a b *ℚ frac c d +ℚ frac a b *ℚ frac e f
mul-add_frac a c e b d f hb hd hf =
    ap (λ x. frac a b *ℚ x) (add_frac c e d f hd hf) ∙ mul_frac a _ b (d * f) hb (pos_mul d f hd hf)
    ∙ frac_eq _ _ (b * (d * f)) (b * d * (b * f)) (pos_mul b (d * f) hb (pos_mul d f hd hf)) (pos_mul (b * d) (b * f) (pos_mul b d hb hd) (pos_mul b f hb hf))
    (ring-ℤ (a ∷ pos b ∷ c ∷ pos d ∷ e ∷ pos f ∷ [])
    ((var 0 ⊗ (var 2 ⊗ var 5 ⊕ var 4 ⊗ var 3)) ⊗ (var 1 ⊗ var 3 ⊗ (var 1 ⊗ var 5)))
    (((var 0 ⊗ var 2) ⊗ (var 1 ⊗ var 5) ⊕ (var 0 ⊗ var 4) ⊗ (var 1 ⊗ var 3)) ⊗ (var 1 ⊗ (var 3 ⊗ var 5))) tt)
    ∙ sym (ap (λ x. x +ℚ frac a b *ℚ frac e f) (mul_frac a c b d hb hd) ∙ ap (λ x. frac (a *ℤ c) (b * d) +ℚ x) (mul_frac a e b f hb hf)
    ∙ add_frac _ _ (b * d) (b * f) (pos_mul b d hb hd) (pos_mul b f hb hf))

pub mul-add : (q r s : ℚ) → q *ℚ (r +ℚ s) ≡ q *ℚ r +ℚ q *ℚ s
mul-add = by_frac (λ q. (r s : ℚ) → q *ℚ (r +ℚ s) ≡ q *ℚ r +ℚ q *ℚ s) (λ a b hb. by_frac (λ r. (s : ℚ) → frac a b *ℚ (r +ℚ s) ≡ frac a b *ℚ r +ℚ frac a b *ℚ s)
    (λ c d hd. by_frac (λ s. frac a b *ℚ (frac c d +ℚ s) ≡ frac a b *ℚ frac c d +ℚ frac a b *ℚ s) (λ e f hf. mul-add_frac a c e b d f hb hd hf)))

one_pos : 0 < 1
one_pos = omega arith

pub add-zero : (q : ℚ) → q +ℚ zero_ℚ ≡ q
add-zero = by_frac (λ q. q +ℚ zero_ℚ ≡ q) (λ a b hb.
    add_frac a (pos 0) b 1 hb one_pos
    ∙ frac_eq _ _ (b * 1) b (pos_mul b 1 hb one_pos) hb
    (ring-ℤ (a ∷ pos b ∷ []) ((var 0 ⊗ con (pos 1) ⊕ con (pos 0) ⊗ var 1) ⊗ var 1) (var 0 ⊗ (var 1 ⊗ con (pos 1))) tt))

pub mul-one : (q : ℚ) → q *ℚ one_ℚ ≡ q
mul-one = by_frac (λ q. q *ℚ one_ℚ ≡ q) (λ a b hb.
    mul_frac a (pos 1) b 1 hb one_pos
    ∙ frac_eq _ _ (b * 1) b (pos_mul b 1 hb one_pos) hb
    (ring-ℤ (a ∷ pos b ∷ []) ((var 0 ⊗ con (pos 1)) ⊗ var 1) (var 0 ⊗ (var 1 ⊗ con (pos 1))) tt))

pub add-neg : (q : ℚ) → q +ℚ neg_ℚ q ≡ zero_ℚ
add-neg = by_frac (λ q. q +ℚ neg_ℚ q ≡ zero_ℚ) (λ a b hb.
    ap (λ x. frac a b +ℚ x) (neg_frac a b hb) ∙ add_frac a (neg_ℤ a) b b hb hb
    ∙ frac_eq _ _ (b * b) 1 (pos_mul b b hb hb) one_pos
    (ring-ℤ (a ∷ pos b ∷ []) ((var 0 ⊗ var 1 ⊕ minus (var 0) ⊗ var 1) ⊗ con (pos 1)) (con (pos 0) ⊗ (var 1 ⊗ var 1)) tt))

-- the rational numbers as a commutative ring
abbrev pub ring_ℚ : CommRing ℚ
ring_ℚ = record {
  𝟘 = zero_ℚ;
  𝟙 = one_ℚ;
  ◌+◌ = ◌+ℚ◌;
  ◌*◌ = ◌*ℚ◌;
  neg = neg_ℚ;
  add_comm = add_comm;
  add_assoc = add_assoc;
  add-zero = add-zero;
  add-neg = add-neg;
  mul_comm = mul_comm_ℚ;
  mul_assoc = mul_assoc;
  mul-one = mul-one;
  mul-add = mul-add;
}

-- a coefficient n / (d + 1)
pub record Coef : Type 0 where
  pub top : ℤ
  pub below : ℕ

-- the coefficient n / (d + 1)
abbrev pub coef : ℤ → ℕ → Coef
coef n d = record { top = n; below = d }

-- the number that a coefficient means
abbrev pub of_coef : Coef → ℚ
of_coef c = frac c.top (suc c.below)

suc_pos : (n : ℕ) → 0 < suc n
suc_pos n = omega arith

suc_mul : (b d : ℕ) → suc (b * d + b + d) ≡ suc b * suc d
suc_mul b d = omega arith

pub coef-add : (a b : Coef) → of_coef (coef (a.top *ℤ pos (suc b.below) +ℤ b.top *ℤ pos (suc a.below)) (a.below * b.below + a.below + b.below)) ≡ of_coef a +ℚ of_coef b
coef-add a b =
    ap (λ d. frac (a.top *ℤ pos (suc b.below) +ℤ b.top *ℤ pos (suc a.below)) d) (suc_mul a.below b.below)
    ∙ sym (add_frac a.top b.top (suc a.below) (suc b.below) (suc_pos a.below) (suc_pos b.below))

pub coef-mul : (a b : Coef) → of_coef (coef (a.top *ℤ b.top) (a.below * b.below + a.below + b.below)) ≡ of_coef a *ℚ of_coef b
coef-mul a b =
    ap (λ d. frac (a.top *ℤ b.top) d) (suc_mul a.below b.below)
    ∙ sym (mul_frac a.top b.top (suc a.below) (suc b.below) (suc_pos a.below) (suc_pos b.below))

pub coef-zero : (a : Coef) → T (is_zero a.top) → of_coef a ≡ zero_ℚ
coef-zero a h = frac_eq a.top (pos 0) (suc a.below) 1 (suc_pos a.below) one_pos
    (ap (λ x. x *ℤ pos 1) (zero_is a.top h) ∙ sym (zero-*ℤ (pos (suc a.below))))

pub coef-neg : (a : Coef) → of_coef (coef (neg_ℤ a.top) a.below) ≡ neg_ℚ (of_coef a)
coef-neg a = sym (neg_frac a.top (suc a.below) (suc_pos a.below))

-- coefficients as numerals of the rational numbers
abbrev pub coefs_ℚ : Coefs ring_ℚ Coef
coefs_ℚ = record {
  hom = of_coef;
  cone = coef (pos 1) 0;
  cadd = λ a b. coef (a.top *ℤ pos (suc b.below) +ℤ b.top *ℤ pos (suc a.below)) (a.below * b.below + a.below + b.below);
  cmul = λ a b. coef (a.top *ℤ b.top) (a.below * b.below + a.below + b.below);
  cneg = λ a. coef (neg_ℤ a.top) a.below;
  is_zero = λ a. is_zero a.top;
  hom-one = refl;
  hom-add = coef-add;
  hom-mul = coef-mul;
  hom-neg = coef-neg;
  hom-zero = coef-zero;
}

-- two expressions of one polynomial are equal rational numbers
pub ring-ℚ : (ρ : List ℚ) (a b : Ex Coef) → T (all_zero coefs_ℚ (norm coefs_ℚ (a ⊝ b))) → ev coefs_ℚ ρ a ≡ ev coefs_ℚ ρ b
ring-ℚ ρ a b h = ring coefs_ℚ ρ a b h
