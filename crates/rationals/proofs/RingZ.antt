-- The whole numbers as a commutative ring, and their normaliser.
use Rattle.std.proofs.Common.{◌≡◌, zero, suc, Bool, true, false, T, List, refl, sym, ap, ◌∙◌, arith, ℤ, pos, negsuc}
use Rattle.std.proofs.lemmas.Int.{ints}
use lib.IntN.{◌+ℤ◌, ◌*ℤ◌, neg_ℤ, +ℤ_idl, +ℤ_idr, +ℤ_assoc, +ℤ_comm, +ℤ_invr, suc_ℤ-+ℤ, pred_ℤ-+ℤ, suc_ℤ-*ℤ, pred_ℤ-*ℤ, zero-*ℤ, *ℤ_comm}
use Rattle.rationals.proofs.Ring.{CommRing, Coefs, Ex, ev, ring, norm, all_zero, ◌⊝◌}

shuffle : (a b c : ℤ) → (a +ℤ b) +ℤ c ≡ (a +ℤ c) +ℤ b
shuffle a b c = omega (arith, ints)

zero-add-mul : (b c : ℤ) → (pos zero +ℤ b) *ℤ c ≡ pos zero *ℤ c +ℤ b *ℤ c
zero-add-mul b c = ap (λ x. x *ℤ c) (+ℤ_idl b) ∙ sym (ap (λ x. x +ℤ b *ℤ c) (zero-*ℤ c) ∙ +ℤ_idl (b *ℤ c))

zero-mul_assoc : (b c : ℤ) → (pos zero *ℤ b) *ℤ c ≡ pos zero *ℤ (b *ℤ c)
zero-mul_assoc b c = ap (λ x. x *ℤ c) (zero-*ℤ b) ∙ zero-*ℤ c ∙ sym (zero-*ℤ (b *ℤ c))

pub add-mul : (a b c : ℤ) → (a +ℤ b) *ℤ c ≡ a *ℤ c +ℤ b *ℤ c
add-mul (pos zero) b c = zero-add-mul b c
add-mul (pos (suc n)) b c =
    ap (λ x. x *ℤ c) (suc_ℤ-+ℤ (pos n) b) ∙ suc_ℤ-*ℤ (pos n +ℤ b) c ∙ ap (λ x. x +ℤ c) (add-mul (pos n) b c)
    ∙ shuffle (pos n *ℤ c) (b *ℤ c) c ∙ ap (λ x. x +ℤ b *ℤ c) (sym (suc_ℤ-*ℤ (pos n) c))
add-mul (negsuc zero) b c =
    ap (λ x. x *ℤ c) (pred_ℤ-+ℤ (pos zero) b) ∙ pred_ℤ-*ℤ (pos zero +ℤ b) c ∙ ap (λ x. x +ℤ neg_ℤ c) (zero-add-mul b c)
    ∙ shuffle (pos zero *ℤ c) (b *ℤ c) (neg_ℤ c) ∙ ap (λ x. x +ℤ b *ℤ c) (sym (pred_ℤ-*ℤ (pos zero) c))
add-mul (negsuc (suc n)) b c =
    ap (λ x. x *ℤ c) (pred_ℤ-+ℤ (negsuc n) b) ∙ pred_ℤ-*ℤ (negsuc n +ℤ b) c ∙ ap (λ x. x +ℤ neg_ℤ c) (add-mul (negsuc n) b c)
    ∙ shuffle (negsuc n *ℤ c) (b *ℤ c) (neg_ℤ c) ∙ ap (λ x. x +ℤ b *ℤ c) (sym (pred_ℤ-*ℤ (negsuc n) c))

pub neg-mul : (a b : ℤ) → neg_ℤ a *ℤ b ≡ neg_ℤ (a *ℤ b)
neg-mul a b =
    let e : a *ℤ b +ℤ neg_ℤ a *ℤ b ≡ pos 0 = sym (add-mul a (neg_ℤ a) b) ∙ ap (λ x. x *ℤ b) (+ℤ_invr a) ∙ zero-*ℤ b in
    omega (arith, ints)

pub mul_assoc : (a b c : ℤ) → (a *ℤ b) *ℤ c ≡ a *ℤ (b *ℤ c)
mul_assoc (pos zero) b c = zero-mul_assoc b c
mul_assoc (pos (suc n)) b c =
    ap (λ x. x *ℤ c) (suc_ℤ-*ℤ (pos n) b) ∙ add-mul (pos n *ℤ b) b c ∙ ap (λ x. x +ℤ b *ℤ c) (mul_assoc (pos n) b c)
    ∙ sym (suc_ℤ-*ℤ (pos n) (b *ℤ c))
mul_assoc (negsuc zero) b c =
    ap (λ x. x *ℤ c) (pred_ℤ-*ℤ (pos zero) b) ∙ add-mul (pos zero *ℤ b) (neg_ℤ b) c
    ∙ ap (λ x. x +ℤ neg_ℤ b *ℤ c) (zero-mul_assoc b c) ∙ ap (λ x. pos zero *ℤ (b *ℤ c) +ℤ x) (neg-mul b c) ∙ sym (pred_ℤ-*ℤ (pos zero) (b *ℤ c))
mul_assoc (negsuc (suc n)) b c =
    ap (λ x. x *ℤ c) (pred_ℤ-*ℤ (negsuc n) b) ∙ add-mul (negsuc n *ℤ b) (neg_ℤ b) c
    ∙ ap (λ x. x +ℤ neg_ℤ b *ℤ c) (mul_assoc (negsuc n) b c) ∙ ap (λ x. negsuc n *ℤ (b *ℤ c) +ℤ x) (neg-mul b c) ∙ sym (pred_ℤ-*ℤ (negsuc n) (b *ℤ c))

pub mul-add : (a b c : ℤ) → a *ℤ (b +ℤ c) ≡ a *ℤ b +ℤ a *ℤ c
mul-add a b c = *ℤ_comm a (b +ℤ c) ∙ add-mul b c a ∙ ap (λ x. x +ℤ c *ℤ a) (*ℤ_comm b a) ∙ ap (λ x. a *ℤ b +ℤ x) (*ℤ_comm c a)

pub mul-one : (a : ℤ) → a *ℤ pos 1 ≡ a
mul-one a = *ℤ_comm a (pos 1) ∙ suc_ℤ-*ℤ (pos zero) a ∙ ap (λ x. x +ℤ a) (zero-*ℤ a) ∙ +ℤ_idl a

-- the whole numbers as a commutative ring
abbrev pub ring_ℤ : CommRing ℤ
ring_ℤ = record {
  𝟘 = pos 0;
  𝟙 = pos 1;
  ◌+◌ = ◌+ℤ◌;
  ◌*◌ = ◌*ℤ◌;
  neg = neg_ℤ;
  add_comm = +ℤ_comm;
  add_assoc = +ℤ_assoc;
  add-zero = +ℤ_idr;
  add-neg = +ℤ_invr;
  mul_comm = *ℤ_comm;
  mul_assoc = mul_assoc;
  mul-one = mul-one;
  mul-add = mul-add;
}

-- the test of 0
abbrev pub is_zero : ℤ → Bool
is_zero (pos zero) = true
is_zero (pos (suc n)) = false
is_zero (negsuc n) = false

pub zero_is : (a : ℤ) → T (is_zero a) → a ≡ pos 0
zero_is (pos zero) h = refl
zero_is (pos (suc n)) h = absurd h
zero_is (negsuc n) h = absurd h

-- the whole numbers as their own numerals
abbrev pub coefs_ℤ : Coefs ring_ℤ ℤ
coefs_ℤ = record {
  hom = λ x. x;
  cone = pos 1;
  cadd = ◌+ℤ◌;
  cmul = ◌*ℤ◌;
  cneg = neg_ℤ;
  is_zero = is_zero;
  hom-one = refl;
  hom-add = λ a b. refl;
  hom-mul = λ a b. refl;
  hom-neg = λ a. refl;
  hom-zero = zero_is;
}

-- two expressions of one polynomial are equal whole numbers
pub ring-ℤ : (ρ : List ℤ) (a b : Ex ℤ) → T (all_zero coefs_ℤ (norm coefs_ℤ (a ⊝ b))) → ev coefs_ℤ ρ a ≡ ev coefs_ℤ ρ b
ring-ℤ ρ a b h = ring coefs_ℤ ρ a b h
