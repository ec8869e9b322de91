-- Linear arithmetic by a certificate, over any ordered commutative ring: hypotheses, each times a number that is not negative, that add up to a contradiction.
--     Ordered R             the laws of the order
--     Atom                  l ≼ r, l ≺ r, l ≈ r between expressions
--     refute                hypotheses and multipliers that pass the test `refutes` cannot hold together
--     prove_le, prove_lt    so the denial of a goal is refuted
use Rattle.std.proofs.Common.{◌≡◌, Bool, true, false, T, List, [], ◌∷◌, ◌⊎◌, inl, inr, sym, ap, ◌∙◌, subst}
use Rattle.rationals.proofs.Ring.{CommRing, Coefs, Ex, con, ◌⊕◌, ◌⊝◌, ◌⊗◌, Poly, end, term, ev, norm, all_zero, ring_zero, sub_of_eq, mul-zero}

-- an order of a commutative ring, with its laws
pub record Ordered {A : Type 0} (R : CommRing A) : Type 1 where
  pub ◌≤◌ : A → A → Type 0
  pub ◌<◌ : A → A → Type 0
  infix 50 ◌≤◌ ◌<◌
  pub sub_of_le : (a b : A) → a ≤ b → R.𝟘 ≤ R.◌+◌ b (R.neg a)
  pub le_of_sub : (a b : A) → R.𝟘 ≤ R.◌+◌ b (R.neg a) → a ≤ b
  pub sub_of_lt : (a b : A) → a < b → R.𝟘 < R.◌+◌ b (R.neg a)
  pub lt_of_sub : (a b : A) → R.𝟘 < R.◌+◌ b (R.neg a) → a < b
  pub zero_le : R.𝟘 ≤ R.𝟘
  pub not-lt : R.𝟘 < R.𝟘 → ⊥
  pub le_of_lt : (a : A) → R.𝟘 < a → R.𝟘 ≤ a
  pub add_le : (a b : A) → R.𝟘 ≤ a → R.𝟘 ≤ b → R.𝟘 ≤ R.◌+◌ a b
  pub add_lt : (a b : A) → R.𝟘 < a → R.𝟘 ≤ b → R.𝟘 < R.◌+◌ a b
  pub either : (a b : A) → (a ≤ b) ⊎ (b < a)

-- numbers whose sign computes
pub record Signs {A C : Type 0} {R : CommRing A} (O : Ordered R) (K : Coefs R C) : Type 0 where
  pub at_least_zero : C → Bool
  pub above_zero : C → Bool
  pub at_least_zero_is : (c : C) → T (at_least_zero c) → O.◌≤◌ R.𝟘 (K.hom c)
  pub above_zero_is : (c : C) → T (above_zero c) → O.◌<◌ R.𝟘 (K.hom c)
  pub scale_le : (c : C) (a : A) → T (at_least_zero c) → O.◌≤◌ R.𝟘 a → O.◌≤◌ R.𝟘 (R.◌*◌ (K.hom c) a)
  pub scale_lt : (c : C) (a : A) → T (above_zero c) → O.◌<◌ R.𝟘 a → O.◌<◌ R.𝟘 (R.◌*◌ (K.hom c) a)

infix 50 ◌≼◌ ◌≺◌ ◌≈◌
-- an inequality or an equation between two expressions
pub data Atom (C : Type 0) : Type 0 where
  ◌≼◌ ◌≺◌ ◌≈◌ : Ex C → Ex C → Atom C

module _ {A C : Type 0} {R : CommRing A} {K : Coefs R C} {O : Ordered R} (S : Signs O K) where
  open R use {𝟘, 𝟙, ◌+◌, ◌*◌, neg}

  infixl 65 ◌+◌
  infixl 70 ◌*◌
  open O use {◌≤◌, ◌<◌}

  infix 50 ◌≤◌ ◌<◌
  open K use {hom}
  open S use {at_least_zero, above_zero}

  -- what an atom says
  abbrev pub Holds : List A → Atom C → Type 0
  Holds ρ (l ≼ r) = ev K ρ l ≤ ev K ρ r
  Holds ρ (l ≺ r) = ev K ρ l < ev K ρ r
  Holds ρ (l ≈ r) = ev K ρ l ≡ ev K ρ r

  -- what a list of atoms says
  abbrev pub Given : List A → List (Atom C) → Type 0
  Given ρ [] = Unit {0}
  Given ρ (a ∷ hs) = Holds ρ a × Given ρ hs

  -- the sum of the differences, each times its multiplier; a missing multiplier ends it
  abbrev pub combined : List (Atom C) → List C → Ex C → Ex C
  combined [] cs z = z
  combined (a ∷ hs) [] z = z
  combined ((l ≼ r) ∷ hs) (c ∷ cs) z = con c ⊗ (r ⊝ l) ⊕ combined hs cs z
  combined ((l ≺ r) ∷ hs) (c ∷ cs) z = con c ⊗ (r ⊝ l) ⊕ combined hs cs z
  combined ((l ≈ r) ∷ hs) (c ∷ cs) z = con c ⊗ (r ⊝ l) ⊕ combined hs cs z

  -- both
  abbrev and : Bool → Bool → Bool
  and true b = b
  and false b = false

  -- either
  abbrev or : Bool → Bool → Bool
  or true b = true
  or false b = b

  -- the multipliers of orders are not negative
  abbrev pub signs_fit : List (Atom C) → List C → Bool
  signs_fit [] cs = true
  signs_fit (a ∷ hs) [] = true
  signs_fit ((l ≼ r) ∷ hs) (c ∷ cs) = and (at_least_zero c) (signs_fit hs cs)
  signs_fit ((l ≺ r) ∷ hs) (c ∷ cs) = and (at_least_zero c) (signs_fit hs cs)
  signs_fit ((l ≈ r) ∷ hs) (c ∷ cs) = signs_fit hs cs

  -- some strict order has a positive multiplier, or the last number is positive
  abbrev pub strict : List (Atom C) → List C → C → Bool
  strict [] cs k = above_zero k
  strict (a ∷ hs) [] k = above_zero k
  strict ((l ≼ r) ∷ hs) (c ∷ cs) k = strict hs cs k
  strict ((l ≺ r) ∷ hs) (c ∷ cs) k = or (above_zero c) (strict hs cs k)
  strict ((l ≈ r) ∷ hs) (c ∷ cs) k = strict hs cs k

  -- minus the constant part of a polynomial
  abbrev pub slack : Poly C → C → C
  slack end z = z
  slack (term [] c p) z = K.cneg c
  slack (term (v ∷ m) c p) z = slack p z

  -- the number that makes the constant part of the sum 0
  abbrev pub slack_of : List (Atom C) → List C → C
  slack_of hs cs = slack (norm K (combined hs cs (con (K.cadd K.cone (K.cneg K.cone))))) (K.cadd K.cone (K.cneg K.cone))

  -- the test of a certificate: the sum of all, and of a number that is not negative, is 0, and something in it is positive
  abbrev pub refutes : List (Atom C) → List C → Bool
  refutes hs cs =
      let k = slack_of hs cs in
      and (at_least_zero k) (and (signs_fit hs cs) (and (strict hs cs k) (all_zero K (norm K (combined hs cs (con k))))))

  both : (b c : Bool) → T (and b c) → T b × T c
  both true c h = (tt, h)
  both false c h = absurd h

  one_of : (b c : Bool) → T (or b c) → T b ⊎ T c
  one_of true c h = inl tt
  one_of false c h = inr h

  zero_of : (c l r : A) → l ≡ r → c * (r + neg l) ≡ 𝟘
  zero_of c l r e = ap (λ x. c * x) (sub_of_eq R r l (sym e)) ∙ mul-zero R c

  -- the sum is not negative
  sum_le : (ρ : List A) (hs : List (Atom C)) (cs : List C) (k : C) → 𝟘 ≤ hom k → Given ρ hs → T (signs_fit hs cs) → 𝟘 ≤ ev K ρ (combined hs cs (con k))
  sum_le ρ [] cs k hk g h = hk
  sum_le ρ (a ∷ hs) [] k hk g h = hk
  sum_le ρ ((l ≼ r) ∷ hs) (c ∷ cs) k hk g h =
      let b = both (at_least_zero c) (signs_fit hs cs) h in
      O.add_le (hom c * (ev K ρ r + neg (ev K ρ l))) (ev K ρ (combined hs cs (con k)))
      (S.scale_le c (ev K ρ r + neg (ev K ρ l)) b.0 (O.sub_of_le (ev K ρ l) (ev K ρ r) g.0))
      (sum_le ρ hs cs k hk g.1 b.1)
  sum_le ρ ((l ≺ r) ∷ hs) (c ∷ cs) k hk g h =
      let b = both (at_least_zero c) (signs_fit hs cs) h in
      O.add_le (hom c * (ev K ρ r + neg (ev K ρ l))) (ev K ρ (combined hs cs (con k)))
      (S.scale_le c (ev K ρ r + neg (ev K ρ l)) b.0 (O.le_of_lt (ev K ρ r + neg (ev K ρ l)) (O.sub_of_lt (ev K ρ l) (ev K ρ r) g.0)))
      (sum_le ρ hs cs k hk g.1 b.1)
  sum_le ρ ((l ≈ r) ∷ hs) (c ∷ cs) k hk g h =
      O.add_le (hom c * (ev K ρ r + neg (ev K ρ l))) (ev K ρ (combined hs cs (con k)))
      (subst (λ x. 𝟘 ≤ x) (sym (zero_of (hom c) (ev K ρ l) (ev K ρ r) g.0)) O.zero_le)
      (sum_le ρ hs cs k hk g.1 h)

  add_lt_right : (a b : A) → 𝟘 ≤ a → 𝟘 < b → 𝟘 < a + b
  add_lt_right a b h k = subst (λ x. 𝟘 < x) (R.add_comm b a) (O.add_lt b a k h)

  -- and where something in it is positive, it is positive
  sum_lt : (ρ : List A) (hs : List (Atom C)) (cs : List C) (k : C) → 𝟘 ≤ hom k → Given ρ hs → T (signs_fit hs cs) → T (strict hs cs k) → 𝟘 < ev K ρ (combined hs cs (con k))
  sum_lt ρ [] cs k hk g h s = S.above_zero_is k s
  sum_lt ρ (a ∷ hs) [] k hk g h s = S.above_zero_is k s
  sum_lt ρ ((l ≼ r) ∷ hs) (c ∷ cs) k hk g h s =
      let b = both (at_least_zero c) (signs_fit hs cs) h in
      add_lt_right (hom c * (ev K ρ r + neg (ev K ρ l))) (ev K ρ (combined hs cs (con k)))
      (S.scale_le c (ev K ρ r + neg (ev K ρ l)) b.0 (O.sub_of_le (ev K ρ l) (ev K ρ r) g.0))
      (sum_lt ρ hs cs k hk g.1 b.1 s)
  sum_lt ρ ((l ≺ r) ∷ hs) (c ∷ cs) k hk g h s =
      let b = both (at_least_zero c) (signs_fit hs cs) h in
      let d : 𝟘 < ev K ρ r + neg (ev K ρ l) = O.sub_of_lt (ev K ρ l) (ev K ρ r) g.0 in
      elim (one_of (above_zero c) (strict hs cs k) s) [
        | inl t ↦ O.add_lt (hom c * (ev K ρ r + neg (ev K ρ l))) (ev K ρ (combined hs cs (con k)))
            (S.scale_lt c (ev K ρ r + neg (ev K ρ l)) t d) (sum_le ρ hs cs k hk g.1 b.1)
        | inr t ↦ add_lt_right (hom c * (ev K ρ r + neg (ev K ρ l))) (ev K ρ (combined hs cs (con k)))
            (S.scale_le c (ev K ρ r + neg (ev K ρ l)) b.0 (O.le_of_lt (ev K ρ r + neg (ev K ρ l)) d)) (sum_lt ρ hs cs k hk g.1 b.1 t)
      ]
  sum_lt ρ ((l ≈ r) ∷ hs) (c ∷ cs) k hk g h s =
      add_lt_right (hom c * (ev K ρ r + neg (ev K ρ l))) (ev K ρ (combined hs cs (con k)))
      (subst (λ x. 𝟘 ≤ x) (sym (zero_of (hom c) (ev K ρ l) (ev K ρ r) g.0)) O.zero_le)
      (sum_lt ρ hs cs k hk g.1 h s)

  -- hypotheses and multipliers that pass the test cannot hold together
  pub refute : (ρ : List A) (hs : List (Atom C)) (cs : List C) → T (refutes hs cs) → Given ρ hs → ⊥
  refute ρ hs cs h g =
      let k = slack_of hs cs in
      let p = both (at_least_zero k) _ h in
      let q = both (signs_fit hs cs) _ p.1 in
      let r = both (strict hs cs k) _ q.1 in
      O.not-lt (subst (λ x. 𝟘 < x) (ring_zero K ρ (combined hs cs (con k)) r.1)
      (sum_lt ρ hs cs k (S.at_least_zero_is k p.0) g q.0 r.0))

  -- an inequality whose denial is refuted
  pub prove_le : (ρ : List A) (l r : Ex C) (hs : List (Atom C)) (cs : List C) → T (refutes ((r ≺ l) ∷ hs) cs) → Given ρ hs → ev K ρ l ≤ ev K ρ r
  prove_le ρ l r hs cs h g =
      elim (O.either (ev K ρ l) (ev K ρ r)) [ inl y ↦ y | inr n ↦ absurd (refute ρ ((r ≺ l) ∷ hs) cs h (n, g)) ]

  -- a strict inequality whose denial is refuted
  pub prove_lt : (ρ : List A) (l r : Ex C) (hs : List (Atom C)) (cs : List C) → T (refutes ((r ≼ l) ∷ hs) cs) → Given ρ hs → ev K ρ l < ev K ρ r
  prove_lt ρ l r hs cs h g =
      elim (O.either (ev K ρ r) (ev K ρ l)) [ inl n ↦ absurd (refute ρ ((r ≼ l) ∷ hs) cs h (n, g)) | inr y ↦ y ]
