-- A normaliser of ring expressions, over any commutative ring.
--     CommRing A          the laws
--     Coefs R C           numbers C that compute, with their meaning in A
--     Ex C                expressions over the variables 0, 1, ..
--     norm                the polynomial of an expression
--     ring                two expressions whose difference has the polynomial 0 mean the same
use lib.Dec.{eqb→eq}
use Rattle.std.proofs.Common.{◌≡◌, ℕ, zero, suc, Bool, true, false, T, List, [], ◌∷◌, eqb, ltb, refl, sym, ap, ◌∙◌}

-- the operations and the laws of a commutative ring
pub record CommRing (A : Type 0) : Type 0 where
  pub 𝟘 : A
  pub 𝟙 : A
  pub ◌+◌ : A → A → A
  pub ◌*◌ : A → A → A
  pub neg : A → A
  infixl 65 ◌+◌
  infixl 70 ◌*◌
  pub add_comm : (a b : A) → a + b ≡ b + a
  pub add_assoc : (a b c : A) → (a + b) + c ≡ a + (b + c)
  pub add-zero : (a : A) → a + 𝟘 ≡ a
  pub add-neg : (a : A) → a + neg a ≡ 𝟘
  pub mul_comm : (a b : A) → a * b ≡ b * a
  pub mul_assoc : (a b c : A) → (a * b) * c ≡ a * (b * c)
  pub mul-one : (a : A) → a * 𝟙 ≡ a
  pub mul-add : (a b c : A) → a * (b + c) ≡ a * b + a * c

module _ {A : Type 0} (R : CommRing A) where
  open R use {𝟘, 𝟙, ◌+◌, ◌*◌, neg}

  infixl 65 ◌+◌
  infixl 70 ◌*◌
  pub zero-add : (a : A) → 𝟘 + a ≡ a
  zero-add a = R.add_comm 𝟘 a ∙ R.add-zero a

  pub add_left_comm : (a b c : A) → a + (b + c) ≡ b + (a + c)
  add_left_comm a b c = sym (R.add_assoc a b c) ∙ ap (λ x. x + c) (R.add_comm a b) ∙ R.add_assoc b a c

  pub mul_left_comm : (a b c : A) → a * (b * c) ≡ b * (a * c)
  mul_left_comm a b c = sym (R.mul_assoc a b c) ∙ ap (λ x. x * c) (R.mul_comm a b) ∙ R.mul_assoc b a c

  pub add-mul : (a b c : A) → (a + b) * c ≡ a * c + b * c
  add-mul a b c = simp (R.mul_comm, R.mul-add)

  pub add_swap : (a b c d : A) → (a + b) + (c + d) ≡ (a + c) + (b + d)
  add_swap a b c d = simp (R.add_assoc, add_left_comm, R.add_comm)

  pub mul_swap : (a b c d : A) → (a * b) * (c * d) ≡ (a * c) * (b * d)
  mul_swap a b c d = simp (R.mul_assoc, mul_left_comm, R.mul_comm)

  pub neg_unique : (a b : A) → a + b ≡ 𝟘 → b ≡ neg a
  neg_unique a b e =
      sym (R.add-zero b) ∙ ap (λ x. b + x) (sym (R.add-neg a)) ∙ sym (R.add_assoc b a (neg a))
      ∙ ap (λ x. x + neg a) (R.add_comm b a ∙ e) ∙ zero-add (neg a)

  pub add_cancel : (a b : A) → a + b ≡ a → b ≡ 𝟘
  add_cancel a b e =
      sym (zero-add b) ∙ ap (λ x. x + b) (sym (R.add_comm (neg a) a ∙ R.add-neg a)) ∙ R.add_assoc (neg a) a b
      ∙ ap (λ x. neg a + x) e ∙ R.add_comm (neg a) a ∙ R.add-neg a

  pub mul-zero : (a : A) → a * 𝟘 ≡ 𝟘
  mul-zero a = add_cancel (a * 𝟘) (a * 𝟘) (sym (R.mul-add a 𝟘 𝟘) ∙ ap (λ x. a * x) (R.add-zero 𝟘))

  pub zero-mul : (a : A) → 𝟘 * a ≡ 𝟘
  zero-mul a = R.mul_comm 𝟘 a ∙ mul-zero a

  pub neg-add : (a b : A) → neg (a + b) ≡ neg a + neg b
  neg-add a b = sym (neg_unique (a + b) (neg a + neg b) (add_swap a b (neg a) (neg b) ∙ ap (λ x. x + (b + neg b)) (R.add-neg a) ∙ zero-add (b + neg b) ∙ R.add-neg b))

  pub mul-neg : (a b : A) → a * neg b ≡ neg (a * b)
  mul-neg a b = neg_unique (a * b) (a * neg b) (sym (R.mul-add a b (neg b)) ∙ ap (λ x. a * x) (R.add-neg b) ∙ mul-zero a)

  pub neg-mul : (a b : A) → neg a * b ≡ neg (a * b)
  neg-mul a b = R.mul_comm (neg a) b ∙ mul-neg b a ∙ ap neg (R.mul_comm b a)

  pub neg-neg : (a : A) → neg (neg a) ≡ a
  neg-neg a = sym (neg_unique (neg a) a (R.add_comm (neg a) a ∙ R.add-neg a))

  pub neg-zero : neg 𝟘 ≡ 𝟘
  neg-zero = sym (neg_unique 𝟘 𝟘 (R.add-zero 𝟘))

  pub eq_of_sub : (a b : A) → a + neg b ≡ 𝟘 → a ≡ b
  eq_of_sub a b e = sym (neg-neg a) ∙ sym (ap neg (neg_unique a (neg b) e)) ∙ neg-neg b

  pub sub_of_eq : (a b : A) → a ≡ b → a + neg b ≡ 𝟘
  sub_of_eq a b e = ap (λ x. x + neg b) e ∙ R.add-neg b

-- numbers that compute
pub record Coefs {A : Type 0} (R : CommRing A) (C : Type 0) : Type 0 where
  pub hom : C → A
  pub cone : C
  pub cadd : C → C → C
  pub cmul : C → C → C
  pub cneg : C → C
  pub is_zero : C → Bool
  pub hom-one : hom cone ≡ R.𝟙
  pub hom-add : (a b : C) → hom (cadd a b) ≡ R.◌+◌ (hom a) (hom b)
  pub hom-mul : (a b : C) → hom (cmul a b) ≡ R.◌*◌ (hom a) (hom b)
  pub hom-neg : (a : C) → hom (cneg a) ≡ R.neg (hom a)
  pub hom-zero : (a : C) → T (is_zero a) → hom a ≡ R.𝟘

infixl 65 ◌⊕◌ ◌⊝◌
infixl 70 ◌⊗◌
-- an expression: variables by number, numerals, sums, differences, products and negations
pub data Ex (C : Type 0) : Type 0 where
  var : ℕ → Ex C
  con : C → Ex C
  ◌⊕◌ ◌⊝◌ ◌⊗◌ : Ex C → Ex C → Ex C
  minus : Ex C → Ex C

-- a sum of terms: a product of variables, by its numbers in order, and a coefficient
pub data Poly (C : Type 0) : Type 0 where
  end : Poly C
  term : List ℕ → C → Poly C → Poly C

-- ---- products of variables
abbrev pub mono_eq : List ℕ → List ℕ → Bool
mono_eq [] [] = true
mono_eq (x ∷ m) (y ∷ n) = elim (eqb x y) [ true ↦ mono_eq m n | false ↦ false ]
mono_eq _ _ = false

-- fewer variables first, then by the variables
abbrev pub mono_lt : List ℕ → List ℕ → Bool
mono_lt [] [] = false
mono_lt [] (y ∷ n) = true
mono_lt (x ∷ m) [] = false
mono_lt (x ∷ m) (y ∷ n) = elim (ltb x y) [ true ↦ true | false ↦ elim (eqb x y) [ true ↦ mono_lt m n | false ↦ false ] ]

-- a variable put in its place
abbrev pub ins_var : ℕ → List ℕ → List ℕ
ins_var v [] = v ∷ []
ins_var v (w ∷ m) = elim (ltb w v) [ true ↦ w ∷ ins_var v m | false ↦ v ∷ w ∷ m ]

-- the product of two products
abbrev pub mul_mono : List ℕ → List ℕ → List ℕ
mul_mono [] n = n
mul_mono (v ∷ m) n = ins_var v (mul_mono m n)

by_bool : {X : Type 0} (P : X → Type 0) (b : Bool) (x y : X) → (T b → P x) → P y → P (elim b [ true ↦ x | false ↦ y ])
by_bool P true x y f g = f tt
by_bool P false x y f g = g

both : (b c : Bool) → T (elim b [ true ↦ c | false ↦ false ]) → T b × T c
both true c h = (tt, h)
both false c h = absurd h

same_mono : (m n : List ℕ) → T (mono_eq m n) → m ≡ n
same_mono [] [] h = refl
same_mono [] (y ∷ n) h = absurd h
same_mono (x ∷ m) [] h = absurd h
same_mono (x ∷ m) (y ∷ n) h =
    let k = both (eqb x y) (mono_eq m n) h in
    ap (λ z. z ∷ m) (eqb→eq x y k.0) ∙ ap (λ l. y ∷ l) (same_mono m n k.1)

-- an equation l = r, and the factor by which it is used
pub record Use (C : Type 0) : Type 0 where
  pub factor : Ex C
  pub left : Ex C
  pub right : Ex C

-- such an equation from its factor and its sides
abbrev pub eqn : {C : Type 0} → Ex C → Ex C → Ex C → Use C
eqn c l r = record { factor = c; left = l; right = r }

module _ {A C : Type 0} {R : CommRing A} (K : Coefs R C) where
  open R use {𝟘, 𝟙, ◌+◌, ◌*◌, neg}

  infixl 65 ◌+◌
  infixl 70 ◌*◌
  open K use {hom, cone, cadd, cmul, cneg, is_zero}

  -- the value of a variable; 0 past the end of the list
  abbrev pub at : List A → ℕ → A
  at [] n = 𝟘
  at (x ∷ xs) zero = x
  at (x ∷ xs) (suc n) = at xs n

  -- what an expression means
  abbrev pub ev : List A → Ex C → A
  ev ρ (var n) = at ρ n
  ev ρ (con c) = hom c
  ev ρ (a ⊕ b) = ev ρ a + ev ρ b
  ev ρ (a ⊝ b) = ev ρ a + neg (ev ρ b)
  ev ρ (a ⊗ b) = ev ρ a * ev ρ b
  ev ρ (minus a) = neg (ev ρ a)

  -- a polynomial with a term added
  abbrev pub add_term : List ℕ → C → Poly C → Poly C
  add_term m c end = term m c end
  add_term m c (term n d q) = elim (mono_eq m n) [
    | true ↦ term n (cadd c d) q
    | false ↦ elim (mono_lt m n) [ true ↦ term m c (term n d q) | false ↦ term n d (add_term m c q) ]
  ]

  -- the sum of two polynomials
  abbrev pub add_poly : Poly C → Poly C → Poly C
  add_poly end q = q
  add_poly (term m c p) q = add_term m c (add_poly p q)

  -- the negated polynomial
  abbrev pub neg_poly : Poly C → Poly C
  neg_poly end = end
  neg_poly (term m c p) = term m (cneg c) (neg_poly p)

  -- a polynomial times a term
  abbrev pub scale : List ℕ → C → Poly C → Poly C
  scale m c end = end
  scale m c (term n d q) = add_term (mul_mono m n) (cmul c d) (scale m c q)

  -- the product of two polynomials
  abbrev pub mul_poly : Poly C → Poly C → Poly C
  mul_poly end q = end
  mul_poly (term m c p) q = add_poly (scale m c q) (mul_poly p q)

  -- the polynomial of an expression
  abbrev pub norm : Ex C → Poly C
  norm (var n) = term (n ∷ []) cone end
  norm (con c) = term [] c end
  norm (a ⊕ b) = add_poly (norm a) (norm b)
  norm (a ⊝ b) = add_poly (norm a) (neg_poly (norm b))
  norm (a ⊗ b) = mul_poly (norm a) (norm b)
  norm (minus a) = neg_poly (norm a)

  -- the test that every coefficient is 0
  abbrev pub all_zero : Poly C → Bool
  all_zero end = true
  all_zero (term m c p) = elim (is_zero c) [ true ↦ all_zero p | false ↦ false ]

  -- what a product of variables means
  abbrev ev_mono : List A → List ℕ → A
  ev_mono ρ [] = 𝟙
  ev_mono ρ (v ∷ m) = at ρ v * ev_mono ρ m

  -- what a polynomial means
  abbrev ev_poly : List A → Poly C → A
  ev_poly ρ end = 𝟘
  ev_poly ρ (term m c p) = hom c * ev_mono ρ m + ev_poly ρ p

  -- ---- the polynomial means what the expression means
  ins_var_is : (ρ : List A) (v : ℕ) (m : List ℕ) → ev_mono ρ (ins_var v m) ≡ at ρ v * ev_mono ρ m
  ins_var_is ρ v [] = refl
  ins_var_is ρ v (w ∷ m) =
      by_bool (λ l. ev_mono ρ l ≡ at ρ v * (at ρ w * ev_mono ρ m)) (ltb w v) (w ∷ ins_var v m) (v ∷ w ∷ m)
      (λ _. ap (λ x. at ρ w * x) (ins_var_is ρ v m) ∙ mul_left_comm R (at ρ w) (at ρ v) (ev_mono ρ m)) refl

  mul_mono_is : (ρ : List A) (m n : List ℕ) → ev_mono ρ (mul_mono m n) ≡ ev_mono ρ m * ev_mono ρ n
  mul_mono_is ρ [] n = sym (R.mul_comm 𝟙 (ev_mono ρ n) ∙ R.mul-one (ev_mono ρ n))
  mul_mono_is ρ (v ∷ m) n =
      ins_var_is ρ v (mul_mono m n) ∙ ap (λ x. at ρ v * x) (mul_mono_is ρ m n) ∙ sym (R.mul_assoc (at ρ v) (ev_mono ρ m) (ev_mono ρ n))

  add_term_is : (ρ : List A) (m : List ℕ) (c : C) (p : Poly C) → ev_poly ρ (add_term m c p) ≡ hom c * ev_mono ρ m + ev_poly ρ p
  add_term_is ρ m c end = refl
  add_term_is ρ m c (term n d q) =
      by_bool (λ p. ev_poly ρ p ≡ hom c * ev_mono ρ m + ev_poly ρ (term n d q)) (mono_eq m n) _ _
      (λ t. let e = same_mono m n t in
      ap (λ x. x * ev_mono ρ n + ev_poly ρ q) (K.hom-add c d)
      ∙ ap (λ x. x + ev_poly ρ q) (add-mul R (hom c) (hom d) (ev_mono ρ n))
      ∙ R.add_assoc (hom c * ev_mono ρ n) (hom d * ev_mono ρ n) (ev_poly ρ q)
      ∙ ap (λ l. hom c * ev_mono ρ l + ev_poly ρ (term n d q)) (sym e))
      (by_bool (λ p. ev_poly ρ p ≡ hom c * ev_mono ρ m + ev_poly ρ (term n d q)) (mono_lt m n) _ _
      (λ _. refl)
      (ap (λ x. hom d * ev_mono ρ n + x) (add_term_is ρ m c q)
      ∙ add_left_comm R (hom d * ev_mono ρ n) (hom c * ev_mono ρ m) (ev_poly ρ q)))

  add_poly_is : (ρ : List A) (p q : Poly C) → ev_poly ρ (add_poly p q) ≡ ev_poly ρ p + ev_poly ρ q
  add_poly_is ρ end q = sym (zero-add R (ev_poly ρ q))
  add_poly_is ρ (term m c p) q =
      add_term_is ρ m c (add_poly p q) ∙ ap (λ x. hom c * ev_mono ρ m + x) (add_poly_is ρ p q)
      ∙ sym (R.add_assoc (hom c * ev_mono ρ m) (ev_poly ρ p) (ev_poly ρ q))

  neg_poly_is : (ρ : List A) (p : Poly C) → ev_poly ρ (neg_poly p) ≡ neg (ev_poly ρ p)
  neg_poly_is ρ end = sym (neg-zero R)
  neg_poly_is ρ (term m c p) =
      ap (λ x. x * ev_mono ρ m + ev_poly ρ (neg_poly p)) (K.hom-neg c)
      ∙ ap (λ x. x + ev_poly ρ (neg_poly p)) (neg-mul R (hom c) (ev_mono ρ m))
      ∙ ap (λ x. neg (hom c * ev_mono ρ m) + x) (neg_poly_is ρ p)
      ∙ sym (neg-add R (hom c * ev_mono ρ m) (ev_poly ρ p))

  scale_is : (ρ : List A) (m : List ℕ) (c : C) (p : Poly C) → ev_poly ρ (scale m c p) ≡ (hom c * ev_mono ρ m) * ev_poly ρ p
  scale_is ρ m c end = sym (mul-zero R (hom c * ev_mono ρ m))
  scale_is ρ m c (term n d q) =
      add_term_is ρ (mul_mono m n) (cmul c d) (scale m c q)
      ∙ ap (λ x. x * ev_mono ρ (mul_mono m n) + ev_poly ρ (scale m c q)) (K.hom-mul c d)
      ∙ ap (λ x. (hom c * hom d) * x + ev_poly ρ (scale m c q)) (mul_mono_is ρ m n)
      ∙ ap (λ x. x + ev_poly ρ (scale m c q)) (mul_swap R (hom c) (hom d) (ev_mono ρ m) (ev_mono ρ n))
      ∙ ap (λ x. (hom c * ev_mono ρ m) * (hom d * ev_mono ρ n) + x) (scale_is ρ m c q)
      ∙ sym (R.mul-add (hom c * ev_mono ρ m) (hom d * ev_mono ρ n) (ev_poly ρ q))

  mul_poly_is : (ρ : List A) (p q : Poly C) → ev_poly ρ (mul_poly p q) ≡ ev_poly ρ p * ev_poly ρ q
  mul_poly_is ρ end q = sym (zero-mul R (ev_poly ρ q))
  mul_poly_is ρ (term m c p) q =
      add_poly_is ρ (scale m c q) (mul_poly p q)
      ∙ ap (λ x. x + ev_poly ρ (mul_poly p q)) (scale_is ρ m c q)
      ∙ ap (λ x. (hom c * ev_mono ρ m) * ev_poly ρ q + x) (mul_poly_is ρ p q)
      ∙ sym (add-mul R (hom c * ev_mono ρ m) (ev_poly ρ p) (ev_poly ρ q))

  norm_is : (ρ : List A) (a : Ex C) → ev_poly ρ (norm a) ≡ ev ρ a
  norm_is ρ (var n) =
      R.add-zero (hom cone * (at ρ n * 𝟙)) ∙ ap (λ x. x * (at ρ n * 𝟙)) K.hom-one
      ∙ R.mul_comm 𝟙 (at ρ n * 𝟙) ∙ R.mul-one (at ρ n * 𝟙) ∙ R.mul-one (at ρ n)
  norm_is ρ (con c) = R.add-zero (hom c * 𝟙) ∙ R.mul-one (hom c)
  norm_is ρ (a ⊕ b) =
      add_poly_is ρ (norm a) (norm b) ∙ ap (λ x. x + ev_poly ρ (norm b)) (norm_is ρ a) ∙ ap (λ x. ev ρ a + x) (norm_is ρ b)
  norm_is ρ (a ⊝ b) =
      add_poly_is ρ (norm a) (neg_poly (norm b)) ∙ ap (λ x. x + ev_poly ρ (neg_poly (norm b))) (norm_is ρ a)
      ∙ ap (λ x. ev ρ a + x) (neg_poly_is ρ (norm b) ∙ ap neg (norm_is ρ b))
  norm_is ρ (a ⊗ b) =
      mul_poly_is ρ (norm a) (norm b) ∙ ap (λ x. x * ev_poly ρ (norm b)) (norm_is ρ a) ∙ ap (λ x. ev ρ a * x) (norm_is ρ b)
  norm_is ρ (minus a) = neg_poly_is ρ (norm a) ∙ ap neg (norm_is ρ a)

  all_zero_is : (ρ : List A) (p : Poly C) → T (all_zero p) → ev_poly ρ p ≡ 𝟘
  all_zero_is ρ end h = refl
  all_zero_is ρ (term m c p) h =
      let k = both (is_zero c) (all_zero p) h in
      ap (λ x. x * ev_mono ρ m + ev_poly ρ p) (K.hom-zero c k.0)
      ∙ ap (λ x. x + ev_poly ρ p) (zero-mul R (ev_mono ρ m)) ∙ zero-add R (ev_poly ρ p) ∙ all_zero_is ρ p k.1

  -- an expression whose polynomial is 0 means 0
  pub ring_zero : (ρ : List A) (a : Ex C) → T (all_zero (norm a)) → ev ρ a ≡ 𝟘
  ring_zero ρ a h = sym (norm_is ρ a) ∙ all_zero_is ρ (norm a) h

  -- two expressions of one polynomial mean the same
  pub ring : (ρ : List A) (a b : Ex C) → T (all_zero (norm (a ⊝ b))) → ev ρ a ≡ ev ρ b
  ring ρ a b h = eq_of_sub R (ev ρ a) (ev ρ b) (ring_zero ρ (a ⊝ b) h)

  -- an equation from others, each times a factor
  abbrev pub Equal : List A → List (Use C) → Type 0
  Equal ρ [] = Unit {0}
  Equal ρ (u ∷ us) = (ev ρ u.left ≡ ev ρ u.right) × Equal ρ us

  -- an expression less each equation times its factor
  abbrev pub less_uses : Ex C → List (Use C) → Ex C
  less_uses e [] = e
  less_uses e (u ∷ us) = less_uses e us ⊝ u.factor ⊗ (u.left ⊝ u.right)

  uses_zero : (ρ : List A) (e : Ex C) (us : List (Use C)) → Equal ρ us → ev ρ (less_uses e us) ≡ ev ρ e
  uses_zero ρ e [] g = refl
  uses_zero ρ e (u ∷ us) g =
      ap (λ x. ev ρ (less_uses e us) + neg (ev ρ u.factor * x)) (sub_of_eq R (ev ρ u.left) (ev ρ u.right) g.0)
      ∙ ap (λ x. ev ρ (less_uses e us) + neg x) (mul-zero R (ev ρ u.factor))
      ∙ ap (λ x. ev ρ (less_uses e us) + x) (neg-zero R) ∙ R.add-zero (ev ρ (less_uses e us)) ∙ uses_zero ρ e us g.1

  -- an equation that follows from others
  pub ring_by : (ρ : List A) (a b : Ex C) (us : List (Use C)) → T (all_zero (norm (less_uses (a ⊝ b) us))) → Equal ρ us → ev ρ a ≡ ev ρ b
  ring_by ρ a b us h g = eq_of_sub R (ev ρ a) (ev ρ b) (sym (uses_zero ρ (a ⊝ b) us g) ∙ ring_zero ρ (less_uses (a ⊝ b) us) h)
