-- The operands of the concrete values are numbers of the problem, and the values meet its rows and bounds.
use Rattle.std.proofs.Common.{◌≡◌, ◌≢◌, ℕ, zero, suc, ◌<◌, Bool, true, false, List, [], ◌∷◌, ◌⊎◌, inl, inr, length, get_or, map, Some, pos, refl, sym, ap, ◌∙◌, subst, arith}
use Rattle.std.specs.Prelude.{Contains}
use Rattle.std.proofs.lemmas.List.{length-map, take_all}
use Rattle.rationals.specs.Rational.{ℚ, zero_ℚ, one_ℚ, ◌+ℚ◌, ◌*ℚ◌, ◌-ℚ◌, ◌<ℚ◌, ◌≤ℚ◌}
use Rattle.rationals.specs.Delta.{Delta, of_ℚ}
use Rattle.rationals.proofs.Ring.{var, con, ◌⊕◌, ◌⊗◌, ◌⊝◌}
use Rattle.rationals.proofs.RingQ as Q
use Rattle.rationals.proofs.RingQ.{coef, ring-ℚ}
use Rattle.rationals.proofs.Linear.{◌≼◌, ◌≺◌, ◌≈◌}
use Rattle.rationals.proofs.OrderQ as O
use Rattle.rationals.proofs.OrderQ.{signs_ℚ}
use Rattle.rationals.proofs.Finder.{lin_le, lin_lt}
use Rattle.fraction128.specs.declared.infinitesimal.Delta.{Delta as Fractions}
use Rattle.fraction128.specs.declared.errors.Wide.{Wide}
use Rattle.simplex_logic.specs.Forms.{Form, row_of, Solves, reals, infs, value}
use Rattle.simplex_logic.specs.Vectors.{at, dot, read, part, parts}
use Rattle.simplex_logic.specs.Concretes.{at_step}
use Rattle.simplex_logic.specs.Quantities.{Expression, In, Vertex, Value, bound, corner, Step, Quantity, one_is, stands_at, vertex_sum, difference, step_is, step_product}
use Rattle.simplex_logic.proofs.Concrete.{concrete_le}
use Rattle.simplex_logic.proofs.Pivot.{value_same}
use Rattle.simplex_logic.proofs.Quantity.{tabled_expression}
use Rattle.simplex_table.specs.View.{State, Sound, row_at, delta_of, delta_at}
use Rattle.simplex_table.specs.Causes.{op_fits}
use Rattle.simplex_bounds.specs.declared.Bound.{Bound}
use Rattle.simplex_bounds.specs.Ranges.{OnSide}
use Rattle.simplex_core.specs.Wides.{values_of, Known}
use Rattle.simplex_core.specs.Solving.{IsFound}
use Rattle.simplex_core.specs.Concrete.{WideOn, IsLargest, IsStepWide, reals_apart, infs_apart, divided, low_of, high_of, low_at, high_at, IsStepOf, is_one, is_largest, IsCommonStep, IsBoundWide, IsValueWide, product_wide, sum_wide, AreConcrete, IsSomeValueWide, OnSide_ℚ, IsConcrete}
use Rattle.simplex_core.proofs.TurnLemmas.{value_listed}
use Rattle.simplex_core.proofs.ConcreteLemmas.{side_le, le_of_lt}

-- ---- lists
get-map : (v : ℕ → Delta) (cs : List ℕ) (k : ℕ) → k < length cs → get_or (map v cs) k (of_ℚ zero_ℚ) ≡ v (get_or cs k 0)
get-map v [] k h = absurd (omega arith)
get-map v (c ∷ cs) zero h = refl
get-map v (c ∷ cs) (suc k) h = get-map v cs k (omega arith)

parts-map : (b : Bool) (v : ℕ → Delta) (cs : List ℕ) → parts b (map v cs) ≡ read (λ x. part b (v x)) cs
parts-map b v [] = refl
parts-map b v (c ∷ cs) = ap (λ l. part b (v c) ∷ l) (parts-map b v cs)

dot_none : (xs : List ℚ) → dot xs [] ≡ zero_ℚ
dot_none [] = refl
dot_none (x ∷ xs) = refl

-- one member of a basis at a bound, the others at 0
abbrev first_at : Delta → List ℕ → List Delta
first_at d [] = []
first_at d (c ∷ cs) = d ∷ map (λ (x : ℕ). of_ℚ zero_ℚ) cs

vertex_first : (cs : List ℕ) (C : List Delta) (d : Delta) → In d C → Vertex cs C (first_at d cs)
vertex_first [] C d i = record { long = refl; stands = λ k h. absurd (omega arith) }
vertex_first (c ∷ cs) C d i = record {
  long = ap suc (length-map cs (λ (x : ℕ). of_ℚ zero_ℚ));
  stands = λ k. stands k;
}
  where
    stands : (k : ℕ) → k < suc (length cs) → (get_or (d ∷ map (λ (x : ℕ). of_ℚ zero_ℚ) cs) k (of_ℚ zero_ℚ) ≡ of_ℚ zero_ℚ) ⊎ In (get_or (d ∷ map (λ (x : ℕ). of_ℚ zero_ℚ) cs) k (of_ℚ zero_ℚ)) C
    stands zero h = inr i
    stands (suc k) h = inl (get-map (λ x. of_ℚ zero_ℚ) cs k (omega arith))

at_first : (b : Bool) (d : Delta) (cs : List ℕ) → 0 < length cs → part b d ≡ at (parts b (first_at d cs)) 0
at_first b d [] h = absurd (omega arith)
at_first b d (c ∷ cs) h = refl

positive_length : (cs : List ℕ) → (cs ≡ [] → ⊥) → 0 < length cs
positive_length [] h = absurd (h refl)
positive_length (c ∷ cs) h = omega arith

module _ (s : State) (bounds : List Bound) (values : List Fractions) (o : Sound s) (f : IsFound s bounds values) where
  abbrev v : ℕ → Delta
  v = delta_at values

  abbrev n : ℕ
  n = length s.rows

  abbrev C : List Delta
  C = values_of bounds

  abbrev y : List Delta
  y = map v s.columns

  abbrev Counts : ℚ → Type 0
  Counts = Quantity (row_of s.rows) n (Known s.rows) s.columns C

  vertex : Vertex s.columns C y
  vertex = record {
    long = length-map s.columns v;
    stands = λ k h. subst (λ d. (d ≡ of_ℚ zero_ℚ) ⊎ In d C) (sym (get-map v s.columns k h)) (f.stands k h);
  }

  solves : (b : Bool) → Solves (row_of s.rows) (λ x. part b (v x))
  solves true = f.solution.solves.0
  solves false = f.solution.solves.1

  expression : (x : ℕ) → x < n → Expression (row_of s.rows) x s.columns (row_at s.table x)
  expression x h = tabled_expression (row_of s.rows) n s.columns (row_at s.table) o.tabled x h

  value_is : (b : Bool) (x : ℕ) → x < n → part b (v x) ≡ dot (row_at s.table x) (parts b y)
  value_is b x h = o.tabled.expressed (λ z. part b (v z)) (solves b) x h ∙ ap (dot (row_at s.table x)) (sym (parts-map b v s.columns))

  corner_is : (b : Bool) (x : ℕ) → x < n → Value (row_of s.rows) s.columns C y b (part b (v x))
  corner_is b x h = corner x (row_at s.table x) (expression x h) (value_is b x h)

  value_quantity : (b : Bool) (x : ℕ) → x < n → Counts (part b (v x))
  value_quantity b x h =
      vertex_sum b y x (length s.columns) (row_at s.table x) vertex o.sorted (expression x h)
      (value_is b x h ∙ ap (λ r. dot r (parts b y)) (sym (take_all (length s.columns) (row_at s.table x) (let w = o.tabled.width x h in omega arith))))

  some_column : (b : Bool) (x : ℕ) → x < n → part b (v x) ≢ zero_ℚ → 0 < length s.columns
  some_column b x h d = positive_length s.columns (λ e. d (value_is b x h ∙ ap (λ cs. dot (row_at s.table x) (parts b (map v cs))) e ∙ dot_none (row_at s.table x)))

  bound_quantity : (b : Bool) (d : Delta) → In d C → 0 < length s.columns → Counts (part b d)
  bound_quantity b d i h = stands_at b (first_at d s.columns) 0 (vertex_first s.columns C d i) h (at_first b d s.columns h)

  module _ (x : ℕ) (hx : x < n) (limit : Delta) (il : In limit C) where
    abbrev Side : Delta → Type 0
    Side d = (d ≡ v x) ⊎ In d C

    low_side : (u : Bool) → Side (low_of u limit (v x))
    low_side true = inl refl
    low_side false = inr il

    high_side : (u : Bool) → Side (high_of u limit (v x))
    high_side true = inr il
    high_side false = inl refl

    side_value : (b : Bool) (d : Delta) → Side d → Value (row_of s.rows) s.columns C y b (part b d)
    side_value b d (inl e) = subst (λ z. Value (row_of s.rows) s.columns C y b (part b z)) (sym e) (corner_is b x hx)
    side_value b d (inr i) = bound d i refl

    side_quantity : (b : Bool) (d : Delta) → Side d → 0 < length s.columns → Counts (part b d)
    side_quantity b d (inl e) h = subst (λ z. Counts (part b z)) (sym e) (value_quantity b x hx)
    side_quantity b d (inr i) h = bound_quantity b d i h

    some_side : (u b : Bool) → part b (low_of u limit (v x)) ≢ zero_ℚ → part b (high_of u limit (v x)) ≢ zero_ℚ → 0 < length s.columns
    some_side true b h k = some_column b x hx h
    some_side false b h k = some_column b x hx k

    abbrev Both : Wide → Type 0
    Both w = Counts w.left × Counts w.right × (op_fits w.op w.left w.right ≡ false)

    both : (a b : ℚ) (w : Wide) → WideOn a b w → Counts a → Counts b → Both w
    both a b w h p q = (subst (λ z. Counts z) (sym h.left_is) p, subst (λ z. Counts z) (sym h.right_is) q, h.wide)

    pub step_operands : (u : Bool) (w : Wide) → IsStepWide (low_of u limit (v x)) (high_of u limit (v x)) w → Both w
    step_operands u w (reals_apart h) =
        let p = some_side u true h.right_some h.left_some in
        both (high_of u limit (v x)).real (low_of u limit (v x)).real w h.on (side_quantity true (high_of u limit (v x)) (high_side u) p) (side_quantity true (low_of u limit (v x)) (low_side u) p)
    step_operands u w (infs_apart h) =
        let p = some_side u false h.left_some h.right_some in
        both (low_of u limit (v x)).inf (high_of u limit (v x)).inf w h.on (side_quantity false (low_of u limit (v x)) (low_side u) p) (side_quantity false (high_of u limit (v x)) (high_side u) p)
    step_operands u w (divided h) =
        both ((high_of u limit (v x)).real -ℚ (low_of u limit (v x)).real) ((low_of u limit (v x)).inf -ℚ (high_of u limit (v x)).inf) w h
        (difference true y (high_of u limit (v x)).real (low_of u limit (v x)).real vertex (side_value true (high_of u limit (v x)) (high_side u)) (side_value true (low_of u limit (v x)) (low_side u)) refl)
        (difference false y (low_of u limit (v x)).inf (high_of u limit (v x)).inf vertex (side_value false (low_of u limit (v x)) (low_side u)) (side_value false (high_of u limit (v x)) (high_side u)) refl)

    pub step_of : (u : Bool) (e : ℚ) → IsLargest (low_of u limit (v x)) (high_of u limit (v x)) (Some e) → Step (row_of s.rows) s.columns C y e
    step_of u e h = record {
      above = (high_of u limit (v x)).real;
      under = (low_of u limit (v x)).real;
      left = (low_of u limit (v x)).inf;
      right = (high_of u limit (v x)).inf;
      above_is = side_value true (high_of u limit (v x)) (high_side u);
      under_is = side_value true (low_of u limit (v x)) (low_side u);
      left_is = side_value false (low_of u limit (v x)) (low_side u);
      right_is = side_value false (high_of u limit (v x)) (high_side u);
      apart = λ q. O.lt_irrefl (high_of u limit (v x)).inf (subst (λ z. (high_of u limit (v x)).inf <ℚ z) q h.0);
      is = h.1;
    }

  module _ (known : (b : Bound) → Contains bounds b → b.variable < n) where
    pub bound_operands : (w : Wide) → IsBoundWide bounds values w → Counts w.left × Counts w.right × (op_fits w.op w.left w.right ≡ false)
    bound_operands w h = step_operands h.bound.variable (known h.bound h.listed) (delta_of h.bound.value) (value_listed bounds h.bound h.listed) h.bound.upper w h.by

    step_quantity : (e : ℚ) → IsStepOf bounds values e → Counts e
    step_quantity e (is_one h) = one_is h
    step_quantity e (is_largest b i h) = step_is y e vertex (step_of b.variable (known b i) (delta_of b.value) (value_listed bounds b i) b.upper e h) refl

    one_times : (e q : ℚ) → e ≡ one_ℚ → q ≡ e *ℚ q
    one_times e q h = sym (ap (λ z. z *ℚ q) h ∙ Q.mul_comm_ℚ one_ℚ q ∙ Q.mul-one q)

    product_quantity : (e : ℚ) (x : ℕ) → x < n → IsStepOf bounds values e → Counts (e *ℚ (v x).inf)
    product_quantity e x hx (is_one h) = subst (λ z. Counts z) (one_times e (v x).inf h) (value_quantity false x hx)
    product_quantity e x hx (is_largest b i h) = step_product y e (v x).inf vertex (step_of b.variable (known b i) (delta_of b.value) (value_listed bounds b i) b.upper e h) (corner_is false x hx) refl

    value_operands_at : (e : ℚ) (x : ℕ) (w : Wide) → x < n → IsStepOf bounds values e → IsValueWide e (v x) w → Counts w.left × Counts w.right × (op_fits w.op w.left w.right ≡ false)
    value_operands_at e x w hx p (product_wide h) = (subst (λ z. Counts z) (sym h.left_is) (step_quantity e p), subst (λ z. Counts z) (sym h.right_is) (value_quantity false x hx), h.wide)
    value_operands_at e x w hx p (sum_wide h) = (subst (λ z. Counts z) (sym h.left_is) (value_quantity true x hx), subst (λ z. Counts z) (sym h.right_is) (product_quantity e x hx p), h.wide)

    pub value_operands : (e : ℚ) (w : Wide) → IsStepOf bounds values e → IsSomeValueWide e values n w → Counts w.left × Counts w.right × (op_fits w.op w.left w.right ≡ false)
    value_operands e w p h = value_operands_at e h.variable w h.inside p h.by

-- ---- the concrete values meet the rows
stepped : (e a b : ℚ) (d : Delta) → at_step e d ≡ d.real +ℚ e *ℚ d.inf
unfolding at_step
stepped e a b d = refl

linear_form : (ρ τ : ℕ → ℚ) (e : ℚ) (f : Form) → value (λ x. ρ x +ℚ e *ℚ τ x) f ≡ value ρ f +ℚ e *ℚ value τ f
linear_form ρ τ e [] = ring-ℚ (e ∷ []) (con (coef (pos 0) 0)) (con (coef (pos 0) 0) ⊕ var 0 ⊗ con (coef (pos 0) 0)) tt
linear_form ρ τ e (t ∷ f) =
    ap (λ z. t.by *ℚ (ρ t.of +ℚ e *ℚ τ t.of) +ℚ z) (linear_form ρ τ e f)
    ∙ ring-ℚ (t.by ∷ ρ t.of ∷ e ∷ τ t.of ∷ value ρ f ∷ value τ f ∷ []) (var 0 ⊗ (var 1 ⊕ var 2 ⊗ var 3) ⊕ (var 4 ⊕ var 2 ⊗ var 5)) (var 0 ⊗ var 1 ⊕ var 4 ⊕ var 2 ⊗ (var 0 ⊗ var 3 ⊕ var 5)) tt

sides : (u : Bool) (e : ℚ) (limit x : Delta) (q : ℚ) → q ≡ at_step e x → at_step e (low_of u limit x) ≤ℚ at_step e (high_of u limit x) → OnSide_ℚ u (at_step e limit) q
sides true e limit x q h k = subst (λ z. z ≤ℚ at_step e limit) (sym h) k
sides false e limit x q h k = subst (λ z. at_step e limit ≤ℚ z) (sym h) k

zero_product : (e i : ℚ) → i ≡ zero_ℚ → e *ℚ i ≡ zero_ℚ
zero_product e i h = ap (λ z. e *ℚ z) h ∙ ring-ℚ (e ∷ []) (var 0 ⊗ con (coef (pos 0) 0)) (con (coef (pos 0) 0)) tt

at_most_self : (a b : ℚ) → a ≡ b → a ≤ℚ b
at_most_self a b h = subst (λ z. a ≤ℚ z) h (lin_le signs_ℚ (a ∷ []) (var 0) (var 0) [] tt tt)

plain_low : (e a i q : ℚ) → zero_ℚ <ℚ e → (a +ℚ e *ℚ i) ≤ℚ q → (zero_ℚ <ℚ i) ⊎ (zero_ℚ ≡ i) → (a <ℚ q) ⊎ ((a ≡ q) × (i ≤ℚ zero_ℚ))
plain_low e a i q p h (inl k) =
    let m = O.mul_lt e i p k in inl (lin_lt signs_ℚ (e ∷ a ∷ i ∷ q ∷ []) (var 1) (var 3) ((var 1 ⊕ var 0 ⊗ var 2 ≼ var 3) ∷ (con (coef (pos 0) 0) ≺ var 0 ⊗ var 2) ∷ []) tt (h, (m, tt)))
plain_low e a i q p h (inr k) =
    let m = zero_product e i (sym k) in
    let g : a ≤ℚ q = lin_le signs_ℚ (e ∷ a ∷ i ∷ q ∷ []) (var 1) (var 3) ((var 1 ⊕ var 0 ⊗ var 2 ≼ var 3) ∷ (var 0 ⊗ var 2 ≈ con (coef (pos 0) 0)) ∷ []) tt (h, (m, tt)) in
    elim (O.lt_or_eq a q g) [ inl l ↦ inl l | inr d ↦ inr (d, at_most_self i zero_ℚ (sym k)) ]

plain_high : (e a i q : ℚ) → zero_ℚ <ℚ e → q ≤ℚ (a +ℚ e *ℚ i) → (i <ℚ zero_ℚ) ⊎ (i ≡ zero_ℚ) → (q <ℚ a) ⊎ ((q ≡ a) × (zero_ℚ ≤ℚ i))
plain_high e a i q p h (inl k) =
    let m = O.mul_lt e (zero_ℚ -ℚ i) p (O.sub_of_lt i zero_ℚ k) in
    inl (lin_lt signs_ℚ (e ∷ a ∷ i ∷ q ∷ []) (var 3) (var 1) ((var 3 ≼ var 1 ⊕ var 0 ⊗ var 2) ∷ (con (coef (pos 0) 0) ≺ var 0 ⊗ (con (coef (pos 0) 0) ⊝ var 2)) ∷ []) tt (h, (m, tt)))
plain_high e a i q p h (inr k) =
    let m = zero_product e i k in
    let g : q ≤ℚ a = lin_le signs_ℚ (e ∷ a ∷ i ∷ q ∷ []) (var 3) (var 1) ((var 3 ≼ var 1 ⊕ var 0 ⊗ var 2) ∷ (var 0 ⊗ var 2 ≈ con (coef (pos 0) 0)) ∷ []) tt (h, (m, tt)) in
    elim (O.lt_or_eq q a g) [ inl l ↦ inl l | inr d ↦ inr (d, at_most_self zero_ℚ i (sym k)) ]

plainly : (u : Bool) (e : ℚ) (limit : Delta) (q : ℚ) → zero_ℚ <ℚ e → OnSide_ℚ u zero_ℚ limit.inf → OnSide_ℚ u (at_step e limit) q → OnSide u limit (of_ℚ q)
plainly false e limit q p h k = record { le = plain_low e limit.real limit.inf q p (subst (λ z. z ≤ℚ q) (stepped e q q limit) k) (O.lt_or_eq zero_ℚ limit.inf h) }
plainly true e limit q p h k = record { le = plain_high e limit.real limit.inf q p (subst (λ z. q ≤ℚ z) (stepped e q q limit) k) (O.lt_or_eq limit.inf zero_ℚ h) }

module _ (s : State) (bounds : List Bound) (values : List Fractions) (f : IsFound s bounds values) (known : (b : Bound) → Contains bounds b → b.variable < length s.rows)
    (e : ℚ) (c : IsCommonStep bounds values e) (qs : List ℚ) (a : AreConcrete e values (length s.rows) qs) where
  concrete_at : (x : ℕ) → x < length s.rows → at qs x ≡ reals (delta_at values) x +ℚ e *ℚ infs (delta_at values) x
  concrete_at x h = a.each x h ∙ stepped e e e (delta_at values x)

  met_by : (b : Bound) → Contains bounds b → OnSide_ℚ b.upper (at_step e (delta_of b.value)) (at qs b.variable)
  met_by b i =
      sides b.upper e (delta_of b.value) (delta_at values b.variable) (at qs b.variable) (a.each b.variable (known b i))
      (concrete_le e (low_at b values) (high_at b values) (le_of_lt zero_ℚ e c.positive) (c.allowed b i) (side_le b.upper (delta_of b.value) (delta_at values b.variable) (f.solution.met b i)))

  pub concrete_is : IsConcrete s.rows bounds qs
  concrete_is = record {
    long = a.long;
    solves = λ x g q.
        let k = f.known x g q in
        concrete_at x k.0 ∙ ap (λ z. z +ℚ e *ℚ infs (delta_at values) x) (f.solution.solves.0 x g q) ∙ ap (λ z. value (reals (delta_at values)) g +ℚ e *ℚ z) (f.solution.solves.1 x g q)
        ∙ sym (linear_form (reals (delta_at values)) (infs (delta_at values)) e g)
        ∙ sym (value_same (at qs) (λ z. reals (delta_at values) z +ℚ e *ℚ infs (delta_at values) z) (length s.rows) g k.1 concrete_at);
    step = e;
    positive = c.positive;
    met = met_by;
    met_plainly = λ b i p. plainly b.upper e (delta_of b.value) (at qs b.variable) c.positive p (met_by b i);
  }
