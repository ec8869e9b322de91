-- Two terms of any one type are one or two, and a choice between two literals is a simpler formula where one is a truth value or both have one atom.
use Rattle.std.proofs.Common.{◌≡◌, ◌∙◌, Bool, true, false, not, ◌||◌, List, [], ◌∷◌, refl, sym, ap, if◌then◌else◌, cond}
use Rattle.std.specs.declared.cmp.Ordering.{Ordering}
use Rattle.std.specs.declared.cmp.Ordering.TheVariants.{Less, Equal, Greater}
use Rattle.std.specs.Ordering.{match_ordering, is_eq, bool_cmp, ordering_then}
use Rattle.y_tree.specs.Sorts.{Sort, boolean, same_sort, is_sort}
use Rattle.y_tree.specs.Values.{Value, truth, has_sort, same_value}
use Rattle.y_tree.specs.Meaning.{is_odd, truth_of}
use Rattle.y_tree.specs.Laws.{SameSortIsEqual, SameValueIsEquivalence}
use Rattle.term_shapes.specs.declared.handles.Term.{Term}
use Rattle.term_sketches.specs.declared.items.Literal.{Literal}
use Rattle.term_sketches.specs.declared.items.Sketch.{Sketch}
use Rattle.term_sketches.specs.Sketches.{the_truth, plain, opposite, term_order, same_term, same_literal, is_constant, joined, without_truth, parity_of, branched, chosen}
use Rattle.term_sketches.specs.Valuing.{IsValuation, signed, literal_value, literal_truth, flagged, sketch_value}
use Rattle.term_sketches.proofs.Gates.{gate}
use Rattle.term_sketches.proofs.Joins.{term_same, literal_same}
use Rattle.term_sketches.proofs.Valued.{truth_signed, IsTruth, atom_truth, value_as, value_constant, truth_opposite, join_means, parity_means, same_of_two}

pub if_cases : {X : Type 0} (P : X → Type 0) (b : Bool) (x y : X) → (b ≡ true → P x) → (b ≡ false → P y) → P (if b then x else y)
if_cases {X} P b x y f g =
    let go : (t : Bool) → b ≡ t → P (if t then x else y) = λ t. elim t as (λ t. b ≡ t → P (if t then x else y)) [ true ↦ f | false ↦ g ] in go b refl

same_both : {X : Type 0} (b : Bool) (x : X) → (if b then x else x) ≡ x
same_both true x = refl
same_both false x = refl

one_if : (b : Bool) → (if b then true else false) ≡ b
one_if true = refl
one_if false = refl

unlike : (b : Bool) → b ≡ flagged (not b) true
unlike true = refl
unlike false = refl

same_both_ways : (a b : Bool) → (a ≡ true → b ≡ true) → (b ≡ true → a ≡ true) → a ≡ b
same_both_ways true b f g = sym (f refl)
same_both_ways false true f g = g refl
same_both_ways false false f g = refl

pub opposite_signs : (o : Ordering) (m n : Bool) → is_eq o ≡ true → is_eq (ordering_then o (bool_cmp m n)) ≡ false → n ≡ not m
opposite_signs Less m n h i = absurd (cc h)
opposite_signs Greater m n h i = absurd (cc h)
opposite_signs Equal true true h i = absurd (cc i)
opposite_signs Equal true false h i = refl
opposite_signs Equal false true h i = refl
opposite_signs Equal false false h i = absurd (cc i)

first_true : (n x y : Bool) → gate n (flagged n x) (gate n y n) ≡ (if x then not n else y)
first_true true true true = refl
first_true true true false = refl
first_true true false true = refl
first_true true false false = refl
first_true false true true = refl
first_true false true false = refl
first_true false false true = refl
first_true false false false = refl

second_true : (n x y : Bool) → gate n (flagged (not n) x) (gate n y n) ≡ (if x then y else not n)
second_true true true true = refl
second_true true true false = refl
second_true true false true = refl
second_true true false false = refl
second_true false true true = refl
second_true false true false = refl
second_true false false true = refl
second_true false false false = refl

both_opposite : (x y : Bool) → flagged true (is_odd (x ∷ y ∷ [])) ≡ (if x then y else not y)
both_opposite true true = refl
both_opposite true false = refl
both_opposite false true = refl
both_opposite false false = refl

truth_chosen : (x p q : Bool) → truth (if x then p else q) ≡ (if x then truth p else truth q)
truth_chosen true p q = refl
truth_chosen false p q = refl

signed_true : (n : Bool) → signed n (truth true) ≡ truth (not n)
signed_true true = refl
signed_true false = refl

constant_choice : {X : Type 0} (v : X → Value) (n : Bool) (a b : X) → v (if n then b else a) ≡ (if not n then v a else v b)
constant_choice v true a b = refl
constant_choice v false a b = refl

turned_choice : {X : Type 0} (x : Bool) (a b : X) → (if x then b else a) ≡ (if not x then a else b)
turned_choice true a b = refl
turned_choice false a b = refl

pub one_negated : (m n : Bool) (s : Sort) → n ≡ not m → (m ≡ true → s ≡ boolean) → (n ≡ true → s ≡ boolean) → s ≡ boolean
one_negated true n s e f g = f refl
one_negated false n s e f g = g e

module _ (v : Term → Value) (k : Term → Sort) (val : IsValuation v k) (sorts : SameSortIsEqual) (equivalence : SameValueIsEquivalence) where
  -- the literal's atom has the type, and what is negated is a truth value
  abbrev pub IsOf : Sort → Literal → Type 0
  IsOf s l = (k l.atom ≡ s) × (l.negated ≡ true → s ≡ boolean)

  pub sorted_as : (t : Term) (s : Sort) → k t ≡ s → (is_sort s ≡ true) × (has_sort (v t) s ≡ true)
  sorted_as t s e = (sym (ap is_sort e) ∙ val.limits t, sym (ap (has_sort (v t)) e) ∙ val.typed t)

  pub same_turned : (t u : Term) (s : Sort) → k t ≡ s → k u ≡ s → same_value s (v t) (v u) ≡ same_value s (v u) (v t)
  same_turned t u s e f =
      let a = sorted_as t s e in
      let b = sorted_as u s f in
      same_both_ways (same_value s (v t) (v u)) (same_value s (v u) (v t))
      ((equivalence s a.0).back (v t) (v u) a.1 b.1) ((equivalence s a.0).back (v u) (v t) b.1 a.1)

  pub same_itself : (t u : Term) (s : Sort) → k t ≡ s → t ≡ u → same_value s (v t) (v u) ≡ true
  same_itself t u s e is = ap (λ w. same_value s (v t) (v w)) (sym is) ∙ (equivalence s (sorted_as t s e).0).itself (v t) (sorted_as t s e).1

  not_truth : (t : Term) (s : Sort) → k t ≡ s → (s ≡ boolean → ⊥) → same_term t the_truth ≡ false
  not_truth t s e other =
      let go : (b : Bool) → same_term t the_truth ≡ b → b ≡ false =
      λ b. elim b as (λ b. same_term t the_truth ≡ b → b ≡ false) [ true ↦ λ h. absurd (other (sym e ∙ ap k (term_same t the_truth h) ∙ val.true_sort)) | false ↦ λ h. refl ]
      in go (same_term t the_truth) refl

  equal_means : (b : Bool) (t u : Term) (s : Sort) → k t ≡ s → (s ≡ boolean → ⊥) → sketch_value v k (without_truth b (t ∷ u ∷ [])) ≡ truth (flagged (not b) (same_value s (v t) (v u)))
  equal_means b t u s e other = rw (not_truth t s e other) (ap (λ r. truth (flagged (not b) (same_value r (v t) (v u)))) e)

  pair_plain : (b : Bool) (t u : Term) (s : Sort) → k t ≡ s → k u ≡ s → (s ≡ boolean → ⊥) → sketch_value v k (parity_of b (plain t ∷ plain u ∷ [])) ≡ truth (flagged (not b) (same_value s (v t) (v u)))
  pair_plain b t u s e f other =
      let made : Ordering → List Term = λ o. if is_eq o || false then cond (is_eq o) [] (u ∷ []) else match_ordering o (t ∷ u ∷ []) (u ∷ []) (u ∷ t ∷ []) in
      let go : (o : Ordering) → term_order t u ≡ o → sketch_value v k (without_truth b (made o)) ≡ truth (flagged (not b) (same_value s (v t) (v u))) =
      λ o. elim o as (λ o. term_order t u ≡ o → sketch_value v k (without_truth b (made o)) ≡ truth (flagged (not b) (same_value s (v t) (v u)))) [
        | Less ↦ λ h. equal_means b t u s e other
        | Equal ↦ λ h. value_constant v k val b ∙ ap truth (unlike b ∙ ap (flagged (not b)) (sym (same_itself t u s e (term_same t u (ap is_eq h)))))
        | Greater ↦ λ h. equal_means b u t s f other ∙ ap (λ x. truth (flagged (not b) x)) (same_turned u t s f e)
      ]
      in ap (λ c. sketch_value v k (without_truth c (made (term_order t u)))) (one_if b) ∙ go (term_order t u) refl

  is_plain : (l : Literal) (s : Sort) → IsOf s l → (s ≡ boolean → ⊥) → l ≡ plain l.atom
  is_plain l s p other =
      let go : (b : Bool) → l.negated ≡ b → b ≡ false = λ b. elim b as (λ b. l.negated ≡ b → b ≡ false) [ true ↦ λ h. absurd (other (p.1 h)) | false ↦ λ h. refl ] in
      ap (λ n. record { atom = l.atom; negated = n }) (go l.negated refl)

  pub plain_value : (l : Literal) (s : Sort) → IsOf s l → (s ≡ boolean → ⊥) → literal_value v l ≡ v l.atom
  plain_value l s p other = ap (literal_value v) (is_plain l s p other)

  is_boolean : (s : Sort) → same_sort boolean s ≡ true → s ≡ boolean
  is_boolean s h = sym ((sorts boolean s).0 h)

  pub not_boolean : (s : Sort) → same_sort boolean s ≡ false → s ≡ boolean → ⊥
  not_boolean s h e = absurd (cc (sym h ∙ (sorts boolean s).1 (sym e)))

  pub pair_means : (b : Bool) (l m : Literal) (s : Sort) → IsOf s l → IsOf s m
      → sketch_value v k (parity_of b (l ∷ m ∷ [])) ≡ truth (flagged (not b) (same_value s (literal_value v l) (literal_value v m)))
  pair_means b l m s p q =
      let goal : Type 0 = sketch_value v k (parity_of b (l ∷ m ∷ [])) ≡ truth (flagged (not b) (same_value s (literal_value v l) (literal_value v m))) in
      let go : (t : Bool) → same_sort boolean s ≡ t → goal =
      λ t. elim t as (λ t. same_sort boolean s ≡ t → goal) [
        | true ↦ λ h.
            let e : s ≡ boolean = is_boolean s h in
            parity_means v k val b (l ∷ m ∷ []) (p.0 ∙ e, (q.0 ∙ e, tt)) ∙ ap truth (sym (same_of_two b (literal_truth v l) (literal_truth v m)))
            ∙ ap (λ y. truth (flagged (not b) (same_value boolean (truth (literal_truth v l)) y))) (sym (value_as v k val m (q.0 ∙ e)))
            ∙ ap (λ x. truth (flagged (not b) (same_value boolean x (literal_value v m)))) (sym (value_as v k val l (p.0 ∙ e)))
            ∙ ap (λ r. truth (flagged (not b) (same_value r (literal_value v l) (literal_value v m)))) (sym e)
        | false ↦ λ h.
            let o = not_boolean s h in
            ap (λ x. sketch_value v k (parity_of b (x ∷ m ∷ []))) (is_plain l s p o) ∙ ap (λ y. sketch_value v k (parity_of b (plain l.atom ∷ y ∷ []))) (is_plain m s q o)
            ∙ pair_plain b l.atom m.atom s p.0 q.0 o ∙ ap (λ x. truth (flagged (not b) (same_value s x (v m.atom)))) (sym (plain_value l s p o))
            ∙ ap (λ y. truth (flagged (not b) (same_value s (literal_value v l) y))) (sym (plain_value m s q o))
      ]
      in go (same_sort boolean s) refl

  pub branch_means : (x : Term) (a b : Literal) (s : Sort) → k x ≡ boolean → IsOf s a → IsOf s b
      → sketch_value v k (branched x a b) ≡ (if atom_truth v k val x then literal_value v a else literal_value v b)
  branch_means x a b s kx p q =
      let t : Bool = truth_of (v x) in
      let is : Sketch → Type 0 = λ k'. sketch_value v k k' ≡ (if t then literal_value v a else literal_value v b) in
      let by_first : is_constant a ≡ true → is (joined a.negated (record { atom = x; negated = a.negated } ∷ b ∷ [])) =
      λ h.
      let n : Bool = a.negated in
      let e : s ≡ boolean = sym p.0 ∙ ap k (term_same a.atom the_truth h) ∙ val.true_sort in
      let va : literal_value v a ≡ truth (not n) = ap (λ w. signed n (v w)) (term_same a.atom the_truth h) ∙ ap (signed n) val.true_value ∙ signed_true n in
      join_means v k val n (record { atom = x; negated = n } ∷ b ∷ []) (kx, (q.0 ∙ e, tt))
      ∙ ap truth (ap (λ y. gate n y (gate n (literal_truth v b) n)) (truth_signed n (v x)) ∙ first_true n t (literal_truth v b))
      ∙ truth_chosen t (not n) (literal_truth v b) ∙ ap (λ y. if t then y else truth (literal_truth v b)) (sym va) ∙ ap (λ y. if t then literal_value v a else y) (sym (value_as v k val b (q.0 ∙ e)))
      in
      let by_second : is_constant b ≡ true → is (joined b.negated (record { atom = x; negated = not b.negated } ∷ a ∷ [])) =
      λ h.
      let n : Bool = b.negated in
      let e : s ≡ boolean = sym q.0 ∙ ap k (term_same b.atom the_truth h) ∙ val.true_sort in
      let vb : literal_value v b ≡ truth (not n) = ap (λ w. signed n (v w)) (term_same b.atom the_truth h) ∙ ap (signed n) val.true_value ∙ signed_true n in
      join_means v k val n (record { atom = x; negated = not n } ∷ a ∷ []) (kx, (p.0 ∙ e, tt))
      ∙ ap truth (ap (λ y. gate n y (gate n (literal_truth v a) n)) (truth_signed (not n) (v x)) ∙ second_true n t (literal_truth v a))
      ∙ truth_chosen t (literal_truth v a) (not n) ∙ ap (λ y. if t then truth (literal_truth v a) else y) (sym vb) ∙ ap (λ y. if t then y else literal_value v b) (sym (value_as v k val a (p.0 ∙ e)))
      in
      let by_sign : same_literal a b ≡ false → same_term a.atom b.atom ≡ true → is (parity_of true (plain x ∷ a ∷ [])) =
      λ h i.
      let n : b.negated ≡ not a.negated = opposite_signs (term_order a.atom b.atom) a.negated b.negated i h in
      let e : s ≡ boolean = one_negated a.negated b.negated s n p.1 q.1 in
      let o : b ≡ opposite a = ap (λ w. record { atom = w; negated = b.negated }) (sym (term_same a.atom b.atom i)) ∙ ap (λ m. record { atom = a.atom; negated = m }) n in
      let vb : literal_value v b ≡ truth (not (literal_truth v a)) = value_as v k val b (q.0 ∙ e) ∙ ap truth (ap (literal_truth v) o ∙ truth_opposite v k val a) in
      parity_means v k val true (plain x ∷ a ∷ []) (kx, (p.0 ∙ e, tt)) ∙ ap truth (both_opposite t (literal_truth v a)) ∙ truth_chosen t (literal_truth v a) (not (literal_truth v a))
      ∙ ap (λ y. if t then truth (literal_truth v a) else y) (sym vb) ∙ ap (λ y. if t then y else literal_value v b) (sym (value_as v k val a (p.0 ∙ e)))
      in
      if_cases is (same_literal a b) _ _
      (λ h. sym (ap (λ y. if t then literal_value v a else y) (ap (literal_value v) (sym (literal_same a b h))) ∙ same_both t (literal_value v a)))
      (λ h. if_cases is (is_constant a) _ _ by_first (λ i. if_cases is (is_constant b) _ _ by_second (λ j. if_cases is (same_term a.atom b.atom) _ _ (by_sign h) (λ l. refl))))

  pub choose_means : (c a b : Literal) (s : Sort) → IsTruth v k val c → IsOf s a → IsOf s b
      → sketch_value v k (chosen c a b) ≡ (if literal_truth v c then literal_value v a else literal_value v b)
  choose_means c a b s kc p q =
      let is : Sketch → Type 0 = λ k'. sketch_value v k k' ≡ (if literal_truth v c then literal_value v a else literal_value v b) in
      let t : Bool = truth_of (v c.atom) in
      if_cases is (is_constant c) _ _
      (λ h.
      constant_choice (literal_value v) c.negated a b
      ∙ ap (λ y. if y then literal_value v a else literal_value v b)
      (sym (ap (λ w. truth_of (signed c.negated (v w))) (term_same c.atom the_truth h) ∙ ap (λ w. truth_of (signed c.negated w)) val.true_value ∙ ap truth_of (signed_true c.negated))))
      (λ h. if_cases is c.negated _ _
      (λ n.
      branch_means c.atom b a s kc q p ∙ turned_choice t (literal_value v a) (literal_value v b)
      ∙ ap (λ y. if y then literal_value v a else literal_value v b) (sym (ap (λ m. truth_of (signed m (v c.atom))) n)))
      (λ n. branch_means c.atom a b s kc p q ∙ ap (λ y. if y then literal_value v a else literal_value v b) (sym (ap (λ m. truth_of (signed m (v c.atom))) n))))
