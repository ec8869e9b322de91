-- What a sketch is made of has types that it takes.
use Rattle.std.proofs.Common.{◌≡◌, ◌∙◌, Bool, true, false, not, ◌&&◌, ◌||◌, List, [], ◌∷◌, Some, length, refl, sym, ap, subst, if◌then◌else◌, cond}
use Rattle.std.specs.Prelude.{nat_lt}
use Rattle.std.specs.declared.cmp.Ordering.TheVariants.{Less, Equal, Greater}
use Rattle.std.specs.Ordering.{match_ordering, is_eq}
use Rattle.std.specs.List.{list_all}
use Rattle.std.specs.BTreeSet.{insert_key}
use Rattle.std.proofs.lemmas.Bool.{and_parts}
use Rattle.std.proofs.lemmas.Option.{same_Some}
use Rattle.y_tree.specs.Sorts.{Sort, boolean, same_sort}
use Rattle.y_tree.specs.Typing.{typed, only_if, are, are_some}
use Rattle.y_tree.specs.Laws.{SameSortIsEqual}
use Rattle.term_shapes.specs.declared.handles.Term.{Term}
use Rattle.term_sketches.specs.declared.items.Literal.{Literal}
use Rattle.term_sketches.specs.declared.items.Sketch.{Sketch}
use Rattle.term_sketches.specs.declared.items.Sketch.TheVariants as sketch
use Rattle.term_sketches.specs.declared.items.Operator.{Operator}
use Rattle.term_sketches.specs.declared.items.Operator.TheVariants as operator
use Rattle.term_sketches.specs.Sketches.{the_truth, plain, opposite, constant, term_order, same_term, same_literal, is_constant, operator_of, gathered, decides, joined_as, settled, joined, odd_atoms, odd_rest, without_truth, is_odd_negated, parity_of, branched, chosen, all_placed, distinct_of, negated_first, implied, chosen_first, sketch_of}
use Rattle.term_sketches.specs.Valuing.{HaveTypes, call_sort, are_truths, AreOf, AreTruths, IsFilled, HasType, HasSketchType, SketchesHaveTypes}
use Rattle.term_sketches.proofs.Joins.{Each, term_same, each_gathered, each_odd, each_inserted}
use Rattle.term_sketches.proofs.Pairs.{if_cases, opposite_signs, one_negated}
use Rattle.term_sketches.proofs.Typings.{only_where, some_all, typed_one, typed_two, IsTyped, each_typed}

only_gives : (b : Bool) (r s : Sort) → only_if b r ≡ Some s → s ≡ r
only_gives true r s h = sym (same_Some r s h)
only_gives false r s h = absurd (cc h)

module _ (k : Term → Sort) (true_sort : k the_truth ≡ boolean) (law : SameSortIsEqual) where
  -- the literal is a truth value
  abbrev IsTrue : Literal → Type 0
  IsTrue l = k l.atom ≡ boolean

  -- the sketch has the type
  abbrev Gives : Sort → Sketch → Type 0
  Gives s sk = HasSketchType k sk s

  truths_are : (ls : List Literal) → Each IsTrue ls → AreTruths k ls
  truths_are [] es = tt
  truths_are (l ∷ ls) es = (es.0, truths_are ls es.1)

  terms_are : (s : Sort) (ts : List Term) → Each (λ t. k t ≡ s) ts → AreOf k s ts
  terms_are s [] es = tt
  terms_are s (t ∷ ts) es = (es.0, terms_are s ts es.1)

  given : (b : Bool) → Gives boolean (sketch.OneLiteral (constant b))
  given b = (true_sort, λ h. refl)

  gives_joined_as : (b : Bool) (l : Literal) (ls : List Literal) → Each IsTrue (l ∷ ls) → Gives boolean (joined_as b (l ∷ ls))
  gives_joined_as true l ls es = (refl, tt, truths_are (l ∷ ls) es)
  gives_joined_as false l ls es = (refl, tt, truths_are (l ∷ ls) es)

  gives_settled : (b : Bool) (ls : List Literal) → Each IsTrue ls → Gives boolean (settled b ls)
  gives_settled b [] es = given b
  gives_settled b (l ∷ []) es = (es.0, λ h. refl)
  gives_settled b (l ∷ m ∷ ls) es = if_cases (Gives boolean) (decides b (l ∷ m ∷ ls)) _ _ (λ h. given (not b)) (λ h. gives_joined_as b l (m ∷ ls) es)

  gives_joined : (b : Bool) (ls : List Literal) → Each IsTrue ls → Gives boolean (joined b ls)
  gives_joined b ls es = gives_settled b (gathered (constant b) ls) (each_gathered IsTrue (constant b) ls es)

  gives_rest : (b : Bool) (ts : List Term) → Each (λ t. k t ≡ boolean) ts → Gives boolean (odd_rest b ts)
  gives_rest b [] es = given b
  gives_rest b (t ∷ []) es = (es.0, λ h. refl)
  gives_rest b (t ∷ u ∷ []) es = (refl, es.0 ∙ sym es.1.0)
  gives_rest b (t ∷ u ∷ w ∷ ts) es = (refl, tt, terms_are boolean (t ∷ u ∷ w ∷ ts) es)

  gives_without : (b : Bool) (ts : List Term) → Each (λ t. k t ≡ boolean) ts → Gives boolean (without_truth b ts)
  gives_without b [] es = given b
  gives_without b (t ∷ ts) es = if_cases (Gives boolean) (same_term t the_truth) _ _ (λ h. gives_rest (not b) ts es.1) (λ h. gives_rest b (t ∷ ts) es)

  gives_parity : (b : Bool) (ls : List Literal) → Each IsTrue ls → Gives boolean (parity_of b ls)
  gives_parity b ls es = gives_without (if b then not (is_odd_negated ls) else is_odd_negated ls) (odd_atoms ls) (each_odd (λ t. k t ≡ boolean) ls es)

  not_truth : (t : Term) (s : Sort) → k t ≡ s → (s ≡ boolean → ⊥) → same_term t the_truth ≡ false
  not_truth t s e other =
      let go : (b : Bool) → same_term t the_truth ≡ b → b ≡ false =
      λ b. elim b as (λ b. same_term t the_truth ≡ b → b ≡ false) [ true ↦ λ h. absurd (other (sym e ∙ ap k (term_same t the_truth h) ∙ true_sort)) | false ↦ λ h. refl ]
      in go (same_term t the_truth) refl

  gives_equal : (b : Bool) (t u : Term) (s : Sort) → k t ≡ s → k u ≡ s → (s ≡ boolean → ⊥) → Gives boolean (without_truth b (t ∷ u ∷ []))
  gives_equal b t u s e f other = rw (not_truth t s e other) (refl, e ∙ sym f)

  gives_plain : (b : Bool) (t u : Term) (s : Sort) → k t ≡ s → k u ≡ s → (s ≡ boolean → ⊥) → Gives boolean (parity_of b (plain t ∷ plain u ∷ []))
  gives_plain b t u s e f other =
      elim (term_order t u) as (λ o. Gives boolean (without_truth (if b then true else false) (if is_eq o || false then cond (is_eq o) [] (u ∷ []) else match_ordering o (t ∷ u ∷ []) (u ∷ []) (u ∷ t ∷ [])))) [
        | Less ↦ gives_equal (if b then true else false) t u s e f other
        | Equal ↦ given (if b then true else false)
        | Greater ↦ gives_equal (if b then true else false) u t s f e other
      ]

  is_plain : (l : Literal) (s : Sort) → HasType k l s → (s ≡ boolean → ⊥) → plain l.atom ≡ l
  is_plain l s p other =
      let go : (b : Bool) → l.negated ≡ b → false ≡ b = λ b. elim b as (λ b. l.negated ≡ b → false ≡ b) [ true ↦ λ h. absurd (other (p.1 h)) | false ↦ λ h. refl ] in
      ap (λ n. record { atom = l.atom; negated = n }) (go l.negated refl)

  gives_pair : (b : Bool) (l m : Literal) (s : Sort) → HasType k l s → HasType k m s → Gives boolean (parity_of b (l ∷ m ∷ []))
  gives_pair b l m s p q =
      let go : (t : Bool) → same_sort boolean s ≡ t → Gives boolean (parity_of b (l ∷ m ∷ [])) =
      λ t. elim t as (λ t. same_sort boolean s ≡ t → Gives boolean (parity_of b (l ∷ m ∷ []))) [
        | true ↦ λ h. let e : s ≡ boolean = sym ((law boolean s).0 h) in gives_parity b (l ∷ m ∷ []) (p.0 ∙ e, (q.0 ∙ e, tt))
        | false ↦ λ h.
            let o : s ≡ boolean → ⊥ = λ e. absurd (cc (sym h ∙ (law boolean s).1 (sym e))) in
            subst (λ x. Gives boolean (parity_of b (x ∷ m ∷ []))) (is_plain l s p o)
            (subst (λ y. Gives boolean (parity_of b (plain l.atom ∷ y ∷ []))) (is_plain m s q o) (gives_plain b l.atom m.atom s p.0 q.0 o))
      ]
      in go (same_sort boolean s) refl

  boolean_as : (s : Sort) (sk : Sketch) → s ≡ boolean → Gives boolean sk → Gives s sk
  boolean_as s sk e g = subst (λ r. Gives r sk) (sym e) g

  gives_branched : (x : Term) (a b : Literal) (s : Sort) → k x ≡ boolean → HasType k a s → HasType k b s → Gives s (branched x a b)
  gives_branched x a b s kx p q =
      if_cases (Gives s) (same_literal a b) _ _ (λ h. p)
      (λ h. if_cases (Gives s) (is_constant a) _ _
      (λ i.
      let e : s ≡ boolean = sym p.0 ∙ ap k (term_same a.atom the_truth i) ∙ true_sort in
      boolean_as s _ e (gives_joined a.negated (record { atom = x; negated = a.negated } ∷ b ∷ []) (kx, (q.0 ∙ e, tt))))
      (λ i. if_cases (Gives s) (is_constant b) _ _
      (λ j.
      let e : s ≡ boolean = sym q.0 ∙ ap k (term_same b.atom the_truth j) ∙ true_sort in
      boolean_as s _ e (gives_joined b.negated (record { atom = x; negated = not b.negated } ∷ a ∷ []) (kx, (p.0 ∙ e, tt))))
      (λ j. if_cases (Gives s) (same_term a.atom b.atom) _ _
      (λ l.
      let e : s ≡ boolean = one_negated a.negated b.negated s (opposite_signs (term_order a.atom b.atom) a.negated b.negated l h) p.1 q.1 in
      boolean_as s _ e (gives_parity true (plain x ∷ a ∷ []) (kx, (p.0 ∙ e, tt))))
      (λ l. (kx, p, q)))))

  one_of_two : (n : Bool) (a b : Literal) (s : Sort) → HasType k a s → HasType k b s → HasType k (if n then b else a) s
  one_of_two true a b s p q = q
  one_of_two false a b s p q = p

  gives_chosen : (c a b : Literal) (s : Sort) → k c.atom ≡ boolean → HasType k a s → HasType k b s → Gives s (chosen c a b)
  gives_chosen c a b s kc p q =
      if_cases (Gives s) (is_constant c) _ _ (λ h. one_of_two c.negated a b s p q)
      (λ h. if_cases (Gives s) c.negated _ _ (λ n. gives_branched c.atom b a s kc q p) (λ n. gives_branched c.atom a b s kc p q))

  each_all : (s : Sort) (ls : List Literal) → Each (IsTyped k law s) ls → Each (λ t. k t ≡ s) (all_placed ls)
  each_all s [] es = tt
  each_all s (l ∷ ls) es = each_inserted term_order term_same (λ t. k t ≡ s) l.atom (all_placed ls) es.0.0 (each_all s ls es.1)

  filled : (t : Term) (ts : List Term) → IsFilled (insert_key term_order ts t)
  filled t [] = tt
  filled t (u ∷ us) = elim (term_order t u) as (λ o. IsFilled (match_ordering o (t ∷ u ∷ us) (u ∷ us) (u ∷ insert_key term_order us t))) [ Less ↦ tt | Equal ↦ tt | Greater ↦ tt ]

  gives_distinct : (truths : Bool) (ls : List Literal) (s : Sort) → Each (IsTyped k law s) ls → Gives boolean (distinct_of truths ls)
  gives_distinct truths [] s es = given true
  gives_distinct truths (l ∷ []) s es = given true
  gives_distinct truths (l ∷ m ∷ []) s es = gives_pair false l m s es.0 es.1.0
  gives_distinct truths (l ∷ m ∷ n ∷ ls) s es =
      if_cases (Gives boolean) (truths || nat_lt (length (all_placed (l ∷ m ∷ n ∷ ls))) (length (l ∷ m ∷ n ∷ ls))) _ _ (λ h. given false)
      (λ h. (refl, filled l.atom (all_placed (m ∷ n ∷ ls)), (s, terms_are s (all_placed (l ∷ m ∷ n ∷ ls)) (each_all s (l ∷ m ∷ n ∷ ls) es))))

  each_true : (ls : List Literal) → Each (IsTyped k law boolean) ls → Each IsTrue ls
  each_true [] es = tt
  each_true (l ∷ ls) es = (es.0.0, each_true ls es.1)

  some_true : (ls : List Literal) (ks : List Sort) (s : Sort) → HaveTypes k ls ks → only_if (are_some boolean ks) boolean ≡ Some s → Each IsTrue ls
  some_true ls ks s t h = each_true ls (each_typed k law boolean ls ks (some_all ks s h) t)

  gives_not : (ls : List Literal) → HaveTypes k ls (boolean ∷ []) → Gives boolean (negated_first ls)
  gives_not [] t = absurd t
  gives_not (l ∷ ls) t = (t.0, λ h. refl)

  gives_implied : (ls : List Literal) → HaveTypes k ls (boolean ∷ boolean ∷ []) → Gives boolean (implied ls)
  gives_implied [] t = absurd t
  gives_implied (l ∷ []) t = absurd t.2
  gives_implied (l ∷ m ∷ []) t = gives_joined false (opposite l ∷ m ∷ []) (t.0, (t.2.0, tt))
  gives_implied (l ∷ m ∷ n ∷ ls) t = absurd t.2.2

  gives_iff : (ls : List Literal) → HaveTypes k ls (boolean ∷ boolean ∷ []) → Gives boolean (parity_of true ls)
  gives_iff [] t = absurd t
  gives_iff (l ∷ []) t = absurd t.2
  gives_iff (l ∷ m ∷ []) t = gives_pair true l m boolean (t.0, t.1) (t.2.0, t.2.1)
  gives_iff (l ∷ m ∷ n ∷ ls) t = absurd t.2.2

  pair : (b : Bool) (ls : List Literal) (s r : Sort) → HaveTypes k ls (s ∷ r ∷ []) → same_sort s r ≡ true → Gives boolean (parity_of b ls)
  pair b [] s r t h = absurd t
  pair b (l ∷ []) s r t h = absurd t.2
  pair b (l ∷ m ∷ []) s r t h = let e : r ≡ s = sym ((law s r).0 h) in gives_pair b l m s (t.0, t.1) (t.2.0 ∙ e, λ n. sym e ∙ t.2.1 n)
  pair b (l ∷ m ∷ n ∷ ls) s r t h = absurd t.2.2

  gives_eq : (ls : List Literal) (ks : List Sort) (q : Sort) → HaveTypes k ls ks → typed (operator_of operator.Eq) ks ≡ Some q → Gives q (parity_of true ls)
  gives_eq ls [] q t h = absurd (cc h)
  gives_eq ls (s ∷ []) q t h = absurd (cc h)
  gives_eq ls (s ∷ r ∷ p ∷ ks) q t h = absurd (cc h)
  gives_eq ls (s ∷ r ∷ []) q t h = boolean_as q _ (only_gives (same_sort s r) boolean q h) (pair true ls s r t (only_where (same_sort s r) boolean q h))

  gives_neq : (ls : List Literal) (ks : List Sort) (q : Sort) → HaveTypes k ls ks → typed (operator_of operator.Neq) ks ≡ Some q → Gives q (parity_of false ls)
  gives_neq ls [] q t h = absurd (cc h)
  gives_neq ls (s ∷ []) q t h = absurd (cc h)
  gives_neq ls (s ∷ r ∷ p ∷ ks) q t h = absurd (cc h)
  gives_neq ls (s ∷ r ∷ []) q t h = boolean_as q _ (only_gives (same_sort s r) boolean q h) (pair false ls s r t (only_where (same_sort s r) boolean q h))

  gives_ite : (ls : List Literal) (ks : List Sort) (q : Sort) → HaveTypes k ls ks → typed (operator_of operator.Ite) ks ≡ Some q → Gives q (chosen_first ls)
  gives_ite ls [] q t h = absurd (cc h)
  gives_ite ls (c ∷ []) q t h = absurd (cc h)
  gives_ite ls (c ∷ s ∷ []) q t h = absurd (cc h)
  gives_ite ls (c ∷ s ∷ r ∷ p ∷ ks) q t h = absurd (cc h)
  gives_ite [] (c ∷ s ∷ r ∷ []) q t h = absurd t
  gives_ite (l ∷ []) (c ∷ s ∷ r ∷ []) q t h = absurd t.2
  gives_ite (l ∷ m ∷ []) (c ∷ s ∷ r ∷ []) q t h = absurd t.2.2
  gives_ite (l ∷ m ∷ n ∷ o ∷ ls) (c ∷ s ∷ r ∷ []) q t h = absurd t.2.2.2
  gives_ite (l ∷ m ∷ n ∷ []) (c ∷ s ∷ r ∷ []) q t h =
      let p = and_parts (same_sort c boolean) (same_sort s r) (only_where (same_sort c boolean && same_sort s r) s q h) in
      let e : r ≡ s = sym ((law s r).0 p.1) in
      subst (λ z. Gives z (chosen l m n)) (sym (only_gives (same_sort c boolean && same_sort s r) s q h))
      (gives_chosen l m n s (t.0 ∙ (law c boolean).0 p.0) (t.2.0, t.2.1) (t.2.2.0 ∙ e, λ i. sym e ∙ t.2.2.1 i))

  gives_apart : (ls : List Literal) (ks : List Sort) (q : Sort) → HaveTypes k ls ks → typed (operator_of operator.Distinct) ks ≡ Some q → Gives q (distinct_of (are_truths ks) ls)
  gives_apart ls [] q t h = absurd (cc h)
  gives_apart ls (s ∷ ks) q t h =
      boolean_as q _ (only_gives (list_all (same_sort s) ks) boolean q h)
      (gives_distinct (same_sort boolean s) ls s (each_typed k law s ls (s ∷ ks) (ap (λ b. b && list_all (same_sort s) ks) ((law s s).1 refl) ∙ only_where (list_all (same_sort s) ks) boolean q h) t))

  gives_and : (b : Bool) (ls : List Literal) (ks : List Sort) (s : Sort) → HaveTypes k ls ks → call_sort (operator_of operator.And) ks ≡ Some s → Gives s (joined b ls)
  gives_and b [] [] s t h = boolean_as s (joined b []) (sym (same_Some boolean s h)) (gives_joined b [] tt)
  gives_and b (l ∷ ls) [] s t h = absurd t
  gives_and b ls (r ∷ ks) s t h = boolean_as s _ (only_gives (are_some boolean (r ∷ ks)) boolean s h) (gives_joined b ls (some_true ls (r ∷ ks) s t h))

  gives_xor : (ls : List Literal) (ks : List Sort) (s : Sort) → HaveTypes k ls ks → call_sort (operator_of operator.Xor) ks ≡ Some s → Gives s (parity_of false ls)
  gives_xor [] [] s t h = boolean_as s (parity_of false []) (sym (same_Some boolean s h)) (gives_parity false [] tt)
  gives_xor (l ∷ ls) [] s t h = absurd t
  gives_xor ls (r ∷ ks) s t h = boolean_as s _ (only_gives (are_some boolean (r ∷ ks)) boolean s h) (gives_parity false ls (some_true ls (r ∷ ks) s t h))

  or_as_and : (ks : List Sort) → call_sort (operator_of operator.Or) ks ≡ call_sort (operator_of operator.And) ks
  or_as_and [] = refl
  or_as_and (r ∷ ks) = refl

  gives : (o : Operator) (ls : List Literal) (ks : List Sort) (s : Sort) → HaveTypes k ls ks → call_sort (operator_of o) ks ≡ Some s → Gives s (sketch_of o (are_truths ks) ls)
  gives operator.Not ls ks s t h =
      boolean_as s _ (only_gives (are ks (boolean ∷ [])) boolean s h) (gives_not ls (subst (HaveTypes k ls) (typed_one law ks s h) t))
  gives operator.And ls ks s t h = gives_and true ls ks s t h
  gives operator.Or ls ks s t h = gives_and false ls ks s t (sym (or_as_and ks) ∙ h)
  gives operator.Xor ls ks s t h = gives_xor ls ks s t h
  gives operator.Implies ls ks s t h =
      boolean_as s _ (only_gives (are ks (boolean ∷ boolean ∷ [])) boolean s h) (gives_implied ls (subst (HaveTypes k ls) (typed_two law ks s h) t))
  gives operator.Iff ls ks s t h =
      boolean_as s _ (only_gives (are ks (boolean ∷ boolean ∷ [])) boolean s h) (gives_iff ls (subst (HaveTypes k ls) (typed_two law ks s h) t))
  gives operator.Ite ls ks s t h = gives_ite ls ks s t h
  gives operator.Eq ls ks s t h = gives_eq ls ks s t h
  gives operator.Neq ls ks s t h = gives_neq ls ks s t h
  gives operator.Distinct ls ks s t h = gives_apart ls ks s t h

pub sketches_have_types : SameSortIsEqual → SketchesHaveTypes
sketches_have_types law k true_sort o ls ks s t h = gives k true_sort law o ls ks s t h
