-- What each operator makes of the values of its arguments.
use Rattle.std.proofs.Common.{◌≡◌, ◌∙◌, ◌&&◌, ℕ, zero, suc, Bool, true, false, not, List, [], ◌∷◌, Some, map, refl, sym, ap, subst, if◌then◌else◌}
use Rattle.std.specs.Prelude.{slice_get}
use Rattle.std.specs.List.{list_all, list_any}
use Rattle.std.specs.Ordering.{is_lt}
use Rattle.std.specs.Map.{lookup}
use Rattle.std.proofs.lemmas.Option.{same_Some}
use Rattle.std.proofs.lemmas.Bool.{and_parts}
use Rattle.rationals.specs.Rational.{ℚ, zero_ℚ, cmp_ℚ}
use Rattle.y_tree.specs.Sorts.{Sort, boolean, is_sort, same_sort}
use Rattle.y_tree.specs.Values.{Value, truth, number, bits, same_value, zero_of}
use Rattle.y_tree.specs.Order.{is_formed}
use Rattle.y_tree.specs.Tree as tree
use Rattle.y_tree.specs.Typing.{typed, only_if}
use Rattle.y_tree.specs.declared.BvOp.{BvOp}
use Rattle.y_tree.specs.declared.BvAtOp.{BvAtOp}
use Rattle.y_tree.specs.Meaning.{Assignment, truth_of, is_odd, are_distinct, bits_of, on_bits, on_bits_at, apply}
use Rattle.y_tree.specs.Meaning as meant
use Rattle.y_tree.specs.Laws.{first_of}
use Rattle.y_tree.specs.declared.values.Value as code
use Rattle.y_tree.proofs.Sorted.{sort_same}
use Rattle.y_tree.proofs.Put.{zero_formed}
use Rattle.term_shapes.specs.declared.handles.Term.{Term}
use Rattle.term_shapes.specs.declared.handles.TypeId.{TypeId}
use Rattle.term_shapes.specs.declared.shapes.Shape.{Shape}
use Rattle.term_shapes.specs.declared.shapes.Shape.TheVariants as shape
use Rattle.term_table.specs.World.{World, HasShape, KeepsType, IsTable}
use Rattle.term_table.specs.Checking.{HasSort, HaveSorts}
use Rattle.term_orders.specs.Orders.{IsIn}
use Rattle.model_eval.specs.Known.{same_term, found, IsKnown, AreKnown}
use Rattle.model_eval.specs.Words.{TakesWords}
use Rattle.model_eval.specs.Models.{AreFormed, IsModel, assignment_of}
use Rattle.model_eval.specs.Evaluating.{ArePair, AreAlike, IsReady, IsResult, IsApplied, or_zero}
use Rattle.model_eval.proofs.Made.{exact}
use Rattle.model_eval.proofs.Constants.{constant_value}

and_true : (b : Bool) → b ≡ (b && true)
and_true true = refl
and_true false = refl

only_true : (b : Bool) (r k : Sort) → only_if b r ≡ Some k → b ≡ true
only_true true r k h = refl
only_true false r k h = absurd (cc h)

-- what is known of the argument at a place
pub known_at : (es : List (Term × code.Value)) (ts : List Term) (ks : List Sort) (i : ℕ) (t : Term) → AreKnown es ts ks → slice_get ts i ≡ Some t → (k : Sort) × (slice_get ks i ≡ Some k) × IsKnown es t k
known_at es [] ks i t h e = absurd (cc e)
known_at es (u ∷ ts) [] i t h e = absurd h
known_at es (u ∷ ts) (k ∷ ks) zero t h e = (k, refl, subst (λ z. IsKnown es z k) (same_Some u t e) h.0)
known_at es (u ∷ ts) (k ∷ ks) (suc i) t h e = known_at es ts ks i t h.1 e

module _ (w : World) (a : Assignment) (es : List (Term × code.Value)) (s : Shape) where
  -- for the shape that a pattern found
  pub for : (r : Shape) (v : Value) → s ≡ r → IsApplied w a es r v → IsApplied w a es s v
  for r v e h = subst (λ z. IsApplied w a es z v) (sym e) h

  pub true_made : s ≡ shape.True → IsApplied w a es s (truth true)
  true_made e = for shape.True (truth true) e (exact w a es shape.True (truth true) (λ r. refl) (λ r. refl))

  pub false_made : s ≡ shape.False → IsApplied w a es s (truth false)
  false_made e = for shape.False (truth false) e (exact w a es shape.False (truth false) (λ r. refl) (λ r. refl))

  pub number_made : (q : ℚ) → s ≡ shape.Number q → IsApplied w a es s (number q)
  number_made q e = for (shape.Number q) (number q) e (exact w a es (shape.Number q) (number q) (λ r. refl) (λ r. refl))

  pub bits_made : (n k : ℕ) → s ≡ shape.Bits n k → IsApplied w a es s (bits n k)
  bits_made n k e = for (shape.Bits n k) (bits n k) e (exact w a es (shape.Bits n k) (bits n k) (λ r. refl) (λ r. refl))

  pub not_made : (t : Term) (b : Bool) → s ≡ shape.Not t → b ≡ truth_of (found es t) → IsApplied w a es s (truth (not b))
  not_made t b e h = for (shape.Not t) (truth (not b)) e (exact w a es (shape.Not t) (truth (not b)) (λ r. refl) (λ r. ap (λ z. truth (not z)) (h ∙ and_true (truth_of (found es t)))))

  pub all_made : (ts : List Term) (b : Bool) → s ≡ shape.And ts → b ≡ list_all truth_of (map (found es) ts) → IsApplied w a es s (truth b)
  all_made ts b e h = for (shape.And ts) (truth b) e (exact w a es (shape.And ts) (truth b) (λ r. refl) (λ r. ap truth h))

  pub some_made : (ts : List Term) (b : Bool) → s ≡ shape.Or ts → b ≡ list_any truth_of (map (found es) ts) → IsApplied w a es s (truth b)
  some_made ts b e h = for (shape.Or ts) (truth b) e (exact w a es (shape.Or ts) (truth b) (λ r. refl) (λ r. ap truth h))

  pub odd_made : (ts : List Term) (b : Bool) → s ≡ shape.Xor ts → b ≡ is_odd (map truth_of (map (found es) ts)) → IsApplied w a es s (truth b)
  odd_made ts b e h = for (shape.Xor ts) (truth b) e (exact w a es (shape.Xor ts) (truth b) (λ r. refl) (λ r. ap truth h))

  either : (b : Bool) (v x y : Value) → v ≡ (if b then x else y) → is_formed x ≡ true → is_formed y ≡ true → is_formed v ≡ true
  either true v x y e h g = ap is_formed e ∙ h
  either false v x y e h g = ap is_formed e ∙ g

  pub choice_made : (c t u : Term) (v : Value) → s ≡ shape.Ite c t u → v ≡ (if truth_of (found es c) then found es t else found es u) → IsApplied w a es s v
  choice_made c t u v e h = for (shape.Ite c t u) v e (exact w a es (shape.Ite c t u) v
      (λ r. either (truth_of (found es c)) v (found es t) (found es u) h
      (known_at es (c ∷ t ∷ u ∷ []) r.sorts 1 t r.known refl).2.formed
      (known_at es (c ∷ t ∷ u ∷ []) r.sorts 2 u r.known refl).2.formed)
      (λ r. h))

  pub sign_made : (t : Term) (b : Bool) → s ≡ shape.NonNeg t → b ≡ is_lt (cmp_ℚ (meant.number_of (found es t)) zero_ℚ) → IsApplied w a es s (truth (not b))
  sign_made t b e h = for (shape.NonNeg t) (truth (not b)) e (exact w a es (shape.NonNeg t) (truth (not b)) (λ r. refl) (λ r. ap (λ z. truth (not z)) h))

  -- two terms of one sort
  equal_by : (t u : Term) (b : Bool) (ss : List Sort) → HaveSorts w (t ∷ u ∷ []) ss → ((k : Sort) → HasSort w t k → b ≡ same_value k (found es t) (found es u))
      → truth b ≡ apply tree.equality (first_of ss) (found es t ∷ found es u ∷ []) a
  equal_by t u b [] have h = absurd have
  equal_by t u b (k ∷ ss) have h = ap truth (h k have.0)

  pub equal_made : (t u : Term) (b : Bool) → s ≡ shape.Eq t u → ((k : Sort) → HasSort w t k → b ≡ same_value k (found es t) (found es u)) → IsApplied w a es s (truth b)
  equal_made t u b e h = for (shape.Eq t u) (truth b) e (exact w a es (shape.Eq t u) (truth b) (λ r. refl) (λ r. equal_by t u b r.sorts r.have h))

  pair_by : (t u : Term) (ss : List Sort) (k : Sort) → HaveSorts w (t ∷ u ∷ []) ss → AreKnown es (t ∷ u ∷ []) ss → list_all is_sort ss ≡ true → typed tree.equality ss ≡ Some k → ArePair w es t u
  pair_by t u [] k have known lim e = absurd have
  pair_by t u (l ∷ []) k have known lim e = absurd have.1
  pair_by t u (l ∷ m ∷ n ∷ ss) k have known lim e = absurd have.1.1
  pair_by t u (l ∷ m ∷ []) k have known lim e =
      let same : l ≡ m = sort_same l m (only_true (same_sort l m) boolean k e) in
      record {
        sort = l;
        limits = (and_parts (is_sort l) (list_all is_sort (m ∷ [])) lim).0;
        has = have.0;
        left = known.0;
        right = subst (IsKnown es u) (sym same) known.1.0;
      }

  pub pair_ready : (t u : Term) → s ≡ shape.Eq t u → IsReady w es s → ArePair w es t u
  pair_ready t u e r = let q = subst (IsReady w es) e r in pair_by t u q.sorts q.result q.have q.known q.limits q.takes

  -- terms of one sort
  all_one : (ts : List Term) (ks : List Sort) (k : Sort) → HaveSorts w ts ks → AreKnown es ts ks → list_all (same_sort k) ks ≡ true → (i : ℕ) (t : Term) → slice_get ts i ≡ Some t → HasSort w t k × IsKnown es t k
  all_one [] ks k have known all i t at = absurd (cc at)
  all_one (u ∷ ts) [] k have known all i t at = absurd have
  all_one (u ∷ ts) (l ∷ ks) k have known all zero t at =
      let same : k ≡ l = sort_same k l (and_parts (same_sort k l) (list_all (same_sort k) ks) all).0 in
      subst (λ z. HasSort w z k × IsKnown es z k) (same_Some u t at) (subst (HasSort w u) (sym same) have.0, subst (IsKnown es u) (sym same) known.0)
  all_one (u ∷ ts) (l ∷ ks) k have known all (suc i) t at =
      all_one ts ks k have.1 known.1 (and_parts (same_sort k l) (list_all (same_sort k) ks) all).1 i t at

  alike_by : (ts : List Term) (ss : List Sort) (k : Sort) → HaveSorts w ts ss → AreKnown es ts ss → list_all is_sort ss ≡ true → typed tree.distinctness ss ≡ Some k → AreAlike w es ts
  alike_by ts [] k have known lim e = absurd (cc e)
  alike_by [] (l ∷ ss) k have known lim e = absurd have
  alike_by (u ∷ ts) (l ∷ ss) k have known lim e =
      let same = only_true (list_all (same_sort l) ss) boolean k e in
      let each = all_one ts ss l have.1 known.1 same in
      record {
        sort = l;
        limits = (and_parts (is_sort l) (list_all is_sort ss) lim).0;
        has = λ t h. at_front (λ z. HasSort w z l) u ts have.0 (λ i x at. (each i x at).0) t h.place h.at;
        known = λ t h. at_front (λ z. IsKnown es z l) u ts known.0 (λ i x at. (each i x at).1) t h.place h.at;
      }
    where
      at_front : (P : Term → Type 0) (u : Term) (ts : List Term) → P u → ((i : ℕ) (x : Term) → slice_get ts i ≡ Some x → P x) → (t : Term) (i : ℕ) → slice_get (u ∷ ts) i ≡ Some t → P t
      at_front P u ts here behind t zero at = subst P (same_Some u t at) here
      at_front P u ts here behind t (suc i) at = behind i t at

  pub alike_ready : (ts : List Term) → s ≡ shape.Distinct ts → IsReady w es s → AreAlike w es ts
  alike_ready ts e r = let q = subst (IsReady w es) e r in alike_by ts q.sorts q.result q.have q.known q.limits q.takes

  distinct_by : (ts : List Term) (b : Bool) (ss : List Sort) (k : Sort) → HaveSorts w ts ss → AreKnown es ts ss → list_all is_sort ss ≡ true → typed tree.distinctness ss ≡ Some k
      → ((l : Sort) → ((t : Term) → IsIn ts t → HasSort w t l) → b ≡ are_distinct l (map (found es) ts)) → truth b ≡ truth (are_distinct (first_of ss) (map (found es) ts))
  distinct_by ts b [] k have known lim e h = absurd (cc e)
  distinct_by [] b (l ∷ ss) k have known lim e h = absurd have
  distinct_by (u ∷ ts) b (l ∷ ss) k have known lim e h =
      let q = all_one ts ss l have.1 known.1 (only_true (list_all (same_sort l) ss) boolean k e) in
      ap truth (h l (λ t at. by t at.place at.at q))
    where
      by : (t : Term) (i : ℕ) → slice_get (u ∷ ts) i ≡ Some t → ((j : ℕ) (x : Term) → slice_get ts j ≡ Some x → HasSort w x l × IsKnown es x l) → HasSort w t l
      by t zero at q = subst (λ z. HasSort w z l) (same_Some u t at) have.0
      by t (suc i) at q = (q i t at).0

  pub distinct_made : (ts : List Term) (b : Bool) → s ≡ shape.Distinct ts → ((l : Sort) → ((t : Term) → IsIn ts t → HasSort w t l) → b ≡ are_distinct l (map (found es) ts)) → IsApplied w a es s (truth b)
  distinct_made ts b e h = for (shape.Distinct ts) (truth b) e (exact w a es (shape.Distinct ts) (truth b) (λ r. refl)
      (λ r. distinct_by ts b r.sorts r.result r.have r.known r.limits r.takes h))

  -- bit-vectors
  pub words_ready : (op : BvOp) (ts : List Term) → s ≡ shape.Bv op ts → IsReady w es s → TakesWords es (tree.bit_vector op) ts
  words_ready op ts e r = let q = subst (IsReady w es) e r in record { sorts = q.sorts; known = q.known; limits = q.limits; result = q.result; takes = q.takes }

  pub words_made : (op : BvOp) (ts : List Term) (v : Value) → s ≡ shape.Bv op ts → v ≡ on_bits op (map bits_of (map (found es) ts)) → is_formed v ≡ true → IsApplied w a es s v
  words_made op ts v e h formed = for (shape.Bv op ts) v e (exact w a es (shape.Bv op ts) v (λ r. formed) (λ r. h))

  pub word_ready : (op : BvAtOp) (i j : ℕ) (t : Term) → s ≡ shape.BvAt op i j t → IsReady w es s → TakesWords es (tree.bit_vector_at op i j) (t ∷ [])
  word_ready op i j t e r = let q = subst (IsReady w es) e r in record { sorts = q.sorts; known = q.known; limits = q.limits; result = q.result; takes = q.takes }

  pub word_made : (op : BvAtOp) (i j : ℕ) (t : Term) (v : Value) → s ≡ shape.BvAt op i j t → v ≡ on_bits_at op i j (bits_of (found es t)) → is_formed v ≡ true → IsApplied w a es s v
  word_made op i j t v e h formed = for (shape.BvAt op i j t) v e (exact w a es (shape.BvAt op i j t) v (λ r. formed) (λ r. h))

-- constants and variables, under the assignment of a model
module _ (w : World) (table : IsTable w) (m : List (Term × Value)) (model : IsModel w m) (formed : AreFormed m) (es : List (Term × code.Value)) (t : Term) (s : Shape) (has : HasShape w t s) where
  variable_value : (n : ℕ) (k : Sort) (v : Value) → v ≡ zero_of k → v ≡ apply (tree.variable n k) boolean [] (assignment_of w m)
  unfolding assignment_of
  variable_value n k v h = h

  pub variable_made : (n : ℕ) (of : TypeId) (v : Value) → s ≡ shape.Var n of → ((k : Sort) → KeepsType w of k → v ≡ zero_of k) → IsApplied w (assignment_of w m) es s v
  variable_made n of v e h = for w (assignment_of w m) es s (shape.Var n of) v e (exact w (assignment_of w m) es (shape.Var n of) v
      (λ r. ap is_formed (h r.named r.names.0) ∙ zero_formed r.named) (λ r. variable_value n r.named v (h r.named r.names.0)))

  constant_result : (n : ℕ) (of : TypeId) (k : Sort) (v : Value) → HasShape w t (shape.Const n of) → KeepsType w of k → v ≡ or_zero k (lookup (same_term t) m) → IsResult k (apply (tree.constant n k) boolean [] (assignment_of w m)) v
  unfolding assignment_of
  constant_result n of k v shape keeps h =
      subst (λ z. IsResult k (apply (tree.constant n k) boolean [] (assignment_of w m)) z) (sym h) (constant_value w table t n of k shape keeps m model.each formed)

  constant_by : (n : ℕ) (of : TypeId) (v : Value) → HasShape w t (shape.Const n of) → ((k : Sort) → KeepsType w of k → v ≡ or_zero k (lookup (same_term t) m)) → IsApplied w (assignment_of w m) es (shape.Const n of) v
  constant_by n of v shape h r = at r.sorts r.have r.result r.takes
    where
      at : (ss : List Sort) → HaveSorts w [] ss → (k : Sort) → typed (tree.constant n r.named) ss ≡ Some k → IsResult k (apply (tree.constant n r.named) (first_of ss) [] (assignment_of w m)) v
      at [] have k e =
          let same : r.named ≡ k = named_is _ k e in
          subst (λ z. IsResult z (apply (tree.constant n r.named) boolean [] (assignment_of w m)) v) same (constant_result n of r.named v shape r.names.0 (h r.named r.names.0))
        where
          named_is : (b : Bool) (k : Sort) → only_if b r.named ≡ Some k → r.named ≡ k
          named_is true k g = same_Some r.named k g
          named_is false k g = absurd (cc g)
      at (l ∷ ss) have k e = absurd have

  pub constant_made : (n : ℕ) (of : TypeId) (v : Value) → s ≡ shape.Const n of → ((k : Sort) → KeepsType w of k → v ≡ or_zero k (lookup (same_term t) m)) → IsApplied w (assignment_of w m) es s v
  constant_made n of v e h = for w (assignment_of w m) es s (shape.Const n of) v e (constant_by n of v (has ∙ ap Some e) h)
