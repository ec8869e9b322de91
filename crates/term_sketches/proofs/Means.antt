-- The law of sketches, operator by operator.
use Rattle.std.proofs.Common.{◌≡◌, ◌∙◌, inl, inr, Bool, true, false, not, ◌&&◌, ◌||◌, List, [], ◌∷◌, Some, length, map, refl, sym, ap, subst, if◌then◌else◌, arith}
use Rattle.std.specs.Prelude.{nat_lt}
use Rattle.std.specs.List.{list_any, list_all}
use Rattle.std.proofs.lemmas.Bool.{and_parts, ltb-true, lt-ltb}
use Rattle.y_tree.specs.Sorts.{Sort, boolean, same_sort}
use Rattle.y_tree.specs.Values.{Value, truth, same_value}
use Rattle.y_tree.specs.Typing.{typed}
use Rattle.y_tree.specs.Meaning.{Assignment, apply, is_odd, truth_of, are_distinct}
use Rattle.y_tree.specs.Laws.{SameSortIsEqual, SameValueIsEquivalence, first_of}
use Rattle.term_shapes.specs.declared.handles.Term.{Term}
use Rattle.term_sketches.specs.declared.items.Literal.{Literal}
use Rattle.term_sketches.specs.declared.items.Sketch.{Sketch}
use Rattle.term_sketches.specs.declared.items.Sketch.TheVariants as sketch
use Rattle.term_sketches.specs.declared.items.Operator.{Operator}
use Rattle.term_sketches.specs.declared.items.Operator.TheVariants as operator
use Rattle.term_sketches.specs.Sketches.{operator_of, opposite, constant, parity_of, negated_first, implied, chosen_first, all_placed, distinct_of, sketch_of}
use Rattle.term_sketches.specs.Valuing.{IsValuation, literal_value, literal_truth, flagged, sketch_value, HaveTypes, call_sort, are_truths, SketchesMean}
use Rattle.term_sketches.proofs.Gates.{gate_all}
use Rattle.term_sketches.proofs.Joins.{Each}
use Rattle.term_sketches.proofs.Valued.{IsTruth, value_as, value_constant, truth_opposite, join_means, parity_means}
use Rattle.term_sketches.proofs.Pairs.{if_cases, IsOf, pair_means, choose_means, plain_value, not_boolean}
use Rattle.term_sketches.proofs.Apart.{three_never, apart_all, atoms, each_placed, spread}
use Rattle.term_sketches.proofs.Typings.{only_where, some_all, typed_one, typed_two, each_typed}

all_values : (v : Term → Value) (ls : List Literal) → gate_all true (literal_truth v) ls ≡ list_all truth_of (map (literal_value v) ls)
all_values v [] = refl
all_values v (l ∷ ls) = ap (λ b. literal_truth v l && b) (all_values v ls)

any_values : (v : Term → Value) (ls : List Literal) → gate_all false (literal_truth v) ls ≡ list_any truth_of (map (literal_value v) ls)
any_values v [] = refl
any_values v (l ∷ ls) = ap (λ b. literal_truth v l || b) (any_values v ls)

truths_of : (v : Term → Value) (ls : List Literal) → map (literal_truth v) ls ≡ map truth_of (map (literal_value v) ls)
truths_of v [] = refl
truths_of v (l ∷ ls) = ap (λ bs. literal_truth v l ∷ bs) (truths_of v ls)

not_true : (b : Bool) → not b ≡ not (b && true)
not_true true = refl
not_true false = refl

or_end : (x y : Bool) → (not x || (y || false)) ≡ (not x || y)
or_end true true = refl
or_end true false = refl
or_end false y = refl

two_apart : (b : Bool) → flagged true b ≡ (not (b || false) && (not false && true))
two_apart true = refl
two_apart false = refl

false_where : (b : Bool) → (b ≡ true → ⊥) → b ≡ false
false_where true f = absurd (f refl)
false_where false f = refl

module _ (v : Term → Value) (k : Term → Sort) (val : IsValuation v k) (law : SameSortIsEqual) (equivalence : SameValueIsEquivalence) (a : Assignment) where
  each_truth : (ls : List Literal) → Each (IsOf v k val law equivalence boolean) ls → Each (IsTruth v k val) ls
  each_truth [] es = tt
  each_truth (l ∷ ls) es = (es.0.0, each_truth ls es.1)

  all_truths : (ls : List Literal) (ks : List Sort) → list_all (same_sort boolean) ks ≡ true → HaveTypes k ls ks → Each (IsTruth v k val) ls
  all_truths ls ks h t = each_truth ls (each_typed k law boolean ls ks h t)

  means_and : (ls : List Literal) (ks : List Sort) (s : Sort) → HaveTypes k ls ks → call_sort (operator_of operator.And) ks ≡ Some s → list_all (same_sort boolean) ks ≡ true
  means_and ls [] s t h = refl
  means_and ls (r ∷ ks) s t h = some_all (r ∷ ks) s h

  means_or : (ls : List Literal) (ks : List Sort) (s : Sort) → HaveTypes k ls ks → call_sort (operator_of operator.Or) ks ≡ Some s → list_all (same_sort boolean) ks ≡ true
  means_or ls [] s t h = refl
  means_or ls (r ∷ ks) s t h = some_all (r ∷ ks) s h

  means_xor : (ls : List Literal) (ks : List Sort) (s : Sort) → HaveTypes k ls ks → call_sort (operator_of operator.Xor) ks ≡ Some s → list_all (same_sort boolean) ks ≡ true
  means_xor ls [] s t h = refl
  means_xor ls (r ∷ ks) s t h = some_all (r ∷ ks) s h

  means_not : (ls : List Literal) → HaveTypes k ls (boolean ∷ []) → sketch_value v k (negated_first ls) ≡ apply (operator_of operator.Not) boolean (map (literal_value v) ls) a
  means_not [] t = absurd t
  means_not (l ∷ []) t = value_as v k val (opposite l) t.0 ∙ ap truth (truth_opposite v k val l ∙ not_true (literal_truth v l))
  means_not (l ∷ m ∷ ls) t = absurd t.2

  means_implies : (ls : List Literal) → HaveTypes k ls (boolean ∷ boolean ∷ []) → sketch_value v k (implied ls) ≡ apply (operator_of operator.Implies) boolean (map (literal_value v) ls) a
  means_implies [] t = absurd t
  means_implies (l ∷ []) t = absurd t.2
  means_implies (l ∷ m ∷ n ∷ ls) t = absurd t.2.2
  means_implies (l ∷ m ∷ []) t =
      join_means v k val false (opposite l ∷ m ∷ []) (t.0, (t.2.0, tt))
      ∙ ap truth (ap (λ x. x || (literal_truth v m || false)) (truth_opposite v k val l) ∙ or_end (literal_truth v l) (literal_truth v m))

  means_iff : (ls : List Literal) → HaveTypes k ls (boolean ∷ boolean ∷ []) → sketch_value v k (parity_of true ls) ≡ apply (operator_of operator.Iff) boolean (map (literal_value v) ls) a
  means_iff [] t = absurd t
  means_iff (l ∷ []) t = absurd t.2
  means_iff (l ∷ m ∷ n ∷ ls) t = absurd t.2.2
  means_iff (l ∷ m ∷ []) t = pair_means v k val law equivalence true l m boolean (t.0, t.1) (t.2.0, t.2.1)

  pair : (b : Bool) (l m : Literal) (s r : Sort) → HaveTypes k (l ∷ m ∷ []) (s ∷ r ∷ []) → same_sort s r ≡ true
      → sketch_value v k (parity_of b (l ∷ m ∷ [])) ≡ truth (flagged (not b) (same_value s (literal_value v l) (literal_value v m)))
  pair b l m s r t h =
      let e : r ≡ s = sym ((law s r).0 h) in pair_means v k val law equivalence b l m s (t.0, t.1) (t.2.0 ∙ e, λ n. sym e ∙ t.2.1 n)

  means_eq : (ls : List Literal) (ks : List Sort) (q : Sort) → HaveTypes k ls ks → typed (operator_of operator.Eq) ks ≡ Some q
      → sketch_value v k (parity_of true ls) ≡ apply (operator_of operator.Eq) (first_of ks) (map (literal_value v) ls) a
  means_eq ls [] q t h = absurd (cc h)
  means_eq ls (s ∷ []) q t h = absurd (cc h)
  means_eq ls (s ∷ r ∷ p ∷ ks) q t h = absurd (cc h)
  means_eq [] (s ∷ r ∷ []) q t h = absurd t
  means_eq (l ∷ []) (s ∷ r ∷ []) q t h = absurd t.2
  means_eq (l ∷ m ∷ n ∷ ls) (s ∷ r ∷ []) q t h = absurd t.2.2
  means_eq (l ∷ m ∷ []) (s ∷ r ∷ []) q t h = pair true l m s r t (only_where (same_sort s r) boolean q h)

  means_neq : (ls : List Literal) (ks : List Sort) (q : Sort) → HaveTypes k ls ks → typed (operator_of operator.Neq) ks ≡ Some q
      → sketch_value v k (parity_of false ls) ≡ apply (operator_of operator.Neq) (first_of ks) (map (literal_value v) ls) a
  means_neq ls [] q t h = absurd (cc h)
  means_neq ls (s ∷ []) q t h = absurd (cc h)
  means_neq ls (s ∷ r ∷ p ∷ ks) q t h = absurd (cc h)
  means_neq [] (s ∷ r ∷ []) q t h = absurd t
  means_neq (l ∷ []) (s ∷ r ∷ []) q t h = absurd t.2
  means_neq (l ∷ m ∷ n ∷ ls) (s ∷ r ∷ []) q t h = absurd t.2.2
  means_neq (l ∷ m ∷ []) (s ∷ r ∷ []) q t h = pair false l m s r t (only_where (same_sort s r) boolean q h)

  means_ite : (ls : List Literal) (ks : List Sort) (q : Sort) → HaveTypes k ls ks → typed (operator_of operator.Ite) ks ≡ Some q
      → sketch_value v k (chosen_first ls) ≡ apply (operator_of operator.Ite) (first_of ks) (map (literal_value v) ls) a
  means_ite ls [] q t h = absurd (cc h)
  means_ite ls (c ∷ []) q t h = absurd (cc h)
  means_ite ls (c ∷ s ∷ []) q t h = absurd (cc h)
  means_ite ls (c ∷ s ∷ r ∷ p ∷ ks) q t h = absurd (cc h)
  means_ite [] (c ∷ s ∷ r ∷ []) q t h = absurd t
  means_ite (l ∷ []) (c ∷ s ∷ r ∷ []) q t h = absurd t.2
  means_ite (l ∷ m ∷ []) (c ∷ s ∷ r ∷ []) q t h = absurd t.2.2
  means_ite (l ∷ m ∷ n ∷ o ∷ ls) (c ∷ s ∷ r ∷ []) q t h = absurd t.2.2.2
  means_ite (l ∷ m ∷ n ∷ []) (c ∷ s ∷ r ∷ []) q t h =
      let p = and_parts (same_sort c boolean) (same_sort s r) (only_where (same_sort c boolean && same_sort s r) s q h) in
      let e : r ≡ s = sym ((law s r).0 p.1) in
      choose_means v k val law equivalence l m n s (t.0 ∙ (law c boolean).0 p.0) (t.2.0, t.2.1) (t.2.2.0 ∙ e, λ i. sym e ∙ t.2.2.1 i)

  -- three truth values are never pairwise different
  never : (l m n : Literal) (ls : List Literal) → Each (IsOf v k val law equivalence boolean) (l ∷ m ∷ n ∷ ls) → are_distinct boolean (map (literal_value v) (l ∷ m ∷ n ∷ ls)) ≡ false
  never l m n ls es =
      let d : Value → Value → Value → Bool = λ x y z. are_distinct boolean (x ∷ y ∷ z ∷ map (literal_value v) ls) in
      let x : Bool = literal_truth v l in
      let y : Bool = literal_truth v m in
      let z : Bool = literal_truth v n in
      ap (λ w. d w (literal_value v m) (literal_value v n)) (value_as v k val l es.0.0) ∙ ap (λ w. d (truth x) w (literal_value v n)) (value_as v k val m es.1.0.0)
      ∙ ap (λ w. d (truth x) (truth y) w) (value_as v k val n es.1.1.0.0)
      ∙ three_never x y z (list_any (same_value boolean (truth x)) (map (literal_value v) ls)) (list_any (same_value boolean (truth y)) (map (literal_value v) ls))
      (are_distinct boolean (truth z ∷ map (literal_value v) ls))

  plain_values : (s : Sort) → (s ≡ boolean → ⊥) → (ls : List Literal) → Each (IsOf v k val law equivalence s) ls → map (literal_value v) ls ≡ map v (atoms v k val law equivalence s ls)
  plain_values s o [] es = refl
  plain_values s o (l ∷ ls) es =
      ap (λ x. x ∷ map (literal_value v) ls) (plain_value v k val law equivalence l s es.0 o) ∙ ap (λ xs. v l.atom ∷ xs) (plain_values s o ls es.1)

  atoms_sorted : (s : Sort) (ls : List Literal) → Each (IsOf v k val law equivalence s) ls → Each (λ (l : Literal). k l.atom ≡ s) ls
  atoms_sorted s [] es = tt
  atoms_sorted s (l ∷ ls) es = (es.0.0, atoms_sorted s ls es.1)

  apart_value : (s : Sort) (ts : List Term) → Each (λ t. k t ≡ s) ts → sketch_value v k (sketch.Apart ts) ≡ truth (are_distinct s (map v ts))
  apart_value s [] es = refl
  apart_value s (t ∷ ts) es = ap (λ r. truth (are_distinct r (map v (t ∷ ts)))) es.0

  means_many : (l m n : Literal) (ls : List Literal) (s : Sort) → Each (IsOf v k val law equivalence s) (l ∷ m ∷ n ∷ ls)
      → sketch_value v k (distinct_of (same_sort boolean s) (l ∷ m ∷ n ∷ ls)) ≡ truth (are_distinct s (map (literal_value v) (l ∷ m ∷ n ∷ ls)))
  means_many l m n ls s es =
      let all : List Literal = l ∷ m ∷ n ∷ ls in
      let few : Bool = nat_lt (length (all_placed all)) (length all) in
      let is : Sketch → Type 0 = λ k'. sketch_value v k k' ≡ truth (are_distinct s (map (literal_value v) all)) in
      let at_truths : same_sort boolean s ≡ true → are_distinct s (map (literal_value v) all) ≡ false =
      λ h. let e : boolean ≡ s = (law boolean s).0 h in subst (λ r. Each (IsOf v k val law equivalence r) all → are_distinct r (map (literal_value v) all) ≡ false) e (never l m n ls) es in
      let others : same_sort boolean s ≡ false → are_distinct s (map (literal_value v) all) ≡ apart_all v k val law equivalence s (atoms v k val law equivalence s all) =
      λ h. ap (are_distinct s) (plain_values s (not_boolean v k val law equivalence s h) all es) in
      let to_false : are_distinct s (map (literal_value v) all) ≡ false → is (sketch.OneLiteral (constant false)) = λ e. value_constant v k val false ∙ ap truth (sym e) in
      let found = spread v k val law equivalence s all (atoms_sorted s all es) in
      let go : (t : Bool) → same_sort boolean s ≡ t → is (if t || few then sketch.OneLiteral (constant false) else sketch.Apart (all_placed all)) =
      λ t. elim t as (λ t. same_sort boolean s ≡ t → is (if t || few then sketch.OneLiteral (constant false) else sketch.Apart (all_placed all))) [
        | true ↦ λ h. to_false (at_truths h)
        | false ↦ λ h. if_cases is few _ _
            (λ f. elim found [ inl p ↦ absurd (omega (arith, p.0, ltb-true (length (all_placed all)) (length all) f)) | inr p ↦ to_false (others h ∙ p.1) ])
            (λ f. elim found [
              | inl p ↦ apart_value s (all_placed all) (each_placed v k val law equivalence s all (atoms_sorted s all es)) ∙ ap truth (p.1 ∙ sym (others h))
              | inr p ↦ absurd (cc (sym f ∙ lt-ltb (length (all_placed all)) (length all) p.0))
            ])
      ]
      in go (same_sort boolean s) refl

  means_distinct : (ls : List Literal) (ks : List Sort) (q : Sort) → HaveTypes k ls ks → typed (operator_of operator.Distinct) ks ≡ Some q
      → sketch_value v k (distinct_of (are_truths ks) ls) ≡ apply (operator_of operator.Distinct) (first_of ks) (map (literal_value v) ls) a
  means_distinct ls [] q t h = absurd (cc h)
  means_distinct [] (s ∷ ks) q t h = absurd t
  means_distinct (l ∷ []) (s ∷ ks) q t h = value_constant v k val true
  means_distinct (l ∷ m ∷ []) (s ∷ []) q t h = absurd t.2
  means_distinct (l ∷ m ∷ []) (s ∷ r ∷ ks) q t h =
      let e : r ≡ s = sym ((law s r).0 (and_parts (same_sort s r) (list_all (same_sort s) ks) (only_where (list_all (same_sort s) (r ∷ ks)) boolean q h)).0) in
      pair_means v k val law equivalence false l m s (t.0, t.1) (t.2.0 ∙ e, λ n. sym e ∙ t.2.1 n) ∙ ap truth (two_apart (same_value s (literal_value v l) (literal_value v m)))
  means_distinct (l ∷ m ∷ n ∷ ls) (s ∷ ks) q t h =
      means_many l m n ls s
      (each_typed k law s (l ∷ m ∷ n ∷ ls) (s ∷ ks) (ap (λ b. b && list_all (same_sort s) ks) ((law s s).1 refl) ∙ only_where (list_all (same_sort s) ks) boolean q h) t)

  means : (o : Operator) (ls : List Literal) (ks : List Sort) (s : Sort) → HaveTypes k ls ks → call_sort (operator_of o) ks ≡ Some s
      → sketch_value v k (sketch_of o (are_truths ks) ls) ≡ apply (operator_of o) (first_of ks) (map (literal_value v) ls) a
  means operator.Not ls ks s t h =
      let e : ks ≡ boolean ∷ [] = typed_one law ks s h in
      means_not ls (subst (HaveTypes k ls) e t) ∙ ap (λ r. apply (operator_of operator.Not) (first_of r) (map (literal_value v) ls) a) (sym e)
  means operator.And ls ks s t h = join_means v k val true ls (all_truths ls ks (means_and ls ks s t h) t) ∙ ap truth (all_values v ls)
  means operator.Or ls ks s t h = join_means v k val false ls (all_truths ls ks (means_or ls ks s t h) t) ∙ ap truth (any_values v ls)
  means operator.Xor ls ks s t h = parity_means v k val false ls (all_truths ls ks (means_xor ls ks s t h) t) ∙ ap (λ bs. truth (is_odd bs)) (truths_of v ls)
  means operator.Implies ls ks s t h =
      let e : ks ≡ boolean ∷ boolean ∷ [] = typed_two law ks s h in
      means_implies ls (subst (HaveTypes k ls) e t) ∙ ap (λ r. apply (operator_of operator.Implies) (first_of r) (map (literal_value v) ls) a) (sym e)
  means operator.Iff ls ks s t h =
      let e : ks ≡ boolean ∷ boolean ∷ [] = typed_two law ks s h in
      means_iff ls (subst (HaveTypes k ls) e t) ∙ ap (λ r. apply (operator_of operator.Iff) (first_of r) (map (literal_value v) ls) a) (sym e)
  means operator.Ite ls ks s t h = means_ite ls ks s t h
  means operator.Eq ls ks s t h = means_eq ls ks s t h
  means operator.Neq ls ks s t h = means_neq ls ks s t h
  means operator.Distinct ls ks s t h = means_distinct ls ks s t h

pub sketches_mean : SameSortIsEqual → SameValueIsEquivalence → SketchesMean
sketches_mean law equivalence v k val o ls ks s a t h = means v k val law equivalence a o ls ks s t h
