-- A candidate over truth values that can be judged: node 1 is node 0 updated at the first of two tuples, and both are unequal.
use Rattle.std.proofs.Common.{◌≡◌, ◌<◌, ℕ, zero, suc, true, List, [], ◌∷◌, Option, Some, None, map, length, refl, sym, ap, subst, arith}
use Rattle.std.specs.Prelude.{slice_get}
use Rattle.y_tree.specs.declared.values.Value as code
use Rattle.y_tree.specs.Sorts.{boolean, is_sort}
use Rattle.y_tree.specs.Sorts as sort
use Rattle.y_tree.specs.Values.{values, has_sort, have_sorts}
use Rattle.y_tree.specs.Plain.{plain_value, plain_sorts}
use Rattle.update_axioms.specs.declared.FunctionView.{FunctionView}
use Rattle.update_axioms.specs.declared.candidate.Candidate.{Candidate}
use Rattle.update_axioms.specs.Views.{Update, Pair}
use Rattle.update_axioms.specs.Tabling.{Made}
use Rattle.update_axioms.specs.Shown.{value_or_none}
use Rattle.update_axioms.specs.Candidates.{value_in, or_empty, key_in, IsNode, CanBeJudged}
use Rattle.update_axioms.proofs.Ordered.{only_item}
use Rattle.update_axioms.proofs.Truths.{joined}

-- the property of each item
abbrev Each : {A : Type 0} → (A → Type 0) → List A → Type 0
Each P [] = Unit {0}
Each P (x ∷ xs) = P x × Each P xs

each_at : {A : Type 0} (P : A → Type 0) (xs : List A) → Each P xs → (i : ℕ) (x : A) → slice_get xs i ≡ Some x → P x
each_at P [] h i x e = absurd (cc e)
each_at P (y ∷ xs) h zero x e = let same : y ≡ x = cc in subst P same h.0
each_at P (y ∷ xs) h (suc i) x e = each_at P xs h.1 i x e

listed : {A : Type 0} (P : A → Type 0) (xs ys : List A) → xs ≡ ys → Each P ys → (i : ℕ) (x : A) → slice_get xs i ≡ Some x → P x
listed P xs ys e h i x g = each_at P ys h i x (subst (λ zs. slice_get zs i ≡ Some x) e g)

some_typed : (o : Option code.Value) → ((w : code.Value) → o ≡ Some w → has_sort (plain_value w) boolean ≡ true) → has_sort (value_or_none o) boolean ≡ true
unfolding has_sort
some_typed None h = refl
some_typed (Some w) h = h w refl

module _ (v : FunctionView) (c : Candidate) (updates_are : v.updates ≡ (1, 0, 0, 4) ∷ []) (unequal_are : v.unequal ≡ (0, 1, None) ∷ []) (tuples_are : v.tuples ≡ (5 ∷ []) ∷ (6 ∷ []) ∷ [])
    (functions_are : c.functions ≡ 0 ∷ 1 ∷ []) (applications_are : c.applications ≡ (1, 0, 2) ∷ (1, 1, 3) ∷ (0, 1, 7) ∷ []) (long : length c.values ≡ 8)
    (typed : (n : ℕ) (w : code.Value) → slice_get c.values n ≡ Some w → has_sort (plain_value w) boolean ≡ true) (arguments_are : plain_sorts c.arguments ≡ sort.more boolean sort.none)
    (other_typed : has_sort (plain_value c.default_value) boolean ≡ true) where
  node_typed : (n : ℕ) → has_sort (value_in c n) boolean ≡ true
  node_typed n = some_typed (slice_get c.values n) (λ w e. typed n w e)

  key_typed : (t : ℕ) → t < 2 → have_sorts (values (map (value_in c) (or_empty (slice_get ((5 ∷ []) ∷ (6 ∷ []) ∷ []) t)))) (sort.more boolean sort.none) ≡ true
  unfolding has_sort
  key_typed zero h = joined (has_sort (value_in c 5) boolean) true (node_typed 5) refl
  key_typed (suc zero) h = joined (has_sort (value_in c 6) boolean) true (node_typed 6) refl
  key_typed (suc (suc t)) h = absurd (omega arith)

  two : length v.tuples ≡ 2
  two = ap length tuples_are

  node_0 : IsNode c 0
  node_0 = (0, ap (λ fs. slice_get fs 0) functions_are)

  node_1 : IsNode c 1
  node_1 = (1, ap (λ fs. slice_get fs 1) functions_are)

  of_type : is_sort (sort.function (sort.more boolean sort.none) boolean) ≡ true
  unfolding sort.count sort.are_simple
  of_type = refl

  pub can_be_judged : CanBeJudged v c boolean
  can_be_judged =
      record {
        typed = record {
          type = subst (λ ss. is_sort (sort.function ss boolean) ≡ true) (sym arguments_are) of_type;
          made = λ i a h. node_typed a.2;
          updated_to = λ k u h. node_typed u.3;
          keys = λ t h.
              subst (λ ss. have_sorts (values (key_in v c t)) ss ≡ true) (sym arguments_are)
              (subst (λ ts. have_sorts (values (map (value_in c) (or_empty (slice_get ts t)))) (sort.more boolean sort.none) ≡ true) (sym tuples_are) (key_typed t (omega (arith, two))));
          other = other_typed;
        };
        updates = listed (λ (u : Update). u.2 < length v.tuples) v.updates _ updates_are (omega (arith, two), tt);
        applications = listed (λ (a : Made). a.1 < length v.tuples) c.applications _ applications_are (omega (arith, two), (omega (arith, two), (omega (arith, two), tt)));
        made = listed (λ (a : Made). a.2 < length c.values) c.applications _ applications_are (omega (arith, long), (omega (arith, long), (omega (arith, long), tt)));
        updated_to = listed (λ (u : Update). u.3 < length c.values) v.updates _ updates_are (omega (arith, long), tt);
        tuples = λ t i n ns h g.
            listed (λ (ms : List ℕ). (j m : ℕ) → slice_get ms j ≡ Some m → m < length c.values) v.tuples _ tuples_are
            ((λ j m e. subst (λ x. x < length c.values) (only_item 5 j m e) (omega (arith, long))), ((λ j m e. subst (λ x. x < length c.values) (only_item 6 j m e) (omega (arith, long))), tt)) t ns h i n g;
        applied = listed (λ (a : Made). IsNode c a.0) c.applications _ applications_are (node_1, (node_1, (node_0, tt)));
        results = listed (λ (u : Update). IsNode c u.0) v.updates _ updates_are (node_1, tt);
        functions = listed (λ (u : Update). IsNode c u.1) v.updates _ updates_are (node_0, tt);
        lefts = listed (λ (p : Pair). IsNode c p.0) v.unequal _ unequal_are (node_0, tt);
        rights = listed (λ (p : Pair). IsNode c p.1) v.unequal _ unequal_are (node_1, tt);
        once = subst (λ ps. (i j : ℕ) (p q : Pair) → slice_get ps i ≡ Some p → slice_get ps j ≡ Some q → p.0 ≡ q.0 → p.1 ≡ q.1 → i ≡ j) (sym unequal_are) one_pair;
      }
    where
      one_pair : (i j : ℕ) (p q : Pair) → slice_get ((0, 1, None) ∷ []) i ≡ Some p → slice_get ((0, 1, None) ∷ []) j ≡ Some q → p.0 ≡ q.0 → p.1 ≡ q.1 → i ≡ j
      one_pair zero zero p q h g a b = refl
      one_pair zero (suc j) p q h g a b = absurd (cc g)
      one_pair (suc i) j p q h g a b = absurd (cc h)
