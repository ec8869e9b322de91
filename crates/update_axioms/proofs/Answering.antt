-- What is answered of a candidate.
use Rattle.std.proofs.Common.{◌≡◌, ◌∙◌, ◌<◌, inl, inr, ℕ, suc, Bool, true, false, not, ◌||◌, List, [], ◌∷◌, Option, Some, None, map, length, refl, sym, ap, subst}
use Rattle.std.specs.Prelude.{slice_get, IsSome, if◌then◌else◌, Result, Ok, Err, IfOk}
use Rattle.std.specs.declared.alloc.AllocError.{AllocError}
use Rattle.y_tree.specs.declared.sorts.Sort as code_sort
use Rattle.update_axioms.specs.declared.building.All.{All}
use Rattle.update_axioms.specs.declared.building.All.TheVariants.{Functions, Clashes}
use Rattle.update_axioms.specs.declared.candidate.Judged.{Judged}
use Rattle.update_axioms.specs.declared.candidate.Judged.TheVariants.{Broken}
use Rattle.update_axioms.specs.declared.candidate.Judged.TheVariants as judged
use Rattle.std.proofs.lemmas.Option.{slice_get_within}
use Rattle.y_tree.specs.declared.values.Value as code
use Rattle.y_tree.specs.declared.values.FunValue.{FunValue, out-FunValue}
use Rattle.y_tree.specs.Sorts.{Sort}
use Rattle.y_tree.specs.Sorts as sort
use Rattle.y_tree.specs.Values.{Value, Values, Entries, function, values, value_at, call, equal, equal_all, same_function, has_sort, have_sorts, have_sort, are_flat}
use Rattle.y_tree.specs.Meaning.{updated}
use Rattle.y_tree.specs.Order.{is_rising}
use Rattle.y_tree.specs.Plain.{plain_value, plain_function, plain_entries, plain_sorts}
use Rattle.y_tree.proofs.Equality.{flat_key_alike}
use Rattle.y_tree.proofs.EntryLists.{functions_flat}
use Rattle.update_axioms.specs.declared.FunctionView.{FunctionView}
use Rattle.update_axioms.specs.declared.shown.FunctionValues.{FunctionValues}
use Rattle.update_axioms.specs.declared.candidate.Candidate.{Candidate}
use Rattle.update_axioms.specs.declared.candidate.Demand.TheVariants.{Congruent, Axiom}
use Rattle.update_axioms.specs.declared.Instance.{Instance}
use Rattle.update_axioms.specs.declared.Instance.TheVariants.{AtPoint, Elsewhere, Differ}
use Rattle.update_axioms.specs.Views.{Update, instances_of}
use Rattle.update_axioms.specs.Says.{has_value, is_kept, holds_of}
use Rattle.update_axioms.specs.Enough.{Nodes, shown, AreTyped, IsOver, AreOver}
use Rattle.update_axioms.specs.Tables.{Point, HasEntry, AreCongruent, TabulateAll}
use Rattle.update_axioms.specs.Shown.{found, function_or_none, value_or_none, key_or_none, nodes_of, is_so_of, is_so_under, first_failing, Shows}
use Rattle.update_axioms.specs.Tabling.{Made, point_of, points_made, AreTabled}
use Rattle.update_axioms.specs.Candidates.{value_in, key_in, IsNode, application_of, applications_of, functions_from, entries_found, CanBeJudged, IsBroken, AreBuilt, HaveDefault, IsJudged, Judges}
use Rattle.update_axioms.specs.Building.{AreTupleValues, Clashing, AreAllBuilt, IsAll, AreUpdateValues}
use Rattle.update_axioms.proofs.Truths.{joined, tells}
use Rattle.update_axioms.proofs.Listed.{at_map, Origin, point, kept, pair, before_pairs, origin}
use Rattle.update_axioms.proofs.Holding.{item_at}
use Rattle.update_axioms.proofs.Judging.{key_flat}
use Rattle.update_axioms.proofs.Tables.{found_entry}
use Rattle.update_axioms.proofs.Demands.{entries_typed_each, met_is_so}
use Rattle.update_axioms.proofs.NoneFalse.{none_false}
use Rattle.update_axioms.proofs.TabledGroups.{tabled_groups_fit}

-- what is there
some_of : {A : Type 0} (o : Option A) → IsSome o → (a : A) × (o ≡ Some a)
some_of None h = absurd (cc h)
some_of (Some a) h = (a, refl)

-- the first that fails is one, and fails
pub failing_is : (p : Instance → Bool) (xs : List Instance) (a : Instance) → first_failing p xs ≡ Some a → ((i : ℕ) × (slice_get xs i ≡ Some a)) × (p a ≡ false)
failing_is p [] a h = absurd (cc h)
failing_is p (x ∷ xs) a h =
    elim (tells (p x)) [
      | inl good ↦
          let r = failing_is p xs a (subst (λ b. (if b then first_failing p xs else Some x) ≡ Some a) good h) in
          ((suc r.0.0, r.0.1), r.1)
      | inr bad ↦
          let e : Some x ≡ Some a = subst (λ b. (if b then first_failing p xs else Some x) ≡ Some a) bad h in
          let same : x ≡ a = cc in
          ((0, ap (λ y. Some y) same), subst (λ y. p y ≡ false) same bad)
    ]

-- a clash breaks congruence
pub clash_breaks : (v : FunctionView) (c : Candidate) (tuples : List (List code.Value)) (f s t : ℕ) → AreTupleValues v c tuples → Clashing c tuples f s t → (result : Sort) → CanBeJudged v c result → IsBroken v c (Congruent f s t)
clash_breaks v c tuples f s t are clash result can =
    record {
      demanded = ((clash.left, clash.first), (clash.right, clash.second));
      unmet = λ meets.
          let keys = ap values (sym (are.each s)) ∙ clash.key ∙ ap values (are.each t) in
          let self : equal_all (values (key_in v c s)) (values (key_in v c s)) ≡ true = flat_key_alike (values (key_in v c s)) (key_flat v c result can s (can.applications clash.first.0 (f, s, clash.left) clash.first.1)) in
          let same : equal_all (values (key_in v c s)) (values (key_in v c t)) ≡ true = subst (λ k. equal_all (values (key_in v c s)) k ≡ true) keys self in
          absurd (cc (sym (meets clash.left clash.right clash.first clash.second same) ∙ clash.two));
    }

module _ (v : FunctionView) (c : Candidate) (result : Sort) (can : CanBeJudged v c result) (tuples : List (List code.Value)) (are : AreTupleValues v c tuples) (fs : List (ℕ × FunValue)) (built : AreAllBuilt c tuples fs)
    (vs : List (ℕ × code.Value)) (update_values : AreUpdateValues v c vs) where
  -- what is shown
  abbrev pub all_shown : FunctionValues
  all_shown = record { functions = fs; values = vs; tuples = tuples; arguments = c.arguments }

  pub there : (f : ℕ) → IsNode c f → IsSome (found fs f)
  there f node = built.there node.0 f node.1

  other_is : (f : ℕ) (g : FunValue) → found fs f ≡ Some g → plain_function g ≡ function (plain_entries (entries_found (found fs f))) (plain_value c.default_value)
  other_is f g h = rw (h, (built.each f g h).other) refl

  -- functions, values and keys are those of the candidate
  function_is : (f : ℕ) → IsNode c f → function_or_none (found fs f) ≡ function (plain_entries (entries_found (found fs f))) (plain_value c.default_value)
  function_is f node =
      let g = some_of (found fs f) (there f node) in
      ap function_or_none g.1 ∙ other_is f g.0 g.1

  value_is : (n : ℕ) → IsSome (found vs n) → value_or_none (found vs n) ≡ value_in c n
  value_is n h =
      let w = some_of (found vs n) h in
      ap value_or_none w.1 ∙ update_values.each n w.0 w.1

  tuple_there : (t : ℕ) (key : List code.Value) → slice_get tuples t ≡ Some key → map plain_value key ≡ key_in v c t
  tuple_there t key h = sym (ap key_or_none h) ∙ are.each t

  -- an entry of a function is typed, and stands at a tuple
  entry_is : (f : ℕ) (g : FunValue) (h : found fs f ≡ Some g) (k : Values) (w : Value) → HasEntry (plain_entries (out-FunValue g).entries.items) k w
      → (t : ℕ) × (t < length v.tuples) × (k ≡ values (key_in v c t)) × (has_sort w result ≡ true)
  entry_is f g h k w e =
      let b = built.each f g h in
      let from = b.tabled.tabulate.points_of k w e in
      let m = at_map (point_of tuples c.values) b.group from.0 (k, w) from.1 in
      let a = b.grouped.member from.0 m.0 m.1 in
      let key : k ≡ values (key_in v c m.0.1) = ap (λ (x : Point). x.0) m.2 ∙ ap values (are.each m.0.1) in
      let val : w ≡ value_in c m.0.2 = ap (λ (x : Point). x.1) m.2 in
      (m.0.1, can.applications a.1 m.0 a.2, key, subst (λ x. has_sort x result ≡ true) (sym val) (can.typed.made a.1 m.0 a.2))

  pub function_typed : (f : ℕ) (g : FunValue) → found fs f ≡ Some g → has_sort (plain_function g) (sort.function (plain_sorts c.arguments) result) ≡ true
  unfolding has_sort
  function_typed f g h =
      joined (have_sort (plain_entries (out-FunValue g).entries.items) (plain_sorts c.arguments) result) (has_sort (plain_value (out-FunValue g).default_value) result)
      (entries_typed_each (plain_entries (out-FunValue g).entries.items) (plain_sorts c.arguments) result (λ k w e.
      let r = entry_is f g h k w e in
      (subst (λ x. have_sorts x (plain_sorts c.arguments) ≡ true) (sym r.2) (can.typed.keys r.0 r.1), r.3)))
      (subst (λ x. has_sort x result ≡ true) (sym (built.each f g h).other) can.typed.other)

  pub shows : Shows v all_shown
  shows =
      record {
        shown = record {
          formed = λ f g h. (built.each f g h).tabled.rising;
          flat = λ f g h. functions_flat (plain_sorts c.arguments) result (plain_function g) can.typed.type (function_typed f g h);
          keys = λ t key h. subst (λ ks. are_flat (values ks) ≡ true) (sym (tuple_there t key h)) (key_flat v c result can t (subst (λ n. t < n) are.long (slice_get_within tuples t key h)));
        };
        updates = λ k u h. there u.0 (can.results k u h);
        functions = λ k u h. there u.1 (can.functions k u h);
        within = λ k u h. subst (λ n. u.2 < n) (sym are.long) (can.updates k u h);
        updated_to = λ k u h. update_values.there k u h;
        lefts = λ k p h. there p.0 (can.lefts k p h);
        rights = λ k p h. there p.1 (can.rights k p h);
        tuples = are.long;
      }

  -- the applications of each function, where it was found
  group_at : (f : ℕ) (o : Option FunValue) → found fs f ≡ o → List Made
  group_at f None e = []
  group_at f (Some g) e = (built.each f g e).group

  group : ℕ → List Made
  group f = group_at f (found fs f) refl

  group_member : (f : ℕ) (o : Option FunValue) (e : found fs f ≡ o) (i : ℕ) (a : Made) → slice_get (group_at f o e) i ≡ Some a → (a.0 ≡ f) × (j : ℕ) × (slice_get c.applications j ≡ Some a)
  unfolding group_at
  group_member f None e i a h = absurd (cc h)
  group_member f (Some g) e i a h = (built.each f g e).grouped.member i a h

  group_all : (f : ℕ) (o : Option FunValue) (e : found fs f ≡ o) → IsSome o → (i : ℕ) (a : Made) → slice_get c.applications i ≡ Some a → a.0 ≡ f → (j : ℕ) × (slice_get (group_at f o e) j ≡ Some a)
  unfolding group_at
  group_all f None e s i a h m = absurd (cc s)
  group_all f (Some g) e s i a h m = (built.each f g e).grouped.all i a h m

  group_tabled : (f : ℕ) (o : Option FunValue) (e : found fs f ≡ o) → AreTabled (points_made tuples c.values (group_at f o e)) (entries_found o)
  unfolding group_at HasEntry is_rising
  group_tabled f None e =
      record { functional = λ i j p q h g k. absurd (cc h); tabulate = record { keys = λ i p h. absurd (cc h); points_of = λ k w h. absurd h }; rising = refl }
  group_tabled f (Some g) e = (built.each f g e).tabled

  -- the entries of each function
  abbrev pub entries_of : ℕ → Entries
  entries_of f = plain_entries (entries_found (found fs f))

  fit : AreCongruent (value_in c) (applications_of v c) × TabulateAll (value_in c) (applications_of v c) entries_of
  unfolding group
  fit =
      tabled_groups_fit (value_in c) (application_of v) tuples c.values c.applications group (λ f. entries_found (found fs f))
      (record {
        member = λ f i a h. group_member f (found fs f) refl i a h;
        all = λ i a h. group_all a.0 (found fs a.0) refl (there a.0 (can.applied i a h)) i a h refl;
      })
      (λ i a h. (refl, ap (λ k. (values k, value_in c a.2)) (are.each a.1)))
      (λ f. group_tabled f (found fs f) refl)

  -- the nodes of the candidate
  abbrev pub all_nodes : Nodes
  all_nodes = functions_from v c entries_of

  same_point : (k : ℕ) (u : Update) → slice_get v.updates k ≡ Some u → has_value (shown (nodes_of all_shown)) u ≡ has_value (shown all_nodes) u
  same_point k u h =
      ap (λ f. equal (call f (values (key_or_none (slice_get tuples u.2)))) (value_or_none (found vs u.3))) (function_is u.0 (can.results k u h))
      ∙ ap (λ ks. equal (call (function (entries_of u.0) (plain_value c.default_value)) (values ks)) (value_or_none (found vs u.3))) (are.each u.2)
      ∙ ap (λ w. equal (call (function (entries_of u.0) (plain_value c.default_value)) (values (key_in v c u.2))) w) (value_is u.3 (update_values.there k u h))

  same_elsewhere : (k t : ℕ) (u : Update) → slice_get v.updates k ≡ Some u → is_kept (shown (nodes_of all_shown)) t u ≡ is_kept (shown all_nodes) t u
  same_elsewhere k t u h =
      ap (λ ks. equal_all (values ks) (values (key_or_none (slice_get tuples u.2))) || equal (call (function_or_none (found fs u.0)) (values ks)) (call (function_or_none (found fs u.1)) (values ks))) (are.each t)
      ∙ ap (λ ks. equal_all (values (key_in v c t)) (values ks) || equal (call (function_or_none (found fs u.0)) (values (key_in v c t))) (call (function_or_none (found fs u.1)) (values (key_in v c t)))) (are.each u.2)
      ∙ ap (λ f. equal_all (values (key_in v c t)) (values (key_in v c u.2)) || equal (call f (values (key_in v c t))) (call (function_or_none (found fs u.1)) (values (key_in v c t)))) (function_is u.0 (can.results k u h))
      ∙ ap (λ f. equal_all (values (key_in v c t)) (values (key_in v c u.2)) || equal (call (function (entries_of u.0) (plain_value c.default_value)) (values (key_in v c t))) (call f (values (key_in v c t)))) (function_is u.1 (can.functions k u h))

  same_pair : (f g : ℕ) → IsNode c f → IsNode c g
      → same_function (plain_sorts c.arguments) (function_or_none (found fs f)) (function_or_none (found fs g)) ≡ same_function (plain_sorts c.arguments) (all_nodes.function f) (all_nodes.function g)
  same_pair f g nf ng =
      ap (λ x. same_function (plain_sorts c.arguments) x (function_or_none (found fs g))) (function_is f nf)
      ∙ ap (λ x. same_function (plain_sorts c.arguments) (all_nodes.function f) x) (function_is g ng)

  same_so : (a : Instance) (i : ℕ) → Origin (length v.updates) (length v.tuples) v.unequal (length (before_pairs v)) i a → is_so_of v all_shown a ≡ is_so_under v (plain_sorts c.arguments) all_nodes a
  same_so (AtPoint k) i (point h e) =
      let same : k ≡ i = cc in
      let u = item_at v.updates k (subst (λ x. x < length v.updates) (sym same) h) in
      ap (holds_of (has_value (shown (nodes_of all_shown)))) u.1 ∙ same_point k u.0 u.1 ∙ sym (ap (holds_of (has_value (shown all_nodes))) u.1)
  same_so (AtPoint k) i (kept j t hk ht e is) = absurd cc
  same_so (AtPoint k) i (pair j p h e is) = absurd cc
  same_so (Elsewhere k t) i (point h e) = absurd cc
  same_so (Elsewhere k t) i (kept j s hk ht e is) =
      let same : k ≡ j = cc in
      let u = item_at v.updates k (subst (λ x. x < length v.updates) (sym same) hk) in
      ap (holds_of (is_kept (shown (nodes_of all_shown)) t)) u.1 ∙ same_elsewhere k t u.0 u.1 ∙ sym (ap (holds_of (is_kept (shown all_nodes) t)) u.1)
  same_so (Elsewhere k t) i (pair j p h e is) = absurd cc
  same_so (Differ f g) i (point h e) = absurd cc
  same_so (Differ f g) i (kept j s hk ht e is) = absurd cc
  same_so (Differ f g) i (pair j p h e is) =
      let left : f ≡ p.0 = cc in
      let right : g ≡ p.1 = cc in
      ap not (same_pair f g (subst (λ x. IsNode c x) (sym left) (can.lefts j p h)) (subst (λ x. IsNode c x) (sym right) (can.rights j p h)))

  -- an axiom that is false is a broken demand
  pub axiom_breaks : (a : Instance) → first_failing (is_so_of v all_shown) (instances_of v) ≡ Some a → IsBroken v c (Axiom a)
  axiom_breaks a h =
      let f = failing_is (is_so_of v all_shown) (instances_of v) a h in
      record {
        demanded = f.0;
        unmet = λ meets.
            let so = met_is_so v c result entries_of a can fit.0 fit.1 f.0 meets in
            absurd (cc (sym f.1 ∙ same_so a f.0.0 (origin v f.0.0 a f.0.1) ∙ so));
      }

  node_typed : (f : ℕ) → IsNode c f → has_sort (function_or_none (found fs f)) (sort.function (plain_sorts c.arguments) result) ≡ true
  node_typed f node =
      let g = some_of (found fs f) (there f node) in
      subst (λ o. has_sort (function_or_none o) (sort.function (plain_sorts c.arguments) result) ≡ true) (sym g.1) (function_typed f g.0 g.1)

  all_typed : AreTyped v (plain_sorts c.arguments) result (nodes_of all_shown)
  all_typed =
      record {
        type = can.typed.type;
        updates = λ k u h. node_typed u.0 (can.results k u h);
        functions = λ k u h. node_typed u.1 (can.functions k u h);
        updated_to = λ k u h. subst (λ w. has_sort w result ≡ true) (sym (value_is u.3 (update_values.there k u h))) (can.typed.updated_to k u h);
        lefts = λ k p h. node_typed p.0 (can.lefts k p h);
        rights = λ k p h. node_typed p.1 (can.rights k p h);
        keys = λ t h. subst (λ ks. have_sorts (values ks) (plain_sorts c.arguments) ≡ true) (sym (are.each t)) (can.typed.keys t h);
      }

  node_over : (f : ℕ) → IsNode c f → IsOver (length v.tuples) (nodes_of all_shown).key (plain_value c.default_value) (function_or_none (found fs f))
  node_over f node =
      let g = some_of (found fs f) (there f node) in
      record {
        entries = entries_of f;
        is = function_is f node;
        at_tuples = λ k h.
            let e = found_entry (entries_of f) (plain_value c.default_value) k h in
            let w = value_at (entries_of f) (plain_value c.default_value) k in
            let e2 = subst (λ o. HasEntry (plain_entries (entries_found o)) k w) g.1 e in
            let r = entry_is f g.0 g.1 k w e2 in
            let self = flat_key_alike (values (key_in v c r.0)) (key_flat v c result can r.0 r.1) in
            (r.0, r.1, subst (λ ks. equal_all (values ks) k ≡ true) (sym (are.each r.0)) (subst (λ x. equal_all (values (key_in v c r.0)) x ≡ true) (sym r.2) self));
      }

  all_over : AreOver v (plain_value c.default_value) (nodes_of all_shown)
  all_over = record { updates = λ k u h. node_over u.0 (can.results k u h); functions = λ k u h. node_over u.1 (can.functions k u h) }

  -- where no axiom is false, the functions are as the view says
  pub all_built : first_failing (is_so_of v all_shown) (instances_of v) ≡ None → AreBuilt v c entries_of
  all_built none_is =
      let so = none_false v all_shown can.updates none_is result (plain_value c.default_value) all_typed all_over in
      record {
        congruent = fit.0;
        tabulate = fit.1;
        updates = λ k u h.
            subst (λ f. same_function (plain_sorts c.arguments) f (updated (all_nodes.function u.1) (key_in v c u.2) (value_in c u.3)) ≡ true) (function_is u.0 (can.results k u h))
            (subst (λ f. same_function (plain_sorts c.arguments) (function_or_none (found fs u.0)) (updated f (key_in v c u.2) (value_in c u.3)) ≡ true) (function_is u.1 (can.functions k u h))
            (subst (λ ks. same_function (plain_sorts c.arguments) (function_or_none (found fs u.0)) (updated (function_or_none (found fs u.1)) ks (value_in c u.3)) ≡ true) (are.each u.2)
            (subst (λ w. same_function (plain_sorts c.arguments) (function_or_none (found fs u.0)) (updated (function_or_none (found fs u.1)) (key_or_none (slice_get tuples u.2)) w) ≡ true) (value_is u.3 (update_values.there k u h))
            (so.0 k u h))));
        pairs = λ k p h. sym (same_pair p.0 p.1 (can.lefts k p h) (can.rights k p h)) ∙ so.1 k p h;
      }

  pub have_default : HaveDefault c fs
  have_default f g h = (built.each f g h).other

-- a clash as the code has it
pub all_clash : (c : Candidate) (tuples tuples2 : List (List code.Value)) (all : All) (f s t : ℕ) → IsAll c tuples all → tuples ≡ tuples2 → all ≡ Clashes f s t → Clashing c tuples2 f s t
all_clash c tuples tuples2 all f s t h e g = subst (λ ts. Clashing c ts f s t) e (subst (λ x. IsAll c tuples x) g h)

module _ (v : FunctionView) (c : Candidate) (result : Sort) (can : CanBeJudged v c result) (tuples : List (List code.Value)) (are : AreTupleValues v c tuples) (tuples2 : List (List code.Value))
    (vs : List (ℕ × code.Value)) (update_values : AreUpdateValues v c vs) (all : All) (fs : List (ℕ × FunValue)) (arguments : List code_sort.Sort) (made : IsAll c tuples2 all) (same : tuples2 ≡ tuples) (is : all ≡ Functions fs)
    (of : arguments ≡ c.arguments) where
  built_is : AreAllBuilt c tuples fs
  built_is = subst (λ ts. AreAllBuilt c ts fs) same (subst (λ x. IsAll c tuples2 x) is made)

  pub built_shows : Shows v (record { functions = fs; values = vs; tuples = tuples; arguments = arguments })
  built_shows = subst (λ (ss : List code_sort.Sort). Shows v (record { functions = fs; values = vs; tuples = tuples; arguments = ss })) (sym of) (shows v c result can tuples are fs built_is vs update_values)

  -- what is answered of the functions is answered of the candidate
  judged_is : (j : Judged) → IsJudged v (record { functions = fs; values = vs; tuples = tuples; arguments = c.arguments }) j → Judges v c j
  judged_is (Broken (Congruent f s t)) h = absurd h
  judged_is (Broken (Axiom a)) h = axiom_breaks v c result can tuples are fs built_is vs update_values a h
  judged_is (judged.Functions gs) h =
      subst (λ xs. Judges v c (judged.Functions xs)) (sym h.1)
      (all_built v c result can tuples are fs built_is vs update_values h.0, have_default v c result can tuples are fs built_is vs update_values)

  pub judges_all : (r : Result Judged AllocError) → IfOk r (IsJudged v (record { functions = fs; values = vs; tuples = tuples; arguments = arguments })) → IfOk r (Judges v c)
  judges_all (Ok j) h = judged_is j (subst (λ (ss : List code_sort.Sort). IsJudged v (record { functions = fs; values = vs; tuples = tuples; arguments = ss }) j) of h)
  judges_all (Err e) h = tt
