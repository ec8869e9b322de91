-- A fit call's sketch can be made, and what is made of it is the call's answer.
use Rattle.std.proofs.Common.{◌≡◌, ◌∙◌, ℕ, suc, ◌+◌, ◌≤◌, List, [], ◌∷◌, length, map, Some, None, refl, sym, ap, subst, arith}
use Rattle.std.proofs.lemmas.Option.{same_Some}
use Rattle.std.proofs.lemmas.List.{length-map}
use Rattle.y_tree.specs.Sorts.{Sort, boolean}
use Rattle.y_tree.specs.Tree.{negation, conjunction, disjunction, parity, implication, equivalence, choice, equality, disequality, distinctness, Tree, Trees, node, none, more, count}
use Rattle.y_tree.specs.Typing.{sort_of}
use Rattle.y_tree.specs.Meaning.{Assignment, first_sort, meaning, apply, or_boolean}
use Rattle.y_tree.specs.Laws.{SameSortIsEqual, FitsAreTyped, first_of}
use Rattle.term_shapes.specs.declared.handles.Term.{Term}
use Rattle.term_table.specs.World.{World, Keeps, KeepsAll, IsTable}
use Rattle.term_table.specs.Checking.{HasSort, HaveSorts}
use Rattle.term_sketches.specs.declared.items.Literal.{Literal}
use Rattle.term_sketches.specs.declared.items.Sketch.{Sketch}
use Rattle.term_sketches.specs.declared.items.Operator.{Operator}
use Rattle.term_sketches.specs.declared.items.Operator.TheVariants as constructor
use Rattle.term_sketches.specs.Sketches.{the_truth, sketch_of, operator_of}
use Rattle.term_sketches.specs.Valuing.{HaveTypes, HasSketchType, AreAtomsOf, call_sort, are_truths, parts_of, literal_value}
use Rattle.term_build.specs.Building.{literal_at, call_misfit, AreFit, AreKnown, AddsAtMost, IsMade, IsReady, IsBuilt, MeansCall}
use Rattle.term_build.proofs.Growing.{wider, at_most_more}
use Rattle.term_build.proofs.Standing.{AtomsKeep, atom_trees, sketch_tree, made_keeps}
use Rattle.term_build.proofs.Called.{tree_at, tree_is, true_tree, truth_sort, valuation, values, arguments_mean}
use Rattle.term_build.proofs.Sorted.{tree_sorted, argument_types}
use Rattle.term_build.proofs.Meant.{value_at, sort_at, sketch_means}
use Rattle.term_build.proofs.Ready.{AtomsHave, atoms_grounded, parts_keep, parts_sorted, sorts_stay, atoms_stay, sketch_ready, made_sorted}
use Rattle.term_build.proofs.Nearly.{parts_near, sketch_nearly}

-- a call without a misfit gives a type
call_typed : FitsAreTyped → (o : Operator) (ks : List Sort) → call_misfit (operator_of o) ks ≡ None → (s : Sort) × (call_sort (operator_of o) ks ≡ Some s)
call_typed law constructor.Not ks h = (law negation ks refl).0 h
call_typed law constructor.And [] h = (boolean, refl)
call_typed law constructor.And (k ∷ ks) h = (law conjunction (k ∷ ks) refl).0 h
call_typed law constructor.Or [] h = (boolean, refl)
call_typed law constructor.Or (k ∷ ks) h = (law disjunction (k ∷ ks) refl).0 h
call_typed law constructor.Xor [] h = (boolean, refl)
call_typed law constructor.Xor (k ∷ ks) h = (law parity (k ∷ ks) refl).0 h
call_typed law constructor.Implies ks h = (law implication ks refl).0 h
call_typed law constructor.Iff ks h = (law equivalence ks refl).0 h
call_typed law constructor.Ite ks h = (law choice ks refl).0 h
call_typed law constructor.Eq ks h = (law equality ks refl).0 h
call_typed law constructor.Neq ks h = (law disequality ks refl).0 h
call_typed law constructor.Distinct ks h = (law distinctness ks refl).0 h

kept_length : (w : World) (ts : List Term) (args : Trees) → KeepsAll w ts args → count args ≡ length ts
unfolding Keeps
kept_length w [] none h = refl
kept_length w [] (more b bs) h = absurd h
kept_length w (t ∷ ts) none h = absurd h
kept_length w (t ∷ ts) (more b bs) h = ap suc (kept_length w ts bs h.1)

module _ (w : World) (table : IsTable w) (law : SameSortIsEqual) where
  -- live terms have one list of types, and one list of trees
  pub have_one : (ts : List Term) (ks ls : List Sort) → HaveSorts w ts ks → HaveSorts w ts ls → ks ≡ ls
  have_one [] [] [] h g = refl
  have_one [] [] (l ∷ ls) h g = absurd g
  have_one [] (k ∷ ks) ls h g = absurd h
  have_one (t ∷ ts) [] ls h g = absurd h
  have_one (t ∷ ts) (k ∷ ks) [] h g = absurd g
  have_one (t ∷ ts) (k ∷ ks) (l ∷ ls) h g =
      let same : k ≡ l = same_Some k l (sym (tree_sorted w table law t k h.0).0 ∙ (tree_sorted w table law t l g.0).0) in
      ap (λ z. z ∷ ks) same ∙ ap (λ z. l ∷ z) (have_one ts ks ls h.1 g.1)

  pub sorted_keep : (ts : List Term) (ks : List Sort) → HaveSorts w ts ks → KeepsAll w ts (atom_trees (tree_at w table) ts)
  unfolding Keeps
  sorted_keep [] [] h = tt
  sorted_keep [] (k ∷ ks) h = absurd h
  sorted_keep (t ∷ ts) [] h = absurd h
  sorted_keep (t ∷ ts) (k ∷ ks) h = ((tree_sorted w table law t k h.0).1, sorted_keep ts ks h.1)

  first_sorts : (ts : List Term) (ks : List Sort) (args : Trees) → HaveSorts w ts ks → KeepsAll w ts args → first_of ks ≡ first_sort args
  unfolding Keeps
  first_sorts [] [] none h g = refl
  first_sorts [] [] (more b bs) h g = absurd g
  first_sorts [] (k ∷ ks) args h g = absurd h
  first_sorts (t ∷ ts) [] args h g = absurd h
  first_sorts (t ∷ ts) (k ∷ ks) none h g = absurd g
  first_sorts (t ∷ ts) (k ∷ ks) (more b bs) h g = sym (ap or_boolean (ap sort_of (sym (tree_is w table t b g.0)) ∙ (tree_sorted w table law t k h.0).0))

module _ (known : AreKnown) (old : World) (table : IsTable old) (o : Operator) (ts : List Term) (fit : AreFit old (operator_of o) ts) where
  abbrev literals : List Literal
  literals = map (literal_at old) ts

  abbrev pub the_sketch : Sketch
  the_sketch = sketch_of o (are_truths fit.sorts) literals

  abbrev tree_for : Term → Tree
  tree_for = tree_at old table

  abbrev sort_for : Term → Sort
  sort_for t = or_boolean (sort_of (tree_at old table t))

  sort : (s : Sort) × (call_sort (operator_of o) fit.sorts ≡ Some s)
  sort = call_typed known.typed o fit.sorts fit.fit

  true_sort : sort_for the_truth ≡ boolean
  true_sort = ap (λ b. or_boolean (sort_of b)) (true_tree old table) ∙ ap or_boolean (truth_sort old table)

  types : HaveTypes sort_for literals fit.sorts
  types = argument_types old table known.decided ts fit.sorts fit.have

  sketch_type : HasSketchType sort_for the_sketch sort.0
  sketch_type = known.types sort_for true_sort o literals fit.sorts sort.0 types sort.1

  atoms : AreAtomsOf literals (parts_of the_sketch)
  atoms = known.made o (are_truths fit.sorts) literals

  keep : AtomsKeep old table tree_for (parts_of the_sketch)
  keep = parts_keep old table literals (parts_of the_sketch) (atoms_grounded old table ts (atom_trees tree_for ts) (sorted_keep old table known.decided ts fit.sorts fit.have)) atoms

  have : AtomsHave old sort_for (parts_of the_sketch)
  have = parts_sorted old table (parts_of the_sketch) keep

  pub call_ready : IsReady old the_sketch
  call_ready = sketch_ready old sort_for the_sketch sort.0 have sketch_type

  small : length (parts_of the_sketch) ≤ suc (length ts)
  small = omega (arith, known.small o (are_truths fit.sorts) literals, length-map ts (literal_at old))

  pub call_grown : (new : World) → AddsAtMost (length (parts_of the_sketch) + 2) old new → AddsAtMost (4 + length ts) old new
  call_grown new grown = at_most_more (length (parts_of the_sketch) + 2) (4 + length ts) old new (omega (arith, small)) grown

  same_meaning : (args : Trees) → KeepsAll old ts args → (a : Assignment) → meaning (sketch_tree tree_for the_sketch) a ≡ meaning (node (operator_of o) args) a
  unfolding meaning
  same_meaning args kept a =
      sketch_means tree_for a (true_tree old table) the_sketch
      ∙ known.means (value_at tree_for a (true_tree old table)) (sort_at tree_for a (true_tree old table)) (valuation old table known.limits known.meant a) o literals fit.sorts sort.0 a types sort.1
      ∙ ap (λ k. apply (operator_of o) k (map (literal_value (values old table a)) literals) a) (first_sorts old table known.decided ts fit.sorts args fit.have kept)
      ∙ ap (λ vs. apply (operator_of o) (first_sort args) vs a) (sym (arguments_mean old table a ts args kept))

  module _ (new : World) (after : IsTable new) (n : ℕ) (grown : AddsAtMost n old new) (t : Term) (made : IsMade new t the_sketch) where
    pub call_kept : Keeps new t (sketch_tree tree_for the_sketch)
    call_kept = made_keeps new after tree_for t the_sketch made (atoms_stay old new (wider n old new grown) table after tree_for (parts_of the_sketch) keep)

    call_means : (args : Trees) → KeepsAll old ts args → MeansCall new (operator_of o) args t
    call_means args kept = record {
      tree = sketch_tree tree_for the_sketch;
      kept = call_kept;
      same = same_meaning args kept;
      near = sketch_nearly args tree_for the_sketch (parts_near old table ts args kept (parts_of the_sketch) atoms) (omega (arith, small, kept_length old ts args kept));
    }

    call_made : (ks : List Sort) → HaveSorts old ts ks → IsMade new t (sketch_of o (are_truths ks) literals)
    call_made ks h = subst (λ z. IsMade new t (sketch_of o (are_truths z) literals)) (have_one old table known.decided ts fit.sorts ks fit.have h) made

    call_gives : (ks : List Sort) (k : Sort) → HaveSorts old ts ks → call_sort (operator_of o) ks ≡ Some k → HasSort new t k
    call_gives ks k h e =
        let one : fit.sorts ≡ ks = have_one old table known.decided ts fit.sorts ks fit.have h in
        let same : sort.0 ≡ k = same_Some sort.0 k (sym sort.1 ∙ ap (call_sort (operator_of o)) one ∙ e) in
        subst (HasSort new t) same (made_sorted new sort_for after known.decided t the_sketch sort.0 (sorts_stay old new (wider n old new grown) sort_for (parts_of the_sketch) have) sketch_type made)

    pub call_built : IsBuilt old new o ts t
    call_built = record { fit = fit; means = call_means; made = call_made; gives = call_gives }
