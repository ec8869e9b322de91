-- The arguments of a call as literals: each means its tree, and has its sort.
use Rattle.std.proofs.Common.{◌≡◌, ◌∙◌, true, not, List, [], ◌∷◌, map, Option, Some, None, refl, sym, ap}
use Rattle.std.specs.Option.{option_map}
use Rattle.y_tree.specs.Sorts.{Sort, boolean, same_sort, is_sort}
use Rattle.y_tree.specs.Values as value
use Rattle.y_tree.specs.Values.{Value, has_sort}
use Rattle.y_tree.specs.Tree.{Tree, Trees, node, none, more, truth, falsity, negation}
use Rattle.y_tree.specs.Typing.{sort_of}
use Rattle.y_tree.specs.Meaning.{Assignment, meaning, meanings, truth_of, or_boolean}
use Rattle.y_tree.specs.Laws.{TreeHasASort, MeaningHasItsSort}
use Rattle.term_shapes.specs.declared.handles.Term.{Term}
use Rattle.term_shapes.specs.declared.shapes.Shape.{Shape}
use Rattle.term_shapes.specs.declared.shapes.Shape.TheVariants as shape
use Rattle.term_shapes.specs.declared.shapes.Node.{Node}
use Rattle.term_shapes.specs.Shapes.{op_of, args_of}
use Rattle.term_table.specs.World.{World, node_at, HasShape, Keeps, KeepsAll, IsTable}
use Rattle.term_sketches.specs.Sketches.{the_truth}
use Rattle.term_sketches.specs.Valuing.{IsValuation, literal_value}
use Rattle.term_build.specs.Building.{literal_of, literal_at}
use Rattle.term_build.proofs.Kept.{same_kept}
use Rattle.term_build.proofs.Meant.{and_true, value_at, sort_at}

truth_means : (a : Assignment) → meaning (node truth none) a ≡ value.truth true
unfolding meaning
truth_means a = refl

module _ (w : World) (table : IsTable w) where
  unfoldable pub tree_under : (t : Term) (o : Option Node) → node_at w t ≡ o → Tree
  tree_under t None e = node truth none
  tree_under t (Some n) e = (table.grounded t n e).0

  -- the tree of a live term, and truth for a dead one
  unfoldable pub tree_at : Term → Tree
  tree_at t = tree_under t (node_at w t) refl

  shape_kept : (t : Term) (b : Tree) → Keeps w t b → (s : Shape) × HasShape w t s
  unfolding Keeps
  shape_kept t (node op bs) (s, k, has, names, is, kept) = (s, has)

  under_is : (t : Term) (b : Tree) → Keeps w t b → (o : Option Node) (e : node_at w t ≡ o) → tree_under t o e ≡ b
  unfolding tree_under
  under_is t b h None e = let s = shape_kept t b h in absurd (cc (sym (ap (option_map (λ (n : Node). n.shape)) e) ∙ s.1))
  under_is t b h (Some n) e = same_kept w (table.grounded t n e).0 b t (table.grounded t n e).2 h

  pub tree_is : (t : Term) (b : Tree) → Keeps w t b → tree_at t ≡ b
  unfolding tree_at
  tree_is t b h = under_is t b h (node_at w t) refl

  pub truth_kept : Keeps w the_truth (node truth none)
  unfolding Keeps
  truth_kept = (shape.True, boolean, table.permanents.truth, tt, refl, tt)

  pub true_tree : tree_at the_truth ≡ node truth none
  true_tree = tree_is the_truth (node truth none) truth_kept

  pub truth_sort : sort_of (node truth none) ≡ Some boolean
  unfolding sort_of same_sort
  truth_sort = refl

  under_typed : (t : Term) (o : Option Node) (e : node_at w t ≡ o) → (s : Sort) × (sort_of (tree_under t o e) ≡ Some s)
  unfolding tree_under
  under_typed t None e = (boolean, truth_sort)
  under_typed t (Some n) e = ((table.grounded t n e).1, (table.grounded t n e).4)

  pub tree_typed : (t : Term) → (s : Sort) × (sort_of (tree_at t) ≡ Some s)
  unfolding tree_at
  tree_typed t = under_typed t (node_at w t) refl

  -- the values of trees under an assignment, with their sorts
  pub valuation : TreeHasASort → MeaningHasItsSort → (a : Assignment) → IsValuation (value_at tree_at a true_tree) (sort_at tree_at a true_tree)
  valuation limits meant a = record {
    typed = λ t. let s = tree_typed t in ap (has_sort (meaning (tree_at t) a)) (ap or_boolean s.1) ∙ meant (tree_at t) s.0 a s.1;
    limits = λ t. let s = tree_typed t in ap (λ o. is_sort (or_boolean o)) s.1 ∙ limits (tree_at t) s.0 s.1;
    true_value = ap (λ b. meaning b a) true_tree ∙ truth_means a;
    true_sort = ap (λ b. or_boolean (sort_of b)) true_tree ∙ ap or_boolean truth_sort;
  }

  module _ (a : Assignment) where
    -- the value of a term's tree
    abbrev pub values : Term → Value
    values = value_at tree_at a true_tree

    not_means : (u : Term) (bs : Trees) → KeepsAll w (u ∷ []) bs → meaning (node negation bs) a ≡ literal_value values (record { atom = u; negated = true })
    unfolding Keeps meaning
    not_means u none h = absurd h
    not_means u (more c none) h = ap (λ b. value.truth (not b)) (and_true (truth_of (meaning c a))) ∙ ap (λ b. value.truth (not (truth_of (meaning b a)))) (sym (tree_is u c h.0))
    not_means u (more c (more d ds)) h = absurd h.1

    false_means : (bs : Trees) → meaning (node falsity bs) a ≡ literal_value values (record { atom = the_truth; negated = true })
    unfolding meaning
    false_means bs = sym (ap (λ b. value.truth (not (truth_of (meaning b a)))) true_tree)

    by_shape : (t : Term) (s : Shape) (k : Sort) (bs : Trees) → KeepsAll w (args_of s) bs → meaning (node (op_of s k) bs) a ≡ values t → meaning (node (op_of s k) bs) a ≡ literal_value values (literal_of t (Some s))
    by_shape t (shape.Not u) k bs h e = not_means u bs h
    by_shape t shape.False k bs h e = false_means bs
    by_shape t _ k bs h e = e

    value_of : (t : Term) (b : Tree) → Keeps w t b → meaning b a ≡ values t
    value_of t b h = ap (λ z. meaning z a) (sym (tree_is t b h))

    -- an argument's tree means its literal
    pub argument_means : (t : Term) (b : Tree) → Keeps w t b → meaning b a ≡ literal_value values (literal_at w t)
    unfolding Keeps
    argument_means t (node op bs) (s, k, has, names, is, kept) =
        ap (λ o. meaning (node o bs) a) (sym is) ∙ by_shape t s k bs kept (ap (λ o. meaning (node o bs) a) is ∙ value_of t (node op bs) (s, k, has, names, is, kept))
        ∙ ap (λ o. literal_value values (literal_of t o)) (sym has)

    pub arguments_mean : (ts : List Term) (args : Trees) → KeepsAll w ts args → meanings args a ≡ map (literal_value values) (map (literal_at w) ts)
    unfolding Keeps meaning
    arguments_mean [] none h = refl
    arguments_mean [] (more b bs) h = absurd h
    arguments_mean (t ∷ ts) none h = absurd h
    arguments_mean (t ∷ ts) (more b bs) h =
        ap (λ v. v ∷ meanings bs a) (argument_means t b h.0) ∙ ap (λ vs. literal_value values (literal_at w t) ∷ vs) (arguments_mean ts bs h.1)
