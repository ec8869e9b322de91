-- The arguments of a call as literals have the arguments' sorts.
use Rattle.std.proofs.Common.{◌≡◌, ◌∙◌, Bool, true, false, List, [], ◌∷◌, map, Option, Some, None, refl, sym, ap, subst}
use Rattle.std.specs.Option.{option_map}
use Rattle.std.proofs.lemmas.Option.{same_Some}
use Rattle.y_tree.specs.Sorts.{Sort, boolean}
use Rattle.y_tree.specs.Tree.{Tree, Trees, node, none, more, falsity, negation}
use Rattle.y_tree.specs.Typing.{sort_of, both, typed_over, only_if, are}
use Rattle.y_tree.specs.Meaning.{or_boolean}
use Rattle.y_tree.specs.Laws.{SameSortIsEqual, first_of}
use Rattle.term_shapes.specs.declared.handles.Term.{Term}
use Rattle.term_shapes.specs.declared.shapes.Shape.{Shape}
use Rattle.term_shapes.specs.declared.shapes.Shape.TheVariants as shape
use Rattle.term_shapes.specs.declared.shapes.Node.{Node}
use Rattle.term_shapes.specs.Shapes.{op_of, args_of}
use Rattle.term_table.specs.World.{World, node_at, KeepsType, Keeps, KeepsAll, IsTable}
use Rattle.term_table.specs.Checking.{HasSort, HaveSorts}
use Rattle.term_table.proofs.Sorting.{one_kept}
use Rattle.term_sketches.specs.Sketches.{the_truth}
use Rattle.term_sketches.specs.Valuing.{HasType, HaveTypes}
use Rattle.term_sketches.proofs.Typings.{typed_one}
use Rattle.term_build.specs.Building.{literal_of, literal_at}
use Rattle.term_build.proofs.Called.{tree_under, tree_at, tree_is, true_tree, truth_sort}

gives_boolean : (b : Bool) (s : Sort) → only_if b boolean ≡ Some s → s ≡ boolean
gives_boolean true s h = sym (same_Some boolean s h)
gives_boolean false s h = absurd (cc h)

negated_sorts : (law : SameSortIsEqual) (o : Option Sort) (s : Sort) → typed_over negation (both o (Some [])) ≡ Some s → (o ≡ Some boolean) × (s ≡ boolean)
negated_sorts law None s h = absurd (cc h)
negated_sorts law (Some x) s h = (ap Some (ap first_of (typed_one law (x ∷ []) s h)), gives_boolean (are (x ∷ []) (boolean ∷ [])) s h)

module _ (w : World) (table : IsTable w) (law : SameSortIsEqual) where
  -- the type of a term's tree
  abbrev pub sorts : Term → Sort
  sorts t = or_boolean (sort_of (tree_at w table t))

  under_sort : (t : Term) (s : Sort) → HasSort w t s → (o : Option Node) (e : node_at w t ≡ o) → (sort_of (tree_under w table t o e) ≡ Some s) × Keeps w t (tree_under w table t o e)
  unfolding tree_under
  under_sort t s (of, has, keeps) None e = absurd (cc (sym (ap (option_map (λ (n : Node). n.of)) e) ∙ has))
  under_sort t s (of, has, keeps) (Some n) e =
      let g = table.grounded t n e in
      let is : n.of ≡ of = same_Some n.of of (sym (ap (option_map (λ (m : Node). m.of)) e) ∙ has) in
      (g.4 ∙ ap Some (one_kept w g.1 s of (subst (λ z. KeepsType w z g.1) is g.3) keeps), g.2)

  pub tree_sorted : (t : Term) (s : Sort) → HasSort w t s → (sort_of (tree_at w table t) ≡ Some s) × Keeps w t (tree_at w table t)
  unfolding tree_at
  tree_sorted t s h = under_sort t s h (node_at w t) refl

  sort_is : (t : Term) (b : Tree) (s : Sort) → Keeps w t b → sort_of b ≡ Some s → sorts t ≡ s
  sort_is t b s h e = ap or_boolean (ap sort_of (tree_is w table t b h) ∙ e)

  not_types : (u : Term) (bs : Trees) (s : Sort) → KeepsAll w (u ∷ []) bs → sort_of (node negation bs) ≡ Some s → HasType sorts (record { atom = u; negated = true }) s
  unfolding Keeps sort_of
  not_types u none s h e = absurd h
  not_types u (more c none) s h e = let p = negated_sorts law (sort_of c) s e in (sort_is u c boolean h.0 p.0 ∙ sym p.1, λ n. p.1)
  not_types u (more c (more d ds)) s h e = absurd h.1

  false_types : (bs : Trees) (s : Sort) → KeepsAll w [] bs → sort_of (node falsity bs) ≡ Some s → HasType sorts (record { atom = the_truth; negated = true }) s
  unfolding Keeps sort_of
  false_types none s h e =
      let b : s ≡ boolean = gives_boolean (are [] []) s e in
      (ap (λ z. or_boolean (sort_of z)) (true_tree w table) ∙ ap or_boolean (truth_sort w table) ∙ sym b, λ n. b)
  false_types (more b bs) s h e = absurd h

  by_shape : (t : Term) (r : Shape) (k : Sort) (bs : Trees) (s : Sort) → KeepsAll w (args_of r) bs → sort_of (node (op_of r k) bs) ≡ Some s → sorts t ≡ s → HasType sorts (literal_of t (Some r)) s
  by_shape t (shape.Not u) k bs s h e p = not_types u bs s h e
  by_shape t shape.False k bs s h e p = false_types bs s h e
  by_shape t _ k bs s h e p = (p, λ n. absurd (cc n))

  kept_type : (t : Term) (b : Tree) (s : Sort) → Keeps w t b → sort_of b ≡ Some s → HasType sorts (literal_at w t) s
  unfolding Keeps
  kept_type t (node op bs) s (r, k, has, names, is, kept) e =
      subst (λ o. HasType sorts (literal_of t o) s) (sym has)
      (by_shape t r k bs s kept (ap (λ o. sort_of (node o bs)) is ∙ e) (sort_is t (node op bs) s (r, k, has, names, is, kept) e))

  pub argument_type : (t : Term) (s : Sort) → HasSort w t s → HasType sorts (literal_at w t) s
  argument_type t s h = let p = tree_sorted t s h in kept_type t (tree_at w table t) s p.1 p.0

  pub argument_types : (ts : List Term) (ks : List Sort) → HaveSorts w ts ks → HaveTypes sorts (map (literal_at w) ts) ks
  argument_types [] [] h = tt
  argument_types [] (k ∷ ks) h = absurd h
  argument_types (t ∷ ts) [] h = absurd h
  argument_types (t ∷ ts) (k ∷ ks) h = let p = argument_type t k h.0 in (p.0, p.1, argument_types ts ks h.1)
