-- Arguments by the list of them, and which terms are live.
use Rattle.std.proofs.Common.{◌≡◌, ◌∙◌, ℕ, List, [], ◌∷◌, Option, Some, None, zero, suc, refl, sym, ap, subst}
use Rattle.std.specs.Prelude.{slice_get, IsSome, is_some}
use Rattle.std.specs.Option.{option_map}
use Rattle.std.proofs.lemmas.Option.{same_Some}
use Rattle.y_tree.specs.Tree.{Tree, Trees, node, none, more}
use Rattle.term_shapes.specs.declared.handles.Term.{Term}
use Rattle.term_shapes.specs.declared.shapes.Shape.{Shape}
use Rattle.term_shapes.specs.declared.shapes.Node.{Node}
use Rattle.term_shapes.specs.Shapes.{args_of}
use Rattle.term_table.specs.World.{World, node_at, shape_at, HasNode, HasShape, Keeps, KeepsAll, IsTable}
use Rattle.term_orders.specs.Orders.IsBelow.{itself, argument}
use Rattle.term_orders.specs.Orders.{IsArgument, IsBelow, IsUnder}
use Rattle.term_orders.specs.Walk.{args_under, args_at}

pub some_is : {X : Type 0} (o : Option X) → IsSome o → (x : X) × (o ≡ Some x)
some_is None h = absurd (cc h)
some_is (Some x) h = (x, refl)

pub is_some_of : {X : Type 0} (o : Option X) (x : X) → o ≡ Some x → IsSome o
is_some_of o x h = ap is_some h

some_node : (o : Option Node) (s : Shape) → option_map (λ (n : Node). n.shape) o ≡ Some s → (n : Node) × (o ≡ Some n)
some_node None s h = absurd (cc h)
some_node (Some n) s h = (n, refl)

module _ (w : World) where
  pub argument_at : (t u : Term) (i : ℕ) → slice_get (args_at w t) i ≡ Some u → IsArgument w u t
  argument_at t u i at = by (shape_at w t) refl at
    where
      by : (o : Option Shape) → shape_at w t ≡ o → slice_get (args_under o) i ≡ Some u → IsArgument w u t
      by None e h = absurd (cc h)
      by (Some s) e h = record { form = s; has = e; place = i; at = h }

  pub place_of : (t u : Term) → (a : IsArgument w u t) → slice_get (args_at w t) a.place ≡ Some u
  place_of t u a = ap (λ o. slice_get (args_under o) a.place) a.has ∙ a.at

  tree_lives : (a : Tree) (t : Term) → Keeps w t a → IsSome (node_at w t)
  unfolding Keeps
  tree_lives (node op trees) t (s, k, has, names, is, args) =
      let n = some_node (node_at w t) s has in
      is_some_of (node_at w t) n.0 n.1

  trees_live : (rest : Trees) (ts : List Term) → KeepsAll w ts rest → (i : ℕ) (u : Term) → slice_get ts i ≡ Some u → IsSome (node_at w u)
  unfolding KeepsAll
  trees_live none [] h i u at = absurd (cc at)
  trees_live none (t ∷ ts) h i u at = absurd h
  trees_live (more a rest) [] h i u at = absurd h
  trees_live (more a rest) (t ∷ ts) h zero u at =
      subst (λ z. IsSome (node_at w z)) (same_Some t u at) (tree_lives a t h.0)
  trees_live (more a rest) (t ∷ ts) h (suc i) u at = trees_live rest ts h.1 i u at

  args_live : (a : Tree) (t u : Term) → Keeps w t a → IsArgument w u t → IsSome (node_at w u)
  unfolding Keeps
  args_live (node op trees) t u (s, k, has, names, is, args) r =
      trees_live trees (args_of s) args r.place u (ap (λ z. slice_get (args_of z) r.place) (same_Some s r.form (sym has ∙ r.has)) ∙ r.at)

  module _ (table : IsTable w) where
    pub argument_live : (t u : Term) → IsArgument w u t → IsSome (node_at w u)
    argument_live t u r =
        let n = some_node (node_at w t) r.form r.has in
        let g = table.grounded t n.0 n.1 in args_live g.0 t u g.2 r

    pub below_live : (u t : Term) → IsBelow w u t → IsSome (node_at w t) → IsSome (node_at w u)
    below_live u t itself h = h
    below_live u t (argument v s b a) h = below_live u v b (argument_live s v a)

  pub below_on : (u t r : Term) → IsBelow w u t → IsBelow w t r → IsBelow w u r
  below_on u t r b itself = b
  below_on u t r b (argument v s c a) = argument v s (below_on u t v b c) a
