-- The chains of arguments end, since each live term stands for a finite tree.
use Rattle.std.proofs.Common.{◌≡◌, ◌∙◌, ℕ, List, [], ◌∷◌, Option, Some, None, zero, suc, refl, sym, ap, subst}
use Rattle.std.specs.Prelude.{slice_get, IsSome}
use Rattle.std.specs.Option.{option_map}
use Rattle.std.proofs.lemmas.Option.{same_Some}
use mathlib.Core.WellFounded.{Acc}
use Rattle.y_tree.specs.Tree.{Tree, Trees, node, none, more}
use Rattle.term_shapes.specs.declared.handles.Term.{Term}
use Rattle.term_shapes.specs.declared.shapes.Shape.{Shape}
use Rattle.term_shapes.specs.declared.shapes.Node.{Node}
use Rattle.term_shapes.specs.Shapes.{args_of}
use Rattle.term_table.specs.World.{World, node_at, shape_at, Keeps, KeepsAll, IsTable}
use Rattle.term_orders.specs.Orders.{IsArgument}
use Rattle.term_orders.specs.Ending.{Ends}

module _ (w : World) where
  mutual
    unfolding Keeps KeepsAll

    tree_ends : (a : Tree) (t : Term) → Keeps w t a → Acc (IsArgument w) t
    tree_ends (node op trees) t (s, k, has, names, is, args) =
        Acc.intro t (λ u r. trees_end trees (args_of s) args r.place u (ap (λ z. slice_get (args_of z) r.place) (same_Some s r.form (sym has ∙ r.has)) ∙ r.at))

    trees_end : (rest : Trees) (ts : List Term) → KeepsAll w ts rest → (i : ℕ) (u : Term) → slice_get ts i ≡ Some u → Acc (IsArgument w) u
    trees_end none [] h i u at = absurd (cc at)
    trees_end none (t ∷ ts) h i u at = absurd h
    trees_end (more a rest) [] h i u at = absurd h
    trees_end (more a rest) (t ∷ ts) h zero u at =
        subst (λ z. Acc (IsArgument w) z) (same_Some t u at) (tree_ends a t h.0)
    trees_end (more a rest) (t ∷ ts) h (suc i) u at = trees_end rest ts h.1 i u at

  pub chains_end : IsTable w → Ends w
  chains_end table t = by (node_at w t) refl
    where
      by : (o : Option Node) → node_at w t ≡ o → Acc (IsArgument w) t
      by None e = Acc.intro t (λ u r. absurd (cc (sym r.has ∙ ap (option_map (λ (n : Node). n.shape)) e)))
      by (Some n) e = let g = table.grounded t n e in tree_ends g.0 t g.2
