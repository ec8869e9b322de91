-- What was built for a tree is live.
use Rattle.std.proofs.Common.{Bool, true, false, List, map, ap}
use Rattle.std.specs.Prelude.{IsSome, is_some}
use Rattle.y_tree.specs.Tree.{Op, truth, falsity, constant, Tree, Trees, node}
use Rattle.y_tree.specs.Tree as tree
use Rattle.term_shapes.specs.declared.handles.Term.{Term}
use Rattle.term_shapes.specs.declared.shapes.Shape.{Shape}
use Rattle.term_shapes.specs.declared.shapes.Shape.TheVariants as shape
use Rattle.term_table.specs.World.{World, node_at, HasShape, Keeps}
use Rattle.term_table.proofs.Adding.{some_node}
use Rattle.term_sketches.specs.declared.items.Sketch.{Sketch}
use Rattle.term_sketches.specs.declared.items.Sketch.TheVariants as sketch
use Rattle.term_sketches.specs.Sketches.{sketch_of}
use Rattle.term_sketches.specs.Valuing.{are_truths}
use Rattle.term_build.specs.Building.{literal_at, IsFlagged, IsMade}
use Rattle.expression_terms.specs.Standing.{IsMadeOf, IsBuiltFor}

module _ (w : World) where
  shape_live : (t : Term) (s : Shape) → HasShape w t s → IsSome (node_at w t)
  shape_live t s h = let n = some_node (node_at w t) s h in ap is_some n.1

  kept_live : (t : Term) (d : Tree) → Keeps w t d → IsSome (node_at w t)
  unfolding Keeps
  kept_live t (node op ds) (s, k, has, names, is, kept) = shape_live t s has

  flagged_live : (t : Term) (b : Bool) (s : Shape) → IsFlagged w t b s → IsSome (node_at w t)
  flagged_live t false s h = shape_live t s h
  flagged_live t true s (u, inner, outer) = shape_live t (shape.Not u) outer

  made_live : (t : Term) (sk : Sketch) → IsMade w t sk → IsSome (node_at w t)
  made_live t (sketch.OneLiteral l) h = h.0
  made_live t (sketch.AllOf ls) (ts, has, are) = shape_live t (shape.And ts) has
  made_live t (sketch.AnyOf ls) (ts, has, are) = shape_live t (shape.Or ts) has
  made_live t (sketch.OddOf b ts) h = flagged_live t b (shape.Xor ts) h
  made_live t (sketch.OneOf x a b) (u, v, has, ua, vb) = shape_live t (shape.Ite x u v) has
  made_live t (sketch.Equal b x y) h = flagged_live t b (shape.Eq x y) h
  made_live t (sketch.Apart ts) h = shape_live t (shape.Distinct ts) h

  made_of_live : (op : Op) (ts : List Term) (t : Term) → IsMadeOf w op ts t → IsSome (node_at w t)
  made_of_live op ts t p = made_live t (sketch_of p.constructor (are_truths p.sorts) (map (literal_at w) ts)) p.made

  node_live : (op : Op) (ds : Trees) (t : Term) → IsBuiltFor w (node op ds) t → IsSome (node_at w t)
  unfolding IsBuiltFor
  node_live truth ds t h = shape_live t shape.True h
  node_live falsity ds t h = shape_live t shape.False h
  node_live (constant n k) ds t h = kept_live t (node (constant n k) tree.none) h
  node_live op ds t h = made_of_live op h.0 t h.2

  pub built_live : (d : Tree) (t : Term) → IsBuiltFor w d t → IsSome (node_at w t)
  built_live (node op ds) t h = node_live op ds t h
