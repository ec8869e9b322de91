-- The nodes of subterms: each has its subterm's operator, over the nodes in the places of the arguments.
use Rattle.std.specs.Prelude.{◌≡◌, ℕ, ◌<◌, Bool, List, [], ◌∷◌, Some, length, map, slice_get}
use Rattle.y_tree.specs.Sorts.{boolean}
use Rattle.term_shapes.specs.declared.handles.Term.{Term}
use Rattle.term_shapes.specs.declared.shapes.Shape.{Shape}
use Rattle.term_shapes.specs.Shapes.{op_of, args_of, types_of}
use Rattle.term_table.specs.World.{World, HasShape, AllKeep}
use Rattle.node_encoding.specs.declared.Node.{Node}
use Rattle.node_encoding.specs.declared.NodeLit.{NodeLit}
use Rattle.node_encoding.specs.Nodes.{arguments_of, HasArity, IsFormed}
use Rattle.node_encoding.specs.Nodes as nodes
use Rattle.term_checks.specs.Listing.{term_in}
use Rattle.term_checks.specs.Problems.{IsLiteral}

-- the numbers are the places of the terms
abbrev pub AreAt : List Term → List Term → List ℕ → Type 0
AreAt order [] [] = Unit {0}
AreAt order (t ∷ ts) (k ∷ ks) = (slice_get order k ≡ Some t) × AreAt order ts ks
AreAt order [] (k ∷ ks) = ⊥
AreAt order (t ∷ ts) [] = ⊥

-- the node has the shape's operator, over the places of its arguments
pub record IsNodeOf (order : List Term) (s : Shape) (n : Node) : Type 0 where
  pub op : op_of s boolean ≡ nodes.op_of n
  pub arguments : AreAt order (args_of s) (arguments_of n)
  pub arity : HasArity n

-- the node of a term, which names no type but that of truth values
pub record IsNodeAt (w : World) (order : List Term) (t : Term) (n : Node) : Type 0 where
  pub form : Shape
  pub has : HasShape w t form
  pub names : AllKeep w (types_of form) boolean
  pub is : IsNodeOf order form n

-- the nodes of the first terms
pub record AreNodes (w : World) (order : List Term) (done : ℕ) (ns : List Node) : Type 0 where
  pub count : length ns ≡ done
  pub formed : IsFormed ns
  pub each : (k : ℕ) (t : Term) → k < done → slice_get order k ≡ Some t → (n : Node) × (slice_get ns k ≡ Some n) × IsNodeAt w order t n

-- the literals of the first terms, in their order
pub record AreLiteralsOf (order ts : List Term) (done : ℕ) (lits : List NodeLit) : Type 0 where
  pub count : length lits ≡ done
  pub each : (i : ℕ) (t : Term) → i < done → slice_get ts i ≡ Some t → (lit : NodeLit) × (slice_get lits i ≡ Some lit) × IsLiteral order t lit

-- the terms at the places of nodes, with the nodes' values
abbrev pub valued : List Term → List (ℕ × Bool) → List (Term × Bool)
valued ts = map (λ (e : ℕ × Bool). (term_in ts e.0, e.1))
