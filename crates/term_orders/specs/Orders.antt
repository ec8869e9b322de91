-- Subterms of a table's terms, and lists of them in which arguments come before the terms that hold them.
use Rattle.std.specs.Prelude.{◌≡◌, ℕ, ◌<◌, Bool, true, false, List, Option, Some, None, IsSome, slice_get, filter}
use Rattle.term_shapes.specs.declared.handles.Term.{Term}
use Rattle.term_shapes.specs.declared.handles.TypeId.{TypeId}
use Rattle.term_shapes.specs.declared.shapes.Shape.{Shape}
use Rattle.term_shapes.specs.declared.shapes.Shape.TheVariants as shape
use Rattle.term_shapes.specs.Shapes.{args_of}
use Rattle.term_table.specs.World.{World, node_at, shape_at, HasShape}

-- the term stands in the list
pub record IsIn (ts : List Term) (t : Term) : Type 0 where
  pub place : ℕ
  pub at : slice_get ts place ≡ Some t

-- t is live, and u is one of its arguments
pub record IsArgument (w : World) (u t : Term) : Type 0 where
  pub form : Shape
  pub has : HasShape w t form
  pub place : ℕ
  pub at : slice_get (args_of form) place ≡ Some u

-- u is the term itself, or below one of its arguments
pub data IsBelow (w : World) (u : Term) : Term → Type 0 where
  itself : IsBelow w u u
  argument : (v t : Term) → IsBelow w u v → IsArgument w v t → IsBelow w u t

-- the term is below one of the list
pub record IsUnder (w : World) (roots : List Term) (t : Term) : Type 0 where
  pub root : Term
  pub listed : IsIn roots root
  pub below : IsBelow w t root

-- the term stands in the list before place i
pub record StandsBefore (ts : List Term) (i : ℕ) (u : Term) : Type 0 where
  pub place : ℕ
  pub earlier : place < i
  pub at : slice_get ts place ≡ Some u

-- the subterms of the roots, arguments before the terms that hold them
pub record IsOrder (w : World) (roots ts : List Term) : Type 0 where
  -- no term stands twice
  pub once : (i j : ℕ) (t : Term) → slice_get ts i ≡ Some t → slice_get ts j ≡ Some t → i ≡ j
  -- each root stands in it
  pub holds : (r : Term) → IsIn roots r → IsIn ts r
  -- each argument of the term at place i stands at an earlier place
  pub arguments : (i : ℕ) (t u : Term) → slice_get ts i ≡ Some t → IsArgument w u t → StandsBefore ts i u
  -- each is below a root, and live
  pub reached : (t : Term) → IsIn ts t → IsUnder w roots t
  pub live : (t : Term) → IsIn ts t → IsSome (node_at w t)

-- the term is a variable
pub record IsVariable (w : World) (t : Term) : Type 0 where
  pub number : ℕ
  pub of : TypeId
  pub has : HasShape w t (shape.Var number of)

-- the term is a constant
pub record IsConstant (w : World) (t : Term) : Type 0 where
  pub number : ℕ
  pub of : TypeId
  pub has : HasShape w t (shape.Const number of)

-- whether a shape is that of a constant
abbrev pub is_constant_shape : Option Shape → Bool
is_constant_shape (Some (shape.Const n of)) = true
is_constant_shape _ = false

-- the constants among the subterms of the roots, in an order of these
pub record AreConstants (w : World) (roots cs : List Term) : Type 0 where
  pub order : List Term
  pub is_order : IsOrder w roots order
  pub chosen : cs ≡ filter (λ t. is_constant_shape (shape_at w t)) order
  -- no constant stands twice
  pub once : (i j : ℕ) (t : Term) → slice_get cs i ≡ Some t → slice_get cs j ≡ Some t → i ≡ j
  -- exactly the constants below a root stand in it
  pub constant : (t : Term) → IsIn cs t → IsConstant w t × IsUnder w roots t
  pub all : (t : Term) → IsConstant w t → IsUnder w roots t → IsIn cs t
