-- Formulas: terms of the type of truth values with no variable below them, and the sorts of what is below them.
use Rattle.std.specs.Prelude.{◌≡◌, ◌≢◌, ℕ, ◌<◌, List, Some, length, slice_get}
use Rattle.y_tree.specs.Sorts.{Sort, boolean}
use Rattle.term_shapes.specs.declared.handles.Term.{Term}
use Rattle.term_shapes.specs.declared.shapes.Shape.{Shape}
use Rattle.term_shapes.specs.declared.shapes.Shape.TheVariants as shape
use Rattle.term_table.specs.World.{World}
use Rattle.term_table.specs.Checking.{HasSort}
use Rattle.term_orders.specs.Orders.{IsIn, IsArgument, IsBelow, IsUnder, IsVariable, StandsBefore}

-- a live term whose type stands for the truth values, with no variable below it
pub record IsFormula (w : World) (t : Term) : Type 0 where
  pub sort : HasSort w t boolean
  pub closed : (v : Term) → IsBelow w v t → IsVariable w v → ⊥

-- each of the list is one
abbrev pub AreFormulas : World → List Term → Type 0
AreFormulas w ts = (t : Term) → IsIn ts t → IsFormula w t

-- some term below the list has another sort than that of truth values
pub record HasOtherSort (w : World) (roots : List Term) : Type 0 where
  pub term : Term
  pub under : IsUnder w roots term
  pub sort : Sort
  pub has : HasSort w term sort
  pub other : sort ≢ boolean

-- each term below the list has the sort of truth values
abbrev pub AreBoolean : World → List Term → Type 0
AreBoolean w roots = (t : Term) → IsUnder w roots t → HasSort w t boolean

-- truth values with no variable among them, each once, arguments before the terms that hold them
pub record AreReady (w : World) (ts : List Term) : Type 0 where
  pub once : (i j : ℕ) (t : Term) → slice_get ts i ≡ Some t → slice_get ts j ≡ Some t → i ≡ j
  pub arguments : (i : ℕ) (t u : Term) → slice_get ts i ≡ Some t → IsArgument w u t → StandsBefore ts i u
  pub sorts : (t : Term) → IsIn ts t → HasSort w t boolean
  pub closed : (t : Term) → IsIn ts t → IsVariable w t → ⊥

-- the shape of a truth value over truth values, and of no variable
abbrev pub IsTruthShape : Shape → Type 0
IsTruthShape shape.True = Unit {0}
IsTruthShape shape.False = Unit {0}
IsTruthShape (shape.Const n of) = Unit {0}
IsTruthShape (shape.Not t) = Unit {0}
IsTruthShape (shape.And ts) = 0 < length ts
IsTruthShape (shape.Or ts) = 0 < length ts
IsTruthShape (shape.Xor ts) = 0 < length ts
IsTruthShape (shape.Ite c t u) = Unit {0}
IsTruthShape (shape.Eq t u) = Unit {0}
IsTruthShape (shape.Distinct ts) = 0 < length ts
IsTruthShape _ = ⊥
