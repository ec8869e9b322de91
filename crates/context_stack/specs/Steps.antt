-- What the calls of a context do to its levels, and when they refuse.
use Rattle.std.specs.Prelude.{◌≡◌, ℕ, ◌<◌, List, [], ◌∷◌, ◌++◌, IsSome, IsNone, length}
use Rattle.y_tree.specs.Sorts.{boolean}
use Rattle.term_shapes.specs.declared.handles.Term.{Term}
use Rattle.term_table.specs.World.{World, node_at}
use Rattle.term_table.specs.Checking.{HasSort}
use Rattle.term_orders.specs.Orders.{IsBelow, IsVariable}
use Rattle.context_stack.specs.declared.errors.ContextError.{ContextError}
use Rattle.context_stack.specs.declared.errors.ContextError.TheVariants as error

-- the term is the last formula of the newest level, and all else is as before
pub record Asserts (old new : List (List Term)) (t : Term) : Type 0 where
  pub lower : List (List Term)
  pub newest : List Term
  pub before : old ≡ lower ++ newest ∷ []
  pub after : new ≡ lower ++ (newest ++ t ∷ []) ∷ []

-- the newest level is gone
pub record Pops (old new : List (List Term)) : Type 0 where
  pub newest : List Term
  pub before : old ≡ new ++ newest ∷ []

-- the term is dead, or else no truth value, or else a variable is below it; memory is refused to none of the first two
abbrev pub RefusesFormula : World → Term → ContextError → Type 0
RefusesFormula w t (error.DeadTerm place) = (place ≡ 1) × IsNone (node_at w t)
RefusesFormula w t (error.NotBool place) = (place ≡ 1) × IsSome (node_at w t) × (HasSort w t boolean → ⊥)
RefusesFormula w t (error.HasVariable v) = (HasSort w t boolean) × IsVariable w v × IsBelow w v t
RefusesFormula w t error.NoMemory = HasSort w t boolean
RefusesFormula w t _ = ⊥

-- all levels are open, or memory is refused before
abbrev pub RefusesPush : List (List Term) → ContextError → Type 0
RefusesPush old error.TooDeep = length old ≡ 65537
RefusesPush old error.NoMemory = length old < 65537
RefusesPush old _ = ⊥
