-- What a check answers of the formulas on the levels and of assumptions, and what it leaves.
use Rattle.std.specs.Prelude.{◌≡◌, ℕ, ◌<◌, ◌+◌, List, [], ◌++◌, Option, Some, None, slice_get}
use Rattle.std.specs.Option.{option_map}
use Rattle.clause_search.specs.declared.Turns.{Turns}
use Rattle.y_tree.specs.Sorts.{boolean}
use Rattle.term_shapes.specs.declared.handles.Term.{Term}
use Rattle.term_table.specs.World.{World}
use Rattle.term_table.specs.Checking.{AreLive, HasSort, IsFirstDead}
use Rattle.term_orders.specs.Orders.{IsBelow, IsVariable}
use Rattle.term_checks.specs.Formulas.{AreFormulas, AreBoolean, HasOtherSort}
use Rattle.term_checks.specs.Answers.{IsModel, IsCore}
use Rattle.term_checks.specs.Problems.{IsLearned}
use Rattle.context_stack.specs.declared.errors.ContextError.{ContextError}
use Rattle.context_stack.specs.declared.errors.ContextError.TheVariants as error
use Rattle.context_stack.specs.declared.errors.Status.{Status}
use Rattle.context_stack.specs.declared.errors.Status.TheVariants as status
use Rattle.context_stack.specs.declared.checks.Checked.{Checked}
use Rattle.context_stack.specs.declared.checks.Checked.TheVariants as checked
use Rattle.context_stack.specs.Levels.{formulas}
use Rattle.context_stack.specs.States.{ContextState}

-- the assumptions that a check was asked with; none where it was asked without
abbrev pub assumptions : Option (List Term) → List Term
assumptions None = []
assumptions (Some ts) = ts

-- what the answer says of formulas, and of the assumptions where there are some, under a limit of turns; and the core that is kept
abbrev pub Answers : World → List Term → Option (List Term) → Turns → Checked → Option (List Term) → Type 0
Answers w fs assumed turns (checked.Sat values) core = IsModel w fs (assumptions assumed) values × (core ≡ None)
Answers w fs assumed turns checked.Unsat core = (blamed : List Term) × IsCore w fs (assumptions assumed) blamed × (core ≡ option_map (λ ts. blamed) assumed)
Answers w fs assumed turns (checked.Unknown learned) core = IsLearned w fs (assumptions assumed) turns learned × (core ≡ None)
Answers w fs assumed turns checked.NotBuilt core = core ≡ None
Answers w fs assumed turns checked.NoMemory core = core ≡ None

-- a verdict comes where all terms below those are truth values, no verdict where some isn't; all of those are formulas
abbrev pub Judges : World → List Term → Checked → Type 0
Judges w ts checked.NotBuilt = AreFormulas w ts × HasOtherSort w ts
Judges w ts checked.NoMemory = Unit {0}
Judges w ts _ = AreFormulas w ts × AreBoolean w ts

-- the status that an answer leaves
abbrev pub status_of : Checked → Status
status_of (checked.Sat values) = status.Sat
status_of checked.Unsat = status.Unsat
status_of (checked.Unknown learned) = status.Unknown
status_of checked.NotBuilt = status.Idle
status_of checked.NoMemory = status.Idle

-- a check of the formulas now on the levels answers that; the levels stay
pub record Checks (w : World) (assumed : Option (List Term)) (turns : Turns) (found : Checked) (old new : ContextState) : Type 0 where
  pub answer : Answers w (formulas old.levels) assumed turns found new.core
  pub judges : Judges w (formulas old.levels ++ assumptions assumed) found
  pub status : new.status ≡ status_of found
  pub levels : new.levels ≡ old.levels

-- each of the list is a truth value
abbrev pub AreTruthValues : World → List Term → Type 0
AreTruthValues w ts = (i : ℕ) (t : Term) → slice_get ts i ≡ Some t → HasSort w t boolean

-- the term at that place, from 1 on, is no truth value, and those before it are
pub record IsFirstOther (w : World) (ts : List Term) (place : ℕ) : Type 0 where
  pub index : ℕ
  pub counted : place ≡ index + 1
  pub term : Term
  pub there : slice_get ts index ≡ Some term
  pub other : HasSort w term boolean → ⊥
  pub earlier : (i : ℕ) (t : Term) → i < index → slice_get ts i ≡ Some t → HasSort w t boolean

-- v is a variable below the first term that has one
pub record HasFirstVariable (w : World) (ts : List Term) (v : Term) : Type 0 where
  pub index : ℕ
  pub term : Term
  pub there : slice_get ts index ≡ Some term
  pub variable : IsVariable w v
  pub below : IsBelow w v term
  pub earlier : (i : ℕ) (t u : Term) → i < index → slice_get ts i ≡ Some t → IsBelow w u t → IsVariable w u → ⊥

-- the first dead one is told, or else the first that is no truth value, or else a variable of the first that has one
abbrev pub RefusesAssumptions : World → List Term → ContextError → Type 0
RefusesAssumptions w ts (error.DeadTerm place) = IsFirstDead w ts place
RefusesAssumptions w ts (error.NotBool place) = AreLive w ts × IsFirstOther w ts place
RefusesAssumptions w ts (error.HasVariable v) = AreTruthValues w ts × HasFirstVariable w ts v
RefusesAssumptions w ts _ = ⊥
