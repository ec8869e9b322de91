-- Why values make no model, and why a term has no value in one.
use Rattle.std.specs.Prelude.{◌≡◌, ℕ, ◌+◌, ◌<◌, Bool, true, false, List, Some, None, slice_get}
use Rattle.fraction128.specs.declared.errors.Wide.{Wide}
use Rattle.y_tree.specs.Sorts.{Sort}
use Rattle.y_tree.specs.Values.{Value, has_sort}
use Rattle.term_shapes.specs.declared.handles.Term.{Term}
use Rattle.term_table.specs.World.{World, node_at}
use Rattle.term_table.specs.Checking.{HasSort}
use Rattle.term_table.specs.Functions.{IsFirstWith, NoneHas}
use Rattle.term_orders.specs.Orders.{IsBelow, IsConstant, IsVariable}
use Rattle.model_eval.specs.declared.errors.ModelError.{ModelError}
use Rattle.model_eval.specs.declared.errors.ModelError.TheVariants as model_error
use Rattle.model_eval.specs.declared.errors.EvalError.{EvalError}
use Rattle.model_eval.specs.declared.errors.EvalError.TheVariants as eval_error
use Rattle.model_eval.specs.Models.{assignment_of}
use Rattle.model_eval.specs.Evaluating.{IsValueOf, IsWideIn}

-- the entry's term is dead
abbrev pub IsDead : World → Term × Value → Type 0
IsDead w e = node_at w e.0 ≡ None

-- the entry's term is no constant
abbrev pub IsOther : World → Term × Value → Type 0
IsOther w e = IsConstant w e.0 → ⊥

-- the entry's value is none of its term's sort
abbrev pub IsWrong : World → Term × Value → Type 0
IsWrong w e = (k : Sort) × HasSort w e.0 k × (has_sort e.1 k ≡ false)

-- an entry before that place has the same term as the one there
pub record IsAgain (m : List (Term × Value)) (i : ℕ) : Type 0 where
  pub earlier : ℕ
  pub below : earlier < i
  pub first : Term × Value
  pub second : Term × Value
  pub there : slice_get m earlier ≡ Some first
  pub here : slice_get m i ≡ Some second
  pub same : first.0 ≡ second.0

-- no entry has the term of an earlier one
abbrev pub NoneAgain : List (Term × Value) → Type 0
NoneAgain m = (i : ℕ) → IsAgain m i → ⊥

-- whether it is so
abbrev pub Told : Type 0 → Bool → Type 0
Told P true = P
Told P false = P → ⊥

-- the entry at that place, from 1 on, is the first whose term was there before
pub record IsFirstAgain (m : List (Term × Value)) (place : ℕ) : Type 0 where
  pub others : ℕ
  pub behind : place ≡ others + 1
  pub again : IsAgain m others
  pub before : (i : ℕ) → i < others → IsAgain m i → ⊥

-- a term was there before, or memory is refused
abbrev pub RefusesTwice : List (Term × Value) → ModelError → Type 0
RefusesTwice m (model_error.Twice place) = IsFirstAgain m place
RefusesTwice m model_error.NoMemory = Unit {0}
RefusesTwice m _ = ⊥

-- why the values are no model: the first dead term, then the first that is no constant, then the first value of another type, then the first term that was there before; or memory is refused
abbrev pub RefusesModel : World → List (Term × Value) → ModelError → Type 0
RefusesModel w m (model_error.DeadTerm place) = IsFirstWith (IsDead w) m place
RefusesModel w m (model_error.NotConstant place) = NoneHas (IsDead w) m × IsFirstWith (IsOther w) m place
RefusesModel w m (model_error.WrongType place) = NoneHas (IsDead w) m × NoneHas (IsOther w) m × IsFirstWith (IsWrong w) m place
RefusesModel w m (model_error.Twice place) = NoneHas (IsDead w) m × NoneHas (IsOther w) m × NoneHas (IsWrong w) m × IsFirstAgain m place
RefusesModel w m model_error.NoMemory = Unit {0}

-- the term is live, and no variable is below it
pub record IsClosed (w : World) (t : Term) : Type 0 where
  pub live : node_at w t ≡ None → ⊥
  pub closed : (v : Term) → IsBelow w v t → IsVariable w v → ⊥

-- the term has that value in the model
pub record IsValueIn (w : World) (m : List (Term × Value)) (t : Term) (v : Value) : Type 0 where
  pub closed : IsClosed w t
  pub value : IsValueOf w (assignment_of w m) t v

-- an operation of a sum below the term is too wide
pub record IsWideBelow (w : World) (m : List (Term × Value)) (t : Term) (wide : Wide) : Type 0 where
  pub closed : IsClosed w t
  pub sum : Term
  pub below : IsBelow w sum t
  pub is : IsWideIn w (assignment_of w m) sum wide

-- why the term has no value: it is dead, or that variable is below it, or an operation below it is too wide, or memory is refused
abbrev pub RefusesValue : World → List (Term × Value) → Term → EvalError → Type 0
RefusesValue w m t eval_error.DeadTerm = node_at w t ≡ None
RefusesValue w m t (eval_error.HasVariable v) = IsBelow w v t × IsVariable w v
RefusesValue w m t (eval_error.Wide wide) = IsWideBelow w m t wide
RefusesValue w m t eval_error.NoMemory = Unit {0}
