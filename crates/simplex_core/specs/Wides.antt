-- Operations that are too wide, with a basis by which their operands are numbers of the problem.
use Rattle.std.specs.Prelude.{◌≡◌, ◌⊎◌, false, List, Option, length, map, ⊤}
use Rattle.rationals.specs.Delta.{Delta}
use Rattle.fraction128.specs.declared.errors.Wide.{Wide}
use Rattle.simplex_logic.specs.Forms.{Form, row_of, IsRow}
use Rattle.simplex_logic.specs.Quantities.{Basis, Quantity}
use Rattle.simplex_table.specs.View.{State, Sound, delta_of}
use Rattle.simplex_table.specs.Causes.{op_fits}
use Rattle.simplex_table.specs.declared.error.TableauError.{TableauError}
use Rattle.simplex_table.specs.declared.error.TableauError.TheVariants.{Wide as TooWide}
use Rattle.simplex_bounds.specs.declared.Bound.{Bound}
use Rattle.simplex_core.specs.declared.wide.WideAt.{WideAt}
use Rattle.simplex_core.specs.declared.wide.Stop.{Stop}
use Rattle.simplex_core.specs.declared.wide.Stop.TheVariants.{Wide as WideStop, NoMemory as MemoryStop}

-- the values of bounds
abbrev pub values_of : List Bound → List Delta
values_of bounds = map (λ (b : Bound). delta_of b.value) bounds

-- the basis is one of the rows, and the operation is too wide with two operands that are numbers of this problem by it
pub record IsWide (rows : List (Option Form)) (handed : Form → Type 0) (bounds : List Bound) (w : WideAt) : Type 0 where
  pub basis : Basis (row_of rows) (length rows) w.basis
  pub left : Quantity (row_of rows) (length rows) handed w.basis (values_of bounds) w.wide.left
  pub right : Quantity (row_of rows) (length rows) handed w.basis (values_of bounds) w.wide.right
  pub wide : op_fits w.wide.op w.wide.left w.wide.right ≡ false

-- what holds of a stop that is an operation too wide
abbrev pub OnStop : (WideAt → Type 0) → Stop → Type 0
OnStop P (WideStop w) = P w
OnStop P MemoryStop = ⊤

-- the stop is this operation at the columns of the tableau, which is sound, or want of memory
abbrev pub StopsIn : State → Wide → Stop → Type 0
StopsIn s wide = OnStop (λ w. (w.basis ≡ s.columns) × (w.wide ≡ wide) × Sound s)

-- the stop is the error at the columns of the tableau, which is sound, or want of memory
abbrev pub ErrorStopsIn : State → TableauError → Stop → Type 0
ErrorStopsIn s error = OnStop (λ w. (w.basis ≡ s.columns) × (error ≡ TooWide w.wide) × Sound s)

-- one of the rows
abbrev pub Known : List (Option Form) → Form → Type 0
Known rows = IsRow (row_of rows)

-- one of the rows, or the one that is handed in
abbrev pub KnownOr : List (Option Form) → Form → Form → Type 0
KnownOr rows f g = IsRow (row_of rows) g ⊎ (g ≡ f)
