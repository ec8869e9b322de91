-- What a check keeps from turn to turn, and what a turn does.
use Rattle.std.specs.Prelude.{◌≡◌, ℕ, zero, suc, ◌<◌, Bool, true, false, List, [], ◌∷◌, Option, None, Some, length, get_or, set, nat_lt}
use Rattle.rationals.specs.Rational.{ℚ}
use Rattle.rationals.specs.Delta.{Delta}
use Rattle.fraction128.specs.declared.infinitesimal.Delta.{Delta as Fractions}
use Rattle.simplex_logic.specs.Forms.{Form, row_of}
use Rattle.simplex_logic.specs.Tables.{is_column}
use Rattle.simplex_logic.specs.Pivoting.{Going, measure}
use Rattle.simplex_logic.specs.Quantities.{Vertex}
use Rattle.simplex_table.specs.View.{State, row_at, delta_at}
use Rattle.simplex_bounds.specs.declared.Bound.{Bound}
use Rattle.simplex_bounds.specs.declared.Range.{Range}
use Rattle.simplex_core.specs.declared.checking.Turn.{Turn}
use Rattle.simplex_core.specs.declared.checking.Turn.TheVariants.{Done, Conflict, Pivoted}
use Rattle.simplex_core.specs.declared.wide.WideAt.{WideAt}
use Rattle.simplex_bounds.specs.Ranges.{range_at, limits_of, Ranged, InRange, IsStraight, Stands}
use Rattle.simplex_core.specs.Choosing.{AreWithin}
use Rattle.simplex_core.specs.Conflicts.{IsConflict}
use Rattle.simplex_core.specs.Wides.{IsWide, Known, values_of}

-- the first n are false
abbrev pub cleared : ℕ → List Bool → List Bool
cleared zero xs = xs
cleared (suc n) [] = []
cleared (suc n) (x ∷ xs) = false ∷ cleared n xs

-- which variables are spent after s left the basis and r entered: none below the greater of the two, and s if it is the greater
abbrev pub marks_after : ℕ → ℕ → List Bool → List Bool
marks_after s r spent = set (cleared s (cleared (suc r) spent)) s (nat_lt r s)

-- whether a variable is marked
abbrev pub mark_at : List Bool → ℕ → Bool
mark_at spent x = get_or spent x false

-- the values of the columns, in their order
pub record ArePoints (columns : List ℕ) (values found : List Fractions) : Type 0 where
  pub long : length found ≡ length columns
  pub each : (k : ℕ) → k < length columns → delta_at found k ≡ delta_at values (get_or columns k 0)

-- a number of each column's range, 0 or a limit of it
pub record AreStarts (columns : List ℕ) (ranges : List Range) (found : List Fractions) : Type 0 where
  pub long : length found ≡ length columns
  pub in_range : (k : ℕ) → k < length columns → InRange (range_at ranges (get_or columns k 0)) (delta_at found k)
  pub stands : (k : ℕ) → k < length columns → Stands (range_at ranges (get_or columns k 0)) (delta_at found k)

-- the bounds of each range are of its variable, on their sides
pub record OwnBounds (ranges : List Range) : Type 0 where
  pub low : (v : ℕ) (b : Bound) → (range_at ranges v).low ≡ Some b → (b.variable ≡ v) × (b.upper ≡ false)
  pub up : (v : ℕ) (b : Bound) → (range_at ranges v).up ≡ Some b → (b.variable ≡ v) × (b.upper ≡ true)

-- what holds at each turn
pub record Turning (s : State) (ranges : List Range) (values : List Fractions) (spent : List Bool) : Type 0 where
  pub long : length values ≡ length s.rows
  pub marks : length spent ≡ length s.rows
  pub ranged : length ranges ≡ length s.rows
  pub own : OwnBounds ranges
  pub straight : (v : ℕ) → IsStraight (range_at ranges v)
  pub stands : (k : ℕ) → k < length s.columns → Stands (range_at ranges (get_or s.columns k 0)) (delta_at values (get_or s.columns k 0))
  pub going : Going (row_of s.rows) (length s.rows) (limits_of ranges) s.columns (row_at s.table) (mark_at spent) (delta_at values)

-- a number that falls with each pivot
abbrev pub turns_left : State → List Bool → ℕ
turns_left s spent = measure (length s.rows) (is_column s.columns) (mark_at spent)

-- the multipliers are a conflict of any bounds that leave these ranges
abbrev pub IsConflictIn : List (Option Form) → List Range → List (ℕ × ℚ) → Type 0
IsConflictIn rows ranges ms = (bounds : List Bound) → Ranged (length rows) bounds ranges → IsConflict (row_of rows) bounds ms

-- the operation is too wide in a problem of any bounds that leave these ranges
abbrev pub IsWideIn : List (Option Form) → List Range → WideAt → Type 0
IsWideIn rows ranges w = (bounds : List Bound) → Ranged (length rows) bounds ranges → IsWide rows (Known rows) bounds w

-- what a turn comes to, where so many turns were left
abbrev pub IsTurn : ℕ → State → List Range → List Fractions → List Bool → Turn → Type 0
IsTurn left s ranges values spent Done = Turning s ranges values spent × AreWithin ranges values
IsTurn left s ranges values spent (Conflict ms) = IsConflictIn s.rows ranges ms
IsTurn left s ranges values spent Pivoted = Turning s ranges values spent × (turns_left s spent < left)

-- the operation is too wide where the columns stand at 0 or at bounds
abbrev pub IsWideAtVertex : State → List Delta → WideAt → Type 0
IsWideAtVertex s y w = (bounds : List Bound) → Vertex s.columns (values_of bounds) y → IsWide s.rows (Known s.rows) bounds w

-- the operation is too wide whatever the bounds
abbrev pub IsWideAnyway : List (Option Form) → WideAt → Type 0
IsWideAnyway rows w = (bounds : List Bound) → IsWide rows (Known rows) bounds w

-- where the turns end: with a conflict, or with values that are within their limits
abbrev pub IsEnd : State → List Range → List Fractions → List Bool → Option (List (ℕ × ℚ)) → Type 0
IsEnd s ranges values spent None = Turning s ranges values spent × AreWithin ranges values
IsEnd s ranges values spent (Some ms) = IsConflictIn s.rows ranges ms
