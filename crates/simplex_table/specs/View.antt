-- A tableau as contracts see it, and what it keeps.
use Rattle.std.specs.Prelude.{◌≡◌, ℕ, ◌<◌, ◌⊎◌, false, List, [], ◌∷◌, Option, length, set, map, slice_index_or}
use Rattle.rationals.specs.Rational.{ℚ}
use Rattle.rationals.specs.Delta.{Delta, delta, of_ℚ}
use Rattle.rationals.specs.Rational.{zero_ℚ}
use Rattle.fraction128.specs.declared.infinitesimal.Delta.{Delta as Fractions}
use Rattle.fraction128.specs.declared.errors.Wide.{Wide}
use Rattle.simplex_logic.specs.Forms.{Form, row_of, IsRow}
use Rattle.simplex_logic.specs.Vectors.{value_at}
use Rattle.simplex_logic.specs.Tables.{Tabled, Sorted, is_column, rowless}
use Rattle.simplex_logic.specs.Quantities.{Basis, Quantity}
use Rattle.simplex_table.specs.Causes.{op_fits}

-- the row that each variable was made with, if any, the columns, and each variable's coefficients by them
pub record State : Type 0 where
  pub rows : List (Option Form)
  pub columns : List ℕ
  pub table : List (List ℚ)

-- the form of a row as it is handed in
abbrev pub form_of : List (ℕ × ℚ) → Form
form_of [] = []
form_of (t ∷ ts) = record { by = t.1; of = t.0 } ∷ form_of ts

-- a variable's coefficients
abbrev pub row_at : List (List ℚ) → ℕ → List ℚ
row_at table v = slice_index_or table v []

-- what a tableau keeps
pub record Sound (s : State) : Type 0 where
  pub tabled : Tabled (row_of s.rows) (length s.rows) s.columns (row_at s.table)
  pub sorted : Sorted s.columns
  pub many : length s.columns ≡ rowless (row_of s.rows) (length s.rows)
  pub long : length s.table ≡ length s.rows

-- a fraction with its infinitesimal part, as a number
abbrev pub delta_of : Fractions → Delta
delta_of d = delta d.real d.inf

-- such fractions, as numbers
abbrev pub deltas : List Fractions → List Delta
deltas ds = map delta_of ds

-- the value of a variable
abbrev pub delta_at : List Fractions → ℕ → Delta
delta_at ds x = slice_index_or (deltas ds) x (of_ℚ zero_ℚ)

-- the rows are the same, and in the columns a variable took the place of that of column j
pub record Exchanged (old new : State) (variable j : ℕ) : Type 0 where
  pub rows : new.rows ≡ old.rows
  pub members : (x : ℕ) → is_column new.columns x ≡ is_column (set old.columns j variable) x

-- the values of all variables where the columns have the values y
pub record AreValues (s : State) (y : List Delta) (vs : List Fractions) : Type 0 where
  pub long : length vs ≡ length s.rows
  pub each : (x : ℕ) → x < length s.rows → delta_at vs x ≡ value_at (row_at s.table) y x

-- the columns are a basis, and the operation is too wide with two operands that are numbers of this tableau, the bounds C
-- and the rows handed in
pub record WideIn (s : State) (handed : Form → Type 0) (C : List Delta) (w : Wide) : Type 0 where
  pub basis : Basis (row_of s.rows) (length s.rows) s.columns
  pub left : Quantity (row_of s.rows) (length s.rows) handed s.columns C w.left
  pub right : Quantity (row_of s.rows) (length s.rows) handed s.columns C w.right
  pub wide : op_fits w.op w.left w.right ≡ false

-- one of the rows
abbrev pub Known : State → Form → Type 0
Known s = IsRow (row_of s.rows)

-- one of the rows, or the one that is handed in
abbrev pub KnownOr : State → Form → Form → Type 0
KnownOr s f g = IsRow (row_of s.rows) g ⊎ (g ≡ f)
