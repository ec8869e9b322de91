-- What a check leaves in a simplex.
use Rattle.std.specs.Prelude.{◌≡◌, ◌⊎◌, ℕ, ◌<◌, ◌≤◌, List, Option, None, Some, length, get_or}
use Rattle.rationals.specs.Rational.{ℚ, zero_ℚ}
use Rattle.rationals.specs.Delta.{of_ℚ}
use Rattle.fraction128.specs.declared.infinitesimal.Delta.{Delta as Fractions}
use Rattle.simplex_logic.specs.Forms.{Form, row_of, Below}
use Rattle.simplex_logic.specs.Quantities.{In}
use Rattle.simplex_table.specs.View.{State, delta_at, deltas}
use Rattle.simplex_bounds.specs.declared.Bound.{Bound}
use Rattle.simplex_core.specs.Conflicts.{IsConflict}
use Rattle.simplex_core.specs.Content.{IsSolution}
use Rattle.simplex_core.specs.Wides.{values_of}

-- values that meet every row and bound, where each column is 0 or at a bound in force; the rows name variables that exist
pub record IsFound (s : State) (bounds : List Bound) (values : List Fractions) : Type 0 where
  pub long : length values ≤ length s.rows
  pub known : (v : ℕ) (f : Form) → row_of s.rows v ≡ Some f → (v < length s.rows) × Below (length s.rows) f
  pub solution : IsSolution s.rows bounds (deltas values)
  pub stands : (k : ℕ) → k < length s.columns → let d = delta_at values (get_or s.columns k 0) in (d ≡ of_ℚ zero_ℚ) ⊎ In d (values_of bounds)

-- such values, or a conflict
abbrev pub IsSolved : State → List Bound → List Fractions → Option (List (ℕ × ℚ)) → Type 0
IsSolved s bounds values None = IsFound s bounds values
IsSolved s bounds values (Some ms) = IsConflict (row_of s.rows) bounds ms
