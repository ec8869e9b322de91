-- A simplex as contracts see it.
use Rattle.std.specs.Prelude.{ℕ, List, Option, slice_index_or, Contains}
use Rattle.rationals.specs.Rational.{zero_ℚ}
use Rattle.rationals.specs.Delta.{Delta, of_ℚ}
use Rattle.simplex_logic.specs.Forms.{Form, row_of, Solves_Δ}
use Rattle.simplex_bounds.specs.declared.Bound.{Bound}
use Rattle.simplex_bounds.specs.Ranges.{Holds}

-- the row that each variable was made with, if any, the bounds in force, those at each mark, and the values that a check found
pub record Content : Type 0 where
  pub rows : List (Option Form)
  pub bounds : List Bound
  pub saved : List (List Bound)
  pub found : Option (List Delta)

-- the value of a variable; one that is not listed has the value 0
abbrev pub value_in : List Delta → ℕ → Delta
value_in vs x = slice_index_or vs x (of_ℚ zero_ℚ)

-- values that meet every row and bound
pub record IsSolution (rows : List (Option Form)) (bounds : List Bound) (vs : List Delta) : Type 0 where
  pub solves : Solves_Δ (row_of rows) (value_in vs)
  pub met : (b : Bound) → Contains bounds b → Holds (value_in vs) b
