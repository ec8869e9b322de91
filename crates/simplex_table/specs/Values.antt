-- The value of one row's variable.
use Rattle.std.specs.Prelude.{Bool, true, false, List, length}
use Rattle.rationals.specs.Rational.{ℚ}
use Rattle.rationals.specs.Delta.{Delta, delta}
use Rattle.fraction128.specs.declared.errors.Wide.{Wide}
use Rattle.simplex_logic.specs.Vectors.{dot, parts}
use Rattle.simplex_table.specs.Causes.{WideAlong, Multiplying}

-- the sums of the products, part by part
abbrev pub value_of : List ℚ → List Delta → Delta
value_of row y = delta (dot row (parts true y)) (dot row (parts false y))

-- too wide in one of the two sums
pub record WideInPart (row : List ℚ) (y : List Delta) (w : Wide) : Type 0 where
  pub real : Bool
  pub along : WideAlong (length row) (Multiplying row (parts real y)) w
