-- What a turn of the check looks for: a variable beyond a limit, and a column that can move.
use Rattle.std.specs.Prelude.{◌≡◌, ℕ, ◌<◌, Bool, List, Some, length, get_or}
use Rattle.rationals.specs.Rational.{ℚ}
use Rattle.rationals.specs.Delta.{Delta, ◌<Δ◌}
use Rattle.fraction128.specs.declared.infinitesimal.Delta.{Delta as Fractions}
use Rattle.simplex_logic.specs.Limits.{Limits, Stuck, turned}
use Rattle.simplex_logic.specs.Vectors.{at}
use Rattle.simplex_bounds.specs.declared.Bound.{Bound}
use Rattle.simplex_bounds.specs.declared.Range.{Range}
use Rattle.simplex_table.specs.View.{delta_of, delta_at}
use Rattle.simplex_bounds.specs.Ranges.{range_at, InRange}

-- b is a bound of the range that x is beyond
pub data IsViolated (r : Range) (x : Delta) (b : Bound) : Type 0 where
  too_low : r.low ≡ Some b → x <Δ delta_of b.value → IsViolated r x b
  too_high : r.up ≡ Some b → delta_of b.value <Δ x → IsViolated r x b

-- b is a bound that the first variable beyond a limit is beyond
pub record IsFirstViolated (ranges : List Range) (values : List Fractions) (b : Bound) : Type 0 where
  pub place : ℕ
  pub inside : place < length ranges
  pub violated : IsViolated (range_at ranges place) (delta_at values place) b
  pub earlier : (x : ℕ) → x < place → InRange (range_at ranges x) (delta_at values x)

-- each value is in its range
abbrev pub AreWithin : List Range → List Fractions → Type 0
AreWithin ranges values = (x : ℕ) → InRange (range_at ranges x) (delta_at values x)

-- no column's move repairs the row
abbrev pub AllStuck : Limits → (ℕ → Delta) → Bool → List ℚ → List ℕ → Type 0
AllStuck L v up qs cols = (k : ℕ) → k < length cols → let c = get_or cols k 0 in Stuck (turned up (at qs k)) (L.low c) (L.up c) (v c)
