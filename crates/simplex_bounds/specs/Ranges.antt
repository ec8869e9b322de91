-- The range that bounds leave to each variable.
use Rattle.std.specs.Prelude.{◌≡◌, ℕ, Bool, true, false, List, Option, Some, None, length, Contains, slice_index_or}
use Rattle.rationals.specs.Rational.{zero_ℚ}
use Rattle.rationals.specs.Delta.{Delta, of_ℚ, ◌≤Δ◌, ◌<Δ◌}
use Rattle.simplex_table.specs.View.{delta_of}
use Rattle.simplex_logic.specs.Limits.{Limits, AtLeast, AtMost}
use Rattle.simplex_bounds.specs.declared.Bound.{Bound}
use Rattle.simplex_bounds.specs.declared.Range.{Range}

-- a value is on the right side of a limit
abbrev pub OnSide : Bool → Delta → Delta → Type 0
OnSide true limit x = x ≤Δ limit
OnSide false limit x = limit ≤Δ x

-- values meet a bound
abbrev pub Holds : (ℕ → Delta) → Bound → Type 0
Holds w b = OnSide b.upper (delta_of b.value) (w b.variable)

-- the range without bounds
abbrev pub free : Range
free = record { low = None; up = None }

-- the range of a variable; one that is not listed has no bounds
abbrev pub range_at : List Range → ℕ → Range
range_at ranges v = slice_index_or ranges v free

-- the limit that a bound sets
abbrev pub limit_of : Option Bound → Option Delta
limit_of None = None
limit_of (Some b) = Some (delta_of b.value)

-- the limits that ranges set
abbrev pub limits_of : List Range → Limits
limits_of ranges = record { low = λ v. limit_of (range_at ranges v).low; up = λ v. limit_of (range_at ranges v).up }

-- a number between the limits of a range
pub record InRange (r : Range) (x : Delta) : Type 0 where
  pub least : AtLeast (limit_of r.low) x
  pub most : AtMost (limit_of r.up) x

-- the bound of one side is the old one, or the new bound
pub data Keeps (upper : Bool) (old : Option Bound) (bound : Bound) (new : Option Bound) : Type 0 where
  as_before : new ≡ old → Keeps upper old bound new
  by_new : bound.upper ≡ upper → new ≡ Some bound → Keeps upper old bound new

-- a range with one bound more
pub record Tightens (old : Range) (bound : Bound) (new : Range) : Type 0 where
  pub old_range : (x : Delta) → InRange new x → InRange old x
  pub new_bound : (x : Delta) → InRange new x → OnSide bound.upper (delta_of bound.value) x
  pub low : Keeps false old.low bound new.low
  pub up : Keeps true old.up bound new.up

-- a bound of the list, of this variable and side
pub record IsOf (bounds : List Bound) (v : ℕ) (upper : Bool) (b : Bound) : Type 0 where
  pub listed : Contains bounds b
  pub variable : b.variable ≡ v
  pub side : b.upper ≡ upper

-- the ranges that bounds leave: each limit is one of the bounds, and within them each bound is met
pub record Ranged (count : ℕ) (bounds : List Bound) (ranges : List Range) : Type 0 where
  pub long : length ranges ≡ count
  pub low : (v : ℕ) (b : Bound) → (range_at ranges v).low ≡ Some b → IsOf bounds v false b
  pub up : (v : ℕ) (b : Bound) → (range_at ranges v).up ≡ Some b → IsOf bounds v true b
  pub met : (b : Bound) → Contains bounds b → (x : Delta) → InRange (range_at ranges b.variable) x → OnSide b.upper (delta_of b.value) x

-- the lower bound of a range is above its upper one
pub record Crosses (r : Range) (a b : Bound) : Type 0 where
  pub low : r.low ≡ Some a
  pub up : r.up ≡ Some b
  pub apart : delta_of b.value <Δ delta_of a.value

-- the lower bound of a range is at most its upper one
abbrev pub IsStraight : Range → Type 0
IsStraight r = (a b : Bound) → r.low ≡ Some a → r.up ≡ Some b → delta_of a.value ≤Δ delta_of b.value

-- a number is 0 or a limit of the range
pub data Stands (r : Range) (x : Delta) : Type 0 where
  at_zero : x ≡ of_ℚ zero_ℚ → Stands r x
  at_low : (b : Bound) → r.low ≡ Some b → x ≡ delta_of b.value → Stands r x
  at_up : (b : Bound) → r.up ≡ Some b → x ≡ delta_of b.value → Stands r x

-- the new lower bound allows what the old one and the bound allow
abbrev pub Above : Option Bound → Bound → Option Bound → Type 0
Above old bound new = (x : Delta) → AtLeast (limit_of new) x → AtLeast (limit_of old) x × (delta_of bound.value ≤Δ x)

-- the new upper bound allows what the old one and the bound allow
abbrev pub Under : Option Bound → Bound → Option Bound → Type 0
Under old bound new = (x : Delta) → AtMost (limit_of new) x → AtMost (limit_of old) x × (x ≤Δ delta_of bound.value)

-- 0, or the value of a lower bound above 0
pub data Raised (low : Option Bound) (x : Delta) : Type 0 where
  from_zero : x ≡ of_ℚ zero_ℚ → Raised low x
  from_low : (b : Bound) → low ≡ Some b → x ≡ delta_of b.value → Raised low x

-- a number, or the value of an upper bound below it
pub data Lowered (up : Option Bound) (at x : Delta) : Type 0 where
  kept : x ≡ at → Lowered up at x
  to_up : (b : Bound) → up ≡ Some b → x ≡ delta_of b.value → x <Δ at → Lowered up at x

-- so many ranges, none with bounds
pub record AllFree (count : ℕ) (ranges : List Range) : Type 0 where
  pub long : length ranges ≡ count
  pub each : (v : ℕ) → range_at ranges v ≡ free
