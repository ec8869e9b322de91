-- Fractions in place of numbers with an infinitesimal part.
use Rattle.std.specs.Prelude.{◌≡◌, ◌≢◌, ℕ, ◌<◌, Bool, true, false, List, Option, None, Some, length, Contains}
use Rattle.rationals.specs.Rational.{ℚ, zero_ℚ, one_ℚ, ◌*ℚ◌, ◌-ℚ◌, ◌<ℚ◌, ◌≤ℚ◌}
use Rattle.rationals.specs.Delta.{Delta, of_ℚ}
use Rattle.fraction128.specs.declared.infinitesimal.Delta.{Delta as Fractions}
use Rattle.fraction128.specs.declared.errors.Wide.{Wide}
use Rattle.simplex_logic.specs.Forms.{Form, row_of, Solves}
use Rattle.simplex_logic.specs.Vectors.{at}
use Rattle.simplex_logic.specs.Concretes.{Allows, at_step, quotient}
use Rattle.simplex_table.specs.View.{delta_of, delta_at}
use Rattle.simplex_table.specs.Causes.{op_fits}
use Rattle.simplex_bounds.specs.declared.Bound.{Bound}
use Rattle.simplex_bounds.specs.Ranges.{Holds}

-- the operation is too wide on these operands
pub record WideOn (left right : ℚ) (w : Wide) : Type 0 where
  pub left_is : w.left ≡ left
  pub right_is : w.right ≡ right
  pub wide : op_fits w.op w.left w.right ≡ false

-- a difference of two numbers that are not 0 is too wide
pub record IsDifferenceWide (a b : ℚ) (w : Wide) : Type 0 where
  pub on : WideOn a b w
  pub left_some : a ≢ zero_ℚ
  pub right_some : b ≢ zero_ℚ

-- the largest step with which l is at most u; none where each step will do
abbrev pub IsLargest : Delta → Delta → Option ℚ → Type 0
IsLargest l u None = l.inf ≤ℚ u.inf
IsLargest l u (Some e) = (u.inf <ℚ l.inf) × (e ≡ quotient l u)

-- an operation on the way to the largest step is too wide
pub data IsStepWide (l u : Delta) (w : Wide) : Type 0 where
  reals_apart : IsDifferenceWide u.real l.real w → IsStepWide l u w
  infs_apart : IsDifferenceWide l.inf u.inf w → IsStepWide l u w
  divided : WideOn (u.real -ℚ l.real) (l.inf -ℚ u.inf) w → IsStepWide l u w

-- what is to be at most the other: the value under an upper bound, or a lower bound
abbrev pub low_of : Bool → Delta → Delta → Delta
low_of true limit x = x
low_of false limit x = limit

-- and the other
abbrev pub high_of : Bool → Delta → Delta → Delta
high_of true limit x = limit
high_of false limit x = x

-- the least of a step and another, if there is another
pub data IsLeast (step : ℚ) (other : Option ℚ) (e : ℚ) : Type 0 where
  alone : other ≡ None → e ≡ step → IsLeast step other e
  is_other : (q : ℚ) → other ≡ Some q → q ≤ℚ step → e ≡ q → IsLeast step other e
  is_step : (q : ℚ) → other ≡ Some q → step ≤ℚ q → e ≡ step → IsLeast step other e

-- a bound with the value of its variable, the lesser of the two that are compared
abbrev pub low_at : Bound → List Fractions → Delta
low_at b values = low_of b.upper (delta_of b.value) (delta_at values b.variable)

-- and the greater
abbrev pub high_at : Bound → List Fractions → Delta
high_at b values = high_of b.upper (delta_of b.value) (delta_at values b.variable)

-- the step is 1, or the largest one for a bound of the list
pub data IsStepOf (bounds : List Bound) (values : List Fractions) (e : ℚ) : Type 0 where
  is_one : e ≡ one_ℚ → IsStepOf bounds values e
  is_largest : (b : Bound) → Contains bounds b → IsLargest (low_at b values) (high_at b values) (Some e) → IsStepOf bounds values e

-- a positive step, with which the values meet every bound
pub record IsCommonStep (bounds : List Bound) (values : List Fractions) (e : ℚ) : Type 0 where
  pub positive : zero_ℚ <ℚ e
  pub allowed : (b : Bound) → Contains bounds b → Allows e (low_at b values) (high_at b values)
  pub of_bound : IsStepOf bounds values e

-- an operation on the way to the step of a bound is too wide
pub record IsBoundWide (bounds : List Bound) (values : List Fractions) (w : Wide) : Type 0 where
  pub bound : Bound
  pub listed : Contains bounds bound
  pub by : IsStepWide (low_at bound values) (high_at bound values) w

-- an operation on the way to a value is too wide
pub data IsValueWide (e : ℚ) (d : Delta) (w : Wide) : Type 0 where
  product_wide : WideOn e d.inf w → IsValueWide e d w
  sum_wide : WideOn d.real (e *ℚ d.inf) w → IsValueWide e d w

-- the values of the first variables, with the step in place of the infinitesimal
pub record AreConcrete (e : ℚ) (values : List Fractions) (count : ℕ) (qs : List ℚ) : Type 0 where
  pub long : length qs ≡ count
  pub each : (v : ℕ) → v < count → at qs v ≡ at_step e (delta_at values v)

-- an operation on the way to one of them is too wide
pub record IsSomeValueWide (e : ℚ) (values : List Fractions) (count : ℕ) (w : Wide) : Type 0 where
  pub variable : ℕ
  pub inside : variable < count
  pub by : IsValueWide e (delta_at values variable) w

-- a number is on the right side of a limit
abbrev pub OnSide_ℚ : Bool → ℚ → ℚ → Type 0
OnSide_ℚ true limit x = x ≤ℚ limit
OnSide_ℚ false limit x = limit ≤ℚ x

-- a bound that leaves out its limit, or takes it in: its infinitesimal part does not widen it
abbrev pub IsPlain : Bound → Type 0
IsPlain b = OnSide_ℚ b.upper zero_ℚ b.value.inf

-- fractions that meet every row, and every bound with one positive fraction in place of the infinitesimal; so each bound whose
-- infinitesimal part does not widen it is met as it stands
pub record IsConcrete (rows : List (Option Form)) (bounds : List Bound) (qs : List ℚ) : Type 0 where
  pub long : length qs ≡ length rows
  pub solves : Solves (row_of rows) (at qs)
  pub step : ℚ
  pub positive : zero_ℚ <ℚ step
  pub met : (b : Bound) → Contains bounds b → OnSide_ℚ b.upper (at_step step (delta_of b.value)) (at qs b.variable)
  pub met_plainly : (b : Bound) → Contains bounds b → IsPlain b → Holds (λ x. of_ℚ (at qs x)) b
