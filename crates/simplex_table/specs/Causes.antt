-- Which operation of a call may be too wide.
use Rattle.std.specs.Prelude.{◌≡◌, ◌⊎◌, ℕ, ◌<◌, Bool, false, List, take, set, ⊤}
use Rattle.rationals.specs.Rational.{ℚ, zero_ℚ, one_ℚ, neg_ℚ, ◌*ℚ◌, ◌/ℚ◌}
use Rattle.fraction128.specs.Exact.{fits, sum_fits}
use Rattle.fraction128.specs.declared.errors.Op.{Op}
use Rattle.fraction128.specs.declared.errors.Op.TheVariants.{Add, Sub, Mul, Div}
use Rattle.fraction128.specs.declared.errors.Wide.{Wide}
use Rattle.simplex_table.specs.declared.error.TableauError.{TableauError}
use Rattle.simplex_table.specs.declared.error.TableauError.TheVariants.{Wide as TooWide, NoMemory}
use Rattle.simplex_logic.specs.Vectors.{at, dot}

-- whether the operation's result on these operands fits
abbrev pub op_fits : Op → ℚ → ℚ → Bool
op_fits Add q r = sum_fits q r
op_fits Sub q r = sum_fits q (neg_ℚ r)
op_fits Mul q r = fits (q *ℚ r)
op_fits Div q r = fits (q /ℚ r)

-- the operation is too wide, and its operands are of the given kind
pub record WideBy (Operands : ℚ → ℚ → Type 0) (w : Wide) : Type 0 where
  pub wide : op_fits w.op w.left w.right ≡ false
  pub operands : Operands w.left w.right

-- the same at one of n columns
pub record WideAlong (n : ℕ) (Operands : ℕ → ℚ → ℚ → Type 0) (w : Wide) : Type 0 where
  pub column : ℕ
  pub inside : column < n
  pub by : WideBy (Operands column) w

-- what holds of an error that is an operation too wide
abbrev pub OnWide : (Wide → Type 0) → TableauError → Type 0
OnWide P (TooWide w) = P w
OnWide P NoMemory = ⊤

-- the operands of a + b * c
pub data MultiplyAdd (a b c : ℚ) (left right : ℚ) : Type 0 where
  multiplied : left ≡ b → right ≡ c → MultiplyAdd a b c left right
  added : left ≡ a → right ≡ b *ℚ c → MultiplyAdd a b c left right

-- the operands at one column where a row is solved for the variable of a column
abbrev pub Solving : List ℚ → ℕ → ℕ → ℚ → ℚ → Type 0
Solving row column k left right = ((left ≡ one_ℚ) ⊎ (left ≡ at row k)) × (right ≡ at row column)

-- the operands at one column where the variable of a column is replaced by a row
abbrev pub Replacing : ℕ → List ℚ → List ℚ → ℕ → ℚ → ℚ → Type 0
Replacing column pivot row k = MultiplyAdd (at (set row column zero_ℚ) k) (at row column) (at pivot k)

-- the operands at one column where a multiple of a row is added to a sum
abbrev pub Summing : List ℚ → ℚ → List ℚ → ℕ → ℚ → ℚ → Type 0
Summing sum by row k = MultiplyAdd (at sum k) by (at row k)

-- the operands at one column where the products of a row with values are summed
abbrev pub Multiplying : List ℚ → List ℚ → ℕ → ℚ → ℚ → Type 0
Multiplying row values k = MultiplyAdd (dot (take k row) values) (at row k) (at values k)
