-- A tableau: the columns are the nonbasic variables, and each variable has its coefficients by them.
use Rattle.std.specs.Prelude.{◌≡◌, ℕ, zero, suc, ◌<◌, Bool, true, false, eqb, List, [], ◌∷◌, length, get_or, None, Some}
use Rattle.rationals.specs.Rational.{ℚ}
use Rattle.simplex_logic.specs.Forms.{Form, Rows, Solves, Below}
use Rattle.simplex_logic.specs.Vectors.{dot, read, pivot_row, replaced}

-- the tableau stands for the rows over n variables
pub record Tabled (rows : Rows) (n : ℕ) (cols : List ℕ) (tab : ℕ → List ℚ) : Type 0 where
  -- a row names variables that exist
  pub known : (v : ℕ) (f : Form) → rows v ≡ Some f → (v < n) × Below n f
  -- so do the columns
  pub named : (k : ℕ) → k < length cols → get_or cols k 0 < n
  -- a coefficient for each column
  pub width : (v : ℕ) → v < n → length (tab v) ≡ length cols
  -- a column's own coefficients read the column
  pub own : (y : List ℚ) → length y ≡ length cols → read (λ c. dot (tab c) y) cols ≡ y
  -- the rows hold whatever the columns' values
  pub linear : (y : List ℚ) → length y ≡ length cols → Solves rows (λ v. dot (tab v) y)
  -- and each variable is the sum by its coefficients in every solution
  pub expressed : (σ : ℕ → ℚ) → Solves rows σ → (v : ℕ) → v < n → σ v ≡ dot (tab v) (read σ cols)

-- the coefficients after s left and the variable of column j entered
abbrev pub pivoted : ℕ → ℕ → (ℕ → List ℚ) → ℕ → List ℚ
pivoted s j tab v = replaced j (pivot_row j (tab s)) (tab v)

-- the columns rise
abbrev pub Sorted : List ℕ → Type 0
Sorted cols = (k l : ℕ) → k < l → l < length cols → get_or cols k 0 < get_or cols l 0

-- whether x is one of the columns
abbrev pub is_column : List ℕ → ℕ → Bool
is_column [] x = false
is_column (c ∷ cs) x = elim (eqb x c) [ true ↦ true | false ↦ is_column cs x ]

-- how many of the first n variables have no row
abbrev pub rowless : Rows → ℕ → ℕ
rowless rows zero = 0
rowless rows (suc n) = elim (rows n) [ None ↦ suc (rowless rows n) | Some f ↦ rowless rows n ]
