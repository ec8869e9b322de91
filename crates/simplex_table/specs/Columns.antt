-- What is done to all rows of a table.
use Rattle.std.specs.Prelude.{◌≡◌, ℕ, zero, suc, ◌<◌, ◌++◌, List, [], ◌∷◌, length, slice_index}
use Rattle.rationals.specs.Rational.{ℚ, zero_ℚ}
use Rattle.fraction128.specs.declared.errors.Wide.{Wide}
use Rattle.simplex_logic.specs.Forms.{Rows}
use Rattle.simplex_logic.specs.Tables.{Tabled, is_column}
use Rattle.simplex_table.specs.View.{row_at}
use Rattle.simplex_table.specs.Causes.{WideAlong, Replacing}

-- a row with one column more
abbrev pub with_zero : List ℚ → List ℚ
with_zero b = b ++ zero_ℚ ∷ []

-- the first k rows changed by f
abbrev pub map_first : (List ℚ → List ℚ) → ℕ → List (List ℚ) → List (List ℚ)
map_first f zero bs = bs
map_first f (suc k) [] = []
map_first f (suc k) (b ∷ bs) = f b ∷ map_first f k bs

-- the rows have n columns
abbrev pub HaveLength : ℕ → List (List ℚ) → Type 0
HaveLength n bs = (i : ℕ) → i < length bs → length (row_at bs i) ≡ n

-- too wide in one of the rows
pub record WideInRow (j : ℕ) (p : List ℚ) (bs : List (List ℚ)) (w : Wide) : Type 0 where
  pub row : ℕ
  pub entries : List ℚ
  pub inside : row < length bs
  pub is : entries ≡ row_at bs row
  pub along : WideAlong (length p) (Replacing j p entries) w

-- the same columns in another order, with each variable's coefficients in it
pub record Reordered (cols : List ℕ) (bs : List (List ℚ)) (cols' : List ℕ) (bs' : List (List ℚ)) : Type 0 where
  pub tabled : (rows : Rows) → Tabled rows (length bs) cols (row_at bs) → Tabled rows (length bs) cols' (row_at bs')
  pub members : (x : ℕ) → is_column cols' x ≡ is_column cols x
  pub columns : length cols' ≡ length cols
  pub rows : length bs' ≡ length bs

-- the columns rise but for the one in place k, which is none of the others
pub record RisesBut (k : ℕ) (cols : List ℕ) : Type 0 where
  pub inside : k < length cols
  pub others : (i l : ℕ) → i < l → l < length cols → (i ≡ k → ⊥) → (l ≡ k → ⊥) → slice_index cols i < slice_index cols l
  pub apart : (i : ℕ) → i < length cols → (i ≡ k → ⊥) → slice_index cols i ≡ slice_index cols k → ⊥

-- the one in place k is below those behind it
pub record RisesFrom (k : ℕ) (cols : List ℕ) : Type 0 where
  pub but : RisesBut k cols
  pub above : (l : ℕ) → k < l → l < length cols → slice_index cols k < slice_index cols l
