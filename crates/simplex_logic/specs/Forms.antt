-- Linear forms, and the rows that were handed in.
use Rattle.std.specs.Prelude.{◌≡◌, ℕ, ◌<◌, List, [], ◌∷◌, Option, None, Some, get_or}
use Rattle.rationals.specs.Rational.{ℚ, zero_ℚ, ◌+ℚ◌, ◌*ℚ◌}
use Rattle.rationals.specs.Delta.{Delta}

-- a coefficient and a variable
pub record Term : Type 0 where
  pub by : ℚ
  pub of : ℕ

-- a sum of terms
abbrev pub Form : Type 0
Form = List Term

-- the form's value where each variable has one
abbrev pub value : (ℕ → ℚ) → Form → ℚ
value ρ [] = zero_ℚ
value ρ (t ∷ f) = t.by *ℚ ρ t.of +ℚ value ρ f

-- the real parts
abbrev pub reals : (ℕ → Delta) → ℕ → ℚ
reals σ n = (σ n).real

-- the infinitesimal parts
abbrev pub infs : (ℕ → Delta) → ℕ → ℚ
infs σ n = (σ n).inf

-- the row of each variable that has one
abbrev pub Rows : Type 0
Rows = ℕ → Option Form

-- the rows of variables that are listed by number
abbrev pub row_of : List (Option Form) → Rows
row_of rows v = get_or rows v None

-- each variable that has a row has its form's value
abbrev pub Solves : Rows → (ℕ → ℚ) → Type 0
Solves rows σ = (v : ℕ) (f : Form) → rows v ≡ Some f → σ v ≡ value σ f

-- both parts meet the rows
abbrev pub Solves_Δ : Rows → (ℕ → Delta) → Type 0
Solves_Δ rows v = Solves rows (reals v) × Solves rows (infs v)

-- the form's variables are below n
abbrev pub Below : ℕ → Form → Type 0
Below n [] = Unit {0}
Below n (t ∷ f) = (t.of < n) × Below n f

-- the form is one of the rows
abbrev pub IsRow : Rows → Form → Type 0
IsRow rows f = (v : ℕ) × (rows v ≡ Some f)
