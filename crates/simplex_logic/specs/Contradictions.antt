-- Bounds with positive multipliers whose sum is a contradiction.
use Rattle.std.specs.Prelude.{◌≡◌, ℕ, Bool, true, false, List, [], ◌∷◌, Some}
use Rattle.rationals.specs.Rational.{ℚ, zero_ℚ, one_ℚ, ◌+ℚ◌, ◌*ℚ◌, neg_ℚ, ◌<ℚ◌}
use Rattle.rationals.specs.Delta.{Delta, d_add, d_mul, d_neg, of_ℚ, ◌≤Δ◌, ◌<Δ◌}
use Rattle.simplex_logic.specs.Forms.{Rows, Solves}
use Rattle.simplex_logic.specs.Limits.{Limits}

-- a bound of a variable, from above or from below, with its multiplier
pub record Part : Type 0 where
  pub variable : ℕ
  pub upper : Bool
  pub bound : Delta
  pub by : ℚ

-- a number times a Delta
abbrev pub times : ℚ → Delta → Delta
times q x = d_mul (of_ℚ q) x

-- negated at an upper bound
abbrev pub side : Bool → ℚ → ℚ
side true q = neg_ℚ q
side false q = q

-- the same with an infinitesimal part
abbrev pub side_Δ : Bool → Delta → Delta
side_Δ true d = d_neg d
side_Δ false d = d

-- a lower bound says 0 ≤ x - c, an upper one 0 ≤ c - x; here the sum of the variables
abbrev pub total : (ℕ → ℚ) → List Part → ℚ
total σ [] = zero_ℚ
total σ (p ∷ ps) = p.by *ℚ side p.upper (σ p.variable) +ℚ total σ ps

-- and the sum of the constants
abbrev pub constant : List Part → Delta
constant [] = of_ℚ zero_ℚ
constant (p ∷ ps) = d_add (times p.by (d_neg (side_Δ p.upper p.bound))) (constant ps)

-- the multipliers are positive
abbrev pub Positive : List Part → Type 0
Positive [] = Unit {0}
Positive (p ∷ ps) = (zero_ℚ <ℚ p.by) × Positive ps

-- the bounds are limits of their variables
abbrev pub InForce : Limits → List Part → Type 0
InForce L [] = Unit {0}
InForce L (p ∷ ps) = (elim p.upper [ true ↦ L.up p.variable | false ↦ L.low p.variable ] ≡ Some p.bound) × InForce L ps

-- the values are within the bounds
abbrev pub Meets : (ℕ → Delta) → List Part → Type 0
Meets w [] = Unit {0}
Meets w (p ∷ ps) = (of_ℚ zero_ℚ ≤Δ d_add (side_Δ p.upper (w p.variable)) (d_neg (side_Δ p.upper p.bound))) × Meets w ps

-- multiplied and added, the bounds say that a negative number is at least 0
pub record Contradiction (rows : Rows) (ps : List Part) : Type 0 where
  pub positive : Positive ps
  -- no variable is left, in any solution of the rows
  pub cancels : (σ : ℕ → ℚ) → Solves rows σ → total σ ps ≡ zero_ℚ
  pub negative : constant ps <Δ of_ℚ zero_ℚ

-- the limit that stops a column, if its coefficient isn't 0, with the coefficient's size, in front of the rest
pub data Stop (L : Limits) (v : ℕ → Delta) (q : ℚ) (c : ℕ) (ps rest : List Part) : Type 0 where
  stop_none : q ≡ zero_ℚ → ps ≡ rest → Stop L v q c ps rest
  stop_high : (b : Delta) → zero_ℚ <ℚ q → L.up c ≡ Some b → b ≤Δ v c → ps ≡ record { variable = c; upper = true; bound = b; by = q } ∷ rest → Stop L v q c ps rest
  stop_low : (b : Delta) → q <ℚ zero_ℚ → L.low c ≡ Some b → v c ≤Δ b → ps ≡ record { variable = c; upper = false; bound = b; by = neg_ℚ q } ∷ rest → Stop L v q c ps rest

-- the limits that stop the columns of a row
abbrev pub Stops : Limits → (ℕ → Delta) → List ℚ → List ℕ → List Part → Type 0
Stops L v [] cols ps = ps ≡ []
Stops L v (q ∷ qs) [] ps = ps ≡ []
Stops L v (q ∷ qs) (c ∷ cols) ps = (rest : List Part) × Stop L v q c ps rest × Stops L v qs cols rest

-- the violated bound itself, once
abbrev pub first_part : Bool → ℕ → Delta → Part
first_part up s b = record { variable = s; upper = elim up [ true ↦ false | false ↦ true ]; bound = b; by = one_ℚ }
