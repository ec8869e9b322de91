-- Literals under an assignment, as truth values and as numbers.
use Rattle.std.specs.Prelude.{ℕ, ◌+◌, ◌*◌, Bool, true, false, List, [], ◌∷◌, map}
use Rattle.clause_logic.specs.declared.Lit.{Lit}
use Rattle.clause_gates.specs.Bits.{value_under}

-- the truth values of literals
abbrev pub values_under : (ℕ → Bool) → List Lit → List Bool
values_under s ls = map (value_under s) ls

-- a truth value as a digit
abbrev pub bit : Bool → ℕ
bit true = 1
bit false = 0

-- the number with these bits, the low bit first
abbrev pub number : List Bool → ℕ
number [] = 0
number (b ∷ bs) = bit b + 2 * number bs

-- the number that literals stand for, the low bit first
abbrev pub number_under : (ℕ → Bool) → List Lit → ℕ
number_under s ls = number (values_under s ls)
