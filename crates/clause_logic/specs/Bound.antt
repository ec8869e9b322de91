-- How many different clauses there are, and the measure of a search that learns.
use Rattle.std.specs.Prelude.{ℕ, zero, suc, ◌+◌, ◌-◌, ◌*◌, ◌^◌, ◌<◌, Bool, true, false, List, [], ◌∷◌, ◌≡◌, Some, slice_get, ◌&&◌, ◌||◌, ◌==◌}
use mathlib.Core.Bool.{beq}
use Rattle.clause_logic.specs.declared.Lit.{Lit}
use Rattle.clause_logic.specs.Clauses.{opposite, In, Same}

-- the literal stands in the clause, as a test
abbrev pub in_test : ℕ → Bool → List Lit → Bool
in_test v p [] = false
in_test v p (x ∷ xs) = (x.var == v && beq x.positive p) || in_test v p xs

-- the digit of a variable that stands in the clause as itself, or negated
abbrev pub digit_of : Bool → Bool → ℕ
digit_of true b = 1
digit_of false true = 2
digit_of false false = 0

-- 1 for a variable, 2 for its negation, 0 for neither
abbrev pub digit : List Lit → ℕ → ℕ
digit c v = digit_of (in_test v true c) (in_test v false c)

-- a clause over the variables below n as a number with digits to base 3
unfoldable pub code : ℕ → List Lit → ℕ
code zero c = 0
code (suc n) c = digit c n * 3 ^ n + code n c

-- clauses over the variables below n, none with a literal and its opposite, no two with the same literals
pub record Apart (n : ℕ) (cs : List (List Lit)) : Type 0 where
  pub below : (i : ℕ) (c : List Lit) (l : Lit) → slice_get cs i ≡ Some c → In l c → l.var < n
  pub plain : (i : ℕ) (c : List Lit) (l : Lit) → slice_get cs i ≡ Some c → In l c → In (opposite l) c → ⊥
  pub different : (i j : ℕ) (c d : List Lit) → i < j → slice_get cs i ≡ Some c → slice_get cs j ≡ Some d → Same c d → ⊥

-- what is left of a search: clauses that were not learned, then variables with no value
unfoldable pub search_weight : ℕ → ℕ → ℕ → ℕ
search_weight vars learned free = (3 ^ vars - learned) * (vars + 1) + free
