-- Gates: what each makes of its operands, and the clauses that say so.
use Rattle.std.specs.Prelude.{ℕ, ◌<◌, Bool, true, ◌&&◌, List, [], ◌∷◌, ◌++◌, if◌then◌else◌}
use Rattle.clause_logic.specs.declared.Lit.{Lit}
use Rattle.clause_logic.specs.Clauses.{opposite}
use Rattle.y_tree.specs.BitVectors.{differ}
use Rattle.clause_gates.specs.declared.defining.Gate.{Gate}
use Rattle.clause_gates.specs.declared.defining.Gate.TheVariants as gate
use Rattle.clause_gates.specs.Bits.{value_under, majority}
use Rattle.clause_gates.specs.Defining.{and_clauses, xor_clauses, ite_clauses}

-- the literal is true where an odd number of three is
abbrev pub parity_clauses : Lit → Lit → Lit → Lit → List (List Lit)
parity_clauses g a b c =
    (opposite g ∷ a ∷ b ∷ c ∷ [])
    ∷ (opposite g ∷ a ∷ opposite b ∷ opposite c ∷ [])
    ∷ (opposite g ∷ opposite a ∷ b ∷ opposite c ∷ [])
    ∷ (opposite g ∷ opposite a ∷ opposite b ∷ c ∷ [])
    ∷ (g ∷ opposite a ∷ b ∷ c ∷ [])
    ∷ (g ∷ a ∷ opposite b ∷ c ∷ [])
    ∷ (g ∷ a ∷ b ∷ opposite c ∷ [])
    ∷ (g ∷ opposite a ∷ opposite b ∷ opposite c ∷ [])
    ∷ []

-- the literal is true where at least two of three are
abbrev pub majority_clauses : Lit → Lit → Lit → Lit → List (List Lit)
majority_clauses g a b c =
    (g ∷ opposite a ∷ opposite b ∷ [])
    ∷ (g ∷ opposite a ∷ opposite c ∷ [])
    ∷ (g ∷ opposite b ∷ opposite c ∷ [])
    ∷ (opposite g ∷ a ∷ b ∷ [])
    ∷ (opposite g ∷ a ∷ c ∷ [])
    ∷ (opposite g ∷ b ∷ c ∷ [])
    ∷ []

-- the clauses of a choice, and two that follow: branches of one value decide it
abbrev pub choice_clauses : Lit → Lit → Lit → Lit → List (List Lit)
choice_clauses g c a b = ite_clauses g c a b ++ (opposite g ∷ a ∷ b ∷ []) ∷ (g ∷ opposite a ∷ opposite b ∷ []) ∷ []

-- the clauses that define the literal as the gate
abbrev pub gate_clauses : Lit → Gate → List (List Lit)
gate_clauses g gate.Truth = (g ∷ []) ∷ []
gate_clauses g (gate.And a b) = and_clauses g a b
gate_clauses g (gate.Xor a b) = xor_clauses g a b
gate_clauses g (gate.Parity a b c) = parity_clauses g a b c
gate_clauses g (gate.Majority a b c) = majority_clauses g a b c
gate_clauses g (gate.Choice c a b) = choice_clauses g c a b

-- what the gate gives under an assignment
abbrev pub gate_value : (ℕ → Bool) → Gate → Bool
gate_value s gate.Truth = true
gate_value s (gate.And a b) = value_under s a && value_under s b
gate_value s (gate.Xor a b) = differ (value_under s a) (value_under s b)
gate_value s (gate.Parity a b c) = differ (differ (value_under s a) (value_under s b)) (value_under s c)
gate_value s (gate.Majority a b c) = majority (value_under s a) (value_under s b) (value_under s c)
gate_value s (gate.Choice c a b) = if value_under s c then value_under s a else value_under s b

-- the operands of the gate name variables below a number
abbrev pub IsOlder : ℕ → Gate → Type 0
IsOlder vars gate.Truth = Unit {0}
IsOlder vars (gate.And a b) = (a.var < vars) × (b.var < vars)
IsOlder vars (gate.Xor a b) = (a.var < vars) × (b.var < vars)
IsOlder vars (gate.Parity a b c) = (a.var < vars) × (b.var < vars) × (c.var < vars)
IsOlder vars (gate.Majority a b c) = (a.var < vars) × (b.var < vars) × (c.var < vars)
IsOlder vars (gate.Choice c a b) = (c.var < vars) × (a.var < vars) × (b.var < vars)
