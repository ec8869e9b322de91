-- The laws of growth and of gates, as contracts name them.
use Rattle.std.specs.Prelude.{ℕ, ◌+◌, ◌<◌, ◌≤◌, Bool, true, List, [], ◌∷◌, ◌++◌, ◌≡◌}
use Rattle.clause_logic.specs.declared.Lit.{Lit}
use Rattle.clause_logic.specs.Clauses.{Models, Listed, New, Known}
use Rattle.clause_search.specs.Content.{Content, AllKnown}
use Rattle.clause_gates.specs.declared.defining.Gate.{Gate}
use Rattle.clause_gates.specs.Defining.{xor_clauses, ite_clauses}
use Rattle.clause_gates.specs.Gates.{gate_value, majority_clauses}
use Rattle.clause_gates.specs.Built.{Built, IsCircuit, HasGate, of_var}
use Rattle.clause_gates.specs.Circuits.{Satisfies, Grows, Computes, IsTruth, AllBelow}

-- variables and clauses may have come in
pub record Later (old new : Content) : Type 0 where
  pub added : List (List Lit)
  pub clauses : new.clauses ≡ old.clauses ++ added
  pub vars : old.vars ≤ new.vars

-- two growths are one
abbrev pub GrowthComposes : Type 0
GrowthComposes = (a b c : Built) (m n : ℕ) → Grows a b m → Grows b c n → Grows a c (m + n)

-- where a circuit grows, variables and clauses come in
abbrev pub GrowthIsLater : Type 0
GrowthIsLater = (a b : Built) (n : ℕ) → Grows a b n → Later a.content b.content

-- an assignment that makes all clauses true made the old ones true
abbrev pub ModelsStay : Type 0
ModelsStay = (a b : Content) (s : ℕ → Bool) → Later a b → Satisfies s b → Satisfies s a

-- what a literal computes stays
abbrev pub BitsStay : Type 0
BitsStay = (a b : Content) (l : Lit) (f : (ℕ → Bool) → Bool) → Later a b → Computes a l f → Computes b l f

-- a literal of a clause with no other is always true
abbrev pub UnitIsTrue : Type 0
UnitIsTrue = (c : Content) (l : Lit) → l.var < c.vars → Listed c.clauses (l ∷ []) → IsTruth c l

-- each variable with a gate has the value that the gate gives
abbrev pub GatesHold : Type 0
GatesHold = (c : Built) (s : ℕ → Bool) (v : ℕ) (g : Gate) → IsCircuit c → c.whole ≡ true → Satisfies s c.content → HasGate c v g → s v ≡ gate_value s g

-- where the gates hold, and the clauses that the caller gave, all clauses are true
abbrev pub GatesSuffice : Type 0
GatesSuffice = (c : Built) (s : ℕ → Bool) → IsCircuit c → Models s (Listed c.given) → ((v : ℕ) (g : Gate) → HasGate c v g → s v ≡ gate_value s g) → Satisfies s c.content

-- a clause that is new over the clauses of a majority is new over those of its name as well: a choice by a new variable, the exclusive or of two operands
abbrev pub MajorityIsNamed : Type 0
MajorityIsNamed =
    (x : ℕ) (clauses earlier : List (List Lit)) (assumed c : List Lit) (g a b d : Lit) → AllKnown x clauses → AllKnown x earlier → AllBelow x assumed → AllBelow x c
    → ((k : List Lit) → Listed (majority_clauses g a b d) k → Listed clauses k)
    → New (Known (Listed clauses) assumed earlier) c
    → New (Known (Listed (clauses ++ (xor_clauses (of_var x) a b ++ ite_clauses g (of_var x) d a))) assumed earlier) c
