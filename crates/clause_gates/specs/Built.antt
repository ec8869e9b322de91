-- What callers see of a circuit, and what its gates say of its clauses.
use Rattle.std.specs.Prelude.{ℕ, ◌+◌, Bool, true, List, ◌∷◌, [], ◌++◌, ◌≡◌, ◌⊎◌, length, take, Option, Some, None, slice_get}
use Rattle.clause_logic.specs.declared.Lit.{Lit}
use Rattle.clause_logic.specs.Clauses.{Listed}
use Rattle.clause_search.specs.Content.{Content, Stacked, AllKnown}
use Rattle.clause_gates.specs.declared.defining.Gate.{Gate}
use Rattle.clause_gates.specs.Gates.{gate_clauses, IsOlder}

-- variables and clauses, the gate of each variable (none where the caller made it), the clauses that the caller gave, and whether each gate has all of its clauses
pub record Built : Type 0 where
  pub content : Content
  pub gates : List (Option Gate)
  pub given : List (List Lit)
  pub whole : Bool

-- the positive literal of a variable
abbrev pub of_var : ℕ → Lit
of_var v = record { var = v; positive = true }

-- the variable has that gate
abbrev pub HasGate : Built → ℕ → Gate → Type 0
HasGate c v g = slice_get c.gates v ≡ Some (Some g)

-- what the gates of a circuit say of its clauses
pub record IsCircuit (c : Built) : Type 0 where
  pub count : length c.gates ≡ c.content.vars
  pub known : AllKnown c.content.vars c.content.clauses
  pub older : (v : ℕ) (g : Gate) → HasGate c v g → IsOlder v g
  pub there : (k : List Lit) → Listed c.given k → Listed c.content.clauses k
  pub only : (k : List Lit) → Listed c.content.clauses k → Listed c.given k ⊎ ((v : ℕ) × (g : Gate) × HasGate c v g × Listed (gate_clauses (of_var v) g) k)
  pub all : c.whole ≡ true → (v : ℕ) (g : Gate) → HasGate c v g → (k : List Lit) → Listed (gate_clauses (of_var v) g) k → Listed c.content.clauses k

-- one more variable, of the caller's
abbrev pub with_var : Built → Built
with_var c = record { content = record { vars = c.content.vars + 1; clauses = c.content.clauses }; gates = c.gates ++ None ∷ []; given = c.given; whole = c.whole }

-- one more clause, of the caller's
abbrev pub with_clause : Built → List Lit → Built
with_clause c k = record { content = record { vars = c.content.vars; clauses = c.content.clauses ++ k ∷ [] }; gates = c.gates; given = c.given ++ k ∷ []; whole = c.whole }

-- a search with some clauses more
abbrev pub with_clauses : Stacked → List (List Lit) → Stacked
with_clauses s rows = record { content = record { vars = s.content.vars; clauses = s.content.clauses ++ rows }; saved = s.saved }

-- a search with the first of some clauses more
abbrev pub Adds : Stacked → Stacked → List (List Lit) → Type 0
Adds old new rows = (k : ℕ) × (new ≡ with_clauses old (take k rows))
