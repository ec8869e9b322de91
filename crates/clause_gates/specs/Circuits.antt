-- What a call does to a circuit.
use Rattle.std.specs.Prelude.{ℕ, ◌+◌, ◌<◌, ◌≤◌, Bool, true, List, ◌++◌, ◌≡◌, map, Some}
use Rattle.clause_logic.specs.declared.Lit.{Lit}
use Rattle.clause_logic.specs.Clauses.{In, Models, Listed}
use Rattle.clause_search.specs.Content.{Content, AllKnown}
use Rattle.clause_gates.specs.declared.defining.Gate.{Gate}
use Rattle.clause_gates.specs.Bits.{value_under}
use Rattle.clause_gates.specs.Built.{Built}

-- the assignment makes all clauses true
abbrev pub Satisfies : (ℕ → Bool) → Content → Type 0
Satisfies s c = Models s (Listed c.clauses)

-- the two assignments are one on the first n variables
abbrev pub Agree : ℕ → (ℕ → Bool) → (ℕ → Bool) → Type 0
Agree n s t = (v : ℕ) → v < n → s v ≡ t v

-- an assignment that agrees with another on the old variables, and makes all new clauses true
pub record Extension (s : ℕ → Bool) (old new : Content) : Type 0 where
  pub extended : ℕ → Bool
  pub agrees : Agree old.vars s extended
  pub satisfies : Satisfies extended new

-- so many gates at most came in, with clauses: what was there stays, and each assignment that made the old clauses true extends
pub record Grows (old new : Built) (most : ℕ) : Type 0 where
  pub added : List (List Lit)
  pub clauses : new.content.clauses ≡ old.content.clauses ++ added
  pub made : List Gate
  pub gates : new.gates ≡ old.gates ++ map Some made
  pub given : new.given ≡ old.given
  pub vars : old.content.vars ≤ new.content.vars
  pub few : new.content.vars ≤ old.content.vars + most
  pub extends : (s : ℕ → Bool) → Satisfies s old.content → Extension s old.content new.content

-- in each assignment that makes all clauses true, the literal has the value of that function
pub record Computes (c : Content) (l : Lit) (f : (ℕ → Bool) → Bool) : Type 0 where
  pub known : l.var < c.vars
  pub is : (s : ℕ → Bool) → Satisfies s c → value_under s l ≡ f s

-- the literal is always true
abbrev pub IsTruth : Content → Lit → Type 0
IsTruth c l = Computes c l (λ s. true)

-- the literals name variables that there are
abbrev pub AllBelow : ℕ → List Lit → Type 0
AllBelow vars ls = (l : Lit) → In l ls → l.var < vars

-- clauses that define a new variable as a function of the old ones
pub record IsGate (vars : ℕ) (f : (ℕ → Bool) → Bool) (rows : List (List Lit)) : Type 0 where
  pub stable : (s t : ℕ → Bool) → Agree vars s t → f s ≡ f t
  pub known : AllKnown (vars + 1) rows
  pub sound : (s : ℕ → Bool) → s vars ≡ f s → Models s (Listed rows)
  pub exact : (s : ℕ → Bool) → Models s (Listed rows) → s vars ≡ f s
