-- Trails: the literals that are true, in the order in which they became so, and what a conflict on one gives.
use Rattle.std.specs.Prelude.{ℕ, ◌<◌, ◌≤◌, List, [], ◌∷◌, ◌++◌, ◌≡◌, Bool, Some, slice_get, length}
use Rattle.clause_logic.specs.declared.Lit.{Lit}
use Rattle.clause_logic.specs.Clauses.{opposite, In, Makes, Models, Follows}

-- each literal of the trail is found by its variable
abbrev pub IsPlaced : List Lit → List ℕ → Type 0
IsPlaced order places = (p : ℕ) (l : Lit) → slice_get order p ≡ Some l → slice_get places l.var ≡ Some p

-- made false by a literal before place p
abbrev pub FalseBefore : List Lit → ℕ → Lit → Type 0
FalseBefore order p m = (q : ℕ) × (q < p) × (slice_get order q ≡ Some (opposite m))

-- what the first n literals of the trail make true
abbrev pub Prefix : List Lit → ℕ → Lit → Type 0
Prefix order n x = (q : ℕ) × (q < n) × (slice_get order q ≡ Some x)

-- the clause that analysis gives: literals that are false before place start, and one that became false from there on, the last
abbrev pub Learned : (List Lit → Type 0) → List Lit → ℕ → List Lit → Type 0
Learned clauses order start c =
    (lower : List Lit) × (l : Lit) × (c ≡ lower ++ l ∷ []) × Follows clauses c
    × ((m : Lit) → In m lower → FalseBefore order start m)
    × ((p : ℕ) × (start ≤ p) × (slice_get order p ≡ Some (opposite l)))

-- the assignment makes each of some literals true
abbrev pub MakesAll : (ℕ → Bool) → List Lit → Type 0
MakesAll s ls = (l : Lit) → In l ls → Makes s l

-- each literal stands in the list once
abbrev pub EachOnce : List Lit → Type 0
EachOnce ls = (i j : ℕ) (l : Lit) → slice_get ls i ≡ Some l → slice_get ls j ≡ Some l → i ≡ j

-- assumptions, each once, that with the clauses make the literals false
pub record IsCore (clauses : List Lit → Type 0) (order assumed lits core : List Lit) : Type 0 where
  pub standing : (l : Lit) → In l core → Prefix order (length order) l
  pub assumptions : (l : Lit) → In l core → In l assumed
  pub once : EachOnce core
  pub refutes : (s : ℕ → Bool) → Models s clauses → MakesAll s core → (m : Lit) → In m lits → Makes s (opposite m)
