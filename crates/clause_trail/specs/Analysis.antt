-- A conflict, what analysis marks, and what it derives.
use Rattle.std.specs.Prelude.{ℕ, suc, ◌+◌, ◌<◌, ◌≤◌, Bool, true, false, List, [], ◌∷◌, ◌++◌, ◌⊎◌, ◌≡◌, Option, Some, None, slice_get, slice_set, length}
use Rattle.clause_logic.specs.declared.Lit.{Lit}
use Rattle.clause_logic.specs.Clauses.{opposite, In, Makes, Models, Listed}
use Rattle.clause_logic.specs.Trails.{IsPlaced, FalseBefore, MakesAll, EachOnce}
use Rattle.clause_trail.specs.declared.analysis.Marks.{Marks}

-- how many are true
abbrev pub trues : List Bool → ℕ
trues [] = 0
trues (true ∷ bs) = suc (trues bs)
trues (false ∷ bs) = trues bs

-- the literal at place p is made true by a clause whose other literals are false before it
abbrev pub HasReason : List Lit → List (Option ℕ) → List (List Lit) → ℕ → Lit → Type 0
HasReason order reasons clauses p l =
    (r : ℕ) × (c : List Lit) × (slice_get reasons l.var ≡ Some (Some r)) × (slice_get clauses r ≡ Some c) × ((m : Lit) → In m c → (m ≡ l) ⊎ FalseBefore order p m)

-- each literal after place start has a reason
pub record Ready (order : List Lit) (places : List ℕ) (reasons : List (Option ℕ)) (clauses : List (List Lit)) (start : ℕ) : Type 0 where
  pub placed : IsPlaced order places
  pub reason : (p : ℕ) (l : Lit) → start < p → slice_get order p ≡ Some l → HasReason order reasons clauses p l

-- a trail whose literals have a reason, or are assumptions
pub record Rooted (order : List Lit) (places : List ℕ) (reasons : List (Option ℕ)) (clauses : List (List Lit)) (assumed : List Lit) : Type 0 where
  pub placed : IsPlaced order places
  pub cause : (p : ℕ) (l : Lit) → slice_get order p ≡ Some l → HasReason order reasons clauses p l ⊎ ((slice_get reasons l.var ≡ Some None) × In l assumed)

pub record MarkLists : Type 0 where
  pub waiting : List Bool
  pub kept : List Bool
  pub lower : List Lit
  pub count : ℕ

-- one literal marked
abbrev pub MarksOne : ℕ → ℕ → Lit → MarkLists → MarkLists → Type 0
MarksOne start place lit old new =
    ((start ≤ place) × (slice_get old.waiting place ≡ Some true) × (new ≡ old))
    ⊎ ((start ≤ place) × (slice_get old.waiting place ≡ Some false) × (new ≡ record old { waiting = slice_set old.waiting place true; count = old.count + 1 }))
    ⊎ ((place < start) × (slice_get old.kept place ≡ Some true) × (new ≡ old))
    ⊎ ((place < start) × (slice_get old.kept place ≡ Some false) × (new ≡ record old { kept = slice_set old.kept place true; lower = old.lower ++ lit ∷ [] }))

-- what the marks keep: all is below bound
pub record Marked (order : List Lit) (start bound : ℕ) (m : MarkLists) : Type 0 where
  pub waiting_length : length m.waiting ≡ length order
  pub kept_length : length m.kept ≡ length order
  pub counted : m.count ≡ trues m.waiting
  pub within : (p : ℕ) → slice_get m.waiting p ≡ Some true → (start ≤ p) × (p < bound)
  pub lower_false : (l : Lit) → In l m.lower → FalseBefore order start l
  pub kept_there : (p : ℕ) (l : Lit) → slice_get m.kept p ≡ Some true → slice_get order p ≡ Some l → In (opposite l) m.lower

-- the literal is marked
abbrev pub IsMarked : List Lit → MarkLists → Lit → Type 0
IsMarked order m l = In l m.lower ⊎ ((p : ℕ) × (slice_get order p ≡ Some (opposite l)) × (slice_get m.waiting p ≡ Some true))

-- what was marked stays so
pub record Grows (old new : MarkLists) : Type 0 where
  pub waiting : (p : ℕ) → slice_get old.waiting p ≡ Some true → slice_get new.waiting p ≡ Some true
  pub lower : (l : Lit) → In l old.lower → In l new.lower

-- all literals of a clause marked, but the one at bound
pub record Covers (order : List Lit) (places : List ℕ) (start bound : ℕ) (lits : List Lit) (old new : MarkLists) : Type 0 where
  pub marked : Marked order start bound new
  pub grows : Grows old new
  pub has : (m : Lit) → In m lits → (slice_get places m.var ≡ Some bound) ⊎ IsMarked order new m

-- the assignment makes the marked literals false
abbrev pub Agrees : (ℕ → Bool) → List Lit → MarkLists → Type 0
Agrees s order m =
    ((l : Lit) → In l m.lower → Makes s (opposite l))
    × ((p : ℕ) (l : Lit) → slice_get m.waiting p ≡ Some true → slice_get order p ≡ Some l → Makes s l)

-- no model of the clauses does
abbrev pub Refuted : (List Lit → Type 0) → List Lit → MarkLists → Type 0
Refuted clauses order m = (s : ℕ → Bool) → Models s clauses → Agrees s order m → ⊥

-- one literal of the conflict's level resolved with its reason
pub record Resolves (order : List Lit) (start place : ℕ) (clauses : List (List Lit)) (old new : MarkLists) : Type 0 where
  pub marked : Marked order start place new
  pub some : 0 < new.count
  pub keeps : (s : ℕ → Bool) → Models s (Listed clauses) → Agrees s order new → Agrees s order old

-- one waiting literal explained by its reason, or put into the core
pub record Explains (order : List Lit) (place : ℕ) (clauses : List (List Lit)) (assumed : List Lit) (old new : MarkLists) (core grown : List Lit) : Type 0 where
  pub marked : Marked order 0 place new
  pub keeps : (s : ℕ → Bool) → Models s (Listed clauses) → MakesAll s grown → Agrees s order new → Agrees s order old × MakesAll s core
  pub more : (grown ≡ core) ⊎ ((l : Lit) × (slice_get order place ≡ Some l) × In l assumed × (grown ≡ core ++ l ∷ []))

-- a core as far as the walk has come
pub record CoreSoFar (order : List Lit) (bound : ℕ) (clauses : List (List Lit)) (assumed lits : List Lit) (m : MarkLists) (core : List Lit) : Type 0 where
  pub marked : Marked order 0 bound m
  pub short : bound ≤ length order
  pub assumptions : (l : Lit) → In l core → In l assumed
  pub once : EachOnce core
  pub behind : (l : Lit) → In l core → (q : ℕ) × (bound ≤ q) × (slice_get order q ≡ Some l)
  pub refutes : (s : ℕ → Bool) → Models s (Listed clauses) → MakesAll s core → Agrees s order m → (l : Lit) → In l lits → Makes s (opposite l)

-- marks as plain lists
abbrev pub marks_of : Marks → MarkLists
marks_of m = record { waiting = m.waiting.items; kept = m.kept.items; lower = m.lower.items; count = m.count }
