-- What clauses mean, unit propagation over them, and records of learned clauses.
use Rattle.std.specs.Prelude.{ℕ, ◌<◌, Bool, not, List, [], ◌∷◌, ◌⊎◌, ◌≡◌, ◌↔◌, Some, slice_get, take}
use Rattle.clause_logic.specs.declared.Lit.{Lit}

-- the negation of a literal
abbrev pub opposite : Lit → Lit
opposite l = record { var = l.var; positive = not l.positive }

-- the literal stands in the clause
abbrev pub In : Lit → List Lit → Type 0
In l [] = ⊥
In l (x ∷ xs) = (x ≡ l) ⊎ In l xs

-- the assignment makes the literal true
abbrev pub Makes : (ℕ → Bool) → Lit → Type 0
Makes s l = s l.var ≡ l.positive

-- the assignment makes the clause true
abbrev pub Holds : (ℕ → Bool) → List Lit → Type 0
Holds s c = (l : Lit) × In l c × Makes s l

-- each clause of a set is true
abbrev pub Models : (ℕ → Bool) → (List Lit → Type 0) → Type 0
Models s clauses = (c : List Lit) → clauses c → Holds s c

-- the clause follows from a set of clauses
abbrev pub Follows : (List Lit → Type 0) → List Lit → Type 0
Follows clauses c = (s : ℕ → Bool) → Models s clauses → Holds s c

-- the clauses of either of two sets
abbrev pub Both : (List Lit → Type 0) → (List Lit → Type 0) → List Lit → Type 0
Both a b c = a c ⊎ b c

-- the clauses of a list
abbrev pub Listed : List (List Lit) → List Lit → Type 0
Listed cs c = (i : ℕ) × (slice_get cs i ≡ Some c)

-- each assumption as a clause
abbrev pub Units : List Lit → List Lit → Type 0
Units assumed c = (a : Lit) × In a assumed × (c ≡ a ∷ [])

-- what unit propagation over the clauses makes true, begun with some literals
pub data Reached (clauses : List Lit → Type 0) (start : Lit → Type 0) : Lit → Type 0 where
  given : (l : Lit) → start l → Reached clauses start l
  unit : (c : List Lit) (l : Lit) → clauses c → In l c → ((m : Lit) → In m c → (m ≡ l → ⊥) → Reached clauses start (opposite m)) → Reached clauses start l

-- unit propagation meets a contradiction
abbrev pub Clash : (List Lit → Type 0) → (Lit → Type 0) → Type 0
Clash clauses start =
    ((l : Lit) × Reached clauses start l × Reached clauses start (opposite l))
    ⊎ ((c : List Lit) × clauses c × ((m : Lit) → In m c → Reached clauses start (opposite m)))

-- the opposites of the other literals
abbrev pub Others : List Lit → Lit → Lit → Type 0
Others c l m = (x : Lit) × In x c × (x ≡ l → ⊥) × (m ≡ opposite x)

-- the clause says more than unit propagation over the clauses does
abbrev pub New : (List Lit → Type 0) → List Lit → Type 0
New clauses c =
    (l : Lit) × In l c × (Clash clauses (Others c l) → ⊥) × (Reached clauses (Others c l) l → ⊥) × (Reached clauses (Others c l) (opposite l) → ⊥)

-- under a set of true literals the clause is true, or two of its literals are not false
abbrev pub Quiet : (Lit → Type 0) → List Lit → Type 0
Quiet truths c =
    ((l : Lit) × In l c × truths l)
    ⊎ ((a : Lit) × (b : Lit) × In a c × In b c × (a ≡ b → ⊥) × (truths (opposite a) → ⊥) × (truths (opposite b) → ⊥))

-- unit propagation has nothing left to do
abbrev pub Complete : (Lit → Type 0) → (List Lit → Type 0) → Type 0
Complete truths clauses = (c : List Lit) → clauses c → Quiet truths c

-- the same literals
abbrev pub Same : List Lit → List Lit → Type 0
Same c d = (l : Lit) → In l c ↔ In l d

-- over what the clause number i of a record is new
abbrev pub Known : (List Lit → Type 0) → List Lit → List (List Lit) → List Lit → Type 0
Known added assumed earlier = Both (Both added (Units assumed)) (Listed earlier)

-- clauses that follow, none with a literal and its opposite, no two with the same literals
pub record IsDerived (added stands : List Lit → Type 0) (cs : List (List Lit)) : Type 0 where
  pub plain : (i : ℕ) (c : List Lit) (l : Lit) → slice_get cs i ≡ Some c → In l c → In (opposite l) c → ⊥
  pub different : (i j : ℕ) (c d : List Lit) → i < j → slice_get cs i ≡ Some c → slice_get cs j ≡ Some d → Same c d → ⊥
  pub follows : (i : ℕ) (c : List Lit) → slice_get cs i ≡ Some c → Follows (Both added stands) c

-- a record of learned clauses, the oldest first
pub record IsRecord (added stands : List Lit → Type 0) (assumed : List Lit) (cs : List (List Lit)) : Type 0 where
  pub nonempty : (i : ℕ) → slice_get cs i ≡ Some [] → ⊥
  pub plain : (i : ℕ) (c : List Lit) (l : Lit) → slice_get cs i ≡ Some c → In l c → In (opposite l) c → ⊥
  pub different : (i j : ℕ) (c d : List Lit) → i < j → slice_get cs i ≡ Some c → slice_get cs j ≡ Some d → Same c d → ⊥
  pub follows : (i : ℕ) (c : List Lit) → slice_get cs i ≡ Some c → Follows (Both added stands) c
  pub new : (i : ℕ) (c : List Lit) → slice_get cs i ≡ Some c → New (Known added assumed (take i cs)) c
