-- Derived clauses made shorter.
use Rattle.std.specs.Prelude.{ℕ, List, ◌≡◌, ◌⊎◌, Some, slice_get, length}
use Rattle.clause_logic.specs.declared.Lit.{Lit}
use Rattle.clause_logic.specs.Clauses.{opposite, In}
use Rattle.clause_logic.specs.Trails.{FalseBefore}
use Rattle.clause_trail.specs.declared.shortening.Finding.{Finding}
use Rattle.clause_trail.specs.declared.shortening.Finding.TheVariants as finding
use Rattle.clause_trail.specs.declared.shortening.Look.{Look}
use Rattle.clause_trail.specs.declared.shortening.Look.TheVariants as look

-- what is false where some literals are: they, and what a clause makes so by literals that were false before
pub data IsImplied (clauses : List Lit → Type 0) (order lits : List Lit) : Lit → Type 0 where
  given : (m : Lit) → In m lits → IsImplied clauses order lits m
  unit : (m : Lit) (place : ℕ) (reason : List Lit) → slice_get order place ≡ Some (opposite m) → clauses reason → ((x : Lit) → In x reason → (x ≡ opposite m → ⊥) → FalseBefore order place x)
      → ((x : Lit) → In x reason → (x ≡ opposite m → ⊥) → IsImplied clauses order lits x) → IsImplied clauses order lits m

-- a clause makes the literal false by others that are false before it, and are where the literals of the list are
pub record IsRedundant (clauses : List Lit → Type 0) (order lits : List Lit) (m : Lit) : Type 0 where
  pub place : ℕ
  pub there : slice_get order place ≡ Some (opposite m)
  pub reason : List Lit
  pub among : clauses reason
  pub before : (x : Lit) → In x reason → (x ≡ opposite m → ⊥) → FalseBefore order place x
  pub others : (x : Lit) → In x reason → (x ≡ opposite m → ⊥) → IsImplied clauses order lits x

-- what is found for the places of the trail: where it says so, the literal that is false there is implied
pub record AreFound (clauses : List Lit → Type 0) (order lits : List Lit) (findings : List Finding) : Type 0 where
  pub count : length findings ≡ length order
  pub implied : (p : ℕ) (l : Lit) → slice_get findings p ≡ Some finding.Implied → slice_get order p ≡ Some l → IsImplied clauses order lits (opposite l)

-- each literal is made false by the trail
abbrev pub AllFalsified : List Lit → List Lit → Type 0
AllFalsified order lits = (m : Lit) → In m lits → FalseBefore order (length order) m

-- the literal is false at a place for which it was found implied
abbrev pub HasFinding : List ℕ → List Finding → Lit → Type 0
HasFinding places findings m = (p : ℕ) × (slice_get places m.var ≡ Some p) × (slice_get findings p ≡ Some finding.Implied)

-- what a look along a clause finds, but for one variable
abbrev pub LooksAlong : List ℕ → List Finding → ℕ → List Lit → Look → Type 0
LooksAlong places findings var lits (look.Settled finding.Implied) = (m : Lit) → In m lits → (m.var ≡ var) ⊎ HasFinding places findings m
LooksAlong places findings var lits (look.Settled finding.Independent) = Unit {0}
LooksAlong places findings var lits (look.Settled finding.Unknown) = Unit {0}
LooksAlong places findings var lits (look.After x) = In x lits × (x.var ≡ var → ⊥)

-- what a look at a literal finds
abbrev pub LooksAt : (List Lit → Type 0) → List Lit → List Lit → Lit → Look → Type 0
LooksAt clauses order lits m (look.Settled finding.Implied) = IsRedundant clauses order lits m
LooksAt clauses order lits m (look.Settled finding.Independent) = Unit {0}
LooksAt clauses order lits m (look.Settled finding.Unknown) = Unit {0}
LooksAt clauses order lits m (look.After x) = FalseBefore order (length order) x

-- only redundant literals are left out
pub record Shortens (clauses : List Lit → Type 0) (order lits kept : List Lit) : Type 0 where
  pub among : (m : Lit) → In m kept → In m lits
  pub each : (m : Lit) → In m lits → In m kept ⊎ IsRedundant clauses order lits m
