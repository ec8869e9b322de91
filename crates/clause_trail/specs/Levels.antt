-- Where literals that are false stand.
use Rattle.std.specs.Prelude.{ℕ, ◌+◌, ◌≤◌, List, ◌⊎◌, ◌≡◌, Some, slice_get}
use Rattle.clause_logic.specs.declared.Lit.{Lit}
use Rattle.clause_logic.specs.Clauses.{opposite, In}
use Rattle.clause_logic.specs.Trails.{FalseBefore}

-- one past the last place of literals that are false
pub record IsTop (order : List Lit) (start : ℕ) (lower : List Lit) (top : ℕ) : Type 0 where
  pub bound : top ≤ start
  pub before : (m : Lit) → In m lower → FalseBefore order top m
  pub highest : (top ≡ 0) ⊎ ((m : Lit) × (q : ℕ) × In m lower × (slice_get order q ≡ Some (opposite m)) × (q + 1 ≡ top))
