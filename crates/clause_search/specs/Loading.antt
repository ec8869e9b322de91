-- A state made of the added clauses.
use Rattle.std.specs.Prelude.{ℕ, Bool, List, [], ◌≡◌, length}
use Rattle.clause_logic.specs.declared.Lit.{Lit}
use Rattle.clause_logic.specs.Clauses.{Models, Listed}
use Rattle.clause_trail.specs.View.{Lists, lists_of, Sound}
use Rattle.clause_search.specs.declared.loading.Loaded.{Loaded}
use Rattle.clause_search.specs.declared.loading.Loaded.TheVariants as loaded

-- a state at the root, with these variables and clauses
pub record IsRoot (t : Lists) (count : ℕ) (added : List (List Lit)) : Type 0 where
  pub sound : Sound t
  pub starts : t.starts ≡ []
  pub vars : length t.values ≡ count
  pub clauses : t.clauses ≡ added

-- no assignment makes all clauses true
abbrev pub Impossible : List (List Lit) → Type 0
Impossible added = (s : ℕ → Bool) → Models s (Listed added) → ⊥

-- what loading comes to
abbrev pub Loads : ℕ → List (List Lit) → Loaded → Type 0
Loads vars added (loaded.Ready state) = IsRoot (lists_of state) vars added
Loads vars added loaded.Refuted = Impossible added
