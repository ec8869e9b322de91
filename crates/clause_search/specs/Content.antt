-- What callers see of a search.
use Rattle.std.specs.Prelude.{ℕ, ◌<◌, List, ◌≡◌, Some, slice_get}
use Rattle.clause_logic.specs.declared.Lit.{Lit}
use Rattle.clause_logic.specs.Clauses.{In}

-- the number of variables, and the added clauses, the oldest first
pub record Content : Type 0 where
  pub vars : ℕ
  pub clauses : List (List Lit)

-- the content, and what it was at each `push` that is in force, the oldest first
pub record Stacked : Type 0 where
  pub content : Content
  pub saved : List Content

-- the literals of the clauses name variables that exist
abbrev pub AllKnown : ℕ → List (List Lit) → Type 0
AllKnown vars clauses = (c : ℕ) (lits : List Lit) (l : Lit) → slice_get clauses c ≡ Some lits → In l lits → l.var < vars
