-- How a search keeps its content.
use Rattle.std.specs.Prelude.{ℕ, ◌≤◌, List, ◌≡◌, Some, slice_get, length, map, take}
use Rattle.clause_logic.specs.declared.Lit.{Lit}
use Rattle.clause_search.specs.declared.search.Mark.{Mark}
use Rattle.clause_search.specs.declared.search.Search.TheInside.{Inside}
use Rattle.clause_search.specs.Content.{Content, Stacked, AllKnown}

-- the content at a mark
abbrev pub saved_at : List (List Lit) → Mark → Content
saved_at clauses m = record { vars = m.vars; clauses = take m.clauses clauses }

-- what contracts see of a search
abbrev pub stacked_of : Inside → Stacked
stacked_of s = record { content = record { vars = length s.phases.items; clauses = s.clauses.items }; saved = map (saved_at s.clauses.items) s.marks.items }

-- the marks rise, each to a content whose clauses name variables of it
pub record IsLaidOut (vars : ℕ) (clauses : List (List Lit)) (marks : List Mark) : Type 0 where
  pub known : AllKnown vars clauses
  pub vars_below : (i : ℕ) (m : Mark) → slice_get marks i ≡ Some m → m.vars ≤ vars
  pub clauses_below : (i : ℕ) (m : Mark) → slice_get marks i ≡ Some m → m.clauses ≤ length clauses
  pub known_at : (i : ℕ) (m : Mark) → slice_get marks i ≡ Some m → AllKnown m.vars (take m.clauses clauses)
  pub vars_rise : (i j : ℕ) (m n : Mark) → i ≤ j → slice_get marks i ≡ Some m → slice_get marks j ≡ Some n → m.vars ≤ n.vars
  pub clauses_rise : (i j : ℕ) (m n : Mark) → i ≤ j → slice_get marks i ≡ Some m → slice_get marks j ≡ Some n → m.clauses ≤ n.clauses

-- what a search keeps
abbrev pub IsSearch : Inside → Type 0
IsSearch s = IsLaidOut (length s.phases.items) s.clauses.items s.marks.items
