-- A simplex's fields as its content.
use Rattle.std.specs.Prelude.{◌≡◌, ℕ, ◌<◌, ◌≤◌, true, List, None, Some, length, get_or, map, take, Contains, if◌then◌else◌}
use Rattle.simplex_table.specs.View.{deltas}
use Rattle.simplex_bounds.specs.declared.Bound.{Bound}
use Rattle.simplex_core.specs.declared.simplex.Simplex.TheInside.{Inside}
use Rattle.simplex_core.specs.Content.{Content}
use Rattle.simplex_core.specs.Solving.{IsFound}

-- the bounds at each mark
abbrev pub saved_of : List Bound → List ℕ → List (List Bound)
saved_of bounds marks = map (λ m. take m bounds) marks

-- what contracts see
abbrev pub content_of : Inside → Content
content_of s = record {
  rows = s.tableau.rows;
  bounds = s.bounds.items;
  saved = saved_of s.bounds.items s.marks.items;
  found = if s.current then Some (deltas s.values.items) else None;
}

-- the marks rise, up to a number
pub record Rising (marks : List ℕ) (n : ℕ) : Type 0 where
  pub rise : (i j : ℕ) → i < j → j < length marks → get_or marks i 0 ≤ get_or marks j 0
  pub below : (i : ℕ) → i < length marks → get_or marks i 0 ≤ n

-- what a simplex keeps
pub record IsSimplex (s : Inside) : Type 0 where
  pub known : (b : Bound) → Contains s.bounds.items b → b.variable < length s.tableau.rows
  pub marked : Rising s.marks.items (length s.bounds.items)
  pub found : s.current ≡ true → IsFound s.tableau s.bounds.items s.values.items
