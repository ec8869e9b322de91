-- The formulas of a context level by level.
use Rattle.std.specs.Prelude.{ℕ, ◌≤◌, List, [], ◌∷◌, ◌++◌, length, take, drop, reverse}
use Rattle.term_shapes.specs.declared.handles.Term.{Term}

-- the levels from the bottom one, where the marks say how many formulas there were as each level was opened, the newest first
abbrev pub levels_in : List Term → List ℕ → List (List Term)
levels_in ts [] = ts ∷ []
levels_in ts (m ∷ ms) = levels_in (take m ts) ms ++ drop m ts ∷ []

-- the marks fall, from at most n on
abbrev pub AreMarks : List ℕ → ℕ → Type 0
AreMarks [] n = Unit {0}
AreMarks (m ∷ ms) n = (m ≤ n) × AreMarks ms m

-- the marks, oldest first, are those of so many formulas, and no more than there may be levels
pub record IsStack (marks : List ℕ) (formulas : List Term) : Type 0 where
  pub fall : AreMarks (reverse marks) (length formulas)
  pub few : length marks ≤ 65536

-- all formulas, from the bottom level to the newest
abbrev pub formulas : List (List Term) → List Term
formulas [] = []
formulas (ts ∷ ls) = ts ++ formulas ls
