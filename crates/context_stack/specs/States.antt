-- What contracts see of a context: its levels, what the newest check found, and its core.
use Rattle.std.specs.Prelude.{◌≡◌, List, [], ◌++◌, Option, Some, None}
use Rattle.term_shapes.specs.declared.handles.Term.{Term}
use Rattle.context_stack.specs.declared.errors.Status.{Status}
use Rattle.context_stack.specs.declared.errors.Status.TheVariants as status
use Rattle.context_stack.specs.Levels.{formulas}

-- the formulas level by level, from the bottom one; what the newest check found of them, where nothing has changed since; assumptions that can't be true with them, where it was asked with some and found those
pub record ContextState : Type 0 where
  pub levels : List (List Term)
  pub status : Status
  pub core : Option (List Term)

-- nothing is known of the formulas
pub record IsUnchecked (c : ContextState) : Type 0 where
  pub status : c.status ≡ status.Idle
  pub core : c.core ≡ None

-- the terms of the core, where there is one
abbrev pub core_terms : Option (List Term) → List Term
core_terms None = []
core_terms (Some ts) = ts

-- all terms that a context holds: its formulas, and its core
abbrev pub held_terms : ContextState → List Term
held_terms c = formulas c.levels ++ core_terms c.core
