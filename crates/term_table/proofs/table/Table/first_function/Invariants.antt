use Rattle.std.proofs.Common.{◌≡◌, ◌<◌, ◌++◌, ◌∷◌, [], ℕ, Some}
use Rattle.std.specs.Prelude.{slice_get}
use Rattle.term_shapes.specs.declared.handles.TypeId.{TypeId}
use Rattle.term_table.specs.Functions.{IsFunctionType}
use Rattle.term_table.proofs.table.Table.first_function.Given as goal

-- none of the types before
abbrev pub invariant-loop-place : goal.invariant-loop-place
invariant-loop-place l = (j : ℕ) (x : TypeId) → j < l.place → slice_get (l.arguments ++ l.value ∷ []) j ≡ Some x → IsFunctionType l.self x → ⊥
