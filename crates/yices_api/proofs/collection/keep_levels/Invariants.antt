use Rattle.std.proofs.Common.{◌≡◌, ◌++◌, List, take}
use Rattle.term_shapes.specs.declared.handles.Term.{Term}
use Rattle.term_shapes.specs.declared.handles.TypeId.{TypeId}
use Rattle.term_table.specs.World.{World}
use Rattle.term_collect.specs.Marking.{Keeping}
use Rattle.context_stack.specs.Levels.{formulas}
use Rattle.yices_api.proofs.collection.keep_levels.Given as goal

-- the formulas of the first levels are kept
abbrev pub invariant-loop-level : goal.invariant-loop-level
invariant-loop-level l =
    (l.collection.table.ghost_name ≡ l.fn.collection.table.ghost_name) ×
    ((old : World) (ts : List Term) (us : List TypeId) → Keeping old l.fn.collection.table.now ts us → Keeping old l.collection.table.now (ts ++ formulas (take l.level l.context.levels)) us)
