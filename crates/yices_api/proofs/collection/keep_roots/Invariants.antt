use Rattle.std.proofs.Common.{◌≡◌, ◌++◌, List, take}
use Rattle.term_shapes.specs.declared.handles.Term.{Term}
use Rattle.term_shapes.specs.declared.handles.TypeId.{TypeId}
use Rattle.term_table.specs.World.{World}
use Rattle.term_collect.specs.Marking.{Keeping}
use Rattle.yices_api.specs.Calls.{listed_terms, listed_types}
use Rattle.yices_api.proofs.collection.keep_roots.Given as goal

-- the first handles are kept
abbrev pub invariant-loop-root : goal.invariant-loop-root
invariant-loop-root l =
    (l.collection.table.ghost_name ≡ l.fn.collection.table.ghost_name) ×
    ((old : World) (ts : List Term) (us : List TypeId) → Keeping old l.fn.collection.table.now ts us → Keeping old l.collection.table.now (ts ++ listed_terms (take l.root-index l.roots)) (us ++ listed_types (take l.root-index l.roots)))
