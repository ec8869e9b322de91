use Rattle.std.proofs.Common.{◌≡◌}
use Rattle.yices_api.specs.State.{terms_of_contexts}
use Rattle.yices_api.proofs.Rooting.{KeptSome}
use Rattle.yices_api.proofs.collection.keep_contexts.Given as goal

-- the formulas of the contexts before are kept
abbrev pub invariant-loop-held : goal.invariant-loop-held
invariant-loop-held l =
    (goal.iterator-loop-held).can_next l.held-iterator ×
    (goal.iterator-loop-held).is_finite l.held-iterator ×
    (l.collection.table.ghost_name ≡ l.fn.collection.table.ghost_name) ×
    KeptSome l.fn.collection.table.now l.collection.table.now l.held-iterator (terms_of_contexts l.contexts.slots)
