use Rattle.std.proofs.Common.{◌≡◌, take}
use Rattle.yices_session.proofs.FoundModels.{as_values}
use Rattle.yices_session.proofs.session.checking.model_of.Given as goal

-- the values so far
abbrev pub invariant-loop-entry : goal.invariant-loop-entry
invariant-loop-entry l = l.items ≡ as_values (take l.entry-index l.values)
