use Rattle.std.proofs.Common.{◌≡◌, take}
use Rattle.node_encoding.specs.Gates.{Differ}
use Rattle.node_encoding.proofs.encoding.are_different.Given as goal

abbrev pub invariant-loop-arg : goal.invariant-loop-arg
invariant-loop-arg l = (l.seen.keys ≡ take l.arg-index l.args) × Differ (take l.arg-index l.args)
