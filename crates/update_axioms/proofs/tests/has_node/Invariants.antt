use Rattle.std.proofs.Common.{◌≡◌, drop}
use Rattle.update_axioms.specs.Shown.{found}
use Rattle.update_axioms.proofs.tests.has_node.Given as goal

abbrev pub invariant-loop-item : goal.invariant-loop-item
invariant-loop-item g l = found l.items l.node ≡ found (drop l.item-index l.items) l.node
