use Rattle.std.proofs.Common.{◌≡◌, take}
use Rattle.term_checks.specs.Building.{valued}
use Rattle.term_checks.proofs.building.values_of.Given as goal

abbrev pub invariant-loop-node : goal.invariant-loop-node
invariant-loop-node l = l.found ≡ valued l.order (take l.node-index l.values)
