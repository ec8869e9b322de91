use Rattle.std.proofs.Common.{◌≡◌, take, map}
use Rattle.term_build.specs.Building.{literal_at}
use Rattle.term_build.proofs.literals.literals_of.Given as goal

abbrev pub invariant-loop-t : goal.invariant-loop-t
invariant-loop-t l = l.list.items ≡ map (literal_at l.table) (take l.t-index l.arguments)
