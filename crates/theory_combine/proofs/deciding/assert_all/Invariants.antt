use Rattle.std.proofs.Common.{◌≡◌, take}
use Rattle.node_encoding.specs.Gates.{adding, unit_clauses}
use Rattle.theory_combine.proofs.deciding.assert_all.Given as goal

abbrev pub invariant-loop-lit : goal.invariant-loop-lit
invariant-loop-lit l = l.search ≡ adding l.initial.search (unit_clauses (take l.lit-index l.lits))
