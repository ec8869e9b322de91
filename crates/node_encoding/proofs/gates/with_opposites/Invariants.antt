use Rattle.std.proofs.Common.{◌≡◌, ◌∷◌, map, take}
use Rattle.clause_logic.specs.Clauses.{opposite}
use Rattle.node_encoding.proofs.gates.with_opposites.Given as goal

abbrev pub invariant-loop-lit : goal.invariant-loop-lit
invariant-loop-lit l = l.clause.items ≡ l.fn.first ∷ map opposite (take l.lit-index l.others)
