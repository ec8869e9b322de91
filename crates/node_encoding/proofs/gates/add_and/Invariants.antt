use Rattle.std.proofs.Common.{◌≡◌, ◌∷◌, [], map, take}
use Rattle.clause_logic.specs.Clauses.{opposite}
use Rattle.node_encoding.specs.Gates.{adding}
use Rattle.node_encoding.proofs.gates.add_and.Given as goal

abbrev pub invariant-loop-arg : goal.invariant-loop-arg
invariant-loop-arg l = l.search ≡ adding l.initial.search (map (λ a. opposite l.gate ∷ a ∷ []) (take l.arg-index l.args))
