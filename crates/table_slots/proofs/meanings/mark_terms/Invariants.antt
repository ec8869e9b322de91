use Rattle.std.proofs.Common.{◌≡◌, take}
use Rattle.table_slots.specs.Nodes.{meant_terms, meant_marked}
use Rattle.table_slots.proofs.meanings.mark_terms.Given as goal

-- what the names before mean is marked
abbrev pub invariant-loop-place : goal.invariant-loop-place
invariant-loop-place l = l.terms ≡ meant_marked (take l.place (meant_terms l.names)) l.initial.terms
