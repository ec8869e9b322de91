use Rattle.std.proofs.Common.{◌≡◌, take}
use Rattle.table_slots.specs.Nodes.{meant_types, meant_marked}
use Rattle.table_slots.proofs.meanings.mark_types.Given as goal

-- what the names before mean is marked
abbrev pub invariant-loop-place : goal.invariant-loop-place
invariant-loop-place l = l.types ≡ meant_marked (take l.place (meant_types l.names)) l.initial.types
