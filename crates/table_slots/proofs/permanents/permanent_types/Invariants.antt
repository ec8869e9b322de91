use Rattle.table_slots.specs.Nodes.{HoldsFirst}
use Rattle.table_slots.proofs.permanents.permanent_types.Given as goal

abbrev pub invariant-loop-i : goal.invariant-loop-i
invariant-loop-i l = HoldsFirst l.types l.i
