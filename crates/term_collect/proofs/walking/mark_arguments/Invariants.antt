use Rattle.term_shapes.specs.Shapes.{args_of}
use Rattle.term_shapes.specs.declared.shapes.Node.{Node}
use Rattle.term_table.specs.World.{HasNode}
use Rattle.term_collect.specs.Marking.{Marks, IsTermBelow}
use Rattle.term_collect.proofs.walking.mark_arguments.Given as goal

abbrev pub invariant-loop-place : goal.invariant-loop-place
invariant-loop-place l = (n : Node) → HasNode l.fn.table l.t n → Marks l.fn.table l.table (IsTermBelow (args_of n.shape) l.place)
