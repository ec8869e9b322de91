use Rattle.term_shapes.specs.Shapes.{parts_of}
use Rattle.term_shapes.specs.declared.shapes.TypeShape.{TypeShape}
use Rattle.term_table.specs.World.{HasTypeShape}
use Rattle.term_collect.specs.Marking.{Marks, IsTypeBelow}
use Rattle.term_collect.proofs.walking.mark_parts.Given as goal

abbrev pub invariant-loop-place : goal.invariant-loop-place
invariant-loop-place l = (s : TypeShape) → HasTypeShape l.fn.table l.t s → Marks l.fn.table l.table (IsTypeBelow (parts_of s) l.place)
