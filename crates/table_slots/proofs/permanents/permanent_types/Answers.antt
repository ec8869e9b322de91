use Rattle.std.proofs.Common.{◌∙◌, ap, ◌++◌, ◌∷◌, []}
use Rattle.stamped_slots.specs.Slots.{fresh}
use Rattle.stamped_slots.specs.Regular.{IsAbsent}
use Rattle.std.proofs.Common.{subst, sym}
use Rattle.term_shapes.specs.contracts.shapes.TypeShapePartialEq.TheImpl as impl
use Rattle.table_slots.specs.Nodes.{HoldsFirst}
use Rattle.table_slots.proofs.Pushing.{absent_next, all_live, holds_more, holds_none}
use Rattle.table_slots.proofs.permanents.permanent_types.Goals as goal

pub push_type-requires-clause-absent : goal.push_type-requires-clause-absent
push_type-requires-clause-absent c =
    subst (IsAbsent impl.ghosts.eq c.loop-i.types) (sym c.permanent.ensures) (absent_next c.loop-i.types c.loop-i.i c.loop-i.invariant impl.ghosts.eq c.type_equality.ensures)

pub push_type-requires-clause-live : goal.push_type-requires-clause-live
push_type-requires-clause-live c = all_live c.loop-i.types c.loop-i.i c.loop-i.invariant

pub loop-i-init : goal.loop-i-init
loop-i-init c = subst (λ w. HoldsFirst w 0) (sym c.new-types.ensures) holds_none

pub loop-i-preserved : goal.loop-i-preserved
loop-i-preserved c =
    holds_more c.loop-i.types c.loop-i.i c.loop-i.invariant _ (c.in_ok-push_type.ensures ∙ ap (λ s. c.loop-i.types ++ fresh 0 s ∷ []) c.permanent.ensures)
