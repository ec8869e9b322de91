use Rattle.std.proofs.Common.{◌≡◌, ◌∙◌, ◌+◌, sym, subst, take, arith}
use Rattle.std.specs.Prelude.{IsSome}
use Rattle.stamped_slots.specs.Slots.{held_at, changed, mark}
use Rattle.term_shapes.specs.declared.handles.Term.{Term}
use Rattle.table_slots.specs.Nodes.{meant_terms, meant_marked}
use Rattle.table_slots.proofs.Marking.{meant_none, meant_within, meaning_there, meant_step, meaning_within}
use Rattle.table_slots.proofs.meanings.mark_terms.Goals as goal
use Rattle.table_slots.proofs.meanings.mark_terms.Goals.{in-Some, in_default}

pub loop-place-init : goal.loop-place-init
loop-place-init c = sym (meant_none c.args.terms.now)

pub mark-requires : goal.mark-requires
mark-requires c =
    let p = meaning_there c.args.names.now c.loop-place.place c.in-Some.t c.in-Some.ensures in
    meant_within c.loop-place.terms c.args.terms.now (take c.loop-place.place (meant_terms c.args.names.now)) c.in-Some.t.slot c.in-Some.t.stamp c.loop-place.invariant (subst (λ (t : Term). IsSome (held_at c.args.terms.now t.slot t.stamp)) p.2 (c.requires c.loop-place.place p.0 p.1))

pub loop-place-preserved : goal.loop-place-preserved
loop-place-preserved c = elim c.match-meaning.branch [
  | in-Some w ↦
      let p = meaning_there c.args.names.now c.loop-place.place w.in-Some.t w.in-Some.ensures in
      w.terms-is ∙ w.mark.ensures
      ∙ subst (λ (t : Term). changed mark c.loop-place.terms t.slot ≡ meant_marked (take (c.loop-place.place + 1) (meant_terms c.args.names.now)) c.args.terms.now) p.2
      (meant_step (λ (t : Term). (t.slot, t.stamp)) c.loop-place.terms c.args.terms.now c.args.names.now c.loop-place.place p.0 p.1 (c.requires c.loop-place.place p.0 p.1) c.loop-place.invariant)
  | in_default w ↦
      absurd (meaning_within c.args.names.now c.loop-place.place c.meaning.result (omega (arith, c.loop-place-test.true, c.len-place-end.ensures)) c.meaning.ensures w.in_default.is)
]
