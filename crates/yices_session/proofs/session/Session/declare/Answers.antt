use Rattle.std.proofs.Common.{◌∙◌, ◌++◌, ◌∷◌, [], ap, refl, false, None}
use Rattle.std.proofs.lemmas.Result.{err_from_is_err_and}
use Rattle.expression_terms.specs.declared.refusal.Stop.TheVariants as stop
use Rattle.yices_session.specs.declared.session.Declared.{Declared as Kept}
use Rattle.yices_session.specs.Held.{Held}
use Rattle.yices_session.specs.Refusals.{unless_used}
use Rattle.yices_session.specs.View.{held_of}
use Rattle.yices_session.proofs.Declaring.{constant_halts, declared_moves}
use Rattle.yices_session.proofs.Scoping.{free_name}
use Rattle.yices_session.proofs.Stopping.{halted_session, moved_session, halts_seen, moves_seen}
use Rattle.yices_session.proofs.Viewing.{held_as, held_named}
use Rattle.yices_session.proofs.session.Session.declare.Goals as goal

pub invariant_of-self-in_err-name_term : goal.invariant_of-self-in_err-name_term
invariant_of-self-in_err-name_term c =
    let h : Held = held_of c.self.inside in
    let is = held_as h c.new_constant.new.env c.name_term.new.env c.self.inside.declared.items c.reserve.new.self.items h.parts h.parts c.in_err-name_term.ensures.err c.reserve.ensures.items refl in
    let made = c.in_ok-term.ensures.made in
    halted_session _ h _ (constant_halts (λ s. None) h c.new_constant.new.env made.0 c.in_ok-term.term _ stop.NoMemory c.is_world.ensures.table made.2 c.in_ok-term.ensures.contexts is refl) c.self.invariant

pub returns-in_err-name_term-clause-stopped : goal.returns-in_err-name_term-clause-stopped
returns-in_err-name_term-clause-stopped c =
    let h : Held = held_of c.self.inside in
    let is = held_as h c.new_constant.new.env c.name_term.new.env c.self.inside.declared.items c.reserve.new.self.items h.parts h.parts c.in_err-name_term.ensures.err c.reserve.ensures.items refl in
    let made = c.in_ok-term.ensures.made in
    let p = err_from_is_err_and c.from_residual-in_err-name_term.result c.from_residual-in_err-name_term.ensures.1 in
    rw p.1 (halts_seen _ h _ _ c.self.view_is (constant_halts (λ s. unless_used s c.args.place c.args.name.now None) h c.new_constant.new.env made.0 c.in_ok-term.term _ p.0 c.is_world.ensures.table made.2 c.in_ok-term.ensures.contexts is (p.2 ∙ c.in_err-name_term.ensures.cause)))

pub invariant_of-self-2 : goal.invariant_of-self-2
invariant_of-self-2 c =
    let h : Held = held_of c.self.inside in
    let new : Kept = record { name = c.in_ok-copy.copy; term = c.in_ok-term.term; has_value = false } in
    let is = held_named h _ c.name_term.new.env c.self.inside.declared.items c.push_reserved.new.self.items h.parts h.parts new c.args.name.now c.in_ok-name_term.ensures.ok (c.push_reserved.ensures.items ∙ ap (λ ds. ds ++ new ∷ []) c.reserve.ensures.items) refl (c.in_ok-copy.ensures ∙ c.as_str-2.ensures.bytes) in
    let made = c.in_ok-term.ensures.made in
    let free = free_name c.args.name.now c.as_str.result.now c.table.result.now h.env.table c.by_name.result c.is_some.result c.by_name.ensures c.table.ensures c.as_str.ensures.bytes c.is_some.ensures c.if-is_some.false in
    moved_session _ h [] _
    (declared_moves h c.new_constant.new.env c.args.name.now made.0 c.in_ok-term.term free c.is_world.ensures.table c.is_world-2.ensures.table made.1 made.2 c.in_ok-term.ensures.contexts _ is) c.self.invariant

pub returns-clause-step : goal.returns-clause-step
returns-clause-step c =
    let h : Held = held_of c.self.inside in
    let new : Kept = record { name = c.in_ok-copy.copy; term = c.in_ok-term.term; has_value = false } in
    let is = held_named h _ c.name_term.new.env c.self.inside.declared.items c.push_reserved.new.self.items h.parts h.parts new c.args.name.now c.in_ok-name_term.ensures.ok (c.push_reserved.ensures.items ∙ ap (λ ds. ds ++ new ∷ []) c.reserve.ensures.items) refl (c.in_ok-copy.ensures ∙ c.as_str-2.ensures.bytes) in
    let made = c.in_ok-term.ensures.made in
    let free = free_name c.args.name.now c.as_str.result.now c.table.result.now h.env.table c.by_name.result c.is_some.result c.by_name.ensures c.table.ensures c.as_str.ensures.bytes c.is_some.ensures c.if-is_some.false in
    moves_seen _ h _ [] _ c.self.view_is
    (declared_moves h c.new_constant.new.env c.args.name.now made.0 c.in_ok-term.term free c.is_world.ensures.table c.is_world-2.ensures.table made.1 made.2 c.in_ok-term.ensures.contexts _ is)
