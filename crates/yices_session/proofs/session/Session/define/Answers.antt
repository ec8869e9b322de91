use Rattle.std.proofs.Common.{◌∙◌, ◌++◌, ◌∷◌, [], ap, refl, subst, true, None, List}
use Rattle.std.proofs.lemmas.Result.{err_from_is_err_and}
use Rattle.term_shapes.specs.declared.handles.Term.{Term}
use Rattle.yices_commands.specs.Plain.{plain}
use Rattle.expression_terms.specs.Building.{cause_in}
use Rattle.expression_terms.specs.Keeping.{AddsParts}
use Rattle.expression_terms.specs.Trees.{tree_of}
use Rattle.expression_terms.specs.declared.refusal.Stop.TheVariants as stop
use Rattle.yices_session.specs.declared.session.Declared.{Declared as Kept}
use Rattle.yices_session.specs.Held.{Held}
use Rattle.yices_session.specs.Refusals.{unless_used}
use Rattle.yices_session.specs.State.{scope_of}
use Rattle.yices_session.specs.View.{held_of}
use Rattle.yices_session.proofs.Defining.{names_in, built_halts, defined_moves, otherwise_used, parts_halts, unbuilt_halts}
use Rattle.yices_session.proofs.Scoping.{free_name}
use Rattle.yices_session.proofs.Stopping.{halted_session, moved_session, halts_seen, moves_seen}
use Rattle.yices_session.proofs.Viewing.{held_as, held_named}
use Rattle.yices_session.proofs.session.Session.define.Goals as goal

pub invariant_of-self : goal.invariant_of-self
invariant_of-self c =
    let h : Held = held_of c.self.inside in
    halted_session _ h _ (built_halts h c.build.new.env (plain c.args.value.now) c.is_world.ensures.table c.in_err-term.ensures.adds (λ s. None) _ stop.NoMemory refl refl) c.self.invariant

pub returns-in_err-term-clause-stopped : goal.returns-in_err-term-clause-stopped
returns-in_err-term-clause-stopped c =
    let h : Held = held_of c.self.inside in
    let free = free_name c.args.name.now c.as_str.result.now c.table.result.now h.env.table c.by_name.result c.is_some.result c.by_name.ensures c.table.ensures c.as_str.ensures.bytes c.is_some.ensures c.if-is_some.false in
    let p = err_from_is_err_and c.from_residual.result c.from_residual.ensures.1 in
    rw (p.1, p.2) (halts_seen _ h _ _ c.self.view_is (unbuilt_halts h c.build.new.env (plain c.args.value.now) c.is_world.ensures.table c.in_err-term.ensures.adds _ c.in_err-term.ensures.built
    (λ s. unless_used s c.args.place c.args.name.now (cause_in (tree_of (scope_of s.names) (plain c.args.value.now)))) (otherwise_used h c.args.place c.args.name.now (plain c.args.value.now) free) _ refl))

pub invariant_of-self-in_err-copy : goal.invariant_of-self-in_err-copy
invariant_of-self-in_err-copy c =
    let h : Held = held_of c.self.inside in
    halted_session _ h _ (built_halts h c.build.new.env (plain c.args.value.now) c.is_world.ensures.table c.in_ok-term.ensures.adds (λ s. None) _ stop.NoMemory refl refl) c.self.invariant

pub returns-in_err-copy-clause-stopped : goal.returns-in_err-copy-clause-stopped
returns-in_err-copy-clause-stopped c =
    let h : Held = held_of c.self.inside in
    let p = err_from_is_err_and c.from_residual-in_err-copy.result c.from_residual-in_err-copy.ensures.1 in
    rw p.1 (halts_seen _ h _ _ c.self.view_is (built_halts h c.build.new.env (plain c.args.value.now) c.is_world.ensures.table c.in_ok-term.ensures.adds
    (λ s. unless_used s c.args.place c.args.name.now (cause_in (tree_of (scope_of s.names) (plain c.args.value.now)))) _ p.0 refl p.2))

pub invariant_of-self-then-is_err : goal.invariant_of-self-then-is_err
invariant_of-self-then-is_err c =
    let h : Held = held_of c.self.inside in
    let is = held_as h c.build.new.env c.build.new.env c.self.inside.declared.items c.reserve.new.self.items h.parts h.parts refl c.reserve.ensures.items refl in
    halted_session _ h _ (built_halts h c.build.new.env (plain c.args.value.now) c.is_world.ensures.table c.in_ok-term.ensures.adds (λ s. None) _ stop.NoMemory is refl) c.self.invariant

pub returns-then-is_err-clause-stopped : goal.returns-then-is_err-clause-stopped
returns-then-is_err-clause-stopped c =
    let h : Held = held_of c.self.inside in
    let is = held_as h c.build.new.env c.build.new.env c.self.inside.declared.items c.reserve.new.self.items h.parts h.parts refl c.reserve.ensures.items refl in
    halts_seen _ h _ _ c.self.view_is (built_halts h c.build.new.env (plain c.args.value.now) c.is_world.ensures.table c.in_ok-term.ensures.adds
    (λ s. unless_used s c.args.place c.args.name.now (cause_in (tree_of (scope_of s.names) (plain c.args.value.now)))) _ stop.NoMemory is refl)

pub invariant_of-self-in_err-add_parts : goal.invariant_of-self-in_err-add_parts
invariant_of-self-in_err-add_parts c =
    let h : Held = held_of c.self.inside in
    let is = held_as h c.build.new.env c.build.new.env c.self.inside.declared.items c.reserve.new.self.items h.parts c.add_parts.new.terms.items refl c.reserve.ensures.items c.in_err-add_parts.ensures.err in
    halted_session _ h _ (built_halts h c.build.new.env (plain c.args.value.now) c.is_world.ensures.table c.in_ok-term.ensures.adds (λ s. None) _ stop.NoMemory is refl) c.self.invariant

pub returns-in_err-add_parts-clause-stopped : goal.returns-in_err-add_parts-clause-stopped
returns-in_err-add_parts-clause-stopped c =
    let h : Held = held_of c.self.inside in
    let is = held_as h c.build.new.env c.build.new.env c.self.inside.declared.items c.reserve.new.self.items h.parts c.add_parts.new.terms.items refl c.reserve.ensures.items c.in_err-add_parts.ensures.err in
    let p = err_from_is_err_and c.from_residual-in_err-add_parts.result c.from_residual-in_err-add_parts.ensures.1 in
    rw p.1 (halts_seen _ h _ _ c.self.view_is (built_halts h c.build.new.env (plain c.args.value.now) c.is_world.ensures.table c.in_ok-term.ensures.adds
    (λ s. unless_used s c.args.place c.args.name.now (cause_in (tree_of (scope_of s.names) (plain c.args.value.now)))) _ p.0 is (p.2 ∙ c.in_err-add_parts.ensures.cause)))

pub invariant_of-self-in_err-name_term : goal.invariant_of-self-in_err-name_term
invariant_of-self-in_err-name_term c =
    let h : Held = held_of c.self.inside in
    let parts = subst (λ (z : List Term). AddsParts (names_in h.env.table) h.env.table c.build.new.env.table (plain c.args.value.now) z c.build.new.parts) c.new-parts.ensures c.in_ok-term.ensures.parts in
    let is = held_as h c.build.new.env c.name_term.new.env c.self.inside.declared.items c.reserve.new.self.items (h.parts ++ c.build.new.parts) c.add_parts.new.terms.items c.in_err-name_term.ensures.err c.reserve.ensures.items (c.in_ok-add_parts.ensures.ok ∙ ap (λ z. h.parts ++ z) c.as_slice.ensures) in
    halted_session _ h _ (parts_halts h c.build.new.env c.args.name.now (plain c.args.value.now) c.in_ok-term.term c.build.new.parts c.is_world.ensures.table c.in_ok-term.ensures.adds c.known.ensures c.is_world-2.ensures.table parts (λ s. None) _ stop.NoMemory is refl) c.self.invariant

pub returns-in_err-name_term-clause-stopped : goal.returns-in_err-name_term-clause-stopped
returns-in_err-name_term-clause-stopped c =
    let h : Held = held_of c.self.inside in
    let parts = subst (λ (z : List Term). AddsParts (names_in h.env.table) h.env.table c.build.new.env.table (plain c.args.value.now) z c.build.new.parts) c.new-parts.ensures c.in_ok-term.ensures.parts in
    let is = held_as h c.build.new.env c.name_term.new.env c.self.inside.declared.items c.reserve.new.self.items (h.parts ++ c.build.new.parts) c.add_parts.new.terms.items c.in_err-name_term.ensures.err c.reserve.ensures.items (c.in_ok-add_parts.ensures.ok ∙ ap (λ z. h.parts ++ z) c.as_slice.ensures) in
    let p = err_from_is_err_and c.from_residual-in_err-name_term.result c.from_residual-in_err-name_term.ensures.1 in
    rw p.1 (halts_seen _ h _ _ c.self.view_is (parts_halts h c.build.new.env c.args.name.now (plain c.args.value.now) c.in_ok-term.term c.build.new.parts c.is_world.ensures.table c.in_ok-term.ensures.adds c.known.ensures c.is_world-2.ensures.table parts
    (λ s. unless_used s c.args.place c.args.name.now (cause_in (tree_of (scope_of s.names) (plain c.args.value.now)))) _ p.0 is (p.2 ∙ c.in_err-name_term.ensures.cause)))

pub invariant_of-self-2 : goal.invariant_of-self-2
invariant_of-self-2 c =
    let h : Held = held_of c.self.inside in
    let new : Kept = record { name = c.in_ok-copy.copy; term = c.in_ok-term.term; has_value = true } in
    let free = free_name c.args.name.now c.as_str.result.now c.table.result.now h.env.table c.by_name.result c.is_some.result c.by_name.ensures c.table.ensures c.as_str.ensures.bytes c.is_some.ensures c.if-is_some.false in
    let parts = subst (λ (z : List Term). AddsParts (names_in h.env.table) h.env.table c.build.new.env.table (plain c.args.value.now) z c.build.new.parts) c.new-parts.ensures c.in_ok-term.ensures.parts in
    let is = held_named h _ c.name_term.new.env c.self.inside.declared.items c.push_reserved.new.self.items (h.parts ++ c.build.new.parts) c.add_parts.new.terms.items new c.args.name.now c.in_ok-name_term.ensures.ok
    (c.push_reserved.ensures.items ∙ ap (λ ds. ds ++ new ∷ []) c.reserve.ensures.items) (c.in_ok-add_parts.ensures.ok ∙ ap (λ z. h.parts ++ z) c.as_slice.ensures) (c.in_ok-copy.ensures ∙ c.as_str-2.ensures.bytes) in
    moved_session _ h [] _
    (defined_moves h c.build.new.env c.args.name.now (plain c.args.value.now) c.in_ok-term.term c.build.new.parts c.is_world.ensures.table c.in_ok-term.ensures.adds c.known.ensures c.is_world-2.ensures.table parts free c.in_ok-term.ensures.built c.in_ok-term.ensures.kept _ is)
    c.self.invariant

pub returns-clause-step : goal.returns-clause-step
returns-clause-step c =
    let h : Held = held_of c.self.inside in
    let new : Kept = record { name = c.in_ok-copy.copy; term = c.in_ok-term.term; has_value = true } in
    let free = free_name c.args.name.now c.as_str.result.now c.table.result.now h.env.table c.by_name.result c.is_some.result c.by_name.ensures c.table.ensures c.as_str.ensures.bytes c.is_some.ensures c.if-is_some.false in
    let parts = subst (λ (z : List Term). AddsParts (names_in h.env.table) h.env.table c.build.new.env.table (plain c.args.value.now) z c.build.new.parts) c.new-parts.ensures c.in_ok-term.ensures.parts in
    let is = held_named h _ c.name_term.new.env c.self.inside.declared.items c.push_reserved.new.self.items (h.parts ++ c.build.new.parts) c.add_parts.new.terms.items new c.args.name.now c.in_ok-name_term.ensures.ok
    (c.push_reserved.ensures.items ∙ ap (λ ds. ds ++ new ∷ []) c.reserve.ensures.items) (c.in_ok-add_parts.ensures.ok ∙ ap (λ z. h.parts ++ z) c.as_slice.ensures) (c.in_ok-copy.ensures ∙ c.as_str-2.ensures.bytes) in
    moves_seen _ h _ [] _ c.self.view_is
    (defined_moves h c.build.new.env c.args.name.now (plain c.args.value.now) c.in_ok-term.term c.build.new.parts c.is_world.ensures.table c.in_ok-term.ensures.adds c.known.ensures c.is_world-2.ensures.table parts free c.in_ok-term.ensures.built c.in_ok-term.ensures.kept _ is)
