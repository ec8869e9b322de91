use Rattle.std.proofs.Common.{◌∙◌, length, map, string_bytes, refl, sym, ap}
use Rattle.std.proofs.lemmas.Result.{err_from_is_err_and}
use Rattle.stamped_slots.proofs.Lists.{map_length}
use Rattle.yices_commands.specs.Plain.{plain_literal}
use Rattle.yices_session.specs.Parts.{literal_of}
use Rattle.yices_session.specs.Held.{Held}
use Rattle.yices_session.specs.View.{held_of}
use Rattle.yices_session.proofs.Assuming.{assuming_halts}
use Rattle.yices_session.proofs.Checking.{assumed_seen, assuming_memory, assuming_sat, assuming_unknown, assuming_unsat, grown_session, line_said, session_assumptions, session_count, session_formulas}
use Rattle.yices_session.proofs.Stopping.{halted_session, halts_seen, moved_session}
use Rattle.yices_session.proofs.session.Session.check_assuming.Goals as goal

pub invariant_of-self : goal.invariant_of-self
invariant_of-self c =
    let h : Held = held_of c.self.inside in
    halted_session _ h _ (assuming_halts h c.assumed_terms.new.env (map plain_literal c.args.literals.now) c.in_err-assumed.field-0.0 c.is_world.ensures.table c.in_err-assumed.ensures.refused c.in_err-assumed.ensures.grows c.in_err-assumed.ensures.contexts _ refl) c.self.invariant

pub returns-in_err-assumed-clause-stopped : goal.returns-in_err-assumed-clause-stopped
returns-in_err-assumed-clause-stopped c =
    let h : Held = held_of c.self.inside in
    let p = err_from_is_err_and c.from_residual.result c.from_residual.ensures.1 in
    rw (p.1, p.2) (halts_seen _ h _ _ c.self.view_is (assuming_halts h c.assumed_terms.new.env (map plain_literal c.args.literals.now) c.in_err-assumed.field-0.0 c.is_world.ensures.table c.in_err-assumed.ensures.refused c.in_err-assumed.ensures.grows c.in_err-assumed.ensures.contexts _ refl))

pub decided-requires-clause-formulas : goal.decided-requires-clause-formulas
decided-requires-clause-formulas c =
    let h : Held = held_of c.self.inside in
    session_formulas (let k : Held = record h { env = c.assumed_terms.new.env } in k) c.table-table.result.now c.as_slice-formulas.result.now c.table-table.ensures c.as_slice-formulas.ensures.value (grown_session h c.assumed_terms.new.env (map plain_literal c.args.literals.now) c.in_ok-assumed.assumed c.is_world.ensures.table c.is_world-2.ensures.table c.known.ensures c.in_ok-assumed.ensures.built c.in_ok-assumed.ensures.contexts c.self.invariant)

pub decided-requires-clause-assumptions : goal.decided-requires-clause-assumptions
decided-requires-clause-assumptions c =
    let h : Held = held_of c.self.inside in
    session_assumptions h c.assumed_terms.new.env (map plain_literal c.args.literals.now) c.in_ok-assumed.assumed c.is_world.ensures.table c.is_world-2.ensures.table c.known.ensures c.in_ok-assumed.ensures.built c.in_ok-assumed.ensures.contexts c.table-table.result.now c.as_slice.result.now c.table-table.ensures c.as_slice.ensures c.self.invariant

pub invariant_of-self-in_err-values : goal.invariant_of-self-in_err-values
invariant_of-self-in_err-values c =
    let h : Held = held_of c.self.inside in
    halted_session _ h _ (assuming_memory h c.assumed_terms.new.env (map plain_literal c.args.literals.now) c.in_ok-assumed.assumed c.is_world.ensures.table c.is_world-2.ensures.table c.known.ensures c.in_ok-assumed.ensures.built c.in_ok-assumed.ensures.contexts _ c.in_err-values.field-0.0 refl c.in_err-values.ensures.cause) c.self.invariant

pub returns-in_err-values-clause-stopped : goal.returns-in_err-values-clause-stopped
returns-in_err-values-clause-stopped c =
    let h : Held = held_of c.self.inside in
    let p = err_from_is_err_and c.from_residual-in_err-values.result c.from_residual-in_err-values.ensures.1 in
    rw p.1 (halts_seen _ h _ _ c.self.view_is (assuming_memory h c.assumed_terms.new.env (map plain_literal c.args.literals.now) c.in_ok-assumed.assumed c.is_world.ensures.table c.is_world-2.ensures.table c.known.ensures c.in_ok-assumed.ensures.built c.in_ok-assumed.ensures.contexts _ p.0 refl (p.2 ∙ c.in_err-values.ensures.cause)))

pub invariant_of-self-in_err-model-in-Sat : goal.invariant_of-self-in_err-model-in-Sat
invariant_of-self-in_err-model-in-Sat c =
    let h : Held = held_of c.self.inside in
    halted_session _ h _ (assuming_memory h c.assumed_terms.new.env (map plain_literal c.args.literals.now) c.in_ok-assumed.assumed c.is_world.ensures.table c.is_world-2.ensures.table c.known.ensures c.in_ok-assumed.ensures.built c.in_ok-assumed.ensures.contexts _ c.in_err-model-in-Sat.field-0.0 refl c.in_err-model-in-Sat.ensures.cause) c.self.invariant

pub returns-in_err-model-in-Sat-clause-stopped : goal.returns-in_err-model-in-Sat-clause-stopped
returns-in_err-model-in-Sat-clause-stopped c =
    let h : Held = held_of c.self.inside in
    let p = err_from_is_err_and c.from_residual-in_err-model-in-Sat.result c.from_residual-in_err-model-in-Sat.ensures.1 in
    rw p.1 (halts_seen _ h _ _ c.self.view_is (assuming_memory h c.assumed_terms.new.env (map plain_literal c.args.literals.now) c.in_ok-assumed.assumed c.is_world.ensures.table c.is_world-2.ensures.table c.known.ensures c.in_ok-assumed.ensures.built c.in_ok-assumed.ensures.contexts _ p.0 refl (p.2 ∙ c.in_err-model-in-Sat.ensures.cause)))

pub invariant_of-self-in-Sat : goal.invariant_of-self-in-Sat
invariant_of-self-in-Sat c =
    let h : Held = held_of c.self.inside in
    moved_session _ h _ _ (assuming_sat h c.assumed_terms.new.env (map plain_literal c.args.literals.now) c.in_ok-assumed.assumed c.is_world.ensures.table c.is_world-2.ensures.table c.known.ensures c.in_ok-assumed.ensures.built c.in_ok-assumed.ensures.contexts c.table-table.result.now c.as_slice-formulas.result.now c.as_slice.result.now c.table-table.ensures c.as_slice-formulas.ensures.value c.as_slice.ensures c.in_ok-values.field-0 c.in-Sat.values c.in-Sat.is c.in_ok-values.ensures.sat c.in_ok-model-in-Sat.model c.in_ok-model-in-Sat.ensures.model c.in_ok-model-in-Sat.ensures.same _ refl) c.self.invariant

pub returns-in-Sat-clause-step : goal.returns-in-Sat-clause-step
returns-in-Sat-clause-step c =
    let h : Held = held_of c.self.inside in
    assumed_seen h _ _ _ _ c.self.view_is (assuming_sat h c.assumed_terms.new.env (map plain_literal c.args.literals.now) c.in_ok-assumed.assumed c.is_world.ensures.table c.is_world-2.ensures.table c.known.ensures c.in_ok-assumed.ensures.built c.in_ok-assumed.ensures.contexts c.table-table.result.now c.as_slice-formulas.result.now c.as_slice.result.now c.table-table.ensures c.as_slice-formulas.ensures.value c.as_slice.ensures c.in_ok-values.field-0 c.in-Sat.values c.in-Sat.is c.in_ok-values.ensures.sat c.in_ok-model-in-Sat.model c.in_ok-model-in-Sat.ensures.model c.in_ok-model-in-Sat.ensures.same _ refl)

pub core_line-requires : goal.core_line-requires
core_line-requires c =
    let h : Held = held_of c.self.inside in
    ap length c.as_slice-in-Unsat-2.ensures ∙ session_count h c.assumed_terms.new.env (map plain_literal c.args.literals.now) c.in_ok-assumed.assumed c.is_world.ensures.table c.is_world-2.ensures.table c.known.ensures c.in_ok-assumed.ensures.built c.in_ok-assumed.ensures.contexts c.self.invariant ∙ map_length plain_literal c.args.literals.now

pub invariant_of-self-in_err-line-in-Unsat : goal.invariant_of-self-in_err-line-in-Unsat
invariant_of-self-in_err-line-in-Unsat c =
    let h : Held = held_of c.self.inside in
    halted_session _ h _ (assuming_memory h c.assumed_terms.new.env (map plain_literal c.args.literals.now) c.in_ok-assumed.assumed c.is_world.ensures.table c.is_world-2.ensures.table c.known.ensures c.in_ok-assumed.ensures.built c.in_ok-assumed.ensures.contexts _ c.in_err-line-in-Unsat.field-0.0 refl c.in_err-line-in-Unsat.ensures.cause) c.self.invariant

pub returns-in_err-line-in-Unsat-clause-stopped : goal.returns-in_err-line-in-Unsat-clause-stopped
returns-in_err-line-in-Unsat-clause-stopped c =
    let h : Held = held_of c.self.inside in
    let p = err_from_is_err_and c.from_residual-in_err-line-in-Unsat.result c.from_residual-in_err-line-in-Unsat.ensures.1 in
    rw p.1 (halts_seen _ h _ _ c.self.view_is (assuming_memory h c.assumed_terms.new.env (map plain_literal c.args.literals.now) c.in_ok-assumed.assumed c.is_world.ensures.table c.is_world-2.ensures.table c.known.ensures c.in_ok-assumed.ensures.built c.in_ok-assumed.ensures.contexts _ p.0 refl (p.2 ∙ c.in_err-line-in-Unsat.ensures.cause)))

pub invariant_of-self-in-Unsat : goal.invariant_of-self-in-Unsat
invariant_of-self-in-Unsat c =
    let h : Held = held_of c.self.inside in
    moved_session _ h _ _ (assuming_unsat h c.assumed_terms.new.env (map plain_literal c.args.literals.now) c.in_ok-assumed.assumed c.is_world.ensures.table c.is_world-2.ensures.table c.known.ensures c.in_ok-assumed.ensures.built c.in_ok-assumed.ensures.contexts c.table-table.result.now c.as_slice-formulas.result.now c.as_slice.result.now c.table-table.ensures c.as_slice-formulas.ensures.value c.as_slice.ensures c.in_ok-values.field-0 c.in-Unsat.blamed c.in-Unsat.is c.in_ok-values.ensures.unsat (string_bytes c.in_ok-line-in-Unsat.line)
    (line_said (string_bytes c.in_ok-line-in-Unsat.line) c.as_slice-in-Unsat.result.now c.in-Unsat.blamed c.as_slice.result.now c.as_slice-in-Unsat-2.result.now (map literal_of (map plain_literal c.args.literals.now)) c.as_slice-in-Unsat.ensures (c.as_slice.ensures ∙ sym c.as_slice-in-Unsat-2.ensures) c.in_ok-line-in-Unsat.ensures.line) _ refl) c.self.invariant

pub returns-in-Unsat-clause-step : goal.returns-in-Unsat-clause-step
returns-in-Unsat-clause-step c =
    let h : Held = held_of c.self.inside in
    assumed_seen h _ _ _ _ c.self.view_is (assuming_unsat h c.assumed_terms.new.env (map plain_literal c.args.literals.now) c.in_ok-assumed.assumed c.is_world.ensures.table c.is_world-2.ensures.table c.known.ensures c.in_ok-assumed.ensures.built c.in_ok-assumed.ensures.contexts c.table-table.result.now c.as_slice-formulas.result.now c.as_slice.result.now c.table-table.ensures c.as_slice-formulas.ensures.value c.as_slice.ensures c.in_ok-values.field-0 c.in-Unsat.blamed c.in-Unsat.is c.in_ok-values.ensures.unsat (string_bytes c.in_ok-line-in-Unsat.line)
    (line_said (string_bytes c.in_ok-line-in-Unsat.line) c.as_slice-in-Unsat.result.now c.in-Unsat.blamed c.as_slice.result.now c.as_slice-in-Unsat-2.result.now (map literal_of (map plain_literal c.args.literals.now)) c.as_slice-in-Unsat.ensures (c.as_slice.ensures ∙ sym c.as_slice-in-Unsat-2.ensures) c.in_ok-line-in-Unsat.ensures.line) _ refl)

pub invariant_of-self-in-Unknown : goal.invariant_of-self-in-Unknown
invariant_of-self-in-Unknown c =
    let h : Held = held_of c.self.inside in
    moved_session _ h _ _ (assuming_unknown h c.assumed_terms.new.env (map plain_literal c.args.literals.now) c.in_ok-assumed.assumed c.is_world.ensures.table c.is_world-2.ensures.table c.known.ensures c.in_ok-assumed.ensures.built c.in_ok-assumed.ensures.contexts c.table-table.result.now c.as_slice-formulas.result.now c.as_slice.result.now c.table-table.ensures c.as_slice-formulas.ensures.value c.as_slice.ensures c.in_ok-values.field-0 c.in-Unknown.field-0 c.in-Unknown.is c.in_ok-values.ensures.unknown _ refl) c.self.invariant

pub returns-clause-step : goal.returns-clause-step
returns-clause-step c =
    let h : Held = held_of c.self.inside in
    assumed_seen h _ _ _ _ c.self.view_is (assuming_unknown h c.assumed_terms.new.env (map plain_literal c.args.literals.now) c.in_ok-assumed.assumed c.is_world.ensures.table c.is_world-2.ensures.table c.known.ensures c.in_ok-assumed.ensures.built c.in_ok-assumed.ensures.contexts c.table-table.result.now c.as_slice-formulas.result.now c.as_slice.result.now c.table-table.ensures c.as_slice-formulas.ensures.value c.as_slice.ensures c.in_ok-values.field-0 c.in-Unknown.field-0 c.in-Unknown.is c.in_ok-values.ensures.unknown _ refl)
