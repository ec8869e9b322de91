use Rattle.std.proofs.Common.{◌∙◌, refl}
use Rattle.std.proofs.lemmas.Result.{err_from_is_err_and}
use Rattle.yices_session.specs.Held.{Held}
use Rattle.yices_session.specs.View.{held_of}
use Rattle.yices_session.proofs.Checking.{check_halts, check_sat, check_unknown, check_unsat, checked_seen, session_formulas}
use Rattle.yices_session.proofs.Stopping.{halted_session, halts_seen, moved_session}
use Rattle.yices_session.proofs.session.Session.check.Goals as goal

pub decided-requires-clause-formulas : goal.decided-requires-clause-formulas
decided-requires-clause-formulas c = session_formulas (held_of c.self.inside) c.table-table.result.now c.as_slice.result.now c.table-table.ensures c.as_slice.ensures.value c.self.invariant

pub invariant_of-self : goal.invariant_of-self
invariant_of-self c = halted_session _ (held_of c.self.inside) _ (check_halts (held_of c.self.inside) _ c.in_err-values.field-0.0 refl c.in_err-values.ensures.cause) c.self.invariant

pub returns-in_err-values-clause-stopped : goal.returns-in_err-values-clause-stopped
returns-in_err-values-clause-stopped c =
    let p = err_from_is_err_and c.from_residual.result c.from_residual.ensures.1 in
    rw p.1 (halts_seen _ (held_of c.self.inside) _ _ c.self.view_is (check_halts (held_of c.self.inside) _ p.0 refl (p.2 ∙ c.in_err-values.ensures.cause)))

pub invariant_of-self-in_err-model-in-Sat : goal.invariant_of-self-in_err-model-in-Sat
invariant_of-self-in_err-model-in-Sat c =
    halted_session _ (held_of c.self.inside) _ (check_halts (held_of c.self.inside) _ c.in_err-model-in-Sat.field-0.0 refl c.in_err-model-in-Sat.ensures.cause) c.self.invariant

pub returns-in_err-model-in-Sat-clause-stopped : goal.returns-in_err-model-in-Sat-clause-stopped
returns-in_err-model-in-Sat-clause-stopped c =
    let p = err_from_is_err_and c.from_residual-in_err-model-in-Sat.result c.from_residual-in_err-model-in-Sat.ensures.1 in
    rw p.1 (halts_seen _ (held_of c.self.inside) _ _ c.self.view_is (check_halts (held_of c.self.inside) _ p.0 refl (p.2 ∙ c.in_err-model-in-Sat.ensures.cause)))

pub invariant_of-self-in-Sat : goal.invariant_of-self-in-Sat
invariant_of-self-in-Sat c =
    let h : Held = held_of c.self.inside in
    moved_session _ h _ _
    (check_sat h c.is_world.ensures.table c.table-table.result.now c.as_slice.result.now c.table-table.ensures c.as_slice.ensures.value c.in_ok-values.field-0 c.in-Sat.values c.in-Sat.is c.in_ok-values.ensures.sat c.in_ok-model-in-Sat.model c.in_ok-model-in-Sat.ensures.model
    c.in_ok-model-in-Sat.ensures.same _ refl) c.self.invariant

pub returns-in-Sat-clause-step : goal.returns-in-Sat-clause-step
returns-in-Sat-clause-step c =
    let h : Held = held_of c.self.inside in
    checked_seen h _ _ _ c.self.view_is
    (check_sat h c.is_world.ensures.table c.table-table.result.now c.as_slice.result.now c.table-table.ensures c.as_slice.ensures.value c.in_ok-values.field-0 c.in-Sat.values c.in-Sat.is c.in_ok-values.ensures.sat c.in_ok-model-in-Sat.model c.in_ok-model-in-Sat.ensures.model
    c.in_ok-model-in-Sat.ensures.same _ refl)

pub invariant_of-self-in-Unsat : goal.invariant_of-self-in-Unsat
invariant_of-self-in-Unsat c =
    let h : Held = held_of c.self.inside in
    moved_session _ h _ _ (check_unsat h c.is_world.ensures.table c.table-table.result.now c.as_slice.result.now c.table-table.ensures c.as_slice.ensures.value c.in_ok-values.field-0 c.in-Unsat.field-0 c.in-Unsat.is c.in_ok-values.ensures.unsat _ refl) c.self.invariant

pub returns-in-Unsat-clause-step : goal.returns-in-Unsat-clause-step
returns-in-Unsat-clause-step c =
    let h : Held = held_of c.self.inside in
    checked_seen h _ _ _ c.self.view_is (check_unsat h c.is_world.ensures.table c.table-table.result.now c.as_slice.result.now c.table-table.ensures c.as_slice.ensures.value c.in_ok-values.field-0 c.in-Unsat.field-0 c.in-Unsat.is c.in_ok-values.ensures.unsat _ refl)

pub invariant_of-self-in-Unknown : goal.invariant_of-self-in-Unknown
invariant_of-self-in-Unknown c =
    let h : Held = held_of c.self.inside in
    moved_session _ h _ _ (check_unknown h c.is_world.ensures.table c.table-table.result.now c.as_slice.result.now c.table-table.ensures c.as_slice.ensures.value c.in_ok-values.field-0 c.in-Unknown.field-0 c.in-Unknown.is c.in_ok-values.ensures.unknown _ refl) c.self.invariant

pub returns-clause-step : goal.returns-clause-step
returns-clause-step c =
    let h : Held = held_of c.self.inside in
    checked_seen h _ _ _ c.self.view_is (check_unknown h c.is_world.ensures.table c.table-table.result.now c.as_slice.result.now c.table-table.ensures c.as_slice.ensures.value c.in_ok-values.field-0 c.in-Unknown.field-0 c.in-Unknown.is c.in_ok-values.ensures.unknown _ refl)
