use Rattle.std.proofs.Common.{refl, subst}
use Rattle.std.proofs.lemmas.Result.{err_from_is_err_and}
use Rattle.term_table.specs.World.{IsTable}
use Rattle.yices_commands.specs.Plain.{plain}
use Rattle.yices_session.specs.View.{held_of}
use Rattle.yices_session.proofs.Evaluating.{grown_session, unbuilt_halts, memory_halts, term_truths, term_model, evaluated}
use Rattle.yices_session.proofs.session.Session.eval.Goals as goal

pub invariant_of-self : goal.invariant_of-self
invariant_of-self c = grown_session (held_of c.self.inside) (plain c.args.term.now) c.build.new.env (subst IsTable c.table.ensures c.is_table.ensures) c.build.ensures.adds c.self.invariant

pub returns-in_err-t-clause-stopped : goal.returns-in_err-t-clause-stopped
returns-in_err-t-clause-stopped c =
    let p = err_from_is_err_and c.from_residual.result c.from_residual.ensures.1 in
    rw (p.1, p.2) (unbuilt_halts (held_of c.self.inside) (plain c.args.term.now) c.build.new.env (subst IsTable c.table.ensures c.is_table.ensures) c.build.ensures.adds c.args.self.now _ c.self.view_is refl c.in_err-t.field-0.0 c.in_err-t.ensures.built)

pub show_value-requires-clause-model : goal.show_value-requires-clause-model
show_value-requires-clause-model c =
    term_model (held_of c.self.inside) (plain c.args.term.now) c.build.new.env (subst IsTable c.table.ensures c.is_table.ensures) c.build.ensures.adds c.known.ensures c.table-table.result.now c.table-table.ensures c.is_table-2.ensures c.in_ok-t.t c.in_ok-t.ensures.built
    c.self.invariant

pub show_value-requires-clause-truths : goal.show_value-requires-clause-truths
show_value-requires-clause-truths c =
    term_truths (held_of c.self.inside) (plain c.args.term.now) c.build.new.env (subst IsTable c.table.ensures c.is_table.ensures) c.build.ensures.adds c.known.ensures c.table-table.result.now c.table-table.ensures c.is_table-2.ensures c.in_ok-t.t c.in_ok-t.ensures.built
    c.self.invariant

pub invariant_of-self-2 : goal.invariant_of-self-2
invariant_of-self-2 c = grown_session (held_of c.self.inside) (plain c.args.term.now) c.build.new.env (subst IsTable c.table.ensures c.is_table.ensures) c.build.ensures.adds c.self.invariant

pub returns-clause-step : goal.returns-clause-step
returns-clause-step c =
    evaluated (held_of c.self.inside) (plain c.args.term.now) c.build.new.env (subst IsTable c.table.ensures c.is_table.ensures) c.build.ensures.adds c.known.ensures c.table-table.result.now c.table-table.ensures c.is_table-2.ensures c.in_ok-t.t c.in_ok-t.ensures.built
    c.args.self.now _ c.self.view_is refl c.show_value.result c.show_value.ensures.line

pub returns-clause-stopped : goal.returns-clause-stopped
returns-clause-stopped c =
    memory_halts (held_of c.self.inside) (plain c.args.term.now) c.build.new.env (subst IsTable c.table.ensures c.is_table.ensures) c.build.ensures.adds c.args.self.now _ c.self.view_is refl c.show_value.result c.show_value.ensures.cause
