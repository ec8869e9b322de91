use Rattle.std.proofs.Common.{ap, sym, ◌∙◌, subst, length}
use Rattle.std.specs.Prelude.{not}
use Rattle.simplex_table.specs.View.{delta_at}
use Rattle.simplex_bounds.specs.Ranges.{limits_of}
use Rattle.simplex_core.specs.Choosing.{IsFirstViolated, AllStuck}
use Rattle.simplex_core.proofs.TurnLemmas.{violated_below, turn_conflict}
use Rattle.simplex_core.proofs.checking.take_turn.Goals as goal

pub row-row-requires : goal.row-row-requires
row-row-requires c = violated_below c.args.tableau.now c.args.ranges.now c.args.run.now.values.items c.args.run.now.spent.value c.in-Some.bound c.requires (subst (λ vs. IsFirstViolated c.args.ranges.now vs c.in-Some.bound) c.deref.ensures.value c.in-Some.ensures.some)

pub first_moving-requires-clause-width : goal.first_moving-requires-clause-width
first_moving-requires-clause-width c =
    let l = violated_below c.args.tableau.now c.args.ranges.now c.args.run.now.values.items c.args.run.now.spent.value c.in-Some.bound c.requires (subst (λ vs. IsFirstViolated c.args.ranges.now vs c.in-Some.bound) c.deref.ensures.value c.in-Some.ensures.some) in
    ap length c.row-row.ensures ∙ c.requires.going.tabled.width c.in-Some.bound.variable l ∙ ap length (sym c.columns-columns.ensures.value)

pub certificate-requires-clause-width : goal.certificate-requires-clause-width
certificate-requires-clause-width c =
    let l = violated_below c.args.tableau.now c.args.ranges.now c.args.run.now.values.items c.args.run.now.spent.value c.in-Some.bound c.requires (subst (λ vs. IsFirstViolated c.args.ranges.now vs c.in-Some.bound) c.deref.ensures.value c.in-Some.ensures.some) in
    ap length c.row-row.ensures ∙ c.requires.going.tabled.width c.in-Some.bound.variable l ∙ ap length (sym c.columns-columns.ensures.value)

pub returns-in_ok-multipliers-in-None-clause-ok : goal.returns-in_ok-multipliers-in-None-clause-ok
returns-in_ok-multipliers-in-None-clause-ok c =
    turn_conflict c.args.tableau.now c.args.ranges.now c.args.run.now.values.items c.args.run.now.spent.value c.in-Some.bound c.row-row.result.now c.columns-columns.result.now c.in_ok-multipliers-in-None.multipliers c.requires
    (subst (λ vs. IsFirstViolated c.args.ranges.now vs c.in-Some.bound) c.deref.ensures.value c.in-Some.ensures.some) c.row-row.ensures c.columns-columns.ensures.value
    (subst (λ vs. AllStuck (limits_of c.args.ranges.now) (delta_at vs) (not c.in-Some.bound.upper) c.row-row.result.now c.columns-columns.result.now) c.deref-2.ensures.value c.in-None.ensures.none) c.in_ok-multipliers-in-None.ensures
