use Rattle.std.proofs.Common.{subst, length, arith}
use Rattle.clause_trail.specs.View.{lists_of}
use Rattle.clause_search.specs.Solving.{Rounds, weight}
use Rattle.clause_search.specs.declared.solving.Round.TheVariants as round
use Rattle.clause_search.proofs.Rounding.{going_same, recorded_same, rounds_same}
use Rattle.clause_search.proofs.solving.stretch.Goals as goal

pub run_round-requires-clause-going : goal.run_round-requires-clause-going
run_round-requires-clause-going g c =
    going_same c.args.added.now (g.C.Checker.stands c.args.checker.now) (g.C.Checker.stands c.loop-state.checker) c.loop-state.invariant.stands (lists_of c.loop-state.state) c.args.assumed.now c.loop-state.invariant.going

pub run_round-requires-clause-recorded : goal.run_round-requires-clause-recorded
run_round-requires-clause-recorded g c =
    recorded_same c.args.added.now (g.C.Checker.stands c.args.checker.now) (g.C.Checker.stands c.loop-state.checker) c.loop-state.invariant.stands c.loop-state.state.clauses.items c.args.assumed.now c.args.turns c.loop-state.invariant.recorded

pub loop-state-preserved : goal.loop-state-preserved
loop-state-preserved g c =
    let all = rounds_same c.args.added.now (g.C.Checker.stands c.loop-state.checker) (g.C.Checker.stands c.args.checker.now) (λ d. ((c.loop-state.invariant.stands d).1, (c.loop-state.invariant.stands d).0))
    (length c.loop-state.state.values.items) (length c.args.state.now.values.items) c.args.assumed.now c.args.turns (g.C.Checker.newest c.run_round.new.checker) (weight (lists_of c.loop-state.state) c.args.added.now) (weight (lists_of c.loop-state.state) c.args.added.now)
    (lists_of c.run_round.new.state) c.in_ok-run_round.field-0 c.loop-state.invariant.vars (omega arith) c.in_ok-run_round.ensures.rounds in
    let next : Rounds (length c.args.state.now.values.items) c.args.added.now (g.C.Checker.stands c.args.checker.now) c.args.assumed.now c.args.turns (g.C.Checker.newest c.run_round.new.checker) (weight (lists_of c.loop-state.state) c.args.added.now) (lists_of c.run_round.new.state) round.Next =
    subst (λ r. Rounds (length c.args.state.now.values.items) c.args.added.now (g.C.Checker.stands c.args.checker.now) c.args.assumed.now c.args.turns (g.C.Checker.newest c.run_round.new.checker) (weight (lists_of c.loop-state.state) c.args.added.now) (lists_of c.run_round.new.state) r) c.in-Next.is all in
    record {
      going = next.0;
      recorded = next.3;
      vars = next.1;
      stands = λ d. (
        (λ h. (c.loop-state.invariant.stands d).0 ((c.run_round.ensures.stands d).0 h)),
        (λ h. (c.run_round.ensures.stands d).1 ((c.loop-state.invariant.stands d).1 h)),
      );
    }

pub returns-then-is_full-clause-stretches : goal.returns-then-is_full-clause-stretches
returns-then-is_full-clause-stretches g c =
    let all = rounds_same c.args.added.now (g.C.Checker.stands c.loop-state.checker) (g.C.Checker.stands c.args.checker.now) (λ d. ((c.loop-state.invariant.stands d).1, (c.loop-state.invariant.stands d).0))
    (length c.loop-state.state.values.items) (length c.args.state.now.values.items) c.args.assumed.now c.args.turns (g.C.Checker.newest c.run_round.new.checker) (weight (lists_of c.loop-state.state) c.args.added.now) (weight (lists_of c.loop-state.state) c.args.added.now)
    (lists_of c.run_round.new.state) c.in_ok-run_round.field-0 c.loop-state.invariant.vars (omega arith) c.in_ok-run_round.ensures.rounds in
    let next : Rounds (length c.args.state.now.values.items) c.args.added.now (g.C.Checker.stands c.args.checker.now) c.args.assumed.now c.args.turns (g.C.Checker.newest c.run_round.new.checker) (weight (lists_of c.loop-state.state) c.args.added.now) (lists_of c.run_round.new.state) round.Next =
    subst (λ r. Rounds (length c.args.state.now.values.items) c.args.added.now (g.C.Checker.stands c.args.checker.now) c.args.assumed.now c.args.turns (g.C.Checker.newest c.run_round.new.checker) (weight (lists_of c.loop-state.state) c.args.added.now) (lists_of c.run_round.new.state) r) c.in-Next.is all in
    (next.0, next.1, c.if-may.true)

pub returns-in-Done-clause-stretches : goal.returns-in-Done-clause-stretches
returns-in-Done-clause-stretches g c =
    let all = rounds_same c.args.added.now (g.C.Checker.stands c.loop-state.checker) (g.C.Checker.stands c.args.checker.now) (λ d. ((c.loop-state.invariant.stands d).1, (c.loop-state.invariant.stands d).0))
    (length c.loop-state.state.values.items) (length c.args.state.now.values.items) c.args.assumed.now c.args.turns (g.C.Checker.newest c.run_round.new.checker) (weight (lists_of c.loop-state.state) c.args.added.now) (weight (lists_of c.loop-state.state) c.args.added.now)
    (lists_of c.run_round.new.state) c.in_ok-run_round.field-0 c.loop-state.invariant.vars (omega arith) c.in_ok-run_round.ensures.rounds in
    subst (λ r. Rounds (length c.args.state.now.values.items) c.args.added.now (g.C.Checker.stands c.args.checker.now) c.args.assumed.now c.args.turns (g.C.Checker.newest c.run_round.new.checker) (weight (lists_of c.loop-state.state) c.args.added.now) (lists_of c.run_round.new.state) r) c.in-Done.is all
