use Rattle.std.proofs.Common.{subst, sym, length, ◌∙◌, true, false}
use Rattle.std.proofs.lemmas.Bool.{OnTrue_at}
use Rattle.clause_trail.specs.View.{lists_of}
use Rattle.clause_search.specs.Solving.{Stretches, Reduces}
use Rattle.clause_search.specs.declared.solving.Round.TheVariants as round
use Rattle.clause_search.proofs.Rounding.{going_same, recorded_same, core_same, stretches_same}
use Rattle.clause_search.proofs.solving.run.Goals as goal

pub stretch-requires-clause-going : goal.stretch-requires-clause-going
stretch-requires-clause-going g c =
    going_same c.args.added.now (g.C.Checker.stands c.args.checker.now) (g.C.Checker.stands c.loop-answer.checker) c.loop-answer.invariant.stands (lists_of c.loop-answer.state) c.args.assumed.now c.loop-answer.invariant.going

pub stretch-requires-clause-recorded : goal.stretch-requires-clause-recorded
stretch-requires-clause-recorded g c =
    recorded_same c.args.added.now (g.C.Checker.stands c.args.checker.now) (g.C.Checker.stands c.loop-answer.checker) c.loop-answer.invariant.stands c.loop-answer.state.clauses.items c.args.assumed.now c.args.turns c.loop-answer.invariant.recorded

pub returns-in-Done-clause-justified : goal.returns-in-Done-clause-justified
returns-in-Done-clause-justified g c =
    let all = stretches_same c.args.added.now (g.C.Checker.stands c.loop-answer.checker) (g.C.Checker.stands c.args.checker.now) (λ d. ((c.loop-answer.invariant.stands d).1, (c.loop-answer.invariant.stands d).0))
    (length c.loop-answer.state.values.items) (length c.args.state.now.values.items) c.args.assumed.now c.args.turns (g.C.Checker.newest c.stretch.new.checker) c.may_reduce-may.result
    (lists_of c.stretch.new.state) c.in_ok-answer.field-0 c.loop-answer.invariant.vars c.in_ok-answer.ensures.stretches in
    subst (λ r. Stretches (length c.args.state.now.values.items) c.args.added.now (g.C.Checker.stands c.args.checker.now) c.args.assumed.now c.args.turns (g.C.Checker.newest c.stretch.new.checker) c.may_reduce-may.result (lists_of c.stretch.new.state) r) c.in-Done.is all

pub reduce-requires : goal.reduce-requires
reduce-requires g c =
    let next : Stretches (length c.loop-answer.state.values.items) c.args.added.now (g.C.Checker.stands c.loop-answer.checker) c.args.assumed.now c.args.turns (g.C.Checker.newest c.stretch.new.checker) c.may_reduce-may.result (lists_of c.stretch.new.state) round.Next =
    subst (λ r. Stretches (length c.loop-answer.state.values.items) c.args.added.now (g.C.Checker.stands c.loop-answer.checker) c.args.assumed.now c.args.turns (g.C.Checker.newest c.stretch.new.checker) c.may_reduce-may.result (lists_of c.stretch.new.state) r) c.in-Next.is c.in_ok-answer.ensures.stretches in
    going_same c.args.added.now (g.C.Checker.stands c.loop-answer.checker) (g.C.Checker.stands c.stretch.new.checker) c.stretch.ensures.stands (lists_of c.stretch.new.state) c.args.assumed.now next.0

pub returns-then-not-branch-clause-justified : goal.returns-then-not-branch-clause-justified
returns-then-not-branch-clause-justified g c =
    let reduces : Reduces (lists_of c.stretch.new.state) c.args.added.now (g.C.Checker.stands c.stretch.new.checker) c.args.assumed.now (lists_of c.reduce.new.state) false =
    subst (λ b. Reduces (lists_of c.stretch.new.state) c.args.added.now (g.C.Checker.stands c.stretch.new.checker) c.args.assumed.now (lists_of c.reduce.new.state) b) c.if-not-branch.true c.in_ok-reduce.ensures in
    core_same c.args.added.now (g.C.Checker.stands c.stretch.new.checker) (g.C.Checker.stands c.args.checker.now) (λ d. (
      (λ h. (c.stretch.ensures.stands d).1 ((c.loop-answer.invariant.stands d).1 h)),
      (λ h. (c.loop-answer.invariant.stands d).0 ((c.stretch.ensures.stands d).0 h)),
    )) c.args.assumed.now c.new.result (reduces c.new.result c.new.ensures)

pub loop-answer-preserved : goal.loop-answer-preserved
loop-answer-preserved g c =
    let next : Stretches (length c.loop-answer.state.values.items) c.args.added.now (g.C.Checker.stands c.loop-answer.checker) c.args.assumed.now c.args.turns (g.C.Checker.newest c.stretch.new.checker) c.may_reduce-may.result (lists_of c.stretch.new.state) round.Next =
    subst (λ r. Stretches (length c.loop-answer.state.values.items) c.args.added.now (g.C.Checker.stands c.loop-answer.checker) c.args.assumed.now c.args.turns (g.C.Checker.newest c.stretch.new.checker) c.may_reduce-may.result (lists_of c.stretch.new.state) r) c.in-Next.is c.in_ok-answer.ensures.stretches in
    let reduces : Reduces (lists_of c.stretch.new.state) c.args.added.now (g.C.Checker.stands c.stretch.new.checker) c.args.assumed.now (lists_of c.reduce.new.state) true =
    subst (λ b. Reduces (lists_of c.stretch.new.state) c.args.added.now (g.C.Checker.stands c.stretch.new.checker) c.args.assumed.now (lists_of c.reduce.new.state) b) c.if-not-branch.false c.in_ok-reduce.ensures in
    let whole = OnTrue_at next.2 c.may_reduce-may.ensures in
    record {
      going = going_same c.args.added.now (g.C.Checker.stands c.stretch.new.checker) (g.C.Checker.stands c.args.checker.now) (λ d. (
        (λ h. (c.stretch.ensures.stands d).1 ((c.loop-answer.invariant.stands d).1 h)),
        (λ h. (c.loop-answer.invariant.stands d).0 ((c.stretch.ensures.stands d).0 h)),
      )) (lists_of c.reduce.new.state) c.args.assumed.now reduces.0;
      recorded = λ n e. absurd (cc (sym whole.0 ∙ e));
      vars = reduces.1 ∙ next.1 ∙ c.loop-answer.invariant.vars;
      stands = λ d. (
        (λ h. (c.loop-answer.invariant.stands d).0 ((c.stretch.ensures.stands d).0 h)),
        (λ h. (c.stretch.ensures.stands d).1 ((c.loop-answer.invariant.stands d).1 h)),
      );
    }
