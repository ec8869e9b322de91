use Rattle.std.proofs.Common.{subst, sym, length, List}
use Rattle.std.proofs.lemmas.Result.{IfOk-weaker}
use Rattle.clause_logic.specs.declared.Lit.{Lit}
use Rattle.clause_logic.specs.Clauses.{In, Follows, Both, Listed}
use Rattle.clause_trail.specs.View.{lists_of}
use Rattle.clause_search.specs.Solving.{Recorded, weight}
use Rattle.clause_search.proofs.Rounding.{grown_going, grown_weight, clash_false, lawful, rounds_same}
use Rattle.clause_search.proofs.solving.run_round.Goals as goal

pub learn_from-requires-clause-going : goal.learn_from-requires-clause-going
learn_from-requires-clause-going g c = (grown_going (lists_of c.args.state.now) c.args.added.now (g.C.Checker.stands c.args.checker.now) c.args.assumed.now c.requires.going (lists_of c.propagate.new.self) c.propagate.ensures.sound c.propagate.ensures.grown)

pub ask-requires-clause-going : goal.ask-requires-clause-going
ask-requires-clause-going g c = (grown_going (lists_of c.args.state.now) c.args.added.now (g.C.Checker.stands c.args.checker.now) c.args.assumed.now c.requires.going (lists_of c.propagate.new.self) c.propagate.ensures.sound c.propagate.ensures.grown)

pub learn_from-requires-clause-recorded : goal.learn_from-requires-clause-recorded
learn_from-requires-clause-recorded g c = subst (λ (cs : List (List Lit)). Recorded cs c.args.added.now (g.C.Checker.stands c.args.checker.now) c.args.assumed.now c.args.turns) (sym c.propagate.ensures.grown.clauses) c.requires.recorded

pub ask-requires-clause-recorded : goal.ask-requires-clause-recorded
ask-requires-clause-recorded g c = subst (λ (cs : List (List Lit)). Recorded cs c.args.added.now (g.C.Checker.stands c.args.checker.now) c.args.assumed.now c.args.turns) (sym c.propagate.ensures.grown.clauses) c.requires.recorded

pub learn_from-requires-clause-false_there : goal.learn_from-requires-clause-false_there
learn_from-requires-clause-false_there g c = λ m i.
    clash_false (lists_of c.propagate.new.self) c.args.added.now (g.C.Checker.stands c.args.checker.now) c.args.assumed.now (grown_going (lists_of c.args.state.now) c.args.added.now (g.C.Checker.stands c.args.checker.now) c.args.assumed.now c.requires.going (lists_of c.propagate.new.self) c.propagate.ensures.sound c.propagate.ensures.grown)
    c.in-Some.c c.in_ok-lits-in-Some.lits (rw c.in-Some.is at c.in_ok-c.ensures.clash) c.in_ok-lits-in-Some.ensures m (subst (In m) c.as_slice.ensures i)

pub learn_from-requires-clause-follows : goal.learn_from-requires-clause-follows
learn_from-requires-clause-follows g c =
    subst (Follows (Both (Listed c.args.added.now) (g.C.Checker.stands c.args.checker.now))) (sym c.as_slice.ensures)
    (lawful (lists_of c.propagate.new.self) c.args.added.now (g.C.Checker.stands c.args.checker.now) c.args.assumed.now (grown_going (lists_of c.args.state.now) c.args.added.now (g.C.Checker.stands c.args.checker.now) c.args.assumed.now c.requires.going (lists_of c.propagate.new.self) c.propagate.ensures.sound c.propagate.ensures.grown) c.in_ok-lits-in-Some.lits (c.in-Some.c, c.in_ok-lits-in-Some.ensures))

pub returns-in_ok-lits-in-Some-clause-rounds : goal.returns-in_ok-lits-in-Some-clause-rounds
returns-in_ok-lits-in-Some-clause-rounds g c =
    IfOk-weaker c.learn_from.result _ _
    (λ r rounds. rounds_same c.args.added.now (g.C.Checker.stands c.args.checker.now) (g.C.Checker.stands c.args.checker.now) (λ d. ((λ h. h), (λ h. h)))
    (length c.propagate.new.self.values.items) (length c.args.state.now.values.items) c.args.assumed.now c.args.turns (g.C.Checker.newest c.args.checker.now) (weight (lists_of c.propagate.new.self) c.args.added.now) (weight (lists_of c.args.state.now) c.args.added.now) (lists_of c.learn_from.new.state) r
    c.propagate.ensures.grown.vars (grown_weight (lists_of c.args.state.now) (lists_of c.propagate.new.self) c.args.added.now c.propagate.ensures.grown) rounds)
    c.learn_from.ensures

pub returns-in-None-clause-rounds : goal.returns-in-None-clause-rounds
returns-in-None-clause-rounds g c =
    IfOk-weaker c.ask.result _ _
    (λ r rounds. rounds_same c.args.added.now (g.C.Checker.stands c.args.checker.now) (g.C.Checker.stands c.args.checker.now) (λ d. ((λ h. h), (λ h. h)))
    (length c.propagate.new.self.values.items) (length c.args.state.now.values.items) c.args.assumed.now c.args.turns (g.C.Checker.newest c.ask.new.checker) (weight (lists_of c.propagate.new.self) c.args.added.now) (weight (lists_of c.args.state.now) c.args.added.now) (lists_of c.ask.new.state) r
    c.propagate.ensures.grown.vars (grown_weight (lists_of c.args.state.now) (lists_of c.propagate.new.self) c.args.added.now c.propagate.ensures.grown) rounds)
    c.ask.ensures.rounds
