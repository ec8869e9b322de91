use Rattle.std.proofs.Common.{◌<◌, subst, sym, ap, length}
use Rattle.std.proofs.lemmas.Result.{IfOk-weaker}
use Rattle.clause_logic.specs.declared.Lit.{Lit}
use Rattle.clause_logic.specs.Clauses.{In, Follows, Both, Listed}
use Rattle.clause_logic.specs.Trails.{FalseBefore}
use Rattle.clause_trail.specs.View.{lists_of, Lists}
use Rattle.clause_search.specs.Solving.{Going, Recorded, weight}
use Rattle.clause_search.proofs.Rounding.{going_same, recorded_same, follows_stands, look_false, rounds_same, weight_same}
use Rattle.clause_search.proofs.solving.ask.Goals as goal

pub extend-requires-clause-going : goal.extend-requires-clause-going
extend-requires-clause-going g c =
    subst (λ (t : Lists). Going t c.args.added.now (g.C.Checker.stands c.show.new.checker) c.args.assumed.now) (sym c.show.ensures.state) (going_same c.args.added.now (g.C.Checker.stands c.args.checker.now) (g.C.Checker.stands c.show.new.checker) c.show.ensures.stands (lists_of c.args.state.now) c.args.assumed.now c.requires.going)

pub learn_from-requires-clause-going : goal.learn_from-requires-clause-going
learn_from-requires-clause-going g c =
    subst (λ (t : Lists). Going t c.args.added.now (g.C.Checker.stands c.show.new.checker) c.args.assumed.now) (sym c.show.ensures.state) (going_same c.args.added.now (g.C.Checker.stands c.args.checker.now) (g.C.Checker.stands c.show.new.checker) c.show.ensures.stands (lists_of c.args.state.now) c.args.assumed.now c.requires.going)

pub learn_from-requires-clause-recorded : goal.learn_from-requires-clause-recorded
learn_from-requires-clause-recorded g c =
    subst (λ (t : Lists). Recorded t.clauses c.args.added.now (g.C.Checker.stands c.show.new.checker) c.args.assumed.now c.args.turns) (sym c.show.ensures.state)
    (recorded_same c.args.added.now (g.C.Checker.stands c.args.checker.now) (g.C.Checker.stands c.show.new.checker) c.show.ensures.stands c.args.state.now.clauses.items c.args.assumed.now c.args.turns c.requires.recorded)

pub extend-requires-clause-known : goal.extend-requires-clause-known
extend-requires-clause-known g c = subst (λ (t : Lists). (m : Lit) → In m c.args.assumed.now → m.var < length t.values) (sym c.show.ensures.state) c.requires.known

pub learn_from-requires-clause-known : goal.learn_from-requires-clause-known
learn_from-requires-clause-known g c = subst (λ (t : Lists). (m : Lit) → In m c.args.assumed.now → m.var < length t.values) (sym c.show.ensures.state) c.requires.known

pub learn_from-requires-clause-false_there : goal.learn_from-requires-clause-false_there
learn_from-requires-clause-false_there g c =
    subst (λ (t : Lists). (m : Lit) → In m c.as_slice.result.now → FalseBefore t.order (length t.order) m) (sym c.show.ensures.state)
    (look_false (lists_of c.args.state.now) c.args.added.now (g.C.Checker.stands c.args.checker.now) c.args.assumed.now c.requires.going c.as_slice.result.now (λ l i. c.in-Conflict.ensures.lawful.0 l (subst (In l) c.as_slice.ensures i)))

pub learn_from-requires-clause-follows : goal.learn_from-requires-clause-follows
learn_from-requires-clause-follows g c =
    subst (Follows (Both (Listed c.args.added.now) (g.C.Checker.stands c.show.new.checker))) (sym c.as_slice.ensures) (follows_stands c.args.added.now (g.C.Checker.stands c.args.checker.now) (g.C.Checker.stands c.show.new.checker) c.show.ensures.stands c.in-Conflict.clause c.in-Conflict.ensures.lawful.1)

pub returns-in-Fits-clause-rounds : goal.returns-in-Fits-clause-rounds
returns-in-Fits-clause-rounds g c =
    IfOk-weaker c.extend.result _ _
    (λ r rounds. rounds_same c.args.added.now (g.C.Checker.stands c.show.new.checker) (g.C.Checker.stands c.args.checker.now) (λ d. ((c.show.ensures.stands d).1, (c.show.ensures.stands d).0))
    (length c.show.new.state.values.items) (length c.args.state.now.values.items) c.args.assumed.now c.args.turns (g.C.Checker.newest c.show.new.checker) (weight (lists_of c.show.new.state) c.args.added.now) (weight (lists_of c.args.state.now) c.args.added.now) (lists_of c.extend.new.state) r
    (ap (λ (t : Lists). length t.values) c.show.ensures.state) (weight_same (lists_of c.show.new.state) (lists_of c.args.state.now) c.args.added.now c.show.ensures.state) (rounds c.args.turns
    (subst (λ (t : Lists). Recorded t.clauses c.args.added.now (g.C.Checker.stands c.show.new.checker) c.args.assumed.now c.args.turns) (sym c.show.ensures.state) (recorded_same c.args.added.now (g.C.Checker.stands c.args.checker.now) (g.C.Checker.stands c.show.new.checker) c.show.ensures.stands c.args.state.now.clauses.items c.args.assumed.now c.args.turns c.requires.recorded))))
    c.extend.ensures

pub returns-in-Conflict-clause-rounds : goal.returns-in-Conflict-clause-rounds
returns-in-Conflict-clause-rounds g c =
    IfOk-weaker c.learn_from.result _ _
    (λ r rounds. rounds_same c.args.added.now (g.C.Checker.stands c.show.new.checker) (g.C.Checker.stands c.args.checker.now) (λ d. ((c.show.ensures.stands d).1, (c.show.ensures.stands d).0))
    (length c.show.new.state.values.items) (length c.args.state.now.values.items) c.args.assumed.now c.args.turns (g.C.Checker.newest c.show.new.checker) (weight (lists_of c.show.new.state) c.args.added.now) (weight (lists_of c.args.state.now) c.args.added.now) (lists_of c.learn_from.new.state) r
    (ap (λ (t : Lists). length t.values) c.show.ensures.state) (weight_same (lists_of c.show.new.state) (lists_of c.args.state.now) c.args.added.now c.show.ensures.state) rounds)
    c.learn_from.ensures
