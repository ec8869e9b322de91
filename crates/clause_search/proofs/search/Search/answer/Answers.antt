use Rattle.std.proofs.Common.{List, ◌∙◌, ap, sym, subst, arith}
use Rattle.clause_logic.specs.declared.Lit.{Lit}
use Rattle.clause_trail.specs.View.{lists_of}
use Rattle.clause_search.specs.Content.{Stacked}
use Rattle.clause_search.specs.Loading.{IsRoot, Impossible, Loads}
use Rattle.clause_search.specs.Answers.{IsUnsatCore}
use Rattle.clause_search.specs.Solving.{Going, Recorded}
use Rattle.clause_search.proofs.Loads.{root_going, root_recorded, impossible_core}
use Rattle.clause_search.proofs.search.Search.answer.Goals as goal

pub run-requires-clause-going : goal.run-requires-clause-going
run-requires-clause-going g c =
    let root : IsRoot (lists_of c.in-Ready.state) c.len-vars.result c.deref.result.now = subst (Loads c.len-vars.result c.deref.result.now) c.in-Ready.is c.in_ok-load.ensures in
    subst (λ (cs : List (List Lit)). Going (lists_of c.in-Ready.state) cs (g.C.Checker.stands c.args.checker.now) c.args.assumed.now) (c.deref.ensures.value ∙ sym c.deref-in-Ready-2.ensures.value)
    (root_going (lists_of c.in-Ready.state) c.len-vars.result c.deref.result.now (g.C.Checker.stands c.args.checker.now) c.args.assumed.now root)

pub run-requires-clause-recorded : goal.run-requires-clause-recorded
run-requires-clause-recorded g c =
    let root : IsRoot (lists_of c.in-Ready.state) c.len-vars.result c.deref.result.now = subst (Loads c.len-vars.result c.deref.result.now) c.in-Ready.is c.in_ok-load.ensures in
    subst (λ (cs : List (List Lit)). Recorded c.in-Ready.state.clauses.items cs (g.C.Checker.stands c.args.checker.now) c.args.assumed.now c.args.turns) (c.deref.ensures.value ∙ sym c.deref-in-Ready-2.ensures.value)
    (root_recorded (lists_of c.in-Ready.state) c.len-vars.result c.deref.result.now (g.C.Checker.stands c.args.checker.now) c.args.assumed.now c.args.turns root)

pub run-requires-clause-known : goal.run-requires-clause-known
run-requires-clause-known g c = λ m i.
    let root : IsRoot (lists_of c.in-Ready.state) c.len-vars.result c.deref.result.now = subst (Loads c.len-vars.result c.deref.result.now) c.in-Ready.is c.in_ok-load.ensures in
    omega (arith, c.requires.known m i, ap (λ (o : Stacked). o.content.vars) c.self.view_is, c.len-vars.ensures, c.self.inside.phases.ok.0, root.vars)

pub returns-in-Refuted-clause-justified : goal.returns-in-Refuted-clause-justified
returns-in-Refuted-clause-justified g c =
    let none : Impossible c.deref.result.now = subst (Loads c.len-vars.result c.deref.result.now) c.in-Refuted.is c.in_ok-load.ensures in
    subst (λ (cs : List (List Lit)). IsUnsatCore cs (g.C.Checker.stands c.args.checker.now) c.args.assumed.now c.new.result) (c.deref.ensures.value ∙ ap (λ (o : Stacked). o.content.clauses) c.self.view_is)
    (impossible_core c.deref.result.now (g.C.Checker.stands c.args.checker.now) c.args.assumed.now c.new.result none c.new.ensures)
