use Rattle.std.proofs.Common.{ap, List, Option, Some, Bool, ◌≡◌, subst, sym, ◌∙◌, inl, inr, length, ◌++◌, ◌∷◌, []}
use Rattle.clause_logic.specs.declared.Lit.{Lit}
use Rattle.clause_trail.specs.View.{lists_of, Lists}
use Rattle.clause_search.specs.Solving.{Recorded}
use Rattle.clause_search.specs.declared.checker.Look.TheVariants as look
use Rattle.clause_search.proofs.Rounding.{decided_going, decided_falls, false_round, solved}
use Rattle.clause_search.proofs.solving.extend.Goals as goal

pub returns-in_ok-branch-in-Open : goal.returns-in_ok-branch-in-Open
returns-in_ok-branch-in-Open g c = λ turns recorded.
    let falls = decided_falls (lists_of c.args.state.now) c.args.added.now (g.C.Checker.stands c.args.checker.now) c.args.assumed.now c.requires.going (lists_of c.branch-state.new.self) c.in-Open.lit (c.args.state.now.starts.items ++ length c.args.state.now.order.items ∷ []) c.in_ok-branch-in-Open.ensures.ok c.in-Open.ensures.1 in (
      decided_going (lists_of c.args.state.now) c.args.added.now (g.C.Checker.stands c.args.checker.now) c.args.assumed.now c.requires.going (lists_of c.branch-state.new.self) c.in-Open.lit (c.args.state.now.starts.items ++ length c.args.state.now.order.items ∷ []) c.branch-state.ensures.sound c.in_ok-branch-in-Open.ensures.ok c.in-Open.ensures.1 (inl c.in-Open.ensures.0),
      falls.0,
      falls.1,
      subst (λ (cs : List (List Lit)). Recorded cs c.args.added.now (g.C.Checker.stands c.args.checker.now) c.args.assumed.now turns) (sym (ap (λ (t : Lists). t.clauses) c.in_ok-branch-in-Open.ensures.ok)) recorded,
    )

pub returns-in_ok-core-in-False : goal.returns-in_ok-core-in-False
returns-in_ok-core-in-False g c = λ turns recorded. false_round (lists_of c.args.state.now) c.args.added.now (g.C.Checker.stands c.args.checker.now) c.args.assumed.now c.requires.going c.in_ok-core-in-False.core c.in_ok-core-in-False.ensures

pub returns-in_ok-branch-in-Some : goal.returns-in_ok-branch-in-Some
returns-in_ok-branch-in-Some g c = λ turns recorded.
    let falls = decided_falls (lists_of c.args.state.now) c.args.added.now (g.C.Checker.stands c.args.checker.now) c.args.assumed.now c.requires.going (lists_of c.branch-state-in-Some.new.self) c.in-Some.lit (c.args.state.now.starts.items ++ length c.args.state.now.order.items ∷ []) c.in_ok-branch-in-Some.ensures.ok c.in-Some.ensures.some in (
      decided_going (lists_of c.args.state.now) c.args.added.now (g.C.Checker.stands c.args.checker.now) c.args.assumed.now c.requires.going (lists_of c.branch-state-in-Some.new.self) c.in-Some.lit (c.args.state.now.starts.items ++ length c.args.state.now.order.items ∷ []) c.branch-state-in-Some.ensures.sound c.in_ok-branch-in-Some.ensures.ok c.in-Some.ensures.some (inr c.in-None.ensures),
      falls.0,
      falls.1,
      subst (λ (cs : List (List Lit)). Recorded cs c.args.added.now (g.C.Checker.stands c.args.checker.now) c.args.assumed.now turns) (sym (ap (λ (t : Lists). t.clauses) c.in_ok-branch-in-Some.ensures.ok)) recorded,
    )

pub returns-in_ok-values-in-None-pick : goal.returns-in_ok-values-in-None-pick
returns-in_ok-values-in-None-pick g c = λ turns recorded.
    let is : c.from_vec.result ≡ c.args.state.now.values.items = c.from_vec.ensures ∙ c.in_ok-values-in-None-pick.ensures.items ∙ c.deref-in-None-pick.ensures.value in (
      solved (lists_of c.args.state.now) c.args.added.now (g.C.Checker.stands c.args.checker.now) c.args.assumed.now c.requires.going c.from_vec.result is c.requires.propagated c.in-None-pick.ensures.none c.in-None.ensures,
      subst (λ (vs : List (Option Bool)). g.C.Checker.newest c.args.checker.now ≡ Some (vs, look.Fits)) (sym is) c.requires.shown,
    )
