use Rattle.std.proofs.Common.{◌∙◌, ap, sym, subst, ⊎_elim, not, Some}
use Rattle.std.proofs.lemmas.Option.{slice_get-get_or}
use Rattle.clause_logic.specs.declared.Lit.{Lit}
use Rattle.clause_logic.specs.Clauses.{In}
use Rattle.clause_logic.proofs.Lits.{not_not}
use Rattle.clause_logic.proofs.Members.{in_push_cases}
use Rattle.clause_search.specs.Answers.{IsFalseIn}
use Rattle.clause_search.proofs.tests.refusal.Goals as goal

pub loop-var-preserved : goal.loop-var-preserved
loop-var-preserved c = λ m i.
    let x : Lit = record { var = c.loop-var.var; positive = not c.in-Some.value } in
    ⊎_elim
    (λ e. subst (IsFalseIn c.args.shown.now) e (slice_get-get_or c.args.shown.now c.loop-var.var _ c.loop-var-test.true ∙ ap Some (c.in-Some.is ∙ ap Some (sym (not_not c.in-Some.value)))))
    (λ k. c.loop-var.invariant m k)
    (in_push_cases c.loop-var.lits.items x m (subst (In m) c.in_ok-push-in-Some.ensures.items i))
