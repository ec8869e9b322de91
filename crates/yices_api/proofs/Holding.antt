-- What a context holds after each change of it is formulas.
use Rattle.std.proofs.Common.{◌≡◌, ◌∙◌, List, [], ◌∷◌, ◌++◌, Option, Some, None, sym, ap, subst, append_assoc, append-nil}
use Rattle.clause_search.specs.declared.Turns.{Turns}
use Rattle.term_shapes.specs.declared.handles.Term.{Term}
use Rattle.term_table.specs.World.{World}
use Rattle.term_checks.specs.Formulas.{IsFormula, AreFormulas}
use Rattle.context_stack.specs.Levels.{formulas}
use Rattle.context_stack.specs.States.{ContextState, IsUnchecked, core_terms, held_terms}
use Rattle.context_stack.specs.Steps.{Asserts, Pops}
use Rattle.context_stack.specs.Checks.{Answers, Judges, Checks, assumptions}
use Rattle.context_stack.specs.declared.checks.Checked.{Checked}
use Rattle.context_stack.specs.declared.checks.Checked.TheVariants as checked
use Rattle.yices_api.specs.Steps.{Relevels}
use Rattle.yices_api.proofs.Lists.{formulas_none, formulas_alone, formulas_both, formulas_front, formulas_back, formulas_last}

module _ (w : World) where
  -- on the levels
  pub on_levels : (x : ContextState) → AreFormulas w (held_terms x) → AreFormulas w (formulas x.levels)
  on_levels x h = formulas_front w (formulas x.levels) (core_terms x.core) h

  pub no_core : (x : ContextState) → IsUnchecked x → AreFormulas w (formulas x.levels) → AreFormulas w (held_terms x)
  no_core x unchecked h = subst (AreFormulas w) (sym (ap (λ z. formulas x.levels ++ core_terms z) unchecked.core ∙ append-nil (formulas x.levels))) h

  -- where the levels change
  pub releveled : (how : List (List Term) → List (List Term) → Type 0) → ((ls ms : List (List Term)) → AreFormulas w (formulas ls) → how ls ms → AreFormulas w (formulas ms)) → (x y : ContextState) → AreFormulas w (held_terms x) → Relevels how x y → AreFormulas w (held_terms y)
  releveled how stay x y h changes = no_core y changes.1 (stay x.levels y.levels (on_levels x h) changes.0)

  pub pushed_formulas : (ls ms : List (List Term)) → AreFormulas w (formulas ls) → ms ≡ ls ++ [] ∷ [] → AreFormulas w (formulas ms)
  pushed_formulas ls ms h e = subst (AreFormulas w) (sym (ap formulas e ∙ formulas_last ls [] ∙ append-nil (formulas ls))) h

  pub popped_formulas : (ls ms : List (List Term)) → AreFormulas w (formulas ls) → Pops ls ms → AreFormulas w (formulas ms)
  popped_formulas ls ms h pops = formulas_front w (formulas ms) pops.newest (subst (AreFormulas w) (ap formulas pops.before ∙ formulas_last ms pops.newest) h)

  pub asserted_formulas : (t : Term) → IsFormula w t → (ls ms : List (List Term)) → AreFormulas w (formulas ls) → Asserts ls ms t → AreFormulas w (formulas ms)
  asserted_formulas t is ls ms h asserts =
      subst (AreFormulas w) (sym (ap formulas asserts.after ∙ formulas_last asserts.lower (asserts.newest ++ t ∷ []) ∙ sym (append_assoc (formulas asserts.lower) asserts.newest (t ∷ []))))
      (formulas_both w (formulas asserts.lower ++ asserts.newest) (t ∷ []) (subst (AreFormulas w) (ap formulas asserts.before ∙ formulas_last asserts.lower asserts.newest) h) (formulas_alone w t is))

  pub empty_formulas : (ms : List (List Term)) → ms ≡ [] ∷ [] → AreFormulas w (formulas ms)
  empty_formulas ms e = subst (AreFormulas w) (sym (ap formulas e)) (formulas_none w)

  -- a core is among assumptions that are formulas
  no_terms : (core : Option (List Term)) → core ≡ None → AreFormulas w (core_terms core)
  no_terms core e = subst (λ (z : Option (List Term)). AreFormulas w (core_terms z)) (sym e) (formulas_none w)

  core_formulas : (fs : List Term) (assumed : Option (List Term)) (turns : Turns) (found : Checked) (core : Option (List Term)) → Answers w fs assumed turns found core → Judges w (fs ++ assumptions assumed) found → AreFormulas w (core_terms core)
  core_formulas fs assumed turns (checked.Sat values) core answer judges = no_terms core answer.1
  core_formulas fs None turns checked.Unsat core (blamed, is, e) judges = no_terms core e
  core_formulas fs (Some ts) turns checked.Unsat core (blamed, is, e) judges =
      subst (λ (z : Option (List Term)). AreFormulas w (core_terms z)) (sym e) (λ t here. formulas_back w fs ts judges.0 t (is.within t here))
  core_formulas fs assumed turns (checked.Unknown learned) core answer judges = no_terms core answer.1
  core_formulas fs assumed turns checked.NotBuilt core answer judges = no_terms core answer
  core_formulas fs assumed turns checked.NoMemory core answer judges = no_terms core answer

  -- where it is checked
  pub checked_formulas : (assumed : Option (List Term)) (turns : Turns) (found : Checked) (x y : ContextState) → AreFormulas w (held_terms x) → Checks w assumed turns found x y → AreFormulas w (held_terms y)
  checked_formulas assumed turns found x y h checks =
      formulas_both w (formulas y.levels) (core_terms y.core)
      (subst (λ z. AreFormulas w (formulas z)) (sym checks.levels) (on_levels x h))
      (core_formulas (formulas x.levels) assumed turns found y.core checks.answer checks.judges)
