-- Lists of formulas: of two lists, and of terms that were judged one by one.
use Rattle.std.proofs.Common.{◌≡◌, ◌++◌, List, [], Option, Some, None, refl, sym, subst, ⊎_elim}
use Rattle.clause_search.specs.declared.Turns.{Turns}
use Rattle.term_shapes.specs.declared.handles.Term.{Term}
use Rattle.term_table.specs.World.{World}
use Rattle.term_orders.specs.Orders.{IsIn, IsBelow, IsVariable}
use Rattle.term_checks.specs.Formulas.{AreFormulas}
use Rattle.term_checks.proofs.Starts.{in_either}
use Rattle.context_stack.specs.declared.checks.Checked.{Checked}
use Rattle.context_stack.specs.declared.checks.Checked.TheVariants as checked
use Rattle.context_stack.specs.Levels.{formulas}
use Rattle.context_stack.specs.States.{ContextState}
use Rattle.context_stack.specs.Checks.{AreTruthValues, Answers, Judges, Checks, assumptions, status_of}

-- formulas and assumptions are formulas
pub both_formulas : (w : World) (fs us : List Term) → AreFormulas w fs → AreFormulas w us → AreFormulas w (fs ++ us)
both_formulas w fs us a b t h = ⊎_elim (a t) (b t) (in_either fs us t h)

-- truth values with no variable below them
pub closed_formulas : (w : World) (ts : List Term) → AreTruthValues w ts → ((t v : Term) → IsIn ts t → IsBelow w v t → IsVariable w v → ⊥) → AreFormulas w ts
closed_formulas w ts sorts closed t h = record { sort = sorts h.place t h.at; closed = λ v b i. closed t v h b i }

-- a check that was asked without assumptions keeps no core
pub without_assumptions : (w : World) (fs : List Term) (turns : Turns) (found : Checked) (core : Option (List Term)) → Answers w fs (Some []) turns found core → Answers w fs None turns found None
without_assumptions w fs turns (checked.Sat values) core h = (h.0, refl)
without_assumptions w fs turns checked.Unsat core (blamed, is, kept) = (blamed, is, refl)
without_assumptions w fs turns (checked.Unknown learned) core h = (h.0, refl)
without_assumptions w fs turns checked.NotBuilt core h = refl
without_assumptions w fs turns checked.NoMemory core h = refl

-- what was found of the formulas is kept
pub check_kept : (w : World) (asked : Option (List Term)) (turns : Turns) (found : Checked) (fs : List Term) (old new : ContextState) (kept : Option (List Term)) → fs ≡ formulas old.levels → Answers w fs asked turns found kept → Judges w (fs ++ assumptions asked) found → new.levels ≡ old.levels → new.status ≡ status_of found → new.core ≡ kept → Checks w asked turns found old new
check_kept w asked turns found fs old new kept is answers judges levels status core = record {
  answer = subst (Answers w (formulas old.levels) asked turns found) (sym core) (subst (λ z. Answers w z asked turns found kept) is answers);
  judges = subst (λ z. Judges w (z ++ assumptions asked) found) is judges;
  status = status;
  levels = levels;
}
