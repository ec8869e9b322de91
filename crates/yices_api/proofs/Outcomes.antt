-- What always holds stays so whatever a call below answers.
use Rattle.std.proofs.Common.{◌≡◌, ℕ, List, [], ◌∷◌, ◌++◌, Option, Result, Ok, Err, refl, sym, subst, append-nil, arith}
use Rattle.std.specs.Prelude.{OnOk, OnErr, IfOk, IsSome}
use Rattle.term_shapes.specs.declared.handles.Term.{Term}
use Rattle.term_shapes.specs.declared.handles.TypeId.{TypeId}
use Rattle.term_table.specs.World.{World}
use Rattle.term_checks.specs.Formulas.{IsFormula, AreFormulas}
use Rattle.term_table.specs.declared.table.Marked.{Marked}
use Rattle.term_table.specs.declared.table.Marked.TheVariants as marked
use Rattle.term_collect.specs.Marking.{Keeping}
use Rattle.context_stack.specs.Levels.{formulas}
use Rattle.context_stack.specs.States.{ContextState, held_terms}
use Rattle.context_stack.specs.Steps.{Asserts}
use Rattle.context_stack.specs.Checks.{Checks}
use Rattle.context_stack.specs.declared.checks.Checked.{Checked}
use Rattle.clause_search.specs.declared.Turns.{Turns}
use Rattle.yices_api.specs.declared.handles.ContextId.{ContextId}
use Rattle.yices_api.specs.State.{Contexts, IsEnvironment}
use Rattle.yices_api.specs.Calls.{listed_terms, listed_types}
use Rattle.yices_api.specs.Steps.{Alters, Relevels}
use Rattle.yices_api.proofs.Tables.{Extends, extends_as, extends_self}
use Rattle.yices_api.proofs.Stamps.{state, put_environment}
use Rattle.yices_api.proofs.Holding.{releveled, asserted_formulas, checked_formulas}
use Rattle.yices_api.proofs.Rooting.{keeping_as}

pub done_extends : {A E : Type 0} (r : Result A E) (P : Type 0) (w x : World) → OnOk r P → OnErr r (x ≡ w) → (P → Extends w x) → Extends w x
done_extends (Ok a) P w x h k f = f h
done_extends (Err e) P w x h k f = extends_as w w x (sym k) (extends_self w)

pub made_extends : {A E : Type 0} (r : Result A E) (P : A → Type 0) (w x : World) → IfOk r P → OnErr r (x ≡ w) → ((a : A) → P a → Extends w x) → Extends w x
made_extends (Ok a) P w x h k f = f a h
made_extends (Err e) P w x h k f = extends_as w w x (sym k) (extends_self w)

-- what follows where a call was done
pub done_on : {A E : Type 0} (r : Result A E) (P Q : Type 0) → OnOk r P → (P → Q) → OnOk r Q
done_on (Ok a) P Q h f = f h
done_on (Err e) P Q h f = tt

pub done_both : {A E : Type 0} (r : Result A E) (P Q R : Type 0) → OnOk r P → OnOk r Q → (P → Q → R) → OnOk r R
done_both (Ok a) P Q R h k f = f h k
done_both (Err e) P Q R h k f = tt

-- what follows where it answers a value
pub answer_on : {A E : Type 0} (r : Result A E) (P Q : A → Type 0) → IfOk r P → ((a : A) → P a → Q a) → IfOk r Q
answer_on (Ok a) P Q h f = f a h
answer_on (Err e) P Q h f = tt

module _ (w : World) (old new : Contexts) (m : ℕ) (c : ContextId) (env : IsEnvironment (state w old m)) where
  pub altered_on : (how : ContextState → ContextState → Type 0) → Alters how c old new → ((x y : ContextState) → AreFormulas w (held_terms x) → how x y → AreFormulas w (held_terms y)) → IsEnvironment (state w new m)
  altered_on how alters stay =
      put_environment w old new m m env c alters.after alters.puts (stay alters.before alters.after (env.formulas c alters.before alters.was) alters.changed) (env.given c alters.before alters.was) (omega arith) env.few

  pub releveled_on : (how : List (List Term) → List (List Term) → Type 0) → Alters (Relevels how) c old new → ((ls ms : List (List Term)) → AreFormulas w (formulas ls) → how ls ms → AreFormulas w (formulas ms)) → IsEnvironment (state w new m)
  releveled_on how alters stay = altered_on (Relevels how) alters (releveled w how stay)

  pub releveled_environment : {A E : Type 0} (r : Result A E) (how : List (List Term) → List (List Term) → Type 0) → OnOk r (Alters (Relevels how) c old new) → OnErr r (new ≡ old) → ((ls ms : List (List Term)) → AreFormulas w (formulas ls) → how ls ms → AreFormulas w (formulas ms)) → IsEnvironment (state w new m)
  releveled_environment (Ok a) how h k stay = releveled_on how h stay
  releveled_environment (Err e) how h k stay = subst (λ z. IsEnvironment (state w z m)) (sym k) env

  pub asserted_environment : {A E : Type 0} (r : Result A E) (t : Term) → OnOk r (Alters (Relevels (λ ls ms. Asserts ls ms t)) c old new) → OnOk r (IsFormula w t) → OnErr r (new ≡ old) → IsEnvironment (state w new m)
  asserted_environment (Ok a) t h f k = releveled_on (λ ls ms. Asserts ls ms t) h (asserted_formulas w t f)
  asserted_environment (Err e) t h f k = subst (λ z. IsEnvironment (state w z m)) (sym k) env

  pub checked_on : (assumed : Option (List Term)) (turns : Turns) (found : Checked) → Alters (Checks w assumed turns found) c old new → IsEnvironment (state w new m)
  checked_on assumed turns found alters = altered_on (Checks w assumed turns found) alters (checked_formulas w assumed turns found)

  pub checked_environment : {E : Type 0} (r : Result Checked E) (assumed : Option (List Term)) (turns : Turns) → IfOk r (λ found. Alters (Checks w assumed turns found) c old new) → OnErr r (new ≡ old) → IsEnvironment (state w new m)
  checked_environment (Ok found) assumed turns h k = checked_on assumed turns found h
  checked_environment (Err e) assumed turns h k = subst (λ z. IsEnvironment (state w z m)) (sym k) env

-- a listed handle is kept
module _ (old now : World) (ts : List Term) (us : List TypeId) (root : Marked) where
  pub root_term : (t : Term) → root ≡ marked.Term t → Keeping old now (ts ++ t ∷ []) us → Keeping old now (ts ++ listed_terms (root ∷ [])) (us ++ listed_types (root ∷ []))
  root_term t e h = subst (λ (z : Marked). Keeping old now (ts ++ listed_terms (z ∷ [])) (us ++ listed_types (z ∷ []))) (sym e) (keeping_as old now _ _ _ _ h refl (sym (append-nil us)))

  pub root_type : (t : TypeId) → root ≡ marked.TypeId t → Keeping old now ts (us ++ t ∷ []) → Keeping old now (ts ++ listed_terms (root ∷ [])) (us ++ listed_types (root ∷ []))
  root_type t e h = subst (λ (z : Marked). Keeping old now (ts ++ listed_terms (z ∷ [])) (us ++ listed_types (z ∷ []))) (sym e) (keeping_as old now _ _ _ _ h (sym (append-nil ts)) refl)
