-- Values of the code as what an operator makes, and answers that may be refused.
use Rattle.std.proofs.Common.{◌≡◌, ℕ, Bool, true, List, Result, Ok, Err, map, refl, sym, subst, if◌then◌else◌}
use Rattle.std.specs.Prelude.{IfOk, IfErr, OnErr}
use Rattle.std.specs.Map.{lookup}
use Rattle.rationals.specs.Rational.{ℚ}
use Rattle.y_tree.specs.Sorts.{Sort}
use Rattle.y_tree.specs.Values.{Value, truth, number, bits, values, call, zero_of}
use Rattle.y_tree.specs.Order.{is_formed, put_in}
use Rattle.y_tree.specs.Plain.{plain_value}
use Rattle.y_tree.specs.declared.BvOp.{BvOp}
use Rattle.y_tree.specs.Meaning.{Assignment, truth_of, linear_value, bits_of, on_bits}
use Rattle.y_tree.specs.declared.values.Value as code
use Rattle.y_tree.specs.declared.values.Value.TheVariants as code_of
use Rattle.y_tree.proofs.Shapes.{plain_bool, plain_real, plain_bv}
use Rattle.term_shapes.specs.declared.handles.Term.{Term}
use Rattle.term_shapes.specs.declared.handles.TypeId.{TypeId}
use Rattle.term_shapes.specs.declared.lists.Monomial.{Monomial}
use Rattle.term_shapes.specs.declared.shapes.Shape.{Shape}
use Rattle.term_shapes.specs.declared.shapes.Shape.TheVariants as shape
use Rattle.term_shapes.specs.Shapes.{args_of}
use Rattle.term_table.specs.World.{World, HasShape, KeepsType, IsTable}
use Rattle.term_table.proofs.Standing.{if_ok}
use Rattle.term_orders.specs.Orders.{IsIn}
use Rattle.model_eval.specs.declared.errors.EvalError.{EvalError}
use Rattle.model_eval.specs.declared.errors.EvalError.TheVariants as eval_error
use Rattle.model_eval.specs.Known.{same_term, found}
use Rattle.model_eval.specs.Models.{AreFormed, IsModel, assignment_of}
use Rattle.model_eval.specs.Evaluating.{IsReady, IsApplied, IsEvaluated, IsValueOf, IsNoSum, or_zero, RefusesShape, RefusesHere}
use Rattle.model_eval.proofs.Arms.{choice_made, words_made, variable_made, constant_made}
use Rattle.model_eval.proofs.Calls.{call_made, update_made}
use Rattle.model_eval.specs.Sums.{numbers, RefusesSum}
use Rattle.model_eval.proofs.Adding.{wide_here, sum_made}
use Rattle.model_eval.proofs.Made.{value_made}

module _ (w : World) (a : Assignment) (es : List (Term × code.Value)) (s : Shape) where
  pub bool_is : (b : Bool) → IsApplied w a es s (truth b) → IsApplied w a es s (plain_value (code_of.Bool b))
  bool_is b h = subst (IsApplied w a es s) (sym (plain_bool b)) h

  pub real_is : (q : ℚ) → IsApplied w a es s (number q) → IsApplied w a es s (plain_value (code_of.Real q))
  real_is q h = subst (IsApplied w a es s) (sym (plain_real q)) h

  pub bits_is : (n k : ℕ) → IsApplied w a es s (bits n k) → IsApplied w a es s (plain_value (code_of.Bv n k))
  bits_is n k h = subst (IsApplied w a es s) (sym (plain_bv n k)) h

  pub choice_ok : {E : Type 0} (c t u : Term) (r : Result code.Value E) → s ≡ shape.Ite c t u → IfOk r (λ v. plain_value v ≡ (if truth_of (found es c) then found es t else found es u)) → IfOk r (λ v. IsApplied w a es s (plain_value v))
  choice_ok c t u r e h = if_ok r (λ v. plain_value v ≡ (if truth_of (found es c) then found es t else found es u)) (λ v. IsApplied w a es s (plain_value v)) (λ v is. choice_made w a es s c t u (plain_value v) e is) h

  pub call_ok : {E : Type 0} (f : Term) (ts : List Term) (r : Result code.Value E) → s ≡ shape.App f ts → IfOk r (λ v. plain_value v ≡ call (found es f) (values (map (found es) ts))) → IfOk r (λ v. IsApplied w a es s (plain_value v))
  call_ok f ts r e h = if_ok r (λ v. plain_value v ≡ call (found es f) (values (map (found es) ts))) (λ v. IsApplied w a es s (plain_value v)) (λ v is. call_made w a es s f ts (plain_value v) e is) h

  pub update_ok : {E : Type 0} (f : Term) (ts : List Term) (y : Term) (r : Result code.Value E) → s ≡ shape.Update f ts y → IfOk r (λ v. plain_value v ≡ put_in (values (map (found es) ts)) (found es y) (found es f)) → IfOk r (λ v. is_formed (plain_value v) ≡ true)
      → IfOk r (λ v. IsApplied w a es s (plain_value v))
  update_ok f ts y (Ok v) e h formed = update_made w a es s f ts y (plain_value v) e h formed
  update_ok f ts y (Err x) e h formed = tt

  pub words_ok : {E : Type 0} (op : BvOp) (ts : List Term) (r : Result code.Value E) → s ≡ shape.Bv op ts → IfOk r (λ v. plain_value v ≡ on_bits op (map bits_of (map (found es) ts))) → IfOk r (λ v. is_formed (plain_value v) ≡ true)
      → IfOk r (λ v. IsApplied w a es s (plain_value v))
  words_ok op ts (Ok v) e h formed = words_made w a es s op ts (plain_value v) e h formed
  words_ok op ts (Err x) e h formed = tt

module _ (w : World) (table : IsTable w) (m : List (Term × Value)) (model : IsModel w m) (formed : AreFormed m) (es : List (Term × code.Value)) (t : Term) (s : Shape) (has : HasShape w t s) where
  pub variable_ok : {E : Type 0} (n : ℕ) (of : TypeId) (r : Result code.Value E) → s ≡ shape.Var n of → IfOk r (λ v. (k : Sort) → KeepsType w of k → plain_value v ≡ zero_of k) → IfOk r (λ v. IsApplied w (assignment_of w m) es s (plain_value v))
  variable_ok n of r e h = if_ok r (λ v. (k : Sort) → KeepsType w of k → plain_value v ≡ zero_of k) (λ v. IsApplied w (assignment_of w m) es s (plain_value v)) (λ v is. variable_made w table m model formed es t s has n of (plain_value v) e is) h

  pub constant_ok : {E : Type 0} (n : ℕ) (of : TypeId) (r : Result code.Value E) → s ≡ shape.Const n of → IfOk r (λ v. (k : Sort) → KeepsType w of k → plain_value v ≡ or_zero k (lookup (same_term t) m)) → IfOk r (λ v. IsApplied w (assignment_of w m) es s (plain_value v))
  constant_ok n of r e h = if_ok r (λ v. (k : Sort) → KeepsType w of k → plain_value v ≡ or_zero k (lookup (same_term t) m)) (λ v. IsApplied w (assignment_of w m) es s (plain_value v)) (λ v is. constant_made w table m model formed es t s has n of (plain_value v) e is) h

-- of a shape's value to its term's
module _ (w : World) (table : IsTable w) (a : Assignment) (es : List (Term × code.Value)) (t : Term) (s : Shape) (has : HasShape w t s) (each : (u : Term) → IsIn (args_of s) u → IsEvaluated w a es u) where
  pub term_ok : (r : Result code.Value EvalError) → IfOk r (λ v. IsApplied w a es s (plain_value v)) → IfOk r (λ v. IsValueOf w a t (plain_value v))
  term_ok r h = if_ok r (λ v. IsApplied w a es s (plain_value v)) (λ v. IsValueOf w a t (plain_value v)) (λ v is. value_made w table a es t s has each (plain_value v) is) h

  refused_here : IsReady w es s → (e : EvalError) → RefusesShape es s e → RefusesHere w a t e
  refused_here ready (eval_error.Wide wide) h = wide_here w a es t s has each ready wide h
  refused_here ready eval_error.NoMemory h = tt
  refused_here ready eval_error.DeadTerm h = absurd h
  refused_here ready (eval_error.HasVariable v) h = absurd h

  pub term_err : IsReady w es s → (r : Result code.Value EvalError) → IfErr r (RefusesShape es s) → IfErr r (RefusesHere w a t)
  term_err ready (Ok v) h = tt
  term_err ready (Err e) h = refused_here ready e h

-- what is no sum
pub no_sum : (s : Shape) → ((ms : List Monomial) (c : ℚ) → s ≡ shape.Sum ms c → ⊥) → IsNoSum s
no_sum (shape.Sum ms c) h = h ms c refl
no_sum s h = tt

-- a sum's value, and why there is none
pub sum_ok : {E : Type 0} (w : World) (a : Assignment) (es : List (Term × code.Value)) (s : Shape) (ms : List Monomial) (c : ℚ) (r : Result code.Value E) → s ≡ shape.Sum ms c
    → IfOk r (λ v. plain_value v ≡ number (linear_value (map (λ (m : Monomial). m.factor) ms) c (numbers es ms))) → IfOk r (λ v. IsApplied w a es s (plain_value v))
sum_ok w a es s ms c (Ok v) e h = subst (IsApplied w a es s) (sym h) (sum_made w a es s ms c (linear_value (map (λ (m : Monomial). m.factor) ms) c (numbers es ms)) e refl)
sum_ok w a es s ms c (Err x) e h = tt

refuses_sum : (es : List (Term × code.Value)) (s : Shape) (ms : List Monomial) (c : ℚ) (e : EvalError) → s ≡ shape.Sum ms c → RefusesSum ms c (numbers es ms) e → RefusesShape es s e
refuses_sum es s ms c (eval_error.Wide wide) is h = record { monomials = ms; constant = c; is = is; operation = h }
refuses_sum es s ms c eval_error.NoMemory is h = tt
refuses_sum es s ms c eval_error.DeadTerm is h = absurd h
refuses_sum es s ms c (eval_error.HasVariable v) is h = absurd h

pub sum_err : (es : List (Term × code.Value)) (s : Shape) (ms : List Monomial) (c : ℚ) (r : Result code.Value EvalError) → s ≡ shape.Sum ms c → IfErr r (RefusesSum ms c (numbers es ms)) → IfErr r (RefusesShape es s)
sum_err es s ms c (Ok v) is h = tt
sum_err es s ms c (Err e) is h = refuses_sum es s ms c e is h

pub memory_err : (es : List (Term × code.Value)) (s : Shape) (r : Result code.Value EvalError) → OnErr r (r ≡ Err eval_error.NoMemory) → IfErr r (RefusesShape es s)
memory_err es s (Ok v) h = tt
memory_err es s (Err e) h = let same : e ≡ eval_error.NoMemory = cc h in subst (RefusesShape es s) (sym same) tt
