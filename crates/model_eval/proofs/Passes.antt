-- Values of terms along an order in which arguments come first.
use Rattle.std.proofs.Common.{◌≡◌, ◌∙◌, ◌+◌, ◌<◌, ◌≤◌, ⊎_elim, ℕ, zero, suc, Bool, true, false, List, [], ◌∷◌, Option, Some, None, Result, Ok, Err, is_some, length, get_or, refl, sym, ap, subst, arith}
use Rattle.std.specs.Prelude.{slice_get, IsSome, IfOk, IfErr, OnErr}
use Rattle.std.specs.Map.{lookup}
use Rattle.std.specs.Option.{option_map}
use Rattle.term_shapes.specs.declared.shapes.Node.{Node}
use Rattle.std.proofs.lemmas.Option.{same_Some, slice_get_within, slice_get-get_or, get_or_from_slice_get}
use Rattle.std.proofs.lemmas.Bool.{cases_lt}
use Rattle.y_tree.specs.Values.{Value}
use Rattle.y_tree.specs.Plain.{plain_value}
use Rattle.y_tree.specs.Meaning.{Assignment}
use Rattle.y_tree.specs.declared.values.Value as code
use Rattle.term_shapes.specs.declared.handles.Term.{Term}
use Rattle.term_shapes.specs.declared.shapes.Shape.{Shape}
use Rattle.term_shapes.specs.Shapes.{args_of}
use Rattle.term_table.specs.World.{World, node_at, shape_at, HasShape}
use Rattle.term_orders.specs.Orders.{IsIn, IsArgument, IsBelow, IsOrder, IsVariable}
use Rattle.model_eval.specs.declared.errors.EvalError.{EvalError}
use Rattle.model_eval.specs.declared.errors.EvalError.TheVariants as eval_error
use Rattle.model_eval.specs.Known.{same_term, or_false, found, Enters}
use Rattle.model_eval.specs.Models.{assignment_of}
use Rattle.model_eval.specs.Evaluating.{IsValueOf, IsEvaluated, EntersValue, RefusesHere, RefusesAmong, RefusesUnder}
use Rattle.model_eval.specs.Refusing.{IsClosed, IsValueIn, RefusesValue}
use Rattle.model_eval.proofs.Constants.{same_is}

found_same : (es fs : List (Term × code.Value)) (t : Term) → lookup (same_term t) fs ≡ lookup (same_term t) es → found fs t ≡ found es t
unfolding found
found_same es fs t e = ap or_false e

found_new : (fs : List (Term × code.Value)) (t : Term) (v : code.Value) → lookup (same_term t) fs ≡ Some v → found fs t ≡ plain_value v
unfolding found
found_new fs t v e = ap or_false e

module _ (w : World) (a : Assignment) where
  -- a term that gets its value has it, and all others keep theirs
  entered : (es fs : List (Term × code.Value)) (t : Term) (v : code.Value) → Enters es t v fs → IsValueOf w a t (plain_value v) → IsEvaluated w a fs t
  entered es fs t v e is = record { of = subst (IsValueOf w a t) (sym (found_new fs t v e.here)) is; there = ap is_some e.here }

  kept_value : (es fs : List (Term × code.Value)) (t u : Term) (v : code.Value) → Enters es t v fs → same_term t u ≡ false → IsEvaluated w a es u → IsEvaluated w a fs u
  kept_value es fs t u v e other is = record {
    of = subst (IsValueOf w a u) (sym (found_same es fs u (e.others u other))) is.of;
    there = ap is_some (e.others u other) ∙ is.there;
  }

  stays : (es fs : List (Term × code.Value)) (t u : Term) (v : code.Value) → Enters es t v fs → IsValueOf w a t (plain_value v) → IsEvaluated w a es u → IsEvaluated w a fs u
  stays es fs t u v e value is = by (same_term t u) refl
    where
      by : (b : Bool) → same_term t u ≡ b → IsEvaluated w a fs u
      by true h = subst (IsEvaluated w a fs) (same_is t u h) (entered es fs t v e value)
      by false h = kept_value es fs t u v e h is

  -- the first terms of the order have values
  abbrev pub Before : List Term → List (Term × code.Value) → ℕ → Type 0
  Before order es i = (j : ℕ) (t : Term) → j < i → slice_get order j ≡ Some t → IsEvaluated w a es t

  pub pass_more : (order : List Term) (es fs : List (Term × code.Value)) (i : ℕ) (d : Term) → i < length order → Before order es i → EntersValue w a es (get_or order i d) fs → Before order fs (i + 1)
  pass_more order es fs i d small before e j t low at = ⊎_elim
      (λ h. stays es fs (get_or order i d) t e.value e.enters e.is (before j t h at))
      (λ h.
      let same : j ≡ i = omega (arith, h, low) in
      let term : get_or order i d ≡ t = ap (λ z. get_or order z d) (sym same) ∙ get_or_from_slice_get order j t d at in
      subst (IsEvaluated w a fs) term (entered es fs (get_or order i d) e.value e.enters e.is))
      (cases_lt j i)

  pub pass_argument : (roots order : List Term) → IsOrder w roots order → (es : List (Term × code.Value)) (i : ℕ) (d : Term) → i < length order → Before order es i → (u : Term) → IsArgument w u (get_or order i d) → IsEvaluated w a es u
  pass_argument roots order o es i d small before u arg =
      let s = o.arguments i (get_or order i d) u (slice_get-get_or order i d small) arg in
      before s.place u s.earlier s.at

  pub pass_done : (order : List Term) (es : List (Term × code.Value)) (i : ℕ) → length order ≤ i → Before order es i → (t : Term) → IsIn order t → IsEvaluated w a es t
  pass_done order es i done before t h = let far = slice_get_within order h.place t h.at in before h.place t (omega (arith, far, done)) h.at

  pub among : (order : List Term) (i : ℕ) (d : Term) → i < length order → (e : EvalError) → RefusesHere w a (get_or order i d) e → RefusesAmong w a order e
  among order i d small (eval_error.Wide wide) h = (get_or order i d, record { place = i; at = slice_get-get_or order i d small }, h)
  among order i d small eval_error.NoMemory h = tt
  among order i d small eval_error.DeadTerm h = absurd h
  among order i d small (eval_error.HasVariable v) h = absurd h

  one_root : (t r : Term) → IsIn (t ∷ []) r → t ≡ r
  one_root t r h = by h.place h.at
    where
      by : (i : ℕ) → slice_get (t ∷ []) i ≡ Some r → t ≡ r
      by zero e = same_Some t r e
      by (suc i) e = absurd (cc e)

  pub under : (t : Term) (order : List Term) → IsOrder w (t ∷ []) order → (e : EvalError) → RefusesAmong w a order e → RefusesUnder w a t e
  under t order o (eval_error.Wide wide) (u, there, wrong) =
      let r = o.reached u there in
      (u, subst (IsBelow w u) (sym (one_root t r.root r.listed)) r.below, wrong)
  under t order o eval_error.NoMemory h = tt
  under t order o eval_error.DeadTerm h = absurd h
  under t order o (eval_error.HasVariable v) h = absurd h

pub live_there : (w : World) (roots order : List Term) → IsOrder w roots order → (i : ℕ) (d : Term) → i < length order → IsSome (node_at w (get_or order i d))
live_there w roots order o i d small = o.live (get_or order i d) (record { place = i; at = slice_get-get_or order i d small })

pub root_there : (w : World) (t : Term) (order : List Term) → IsOrder w (t ∷ []) order → IsIn order t
root_there w t order o = o.holds t (record { place = 0; at = refl })

pub roots_live : (w : World) (t : Term) → IsSome (node_at w t) → (i : ℕ) (u : Term) → slice_get (t ∷ []) i ≡ Some u → IsSome (node_at w u)
roots_live w t live zero u e = subst (λ z. IsSome (node_at w z)) (same_Some t u e) live
roots_live w t live (suc i) u e = absurd (cc e)

pub argument_by : (w : World) (t u : Term) (s : Shape) → HasShape w t s → IsIn (args_of s) u → IsArgument w u t
argument_by w t u s has h = record { form = s; has = has; place = h.place; at = h.at }

pub refuses_value : (w : World) (m : List (Term × Value)) (t : Term) → IsClosed w t → (e : EvalError) → RefusesUnder w (assignment_of w m) t e → RefusesValue w m t e
refuses_value w m t closed (eval_error.Wide wide) (u, below, is) = record { closed = closed; sum = u; below = below; is = is }
refuses_value w m t closed eval_error.NoMemory h = tt
refuses_value w m t closed eval_error.DeadTerm h = absurd h
refuses_value w m t closed (eval_error.HasVariable v) h = absurd h

-- a live term has a shape
pub no_shape : (w : World) (t : Term) → None ≡ shape_at w t → IsSome (node_at w t) → ⊥
no_shape w t e live = by (node_at w t) e live
  where
    by : (o : Option Node) → None ≡ option_map (λ (n : Node). n.shape) o → IsSome o → ⊥
    by None f g = cc g
    by (Some n) f g = cc f

-- a copy of the value of a term that was evaluated
pub copied_ok : (w : World) (a : Assignment) (es : List (Term × code.Value)) (t : Term) (r : Result code.Value EvalError) → IsEvaluated w a es t → IfOk r (λ v. plain_value v ≡ found es t) → IfOk r (λ v. IsValueOf w a t (plain_value v))
copied_ok w a es t (Ok v) is h = subst (IsValueOf w a t) (sym h) is.of
copied_ok w a es t (Err e) is h = tt

pub memory_under : (w : World) (a : Assignment) (t : Term) (r : Result code.Value EvalError) → OnErr r (r ≡ Err eval_error.NoMemory) → IfErr r (RefusesUnder w a t)
memory_under w a t (Ok v) h = tt
memory_under w a t (Err e) h = let same : e ≡ eval_error.NoMemory = cc h in subst (RefusesUnder w a t) (sym same) tt

pub none_of : (o : Option Node) (b : Bool) → b ≡ is_some o → b ≡ false → o ≡ None
none_of None b e h = refl
none_of (Some n) b e h = absurd (cc (sym h ∙ e))

pub closed_by : (w : World) (t : Term) → IsSome (node_at w t) → ((v : Term) → IsBelow w v t → IsVariable w v → ⊥) → IsClosed w t
closed_by w t live closed = record { live = λ dead. cc (sym live ∙ ap is_some dead); closed = closed }

pub value_ok : (w : World) (m : List (Term × Value)) (t : Term) (r : Result code.Value EvalError) → IsClosed w t → IfOk r (λ v. IsValueOf w (assignment_of w m) t (plain_value v)) → IfOk r (λ v. IsValueIn w m t (plain_value v))
value_ok w m t (Ok v) closed h = record { closed = closed; value = h }
value_ok w m t (Err e) closed h = tt

pub value_err : (w : World) (m : List (Term × Value)) (t : Term) (r : Result code.Value EvalError) → IsClosed w t → IfErr r (RefusesUnder w (assignment_of w m) t) → IfErr r (RefusesValue w m t)
value_err w m t (Ok v) closed h = tt
value_err w m t (Err e) closed h = refuses_value w m t closed e h
