-- The value of a term that has truth values alone below it, and no variable.
use Rattle.std.proofs.Common.{◌≡◌, ◌∙◌, ℕ, zero, suc, Bool, true, false, List, [], ◌∷◌, Option, Some, None, refl, sym, ap, subst}
use Rattle.std.specs.Prelude.{slice_get}
use Rattle.std.specs.Option.{option_map}
use Rattle.std.proofs.lemmas.Option.{same_Some}
use Rattle.rationals.specs.Rational.{ℚ}
use Rattle.y_tree.specs.Sorts.{Sort, boolean, real}
use Rattle.y_tree.specs.Values.{Value, truth, number, bits, element, function, equal, has_sort, same_value}
use Rattle.y_tree.specs.Tree.{Tree, linear, node}
use Rattle.y_tree.specs.Typing.{only_if, typed, typed_over, sort_of}
use Rattle.y_tree.specs.Typing as typing
use Rattle.y_tree.specs.Meaning.{Assignment, meaning}
use Rattle.term_shapes.specs.declared.handles.Term.{Term}
use Rattle.term_shapes.specs.declared.lists.Monomial.{Monomial}
use Rattle.term_shapes.specs.declared.shapes.Node.{Node}
use Rattle.term_shapes.specs.declared.shapes.Shape.TheVariants as shape
use Rattle.term_shapes.specs.Shapes.{op_of}
use Rattle.term_table.specs.World.{World, node_at, HasShape, Keeps, IsTable}
use Rattle.term_table.specs.Checking.{HasSort}
use Rattle.term_table.proofs.Adding.{some_node}
use Rattle.term_table.proofs.Sorting.{one_kept, has_kept}
use Rattle.term_orders.specs.Orders.{IsIn, IsBelow, IsUnder}
use Rattle.term_orders.specs.Orders.IsBelow.{itself}
use Rattle.term_build.proofs.Kept.{same_kept, tree_sort}
use Rattle.model_eval.specs.declared.errors.EvalError.{EvalError}
use Rattle.model_eval.specs.declared.errors.EvalError.TheVariants as eval_error
use Rattle.model_eval.specs.Models.{assignment_of}
use Rattle.model_eval.specs.Refusing.{IsValueIn, RefusesValue}
use Rattle.expression_terms.specs.Standing.{StandsFor}
use Rattle.yices_session.specs.Held.{AreTruths}

-- one of the terms
pub truths_one : (w : World) (ts : List Term) (t : Term) → AreTruths w ts → IsIn ts t → AreTruths w (t ∷ [])
truths_one w ts t h is = record { sorts = λ u v. h.sorts u (up u v); closed = λ u v. h.closed u (up u v) }
  where
    root_is : (r : Term) → IsIn (t ∷ []) r → IsIn ts r
    root_is r i = by i.place i.at
      where
        by : (n : ℕ) → slice_get (t ∷ []) n ≡ Some r → IsIn ts r
        by zero e = subst (IsIn ts) (same_Some t r e) is
        by (suc n) e = absurd (cc e)

    up : (u : Term) → IsUnder w (t ∷ []) u → IsUnder w ts u
    up u v = record { root = v.root; listed = root_is v.root v.listed; below = v.below }

-- values that are one truth value
equal_truths : (v x : Value) → has_sort v boolean ≡ true → equal v x ≡ true → v ≡ x
unfolding has_sort
equal_truths (truth true) (truth true) s e = refl
equal_truths (truth true) (truth false) s e = absurd (cc e)
equal_truths (truth false) (truth true) s e = absurd (cc e)
equal_truths (truth false) (truth false) s e = refl
equal_truths (truth b) (number q) s e = absurd (cc e)
equal_truths (truth b) (bits n a) s e = absurd (cc e)
equal_truths (truth b) (element k a) s e = absurd (cc e)
equal_truths (truth b) (function es y) s e = absurd (cc e)
equal_truths (number q) x s e = absurd (cc s)
equal_truths (bits n a) x s e = absurd (cc s)
equal_truths (element k a) x s e = absurd (cc s)
equal_truths (function es y) x s e = absurd (cc s)

-- a sum is a number
sum_typed : (o : Option (List Sort)) (qs : List ℚ) (c : ℚ) (k : Sort) → typed_over (linear qs c) o ≡ Some k → k ≡ real
sum_typed None qs c k e = absurd (cc e)
sum_typed (Some ks) qs c k e = by _ e
  where
    by : (b : Bool) → only_if b real ≡ Some k → k ≡ real
    by true h = sym (same_Some real k h)
    by false h = absurd (cc h)

module _ (w : World) (table : IsTable w) where
  -- a term has one sort
  pub one_sort : (t : Term) (k l : Sort) → HasSort w t k → HasSort w t l → k ≡ l
  one_sort t k l (of, has, keeps) h = one_kept w k l of keeps (has_kept w t of l has h)

  sum_kept : (t : Term) (a : Tree) (ms : List Monomial) (c : ℚ) (k : Sort) → HasShape w t (shape.Sum ms c) → Keeps w t a → sort_of a ≡ Some k → k ≡ real
  unfolding Keeps sort_of
  sum_kept t (node op ds) ms c k has (s, l, shaped, names, is, args) e =
      let o = ap (λ z. op_of z l) (same_Some (shape.Sum ms c) s (sym has ∙ shaped)) ∙ is in sum_typed (typing.sorts_of ds) _ c k (ap (λ z. typed_over z (typing.sorts_of ds)) o ∙ e)

  -- so a sum is no truth value
  sum_sort : (t : Term) (ms : List Monomial) (c : ℚ) → HasShape w t (shape.Sum ms c) → HasSort w t boolean → ⊥
  sum_sort t ms c has sort =
      let n = some_node (node_at w t) (shape.Sum ms c) has in
      let g = table.grounded t n.0 n.1 in
      cc (one_sort t boolean g.1 sort (n.0.of, ap (option_map (λ (z : Node). z.of)) n.1, g.3) ∙ sum_kept t g.0 ms c g.1 has g.2 g.4)

  module _ (t : Term) (truths : AreTruths w (t ∷ [])) where
    under : (u : Term) → IsBelow w u t → IsUnder w (t ∷ []) u
    under u b = record { root = t; listed = record { place = 0; at = refl }; below = b }

    pub is_truth : HasSort w t boolean
    is_truth = truths.sorts t (under t itself)

    -- the value that was found is the meaning of each tree that the term stands for
    pub value_means : (m : List (Term × Value)) (v : Value) → IsValueIn w m t v → (d : Tree) → StandsFor w d t → v ≡ meaning d (assignment_of w m)
    value_means m v h d stands =
        let a : Assignment = assignment_of w m in
        let k : h.value.sort ≡ boolean = one_sort t h.value.sort boolean (tree_sort w table t h.value.tree h.value.sort h.value.kept h.value.typed) is_truth in
        let x : Value = meaning h.value.tree a in
        equal_truths v x (subst (λ z. has_sort v z ≡ true) k h.value.has) (subst (λ z. same_value z v x ≡ true) k h.value.same)
        ∙ ap (λ z. meaning z a) (same_kept w h.value.tree stands.kept t h.value.kept stands.keeps) ∙ stands.same a

    -- nothing but want of memory keeps it from having one
    pub value_refused : (m : List (Term × Value)) (e : EvalError) → RefusesValue w m t e → e ≡ eval_error.NoMemory
    value_refused m eval_error.DeadTerm h = absurd (cc (sym (ap (option_map (λ (z : Node). z.of)) h) ∙ is_truth.1))
    value_refused m (eval_error.HasVariable v) h = absurd (truths.closed v (under v h.0) h.1)
    value_refused m (eval_error.Wide wide) h = absurd (sum_sort h.sum h.is.monomials h.is.constant h.is.has (truths.sorts h.sum (under h.sum h.below)))
    value_refused m eval_error.NoMemory h = refl
