-- The constants that are chosen from an order.
use Rattle.std.proofs.Common.{◌≡◌, ◌∙◌, Bool, true, false, cond, ℕ, pred, List, [], ◌∷◌, Option, Some, None, zero, suc, refl, sym, ap, subst}
use Rattle.std.specs.Prelude.{slice_get, filter}
use Rattle.std.proofs.lemmas.Option.{same_Some}
use Rattle.std.proofs.lemmas.Bool.{false≢true}
use Rattle.term_shapes.specs.declared.handles.Term.{Term}
use Rattle.term_shapes.specs.declared.shapes.Shape.{Shape}
use Rattle.term_shapes.specs.declared.shapes.Shape.TheVariants as shape
use Rattle.term_table.specs.World.{World, shape_at}
use Rattle.term_orders.specs.Orders.{IsIn, IsUnder, IsOrder, IsConstant, AreConstants, is_constant_shape}
use Rattle.term_orders.proofs.Standing.{under_stands}

-- no item stands twice
abbrev Once : List Term → Type 0
Once ts = (i j : ℕ) (t : Term) → slice_get ts i ≡ Some t → slice_get ts j ≡ Some t → i ≡ j

module _ (p : Term → Bool) where
  later : (x : Term) (xs : List Term) (t : Term) → IsIn xs t × (p t ≡ true) → IsIn (x ∷ xs) t × (p t ≡ true)
  later x xs t r = (record { place = suc r.0.place; at = r.0.at }, r.1)

  from_filter : (ts : List Term) (i : ℕ) (t : Term) → slice_get (filter p ts) i ≡ Some t → IsIn ts t × (p t ≡ true)
  from_filter [] i t at = absurd (cc at)
  from_filter (x ∷ xs) i t at = by (p x) refl i at (λ j h. later x xs t (from_filter xs j t h))
    where
      by : (b : Bool) → p x ≡ b → (i : ℕ) → slice_get (cond b (x ∷ filter p xs) (filter p xs)) i ≡ Some t → ((j : ℕ) → slice_get (filter p xs) j ≡ Some t → IsIn (x ∷ xs) t × (p t ≡ true)) → IsIn (x ∷ xs) t × (p t ≡ true)
      by true e zero h rest = (record { place = zero; at = h }, ap p (sym (same_Some x t h)) ∙ e)
      by true e (suc j) h rest = rest j h
      by false e j h rest = rest j h

  to_filter : (ts : List Term) (i : ℕ) (t : Term) → slice_get ts i ≡ Some t → p t ≡ true → IsIn (filter p ts) t
  to_filter [] i t at e = absurd (cc at)
  to_filter (x ∷ xs) zero t at e =
      subst (λ b. IsIn (cond b (x ∷ filter p xs) (filter p xs)) t) (sym (ap p (same_Some x t at) ∙ e)) (record { place = zero; at = at })
  to_filter (x ∷ xs) (suc i) t at e = by (p x) (to_filter xs i t at e)
    where
      by : (b : Bool) → IsIn (filter p xs) t → IsIn (cond b (x ∷ filter p xs) (filter p xs)) t
      by true r = record { place = suc r.place; at = r.at }
      by false r = r

  once_rest : (x : Term) (xs : List Term) → Once (x ∷ xs) → Once xs
  once_rest x xs h i j t at at2 = ap pred (h (suc i) (suc j) t at at2)

  once_front : (x : Term) (xs : List Term) → Once (x ∷ xs) → IsIn xs x → ⊥
  once_front x xs h r = cc (h zero (suc r.place) x refl r.at)

  once_more : (x : Term) (xs : List Term) → Once (x ∷ xs) → Once (filter p xs) → (b : Bool) → Once (cond b (x ∷ filter p xs) (filter p xs))
  once_more x xs h rest true = more_than
    where
      front : (j : ℕ) (t : Term) → Some x ≡ Some t → slice_get (filter p xs) j ≡ Some t → ⊥
      front j t e at = once_front x xs h (subst (IsIn xs) (sym (same_Some x t e)) (from_filter xs j t at).0)

      more_than : (i j : ℕ) (t : Term) → slice_get (x ∷ filter p xs) i ≡ Some t → slice_get (x ∷ filter p xs) j ≡ Some t → i ≡ j
      more_than zero zero t a b = refl
      more_than zero (suc j) t a b = absurd (front j t a b)
      more_than (suc i) zero t a b = absurd (front i t b a)
      more_than (suc i) (suc j) t a b = ap suc (rest i j t a b)
  once_more x xs h rest false = rest

  filter_once : (ts : List Term) → Once ts → Once (filter p ts)
  filter_once [] h = h
  filter_once (x ∷ xs) h = once_more x xs h (filter_once xs (once_rest x xs h)) (p x)

constant_is : (w : World) (t : Term) → is_constant_shape (shape_at w t) ≡ true → IsConstant w t
constant_is w t h = by (shape_at w t) refl h
  where
    by : (o : Option Shape) → shape_at w t ≡ o → is_constant_shape o ≡ true → IsConstant w t
    by None e g = absurd (false≢true g)
    by (Some (shape.Const n of)) e g = record { number = n; of = of; has = e }
    by (Some s) e g = absurd (false≢true g)

abbrev constant_test : World → Term → Bool
constant_test w t = is_constant_shape (shape_at w t)

pub chosen_are : (w : World) (roots order cs : List Term) → IsOrder w roots order → cs ≡ filter (λ t. is_constant_shape (shape_at w t)) order → AreConstants w roots cs
chosen_are w roots order cs o e = record {
  order = order;
  is_order = o;
  chosen = e;
  once = subst Once (sym e) (filter_once (constant_test w) order o.once);
  constant = λ t h. let r = from_filter (constant_test w) order h.place t (ap (λ x. slice_get x h.place) (sym e) ∙ h.at) in (constant_is w t r.1, o.reached t r.0);
  all = λ t c u. let s = under_stands w roots order o t u in subst (λ x. IsIn x t) (sym e) (to_filter (constant_test w) order s.place t s.at (ap is_constant_shape c.has));
}
