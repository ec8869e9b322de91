-- The value of a constant in a model is its value under the model's assignment.
use Rattle.std.proofs.Common.{◌≡◌, ◌∙◌, ◌&&◌, ◌++◌, ◌==◌, ℕ, suc, Bool, true, false, List, [], ◌∷◌, Option, Some, None, map, refl, sym, ap, subst, if◌then◌else◌}
use Rattle.std.specs.Prelude.{slice_get}
use Rattle.std.specs.Option.{option_map}
use Rattle.std.specs.Map.{lookup}
use Rattle.std.proofs.lemmas.Option.{same_Some}
use Rattle.std.proofs.lemmas.Bool.{and_parts, and_from, eq-eqb, eqb-true, false≢true}
use Rattle.y_tree.specs.Sorts.{Sort, Sorts, boolean, real, bit_vector, uninterpreted, is_sort, is_simple, are_simple, sorts}
use Rattle.y_tree.specs.Sorts as sort
use Rattle.y_tree.specs.Values.{Value, has_sort, same_value, zero_of}
use Rattle.y_tree.specs.Order.{is_formed}
use Rattle.y_tree.specs.Plain.{plain_value}
use Rattle.y_tree.specs.Meaning.{value_in}
use Rattle.y_tree.specs.declared.values.Value as code
use Rattle.y_tree.proofs.Sorted.{zero_sorted}
use Rattle.y_tree.proofs.Put.{zero_formed}
use Rattle.y_tree.proofs.Equivalence.{equivalence, domain_simple, result_simple}
use Rattle.term_shapes.specs.declared.handles.Term.{Term}
use Rattle.term_shapes.specs.declared.handles.TypeId.{TypeId}
use Rattle.term_shapes.specs.declared.shapes.Shape.TheVariants as shape
use Rattle.term_shapes.specs.declared.shapes.TypeShape.{TypeShape}
use Rattle.term_shapes.proofs.Same.{term_decides}
use Rattle.term_table.specs.World.{World, shape_at, type_shape_at, HasShape, KeepsType, KeepsTypes, IsTable}
use Rattle.term_table.proofs.PlainSorts.{simple_kept, dead_kept}
use Rattle.term_table.proofs.Sorting.{one_kept}
use Rattle.term_table.proofs.Keeping.{one_sort}
use Rattle.model_eval.specs.Known.{same_term}
use Rattle.model_eval.specs.Models.{AreFormed, IsEntry, plain_items, shown, part_in, simple_under, sort_under, sort_in, number_of, numbered}
use Rattle.model_eval.specs.Evaluating.{IsResult, or_zero}
use Rattle.model_eval.proofs.Shown.{shown_has, shown_same, shown_only}

-- a number with its value, before others
abbrev in_front : ℕ → Value → List (ℕ × Value) → List (ℕ × Value)
in_front n v es = (n, v) ∷ es

-- handles that are found one are one
pub same_is : (t u : Term) → same_term t u ≡ true → t ≡ u
same_is t u h = (term_decides t u).0 h

pub same_self : (t u : Term) → t ≡ u → same_term t u ≡ true
same_self t u h = (term_decides t u).1 h

module _ (w : World) where
  part_kept : (t : TypeId) (k : Sort) → KeepsType w t k → is_simple k ≡ true → part_in w t ≡ k
  part_kept t k h e = by (type_shape_at w t) refl
    where
      by : (o : Option TypeShape) → type_shape_at w t ≡ o → simple_under o ≡ k
      by None is = absurd (dead_kept w t k is h)
      by (Some s) is = simple_kept w t s k is h e

  parts_kept : (ts : List TypeId) (ks : Sorts) → KeepsTypes w ts ks → are_simple ks ≡ true → sorts (map (part_in w) ts) ≡ ks
  unfolding KeepsType are_simple
  parts_kept [] sort.none h e = refl
  parts_kept [] (sort.more k ks) h e = absurd h
  parts_kept (t ∷ ts) sort.none h e = absurd h
  parts_kept (t ∷ ts) (sort.more k ks) h e =
      let p = and_parts (is_simple k) (are_simple ks) e in
      ap (λ z. sort.more z (sorts (map (part_in w) ts))) (part_kept t k h.0 p.0) ∙ ap (sort.more k) (parts_kept ts ks h.1 p.1)

  -- the sort that is read off a type is the one that it stands for
  pub sort_kept : (t : TypeId) (k : Sort) → KeepsType w t k → is_sort k ≡ true → sort_in w t ≡ k
  unfolding KeepsType sort_in
  sort_kept t boolean h e = ap (sort_under w) h
  sort_kept t real h e = ap (sort_under w) h
  sort_kept t (bit_vector n) h e = ap (sort_under w) h
  sort_kept t (uninterpreted n) h e = ap (sort_under w) h
  sort_kept t (sort.function domain result) (ts, r, has, ks, kr) e =
      ap (sort_under w) has
      ∙ ap (λ z. sort.function z (part_in w r)) (parts_kept ts domain ks (domain_simple domain result e))
      ∙ ap (sort.function domain) (part_kept r result kr (result_simple domain result e))

  module _ (table : IsTable w) where
    -- the sort that a live type stands for is within the limits
    pub kept_limited : (t : TypeId) (k : Sort) → KeepsType w t k → is_sort k ≡ true
    kept_limited t k h = by (type_shape_at w t) refl
      where
        by : (o : Option TypeShape) → type_shape_at w t ≡ o → is_sort k ≡ true
        by None is = absurd (dead_kept w t k is h)
        by (Some s) is = let r = table.sorted t s is in subst (λ z. is_sort z ≡ true) (one_kept w r.0 k t r.1 h) r.2

    module _ (t : Term) (n : ℕ) (of : TypeId) (k : Sort) (has : HasShape w t (shape.Const n of)) (keeps : KeepsType w of k) where
      lim : is_sort k ≡ true
      lim = kept_limited of k keeps

      same_number : (m : ℕ) (p : TypeId) → shape.Const m p ≡ shape.Const n of → m ≡ n
      same_number m p e = cc e

      same_type : (m : ℕ) (p : TypeId) → shape.Const m p ≡ shape.Const n of → p ≡ of
      same_type m p e = cc e

      chosen : (b : Bool) (x y : Value) → b ≡ true → (if b then x else y) ≡ x
      chosen true x y e = refl
      chosen false x y e = absurd (false≢true e)

      passed : (b : Bool) (x y : Value) → (b ≡ true → ⊥) → (if b then x else y) ≡ y
      passed true x y e = absurd (e refl)
      passed false x y e = refl

      -- the first entry's part of the assignment
      front : (e : Term × Value) (es : List (Term × Value)) (entry : IsEntry w e) → numbered w (e ∷ es) ≡ in_front entry.number (shown entry.sort e.1) (numbered w es)
      unfolding numbered
      front e es entry =
          ap (λ s. number_of w s e.1 ++ numbered w es) entry.has
          ∙ ap (λ z. in_front entry.number (shown z e.1) (numbered w es)) (sort_kept entry.of entry.sort entry.keeps (kept_limited entry.of entry.sort entry.keeps))

      here : (e : Term × Value) (es : List (Term × Value)) (entry : IsEntry w e) → is_formed e.1 ≡ true → t ≡ e.0
          → IsResult k (value_in (numbered w (e ∷ es)) n k) e.1
      here e es entry formed same =
          let one : shape.Const entry.number entry.of ≡ shape.Const n of = same_Some _ _ (sym entry.has ∙ ap (shape_at w) (sym same) ∙ has) in
          let sort : entry.sort ≡ k = one_kept w entry.sort k of (subst (λ z. KeepsType w z entry.sort) (same_type entry.number entry.of one) entry.keeps) keeps in
          let value : has_sort e.1 k ≡ true = subst (λ z. has_sort e.1 z ≡ true) sort entry.value in
          let shows : shown entry.sort e.1 ≡ shown k e.1 = ap (λ z. shown z e.1) sort in
          let picked : value_in (numbered w (e ∷ es)) n k ≡ shown k e.1 =
          ap (λ z. value_in z n k) (front e es entry ∙ ap (λ z. in_front entry.number z (numbered w es)) shows)
          ∙ chosen ((entry.number == n) && has_sort (shown k e.1) k) (shown k e.1) (value_in (numbered w es) n k)
          (and_from (entry.number == n) (has_sort (shown k e.1) k) (eq-eqb entry.number n (same_number entry.number entry.of one)) (shown_has k e.1 value)) in
          record { has = value; formed = formed; same = subst (λ z. same_value k e.1 z ≡ true) (sym picked) (shown_same k e.1 lim value) }

      other : (e : Term × Value) (es : List (Term × Value)) (entry : IsEntry w e) → (t ≡ e.0 → ⊥) → value_in (numbered w (e ∷ es)) n k ≡ value_in (numbered w es) n k
      other e es entry differ =
          ap (λ z. value_in z n k) (front e es entry)
          ∙ passed ((entry.number == n) && has_sort (shown entry.sort e.1) k) (shown entry.sort e.1) (value_in (numbered w es) n k)
          (λ both.
          let p = and_parts (entry.number == n) (has_sort (shown entry.sort e.1) k) both in
          let number : entry.number ≡ n = eqb-true entry.number n p.0 in
          let sort : entry.sort ≡ k = shown_only entry.sort k e.1 (kept_limited entry.of entry.sort entry.keeps) lim entry.value p.1 in
          let of_same : entry.of ≡ of = one_sort w table.one_type k entry.of of (subst (KeepsType w entry.of) sort entry.keeps) keeps in
          let shape_same : HasShape w e.0 (shape.Const n of) = entry.has ∙ ap (λ z. Some (shape.Const z entry.of)) number ∙ ap (λ z. Some (shape.Const n z)) of_same in
          differ (table.one_term t e.0 (shape.Const n of) has shape_same))

      none_value : IsResult k (value_in (numbered w []) n k) (zero_of k)
      unfolding numbered
      none_value = record { has = zero_sorted k; formed = zero_formed k; same = (equivalence k lim).itself (zero_of k) (zero_sorted k) }

      -- the value of the constant
      pub constant_value : (m : List (Term × Value)) → ((i : ℕ) (e : Term × Value) → slice_get m i ≡ Some e → IsEntry w e) → AreFormed m → IsResult k (value_in (numbered w m) n k) (or_zero k (lookup (same_term t) m))
      constant_value [] each formed = none_value
      constant_value (e ∷ es) each formed = by (same_term t e.0) refl (constant_value es (λ i. each (suc i)) (λ i. formed (suc i)))
        where
          by : (b : Bool) → same_term t e.0 ≡ b → IsResult k (value_in (numbered w es) n k) (or_zero k (lookup (same_term t) es))
              → IsResult k (value_in (numbered w (e ∷ es)) n k) (or_zero k (if b then Some e.1 else lookup (same_term t) es))
          by true is rest = here e es (each 0 e refl) (formed 0 e refl) (same_is t e.0 is)
          by false is rest =
              subst (λ z. IsResult k z (or_zero k (lookup (same_term t) es))) (sym (other e es (each 0 e refl) (λ q. false≢true (sym is ∙ same_self t e.0 q)))) rest

-- values are looked up as contracts see them
pub lookup_plain : (t : Term) (es : List (Term × code.Value)) → option_map plain_value (lookup (same_term t) es) ≡ lookup (same_term t) (plain_items es)
lookup_plain t [] = refl
lookup_plain t (e ∷ es) = by (same_term t e.0) (lookup_plain t es)
  where
    by : (b : Bool) → option_map plain_value (lookup (same_term t) es) ≡ lookup (same_term t) (plain_items es)
        → option_map plain_value (if b then Some e.1 else lookup (same_term t) es) ≡ (if b then Some (plain_value e.1) else lookup (same_term t) (plain_items es))
    by true rest = refl
    by false rest = rest
