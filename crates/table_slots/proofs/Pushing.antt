-- The permanent types and terms go behind one another.
use Rattle.std.proofs.Common.{◌≡◌, ◌∙◌, ◌+◌, ◌-◌, ◌<◌, ◌≤◌, ◌++◌, ◌==◌, ℕ, zero, suc, Bool, true, false, List, [], ◌∷◌, Option, Some, None, is_some, if◌then◌else◌, length, refl, sym, ap, subst, inl, inr, ◌⊎◌, ⊎_elim, arith}
use Rattle.std.specs.Prelude.{slice_get}
use Rattle.std.specs.Bool.{Decides}
use Rattle.std.proofs.lemmas.Option.{same_Some, slice_get_within, slice_get_past}
use Rattle.std.proofs.lemmas.Bool.{cases_eq, cases_lt, eqb-true}
use Rattle.stamped_slots.specs.Slots.{Slot, stamp_under, fresh, is_live, Adds}
use Rattle.stamped_slots.specs.Regular.{IsAbsent}
use Rattle.stamped_slots.proofs.Lists.{push_here, push_other, get_in}
use Rattle.term_shapes.specs.declared.shapes.TypeShape.{TypeShape}
use Rattle.term_shapes.specs.declared.shapes.TypeShape.TheVariants as type
use Rattle.term_shapes.specs.declared.shapes.Node.{Node}
use Rattle.table_slots.specs.Nodes.{permanent, HoldsFirst, true_node, false_node}
use Rattle.table_slots.proofs.Held.{held_slot}

-- where all slots are live, a key goes behind them
pub pushed : {S : Type 0} (old new : List (Slot S)) (i n : ℕ) (x : S) → Adds old new i n x → ((j : ℕ) (s : Slot S) → slice_get old j ≡ Some s → is_live s ≡ true) → new ≡ old ++ fresh 0 x ∷ []
pushed {S} old new i n x adds live = by (cases_lt i (length old))
  where
    some_of : (s : Slot S) (o : Option S) → s.held ≡ o → is_some s.held ≡ true → (y : S) × (s.held ≡ Some y)
    some_of s None e h = absurd (cc (sym h ∙ ap is_some e))
    some_of s (Some y) e h = (y, e)

    by : (i < length old) ⊎ (length old ≤ i) → new ≡ old ++ fresh 0 x ∷ []
    by (inl h) =
        let s = get_in old i h in
        let y = some_of s.0 s.0.held refl (live i s.0 s.1) in
        absurd (cc (sym (adds.empty s.0.stamp) ∙ held_slot old i s.0.stamp s.0 y.0 s.1 (sym (ap stamp_under s.1)) y.1))
    by (inr h) = adds.grown h ∙ ap (λ m. old ++ fresh m x ∷ []) (sym adds.stamp ∙ ap stamp_under (slice_get_past old i h))

-- the number of a permanent type
number_of : TypeShape → ℕ
number_of type.Bool = 0
number_of type.Real = 1
number_of (type.Bv n) = n + 1
number_of _ = 0

-- a permanent type by its number
pub zeroth : permanent 0 ≡ type.Bool
zeroth = refl

pub first : permanent 1 ≡ type.Real
first = refl

not_eq : (i n : ℕ) → (i ≡ n → ⊥) → (i == n) ≡ false
not_eq i n d = by (i == n) refl
  where
    by : (b : Bool) → (i == n) ≡ b → b ≡ false
    by true e = absurd (d (eqb-true i n e))
    by false e = refl

pub later : (i : ℕ) → 1 < i → permanent i ≡ type.Bv (i - 1)
later i h =
    ap (λ b. if b then type.Bool else (if i == 1 then type.Real else type.Bv (i - 1))) (not_eq i 0 (λ e. omega (arith, h, e))) ∙ ap (λ b. if b then type.Real else type.Bv (i - 1)) (not_eq i 1 (λ e. omega (arith, h, e)))

number_is : (i : ℕ) → number_of (permanent i) ≡ i
unfolding number_of
number_is i = by (cases_eq i 0) (cases_eq i 1)
  where
    by : (i ≡ 0) ⊎ (i ≡ 0 → ⊥) → (i ≡ 1) ⊎ (i ≡ 1 → ⊥) → number_of (permanent i) ≡ i
    by (inl e) f = ap (λ n. number_of (permanent n)) e ∙ sym e
    by (inr d) (inl e) = ap (λ n. number_of (permanent n)) e ∙ sym e
    by (inr d) (inr f) = ap number_of (later i (omega (arith, d, f))) ∙ omega (arith, d, f)

module _ (w : List (Slot TypeShape)) (n : ℕ) (holds : HoldsFirst w n) where
  pub slot_is : (i : ℕ) (s : Slot TypeShape) → slice_get w i ≡ Some s → (i < n) × (s ≡ fresh 0 (permanent i))
  slot_is i s at =
      let low : i < n = omega (arith, slice_get_within w i s at, holds.count) in
      (low, same_Some s _ (sym at ∙ holds.at i low))

  pub all_live : (i : ℕ) (s : Slot TypeShape) → slice_get w i ≡ Some s → is_live s ≡ true
  all_live i s at = ap is_live (slot_is i s at).1

  pub absent_next : (eq : TypeShape → TypeShape → Bool) → ((a b : TypeShape) → Decides (eq a b) (a ≡ b)) → IsAbsent eq w (permanent n)
  absent_next eq decides i s y at held same =
      let is = slot_is i s at in
      let y_is : permanent i ≡ y = same_Some _ _ (sym (ap (λ (z : Slot TypeShape). z.held) is.1) ∙ held) in
      absurd (omega (arith, is.0, number_is n, number_is i, ap number_of ((decides _ y).0 same ∙ sym y_is)))

  pub holds_more : (v : List (Slot TypeShape)) → v ≡ w ++ fresh 0 (permanent n) ∷ [] → HoldsFirst v (n + 1)
  holds_more v e = subst (λ z. HoldsFirst z (n + 1)) (sym e) (record {
    count = plus_one w ∙ ap (λ m. m + 1) holds.count;
    at = λ i h. ⊎_elim
        (λ (k : i ≡ n). ap (slice_get (w ++ fresh 0 (permanent n) ∷ [])) (k ∙ sym holds.count) ∙ push_here w _ ∙ ap (λ m. Some (fresh 0 (permanent m))) (sym k))
        (λ d. push_other w _ i (λ k. d (k ∙ holds.count)) ∙ holds.at i (omega (arith, h, d)))
        (cases_eq i n);
  })
    where
      plus_one : (v : List (Slot TypeShape)) → length (v ++ fresh 0 (permanent n) ∷ []) ≡ length v + 1
      plus_one [] = refl
      plus_one (x ∷ v) = omega (arith, plus_one v)

pub holds_none : HoldsFirst [] 0
holds_none = record { count = refl; at = λ i h. absurd (omega (arith, h)) }

-- true goes in first, and then false
pub none_absent : {S : Type 0} (eq : S → S → Bool) (x : S) → IsAbsent eq [] x
none_absent eq x i s y at held same = absurd (cc at)

pub none_live : {S : Type 0} (i : ℕ) (s : Slot S) → slice_get [] i ≡ Some s → is_live s ≡ true
none_live i s at = absurd (cc at)

one_at : {S : Type 0} (a : Slot S) (i : ℕ) (s : Slot S) → slice_get (a ∷ []) i ≡ Some s → s ≡ a
one_at a zero s at = same_Some s a (sym at)
one_at a (suc i) s at = absurd (cc at)

pub false_absent : (eq : Node → Node → Bool) → ((a b : Node) → Decides (eq a b) (a.shape ≡ b.shape)) → IsAbsent eq (fresh 0 true_node ∷ []) false_node
false_absent eq decides i s y at held same =
    let is = one_at (fresh 0 true_node) i s at in
    let y_is : true_node ≡ y = same_Some _ _ (sym (ap (λ (z : Slot Node). z.held) is) ∙ held) in
    absurd (cc ((decides false_node y).0 same ∙ ap (λ (n : Node). n.shape) (sym y_is)))

pub one_live : {S : Type 0} (x : S) (i : ℕ) (s : Slot S) → slice_get (fresh 0 x ∷ []) i ≡ Some s → is_live s ≡ true
one_live x i s at = ap is_live (one_at (fresh 0 x) i s at)
