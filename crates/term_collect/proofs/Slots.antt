-- Slots that differ in marks alone.
use Rattle.std.proofs.Common.{◌≡◌, ◌∙◌, ◌+◌, ◌==◌, ◌&&◌, ℕ, zero, suc, Bool, true, false, not, if◌then◌else◌, List, [], ◌∷◌, Option, Some, None, map, refl, sym, ap, inl, inr, ◌⊎◌, ⊎_elim, arith}
use Rattle.std.specs.Prelude.{slice_get}
use Rattle.std.specs.Option.{option_map}
use Rattle.std.proofs.lemmas.Option.{same_Some}
use Rattle.std.proofs.lemmas.Bool.{cases_eq, eq-eqb, ne_eqb}
use Rattle.stamped_slots.specs.Slots.{Slot, held_at, held_under, stamp_at, stamp_under, is_live, live, bit, how_many, changed, mark, mark_if, unmarked, taken_up, each_from}
use Rattle.stamped_slots.proofs.Lists.{changed_here, changed_other, each_from_get, map_get, same_by_get, count_map}
use Rattle.term_table.specs.Changes.{IsMarkedAt, count_under}
use Rattle.term_collect.specs.Marking.{IsWaitingAt, SameSlots, is_due}

module _ {S : Type 0} where
  under_held : (o : Option (Slot S)) (n : ℕ) → held_under n (option_map unmarked o) ≡ held_under n o
  under_held None n = refl
  under_held (Some s) n = refl

  under_count : (o : Option (Slot S)) → count_under (option_map unmarked o) ≡ count_under o
  under_count None = refl
  under_count (Some s) = refl

  under_stamp : (o : Option (Slot S)) → stamp_under (option_map unmarked o) ≡ stamp_under o
  under_stamp None = refl
  under_stamp (Some s) = refl

  pub same_held : (a b : List (Slot S)) → SameSlots a b → (i n : ℕ) → held_at b i n ≡ held_at a i n
  same_held a b h i n =
      sym (under_held (slice_get b i) n) ∙ ap (held_under n) (h i) ∙ under_held (slice_get a i) n

  pub same_count : (a b : List (Slot S)) → SameSlots a b → (i : ℕ) → count_under (slice_get b i) ≡ count_under (slice_get a i)
  same_count a b h i = sym (under_count (slice_get b i)) ∙ ap count_under (h i) ∙ under_count (slice_get a i)

  pub same_stamp : (a b : List (Slot S)) → SameSlots a b → (i : ℕ) → stamp_at b i ≡ stamp_at a i
  same_stamp a b h i = sym (under_stamp (slice_get b i)) ∙ ap stamp_under (h i) ∙ under_stamp (slice_get a i)

  -- as many are live
  pub same_live : (a b : List (Slot S)) → SameSlots a b → live b ≡ live a
  same_live a b h =
      let e : map unmarked b ≡ map unmarked a = same_by_get (map unmarked b) (map unmarked a) (λ i. map_get unmarked b i ∙ h i ∙ sym (map_get unmarked a i)) in
      sym (count_map is_live unmarked b) ∙ ap (how_many is_live) e ∙ count_map is_live unmarked a

  -- the slot that the other list has
  pub same_slot : (a b : List (Slot S)) → SameSlots a b → (i : ℕ) (s : Slot S) → slice_get a i ≡ Some s → (r : Slot S) × (slice_get b i ≡ Some r) × (unmarked r ≡ unmarked s)
  same_slot a b h i s at = by (slice_get b i) refl
    where
      by : (o : Option (Slot S)) → slice_get b i ≡ o → (r : Slot S) × (slice_get b i ≡ Some r) × (unmarked r ≡ unmarked s)
      by None e = absurd (cc (sym (ap (option_map unmarked) e) ∙ h i ∙ ap (option_map unmarked) at))
      by (Some r) e = (r, e, same_Some (unmarked r) (unmarked s) (sym (ap (option_map unmarked) e) ∙ h i ∙ ap (option_map unmarked) at))

  -- one slot that is marked where a test says so
  set_mark : Bool → Slot S → Slot S
  set_mark c s = if c then record s { marked = true; waiting = true } else s

  set_unmarked : (c : Bool) (s : Slot S) → unmarked (set_mark c s) ≡ unmarked s
  unfolding set_mark
  set_unmarked true s = refl
  set_unmarked false s = refl

  set_marked : (c : Bool) (s : Slot S) → s.marked ≡ true → (set_mark c s).marked ≡ true
  unfolding set_mark
  set_marked true s h = refl
  set_marked false s h = h

  set_waiting : (c : Bool) (s : Slot S) → s.waiting ≡ true → (set_mark c s).waiting ≡ true
  unfolding set_mark
  set_waiting true s h = refl
  set_waiting false s h = h

  set_live : (l m : Bool) (s : Slot S) → l ≡ true → s.marked ≡ m → (set_mark (l && not m) s).marked ≡ true
  unfolding set_mark
  set_live true true s e h = h
  set_live true false s e h = refl
  set_live false m s e h = absurd (cc e)

  set_only : (l m : Bool) (s : Slot S) → (set_mark (l && not m) s).marked ≡ true → (s.marked ≡ true) ⊎ ((l ≡ true) × ((set_mark (l && not m) s).waiting ≡ true))
  unfolding set_mark
  set_only true true s h = inl h
  set_only true false s h = inr (refl, refl)
  set_only false m s h = inl h

  set_due : (l m : Bool) (s : Slot S) → s.marked ≡ m → is_due (set_mark (l && not m) s) ≡ is_due s
  unfolding set_mark
  set_due true true s h = refl
  set_due true false s h = sym (ap (λ z. not (z && not s.waiting)) h)
  set_due false m s h = refl

  one_unmarked : (b : Bool) (s : Slot S) → unmarked (mark_if b s) ≡ unmarked s
  unfolding set_mark
  one_unmarked true s = set_unmarked (is_live s && not s.marked) s
  one_unmarked false s = refl

  one_marked : (b : Bool) (s : Slot S) → s.marked ≡ true → (mark_if b s).marked ≡ true
  unfolding set_mark
  one_marked true s h = set_marked (is_live s && not s.marked) s h
  one_marked false s h = h

  one_waiting : (b : Bool) (s : Slot S) → s.waiting ≡ true → (mark_if b s).waiting ≡ true
  unfolding set_mark
  one_waiting true s h = set_waiting (is_live s && not s.marked) s h
  one_waiting false s h = h

  one_each : (b : Bool) (s : Slot S) → b ≡ true → is_live s ≡ true → (mark_if b s).marked ≡ true
  unfolding set_mark
  one_each true s e h = set_live (is_live s) s.marked s h refl
  one_each false s e h = absurd (cc e)

  one_only : (b : Bool) (s : Slot S) → (mark_if b s).marked ≡ true → (s.marked ≡ true) ⊎ ((b ≡ true) × (is_live s ≡ true) × ((mark_if b s).waiting ≡ true))
  unfolding set_mark
  one_only true s h = ⊎_elim inl (λ r. inr (refl, r.0, r.1)) (set_only (is_live s) s.marked s h)
  one_only false s h = inl h

  one_due : (b : Bool) (s : Slot S) → is_due (mark_if b s) ≡ is_due s
  unfolding set_mark
  one_due true s = set_due (is_live s) s.marked s refl
  one_due false s = refl

  one_stamp : (b : Bool) (s : Slot S) → (mark_if b s).stamp ≡ s.stamp
  one_stamp b s = ap (λ (z : Slot S). z.stamp) (one_unmarked b s)

-- the slots that pass a test are marked
pub record Tests {S : Type 0} (old new : List (Slot S)) (test : ℕ → Slot S → Bool) : Type 0 where
  pub at : (i : ℕ) → slice_get new i ≡ option_map (λ s. mark_if (test i s) s) (slice_get old i)

module _ {S : Type 0} (old new : List (Slot S)) (test : ℕ → Slot S → Bool) (tests : Tests old new test) where
  here : (i : ℕ) (s : Slot S) → slice_get old i ≡ Some s → slice_get new i ≡ Some (mark_if (test i s) s)
  here i s e = tests.at i ∙ ap (option_map (λ z. mark_if (test i z) z)) e

  pub test_same : SameSlots old new
  test_same i = ap (option_map unmarked) (tests.at i) ∙ by (slice_get old i)
    where
      by : (o : Option (Slot S)) → option_map unmarked (option_map (λ s. mark_if (test i s) s) o) ≡ option_map unmarked o
      by None = refl
      by (Some s) = ap Some (one_unmarked (test i s) s)

  pub test_grows : (i n : ℕ) → IsMarkedAt old i n → IsMarkedAt new i n
  test_grows i n (s, at, stamp, marked) =
      (mark_if (test i s) s, here i s at, one_stamp (test i s) s ∙ stamp, one_marked (test i s) s marked)

  pub test_waits : (i n : ℕ) → IsWaitingAt old i n → IsWaitingAt new i n
  test_waits i n (s, at, stamp, waiting) =
      (mark_if (test i s) s, here i s at, one_stamp (test i s) s ∙ stamp, one_waiting (test i s) s waiting)

  pub test_each : (i n : ℕ) (s : Slot S) → slice_get old i ≡ Some s → s.stamp ≡ n → is_live s ≡ true → test i s ≡ true → IsMarkedAt new i n
  test_each i n s at stamp lives passes =
      (mark_if (test i s) s, here i s at, one_stamp (test i s) s ∙ stamp, one_each (test i s) s passes lives)

  pub test_only : (i n : ℕ) → IsMarkedAt new i n → IsMarkedAt old i n ⊎ ((s : Slot S) × (slice_get old i ≡ Some s) × (s.stamp ≡ n) × (is_live s ≡ true) × (test i s ≡ true) × IsWaitingAt new i n)
  test_only i n (r, at, stamp, marked) = by (slice_get old i) refl
    where
      by : (o : Option (Slot S)) → slice_get old i ≡ o → IsMarkedAt old i n ⊎ ((s : Slot S) × (slice_get old i ≡ Some s) × (s.stamp ≡ n) × (is_live s ≡ true) × (test i s ≡ true) × IsWaitingAt new i n)
      by None e = absurd (cc (sym at ∙ tests.at i ∙ ap (option_map (λ z. mark_if (test i z) z)) e))
      by (Some s) e =
          let is : r ≡ mark_if (test i s) s = same_Some r (mark_if (test i s) s) (sym at ∙ here i s e) in
          let was : s.stamp ≡ n = sym (one_stamp (test i s) s) ∙ sym (ap (λ (z : Slot S). z.stamp) is) ∙ stamp in
          ⊎_elim
          (λ m. inl (s, e, was, m))
          (λ m. inr (s, e, was, m.1, m.0, (mark_if (test i s) s, here i s e, one_stamp (test i s) s ∙ was, m.2)))
          (one_only (test i s) s (sym (ap (λ (z : Slot S). z.marked) is) ∙ marked))

module _ {S : Type 0} where
  -- a mark in one slot
  pub tests_changed : (w : List (Slot S)) (i : ℕ) → Tests w (changed mark w i) (λ j s. j == i)
  tests_changed w i = record { at = λ j. ⊎_elim (λ e. same j e) (λ d. other j d) (cases_eq j i) }
    where
      same : (j : ℕ) → j ≡ i → slice_get (changed mark w i) j ≡ option_map (λ s. mark_if (j == i) s) (slice_get w j)
      same j e =
          ap (slice_get (changed mark w i)) e ∙ changed_here mark w i ∙ ap (λ k. option_map mark (slice_get w k)) (sym e) ∙ ap (λ b. option_map (λ s. mark_if b s) (slice_get w j)) (sym (eq-eqb j i e))

      id_map : (o : Option (Slot S)) → o ≡ option_map (λ s. mark_if false s) o
      id_map None = refl
      id_map (Some s) = refl

      other : (j : ℕ) → (j ≡ i → ⊥) → slice_get (changed mark w i) j ≡ option_map (λ s. mark_if (j == i) s) (slice_get w j)
      other j d =
          changed_other mark w i j d ∙ id_map (slice_get w j) ∙ ap (λ b. option_map (λ s. mark_if b s) (slice_get w j)) (sym (ne_eqb j i d))

  -- a mark in each slot that passes
  pub tests_each : (w : List (Slot S)) (test : ℕ → Slot S → Bool) → Tests w (each_from (λ i s. mark_if (test i s) s) 0 w) test
  tests_each w test = record { at = λ j. each_from_get (λ i s. mark_if (test i s) s) w 0 j ∙ ap (λ k. option_map (λ s. mark_if (test k s) s) (slice_get w j)) (omega arith) }

  -- as many slots may still come to their turn
  pub due_changed : (w : List (Slot S)) (i : ℕ) → how_many is_due (changed mark w i) ≡ how_many is_due w
  due_changed [] i = refl
  due_changed (s ∷ w) zero = ap (λ b. bit b + how_many is_due w) (one_due true s)
  due_changed (s ∷ w) (suc i) = ap (λ n. bit (is_due s) + n) (due_changed w i)

  pub due_each : (test : ℕ → Slot S → Bool) (k : ℕ) (w : List (Slot S)) → how_many is_due (each_from (λ i s. mark_if (test i s) s) k w) ≡ how_many is_due w
  due_each test k [] = refl
  due_each test k (s ∷ w) =
      ap (λ b. bit b + how_many is_due (each_from (λ i z. mark_if (test i z) z) (suc k) w)) (one_due (test k s) s) ∙ ap (λ n. bit (is_due s) + n) (due_each test (suc k) w)

  -- a slot is taken off the worklist
  taken_at : (w : List (Slot S)) (i j : ℕ) (s : Slot S) → slice_get w j ≡ Some s → ((j ≡ i) × (slice_get (changed taken_up w i) j ≡ Some (taken_up s))) ⊎ (slice_get (changed taken_up w i) j ≡ Some s)
  taken_at w i j s at = ⊎_elim
      (λ (e : j ≡ i). inl (e, ap (slice_get (changed taken_up w i)) e ∙ changed_here taken_up w i ∙ ap (λ k. option_map taken_up (slice_get w k)) (sym e) ∙ ap (option_map taken_up) at))
      (λ d. inr (changed_other taken_up w i j d ∙ at))
      (cases_eq j i)

  pub taken_same : (w : List (Slot S)) (i : ℕ) → SameSlots w (changed taken_up w i)
  taken_same w i j = ⊎_elim
      (λ (e : j ≡ i). ap (λ k. option_map unmarked (slice_get (changed taken_up w i) k)) e ∙ ap (option_map unmarked) (changed_here taken_up w i) ∙ by (slice_get w i) ∙ ap (λ k. option_map unmarked (slice_get w k)) (sym e))
      (λ d. ap (option_map unmarked) (changed_other taken_up w i j d))
      (cases_eq j i)
    where
      by : (o : Option (Slot S)) → option_map unmarked (option_map taken_up o) ≡ option_map unmarked o
      by None = refl
      by (Some s) = refl

  pub taken_grows : (w : List (Slot S)) (i j n : ℕ) → IsMarkedAt w j n → IsMarkedAt (changed taken_up w i) j n
  taken_grows w i j n (s, at, stamp, marked) =
      ⊎_elim (λ r. (taken_up s, r.1, stamp, marked)) (λ r. (s, r, stamp, marked)) (taken_at w i j s at)

  pub taken_only : (w : List (Slot S)) (i j n : ℕ) → IsMarkedAt (changed taken_up w i) j n → IsMarkedAt w j n
  taken_only w i j n (r, at, stamp, marked) = by (slice_get w j) refl
    where
      by : (o : Option (Slot S)) → slice_get w j ≡ o → IsMarkedAt w j n
      by None e =
          absurd (cc (sym (ap (option_map unmarked) at) ∙ taken_same w i j ∙ ap (option_map unmarked) e))
      by (Some s) e = ⊎_elim
          (λ t. let is : r ≡ taken_up s = same_Some r (taken_up s) (sym at ∙ t.1) in (s, e, sym (ap (λ (z : Slot S). z.stamp) is) ∙ stamp, sym (ap (λ (z : Slot S). z.marked) is) ∙ marked))
          (λ t. let is : r ≡ s = same_Some r s (sym at ∙ t) in (s, e, sym (ap (λ (z : Slot S). z.stamp) is) ∙ stamp, sym (ap (λ (z : Slot S). z.marked) is) ∙ marked))
          (taken_at w i j s e)

  pub taken_waits : (w : List (Slot S)) (i j n : ℕ) → IsWaitingAt w j n → (j ≡ i) ⊎ IsWaitingAt (changed taken_up w i) j n
  taken_waits w i j n (s, at, stamp, waiting) =
      ⊎_elim (λ e. inl e) (λ d. inr (s, changed_other taken_up w i j d ∙ at, stamp, waiting)) (cases_eq j i)

  pub taken_due : (w : List (Slot S)) (i : ℕ) (s : Slot S) → slice_get w i ≡ Some s → s.waiting ≡ true → s.marked ≡ true → how_many is_due (changed taken_up w i) + 1 ≡ how_many is_due w
  taken_due [] i s at waits marked = absurd (cc at)
  taken_due (r ∷ w) zero s at waits marked =
      let is : r ≡ s = same_Some r s at in
      let old : is_due r ≡ true = ap is_due is ∙ ap (λ b. not (s.marked && not b)) waits ∙ ap (λ b. not (b && false)) marked in
      let new : is_due (taken_up r) ≡ false = ap (λ (z : Slot S). not (z.marked && true)) is ∙ ap (λ b. not (b && true)) marked in
      omega (arith, ap bit old, ap bit new)
  taken_due (r ∷ w) (suc i) s at waits marked = omega (arith, taken_due w i s at waits marked)
