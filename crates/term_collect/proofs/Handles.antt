-- Tables that differ in marks alone, and marks that come one after another.
use Rattle.std.proofs.Common.{◌≡◌, ◌∙◌, ◌<◌, ◌==◌, ◌||◌, ◌&&◌, ℕ, zero, suc, Bool, true, false, List, [], ◌∷◌, map, Option, Some, None, is_some, refl, sym, ap, subst, inl, inr, ◌⊎◌, ⊎_elim, arith}
use Rattle.std.specs.Prelude.{slice_get, IsSome, nat_lt}
use Rattle.std.specs.Option.{option_map}
use Rattle.std.proofs.lemmas.Option.{same_Some}
use Rattle.std.proofs.lemmas.Bool.{eqb-true, eq-eqb, ltb-true, lt-ltb, or_cases, or_left, or_right, and_from, and_parts}
use Rattle.stamped_slots.specs.Slots.{Slot, held_at, stamp_at, stamp_under, is_live, changed, taken_up}
use Rattle.stamped_slots.specs.Regular.{IsRegular}
use Rattle.term_shapes.specs.declared.handles.Term.{Term}
use Rattle.term_shapes.specs.declared.handles.TypeId.{TypeId}
use Rattle.term_shapes.specs.declared.shapes.TypeShape.{TypeShape}
use Rattle.term_shapes.specs.declared.shapes.Node.{Node}
use Rattle.term_table.specs.declared.table.Marked.TheVariants as handle
use Rattle.stamped_slots.proofs.Lists.{map_get}
use Rattle.term_table.specs.World.{World, node_at, type_shape_at, IsTable, HasLiveNames}
use Rattle.term_table.specs.Naming.{any_at, meant_terms, meant_types, names_marked}
use Rattle.term_table.specs.Changes.{IsMarkedAt, term_marked, type_marked, roots_marked, TakesUp, count_under}
use Rattle.term_table.proofs.Held.{slot_held, held_slot}
use Rattle.term_collect.specs.Reach.{Handle, IsLive, IsHeld, IsMeant, IsNamed, Needs, Reaches}
use Rattle.term_collect.specs.Reach.Reaches.{itself, needed}
use Rattle.term_collect.specs.Marking.{HasMark, Waits, SameButMarks, IsLiveHeld, Marks, Takes, IsWaitingAt}
use Rattle.term_collect.proofs.Slots.{same_held, same_count, Tests, tests_changed, tests_each, test_same, test_grows, test_waits, test_each, test_only, due_changed, due_each, taken_same, taken_grows, taken_only, taken_waits, taken_due}

pub some_is : {X : Type 0} (o : Option X) → IsSome o → (x : X) × (o ≡ Some x)
some_is None h = absurd (cc h)
some_is (Some x) h = (x, refl)

pub is_some_of : {X : Type 0} (o : Option X) (x : X) → o ≡ Some x → IsSome o
is_some_of o x h = ap is_some h

pub term_is : (u t : Term) → u.slot ≡ t.slot → u.stamp ≡ t.stamp → u ≡ t
term_is u t e k =
    let first : u ≡ record { slot = t.slot; stamp = u.stamp } = ap (λ n. let r : Term = record { slot = n; stamp = u.stamp } in r) e in
    let second : record { slot = t.slot; stamp = u.stamp } ≡ t = ap (λ n. let r : Term = record { slot = t.slot; stamp = n } in r) k in
    first ∙ second

pub type_is : (u t : TypeId) → u.slot ≡ t.slot → u.stamp ≡ t.stamp → u ≡ t
type_is u t e k =
    let first : u ≡ record { slot = t.slot; stamp = u.stamp } = ap (λ n. let r : TypeId = record { slot = n; stamp = u.stamp } in r) e in
    let second : record { slot = t.slot; stamp = u.stamp } ≡ t = ap (λ n. let r : TypeId = record { slot = t.slot; stamp = n } in r) k in
    first ∙ second

pub same_self : (w : World) → SameButMarks w w
same_self w = record {
  terms = λ i. refl;
  types = λ i. refl;
  term_names = refl;
  type_names = refl;
  constants = refl;
  variables = refl;
  kinds = refl;
}

pub same_on : (a b c : World) → SameButMarks a b → SameButMarks b c → SameButMarks a c
same_on a b c g h = record {
  terms = λ i. h.terms i ∙ g.terms i;
  types = λ i. h.types i ∙ g.types i;
  term_names = h.term_names ∙ g.term_names;
  type_names = h.type_names ∙ g.type_names;
  constants = h.constants ∙ g.constants;
  variables = h.variables ∙ g.variables;
  kinds = h.kinds ∙ g.kinds;
}

pub same_back : (a b : World) → SameButMarks a b → SameButMarks b a
same_back a b h = record {
  terms = λ i. sym (h.terms i);
  types = λ i. sym (h.types i);
  term_names = sym h.term_names;
  type_names = sym h.type_names;
  constants = sym h.constants;
  variables = sym h.variables;
  kinds = sym h.kinds;
}

-- what handles stand for, need and reach is the same
module _ (a b : World) (same : SameButMarks a b) where
  pub same_node : (t : Term) → node_at b t ≡ node_at a t
  same_node t = same_held a.terms b.terms same.terms t.slot t.stamp

  pub same_shape : (t : TypeId) → type_shape_at b t ≡ type_shape_at a t
  same_shape t = same_held a.types b.types same.types t.slot t.stamp

  pub same_lives : (h : Handle) → IsLive a h → IsLive b h
  same_lives (handle.Term t) l = ap is_some (same_node t) ∙ l
  same_lives (handle.TypeId t) l = ap is_some (same_shape t) ∙ l

  pub same_holds : (h : Handle) → IsHeld a h → IsHeld b h
  same_holds (handle.Term t) l =
      ⊎_elim inl (λ n. inr (omega (arith, n, same_count a.terms b.terms same.terms t.slot))) l
  same_holds (handle.TypeId t) l =
      ⊎_elim inl (λ n. inr (omega (arith, n, same_count a.types b.types same.types t.slot))) l

  pub same_needs : (h k : Handle) → Needs a h k → Needs b h k
  same_needs (handle.Term t) k (n, has, needs) = (n, same_node t ∙ has, needs)
  same_needs (handle.TypeId t) k (s, has, needs) = (s, same_shape t ∙ has, needs)

  pub same_reaches : (g h : Handle) → Reaches a g h → Reaches b g h
  same_reaches g z itself = itself
  same_reaches g z (needed h k r n) = needed h k (same_reaches g h r) (same_needs h k n)

-- nothing is marked
pub marks_none : (w : World) (P : Handle → Type 0) → ((h : Handle) → P h → ⊥) → Marks w w P
marks_none w P never = record {
  same = same_self w;
  each = λ h p. absurd (never h p);
  grows = λ h m. m;
  waits = λ h m. m;
  only = λ h m. inl m;
  left = refl;
}

-- one set after another
pub marks_both : (a b c : World) (P Q : Handle → Type 0) → Marks a b P → Marks b c Q → Marks a c (λ h. P h ⊎ Q h)
marks_both a b c P Q g k = record {
  same = same_on a b c g.same k.same;
  each = λ h. ⊎_elim (λ p. k.grows h (g.each h p)) (λ q. k.each h q);
  grows = λ h m. k.grows h (g.grows h m);
  waits = λ h m. k.waits h (g.waits h m);
  only = λ h m. ⊎_elim (λ n. ⊎_elim inl (λ p. inr (inl p.0, k.waits h p.1)) (g.only h n)) (λ q. inr (inr q.0, q.1)) (k.only h m);
  left = k.left ∙ g.left;
}

-- the set in other words
pub marks_as : (a b : World) (P Q : Handle → Type 0) → Marks a b P → ((h : Handle) → P h → Q h) → ((h : Handle) → Q h → P h) → Marks a b Q
marks_as a b P Q g to from = record {
  same = g.same;
  each = λ h q. g.each h (from h q);
  grows = g.grows;
  waits = g.waits;
  only = λ h m. ⊎_elim inl (λ p. inr (to h p.0, p.1)) (g.only h m);
  left = g.left;
}

module _ {S : Type 0} where
  -- the slot of a live handle
  pub slot_lives : (w : List (Slot S)) (i n : ℕ) → IsSome (held_at w i n) → (s : Slot S) × (slice_get w i ≡ Some s) × (s.stamp ≡ n) × (is_live s ≡ true)
  slot_lives w i n h =
      let x = some_is (held_at w i n) h in
      let s = slot_held w i n x.0 x.1 in
      (s.0, s.1, s.2, ap is_some s.3)

  pub lives_slot : (w : List (Slot S)) (i n : ℕ) (s : Slot S) → slice_get w i ≡ Some s → s.stamp ≡ n → is_live s ≡ true → IsSome (held_at w i n)
  lives_slot w i n s at stamp lives =
      let x = some_is s.held lives in
      is_some_of (held_at w i n) x.0 (held_slot w i n s x.0 at (sym stamp ∙ sym (ap stamp_under at)) x.1)

  -- a live handle of the slot has its stamp
  stamp_is : (w : List (Slot S)) (i j n m : ℕ) (s : Slot S) → slice_get w i ≡ Some s → s.stamp ≡ n → i ≡ j → IsSome (held_at w j m) → n ≡ m
  stamp_is w i j n m s at stamp e h =
      let r = slot_lives w j m h in
      let is : s ≡ r.0 = same_Some s r.0 (sym at ∙ ap (slice_get w) e ∙ r.1) in
      sym stamp ∙ ap (λ (z : Slot S). z.stamp) is ∙ r.2

-- a term is marked
pub marks_term : (w : World) (t : Term) → IsSome (node_at w t) → Marks w (term_marked w t) (λ h. h ≡ handle.Term t)
marks_term w t live = record { same = same; each = each; grows = grows; waits = waits; only = only; left = omega (arith, due_changed w.terms t.slot) }
  where
    tests : Tests w.terms (term_marked w t).terms (λ j s. j == t.slot)
    tests = tests_changed w.terms t.slot

    same : SameButMarks w (term_marked w t)
    same = record { terms = test_same _ _ _ tests; types = λ i. refl; term_names = refl; type_names = refl; constants = refl; variables = refl; kinds = refl }

    each : (h : Handle) → h ≡ handle.Term t → HasMark (term_marked w t) h
    each h e =
        let s = slot_lives w.terms t.slot t.stamp live in
        subst (HasMark (term_marked w t)) (sym e) (test_each _ _ _ tests t.slot t.stamp s.0 s.1 s.2 s.3 (eq-eqb t.slot t.slot refl))

    grows : (h : Handle) → HasMark w h → HasMark (term_marked w t) h
    grows (handle.Term u) m = test_grows _ _ _ tests u.slot u.stamp m
    grows (handle.TypeId u) m = m

    waits : (h : Handle) → Waits w h → Waits (term_marked w t) h
    waits (handle.Term u) m = test_waits _ _ _ tests u.slot u.stamp m
    waits (handle.TypeId u) m = m

    only : (h : Handle) → HasMark (term_marked w t) h → HasMark w h ⊎ ((h ≡ handle.Term t) × Waits (term_marked w t) h)
    only (handle.TypeId u) m = inl m
    only (handle.Term u) m = ⊎_elim
        inl
        (λ (s, at, stamp, lives, passes, waiting). let e : u.slot ≡ t.slot = eqb-true u.slot t.slot passes in inr (ap handle.Term (term_is u t e (stamp_is w.terms u.slot t.slot u.stamp t.stamp s at stamp e live)), waiting))
        (test_only _ _ _ tests u.slot u.stamp m)

-- a type is marked
pub marks_type : (w : World) (t : TypeId) → IsSome (type_shape_at w t) → Marks w (type_marked w t) (λ h. h ≡ handle.TypeId t)
marks_type w t live = record { same = same; each = each; grows = grows; waits = waits; only = only; left = omega (arith, due_changed w.types t.slot) }
  where
    tests : Tests w.types (type_marked w t).types (λ j s. j == t.slot)
    tests = tests_changed w.types t.slot

    same : SameButMarks w (type_marked w t)
    same = record { terms = λ i. refl; types = test_same _ _ _ tests; term_names = refl; type_names = refl; constants = refl; variables = refl; kinds = refl }

    each : (h : Handle) → h ≡ handle.TypeId t → HasMark (type_marked w t) h
    each h e =
        let s = slot_lives w.types t.slot t.stamp live in
        subst (HasMark (type_marked w t)) (sym e) (test_each _ _ _ tests t.slot t.stamp s.0 s.1 s.2 s.3 (eq-eqb t.slot t.slot refl))

    grows : (h : Handle) → HasMark w h → HasMark (type_marked w t) h
    grows (handle.Term u) m = m
    grows (handle.TypeId u) m = test_grows _ _ _ tests u.slot u.stamp m

    waits : (h : Handle) → Waits w h → Waits (type_marked w t) h
    waits (handle.Term u) m = m
    waits (handle.TypeId u) m = test_waits _ _ _ tests u.slot u.stamp m

    only : (h : Handle) → HasMark (type_marked w t) h → HasMark w h ⊎ ((h ≡ handle.TypeId t) × Waits (type_marked w t) h)
    only (handle.Term u) m = inl m
    only (handle.TypeId u) m = ⊎_elim
        inl
        (λ (s, at, stamp, lives, passes, waiting). let e : u.slot ≡ t.slot = eqb-true u.slot t.slot passes in inr (ap handle.TypeId (type_is u t e (stamp_is w.types u.slot t.slot u.stamp t.stamp s at stamp e live)), waiting))
        (test_only _ _ _ tests u.slot u.stamp m)

-- what is permanent or referred to is marked
module _ {S : Type 0} (w : List (Slot S)) (below : ℕ) where
  test_of : (i : ℕ) (s : Slot S) → slice_get w i ≡ Some s → (i < below) ⊎ (0 < count_under (slice_get w i)) → (nat_lt i below || nat_lt 0 s.count) ≡ true
  test_of i s at h = ⊎_elim
      (λ l. or_left (nat_lt i below) (nat_lt 0 s.count) (lt-ltb i below l))
      (λ l. or_right (nat_lt i below) (nat_lt 0 s.count) (lt-ltb 0 s.count (omega (arith, l, ap count_under at))))
      h

  of_test : (i : ℕ) (s : Slot S) → slice_get w i ≡ Some s → (nat_lt i below || nat_lt 0 s.count) ≡ true → (i < below) ⊎ (0 < count_under (slice_get w i))
  of_test i s at h = ⊎_elim
      (λ l. inl (ltb-true i below l))
      (λ l. inr (omega (arith, ltb-true 0 s.count l, ap count_under at)))
      (or_cases (nat_lt i below) (nat_lt 0 s.count) h)

pub marks_held : (w : World) → Marks w (roots_marked w) (IsLiveHeld w)
marks_held w = record { same = same; each = each; grows = grows; waits = waits; only = only; left = omega (arith, due_each (λ i s. nat_lt i 2 || nat_lt 0 s.count) 0 w.terms, due_each (λ i s. nat_lt i 130 || nat_lt 0 s.count) 0 w.types) }
  where
    terms : Tests w.terms (roots_marked w).terms (λ i s. nat_lt i 2 || nat_lt 0 s.count)
    terms = tests_each w.terms (λ i s. nat_lt i 2 || nat_lt 0 s.count)

    types : Tests w.types (roots_marked w).types (λ i s. nat_lt i 130 || nat_lt 0 s.count)
    types = tests_each w.types (λ i s. nat_lt i 130 || nat_lt 0 s.count)

    same : SameButMarks w (roots_marked w)
    same = record { terms = test_same _ _ _ terms; types = test_same _ _ _ types; term_names = refl; type_names = refl; constants = refl; variables = refl; kinds = refl }

    each : (h : Handle) → IsLiveHeld w h → HasMark (roots_marked w) h
    each (handle.Term t) p =
        let s = slot_lives w.terms t.slot t.stamp p.0 in
        test_each _ _ _ terms t.slot t.stamp s.0 s.1 s.2 s.3 (test_of w.terms 2 t.slot s.0 s.1 p.1)
    each (handle.TypeId t) p =
        let s = slot_lives w.types t.slot t.stamp p.0 in
        test_each _ _ _ types t.slot t.stamp s.0 s.1 s.2 s.3 (test_of w.types 130 t.slot s.0 s.1 p.1)

    grows : (h : Handle) → HasMark w h → HasMark (roots_marked w) h
    grows (handle.Term u) m = test_grows _ _ _ terms u.slot u.stamp m
    grows (handle.TypeId u) m = test_grows _ _ _ types u.slot u.stamp m

    waits : (h : Handle) → Waits w h → Waits (roots_marked w) h
    waits (handle.Term u) m = test_waits _ _ _ terms u.slot u.stamp m
    waits (handle.TypeId u) m = test_waits _ _ _ types u.slot u.stamp m

    only : (h : Handle) → HasMark (roots_marked w) h → HasMark w h ⊎ (IsLiveHeld w h × Waits (roots_marked w) h)
    only (handle.Term u) m = ⊎_elim
        inl
        (λ (s, at, stamp, lives, passes, waiting). inr ((lives_slot w.terms u.slot u.stamp s at stamp lives, of_test w.terms 2 u.slot s at passes), waiting))
        (test_only _ _ _ terms u.slot u.stamp m)
    only (handle.TypeId u) m = ⊎_elim
        inl
        (λ (s, at, stamp, lives, passes, waiting). inr ((lives_slot w.types u.slot u.stamp s at stamp lives, of_test w.types 130 u.slot s at passes), waiting))
        (test_only _ _ _ types u.slot u.stamp m)

-- the handle of a slot and a stamp is one of those
any_at_there : (i n : ℕ) (hs : List (ℕ × ℕ)) (k : ℕ) → slice_get hs k ≡ Some (i, n) → any_at i n hs ≡ true
any_at_there i n [] k at = absurd (cc at)
any_at_there i n (h ∷ hs) zero at =
    let e : h ≡ (i, n) = same_Some h (i, n) at in
    or_left ((h.0 == i) && (h.1 == n)) (any_at i n hs) (and_from (h.0 == i) (h.1 == n) (eq-eqb h.0 i (ap (λ (z : ℕ × ℕ). z.0) e)) (eq-eqb h.1 n (ap (λ (z : ℕ × ℕ). z.1) e)))
any_at_there i n (h ∷ hs) (suc k) at =
    or_right ((h.0 == i) && (h.1 == n)) (any_at i n hs) (any_at_there i n hs k at)

-- and one of the meanings has it
any_at_meaning : {H : Type 0} (place_of : H → ℕ × ℕ) (i n : ℕ) (ps : List (List ℕ × H)) → any_at i n (map (λ (p : List ℕ × H). place_of p.1) ps) ≡ true → (k : ℕ) × (p : List ℕ × H) × (slice_get ps k ≡ Some p) × ((place_of p.1).0 ≡ i) × ((place_of p.1).1 ≡ n)
any_at_meaning place_of i n [] h = absurd (cc h)
any_at_meaning {H} place_of i n (p ∷ ps) h = ⊎_elim
    (λ e. let parts = and_parts ((place_of p.1).0 == i) ((place_of p.1).1 == n) e in (0, p, refl, eqb-true (place_of p.1).0 i parts.0, eqb-true (place_of p.1).1 n parts.1))
    (λ e. let r = any_at_meaning place_of i n ps e in (suc r.0, r.1, r.2, r.3, r.4))
    (or_cases (((place_of p.1).0 == i) && ((place_of p.1).1 == n)) (any_at i n (map (λ (q : List ℕ × H). place_of q.1) ps)) h)

-- what a name means is marked
pub marks_meant : (w : World) → HasLiveNames w → Marks w (names_marked w) (IsMeant w)
marks_meant w names = record { same = same; each = each; grows = grows; waits = waits; only = only; left = omega (arith, due_each (λ i s. any_at i s.stamp (meant_terms w.term_names)) 0 w.terms, due_each (λ i s. any_at i s.stamp (meant_types w.type_names)) 0 w.types) }
  where
    terms : Tests w.terms (names_marked w).terms (λ i s. any_at i s.stamp (meant_terms w.term_names))
    terms = tests_each w.terms (λ i s. any_at i s.stamp (meant_terms w.term_names))

    types : Tests w.types (names_marked w).types (λ i s. any_at i s.stamp (meant_types w.type_names))
    types = tests_each w.types (λ i s. any_at i s.stamp (meant_types w.type_names))

    same : SameButMarks w (names_marked w)
    same = record { terms = test_same _ _ _ terms; types = test_same _ _ _ types; term_names = refl; type_names = refl; constants = refl; variables = refl; kinds = refl }

    each : (h : Handle) → IsMeant w h → HasMark (names_marked w) h
    each (handle.Term t) (i, p, at, is) =
        let s = slot_lives w.terms t.slot t.stamp (subst (λ z. IsSome (node_at w z)) is (names.terms i p at)) in
        let there : slice_get (meant_terms w.term_names) i ≡ Some (t.slot, s.0.stamp) = map_get (λ (q : List ℕ × Term). (q.1.slot, q.1.stamp)) w.term_names i ∙ ap (option_map (λ (q : List ℕ × Term). (q.1.slot, q.1.stamp))) at ∙ ap (λ (z : Term). Some (z.slot, z.stamp)) is ∙ ap (λ n. Some (t.slot, n)) (sym s.2) in
        test_each _ _ _ terms t.slot t.stamp s.0 s.1 s.2 s.3 (any_at_there t.slot s.0.stamp (meant_terms w.term_names) i there)
    each (handle.TypeId t) (i, p, at, is) =
        let s = slot_lives w.types t.slot t.stamp (subst (λ z. IsSome (type_shape_at w z)) is (names.types i p at)) in
        let there : slice_get (meant_types w.type_names) i ≡ Some (t.slot, s.0.stamp) = map_get (λ (q : List ℕ × TypeId). (q.1.slot, q.1.stamp)) w.type_names i ∙ ap (option_map (λ (q : List ℕ × TypeId). (q.1.slot, q.1.stamp))) at ∙ ap (λ (z : TypeId). Some (z.slot, z.stamp)) is ∙ ap (λ n. Some (t.slot, n)) (sym s.2) in
        test_each _ _ _ types t.slot t.stamp s.0 s.1 s.2 s.3 (any_at_there t.slot s.0.stamp (meant_types w.type_names) i there)

    grows : (h : Handle) → HasMark w h → HasMark (names_marked w) h
    grows (handle.Term u) m = test_grows _ _ _ terms u.slot u.stamp m
    grows (handle.TypeId u) m = test_grows _ _ _ types u.slot u.stamp m

    waits : (h : Handle) → Waits w h → Waits (names_marked w) h
    waits (handle.Term u) m = test_waits _ _ _ terms u.slot u.stamp m
    waits (handle.TypeId u) m = test_waits _ _ _ types u.slot u.stamp m

    only : (h : Handle) → HasMark (names_marked w) h → HasMark w h ⊎ (IsMeant w h × Waits (names_marked w) h)
    only (handle.Term u) m = ⊎_elim
        inl
        (λ (s, at, stamp, lives, passes, waiting). let r = any_at_meaning (λ (z : Term). (z.slot, z.stamp)) u.slot s.stamp w.term_names passes in inr ((r.0, r.1, r.2, term_is r.1.1 u r.3 (r.4 ∙ stamp)), waiting))
        (test_only _ _ _ terms u.slot u.stamp m)
    only (handle.TypeId u) m = ⊎_elim
        inl
        (λ (s, at, stamp, lives, passes, waiting). let r = any_at_meaning (λ (z : TypeId). (z.slot, z.stamp)) u.slot s.stamp w.type_names passes in inr ((r.0, r.1, r.2, type_is r.1.1 u r.3 (r.4 ∙ stamp)), waiting))
        (test_only _ _ _ types u.slot u.stamp m)

pub marks_unasked : (w : World) (keep_named : Bool) → keep_named ≡ false → Marks w w (IsNamed w keep_named)
marks_unasked w keep_named e = marks_none w (IsNamed w keep_named) (λ h p. cc (sym e ∙ p.0))

pub marks_asked : (w new : World) (keep_named : Bool) → keep_named ≡ true → IsTable w → new ≡ names_marked w → Marks w new (IsNamed w keep_named)
marks_asked w new keep_named e table is =
    subst (λ z. Marks w z (IsNamed w keep_named)) (sym is) (marks_as w (names_marked w) (IsMeant w) (IsNamed w keep_named) (marks_meant w table.names) (λ h p. (e, p)) (λ h p. p.1))

-- names mean the same where tables differ in marks alone
pub same_meant : (a b : World) → SameButMarks a b → (h : Handle) → IsMeant a h → IsMeant b h
same_meant a b same (handle.Term t) (i, p, at, is) = (i, p, ap (λ z. slice_get z i) same.term_names ∙ at, is)
same_meant a b same (handle.TypeId t) (i, p, at, is) = (i, p, ap (λ z. slice_get z i) same.type_names ∙ at, is)

-- a marked slot is live
pub mark_lives : {S : Type 0} (w : List (Slot S)) → IsRegular w → (i n : ℕ) → IsMarkedAt w i n → IsSome (held_at w i n)
mark_lives {S} w regular i n (s, at, stamp, marked) = by s.held refl
  where
    by : (o : Option S) → s.held ≡ o → IsSome (held_at w i n)
    by None e = absurd (cc (sym marked ∙ (regular.clear i s at e).1))
    by (Some x) e = lives_slot w i n s at stamp (ap is_some e)

pub has_mark_lives : (w : World) → IsTable w → (h : Handle) → HasMark w h → IsLive w h
has_mark_lives w table (handle.Term t) m = mark_lives w.terms table.terms t.slot t.stamp m
has_mark_lives w table (handle.TypeId t) m = mark_lives w.types table.types t.slot t.stamp m

-- two handles that have one slot and its stamp
module _ {S : Type 0} (w : List (Slot S)) (i j n m : ℕ) where
  stamps : IsWaitingAt w j m → n ≡ stamp_at w i → j ≡ i → m ≡ n
  stamps (s, at, stamp, waiting) is e =
      sym stamp ∙ sym (ap stamp_under at) ∙ ap (stamp_at w) e ∙ sym is

abbrev pub term_taken : World → Term → World
term_taken w t = record w { terms = changed taken_up w.terms t.slot }

abbrev pub type_taken : World → TypeId → World
type_taken w t = record w { types = changed taken_up w.types t.slot }

pub takes_term : (w : World) → IsTable w → (t : Term) (s : Slot Node) → slice_get w.terms t.slot ≡ Some s → s.waiting ≡ true → t.stamp ≡ stamp_at w.terms t.slot → Takes w (record w { terms = changed taken_up w.terms t.slot }) (handle.Term t)
takes_term w table t s at waiting is = record { same = same; live = same_lives w (term_taken w t) same (handle.Term t) (mark_lives w.terms table.terms t.slot t.stamp marked); marked = marked; grows = grows; only = only; waits = waits; left = omega (arith, taken_due w.terms t.slot s at waiting (table.terms.waiting t.slot s at waiting)) }
  where
    marked : IsMarkedAt w.terms t.slot t.stamp
    marked = (s, at, sym (is ∙ ap stamp_under at), table.terms.waiting t.slot s at waiting)

    same : SameButMarks w (term_taken w t)
    same = record { terms = taken_same w.terms t.slot; types = λ i. refl; term_names = refl; type_names = refl; constants = refl; variables = refl; kinds = refl }

    grows : (h : Handle) → HasMark w h → HasMark (term_taken w t) h
    grows (handle.Term u) m = taken_grows w.terms t.slot u.slot u.stamp m
    grows (handle.TypeId u) m = m

    only : (h : Handle) → HasMark (term_taken w t) h → HasMark w h
    only (handle.Term u) m = taken_only w.terms t.slot u.slot u.stamp m
    only (handle.TypeId u) m = m

    waits : (h : Handle) → Waits w h → (h ≡ handle.Term t) ⊎ Waits (term_taken w t) h
    waits (handle.Term u) m =
        ⊎_elim (λ e. inl (ap handle.Term (term_is u t e (stamps w.terms t.slot u.slot t.stamp u.stamp m is e)))) inr (taken_waits w.terms t.slot u.slot u.stamp m)
    waits (handle.TypeId u) m = inr m

pub takes_type : (w : World) → IsTable w → (t : TypeId) (s : Slot TypeShape) → slice_get w.types t.slot ≡ Some s → s.waiting ≡ true → t.stamp ≡ stamp_at w.types t.slot → Takes w (record w { types = changed taken_up w.types t.slot }) (handle.TypeId t)
takes_type w table t s at waiting is = record { same = same; live = same_lives w (type_taken w t) same (handle.TypeId t) (mark_lives w.types table.types t.slot t.stamp marked); marked = marked; grows = grows; only = only; waits = waits; left = omega (arith, taken_due w.types t.slot s at waiting (table.types.waiting t.slot s at waiting)) }
  where
    marked : IsMarkedAt w.types t.slot t.stamp
    marked = (s, at, sym (is ∙ ap stamp_under at), table.types.waiting t.slot s at waiting)

    same : SameButMarks w (type_taken w t)
    same = record { terms = λ i. refl; types = taken_same w.types t.slot; term_names = refl; type_names = refl; constants = refl; variables = refl; kinds = refl }

    grows : (h : Handle) → HasMark w h → HasMark (type_taken w t) h
    grows (handle.Term u) m = m
    grows (handle.TypeId u) m = taken_grows w.types t.slot u.slot u.stamp m

    only : (h : Handle) → HasMark (type_taken w t) h → HasMark w h
    only (handle.Term u) m = m
    only (handle.TypeId u) m = taken_only w.types t.slot u.slot u.stamp m

    waits : (h : Handle) → Waits w h → (h ≡ handle.TypeId t) ⊎ Waits (type_taken w t) h
    waits (handle.Term u) m = inr m
    waits (handle.TypeId u) m =
        ⊎_elim (λ e. inl (ap handle.TypeId (type_is u t e (stamps w.types t.slot u.slot t.stamp u.stamp m is e)))) inr (taken_waits w.types t.slot u.slot u.stamp m)

pub takes_up : (w : World) (g : Handle) (new : World) → IsTable w → TakesUp w g new → Takes w new g
takes_up w (handle.Term t) new table ((s, at, waiting), is, e) =
    subst (λ z. Takes w z (handle.Term t)) (sym e) (takes_term w table t s at waiting is)
takes_up w (handle.TypeId t) new table ((s, at, waiting), is, e) =
    subst (λ z. Takes w z (handle.TypeId t)) (sym e) (takes_type w table t s at waiting is)
