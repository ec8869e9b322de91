-- Marking what names mean.
use Rattle.std.proofs.Common.{◌≡◌, ◌∙◌, ◌+◌, ◌<◌, ◌≤◌, ◌==◌, ◌&&◌, ◌||◌, ◌++◌, ℕ, zero, suc, Bool, true, false, not, if◌then◌else◌, List, [], ◌∷◌, Option, Some, None, length, map, take, refl, sym, ap, ⊎_elim, arith}
use Rattle.std.specs.Prelude.{slice_get, IsSome}
use Rattle.std.specs.Option.{option_map}
use Rattle.std.proofs.lemmas.Option.{same_Some, slice_get_within}
use Rattle.std.proofs.lemmas.Bool.{cases_eq, eq-eqb, eqb-true}
use Rattle.stamped_slots.specs.Slots.{Slot, held_at, is_live, mark, mark_if, changed, each_from}
use Rattle.stamped_slots.proofs.Lists.{changed_here, changed_other, each_from_get, same_by_get, map_get, get_in}
use Rattle.table_slots.specs.Nodes.{any_at, meant_marked}
use Rattle.table_slots.proofs.Held.{slot_held}

any_at_push : (i n : ℕ) (hs : List (ℕ × ℕ)) (h : ℕ × ℕ) → any_at i n (hs ++ h ∷ []) ≡ (any_at i n hs || ((h.0 == i) && (h.1 == n)))
any_at_push i n [] h = by ((h.0 == i) && (h.1 == n))
  where
    by : (b : Bool) → (b || false) ≡ (false || b)
    by true = refl
    by false = refl
any_at_push i n (g ∷ hs) h = ap (λ b. ((g.0 == i) && (g.1 == n)) || b) (any_at_push i n hs h) ∙ by ((g.0 == i) && (g.1 == n))
  where
    by : (b : Bool) → (b || (any_at i n hs || ((h.0 == i) && (h.1 == n)))) ≡ ((b || any_at i n hs) || ((h.0 == i) && (h.1 == n)))
    by true = refl
    by false = refl

module _ {S : Type 0} where
  mark_twice : (s : Slot S) → mark (mark s) ≡ mark s
  mark_twice s = by (is_live s) refl s.marked refl
    where
      by : (b : Bool) → is_live s ≡ b → (c : Bool) → s.marked ≡ c → mark (mark s) ≡ mark s
      by true e true f = ap mark same
        where
          same : mark s ≡ s
          same = ap (λ z. if z && not s.marked then record s { marked = true; waiting = true } else s) e ∙ ap (λ z. if true && not z then record s { marked = true; waiting = true } else s) f
      by true e false f = ap mark new ∙ twice ∙ sym new
        where
          marked_slot : Slot S
          marked_slot = record s { marked = true; waiting = true }

          new : mark s ≡ marked_slot
          new = ap (λ z. if z && not s.marked then record s { marked = true; waiting = true } else s) e ∙ ap (λ z. if true && not z then record s { marked = true; waiting = true } else s) f

          twice : mark marked_slot ≡ marked_slot
          twice = ap (λ z. if z && not true then record marked_slot { marked = true; waiting = true } else marked_slot) e
      by false e c f = ap mark same
        where
          same : mark s ≡ s
          same = ap (λ z. if z && not s.marked then record s { marked = true; waiting = true } else s) e

  mark_or : (s : Slot S) (b : Bool) → mark (mark_if b s) ≡ mark_if (b || true) s
  mark_or s true = mark_twice s
  mark_or s false = refl

  same_mark : (s : Slot S) (b : Bool) → mark_if b s ≡ mark_if (b || false) s
  same_mark s true = refl
  same_mark s false = refl

  -- one meaning more
  pub meant_more : (w : List (Slot S)) (hs : List (ℕ × ℕ)) (i n : ℕ) → IsSome (held_at w i n) → changed mark (meant_marked hs w) i ≡ meant_marked (hs ++ (i, n) ∷ []) w
  meant_more w hs i n lives = same_by_get _ _ (λ j. ⊎_elim (λ (e : j ≡ i). here j e) (λ d. there j d) (cases_eq j i))
    where
      stamp_is : (o : Option S) → held_at w i n ≡ o → IsSome o → (s : Slot S) → slice_get w i ≡ Some s → s.stamp ≡ n
      stamp_is None e h s at = absurd (cc h)
      stamp_is (Some x) e h s at = let r = slot_held w i n x e in ap (λ (z : Slot S). z.stamp) (same_Some s r.0 (sym at ∙ r.1)) ∙ r.2

      test : (j m : ℕ) → j ≡ i → m ≡ n → ((i == j) && (n == m)) ≡ true
      test j m e f = ap (λ b. b && (n == m)) (eq-eqb i j (sym e)) ∙ eq-eqb n m (sym f)

      hit : (j : ℕ) (e : j ≡ i) (o : Option (Slot S)) → slice_get w j ≡ o → option_map mark (option_map (λ s. mark_if (any_at (0 + j) s.stamp hs) s) o) ≡ option_map (λ s. mark_if (any_at (0 + j) s.stamp (hs ++ (i, n) ∷ [])) s) o
      hit j e None f = refl
      hit j e (Some s) f =
          let stamp : s.stamp ≡ n = stamp_is (held_at w i n) refl lives s (sym (ap (slice_get w) e) ∙ f) in
          let k : 0 + j ≡ i = omega (arith, e) in
          ap Some (mark_or s (any_at (0 + j) s.stamp hs) ∙ ap (λ b. mark_if (any_at (0 + j) s.stamp hs || b) s) (sym (test (0 + j) s.stamp k stamp)) ∙ ap (λ b. mark_if b s) (sym (any_at_push (0 + j) s.stamp hs (i, n))))

      here : (j : ℕ) → j ≡ i → slice_get (changed mark (meant_marked hs w) i) j ≡ slice_get (meant_marked (hs ++ (i, n) ∷ []) w) j
      here j e =
          ap (λ z. slice_get (changed mark (meant_marked hs w) z) j) (sym e) ∙ changed_here mark (meant_marked hs w) j
          ∙ ap (option_map mark) (each_from_get (λ k s. mark_if (any_at k s.stamp hs) s) w 0 j)
          ∙ hit j e (slice_get w j) refl
          ∙ sym (each_from_get (λ k s. mark_if (any_at k s.stamp (hs ++ (i, n) ∷ [])) s) w 0 j)

      differs : (j m : ℕ) → (j ≡ i → ⊥) → (b : Bool) → (i == j) ≡ b → ((i == j) && (n == m)) ≡ false
      differs j m d true e = absurd (d (sym (eqb-true i j e)))
      differs j m d false e = ap (λ b. b && (n == m)) e

      miss : (j : ℕ) → (j ≡ i → ⊥) → (o : Option (Slot S)) → option_map (λ s. mark_if (any_at (0 + j) s.stamp hs) s) o ≡ option_map (λ s. mark_if (any_at (0 + j) s.stamp (hs ++ (i, n) ∷ [])) s) o
      miss j d None = refl
      miss j d (Some s) =
          let k : 0 + j ≡ i → ⊥ = λ e. d (omega (arith, e)) in
          ap Some (same_mark s (any_at (0 + j) s.stamp hs) ∙ ap (λ b. mark_if (any_at (0 + j) s.stamp hs || b) s) (sym (differs (0 + j) s.stamp k (i == (0 + j)) refl)) ∙ ap (λ b. mark_if b s) (sym (any_at_push (0 + j) s.stamp hs (i, n))))

      there : (j : ℕ) → (j ≡ i → ⊥) → slice_get (changed mark (meant_marked hs w) i) j ≡ slice_get (meant_marked (hs ++ (i, n) ∷ []) w) j
      there j d =
          changed_other mark (meant_marked hs w) i j d ∙ each_from_get (λ k s. mark_if (any_at k s.stamp hs) s) w 0 j ∙ miss j d (slice_get w j)
          ∙ sym (each_from_get (λ k s. mark_if (any_at k s.stamp (hs ++ (i, n) ∷ [])) s) w 0 j)

  -- no meaning
  pub meant_none : (w : List (Slot S)) → meant_marked [] w ≡ w
  meant_none w = by w 0
    where
      by : (v : List (Slot S)) (k : ℕ) → each_from (λ i s. mark_if (any_at i s.stamp []) s) k v ≡ v
      by [] k = refl
      by (s ∷ v) k = ap (λ z. s ∷ z) (by v (suc k))

pub take_item : {X : Type 0} (xs : List X) (i : ℕ) (x : X) → slice_get xs i ≡ Some x → take (i + 1) xs ≡ take i xs ++ x ∷ []
take_item [] i x h = absurd (cc h)
take_item (y ∷ xs) zero x h = ap (λ z. z ∷ []) (same_Some y x h)
take_item (y ∷ xs) (suc i) x h = let e : suc i + 1 ≡ suc (i + 1) = omega arith in ap (λ n. take n (y ∷ xs)) e ∙ ap (λ z. y ∷ z) (take_item xs i x h)

pub take_whole : {X : Type 0} (xs : List X) (n : ℕ) → length xs ≤ n → take n xs ≡ xs
take_whole [] zero h = refl
take_whole [] (suc n) h = refl
take_whole (x ∷ xs) zero h = absurd (omega (arith, h))
take_whole (x ∷ xs) (suc n) h = ap (λ z. x ∷ z) (take_whole xs n (omega (arith, h)))

each_length : {X : Type 0} (f : ℕ → X → X) (w : List X) (k : ℕ) → length (each_from f k w) ≡ length w
each_length f [] k = refl
each_length f (x ∷ w) k = omega (arith, each_length f w (suc k))

-- a meaning that is live lies in a slot
pub meant_within : {S : Type 0} (v w : List (Slot S)) (hs : List (ℕ × ℕ)) (i n : ℕ) → v ≡ meant_marked hs w → IsSome (held_at w i n) → i < length v
meant_within {S} v w hs i n e lives = by (held_at w i n) refl lives
  where
    by : (o : Option S) → held_at w i n ≡ o → IsSome o → i < length v
    by None f h = absurd (cc h)
    by (Some x) f h =
        let r = slot_held w i n x f in
        omega (arith, slice_get_within w i r.0 r.1, ap length e, each_length (λ k s. mark_if (any_at k s.stamp hs) s) w 0)

-- the pair of a meaning
pub meaning_there : {H : Type 0} (ps : List (List ℕ × H)) (i : ℕ) (t : H) → Some t ≡ option_map (λ (p : List ℕ × H). p.1) (slice_get ps i) → (p : List ℕ × H) × (slice_get ps i ≡ Some p) × (p.1 ≡ t)
meaning_there {H} ps i t e = by (slice_get ps i) refl
  where
    by : (o : Option (List ℕ × H)) → slice_get ps i ≡ o → (p : List ℕ × H) × (slice_get ps i ≡ Some p) × (p.1 ≡ t)
    by None f = absurd (cc (e ∙ ap (option_map (λ (p : List ℕ × H). p.1)) f))
    by (Some p) f = (p, f, sym (same_Some t p.1 (e ∙ ap (option_map (λ (q : List ℕ × H). q.1)) f)))

-- one meaning more, where the meanings are those of a list
pub meant_step : {S H : Type 0} (place_of : H → ℕ × ℕ) (v w : List (Slot S)) (ps : List (List ℕ × H)) (k : ℕ) (p : List ℕ × H) → slice_get ps k ≡ Some p → IsSome (held_at w (place_of p.1).0 (place_of p.1).1) → v ≡ meant_marked (take k (map (λ (q : List ℕ × H). place_of q.1) ps)) w → changed mark v (place_of p.1).0 ≡ meant_marked (take (k + 1) (map (λ (q : List ℕ × H). place_of q.1) ps)) w
meant_step {S} {H} place_of v w ps k p at lives e =
    let hs = map (λ (q : List ℕ × H). place_of q.1) ps in
    let there : slice_get hs k ≡ Some (place_of p.1) = map_get (λ (q : List ℕ × H). place_of q.1) ps k ∙ ap (option_map (λ (q : List ℕ × H). place_of q.1)) at in
    ap (λ z. changed mark z (place_of p.1).0) e ∙ meant_more w (take k hs) (place_of p.1).0 (place_of p.1).1 lives ∙ ap (λ z. meant_marked z w) (sym (take_item hs k (place_of p.1) there))

-- each place within the list has a meaning
pub meaning_within : {H : Type 0} (ps : List (List ℕ × H)) (i : ℕ) (o : Option H) → i < length ps → o ≡ option_map (λ (p : List ℕ × H). p.1) (slice_get ps i) → o ≡ None → ⊥
meaning_within {H} ps i o low e f =
    let p = get_in ps i low in
    absurd (cc (sym f ∙ e ∙ ap (option_map (λ (q : List ℕ × H). q.1)) p.1))
