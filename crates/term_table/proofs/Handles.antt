-- How many handles were given.
use Rattle.std.proofs.Common.{◌≡◌, ◌∙◌, ◌+◌, ◌*◌, ◌^◌, ◌<◌, ◌≤◌, ◌++◌, ◌&&◌, ◌⊎◌, inl, inr, ℕ, zero, suc, Bool, true, false, not, if◌then◌else◌, List, [], ◌∷◌, Option, Some, None, is_some, length, map, refl, sym, ap, arith}
use Rattle.std.specs.Prelude.{slice_get}
use Rattle.std.proofs.lemmas.Option.{same_Some, slice_get_past}
use Rattle.std.proofs.lemmas.Bool.{cases_lt}
use Rattle.stamped_slots.specs.Slots.{Slot, bit, is_live, stamp_under, fresh, Adds, changed, each_from, swept, freed, unmarked}
use Rattle.stamped_slots.specs.Regular.{IsRegular}
use Rattle.stamped_slots.proofs.Lists.{get_in, same_by_get}
use Rattle.term_table.specs.World.{given, weight}
use Rattle.term_table.proofs.Held.{held_slot}

-- a slot that keeps its stamp and what it holds
pub record Stays {S : Type 0} (f : Slot S → Slot S) : Type 0 where
  pub stamp : (s : Slot S) → (f s).stamp ≡ s.stamp
  pub held : (s : Slot S) → (f s).held ≡ s.held

module _ {S : Type 0} where
  given_changed : (old new : List (Slot S)) (i : ℕ) (s t : Slot S) → slice_get old i ≡ Some s → slice_get new i ≡ Some t → ((j : ℕ) → (j ≡ i → ⊥) → slice_get new j ≡ slice_get old j) → given new + weight s ≡ given old + weight t
  given_changed [] new i s t h g other = absurd (cc h)
  given_changed (a ∷ old) [] i s t h g other = absurd (cc g)
  given_changed (a ∷ old) (b ∷ new) zero s t h g other =
      let rest = ap given (same_by_get new old (λ j. other (suc j) (λ e. omega (arith, e)))) in
      omega (arith, rest, ap weight (same_Some a s h), ap weight (same_Some b t g))
  given_changed (a ∷ old) (b ∷ new) (suc i) s t h g other =
      let head = ap weight (same_Some b a (other 0 (λ e. omega (arith, e)))) in
      omega (arith, head, given_changed old new i s t h g (λ j d. other (suc j) (λ e. d (omega (arith, e)))))

  given_grown : (w : List (Slot S)) (s : Slot S) → given (w ++ s ∷ []) ≡ given w + weight s
  given_grown [] s = omega arith
  given_grown (t ∷ w) s = omega (arith, given_grown w s)

  empty_weight : (s : Slot S) (o : Option S) → s.held ≡ o → o ≡ None → weight s ≡ s.stamp
  empty_weight s o e f = omega (arith, ap (λ z. bit (is_some z)) (e ∙ f))

  -- one handle more
  pub given_adds : (old new : List (Slot S)) (i n : ℕ) (x : S) → Adds old new i n x → given new ≡ given old + 1
  given_adds old new i n x adds = by (cases_lt i (length old))
    where
      held_none : (s : Slot S) → slice_get old i ≡ Some s → (o : Option S) → s.held ≡ o → o ≡ None
      held_none s at None e = refl
      held_none s at (Some y) e = absurd (cc (sym (adds.empty s.stamp) ∙ held_slot old i s.stamp s y at (sym (ap stamp_under at)) e))

      by : (i < length old) ⊎ (length old ≤ i) → given new ≡ given old + 1
      by (inl low) =
          let s = get_in old i low in
          omega (arith, given_changed old new i s.0 (fresh n x) s.1 adds.here adds.other, empty_weight s.0 s.0.held refl (held_none s.0 s.1 s.0.held refl), adds.stamp, ap stamp_under s.1)
      by (inr high) =
          omega (arith, ap given (adds.grown high), given_grown old (fresh n x), adds.stamp, ap stamp_under (slice_get_past old i high))

  -- what keeps stamps and keys gives none
  stays_weight : (f : Slot S → Slot S) → Stays f → (s : Slot S) → weight (f s) ≡ weight s
  stays_weight f stays s = omega (arith, stays.stamp s, ap (λ o. bit (is_some o)) (stays.held s))

  given_map : (f : Slot S → Slot S) → ((s : Slot S) → weight (f s) ≡ weight s) → (w : List (Slot S)) → given (map f w) ≡ given w
  given_map f same [] = refl
  given_map f same (s ∷ w) = omega (arith, same s, given_map f same w)

  pub given_stays_map : (f : Slot S → Slot S) → Stays f → (w : List (Slot S)) → given (map f w) ≡ given w
  given_stays_map f stays = given_map f (stays_weight f stays)

  pub given_stays_changed : (f : Slot S → Slot S) → Stays f → (w : List (Slot S)) (i : ℕ) → given (changed f w i) ≡ given w
  given_stays_changed f stays [] i = refl
  given_stays_changed f stays (s ∷ w) zero = omega (arith, stays_weight f stays s)
  given_stays_changed f stays (s ∷ w) (suc i) = omega (arith, given_stays_changed f stays w i)

  pub given_stays_each : (f : ℕ → Slot S → Slot S) → ((k : ℕ) → Stays (f k)) → (w : List (Slot S)) (k : ℕ) → given (each_from f k w) ≡ given w
  given_stays_each f stays [] k = refl
  given_stays_each f stays (s ∷ w) k = omega (arith, stays_weight (f k) (stays k) s, given_stays_each f stays w (suc k))

  swept_weight : (s : Slot S) → weight (swept s) ≡ weight s
  swept_weight s = by (is_some s.held) refl s.marked
    where
      by : (b : Bool) → is_some s.held ≡ b → (c : Bool) → weight (if b && not c then freed s else unmarked s) ≡ weight s
      by true e true = refl
      by true e false = omega (arith, ap bit e)
      by false e c = refl

  pub given_swept : (w : List (Slot S)) → given (map swept w) ≡ given w
  given_swept = given_map swept swept_weight

  -- there are fewer than 2^55
  small_weight : (s : Slot S) (b : Bool) → is_live s ≡ b → s.stamp ≤ 2 ^ 32 → weight s ≤ 4294967297
  small_weight s true e h = omega (arith, h, ap bit e)
  small_weight s false e h = omega (arith, h, ap bit e)

  given_few : (w : List (Slot S)) → ((i : ℕ) (s : Slot S) → slice_get w i ≡ Some s → s.stamp ≤ 2 ^ 32) → given w ≤ length w * 4294967297
  given_few [] h = omega arith
  given_few (s ∷ w) h = omega (arith, small_weight s (is_live s) refl (h 0 s refl), given_few w (λ i. h (suc i)))

  pub given_below : (w : List (Slot S)) → IsRegular w → given w < 18446744073709551615
  given_below w regular = omega (arith, given_few w regular.stamps, regular.bound)
