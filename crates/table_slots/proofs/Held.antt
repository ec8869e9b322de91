-- What a live handle stands for, as the slots tell.
use Rattle.std.proofs.Common.{◌≡◌, ◌∙◌, ◌==◌, ℕ, Bool, true, false, cond, List, Option, Some, None, refl, sym, ap}
use Rattle.std.specs.Prelude.{slice_get}
use Rattle.std.proofs.lemmas.Bool.{eq-eqb, eqb-true}
use Rattle.stamped_slots.specs.Slots.{Slot, held_at, held_under, stamp_at, stamp_under}

module _ {S : Type 0} where
  -- what a live handle stands for lies in its slot
  pub slot_held : (w : List (Slot S)) (i n : ℕ) (x : S) → held_at w i n ≡ Some x → (s : Slot S) × (slice_get w i ≡ Some s) × (s.stamp ≡ n) × (s.held ≡ Some x)
  slot_held w i n x h = by (slice_get w i) refl h
    where
      by : (o : Option (Slot S)) → slice_get w i ≡ o → held_under n o ≡ Some x → (s : Slot S) × (slice_get w i ≡ Some s) × (s.stamp ≡ n) × (s.held ≡ Some x)
      by None e k = absurd (cc k)
      by (Some s) e k = (s, e, eqb-true s.stamp n (split (s.stamp == n) s.held k).0, (split (s.stamp == n) s.held k).1)
        where
          split : (b : Bool) (o : Option S) → cond b o None ≡ Some x → (b ≡ true) × (o ≡ Some x)
          split true o g = (refl, g)
          split false o g = absurd (cc g)

  -- and the other way round
  pub held_slot : (w : List (Slot S)) (i n : ℕ) (s : Slot S) (x : S) → slice_get w i ≡ Some s → n ≡ stamp_at w i → s.held ≡ Some x → held_at w i n ≡ Some x
  held_slot w i n s x at stamp held =
      ap (held_under n) at ∙ ap (λ b. cond b s.held None) (eq-eqb s.stamp n (sym (stamp ∙ ap stamp_under at))) ∙ held
