-- More variables, more levels.
use Rattle.std.proofs.Common.{◌≡◌, ◌∙◌, ◌+◌, ◌<◌, ◌≤◌, ◌++◌, ℕ, Bool, List, [], ◌∷◌, Option, Some, None, length, refl, sym, ap, subst, ⊎_elim, arith}
use Rattle.std.specs.Prelude.{slice_get}
use Rattle.std.proofs.lemmas.Option.{slice_get_within}
use Rattle.clause_logic.specs.declared.Lit.{Lit}
use Rattle.clause_trail.specs.declared.Pair.{Pair}
use Rattle.clause_trail.specs.View.{Lists, Base, Sound, AllHeld, Listed, NoNewDecision}
use Rattle.clause_trail.specs.Changes.{Roomier, SameBut}
use Rattle.clause_logic.proofs.Gets.{push_old, push_cases, length_push}

-- a variable on the trail is one of the variables
on_known : (t : Lists) (i : ℕ) (l : Lit) → Base t → slice_get t.order i ≡ Some l → l.var < length t.reasons
on_known t i l base h = omega (arith, base.reasons, slice_get_within t.values l.var (Some l.positive) (base.true_there i l h))

module _ (t : Lists) (reasons : List (Option ℕ)) (places : List ℕ) (watches : List (List ℕ)) where
  abbrev wider : Lists
  wider = record t { reasons = reasons; places = places; watches = watches }

  wider_sound : Sound t → length t.reasons ≤ length reasons → ((v : ℕ) (x : Option ℕ) → v < length t.reasons → slice_get reasons v ≡ Some x → slice_get t.reasons v ≡ Some x)
      → length t.places ≤ length places → ((v i : ℕ) → slice_get t.places v ≡ Some i → slice_get places v ≡ Some i) → length t.watches ≤ length watches → ((w : Lit) (c : ℕ) → Listed t.watches w c → Listed watches w c) → Sound wider
  wider_sound sound g reason f place h listed = record {
    base = record {
      reasons = omega (arith, sound.base.reasons, g);
      rows = omega (arith, sound.base.rows, h);
      places = omega (arith, sound.base.places, f);
      pairs = sound.base.pairs;
      done = sound.base.done;
      true_there = sound.base.true_there;
      placed = sound.base.placed;
      once = sound.base.once;
      found = λ p l at. place l.var p (sound.base.found p l at);
      starts_done = sound.base.starts_done;
      starts_rise = sound.base.starts_rise;
      known = sound.base.known;
      member = sound.base.member;
      listed = λ c pair w k d e. listed w c (sound.base.listed c pair w k d e);
      cuts = sound.base.cuts;
      implied = λ i l c k e. sound.base.implied i l c k (reason l.var (Some c) (on_known t i l sound.base k) e);
      decided = λ i l k e. sound.base.decided i l k (reason l.var None (on_known t i l sound.base k) e);
    };
    now = sound.now;
  }

pub roomier_is : (old new : Lists) → Roomier old new → new ≡ wider old new.reasons new.places new.watches
roomier_is old new r =
    let mk : List (Option Bool) → List Lit → List ℕ → ℕ → List (List Lit) → List Pair → Lists = λ v o s d c p. record { values = v; reasons = new.reasons; places = new.places; order = o; starts = s; done = d; clauses = c; pairs = p; watches = new.watches } in
    ap (λ v. mk v new.order new.starts new.done new.clauses new.pairs) r.values
    ∙ ap (λ o. mk old.values o new.starts new.done new.clauses new.pairs) r.order
    ∙ ap (λ s. mk old.values old.order s new.done new.clauses new.pairs) r.starts
    ∙ ap (λ d. mk old.values old.order old.starts d new.clauses new.pairs) r.done
    ∙ ap (λ c. mk old.values old.order old.starts old.done c new.pairs) r.clauses
    ∙ ap (λ p. mk old.values old.order old.starts old.done old.clauses p) r.pairs

pub roomier_sound : (old new : Lists) → Roomier old new → Sound old → Sound new
roomier_sound old new r sound = subst Sound (sym (roomier_is old new r)) (wider_sound old new.reasons new.places new.watches sound r.reasons r.reason r.places r.place r.rows r.listed)

pub roomier_then : (a b c : Lists) → Roomier a b → Roomier b c → Roomier a c
roomier_then a b c r s = record {
  values = s.values ∙ r.values;
  order = s.order ∙ r.order;
  starts = s.starts ∙ r.starts;
  done = s.done ∙ r.done;
  clauses = s.clauses ∙ r.clauses;
  pairs = s.pairs ∙ r.pairs;
  reasons = omega (arith, r.reasons, s.reasons);
  reason = λ v x h k. r.reason v x h (s.reason v x (omega (arith, h, r.reasons)) k);
  places = omega (arith, r.places, s.places);
  place = λ v i h. s.place v i (r.place v i h);
  rows = omega (arith, r.rows, s.rows);
  listed = λ w d h. s.listed w d (r.listed w d h);
}

pub room_reasons : (t : Lists) (reasons : List (Option ℕ)) → reasons ≡ t.reasons ++ None ∷ [] → Roomier t (record t { reasons = reasons })
room_reasons t reasons e = rw e (record {
  values = refl;
  order = refl;
  starts = refl;
  done = refl;
  clauses = refl;
  pairs = refl;
  reasons = omega (arith, length_push t.reasons None);
  reason = λ v x h k. ⊎_elim (λ p. absurd (omega (arith, h, p.0))) (λ p. p) (push_cases t.reasons None x v k);
  places = omega arith;
  place = λ v i h. h;
  rows = omega arith;
  listed = λ w c h. h;
})

pub room_places : (t : Lists) (places : List ℕ) → places ≡ t.places ++ 0 ∷ [] → Roomier t (record t { places = places })
room_places t places e = rw e (record {
  values = refl;
  order = refl;
  starts = refl;
  done = refl;
  clauses = refl;
  pairs = refl;
  reasons = omega arith;
  reason = λ v x h k. k;
  places = omega (arith, length_push t.places 0);
  place = λ v i h. push_old t.places 0 i v h;
  rows = omega arith;
  listed = λ w c h. h;
})

pub room_rows : (t : Lists) (watches : List (List ℕ)) (row : List ℕ) → watches ≡ t.watches ++ row ∷ [] → Roomier t (record t { watches = watches })
room_rows t watches row e = rw e (record {
  values = refl;
  order = refl;
  starts = refl;
  done = refl;
  clauses = refl;
  pairs = refl;
  reasons = omega arith;
  reason = λ v x h k. k;
  places = omega arith;
  place = λ v i h. h;
  rows = omega (arith, length_push t.watches row);
  listed = λ w c h. record { row = h.row; is = push_old t.watches row h.row _ h.is; at = h.at; there = h.there };
})

pub more_var : (t : Lists) (values : List (Option Bool)) → Sound t → values ≡ t.values ++ None ∷ [] → length t.values + 1 ≤ length t.reasons → length t.values + 1 ≤ length t.places
    → length t.values + length t.values + 2 ≤ length t.watches → Sound (record t { values = values })
more_var t values sound e g f h = rw e (record {
  base = record {
    reasons = omega (arith, g, length_push t.values None);
    rows = omega (arith, h, length_push t.values None);
    places = omega (arith, f, length_push t.values None);
    pairs = sound.base.pairs;
    done = sound.base.done;
    true_there = λ i l k. push_old t.values None (Some l.positive) l.var (sound.base.true_there i l k);
    placed = λ v b k. ⊎_elim (λ p. absurd (cc p.1)) (λ p. sound.base.placed v b p) (push_cases t.values None (Some b) v k);
    once = sound.base.once;
    found = sound.base.found;
    starts_done = sound.base.starts_done;
    starts_rise = sound.base.starts_rise;
    known = λ c lits l k j. omega (arith, sound.base.known c lits l k j, length_push t.values None);
    member = sound.base.member;
    listed = sound.base.listed;
    cuts = sound.base.cuts;
    implied = sound.base.implied;
    decided = sound.base.decided;
  };
  now = sound.now;
})

pub more_level : (t : Lists) (starts : List ℕ) (s : ℕ) → Sound t → s ≡ length t.order → t.done ≡ length t.order → starts ≡ t.starts ++ s ∷ [] → Sound (record t { starts = starts })
more_level t starts s sound here all e = rw (e, here) (record {
  base = record {
    reasons = sound.base.reasons;
    rows = sound.base.rows;
    places = sound.base.places;
    pairs = sound.base.pairs;
    done = sound.base.done;
    true_there = sound.base.true_there;
    placed = sound.base.placed;
    once = sound.base.once;
    found = sound.base.found;
    starts_done = λ n r k. ⊎_elim (λ p. omega (arith, p.1, all)) (λ p. sound.base.starts_done n r p) (push_cases t.starts (length t.order) r n k);
    starts_rise = λ m n q r g k j. ⊎_elim
        (λ p. ⊎_elim (λ x. omega (arith, x.1, p.1)) (λ x. omega (arith, p.1, sound.base.starts_done m q x, all)) (push_cases t.starts (length t.order) q m k))
        (λ p. ⊎_elim (λ x. absurd (omega (arith, x.0, g, slice_get_within t.starts n r p))) (λ x. sound.base.starts_rise m n q r g x p) (push_cases t.starts (length t.order) q m k))
        (push_cases t.starts (length t.order) r n j);
    known = sound.base.known;
    member = sound.base.member;
    listed = sound.base.listed;
    cuts = λ n r k. ⊎_elim
        (λ p. subst (λ (x : ℕ). AllHeld t.order t.clauses t.pairs x x) p.1 (subst (λ (x : ℕ). AllHeld t.order t.clauses t.pairs x (length t.order)) all sound.now))
        (λ p. sound.base.cuts n r p)
        (push_cases t.starts (length t.order) r n k);
    implied = sound.base.implied;
    decided = λ i l k j. let d = sound.base.decided i l k j in (d.0, push_old t.starts (length t.order) i d.0 d.1);
  };
  now = sound.now;
})

-- more room brings no decision
pub roomier_decisions : (old new : Lists) → Base old → Roomier old new → NoNewDecision old new
roomier_decisions old new base r i l h k =
    let at : slice_get old.order i ≡ Some l = ap (λ o. slice_get o i) (sym r.order) ∙ h in
    (at, r.reason l.var None (on_known old i l base at) k)

pub roomier_same : (old new : Lists) (pairs : List Pair) → Base old → Roomier old new → SameBut old (record new { pairs = pairs })
roomier_same old new pairs base r = record {
  trail = record { values = r.values; order = r.order; starts = r.starts; done = r.done; decisions = roomier_decisions old new base r };
  clauses = r.clauses;
}
