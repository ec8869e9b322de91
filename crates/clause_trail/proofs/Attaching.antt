-- A clause kept.
use Rattle.std.proofs.Common.{◌≡◌, ◌∙◌, ◌+◌, ◌<◌, ◌≤◌, ◌++◌, ℕ, zero, suc, List, [], ◌∷◌, Some, None, length, refl, sym, ap, subst, ⊎_elim, arith, get_or, take}
use Rattle.std.specs.Prelude.{slice_get}
use Rattle.std.proofs.lemmas.Bool.{cases_eq}
use Rattle.std.proofs.lemmas.Option.{same_Some, slice_get_within, slice_get-get_or}
use Rattle.clause_logic.specs.declared.Lit.{Lit}
use Rattle.clause_trail.specs.declared.Pair.{Pair}
use Rattle.clause_logic.specs.Clauses.{opposite}
use Rattle.clause_trail.specs.Words.{code_of, True, False, Open, Has, Before, TrueBefore, AllFalseBut}
use Rattle.clause_trail.specs.View.{Lists, Base, Sound, Held, AllHeld, Implied, Watches, Listed, assigned}
use Rattle.clause_trail.specs.Changes.{Roomier, row_pushed, AllListed, SameBut, Prepared, Formed, Wide, Asserts}
use Rattle.clause_logic.proofs.Gets.{set_other, set_here, length_set, push_here, push_old, push_cases, length_push}
use Rattle.clause_trail.proofs.Rows.{length_take}
use Rattle.clause_trail.proofs.Trails.{on_trail, held_push, assigned_base}
use Rattle.clause_trail.proofs.Moving.{trail_true}

module _ (watches : List (List ℕ)) (lit : Lit) (c : ℕ) (within : code_of lit < length watches) where
  here : slice_get watches (code_of lit) ≡ Some (get_or watches (code_of lit) [])
  here = slice_get-get_or watches (code_of lit) [] within

  pub pushed_listed : (w : Lit) (d : ℕ) → Listed watches w d → Listed (row_pushed watches lit c) w d
  pushed_listed w d old =
      ⊎_elim
      (λ (e : code_of lit ≡ code_of w).
      let row : old.row ≡ get_or watches (code_of lit) [] = same_Some old.row (get_or watches (code_of lit) []) (sym old.is ∙ ap (slice_get watches) (sym e) ∙ here) in
      record {
        row = get_or watches (code_of lit) [] ++ c ∷ [];
        is = ap (slice_get (row_pushed watches lit c)) (sym e) ∙ set_here watches (code_of lit) _ _ here;
        at = old.at;
        there = push_old (get_or watches (code_of lit) []) c d old.at (subst (λ r. slice_get r old.at ≡ Some d) row old.there);
      })
      (λ (n : code_of lit ≡ code_of w → ⊥). record { row = old.row; is = set_other watches (code_of lit) (code_of w) _ n ∙ old.is; at = old.at; there = old.there })
      (cases_eq (code_of lit) (code_of w))

  pub pushed_here : Listed (row_pushed watches lit c) lit c
  pushed_here = record {
    row = get_or watches (code_of lit) [] ++ c ∷ [];
    is = set_here watches (code_of lit) _ _ here;
    at = length (get_or watches (code_of lit) []);
    there = push_here (get_or watches (code_of lit) []) c;
  }

pub room_row : (t : Lists) (lit : Lit) (c : ℕ) → code_of lit < length t.watches → Roomier t (record t { watches = row_pushed t.watches lit c })
room_row t lit c within = record {
  values = refl;
  order = refl;
  starts = refl;
  done = refl;
  clauses = refl;
  pairs = refl;
  reasons = omega arith;
  reason = λ v x h k. k;
  places = omega arith;
  place = λ v i h. h;
  rows = omega (arith, length_set t.watches (code_of lit) (get_or t.watches (code_of lit) [] ++ c ∷ []));
  listed = pushed_listed t.watches lit c within;
}

pub both_listed : (a b : List (List ℕ)) (pair : Pair) (c : ℕ) → Listed a pair.first c → ((w : Lit) (d : ℕ) → Listed a w d → Listed b w d) → Listed b pair.second c → AllListed b pair c
both_listed a b pair c first keeps second w is =
    ⊎_elim (λ e. subst (λ (l : Lit). Listed b l c) (sym e) (keeps pair.first c first)) (λ e. subst (λ (l : Lit). Listed b l c) (sym e) second) is

take_get : {X : Type 0} → (n : ℕ) (w : List X) (j : ℕ) (x : X) → slice_get (take n w) j ≡ Some x → slice_get w j ≡ Some x
take_get zero w j x h = absurd (cc h)
take_get (suc n) [] j x h = h
take_get (suc n) (y ∷ w) zero x h = h
take_get (suc n) (y ∷ w) (suc j) x h = take_get n w j x h

-- other pairs, where each clause has its own
module _ (t : Lists) (pairs : List Pair) (sound : Sound t) (long : length t.clauses ≤ length pairs)
    (same : (c : ℕ) (pair : Pair) → c < length t.clauses → slice_get pairs c ≡ Some pair → slice_get t.pairs c ≡ Some pair)
    (listed : (c : ℕ) (pair : Pair) (w : Lit) → slice_get pairs c ≡ Some pair → (pair.first ≡ pair.second → ⊥) → Watches pair w → Listed t.watches w c) where
  held_same : (n m : ℕ) → AllHeld t.order t.clauses t.pairs n m → AllHeld t.order t.clauses pairs n m
  held_same n m held c lits pair is paired = held c lits pair is (same c pair (slice_get_within t.clauses c lits is) paired)

  pub repaired : Sound (record t { pairs = pairs })
  repaired = record {
    base = record {
      reasons = sound.base.reasons;
      rows = sound.base.rows;
      places = sound.base.places;
      pairs = long;
      done = sound.base.done;
      true_there = sound.base.true_there;
      placed = sound.base.placed;
      once = sound.base.once;
      found = sound.base.found;
      starts_done = sound.base.starts_done;
      starts_rise = sound.base.starts_rise;
      known = sound.base.known;
      member = λ c lits pair w is paired. sound.base.member c lits pair w is (same c pair (slice_get_within t.clauses c lits is) paired);
      listed = listed;
      cuts = λ n s h. held_same s s (sound.base.cuts n s h);
      implied = sound.base.implied;
      decided = sound.base.decided;
    };
    now = held_same t.done (length t.order) sound.now;
  }

pub pairs_cut : (t : Lists) → Sound t → Sound (record t { pairs = take (length t.clauses) t.pairs })
pairs_cut t sound =
    repaired t (take (length t.clauses) t.pairs) sound (omega (arith, length_take (length t.clauses) t.pairs sound.base.pairs))
    (λ c pair h is. take_get (length t.clauses) t.pairs c pair is)
    (λ c pair w is d h. sound.base.listed c pair w (take_get (length t.clauses) t.pairs c pair is) d h)

pub pairs_push : (t : Lists) (pair : Pair) → Sound t → length t.pairs ≡ length t.clauses → ((pair.first ≡ pair.second → ⊥) → AllListed t.watches pair (length t.clauses))
    → Sound (record t { pairs = t.pairs ++ pair ∷ [] })
pairs_push t pair sound same listed =
    repaired t (t.pairs ++ pair ∷ []) sound (omega (arith, same, length_push t.pairs pair))
    (λ c p h is. ⊎_elim (λ e. absurd (omega (arith, h, e.0, same))) (λ k. k) (push_cases t.pairs pair p c is))
    (λ c p w is d h. ⊎_elim
    (λ e. subst (λ (n : ℕ). Listed t.watches w n) (sym (e.0 ∙ same)) (listed (λ g. d (subst (λ (q : Pair). q.first ≡ q.second) e.1 g)) w (subst (λ (q : Pair). Watches q w) (sym e.1) h)))
    (λ k. sound.base.listed c p w k d h)
    (push_cases t.pairs pair p c is))

implied_more : (clauses : List (List Lit)) (lits : List Lit) (order : List Lit) (i : ℕ) (l : Lit) (c : ℕ) → Implied clauses order i l c → Implied (clauses ++ lits ∷ []) order i l c
implied_more clauses lits order i l c p = record { lits = p.lits; is = push_old clauses lits p.lits c p.is; has = p.has; others = p.others }

module _ (t : Lists) (c : ℕ) (pair : Pair) (lits : List Lit) (sound : Sound t) (prepared : Prepared t c pair) (formed : Formed t lits pair) where
  new_pair : (d : ℕ) (p : Pair) → d ≡ length t.clauses → slice_get t.pairs d ≡ Some p → pair ≡ p
  new_pair d p e is = same_Some pair p (sym prepared.is ∙ ap (slice_get t.pairs) (prepared.next ∙ sym e) ∙ is)

  held_more : (n m : ℕ) → Held t.order n m lits pair → AllHeld t.order t.clauses t.pairs n m → AllHeld t.order (t.clauses ++ lits ∷ []) t.pairs n m
  held_more n m here held d ls p is paired =
      ⊎_elim
      (λ e. subst (λ (x : List Lit). Held t.order n m x p) e.1 (subst (Held t.order n m lits) (new_pair d p e.0 paired) here))
      (λ k. held d ls p k paired)
      (push_cases t.clauses lits ls d is)

  pub hung_base : ((n s : ℕ) → slice_get t.starts n ≡ Some s → Held t.order s s lits pair) → Base (record t { clauses = t.clauses ++ lits ∷ [] })
  hung_base cuts = record {
    reasons = sound.base.reasons;
    rows = sound.base.rows;
    places = sound.base.places;
    pairs = omega (arith, prepared.pairs, prepared.next, length_push t.clauses lits);
    done = sound.base.done;
    true_there = sound.base.true_there;
    placed = sound.base.placed;
    once = sound.base.once;
    found = sound.base.found;
    starts_done = sound.base.starts_done;
    starts_rise = sound.base.starts_rise;
    known = λ d ls l is has. ⊎_elim (λ e. formed.known l (subst (λ (x : List Lit). Has x l) (sym e.1) has)) (λ k. sound.base.known d ls l k has) (push_cases t.clauses lits ls d is);
    member = λ d ls p w is paired watch. ⊎_elim
        (λ e.
        let q = new_pair d p e.0 paired in
        subst (λ (x : List Lit). Has x w) e.1
        (⊎_elim
        (λ g. subst (λ (l : Lit). Has lits l) (ap (λ (x : Pair). x.first) q ∙ sym g) formed.first)
        (λ g. subst (λ (l : Lit). Has lits l) (ap (λ (x : Pair). x.second) q ∙ sym g) formed.second)
        watch))
        (λ k. sound.base.member d ls p w k paired watch)
        (push_cases t.clauses lits ls d is);
    listed = sound.base.listed;
    cuts = λ n s h. held_more s s (cuts n s h) (sound.base.cuts n s h);
    implied = λ i l d h k. implied_more t.clauses lits t.order i l d (sound.base.implied i l d h k);
    decided = sound.base.decided;
  }

  -- two literals that are not false: nothing was missed
  wide_held : Wide t lits pair → (n m : ℕ) → Held t.order n m lits pair
  wide_held wide n m = record {
    watch = λ w is b. absurd (⊎_elim
        (λ e. wide.first (subst (False t.values) e (trail_true t (opposite w) n sound.base b)))
        (λ e. wide.second (subst (False t.values) e (trail_true t (opposite w) n sound.base b)))
        is);
    same = λ e. absurd (wide.apart e);
  }

  pub attached : Wide t lits pair → Sound (record t { clauses = t.clauses ++ lits ∷ [] })
  attached wide = record {
    base = hung_base (λ n s _. wide_held wide s s);
    now = held_more t.done (length t.order) (wide_held wide t.done (length t.order)) sound.now;
  }

  -- a clause that is true at the root
  pub attached_true : ((n s : ℕ) → slice_get t.starts n ≡ Some s → ⊥) → True t.values pair.first → Sound (record t { clauses = t.clauses ++ lits ∷ [] })
  attached_true root holds =
      let one : TrueBefore t.order (length t.order) lits = record { lit = pair.first; has = formed.first; on = on_trail t pair.first sound.base holds } in
      record {
        base = hung_base (λ n s h. absurd (root n s h));
        now = held_more t.done (length t.order) (record { watch = λ w _ _. one; same = λ _. one }) sound.now;
      }

  module _ (asserts : Asserts t lits pair) where
    open_cut : (n s : ℕ) → slice_get t.starts n ≡ Some s → Held t.order s s lits pair
    open_cut n s h = record {
      watch = λ w is b. absurd (⊎_elim
          (λ e. absurd (cc (sym asserts.free ∙ ap (λ (l : Lit). slice_get t.values l.var) (sym e) ∙ trail_true t (opposite w) s sound.base b)))
          (λ e. (asserts.latest n s h).1 (subst (λ (l : Lit). Before t.order s (opposite l)) e b))
          is);
      same = λ e. absurd ((asserts.latest n s h).0 e);
    }

    base : Base (record t { clauses = t.clauses ++ lits ∷ [] })
    base = hung_base open_cut

    why : (d : ℕ) → Some c ≡ Some d → Implied (t.clauses ++ lits ∷ []) t.order (length t.order) pair.first d
    why d e = record {
      lits = lits;
      is = ap (slice_get (t.clauses ++ lits ∷ [])) (sym (same_Some c d e) ∙ prepared.next) ∙ push_here t.clauses lits;
      has = formed.first;
      others = λ m h apart. on_trail t (opposite m) sound.base (asserts.others m h apart);
    }

    no_level : Some c ≡ None → (n : ℕ) × (slice_get t.starts n ≡ Some (length t.order))
    no_level e = absurd (cc e)

    now_true : TrueBefore (t.order ++ pair.first ∷ []) (length (t.order ++ pair.first ∷ [])) lits
    now_true = record {
      lit = pair.first;
      has = formed.first;
      on = record { at = length t.order; below = omega (arith, length_push t.order pair.first); is = push_here t.order pair.first };
    }

    pub learned : Sound (assigned (record t { clauses = t.clauses ++ lits ∷ [] }) pair.first (Some c))
    learned = record {
      base = assigned_base (record t { clauses = t.clauses ++ lits ∷ [] }) pair.first (Some c) base asserts.free why no_level;
      now = λ d ls p is paired. ⊎_elim
          (λ e. subst (λ (x : List Lit). Held (t.order ++ pair.first ∷ []) t.done (length (t.order ++ pair.first ∷ [])) x p) e.1
          (record { watch = λ w _ _. now_true; same = λ _. now_true }))
          (λ k. held_push t.order pair.first t.done (length t.order) (length (t.order ++ pair.first ∷ [])) ls p sound.base.done (omega (arith, length_push t.order pair.first)) (sound.now d ls p k paired))
          (push_cases t.clauses lits ls d is);
    }

pub listed_one : (a b : Lists) (lit : Lit) (c : ℕ) → b ≡ record a { watches = row_pushed a.watches lit c } → code_of lit < length a.watches → Roomier a b × Listed b.watches lit c
listed_one a b lit c e within =
    (subst (λ (u : Lists). Roomier a u) (sym e) (room_row a lit c within), subst (λ (u : Lists). Listed u.watches lit c) (sym e) (pushed_here a.watches lit c within))

pub pairs_cut_at : (t : Lists) (n : ℕ) (ps : List Pair) → Sound t → n ≡ length t.clauses → ps ≡ take n t.pairs → Sound (record t { pairs = ps })
pairs_cut_at t n ps sound e is = rw (is, e) (pairs_cut t sound)

pub pairs_push_at : (t : Lists) (n : ℕ) (ps : List Pair) (pair : Pair) → Sound t → n ≡ length t.clauses → ps ≡ take n t.pairs ++ pair ∷ []
    → ((pair.first ≡ pair.second → ⊥) → AllListed t.watches pair n) → Sound (record t { pairs = ps })
pairs_push_at t n ps pair sound e is listed =
    rw (is, e) (pairs_push (record t { pairs = take (length t.clauses) t.pairs }) pair (pairs_cut t sound) (length_take (length t.clauses) t.pairs sound.base.pairs)
    (λ d. subst (λ (k : ℕ). AllListed t.watches pair k) e (listed d)))

pub prepared_at : (t : Lists) (n : ℕ) (ps : List Pair) (pair : Pair) → Sound t → n ≡ length t.clauses → ps ≡ take n t.pairs ++ pair ∷ [] → Prepared (record t { pairs = ps }) n pair
prepared_at t n ps pair sound e is =
    let size : length (take n t.pairs) ≡ n = length_take n t.pairs (omega (arith, e, sound.base.pairs)) in
    record {
      next = e;
      pairs = ap length is ∙ length_push (take n t.pairs) pair ∙ ap (λ k. k + 1) size;
      is = ap (λ xs. slice_get xs n) is ∙ ap (slice_get (take n t.pairs ++ pair ∷ [])) (sym size) ∙ push_here (take n t.pairs) pair;
    }

formed_same : (a b : Lists) (lits : List Lit) (pair : Pair) → SameBut a b → Formed a lits pair → Formed b lits pair
formed_same a b lits pair same f = record { known = λ l h. rw same.trail.values (f.known l h); first = f.first; second = f.second }

pub attach_done : (a b : Lists) (c : ℕ) (pair : Pair) (lits : List Lit) (clauses : List (List Lit)) → SameBut a b → Sound b → Prepared b c pair → Wide a lits pair
    → clauses ≡ b.clauses ++ lits ∷ [] → Sound (record b { clauses = clauses })
attach_done a b c pair lits clauses same sound prepared wide is =
    rw is (attached b c pair lits sound prepared (formed_same a b lits pair same wide.formed) (record {
      formed = formed_same a b lits pair same wide.formed;
      apart = wide.apart;
      first = λ h. wide.first (subst (λ vs. False vs pair.first) same.trail.values h);
      second = λ h. wide.second (subst (λ vs. False vs pair.second) same.trail.values h);
    }))

pub learn_done : (a b u : Lists) (c : ℕ) (pair : Pair) (lits : List Lit) (clauses : List (List Lit)) → SameBut a b → Sound b → Prepared b c pair → Asserts a lits pair
    → clauses ≡ b.clauses ++ lits ∷ [] → u ≡ assigned (record b { clauses = clauses }) pair.first (Some c) → Sound u
learn_done a b u c pair lits clauses same sound prepared asserts is e =
    subst Sound (sym e) (rw is (learned b c pair lits sound prepared (formed_same a b lits pair same asserts.formed) (record {
      formed = formed_same a b lits pair same asserts.formed;
      free = rw same.trail.values asserts.free;
      others = λ m h d. rw same.trail.values (asserts.others m h d);
      latest = λ n s h.
          let it = asserts.latest n s (ap (λ xs. slice_get xs n) (sym same.trail.starts) ∙ h) in
          (it.0, λ x. it.1 (subst (λ o. Before o s (opposite pair.second)) same.trail.order x));
    })))

pub attach_true_done : (a b : Lists) (c : ℕ) (lit : Lit) (lits : List Lit) (clauses : List (List Lit)) → SameBut a b → Sound b → Prepared b c (record { first = lit; second = lit })
    → a.starts ≡ [] → ((l : Lit) → Has lits l → l.var < length a.values) → Has lits lit → True a.values lit → clauses ≡ b.clauses ++ lits ∷ [] → Sound (record b { clauses = clauses })
attach_true_done a b c lit lits clauses same sound prepared root known has holds is =
    rw is (attached_true b c (record { first = lit; second = lit }) lits sound prepared
    (record { known = λ l h. rw same.trail.values (known l h); first = has; second = has })
    (λ n s h. absurd (cc (ap (λ xs. slice_get xs n) (sym (same.trail.starts ∙ root)) ∙ h)))
    (rw same.trail.values holds))

pub wide_here : (t : Lists) (lits : List Lit) (first second : Lit) → ((l : Lit) → Has lits l → l.var < length t.values) → Has lits first → Has lits second → (second ≡ first → ⊥)
    → (False t.values first → ⊥) → (False t.values second → ⊥) → Wide t lits (record { first = first; second = second })
wide_here t lits first second known a b apart x y = record {
  formed = record { known = known; first = a; second = b };
  apart = λ e. apart (sym e);
  first = x;
  second = y;
}

pub asserts_here : (t : Lists) (lits : List Lit) (first : Lit) → ((l : Lit) → Has lits l → l.var < length t.values) → Has lits first → Open t.values first → AllFalseBut t.values lits first → t.starts ≡ []
    → Asserts t lits (record { first = first; second = first })
asserts_here t lits first known has free others root = record {
  formed = record { known = known; first = has; second = has };
  free = free;
  others = others;
  latest = λ n s h. absurd (cc (ap (λ xs. slice_get xs n) (sym root) ∙ h));
}
