-- A level taken away.
use Rattle.std.proofs.Common.{◌≡◌, ◌∙◌, ◌+◌, ◌<◌, ◌≤◌, ◌++◌, ℕ, zero, suc, Bool, List, [], ◌∷◌, Some, None, length, refl, sym, ap, subst, ⊎_elim, arith, get_or, take}
use Rattle.std.specs.Prelude.{slice_get, slice_set}
use Rattle.std.proofs.lemmas.Option.{same_Some, slice_get_within, slice_get_read}
use Rattle.clause_logic.specs.declared.Lit.{Lit}
use Rattle.clause_trail.specs.declared.Pair.{Pair}
use Rattle.clause_logic.specs.Clauses.{opposite}
use Rattle.clause_trail.specs.Words.{TrueBefore}
use Rattle.clause_trail.specs.View.{Lists, Base, Sound, Held, AllHeld, Implied}
use Rattle.clause_trail.specs.Changes.{unassigned, Popped, Shrunk, Lowering, Backed}
use Rattle.clause_logic.proofs.Gets.{set_other, length_set, push_here, push_old, push_cases, length_push, set_cases}
use Rattle.clause_trail.proofs.Trails.{before_push, before_back}

-- what stands before the end of a trail, without its last literal
module _ (front : List Lit) (x : Lit) where
  true_back : (m : ℕ) (lits : List Lit) → m ≤ length front → TrueBefore (front ++ x ∷ []) m lits → TrueBefore front m lits
  true_back m lits h t = record { lit = t.lit; has = t.has; on = before_back front x m t.lit h t.on }

  pub held_back : (n m : ℕ) (lits : List Lit) (pair : Pair) → m ≤ length front → Held (front ++ x ∷ []) n m lits pair → Held front n m lits pair
  held_back n m lits pair h held = record {
    watch = λ w is b. true_back m lits h (held.watch w is (before_push front x n (opposite w) b));
    same = λ e. true_back m lits h (held.same e);
  }

  pub implied_back : (clauses : List (List Lit)) (i : ℕ) (l : Lit) (c : ℕ) → i ≤ length front → Implied clauses (front ++ x ∷ []) i l c → Implied clauses front i l c
  implied_back clauses i l c h p = record { lits = p.lits; is = p.is; has = p.has; others = λ m k d. before_back front x i (opposite m) h (p.others m k d) }

module _ (t : Lists) (front : List Lit) (x : Lit) (base : Base t) (is : t.order ≡ front ++ x ∷ []) (above : t.done ≤ length front) where
  old : (i : ℕ) (l : Lit) → slice_get front i ≡ Some l → slice_get t.order i ≡ Some l
  old i l h = ap (λ o. slice_get o i) is ∙ push_old front x l i h

  last : slice_get t.order (length front) ≡ Some x
  last = ap (λ o. slice_get o (length front)) is ∙ push_here front x

  other_var : (i : ℕ) (l : Lit) → slice_get front i ≡ Some l → x.var ≡ l.var → ⊥
  other_var i l h e =
      let same : i ≡ length front = base.once i (length front) l x (old i l h) last (sym e) in
      omega (arith, same, slice_get_within front i l h)

  x_value : slice_get t.values x.var ≡ Some (Some x.positive)
  x_value = base.true_there (length front) x last

  popped_placed : (v : ℕ) (b : Bool) → slice_get (slice_set t.values x.var None) v ≡ Some (Some b) → (i : ℕ) × (slice_get front i ≡ Some (record { var = v; positive = b }))
  popped_placed v b h =
      ⊎_elim
      (λ e. absurd (cc e.1))
      (λ k.
      let p = base.placed v b k.1 in
      ⊎_elim
      (λ e. absurd (k.0 (ap (λ (l : Lit). l.var) e.1)))
      (λ g. (p.0, g))
      (push_cases front x (record { var = v; positive = b }) p.0 (sym (ap (λ o. slice_get o p.0) is) ∙ p.1)))
      (set_cases t.values x.var v None (Some b) h)

  pub popped_held : (n m : ℕ) → m ≤ length front → AllHeld t.order t.clauses t.pairs n m → AllHeld front t.clauses t.pairs n m
  popped_held n m h held c lits pair k p = held_back front x n m lits pair h (subst (λ (o : List Lit). Held o n m lits pair) is (held c lits pair k p))

  pub popped_base : Base (unassigned t front x)
  popped_base = record {
    reasons = omega (arith, base.reasons, length_set t.values x.var None);
    rows = omega (arith, base.rows, length_set t.values x.var None);
    places = omega (arith, base.places, length_set t.values x.var None);
    pairs = base.pairs;
    done = above;
    true_there = λ i l h. set_other t.values x.var l.var None (other_var i l h) ∙ base.true_there i l (old i l h);
    placed = popped_placed;
    once = λ i j a b h k e. base.once i j a b (old i a h) (old j b k) e;
    found = λ p l at. base.found p l (old p l at);
    starts_done = base.starts_done;
    starts_rise = base.starts_rise;
    known = λ c lits l h k. omega (arith, base.known c lits l h k, length_set t.values x.var None);
    member = base.member;
    listed = base.listed;
    cuts = λ n s h. popped_held s s (omega (arith, base.starts_done n s h, above)) (base.cuts n s h);
    implied = λ i l c h k. implied_back front x t.clauses i l c (omega (arith, slice_get_within front i l h)) (subst (λ (o : List Lit). Implied t.clauses o i l c) is (base.implied i l c (old i l h) k));
    decided = λ i l h k. base.decided i l (old i l h) k;
  }

pub popped_known : (t : Lists) (front : List Lit) (l : Lit) → Base t → t.order ≡ front ++ l ∷ [] → l.var < length t.values
popped_known t front l base is =
    slice_get_within t.values l.var (Some l.positive) (base.true_there (length front) l (ap (λ o. slice_get o (length front)) is ∙ push_here front l))

split_at : (xs : List ℕ) (n s : ℕ) → n + 1 ≡ length xs → slice_get xs n ≡ Some s → xs ≡ take n xs ++ s ∷ []
split_at [] n s h k = absurd (cc k)
split_at (x ∷ []) zero s h k = ap (λ y. y ∷ []) (same_Some x s k)
split_at (x ∷ y ∷ xs) zero s h k = absurd (omega (arith, h))
split_at (x ∷ xs) (suc n) s h k = ap (λ ys. x ∷ ys) (split_at xs n s (omega (arith, h)) k)

pub last_split : (xs ys front : List ℕ) (m n s : ℕ) → ys ≡ xs → front ≡ take m ys → n + 1 ≡ length xs → m + 1 ≡ length ys → s ≡ get_or xs n s → ys ≡ front ++ s ∷ []
last_split xs ys front m n s same e h k is =
    let one : m ≡ n = omega (arith, h, k, ap length same) in
    rw e (split_at ys m s k (ap (slice_get ys) one ∙ ap (λ zs. slice_get zs n) same ∙ slice_get_read xs (length xs) n s refl (omega (arith, h)) is))

pub lowering_begins : (t : Lists) (n s : ℕ) → Sound t → slice_get t.starts n ≡ Some s → n + 1 ≡ length t.starts → Lowering t (record t { done = s }) s
lowering_begins t n s sound h last = record {
  base = record {
    reasons = sound.base.reasons;
    rows = sound.base.rows;
    places = sound.base.places;
    pairs = sound.base.pairs;
    done = omega (arith, sound.base.done, sound.base.starts_done n s h);
    true_there = sound.base.true_there;
    placed = sound.base.placed;
    once = sound.base.once;
    found = sound.base.found;
    starts_done = λ m r k. sound.base.starts_rise m n r s (omega (arith, last, slice_get_within t.starts m r k)) k h;
    starts_rise = sound.base.starts_rise;
    known = sound.base.known;
    member = sound.base.member;
    listed = sound.base.listed;
    cuts = sound.base.cuts;
    implied = sound.base.implied;
    decided = sound.base.decided;
  };
  held = sound.base.cuts n s h;
  done = refl;
  below = omega (arith, sound.base.done, sound.base.starts_done n s h);
  starts = refl;
  shrunk = record { clauses = refl; vars = refl; order = λ i l k. k; decisions = λ i l h k. (h, k) };
}

pub lowering_step : (old t u : Lists) (s : ℕ) → Lowering old t s → Popped t u → s < length t.order → Lowering old u s
lowering_step old t u s low popped h =
    let front = u.order in
    let x = popped.0 in
    let room : s ≤ length front = omega (arith, h, ap length popped.1, length_push front x) in
    let above : t.done ≤ length front = omega (arith, room, low.done) in
    let new : Lists = unassigned t front x in
    subst (λ (v : Lists). Lowering old v s) (sym popped.2) (record {
      base = popped_base t front x low.base popped.1 above;
      held = popped_held t front x low.base popped.1 above s s room low.held;
      done = low.done;
      below = room;
      starts = low.starts;
      shrunk = record {
        clauses = low.shrunk.clauses;
        vars = length_set t.values x.var None ∙ low.shrunk.vars;
        order = λ i l k. low.shrunk.order i l (ap (λ o. slice_get o i) popped.1 ∙ push_old front x l i k);
        decisions = λ i l h k. low.shrunk.decisions i l (ap (λ o. slice_get o i) popped.1 ∙ push_old front x l i h) k;
      };
    })

pub lowering_ends : (old t : Lists) (s : ℕ) (front : List ℕ) → Lowering old t s → length t.order ≤ s → t.starts ≡ front ++ s ∷ [] → Sound (record t { starts = front })
lowering_ends old t s front low h is =
    let there : (n r : ℕ) → slice_get front n ≡ Some r → slice_get t.starts n ≡ Some r = λ n r k. ap (λ o. slice_get o n) is ∙ push_old front s r n k in
    record {
      base = record {
        reasons = low.base.reasons;
        rows = low.base.rows;
        places = low.base.places;
        pairs = low.base.pairs;
        done = low.base.done;
        true_there = low.base.true_there;
        placed = low.base.placed;
        once = low.base.once;
        found = low.base.found;
        starts_done = λ n r k. low.base.starts_done n r (there n r k);
        starts_rise = λ m n q r g k j. low.base.starts_rise m n q r g (there m q k) (there n r j);
        known = low.base.known;
        member = low.base.member;
        listed = low.base.listed;
        cuts = λ n r k. low.base.cuts n r (there n r k);
        implied = low.base.implied;
        decided = λ i l k g.
            let d = low.base.decided i l k g in
            ⊎_elim
            (λ e. absurd (omega (arith, h, slice_get_within t.order i l k, e.1)))
            (λ j. (d.0, j))
            (push_cases front s i d.0 (sym (ap (λ o. slice_get o d.0) is) ∙ d.1));
      };
      now = λ c lits pair k p.
          let same : length t.order ≡ s = omega (arith, h, low.below) in
          subst (λ (n : ℕ). Held t.order n (length t.order) lits pair) (sym low.done) (subst (λ (m : ℕ). Held t.order s m lits pair) (sym same) (low.held c lits pair k p));
    }

pub backed_same : (t : Lists) (level : ℕ) → Sound t → Backed t t level
backed_same t level sound = record {
  sound = sound;
  shrunk = record { clauses = refl; vars = refl; order = λ i l h. h; decisions = λ i l h k. (h, k) };
  starts = λ i s h. h;
  below = omega arith;
  above = omega arith;
  front = λ s h. absurd (omega (arith, slice_get_within t.starts (length t.starts) s h));
  done = λ h. absurd (omega (arith, h));
  same = λ _. refl;
}

pub backed_step : (old t u : Lists) (level : ℕ) → Backed old t level → level < length t.starts → Sound u → Shrunk t u → t.starts ≡ u.starts ++ length u.order ∷ [] → u.done ≡ length u.order → Backed old u level
backed_step old t u level b h sound shrunk starts done =
    let size = length_push u.starts (length u.order) in
    let both = ap length starts in
    record {
      sound = sound;
      shrunk = record { clauses = shrunk.clauses ∙ b.shrunk.clauses; vars = shrunk.vars ∙ b.shrunk.vars; order = λ i l k. b.shrunk.order i l (shrunk.order i l k); decisions = λ i l h k. let d = shrunk.decisions i l h k in b.shrunk.decisions i l d.0 d.1 };
      starts = λ i s k. b.starts i s (ap (λ xs. slice_get xs i) starts ∙ push_old u.starts (length u.order) s i k);
      below = omega (arith, size, both, b.below);
      above = omega (arith, size, both, b.above, h);
      front = λ s k. same_Some (length u.order) s (sym (b.starts (length u.starts) (length u.order) (ap (λ xs. slice_get xs (length u.starts)) starts ∙ push_here u.starts (length u.order))) ∙ k);
      done = λ _. done;
      same = λ e. absurd (omega (arith, e, size, both, b.below));
    }

pub shrunk_same : (t : Lists) → Shrunk t t
shrunk_same t = record { clauses = refl; vars = refl; order = λ i l h. h; decisions = λ i l h k. (h, k) }
