-- What stands on a trail, as it grows.
use Rattle.std.proofs.Common.{◌≡◌, ◌∙◌, ◌≤◌, ◌++◌, ℕ, Bool, List, [], ◌∷◌, Option, Some, None, length, sym, ap, subst, ⊎_elim, arith}
use Rattle.std.specs.Prelude.{slice_get, slice_set}
use Rattle.std.proofs.lemmas.Option.{same_Some, slice_get_within}
use Rattle.clause_logic.specs.declared.Lit.{Lit}
use Rattle.clause_trail.specs.declared.Pair.{Pair}
use Rattle.clause_logic.specs.Clauses.{opposite}
use Rattle.clause_trail.specs.Words.{True, Open, Before, TrueBefore}
use Rattle.clause_logic.specs.Trails.{IsPlaced}
use Rattle.clause_trail.specs.View.{Lists, Base, Now, Sound, Held, Implied, assigned}
use Rattle.clause_logic.proofs.Gets.{set_other, set_here, length_set, push_here, push_old, push_cases, length_push, get_in, set_cases}

module _ (order : List Lit) (x : Lit) where
  pub before_push : (n : ℕ) (l : Lit) → Before order n l → Before (order ++ x ∷ []) n l
  before_push n l b = record { at = b.at; below = b.below; is = push_old order x l b.at b.is }

  pub before_back : (n : ℕ) (l : Lit) → n ≤ length order → Before (order ++ x ∷ []) n l → Before order n l
  before_back n l h b =
      ⊎_elim
      (λ e. absurd (omega (arith, h, b.below, e.0)))
      (λ k. record { at = b.at; below = b.below; is = k })
      (push_cases order x l b.at b.is)

  pub true_push : (m : ℕ) (lits : List Lit) → TrueBefore order m lits → TrueBefore (order ++ x ∷ []) m lits
  true_push m lits t = record { lit = t.lit; has = t.has; on = before_push m t.lit t.on }

pub before_more : (order : List Lit) (n m : ℕ) (l : Lit) → n ≤ m → Before order n l → Before order m l
before_more order n m l h b = record { at = b.at; below = omega (arith, b.below); is = b.is }

pub true_more : (order : List Lit) (n m : ℕ) (lits : List Lit) → n ≤ m → TrueBefore order n lits → TrueBefore order m lits
true_more order n m lits h t = record { lit = t.lit; has = t.has; on = before_more order n m t.lit h t.on }

pub held_push : (order : List Lit) (x : Lit) (n m k : ℕ) (lits : List Lit) (pair : Pair) → n ≤ length order → m ≤ k → Held order n m lits pair → Held (order ++ x ∷ []) n k lits pair
held_push order x n m k lits pair h g held = record {
  watch = λ w is b. true_push order x k lits (true_more order m k lits g (held.watch w is (before_back order x n (opposite w) h b)));
  same = λ e. true_push order x k lits (true_more order m k lits g (held.same e));
}

pub implied_push : (clauses : List (List Lit)) (order : List Lit) (x : Lit) (i : ℕ) (l : Lit) (c : ℕ) → Implied clauses order i l c → Implied clauses (order ++ x ∷ []) i l c
implied_push clauses order x i l c p = record { lits = p.lits; is = p.is; has = p.has; others = λ m h d. before_push order x i (opposite m) (p.others m h d) }

-- a literal with a value is on the trail
pub on_trail : (t : Lists) (l : Lit) → Base t → True t.values l → Before t.order (length t.order) l
on_trail t l base h =
    let p = base.placed l.var l.positive h in
    record { at = p.0; below = slice_get_within t.order p.0 l p.1; is = p.1 }

module _ (t : Lists) (lit : Lit) (reason : Option ℕ) (base : Base t) (free : Open t.values lit) (why : (c : ℕ) → reason ≡ Some c → Implied t.clauses t.order (length t.order) lit c)
    (level : reason ≡ None → (n : ℕ) × (slice_get t.starts n ≡ Some (length t.order))) where
  other_var : (i : ℕ) (a : Lit) → slice_get t.order i ≡ Some a → lit.var ≡ a.var → ⊥
  other_var i a h e = absurd (cc (sym free ∙ ap (slice_get t.values) e ∙ base.true_there i a h))

  reason_there : (x : Option ℕ) × (slice_get t.reasons lit.var ≡ Some x)
  reason_there = get_in t.reasons lit.var (omega (arith, base.reasons, slice_get_within t.values lit.var None free))

  assigned_true : (i : ℕ) (a : Lit) → slice_get (t.order ++ lit ∷ []) i ≡ Some a → slice_get (slice_set t.values lit.var (Some lit.positive)) a.var ≡ Some (Some a.positive)
  assigned_true i a h =
      ⊎_elim
      (λ e. ap (λ (l : Lit). slice_get (slice_set t.values lit.var (Some lit.positive)) l.var) (sym e.1) ∙ set_here t.values lit.var None (Some lit.positive) free ∙ ap (λ (l : Lit). Some (Some l.positive)) e.1)
      (λ k. set_other t.values lit.var a.var (Some lit.positive) (other_var i a k) ∙ base.true_there i a k)
      (push_cases t.order lit a i h)

  assigned_once : (i j : ℕ) (a b : Lit) → slice_get (t.order ++ lit ∷ []) i ≡ Some a → slice_get (t.order ++ lit ∷ []) j ≡ Some b → a.var ≡ b.var → i ≡ j
  assigned_once i j a b h k e =
      ⊎_elim
      (λ p. ⊎_elim (λ q. p.0 ∙ sym q.0) (λ q. absurd (other_var j b q (ap (λ (l : Lit). l.var) p.1 ∙ e))) (push_cases t.order lit b j k))
      (λ p. ⊎_elim (λ q. absurd (other_var i a p (ap (λ (l : Lit). l.var) q.1 ∙ sym e))) (λ q. base.once i j a b p q e) (push_cases t.order lit b j k))
      (push_cases t.order lit a i h)

  assigned_placed : (v : ℕ) (b : Bool) → slice_get (slice_set t.values lit.var (Some lit.positive)) v ≡ Some (Some b)
      → (i : ℕ) × (slice_get (t.order ++ lit ∷ []) i ≡ Some (record { var = v; positive = b }))
  assigned_placed v b h =
      ⊎_elim
      (λ e. (
        length t.order,
        push_here t.order lit ∙ ap (λ (n : ℕ). let l : Lit = record { var = n; positive = lit.positive } in Some l) e.0 ∙ ap (λ (p : Bool). let l : Lit = record { var = v; positive = p } in Some l) (same_Some lit.positive b (same_Some (Some lit.positive) (Some b) (ap Some e.1))),
      ))
      (λ d. let old = base.placed v b d.1 in (old.0, push_old t.order lit _ old.0 old.1))
      (set_cases t.values lit.var v (Some lit.positive) (Some b) h)

  assigned_implied : (i : ℕ) (l : Lit) (c : ℕ) → slice_get (t.order ++ lit ∷ []) i ≡ Some l → slice_get (slice_set t.reasons lit.var reason) l.var ≡ Some (Some c) → Implied t.clauses (t.order ++ lit ∷ []) i l c
  assigned_implied i l c h k =
      ⊎_elim
      (λ e.
      let r : reason ≡ Some c = same_Some reason (Some c) (sym (set_here t.reasons lit.var reason_there.0 reason reason_there.1) ∙ ap (λ (x : Lit). slice_get (slice_set t.reasons lit.var reason) x.var) e.1 ∙ k) in
      subst (λ (x : Lit). Implied t.clauses (t.order ++ lit ∷ []) i x c) e.1 (subst (λ (n : ℕ). Implied t.clauses (t.order ++ lit ∷ []) n lit c) (sym e.0) (implied_push t.clauses t.order lit (length t.order) lit c (why c r))))
      (λ p. implied_push t.clauses t.order lit i l c (base.implied i l c p (sym (set_other t.reasons lit.var l.var reason (other_var i l p)) ∙ k)))
      (push_cases t.order lit l i h)

  assigned_decided : (i : ℕ) (l : Lit) → slice_get (t.order ++ lit ∷ []) i ≡ Some l → slice_get (slice_set t.reasons lit.var reason) l.var ≡ Some None → (n : ℕ) × (slice_get t.starts n ≡ Some i)
  assigned_decided i l h k =
      ⊎_elim
      (λ e.
      let r : reason ≡ None = same_Some reason None (sym (set_here t.reasons lit.var reason_there.0 reason reason_there.1) ∙ ap (λ (x : Lit). slice_get (slice_set t.reasons lit.var reason) x.var) e.1 ∙ k) in
      let start = level r in
      (start.0, start.1 ∙ ap Some (sym e.0)))
      (λ p. base.decided i l p (sym (set_other t.reasons lit.var l.var reason (other_var i l p)) ∙ k))
      (push_cases t.order lit l i h)

  place_there : (x : ℕ) × (slice_get t.places lit.var ≡ Some x)
  place_there = get_in t.places lit.var (omega (arith, base.places, slice_get_within t.values lit.var None free))

  assigned_found : IsPlaced (t.order ++ lit ∷ []) (slice_set t.places lit.var (length t.order))
  assigned_found p m at =
      ⊎_elim
      (λ e. ap (λ (y : Lit). slice_get (slice_set t.places lit.var (length t.order)) y.var) (sym e.1) ∙ set_here t.places lit.var place_there.0 (length t.order) place_there.1 ∙ ap Some (sym e.0))
      (λ k. set_other t.places lit.var m.var (length t.order) (other_var p m k) ∙ base.found p m k)
      (push_cases t.order lit m p at)

  pub assigned_base : Base (assigned t lit reason)
  assigned_base = record {
    reasons = omega (arith, base.reasons, length_set t.values lit.var (Some lit.positive), length_set t.reasons lit.var reason);
    rows = omega (arith, base.rows, length_set t.values lit.var (Some lit.positive));
    places = omega (arith, base.places, length_set t.values lit.var (Some lit.positive), length_set t.places lit.var (length t.order));
    pairs = base.pairs;
    done = omega (arith, base.done, length_push t.order lit);
    true_there = assigned_true;
    placed = assigned_placed;
    once = assigned_once;
    found = assigned_found;
    starts_done = base.starts_done;
    starts_rise = base.starts_rise;
    known = λ c lits l h k. omega (arith, base.known c lits l h k, length_set t.values lit.var (Some lit.positive));
    member = base.member;
    listed = base.listed;
    cuts = λ n s h c lits pair k p. held_push t.order lit s s s lits pair (omega (arith, base.starts_done n s h, base.done)) (omega arith) (base.cuts n s h c lits pair k p);
    implied = assigned_implied;
    decided = assigned_decided;
  }

  pub assigned_now : (n : ℕ) → n ≤ length t.order → Now t n → Now (assigned t lit reason) n
  assigned_now n h now c lits pair k p = held_push t.order lit n (length t.order) (length (t.order ++ lit ∷ [])) lits pair h (omega (arith, length_push t.order lit)) (now c lits pair k p)

-- a literal that begins its level
pub decided_sound : (t : Lists) (lit : Lit) → Sound t → Open t.values lit → (n : ℕ) × (slice_get t.starts n ≡ Some (length t.order)) → Sound (assigned t lit None)
decided_sound t lit sound free level =
    let why : (c : ℕ) → None ≡ Some c → Implied t.clauses t.order (length t.order) lit c = λ c e. absurd (cc e) in
    record {
      base = assigned_base t lit None sound.base free why (λ _. level);
      now = assigned_now t lit None sound.base free why (λ _. level) t.done sound.base.done sound.now;
    }
