-- Why resolving keeps the marks, and what is left at the end.
use Rattle.std.proofs.Common.{ℕ, ◌<◌, ◌≤◌, ◌+◌, ◌++◌, Bool, true, false, not, Option, None, List, [], ◌∷◌, ◌≡◌, ◌∙◌, ◌⊎◌, inl, inr, ⊎_elim, refl, sym, ap, subst, Some, length, arith, replicate, Result, Ok, Err}
use Rattle.std.proofs.lemmas.List.{length-replicate}
use Rattle.std.specs.Prelude.{slice_get, slice_set, OnOk}
use Rattle.std.proofs.lemmas.Option.{same_Some, slice_get_within}
use Rattle.std.proofs.lemmas.Bool.{cases_eq}
use Rattle.clause_logic.specs.declared.Lit.{Lit}
use Rattle.clause_logic.specs.Clauses.{opposite, In, Makes, Holds}
use Rattle.clause_logic.specs.Trails.{FalseBefore, IsPlaced, Learned}
use Rattle.clause_trail.specs.Analysis.{MarkLists, Marked, IsMarked, Covers, trues, Ready, HasReason, Resolves, Refuted, Agrees}
use Rattle.clause_logic.proofs.Lits.{opposite_twice, not_cases, not_self}
use Rattle.clause_logic.proofs.Gets.{set_other, length_set, get_in, set_cases}
use Rattle.clause_trail.proofs.Counts.{trues_set_false, trues_has, trues_some, two_apart, one_only, trues_fresh, fresh_false}
use Rattle.clause_logic.proofs.Members.{in_push, in_last}

pub makes_both : (s : ℕ → Bool) (l : Lit) → Makes s l → Makes s (opposite l) → ⊥
makes_both s l h k = not_self l.positive (sym k ∙ h)

pub holds_cases : (s : ℕ → Bool) (c : List Lit) → Holds s c ⊎ ((l : Lit) → In l c → Makes s (opposite l))
holds_cases s [] = inr (λ l h. absurd h)
holds_cases s (x ∷ xs) =
    ⊎_elim
    (λ e. inl (x, inl refl, e))
    (λ e. ⊎_elim
    (λ h. inl (h.0, inr h.1, h.2))
    (λ all. inr (λ l h. ⊎_elim (λ f. subst (λ (y : Lit). Makes s (opposite y)) f e) (λ k. all l k) h))
    (holds_cases s xs))
    (choice (s x.var) x.positive)
  where
    choice : (a b : Bool) → (a ≡ b) ⊎ (a ≡ not b)
    choice = not_cases

pub agrees_false : (s : ℕ → Bool) (order : List Lit) (m : MarkLists) (l : Lit) → Agrees s order m → IsMarked order m l → Makes s l → ⊥
agrees_false s order m l agrees has h =
    makes_both s l h (⊎_elim (λ k. agrees.0 l k) (λ k. agrees.1 k.0 (opposite l) k.2 k.1) has)

-- at the start
module _ (order : List Lit) (places : List ℕ) (start : ℕ) (conflict : List Lit) (placed : IsPlaced order places) (false_there : (m : Lit) → In m conflict → FalseBefore order (length order) m) where
  pub fresh_marked : (w k : List Bool) (lower : List Lit) (n : ℕ) → w ≡ replicate (length order) false → k ≡ replicate (length order) false → lower ≡ [] → n ≡ 0
      → Marked order start (length order) (record { waiting = w; kept = k; lower = lower; count = n })
  fresh_marked w k lower n ew ek el en = record {
    waiting_length = ap length ew ∙ length-replicate (length order) false;
    kept_length = ap length ek ∙ length-replicate (length order) false;
    counted = en ∙ sym (trues_fresh (length order)) ∙ ap trues (sym ew);
    within = λ p h. absurd (fresh_false (length order) p (ap (λ (bs : List Bool). slice_get bs p) (sym ew) ∙ h));
    lower_false = λ l h. absurd (subst (In l) el h);
    kept_there = λ p l h. absurd (fresh_false (length order) p (ap (λ (bs : List Bool). slice_get bs p) (sym ek) ∙ h));
  }

  module _ (old new : MarkLists) (covers : Covers order places start (length order) conflict old new) where
    pub all_marked : (m : Lit) → In m conflict → IsMarked order new m
    all_marked m h =
        let f = false_there m h in
        ⊎_elim
        (λ e. let g : f.0 ≡ length order = same_Some f.0 (length order) (sym (placed f.0 (opposite m) f.2) ∙ e) in absurd (omega (arith, g, f.1)))
        (λ k. k)
        (covers.has m h)

    pub conflict_refuted : (clauses : List Lit → Type 0) → clauses conflict → Refuted clauses order new
    conflict_refuted clauses there s models agrees =
        let h = models conflict there in agrees_false s order new h.0 agrees (all_marked h.0 h.1) h.2

    pub conflict_some : (m : Lit) × In m conflict × (p : ℕ) × (start ≤ p) × (slice_get order p ≡ Some (opposite m)) → 0 < new.count
    conflict_some (m, i, p, high, at) =
        ⊎_elim
        (λ k. let f = covers.marked.lower_false m k in
        let g : f.0 ≡ p = same_Some f.0 p (sym (placed f.0 (opposite m) f.2) ∙ placed p (opposite m) at) in
        absurd (omega (arith, g, f.1, high)))
        (λ k. omega (arith, trues_has new.waiting k.0 k.2, covers.marked.counted))
        (all_marked m i)

-- a place that does not wait
pub lower_bound : (order : List Lit) (start place : ℕ) (m : MarkLists) → Marked order start (place + 1) m → slice_get m.waiting place ≡ Some false → Marked order start place m
lower_bound order start place m sound h = record {
  waiting_length = sound.waiting_length;
  kept_length = sound.kept_length;
  counted = sound.counted;
  within = λ p k. let w = sound.within p k in (w.0, ⊎_elim (λ e. absurd (cc (sym k ∙ ap (slice_get m.waiting) e ∙ h))) (λ n. omega (arith, n, w.1)) (cases_eq p place));
  lower_false = sound.lower_false;
  kept_there = sound.kept_there;
}

-- one step
module _ (order : List Lit) (places : List ℕ) (reasons : List (Option ℕ)) (cs : List (List Lit)) (start place : ℕ) (old : MarkLists) (ready : Ready order places reasons cs start) (sound : Marked order start (place + 1) old) (many : 1 < old.count)
    (here : slice_get old.waiting place ≡ Some true) where
  other : (q : ℕ) × (slice_get old.waiting q ≡ Some true) × (q ≡ place → ⊥)
  other = two_apart old.waiting place here (omega (arith, many, sound.counted))

  above : start < place
  above = let w = sound.within other.0 other.1 in omega (arith, w.0, w.1, other.2)

  pub on_trail : place < length order
  on_trail = omega (arith, slice_get_within old.waiting place true here, sound.waiting_length)

  lit : (l : Lit) × (slice_get order place ≡ Some l)
  lit = get_in order place on_trail

  why : HasReason order reasons cs place lit.0
  why = ready.reason place lit.0 above lit.1

  pub reason_known : (l : Lit) → slice_get order place ≡ Some l → l.var < length reasons
  reason_known l at = let w = ready.reason place l above at in slice_get_within reasons l.var (Some w.0) w.2

  pub reason_some : ((l : Lit) → slice_get order place ≡ Some l → slice_get reasons l.var ≡ Some None) → ⊥
  reason_some none = absurd (cc (sym why.2 ∙ none lit.0 lit.1))

  module _ (reason : ℕ) (read : (l : Lit) → slice_get order place ≡ Some l → slice_get reasons l.var ≡ Some (Some reason)) where
    same_reason : why.0 ≡ reason
    same_reason = same_Some why.0 reason (same_Some (Some why.0) (Some reason) (sym why.2 ∙ read lit.0 lit.1))

    pub reason_room : reason < length cs
    reason_room = omega (arith, same_reason, slice_get_within cs why.0 why.1 why.3)

    module _ (c : List Lit) (at : slice_get cs reason ≡ Some c) where
      same_clause : why.1 ≡ c
      same_clause = same_Some why.1 c (sym why.3 ∙ ap (slice_get cs) same_reason ∙ at)

      which : (m : Lit) → In m c → (m ≡ lit.0) ⊎ FalseBefore order place m
      which m h = why.4 m (subst (In m) (sym same_clause) h)

      pub reason_false : (m : Lit) → In m c → (slice_get places m.var ≡ Some place) ⊎ FalseBefore order place m
      reason_false m h =
          ⊎_elim (λ e. inl (ap (λ (l : Lit). slice_get places l.var) e ∙ ready.placed place lit.0 lit.1)) inr (which m h)

      module _ (w : List Bool) (n : ℕ) (new : MarkLists) (ew : w ≡ slice_set old.waiting place false) (covers : Covers order places start place c (record old { waiting = w; count = n }) new) where
        stays : (p : ℕ) → (p ≡ place → ⊥) → slice_get old.waiting p ≡ Some true → slice_get new.waiting p ≡ Some true
        stays p apart h =
            covers.grows.waiting p (ap (λ (bs : List Bool). slice_get bs p) ew ∙ set_other old.waiting place p false (λ e. apart (sym e)) ∙ h)

        made_here : (s : ℕ → Bool) → Holds s c → Agrees s order new → Makes s lit.0
        made_here s (x, i, h) agrees =
            ⊎_elim
            (λ e. subst (Makes s) e h)
            (λ f. ⊎_elim
            (λ e. let g : f.0 ≡ place = same_Some f.0 place (sym (ready.placed f.0 (opposite x) f.2) ∙ e) in absurd (omega (arith, g, f.1)))
            (λ k. absurd (agrees_false s order new x agrees k h))
            (covers.has x i))
            (which x i)

        pub resolved : Resolves order start place cs old new
        resolved = record {
          marked = covers.marked;
          some = omega (arith, trues_has new.waiting other.0 (stays other.0 other.2 other.1), covers.marked.counted);
          keeps = λ s models agrees. (
            (λ l h. agrees.0 l (covers.grows.lower l h)),
            (λ p l h k. ⊎_elim
                (λ e. subst (Makes s) (same_Some lit.0 l (sym lit.1 ∙ ap (slice_get order) (sym e) ∙ k)) (made_here s (models c (reason, at)) agrees))
                (λ apart. agrees.1 p l (stays p apart h) k)
                (cases_eq p place)),
          );
        }

  pub cleared : (w : List Bool) (n : ℕ) → w ≡ slice_set old.waiting place false → n + 1 ≡ old.count → Marked order start place (record old { waiting = w; count = n })
  cleared w n ew en = record {
    waiting_length = ap length ew ∙ length_set old.waiting place false ∙ sound.waiting_length;
    kept_length = sound.kept_length;
    counted = omega (arith, en, sound.counted, trues_set_false old.waiting place here, ap trues ew);
    within = λ p h. ⊎_elim
        (λ e. absurd (cc e.1))
        (λ d. let v = sound.within p d.1 in (v.0, omega (arith, v.1, (λ (e : p ≡ place). d.0 (sym e)))))
        (set_cases old.waiting place p false true (ap (λ (bs : List Bool). slice_get bs p) (sym ew) ∙ h));
    lower_false = sound.lower_false;
    kept_there = sound.kept_there;
  }

-- at the end
pub finished : (clauses : List Lit → Type 0) (order : List Lit) (start bound p : ℕ) (m : MarkLists) (x : Lit) → Marked order start bound m → m.count ≡ 1 → Refuted clauses order m → slice_get m.waiting p ≡ Some true → slice_get order p ≡ Some x
    → Learned clauses order start (m.lower ++ opposite x ∷ [])
finished clauses order start bound p m x sound one refuted h at = (
  m.lower,
  opposite x,
  refl,
  (λ s models. ⊎_elim
      (λ k. k)
      (λ all. absurd (refuted s models (
        (λ l k. all l (in_push m.lower (opposite x) l k)),
        (λ q y k g.
            let e : q ≡ p = one_only m.waiting q p (sym sound.counted ∙ one) k h in
            subst (Makes s) (opposite_twice x ∙ same_Some x y (sym at ∙ ap (slice_get order) (sym e) ∙ g)) (all (opposite x) (in_last m.lower (opposite x)))),
      )))
      (holds_cases s (m.lower ++ opposite x ∷ []))),
  sound.lower_false,
  (p, (sound.within p h).0, at ∙ ap Some (sym (opposite_twice x))),
)

pub waiting_some : (order : List Lit) (start bound : ℕ) (m : MarkLists) → Marked order start bound m → 0 < m.count → (p : ℕ) × (p < bound) × (slice_get m.waiting p ≡ Some true)
waiting_some order start bound m sound some =
    let w = trues_some m.waiting (omega (arith, some, sound.counted)) in (w.0, (sound.within w.0 w.1).1, w.1)

pub on_ok : {A E : Type 0} {P Q : Type 0} → (r : Result A E) → (P → Q) → OnOk r P → OnOk r Q
on_ok (Ok x) f h = f h
on_ok (Err e) f h = h
