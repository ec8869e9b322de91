-- Why the walk finds a core.
use Rattle.std.proofs.Common.{ℕ, ◌<◌, ◌+◌, ◌++◌, Bool, true, false, Option, None, List, [], ◌∷◌, ◌≡◌, ◌∙◌, ◌⊎◌, inl, inr, ⊎_elim, refl, sym, ap, subst, Some, length, arith}
use Rattle.std.specs.Prelude.{slice_get, slice_set}
use Rattle.std.proofs.lemmas.Option.{same_Some, slice_get_within}
use Rattle.std.proofs.lemmas.Bool.{cases_eq}
use Rattle.clause_logic.specs.declared.Lit.{Lit}
use Rattle.clause_logic.specs.Clauses.{opposite, In, Makes, Models, Holds, Listed}
use Rattle.clause_logic.specs.Trails.{EachOnce, FalseBefore, IsPlaced, MakesAll, IsCore}
use Rattle.clause_trail.specs.Analysis.{HasReason, MarkLists, Marked, Grows, Covers, trues, Agrees, Rooted, Explains, CoreSoFar}
use Rattle.clause_logic.proofs.Gets.{set_other, length_set, get_in, set_cases, push_cases}
use Rattle.clause_trail.proofs.Counts.{trues_set_false, trues_has}
use Rattle.clause_logic.proofs.Members.{in_push, in_last, in_push_cases, in_from_get}
use Rattle.clause_logic.proofs.Learning.{consistent}
use Rattle.clause_trail.proofs.Resolving.{agrees_false, makes_both, all_marked, lower_bound}

-- one step: the marks with the place cleared
module _ (order : List Lit) (place : ℕ) (old : MarkLists) (sound : Marked order 0 (place + 1) old) (here : slice_get old.waiting place ≡ Some true) where
  pub cleared_marks : (w : List Bool) (n : ℕ) → w ≡ slice_set old.waiting place false → n + 1 ≡ old.count → Marked order 0 place (record old { waiting = w; count = n })
  cleared_marks w n ew en = record {
    waiting_length = ap length ew ∙ length_set old.waiting place false ∙ sound.waiting_length;
    kept_length = sound.kept_length;
    counted = omega (arith, en, sound.counted, trues_set_false old.waiting place here, ap trues ew);
    within = λ p h. ⊎_elim
        (λ e. absurd (cc e.1))
        (λ d. let v = sound.within p d.1 in (v.0, omega (arith, v.1, (λ (e : p ≡ place). d.0 (sym e)))))
        (set_cases old.waiting place p false true (ap (λ (bs : List Bool). slice_get bs p) (sym ew) ∙ h));
    lower_false = sound.lower_false;
    kept_there = sound.kept_there;
  }

  pub count_here : 0 < old.count
  count_here = omega (arith, trues_has old.waiting place here, sound.counted)

  stays_cleared : (w : List Bool) → w ≡ slice_set old.waiting place false → (p : ℕ) → (p ≡ place → ⊥) → slice_get old.waiting p ≡ Some true → slice_get w p ≡ Some true
  stays_cleared w ew p apart h = ap (λ (bs : List Bool). slice_get bs p) ew ∙ set_other old.waiting place p false (λ e. apart (sym e)) ∙ h

  -- from the marks after, and the literal at the place
  agrees_back : (w : List Bool) (n : ℕ) (new : MarkLists) (l : Lit) (s : ℕ → Bool) → w ≡ slice_set old.waiting place false → Grows (record old { waiting = w; count = n }) new → slice_get order place ≡ Some l → Makes s l → Agrees s order new → Agrees s order old
  agrees_back w n new l s ew grows at made agrees = (
    (λ x h. agrees.0 x (grows.lower x h)),
    (λ p x h k. ⊎_elim
        (λ e. subst (Makes s) (same_Some l x (sym at ∙ ap (slice_get order) (sym e) ∙ k)) made)
        (λ apart. agrees.1 p x (grows.waiting p (stays_cleared w ew p apart h)) k)
        (cases_eq p place)),
  )

  module _ (places : List ℕ) (reasons : List (Option ℕ)) (cs : List (List Lit)) (assumed : List Lit) (rooted : Rooted order places reasons cs assumed) where
    pub on_trail_here : place < length order
    on_trail_here = omega (arith, slice_get_within old.waiting place true here, sound.waiting_length)

    spot : (l : Lit) × (slice_get order place ≡ Some l)
    spot = get_in order place on_trail_here

    pub cause_known : (l : Lit) → slice_get order place ≡ Some l → l.var < length reasons
    cause_known l at = ⊎_elim (λ w. slice_get_within reasons l.var (Some w.0) w.2) (λ w. slice_get_within reasons l.var None w.0) (rooted.cause place l at)

    module _ (reason : ℕ) (read : (l : Lit) → slice_get order place ≡ Some l → slice_get reasons l.var ≡ Some (Some reason)) where
      why_here : HasReason order reasons cs place spot.0
      why_here = ⊎_elim (λ w. w) (λ w. absurd (cc (sym (read spot.0 spot.1) ∙ w.0))) (rooted.cause place spot.0 spot.1)

      same_here : why_here.0 ≡ reason
      same_here = same_Some why_here.0 reason (same_Some (Some why_here.0) (Some reason) (sym why_here.2 ∙ read spot.0 spot.1))

      pub cause_room : reason < length cs
      cause_room = omega (arith, same_here, slice_get_within cs why_here.0 why_here.1 why_here.3)

      module _ (c : List Lit) (at : slice_get cs reason ≡ Some c) where
        same_clause_here : why_here.1 ≡ c
        same_clause_here = same_Some why_here.1 c (sym why_here.3 ∙ ap (slice_get cs) same_here ∙ at)

        which_here : (m : Lit) → In m c → (m ≡ spot.0) ⊎ FalseBefore order place m
        which_here m h = why_here.4 m (subst (In m) (sym same_clause_here) h)

        pub cause_false : (m : Lit) → In m c → (slice_get places m.var ≡ Some place) ⊎ FalseBefore order place m
        cause_false m h = ⊎_elim (λ e. inl (ap (λ (l : Lit). slice_get places l.var) e ∙ rooted.placed place spot.0 spot.1)) inr (which_here m h)

        pub explained_by : (w : List Bool) (n : ℕ) (new : MarkLists) (core grown : List Lit) → w ≡ slice_set old.waiting place false → Covers order places 0 place c (record old { waiting = w; count = n }) new → grown ≡ core
            → Explains order place cs assumed old new core grown
        explained_by w n new core grown ew covers same = record {
          marked = covers.marked;
          keeps = λ s models all agrees. let h = models c (reason, at) in (
            agrees_back w n new spot.0 s ew covers.grows spot.1
                (⊎_elim
                (λ e. subst (Makes s) e h.2)
                (λ f. ⊎_elim
                (λ e. let g : f.0 ≡ place = same_Some f.0 place (sym (rooted.placed f.0 (opposite h.0) f.2) ∙ e) in absurd (omega (arith, g, f.1)))
                (λ k. absurd (agrees_false s order new h.0 agrees k h.2))
                (covers.has h.0 h.1))
                (which_here h.0 h.1))
                agrees,
            (λ l k. all l (subst (In l) (sym same) k)),
          );
          more = inl same;
        }

    pub explained_root : (w : List Bool) (n : ℕ) (core grown : List Lit) (l : Lit) → ((x : Lit) → slice_get order place ≡ Some x → slice_get reasons x.var ≡ Some None) → slice_get order place ≡ Some l → w ≡ slice_set old.waiting place false → n + 1 ≡ old.count → grown ≡ core ++ l ∷ []
        → Explains order place cs assumed old (record old { waiting = w; count = n }) core grown
    explained_root w n core grown l none at ew en is = record {
      marked = cleared_marks w n ew en;
      keeps = λ s models all agrees. (
        agrees_back w n (record old { waiting = w; count = n }) l s ew (record { waiting = λ p h. h; lower = λ x h. h }) at (all l (subst (In l) (sym is) (in_last core l))) agrees,
        (λ x k. all x (subst (In x) (sym is) (in_push core l x k))),
      );
      more = inr (l, at, ⊎_elim (λ w. absurd (cc (sym w.2 ∙ none l at))) (λ w. w.1) (rooted.cause place l at), is);
    }

-- the walk
module _ (order : List Lit) (places : List ℕ) (cs : List (List Lit)) (assumed lits : List Lit) (placed : IsPlaced order places) where
  pub core_begins : (old m : MarkLists) (core : List Lit) → ((l : Lit) → In l lits → FalseBefore order (length order) l) → Covers order places 0 (length order) lits old m → core ≡ [] → CoreSoFar order (length order) cs assumed lits m core
  core_begins old m core false_there covers none = record {
    marked = covers.marked;
    short = omega arith;
    assumptions = λ l h. absurd (subst (In l) none h);
    once = λ i j l h k. absurd (cc (sym h ∙ ap (λ (xs : List Lit). slice_get xs i) none));
    behind = λ l h. absurd (subst (In l) none h);
    refutes = λ s models all agrees l h.
        ⊎_elim (λ k. agrees.0 l k) (λ k. agrees.1 k.0 (opposite l) k.2 k.1) (all_marked order places 0 lits placed false_there old m covers l h);
  }

  pub core_passes : (bound : ℕ) (m : MarkLists) (core : List Lit) → CoreSoFar order (bound + 1) cs assumed lits m core → slice_get m.waiting bound ≡ Some false → CoreSoFar order bound cs assumed lits m core
  core_passes bound m core so h = record {
    marked = lower_bound order 0 bound m so.marked h;
    short = omega (arith, so.short);
    assumptions = so.assumptions;
    once = so.once;
    behind = λ l k. let b = so.behind l k in (b.0, omega (arith, b.1), b.2);
    refutes = so.refutes;
  }

  pub core_steps : (bound : ℕ) (old new : MarkLists) (core grown : List Lit) → CoreSoFar order (bound + 1) cs assumed lits old core → Explains order bound cs assumed old new core grown → CoreSoFar order bound cs assumed lits new grown
  core_steps bound old new core grown so step = record {
    marked = step.marked;
    short = omega (arith, so.short);
    assumptions = λ l h. ⊎_elim
        (λ e. so.assumptions l (subst (In l) e h))
        (λ d. ⊎_elim (λ f. subst (λ (x : Lit). In x assumed) f d.2) (λ k. so.assumptions l k) (in_push_cases core d.0 l (subst (In l) d.3 h)))
        step.more;
    once = λ i j l h k. ⊎_elim
        (λ e. so.once i j l (sym (ap (λ (xs : List Lit). slice_get xs i) e) ∙ h) (sym (ap (λ (xs : List Lit). slice_get xs j) e) ∙ k))
        (λ d. once_more d.0 d.1 i j l (sym (ap (λ (xs : List Lit). slice_get xs i) d.3) ∙ h) (sym (ap (λ (xs : List Lit). slice_get xs j) d.3) ∙ k))
        step.more;
    behind = λ l h. ⊎_elim
        (λ e. let b = so.behind l (subst (In l) e h) in (b.0, omega (arith, b.1), b.2))
        (λ d. ⊎_elim (λ f. (bound, omega arith, d.1 ∙ ap Some f)) (λ k. let b = so.behind l k in (b.0, omega (arith, b.1), b.2)) (in_push_cases core d.0 l (subst (In l) d.3 h)))
        step.more;
    refutes = λ s models all agrees l h. let back = step.keeps s models all agrees in so.refutes s models back.1 back.0 l h;
  }
    where
      fresh : (x : Lit) → slice_get order bound ≡ Some x → In x core → ⊥
      fresh x at h =
          let b = so.behind x h in
          let e : b.0 ≡ bound = same_Some b.0 bound (sym (placed b.0 x b.2) ∙ placed bound x at) in omega (arith, e, b.1)

      once_more : (x : Lit) → slice_get order bound ≡ Some x → (i j : ℕ) (l : Lit) → slice_get (core ++ x ∷ []) i ≡ Some l → slice_get (core ++ x ∷ []) j ≡ Some l → i ≡ j
      once_more x at i j l h k =
          ⊎_elim
          (λ e. ⊎_elim (λ f. e.0 ∙ sym f.0) (λ f. absurd (fresh x at (subst (λ (y : Lit). In y core) (sym e.1) (in_from_get core j l f)))) (push_cases core x l j k))
          (λ e. ⊎_elim (λ f. absurd (fresh x at (subst (λ (y : Lit). In y core) (sym f.1) (in_from_get core i l e)))) (λ f. so.once i j l e f) (push_cases core x l j k))
          (push_cases core x l i h)

  pub core_ends : (bound : ℕ) (m : MarkLists) (core : List Lit) → CoreSoFar order bound cs assumed lits m core → m.count ≡ 0 → IsCore (Listed cs) order assumed lits core
  core_ends bound m core so none = record {
    standing = λ l h. let b = so.behind l h in (b.0, slice_get_within order b.0 l b.2, b.2);
    assumptions = so.assumptions;
    once = so.once;
    refutes = λ s models all l h. so.refutes s models all (
      (λ x k. let f = so.marked.lower_false x k in absurd (omega (arith, f.1))),
      (λ p x k g. absurd (omega (arith, trues_has m.waiting p k, so.marked.counted, none))),
    ) l h;
  }

-- a conflict whose literals the core makes false can't hold: the clauses and the core are false together
pub core_refutes : (clauses : List Lit → Type 0) (order assumed conflict core : List Lit) → IsCore clauses order assumed conflict core → (s : ℕ → Bool) → Models s clauses → Holds s conflict → MakesAll s core → ⊥
core_refutes clauses order assumed conflict core is s models (l, i, h) all = makes_both s l h (is.refutes s models all l i)

-- a false assumption, with the core of its opposite
pub core_assumption : (clauses : List Lit → Type 0) (order assumed core : List Lit) (a : Lit) → IsCore clauses order assumed (a ∷ []) core → (s : ℕ → Bool) → Models s clauses → MakesAll s (core ++ a ∷ []) → ⊥
core_assumption clauses order assumed core a is s models all =
    makes_both s a (all a (in_last core a)) (is.refutes s models (λ l h. all l (in_push core a l h)) a (inl refl))

-- a false assumption doesn't stand in its core
pub core_without : (clauses : List Lit → Type 0) (order assumed core : List Lit) (places : List ℕ) (a : Lit) → IsPlaced order places → IsCore clauses order assumed (a ∷ []) core → FalseBefore order (length order) a → In a core → ⊥
core_without clauses order assumed core places a placed is there i =
    consistent order places placed (length order) a (is.standing a i) there

-- each once, the false assumption too
pub core_assumption_once : (clauses : List Lit → Type 0) (order assumed core : List Lit) (a : Lit) → IsCore clauses order assumed (a ∷ []) core → (In a core → ⊥) → EachOnce (core ++ a ∷ [])
core_assumption_once clauses order assumed core a is apart i j l h k =
    ⊎_elim
    (λ e. ⊎_elim (λ f. e.0 ∙ sym f.0) (λ f. absurd (apart (subst (λ (y : Lit). In y core) (sym e.1) (in_from_get core j l f)))) (push_cases core a l j k))
    (λ e. ⊎_elim (λ f. absurd (apart (subst (λ (y : Lit). In y core) (sym f.1) (in_from_get core i l e)))) (λ f. is.once i j l e f) (push_cases core a l j k))
    (push_cases core a l i h)
