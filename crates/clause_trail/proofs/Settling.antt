-- What a conflict comes to, and the choice of decisions step by step.
use Rattle.std.proofs.Common.{ℕ, ◌<◌, ◌≤◌, ◌+◌, ◌++◌, List, [], ◌∷◌, ◌≡◌, ◌∙◌, ◌⊎◌, Option, Some, None, inl, inr, ⊎_elim, sym, ap, subst, length, arith, get_or, min, not}
use Rattle.std.specs.Prelude.{slice_get}
use Rattle.std.proofs.lemmas.Option.{same_Some, slice_get_within, slice_get-get_or}
use Rattle.std.proofs.lemmas.Bool.{cases_lt}
use Rattle.clause_logic.specs.declared.Lit.{Lit}
use Rattle.clause_logic.specs.Clauses.{opposite, In, Listed}
use Rattle.clause_logic.specs.Trails.{FalseBefore, Prefix, IsCore}
use Rattle.clause_trail.specs.Words.{True, False}
use Rattle.clause_trail.specs.View.{Lists, Base, Sound, NoNewDecision, assigned}
use Rattle.clause_trail.specs.Changes.{Shrunk, Backed, Asserted, Chosen, LastStart, NoneAfter, Refuting}
use Rattle.clause_trail.specs.Analysis.{HasReason, Ready, Rooted}
use Rattle.clause_trail.specs.Levels.{IsTop}
use Rattle.clause_logic.proofs.Gets.{get_in, push_old, push_cases, set_other}
use Rattle.clause_logic.proofs.Lits.{lit_cases}
use Rattle.clause_logic.proofs.Members.{get_from_in, in_push_cases}
use Rattle.clause_trail.proofs.Cores.{core_assumption, core_assumption_once, core_without}
use Rattle.clause_trail.proofs.Completing.{not_same}
use Rattle.clause_trail.proofs.Trails.{on_trail}

-- what stands on the front of a trail
pub front_keeps : (old new : Lists) → Shrunk old new → (i : ℕ) (l : Lit) → i < length new.order → slice_get old.order i ≡ Some l → slice_get new.order i ≡ Some l
front_keeps old new shrunk i l small at =
    let x = get_in new.order i small in
    x.1 ∙ ap Some (same_Some x.0 l (sym (shrunk.order i x.0 x.1) ∙ at))

-- a literal that is false stands with its opposite on the trail
pub false_on_trail : (t : Lists) → Base t → (m : Lit) → False t.values m → FalseBefore t.order (length t.order) m
false_on_trail t base m h = let b = on_trail t (opposite m) base h in (b.at, b.below, b.is)

-- the trail that is left reaches as far as the literals that decided how far to go back
pub left_long : (old new : Lists) (level top : ℕ) → Backed old new level → length new.starts ≡ min level (length old.starts) → level ≤ length old.starts → ((s : ℕ) → slice_get old.starts level ≡ Some s → top ≤ s) → top ≤ length old.order → top ≤ length new.order
left_long old new level top backed is bound above short =
    ⊎_elim
    (λ (e : level < length old.starts).
    let s = get_in old.starts level e in
    let same : length new.starts ≡ level = omega (arith, is, e) in
    omega (arith, above s.0 s.1, backed.front s.0 (ap (slice_get old.starts) same ∙ s.1)))
    (λ (e : length old.starts ≤ level).
    let same : new ≡ old = backed.same (omega (arith, is, e)) in
    omega (arith, short, ap (λ (t : Lists). length t.order) same))
    (cases_lt level (length old.starts))

pub left_false : (old new : Lists) (lits : List Lit) (top : ℕ) → Shrunk old new → IsTop old.order (length old.order) lits top → top ≤ length new.order → (m : Lit) → In m lits → FalseBefore new.order (length new.order) m
left_false old new lits top shrunk so long m i =
    let f = so.before m i in
    let small : f.0 < length new.order = omega (arith, f.1, long) in
    (f.0, small, front_keeps old new shrunk f.0 (opposite m) small f.2)

-- at the last level each literal but the first has a reason
has_reason : (t : Lists) (p : ℕ) (l : Lit) (r : ℕ) → Base t → slice_get t.order p ≡ Some l → slice_get t.reasons l.var ≡ Some (Some r) → HasReason t.order t.reasons t.clauses p l
has_reason t p l r base at why =
    let i = base.implied p l r at why in (
      r,
      i.lits,
      why,
      i.is,
      (λ m k. let g = get_from_in i.lits m k in ⊎_elim inl (λ n. inr (let b = i.others m (record { at = g.0; is = g.1 }) n in (b.at, b.below, b.is))) (lit_cases m l)),
    )

reason_of : (t : Lists) (p : ℕ) (l : Lit) → Base t → slice_get t.order p ≡ Some l → HasReason t.order t.reasons t.clauses p l ⊎ (slice_get t.reasons l.var ≡ Some None)
reason_of t p l base at =
    let known : l.var < length t.reasons = omega (arith, base.reasons, slice_get_within t.values l.var (Some l.positive) (base.true_there p l at)) in
    let x = get_in t.reasons l.var known in
    cases x.0 x.1
  where
    cases : (o : Option ℕ) → slice_get t.reasons l.var ≡ Some o → HasReason t.order t.reasons t.clauses p l ⊎ (slice_get t.reasons l.var ≡ Some None)
    cases None h = inr h
    cases (Some r) h = inl (has_reason t p l r base at h)

last_latest : (t : Lists) (s n p : ℕ) → Base t → LastStart t s → slice_get t.starts n ≡ Some p → p ≤ s
last_latest t s n p base last there = base.starts_rise n last.0 p s (omega (arith, last.2, slice_get_within t.starts n p there)) there last.1

pub ready_at : (t : Lists) (s : ℕ) → Sound t → LastStart t s → Ready t.order t.places t.reasons t.clauses s
ready_at t s sound last = record {
  placed = sound.base.found;
  reason = λ p l past at. ⊎_elim
      (λ r. r)
      (λ none. let d = sound.base.decided p l at none in absurd (omega (arith, past, last_latest t s d.0 p sound.base last d.1)))
      (reason_of t p l sound.base at);
}

-- where no level begins with all assumptions true, each decision is an assumption
pub rooted_of : (t : Lists) (assumed : List Lit) → Sound t → Chosen t assumed → NoneAfter t assumed → Rooted t.order t.places t.reasons t.clauses assumed
rooted_of t assumed sound chosen none = record {
  placed = sound.base.found;
  cause = λ p l at. ⊎_elim
      inl
      (λ r. inr (r, ⊎_elim (λ i. i) (λ all. let d = sound.base.decided p l at r in absurd (none d.0 p d.1 all)) (chosen p l at r)))
      (reason_of t p l sound.base at);
}

pub prefix_later : (order : List Lit) (n m : ℕ) (l : Lit) → n ≤ m → Prefix order n l → Prefix order m l
prefix_later order n m l h f = (f.0, omega (arith, h, f.1), f.2)

-- the last level's start decides for all
pub none_last : (t : Lists) (assumed : List Lit) (s : ℕ) → Base t → LastStart t s → (((a : Lit) → In a assumed → Prefix t.order s a) → ⊥) → NoneAfter t assumed
none_last t assumed s base last none k p at all = none (λ a i. prefix_later t.order p s a (last_latest t s k p base last at) (all a i))

-- how decisions were chosen
pub chosen_shrunk : (old new : Lists) (assumed : List Lit) → Shrunk old new → Chosen old assumed → Chosen new assumed
chosen_shrunk old new assumed shrunk chosen i l at none =
    let d = shrunk.decisions i l at none in
    ⊎_elim
    inl
    (λ all. inr (λ a k. let f = all a k in (f.0, f.1, front_keeps old new shrunk f.0 a (omega (arith, f.1, slice_get_within new.order i l at)) f.2)))
    (chosen i l d.0 d.1)

pub chosen_grown : (old new : Lists) (assumed : List Lit) → ((i : ℕ) (l : Lit) → slice_get old.order i ≡ Some l → slice_get new.order i ≡ Some l) → NoNewDecision old new → Chosen old assumed → Chosen new assumed
chosen_grown old new assumed order decisions chosen i l at none =
    let d = decisions i l at none in
    ⊎_elim inl (λ all. inr (λ a k. let f = all a k in (f.0, f.1, order f.0 a f.2))) (chosen i l d.0 d.1)

pub chosen_asserted : (old new : Lists) (assumed lits : List Lit) (l : Lit) → Asserted old new lits l → Chosen old assumed → Chosen new assumed
chosen_asserted old new assumed lits l is =
    chosen_grown old new assumed (λ i x at. ap (λ o. slice_get o i) is.order ∙ push_old old.order l x i at) is.decisions

pub chosen_decided : (t : Lists) (assumed : List Lit) (l : Lit) → Base t → Chosen t assumed → slice_get t.values l.var ≡ Some None → In l assumed ⊎ ((a : Lit) → In a assumed → Prefix t.order (length t.order) a) → Chosen (assigned t l None) assumed
chosen_decided t assumed l base chosen free why i x at none =
    ⊎_elim
    (λ e. ⊎_elim
    (λ k. inl (subst (λ (y : Lit). In y assumed) e.1 k))
    (λ all. inr (λ a k. let f = all a k in (f.0, omega (arith, f.1, e.0), push_old t.order l a f.0 f.2)))
    why)
    (λ p. ⊎_elim
    inl
    (λ all. inr (λ a k. let f = all a k in (f.0, f.1, push_old t.order l a f.0 f.2)))
    (chosen i x p (sym (set_other t.reasons l.var x.var None (λ g. cc (sym free ∙ ap (slice_get t.values) g ∙ base.true_there i x p))) ∙ none)))
    (push_cases t.order l x i at)

-- some literal of the conflict became false at its level
pub settled_high : (old new : Lists) (lits : List Lit) (top level s : ℕ) → Backed old new level → length new.starts ≡ min level (length old.starts) → IsTop old.order (length old.order) lits top → top ≤ length new.order
    → ((k n : ℕ) → k < level → slice_get old.starts k ≡ Some n → n < top) → LastStart new s → (m : Lit) × In m lits × (p : ℕ) × (s ≤ p) × (slice_get new.order p ≡ Some (opposite m))
settled_high old new lits top level s backed count so long below last =
    let past : s < top = below last.0 s (omega (arith, count, last.2)) (backed.starts last.0 s last.1) in
    ⊎_elim
    (λ z. absurd (omega (arith, z, past)))
    (λ t. (t.0, t.2, t.1, omega (arith, t.4, past), front_keeps old new backed.shrunk t.1 (opposite t.0) (omega (arith, t.4, long)) t.3))
    so.highest

-- one literal of a list more
pub prefix_more : (lits order : List Lit) (place i : ℕ) (d : Lit) → i < length lits → ((k : ℕ) (m : Lit) → k < i → slice_get lits k ≡ Some m → Prefix order place m) → Prefix order place (get_or lits i d)
    → (k : ℕ) (m : Lit) → k < i + 1 → slice_get lits k ≡ Some m → Prefix order place m
prefix_more lits order place i d h before here k m below is =
    ⊎_elim
    (λ (e : k < i). before k m e is)
    (λ (e : i ≤ k).
    let same : k ≡ i = omega arith in
    let it : get_or lits i d ≡ m = same_Some (get_or lits i d) m (sym (slice_get-get_or lits i d h) ∙ ap (slice_get lits) (sym same) ∙ is) in
    subst (Prefix order place) it here)
    (cases_lt k i)

pub prefix_all : (lits order : List Lit) (place i : ℕ) → length lits ≤ i → ((k : ℕ) (m : Lit) → k < i → slice_get lits k ≡ Some m → Prefix order place m) → (m : Lit) → In m lits → Prefix order place m
prefix_all lits order place i h before m has =
    let g = get_from_in lits m has in before g.0 m (omega (arith, h, slice_get_within lits g.0 m g.1)) g.1

pub false_later : (order : List Lit) (s : ℕ) (m : Lit) → FalseBefore order s m → FalseBefore order (length order) m
false_later order s m f = (f.0, slice_get_within order f.0 (opposite m) f.2, f.2)

pub true_on_trail : (t : Lists) → Base t → (m : Lit) → True t.values m → Prefix t.order (length t.order) m
true_on_trail t base m h = let b = on_trail t m base h in (b.at, b.below, b.is)

-- a false assumption is true nowhere
pub none_false : (t : Lists) (assumed : List Lit) (a : Lit) → Base t → In a assumed → False t.values a → NoneAfter t assumed
none_false t assumed a base i h k s at all =
    let f = all a i in not_same a.positive (same_Some a.positive (not a.positive) (same_Some (Some a.positive) (Some (not a.positive)) (sym (base.true_there f.0 a f.2) ∙ h)))

pub false_one : (t : Lists) (a : Lit) → Base t → False t.values a → (m : Lit) → In m (a ∷ []) → FalseBefore t.order (length t.order) m
false_one t a base h m i = ⊎_elim (λ e. subst (λ (x : Lit). FalseBefore t.order (length t.order) x) e (false_on_trail t base a h)) (λ k. absurd k) i

pub refuting_of : (t : Lists) (assumed core : List Lit) (a : Lit) → Base t → In a assumed → False t.values a → IsCore (Listed t.clauses) t.order assumed (a ∷ []) core → Refuting t assumed (core ++ a ∷ [])
refuting_of t assumed core a base i h is = record {
  assumptions = λ l k. ⊎_elim (λ e. subst (λ (x : Lit). In x assumed) e i) (is.assumptions l) (in_push_cases core a l k);
  once = core_assumption_once (Listed t.clauses) t.order assumed core a is (core_without (Listed t.clauses) t.order assumed core t.places a base.found is (false_on_trail t base a h));
  refuted = λ s models all. core_assumption (Listed t.clauses) t.order assumed core a is s models all;
}
