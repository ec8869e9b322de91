-- Why a clause made shorter still follows.
use Rattle.std.proofs.Common.{ℕ, zero, suc, ◌<◌, ◌≤◌, ◌++◌, Bool, List, [], ◌∷◌, ◌≡◌, ◌∙◌, ◌⊎◌, inl, inr, ⊎_elim, refl, sym, ap, subst, Some, length, arith, replicate, not, take}
use Rattle.std.specs.Prelude.{slice_get, slice_set, slice_index_or}
use Rattle.std.proofs.lemmas.List.{length-replicate}
use Rattle.std.proofs.lemmas.Option.{same_Some, slice_get_within}
use Rattle.clause_logic.specs.declared.Lit.{Lit}
use Rattle.clause_logic.specs.Clauses.{opposite, In, Makes, Models, Follows, Listed as ClausesOf}
use Rattle.clause_logic.specs.Trails.{IsPlaced, FalseBefore, Learned}
use Rattle.clause_logic.proofs.Gets.{length_set, set_cases}
use Rattle.clause_logic.proofs.Lits.{opposite_twice, lit_cases}
use Rattle.clause_logic.proofs.Members.{in_push, in_last, in_push_cases, get_from_in}
use Rattle.clause_trail.specs.View.{Lists, Sound, Implied}
use Rattle.clause_trail.specs.declared.shortening.Finding.{Finding}
use Rattle.clause_trail.specs.declared.shortening.Finding.TheVariants as finding
use Rattle.clause_trail.specs.declared.shortening.Look.{Look}
use Rattle.clause_trail.specs.declared.shortening.Look.TheVariants as look
use Rattle.clause_trail.specs.Shortening.{IsImplied, given, unit, IsRedundant, AreFound, AllFalsified, HasFinding, LooksAlong, LooksAt, Shortens}
use Rattle.clause_trail.proofs.Counts.{read_there, fresh_same}
use Rattle.clause_trail.proofs.Resolving.{makes_both, holds_cases}

module _ (clauses : List Lit → Type 0) (order lits kept : List Lit) (places : List ℕ) (placed : IsPlaced order places) (shortens : Shortens clauses order lits kept) (s : ℕ → Bool) (models : Models s clauses) (all : (m : Lit) → In m kept → Makes s (opposite m)) where
  -- a clause that is true leaves one literal where the others are false
  by_reason : (q : ℕ) (m : Lit) (place : ℕ) (reason : List Lit) → slice_get order q ≡ Some (opposite m) → slice_get order place ≡ Some (opposite m) → clauses reason
      → ((x : Lit) → In x reason → (x ≡ opposite m → ⊥) → FalseBefore order place x) → ((x : Lit) (r : ℕ) → r < q → In x reason → (x ≡ opposite m → ⊥) → slice_get order r ≡ Some (opposite x) → Makes s (opposite x))
      → Makes s (opposite m)
  by_reason q m place reason at there among before others =
      let t = models reason among in
      let same : place ≡ q = same_Some place q (sym (placed place (opposite m) there) ∙ placed q (opposite m) at) in
      ⊎_elim
      (λ e. subst (Makes s) e t.2)
      (λ n. let f = before t.0 t.1 n in absurd (makes_both s t.0 t.2 (others t.0 f.0 (omega (arith, same, f.1)) t.1 n f.2)))
      (lit_cases t.0 (opposite m))

  -- a model that makes the literals kept false does so with what is implied
  left_false : (n q : ℕ) → q < n → (m : Lit) → IsImplied clauses order lits m → slice_get order q ≡ Some (opposite m) → Makes s (opposite m)
  left_false zero q h m i at = absurd (omega (arith, h))
  left_false (suc n) q h w (given m i) at =
      ⊎_elim
      (λ k. all m k)
      (λ r. by_reason q m r.place r.reason at r.there r.among r.before (λ x p small inside apart is. left_false n p (omega (arith, h, small)) x (r.others x inside apart) is))
      (shortens.each m i)
  left_false (suc n) q h w (unit m place reason there among before others) at =
      by_reason q m place reason at there among before (λ x p small inside apart is. left_false n p (omega (arith, h, small)) x (others x inside apart) is)

module _ (clauses : List Lit → Type 0) (order lits kept : List Lit) (places : List ℕ) (placed : IsPlaced order places) (shortens : Shortens clauses order lits kept) where
  pub shorter_follows : (l : Lit) → ((m : Lit) → In m lits → FalseBefore order (length order) m) → Follows clauses (lits ++ l ∷ []) → Follows clauses (kept ++ l ∷ [])
  shorter_follows l false_there follows s models =
      ⊎_elim
      (λ h. h)
      (λ all. absurd (
      let t = follows s models in
      ⊎_elim
      (λ e. makes_both s t.0 t.2 (subst (λ (x : Lit). Makes s (opposite x)) e (all l (in_last kept l))))
      (λ i. let f = false_there t.0 i in makes_both s t.0 t.2 (left_false clauses order lits kept places placed shortens s models (λ m k. all m (in_push kept l m k)) (length order) f.0 f.1 t.0 (given t.0 i) f.2))
      (in_push_cases lits l t.0 t.1)))
      (holds_cases s (kept ++ l ∷ []))

-- more clauses serve as well
implied_more : (less more : List Lit → Type 0) (order lits : List Lit) → ((d : List Lit) → less d → more d) → (m : Lit) → IsImplied less order lits m → IsImplied more order lits m
implied_more less more order lits sub w (given m i) = given m i
implied_more less more order lits sub w (unit m place reason there among before others) =
    unit m place reason there (sub reason among) before (λ x i n. implied_more less more order lits sub x (others x i n))

pub shortens_more : (less more : List Lit → Type 0) (order lits kept : List Lit) → ((d : List Lit) → less d → more d) → Shortens less order lits kept → Shortens more order lits kept
shortens_more less more order lits kept sub is = record {
  among = is.among;
  each = λ m i.
      ⊎_elim
      inl
      (λ r. inr (record {
        place = r.place;
        there = r.there;
        reason = r.reason;
        among = sub r.reason r.among;
        before = r.before;
        others = λ x k n. implied_more less more order lits sub x (r.others x k n);
      }))
      (is.each m i);
}

-- the clause of analysis, made shorter
pub shorter_learned : (clauses : List Lit → Type 0) (order : List Lit) (places : List ℕ) (start : ℕ) (c lower kept : List Lit) (l : Lit) → IsPlaced order places → (learned : Learned clauses order start c) → lower ≡ learned.0 → l ≡ learned.1
    → ((m : Lit) → In m lower → FalseBefore order (length order) m) → Shortens clauses order lower kept → Learned clauses order start (kept ++ l ∷ [])
shorter_learned clauses order places start c lower kept l placed learned same_lower same_last false_there shortens = (
  kept,
  l,
  refl,
  shorter_follows clauses order lower kept places placed shortens l false_there
      (subst (Follows clauses) (learned.2 ∙ ap (λ (xs : List Lit). xs ++ learned.1 ∷ []) (sym same_lower) ∙ ap (λ (x : Lit). lower ++ x ∷ []) (sym same_last)) learned.3),
  (λ m i. learned.4 m (subst (In m) same_lower (shortens.among m i))),
  (learned.5.0, learned.5.1, learned.5.2 ∙ ap (λ (x : Lit). Some (opposite x)) (sym same_last)),
)

-- where a literal that is false stands, as the code reads the place
pub found_at : (order : List Lit) (places : List ℕ) (var : ℕ) (m : Lit) → IsPlaced order places → (m.var ≡ var) ⊎ FalseBefore order (length order) m → (m.var ≡ var → ⊥)
    → (p : ℕ) × (p < length order) × (slice_get places m.var ≡ Some p) × (slice_get order p ≡ Some (opposite m))
found_at order places var m placed which apart = ⊎_elim (λ e. absurd (apart e)) (λ f. (f.0, f.1, placed f.0 (opposite m) f.2, f.2)) which

pub read_found : (order : List Lit) (places : List ℕ) (var : ℕ) (m : Lit) → IsPlaced order places → (m.var ≡ var) ⊎ FalseBefore order (length order) m → (m.var ≡ var → ⊥) → (place : ℕ) → place ≡ slice_index_or places m.var place
    → (place < length order) × (slice_get places m.var ≡ Some place)
read_found order places var m placed which apart place read =
    let f = found_at order places var m placed which apart in
    let there : slice_get places m.var ≡ Some place = read_there places m.var place (slice_get_within places m.var f.0 f.2) read in
    let e : f.0 ≡ place = same_Some f.0 place (sym f.2 ∙ there) in
    (omega (arith, e, f.1), there)

-- nothing found
pub found_none : (clauses : List Lit → Type 0) (order lits : List Lit) (findings : List Finding) (n : ℕ) → findings ≡ replicate n finding.Unknown → n ≡ length order → AreFound clauses order lits findings
found_none clauses order lits findings n is e = record {
  count = ap length is ∙ length-replicate n finding.Unknown ∙ e;
  implied = λ p l h. absurd (cc (fresh_same finding.Unknown finding.Implied n p (ap (λ (fs : List Finding). slice_get fs p) (sym is) ∙ h)));
}

-- one finding more
pub found_more : (clauses : List Lit → Type 0) (order lits : List Lit) (m : Lit) (old new : List Finding) (place : ℕ) (f : Finding) → AreFound clauses order lits old → new ≡ slice_set old place f → slice_get order place ≡ Some (opposite m) → (f ≡ finding.Implied → IsImplied clauses order lits m)
    → AreFound clauses order lits new
found_more clauses order lits m old new place f so is at implied = record {
  count = ap length is ∙ length_set old place f ∙ so.count;
  implied = λ p l h k.
      ⊎_elim
      (λ e. subst (IsImplied clauses order lits) (sym (opposite_twice m) ∙ ap opposite (same_Some (opposite m) l (sym at ∙ ap (slice_get order) e.0 ∙ k))) (implied e.1))
      (λ d. so.implied p l d.1 k)
      (set_cases old place p f finding.Implied (ap (λ (fs : List Finding). slice_get fs p) (sym is) ∙ h));
}

-- what is known of a literal that is false
module _ (t : Lists) (m : Lit) (sound : Sound t) (is_false : FalseBefore t.order (length t.order) m) where
  pub false_known : m.var < length t.reasons
  false_known = omega (arith, sound.base.reasons, slice_get_within t.values m.var (Some (not m.positive)) (sound.base.true_there is_false.0 (opposite m) is_false.2))

  module _ (reason : ℕ) (read : Some reason ≡ slice_index_or t.reasons m.var (Some reason)) where
    pub false_reason : Implied t.clauses t.order is_false.0 (opposite m) reason
    false_reason = sound.base.implied is_false.0 (opposite m) reason is_false.2 (read_there t.reasons m.var (Some reason) false_known read)

    module _ (lits : List Lit) (at : slice_get t.clauses reason ≡ Some lits) where
      others : (x : Lit) → In x lits → (x ≡ opposite m) ⊎ FalseBefore t.order is_false.0 x
      others x i =
          let same : lits ≡ false_reason.lits = same_Some lits false_reason.lits (sym at ∙ false_reason.is) in
          let g = get_from_in false_reason.lits x (subst (In x) same i) in
          ⊎_elim inl (λ n. inr (let b = false_reason.others x (record { at = g.0; is = g.1 }) n in (b.at, b.below, b.is))) (lit_cases x (opposite m))

      pub false_others : (x : Lit) → In x lits → (x.var ≡ m.var) ⊎ FalseBefore t.order (length t.order) x
      false_others x i = ⊎_elim (λ e. inl (ap (λ (l : Lit). l.var) e)) (λ f. inr (f.0, slice_get_within t.order f.0 (opposite x) f.2, f.2)) (others x i)

      others_before : (x : Lit) → In x lits → (x ≡ opposite m → ⊥) → FalseBefore t.order is_false.0 x
      others_before x i n = ⊎_elim (λ e. absurd (n e)) (λ f. f) (others x i)

      -- where its reason's other literals are implied, it is redundant
      pub redundant : (all : List Lit) (findings : List Finding) → AreFound (ClausesOf t.clauses) t.order all findings → ((x : Lit) → In x lits → (x.var ≡ m.var) ⊎ HasFinding t.places findings x) → IsRedundant (ClausesOf t.clauses) t.order all m
      redundant all findings so found = record {
        place = is_false.0;
        there = is_false.2;
        reason = lits;
        among = (reason, at);
        before = others_before;
        others = λ x i n.
            let f = others_before x i n in
            ⊎_elim
            (λ e. absurd (omega (arith, sound.base.once f.0 is_false.0 (opposite x) (opposite m) f.2 is_false.2 e, f.1)))
            (λ k.
            let e : f.0 ≡ k.0 = same_Some f.0 k.0 (sym (sound.base.found f.0 (opposite x) f.2) ∙ k.1) in
            subst (IsImplied (ClausesOf t.clauses) t.order all) (opposite_twice x) (so.implied k.0 (opposite x) k.2 (ap (slice_get t.order) (sym e) ∙ f.2)))
            (found x i);
      }

      -- what a look along its reason says of it
      pub looked : (all : List Lit) (findings : List Finding) → AreFound (ClausesOf t.clauses) t.order all findings → (l : Look) → LooksAlong t.places findings m.var lits l → LooksAt (ClausesOf t.clauses) t.order all m l
      looked all findings so (look.Settled finding.Implied) h = redundant all findings so h
      looked all findings so (look.Settled finding.Independent) h = tt
      looked all findings so (look.Settled finding.Unknown) h = tt
      looked all findings so (look.After x) h = ⊎_elim (λ e. absurd (h.1 e)) (λ f. f) (false_others x h.0)

      pub known_others : (x : Lit) → In x lits → x.var < length t.reasons
      known_others x i = let g = get_from_in lits x i in omega (arith, sound.base.known reason lits x at (record { at = g.0; is = g.1 }), sound.base.reasons)

-- a literal that is settled as implied is so
pub settled : (clauses : List Lit → Type 0) (order lits : List Lit) (m : Lit) (f : Finding) → LooksAt clauses order lits m (look.Settled f) → f ≡ finding.Implied → IsImplied clauses order lits m
settled clauses order lits m finding.Implied h e = unit m h.place h.reason h.there h.among h.before h.others
settled clauses order lits m finding.Independent h e = absurd (cc e)
settled clauses order lits m finding.Unknown h e = absurd (cc e)

-- literals that wait, with one more and with one less
pub waits_more : (order xs ys : List Lit) (x : Lit) → AllFalsified order xs → FalseBefore order (length order) x → ys ≡ xs ++ x ∷ [] → AllFalsified order ys
waits_more order xs ys x all is e m i = ⊎_elim (λ s. subst (FalseBefore order (length order)) s is) (λ k. all m k) (in_push_cases xs x m (subst (In m) e i))

in_front : (xs ys : List Lit) (m : Lit) → In m xs → In m (xs ++ ys)
in_front [] ys m h = absurd h
in_front (x ∷ xs) ys m h = ⊎_elim inl (λ k. inr (in_front xs ys m k)) h

pub waits_less : (order xs ys zs : List Lit) → AllFalsified order xs → xs ≡ ys ++ zs → AllFalsified order ys
waits_less order xs ys zs all e m i = all m (subst (In m) (sym e) (in_front ys zs m i))

-- one literal more looked at
module _ (clauses : List Lit → Type 0) (order lits seen kept : List Lit) (x : Lit) (among : (m : Lit) → In m kept → In m lits) (each : (m : Lit) → In m seen → In m kept ⊎ IsRedundant clauses order lits m) where
  pub left_more : IsRedundant clauses order lits x → (m : Lit) → In m (seen ++ x ∷ []) → In m kept ⊎ IsRedundant clauses order lits m
  left_more is m i = ⊎_elim (λ e. inr (subst (IsRedundant clauses order lits) e is)) (λ k. each m k) (in_push_cases seen x m i)

  pub kept_more : (new : List Lit) → new ≡ kept ++ x ∷ [] → (m : Lit) → In m (seen ++ x ∷ []) → In m new ⊎ IsRedundant clauses order lits m
  kept_more new is m i = rw is
      (⊎_elim
      (λ e. inl (subst (λ (y : Lit). In y (kept ++ x ∷ [])) e (in_last kept x)))
      (λ k. ⊎_elim (λ h. inl (in_push kept x m h)) inr (each m k))
      (in_push_cases seen x m i))

  pub kept_among : (new : List Lit) → new ≡ kept ++ x ∷ [] → In x lits → (m : Lit) → In m new → In m lits
  kept_among new is there m i = ⊎_elim (λ e. subst (λ (y : Lit). In y lits) e there) (λ k. among m k) (in_push_cases kept x m (subst (In m) is i))
