-- The clause of analysis is new, and levels below it stay complete.
use Rattle.std.proofs.Common.{ℕ, ◌≤◌, List, ◌≡◌, ◌∙◌, inl, ⊎_elim, refl, sym, ap, subst, Some, length, arith}
use Rattle.std.specs.Prelude.{slice_get}
use Rattle.std.proofs.lemmas.Option.{same_Some, slice_get_within}
use Rattle.clause_logic.specs.declared.Lit.{Lit}
use Rattle.clause_logic.specs.Clauses.{opposite, In, New, Both, Units, Complete}
use Rattle.clause_logic.specs.Trails.{IsPlaced, Learned, Prefix}
use Rattle.clause_logic.proofs.Lits.{opposite_other}
use Rattle.clause_logic.proofs.Members.{in_push, in_last, in_push_cases}
use Rattle.clause_logic.proofs.Newness.{new_clause}
use Rattle.clause_logic.proofs.Records.{plain_false, complete_more}

module _ (order : List Lit) (places : List ℕ) (placed : IsPlaced order places) where
  -- two literals of one variable stand at one place
  one_place : (p q : ℕ) (a b : Lit) → slice_get order p ≡ Some a → slice_get order q ≡ Some b → a.var ≡ b.var → p ≡ q
  one_place p q a b h k e = same_Some p q (sym (placed p a h) ∙ ap (slice_get places) e ∙ placed q b k)

  pub consistent : (n : ℕ) (l : Lit) → Prefix order n l → Prefix order n (opposite l) → ⊥
  consistent n l (p, _, h) (q, _, k) =
      opposite_other l (sym (same_Some l (opposite l) (sym h ∙ ap (slice_get order) (one_place p q l (opposite l) h k refl) ∙ k)))

  module _ (derives : List Lit → Type 0) (start : ℕ) (c : List Lit) (learned : Learned derives order start c) where
    high : (p : ℕ) × (start ≤ p) × (slice_get order p ≡ Some (opposite learned.1))
    high = learned.5

    low_false : (m : Lit) → In m c → (m ≡ learned.1 → ⊥) → Prefix order start (opposite m)
    low_false m h n =
        ⊎_elim (λ e. absurd (n (sym e))) (λ k. learned.4 m k) (in_push_cases learned.0 learned.1 m (subst (In m) learned.2 h))

    last_in : In learned.1 c
    last_in = subst (In learned.1) (sym learned.2) (in_last learned.0 learned.1)

    -- the literal of the conflict's level is open below it
    open_true : (n : ℕ) → n ≤ start → Prefix order n learned.1 → ⊥
    open_true n h (q, small, at) =
        let e : q ≡ high.0 = one_place q high.0 learned.1 (opposite learned.1) at high.2 refl in omega (arith, e, h, small, high.1)

    open_false : (n : ℕ) → n ≤ start → Prefix order n (opposite learned.1) → ⊥
    open_false n h (q, small, at) =
        let e : q ≡ high.0 = one_place q high.0 (opposite learned.1) (opposite learned.1) at high.2 refl in omega (arith, e, h, small, high.1)

    -- where propagation was complete before the conflict's level began, the clause is new
    pub learned_new : (clauses : List Lit → Type 0) → Complete (Prefix order start) clauses → New clauses c
    learned_new clauses complete =
        new_clause clauses (Prefix order start) (consistent start) complete c learned.1 last_in low_false (open_true start (omega arith)) (open_false start (omega arith))

    pub all_false : (m : Lit) → In m c → Prefix order (length order) (opposite m)
    all_false m h =
        ⊎_elim
        (λ e. (high.0, slice_get_within order high.0 (opposite learned.1) high.2, high.2 ∙ ap (λ (l : Lit). Some (opposite l)) e))
        (λ k. let f = learned.4 m k in (f.0, slice_get_within order f.0 (opposite m) f.2, f.2))
        (in_push_cases learned.0 learned.1 m (subst (In m) learned.2 h))

    -- and has no literal with its opposite
    pub learned_plain : (l : Lit) → In l c → In (opposite l) c → ⊥
    learned_plain = plain_false (Prefix order (length order)) (consistent (length order)) c all_false

    -- a prefix that does not reach some lower literal stays complete
    pub learned_keeps : (clauses : List Lit → Type 0) (n : ℕ) (m : Lit) (q : ℕ) → Complete (Prefix order n) clauses → In m learned.0 → slice_get order q ≡ Some (opposite m) → n ≤ q → n ≤ start
        → Complete (Prefix order n) (Both clauses (λ d. d ≡ c))
    learned_keeps clauses n m q complete i at late early =
        complete_more (Prefix order n) clauses c m learned.1 complete (subst (In m) (sym learned.2) (in_push learned.0 learned.1 m i)) last_in
        (λ e. let f = learned.4 m i in
        let g : f.0 ≡ high.0 = one_place f.0 high.0 (opposite m) (opposite learned.1) f.2 high.2 (ap (λ (l : Lit). l.var) e) in omega (arith, g, f.1, high.1))
        (λ (r, small, there). let g : r ≡ q = one_place r q (opposite m) (opposite m) there at refl in omega (arith, g, small, late))
        (open_false n early)

-- assumptions that are all true
pub complete_units : (P : Lit → Type 0) (assumed : List Lit) → ((a : Lit) → In a assumed → P a) → Complete P (Units assumed)
complete_units P assumed all c (a, i, e) = inl (a, subst (In a) (sym e) (inl refl), all a i)

pub complete_both : (P : Lit → Type 0) (a b : List Lit → Type 0) → Complete P a → Complete P b → Complete P (Both a b)
complete_both P a b h k c there = ⊎_elim (h c) (k c) there
