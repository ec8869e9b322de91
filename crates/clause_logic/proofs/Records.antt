-- A record of learned clauses with one more, and levels that stay complete.
use Rattle.std.proofs.Common.{ℕ, ◌≤◌, ◌++◌, List, [], ◌∷◌, ◌≡◌, ◌∙◌, inl, inr, ⊎_elim, refl, sym, ap, subst, length, take, arith, Some}
use Rattle.std.specs.Prelude.{slice_get}
use Rattle.std.proofs.lemmas.List.{take_at, take-append-le}
use Rattle.std.proofs.lemmas.Option.{slice_get_within}
use Rattle.clause_logic.specs.declared.Lit.{Lit}
use Rattle.clause_logic.specs.Clauses.{opposite, In, New, Same, Quiet, Both, Known, Complete, Follows, IsDerived, IsRecord}
use Rattle.clause_logic.proofs.Lits.{opposite_twice}
use Rattle.clause_logic.proofs.Gets.{push_cases}
use Rattle.clause_logic.proofs.Newness.{new_differs}

-- a clause that is false under consistent truths has no literal with its opposite
pub plain_false : (P : Lit → Type 0) → ((l : Lit) → P l → P (opposite l) → ⊥) → (c : List Lit) → ((m : Lit) → In m c → P (opposite m)) → (l : Lit) → In l c → In (opposite l) c → ⊥
plain_false P consistent c false_there l i j =
    consistent l (subst P (opposite_twice l) (false_there (opposite l) j)) (false_there l i)

module _ (added stands : List Lit → Type 0) where
  pub derived_none : IsDerived added stands []
  derived_none = record { plain = λ i c l h. absurd (cc h); different = λ i j c d r h. absurd (cc h); follows = λ i c h. absurd (cc h) }

  pub derived_push : (cs : List (List Lit)) (c : List Lit) → IsDerived added stands cs → ((l : Lit) → In l c → In (opposite l) c → ⊥) → Follows (Both added stands) c → ((i : ℕ) (d : List Lit) → slice_get cs i ≡ Some d → Same d c → ⊥)
      → IsDerived added stands (cs ++ c ∷ [])
  derived_push cs c old plain_here follows_here apart = record {
    plain = λ i d l h k m. ⊎_elim (λ e. plain_here l (subst (λ (x : List Lit). In l x) (sym e.1) k) (subst (λ (x : List Lit). In (opposite l) x) (sym e.1) m)) (λ g. old.plain i d l g k m) (push_cases cs c d i h);
    different = λ i j d f r h k same.
        ⊎_elim
        (λ e. ⊎_elim
        (λ g. omega (arith, e.0, g.0, r))
        (λ g. apart i d g (subst (λ (x : List Lit). Same d x) (sym e.1) same))
        (push_cases cs c d i h))
        (λ g. ⊎_elim
        (λ e. absurd (omega (arith, e.0, r, slice_get_within cs j f g)))
        (λ e. old.different i j d f r e g same)
        (push_cases cs c d i h))
        (push_cases cs c f j k);
    follows = λ i d h. ⊎_elim (λ e. subst (Follows (Both added stands)) e.1 follows_here) (λ k. old.follows i d k) (push_cases cs c d i h);
  }

module _ (added stands : List Lit → Type 0) (assumed : List Lit) where
  pub record_derived : (cs : List (List Lit)) → IsRecord added stands assumed cs → IsDerived added stands cs
  record_derived cs r = record { plain = r.plain; different = r.different; follows = r.follows }

  pub record_none : IsRecord added stands assumed []
  record_none = record {
    nonempty = λ i h. absurd (cc h);
    plain = λ i c l h. absurd (cc h);
    different = λ i j c d r h. absurd (cc h);
    follows = λ i c h. absurd (cc h);
    new = λ i c h. absurd (cc h);
  }

  pub record_push : (cs : List (List Lit)) (c : List Lit) → IsRecord added stands assumed cs → ((l : Lit) → In l c → In (opposite l) c → ⊥) → Follows (Both added stands) c → New (Known added assumed cs) c
      → IsRecord added stands assumed (cs ++ c ∷ [])
  record_push cs c old plain_here follows_here new_here = record {
    nonempty = λ i h. ⊎_elim (λ e. subst (λ (x : List Lit). In new_here.0 x) e.1 new_here.1) (λ k. old.nonempty i k) (push_cases cs c [] i h);
    plain = longer.plain;
    different = longer.different;
    follows = longer.follows;
    new = λ i d h.
        ⊎_elim
        (λ e. rw (ap (λ (n : ℕ). take n (cs ++ c ∷ [])) e.0 ∙ take_at cs (c ∷ []) (length cs) refl) (subst (New (Known added assumed cs)) e.1 new_here))
        (λ k. let short : i ≤ length cs = omega (arith, slice_get_within cs i d k) in rw (take-append-le i cs (c ∷ []) short) (old.new i d k))
        (push_cases cs c d i h);
  }
    where
      longer : IsDerived added stands (cs ++ c ∷ [])
      longer = derived_push added stands cs c (record_derived cs old) plain_here follows_here (λ i d h. new_differs (Known added assumed cs) c d new_here (inr (i, h)))

-- a complete prefix stays so where two literals of the learned clause are open
pub complete_more : (P : Lit → Type 0) (clauses : List Lit → Type 0) (c : List Lit) (a b : Lit) → Complete P clauses → In a c → In b c → (a ≡ b → ⊥) → (P (opposite a) → ⊥) → (P (opposite b) → ⊥)
    → Complete P (Both clauses (λ (d : List Lit). d ≡ c))
complete_more P clauses c a b complete i j n open_a open_b d there =
    ⊎_elim (λ k. complete d k) (λ e. inr (a, b, subst (In a) (sym e) i, subst (In b) (sym e) j, n, open_a, open_b)) there

-- a clause that is stored without its doubles serves for the one that was given
pub quiet_given : (P : Lit → Type 0) (c d : List Lit) → Same c d → Quiet P c → Quiet P d
quiet_given P c d same q =
    ⊎_elim
    (λ t. inl (t.0, (same t.0).0 t.1, t.2))
    (λ t. inr (t.0, t.1, (same t.0).0 t.2, (same t.1).0 t.3, t.4, t.5, t.6))
    q
