-- One turn: the record with the clause of analysis, and how long a record can be.
use Rattle.std.proofs.Common.{ℕ, ◌<◌, ◌≤◌, ◌^◌, ◌++◌, List, [], ◌∷◌, ◌≡◌, inl, inr, ⊎_elim, sym, subst, Some, length}
use Rattle.std.specs.Prelude.{slice_get}
use Rattle.std.proofs.lemmas.Option.{slice_get_within}
use Rattle.clause_logic.specs.declared.Lit.{Lit}
use Rattle.clause_logic.specs.Clauses.{opposite, In, New, Follows, Both, Units, Listed, Known, IsDerived, IsRecord, Reached, Complete}
use Rattle.clause_logic.specs.Trails.{IsPlaced, Learned, Prefix}
use Rattle.clause_logic.proofs.Newness.{new_fewer, new_differs, reached_in}
use Rattle.clause_logic.proofs.Records.{record_push, derived_push}
use Rattle.clause_logic.proofs.Learning.{consistent, learned_new, learned_plain, all_false, complete_units, complete_both}
use Rattle.clause_logic.proofs.Bound.{few_clauses}

-- what follows from clauses that follow
pub follows_from : (weak strong : List Lit → Type 0) (c : List Lit) → ((d : List Lit) → weak d → Follows strong d) → Follows weak c → Follows strong c
follows_from weak strong c each follows s models = follows s (λ d there. each d there s models)

module _ (added stands : List Lit → Type 0) (assumed : List Lit) (cs clauses : List (List Lit)) (order : List Lit) (places : List ℕ) (placed : IsPlaced order places) (s : ℕ) (complete : Complete (Prefix order s) (Listed clauses))
    (assumed_there : (a : Lit) → In a assumed → Prefix order s a) where
  complete_all : Complete (Prefix order s) (Both (Listed clauses) (Units assumed))
  complete_all = complete_both (Prefix order s) (Listed clauses) (Units assumed) complete (complete_units (Prefix order s) assumed assumed_there)

  module _ (lawful : (d : List Lit) → Listed clauses d → Follows (Both added stands) d) (conflict c : List Lit) (conflict_follows : Follows (Both added stands) conflict) (learned : Learned (Both (Listed clauses) (λ d. d ≡ conflict)) order s c) where
    plain : (l : Lit) → In l c → In (opposite l) c → ⊥
    plain = learned_plain order places placed (Both (Listed clauses) (λ d. d ≡ conflict)) s c learned

    follows_here : Follows (Both added stands) c
    follows_here =
        follows_from (Both (Listed clauses) (λ d. d ≡ conflict)) (Both added stands) c
        (λ d there. ⊎_elim (λ l. lawful d l) (λ e. subst (Follows (Both added stands)) (sym e) conflict_follows) there)
        learned.3

    new_here : New (Both (Listed clauses) (Units assumed)) c
    new_here = learned_new order places placed (Both (Listed clauses) (λ d. d ≡ conflict)) s c learned (Both (Listed clauses) (Units assumed)) complete_all

    -- a conflict at a level above the assumptions gives a clause more
    pub turn_derived : ((d : List Lit) → Listed cs d → Listed clauses d) → IsDerived added stands cs → IsDerived added stands (cs ++ c ∷ [])
    turn_derived kept before =
        derived_push added stands cs c before plain follows_here (λ i d at. new_differs (Both (Listed clauses) (Units assumed)) c d new_here (inl (kept d (i, at))))

    -- and a record that is longer by one
    pub turn_record : ((d : List Lit) → Both added (Listed cs) d → Listed clauses d) → IsRecord added stands assumed cs → IsRecord added stands assumed (cs ++ c ∷ [])
    turn_record kept record_before =
        record_push added stands assumed cs c record_before plain follows_here
        (new_fewer (Known added assumed cs) (Both (Listed clauses) (Units assumed)) c
        (λ d there. ⊎_elim (λ b. ⊎_elim (λ a. inl (kept d (inl a))) (λ u. inr u) b) (λ l. inl (kept d (inr l))) there)
        new_here)

  -- what unit propagation makes true from the clauses and the assumptions stands before place s
  pub reached_below : (l : Lit) → Reached (Both (Listed clauses) (Units assumed)) (λ m. ⊥) l → Prefix order s l
  reached_below =
      reached_in (Both (Listed clauses) (Units assumed)) (Prefix order s) (consistent order places placed s) complete_all (λ m. ⊥) (λ m h. absurd h)

-- literals of the clause have variables
pub learned_below : (order : List Lit) (places : List ℕ) (placed : IsPlaced order places) (derives : List Lit → Type 0) (start : ℕ) (c : List Lit) → Learned derives order start c → (m : Lit) → In m c → m.var < length places
learned_below order places placed derives start c learned m i =
    let f = all_false order places placed derives start c learned m i in slice_get_within places m.var f.0 (placed f.0 (opposite m) f.2)

-- clauses that were derived over n variables are no more than 3 ^ n
pub derived_short : (added stands : List Lit → Type 0) (cs : List (List Lit)) (n : ℕ) → IsDerived added stands cs → ((i : ℕ) (c : List Lit) (l : Lit) → slice_get cs i ≡ Some c → In l c → l.var < n) → length cs ≤ 3 ^ n
derived_short added stands cs n r below = few_clauses n cs (record { below = below; plain = r.plain; different = r.different })
