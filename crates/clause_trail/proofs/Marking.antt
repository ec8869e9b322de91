-- One literal marked.
use Rattle.std.proofs.Common.{ℕ, ◌<◌, ◌≤◌, ◌+◌, ◌++◌, true, false, List, [], ◌∷◌, ◌≡◌, ◌∙◌, ◌⊎◌, inl, inr, ⊎_elim, sym, ap, subst, Some, length, arith}
use Rattle.std.specs.Prelude.{slice_get, slice_set, slice_index_or}
use Rattle.std.proofs.lemmas.Option.{same_Some, slice_get_within}
use Rattle.clause_logic.specs.declared.Lit.{Lit}
use Rattle.clause_logic.specs.Clauses.{opposite, In}
use Rattle.clause_logic.specs.Trails.{FalseBefore, IsPlaced}
use Rattle.clause_trail.specs.Analysis.{MarkLists, Marked, MarksOne, IsMarked, Grows, Covers}
use Rattle.clause_logic.proofs.Gets.{set_other, set_here, length_set, set_cases}
use Rattle.std.proofs.lemmas.Bool.{cases_eq}
use Rattle.clause_logic.proofs.Lits.{opposite_twice}
use Rattle.clause_logic.proofs.Members.{in_push, in_last, in_push_cases}
use Rattle.clause_trail.proofs.Counts.{trues_set_true, read_there}

pub record Outcome (order : List Lit) (start bound : ℕ) (lit : Lit) (old new : MarkLists) : Type 0 where
  pub marked : Marked order start bound new
  pub grows : Grows old new
  pub has : IsMarked order new lit

module _ (order : List Lit) (start bound place : ℕ) (lit : Lit) (old : MarkLists) (there : slice_get order place ≡ Some (opposite lit)) (small : place < bound) (sound : Marked order start bound old) where
  nothing_new : Grows old old
  nothing_new = record { waiting = λ p h. h; lower = λ l h. h }

  here_before : slice_get old.waiting place ≡ Some true → Outcome order start bound lit old old
  here_before h = record { marked = sound; grows = nothing_new; has = inr (place, there, h) }

  here_added : start ≤ place → slice_get old.waiting place ≡ Some false → Outcome order start bound lit old (record old { waiting = slice_set old.waiting place true; count = old.count + 1 })
  here_added up h = record {
    marked = record {
      waiting_length = length_set old.waiting place true ∙ sound.waiting_length;
      kept_length = sound.kept_length;
      counted = omega (arith, sound.counted, trues_set_true old.waiting place h);
      within = λ p k. ⊎_elim (λ e. (omega (arith, e.0, up), omega (arith, e.0, small))) (λ d. sound.within p d.1) (set_cases old.waiting place p true true k);
      lower_false = sound.lower_false;
      kept_there = sound.kept_there;
    };
    grows = record {
      waiting = λ p k. ⊎_elim
          (λ e. ap (slice_get (slice_set old.waiting place true)) (sym e) ∙ set_here old.waiting place false true h)
          (λ n. set_other old.waiting place p true n ∙ k)
          (cases_eq place p);
      lower = λ l k. k;
    };
    has = inr (place, there, set_here old.waiting place false true h);
  }

  lower_before : slice_get old.kept place ≡ Some true → Outcome order start bound lit old old
  lower_before h = record {
    marked = sound;
    grows = nothing_new;
    has = inl (subst (λ (l : Lit). In l old.lower) (opposite_twice lit) (sound.kept_there place (opposite lit) h there));
  }

  lower_added : place < start → slice_get old.kept place ≡ Some false → Outcome order start bound lit old (record old { kept = slice_set old.kept place true; lower = old.lower ++ lit ∷ [] })
  lower_added down h = record {
    marked = record {
      waiting_length = sound.waiting_length;
      kept_length = length_set old.kept place true ∙ sound.kept_length;
      counted = sound.counted;
      within = sound.within;
      lower_false = λ l k. ⊎_elim (λ e. (place, down, subst (λ (x : Lit). slice_get order place ≡ Some (opposite x)) e there)) (λ g. sound.lower_false l g) (in_push_cases old.lower lit l k);
      kept_there = λ p l k m.
          ⊎_elim
          (λ e. subst (λ (x : Lit). In x (old.lower ++ lit ∷ []))
          (sym (opposite_twice lit) ∙ ap opposite (same_Some (opposite lit) l (sym there ∙ ap (slice_get order) e.0 ∙ m)))
          (in_last old.lower lit))
          (λ d. in_push old.lower lit (opposite l) (sound.kept_there p l d.1 m))
          (set_cases old.kept place p true true k);
    };
    grows = record { waiting = λ p k. k; lower = λ l k. in_push old.lower lit l k };
    has = inl (in_last old.lower lit);
  }

  pub outcome : (new : MarkLists) → MarksOne start place lit old new → Outcome order start bound lit old new
  outcome new steps =
      ⊎_elim
      (λ a. subst (Outcome order start bound lit old) (sym a.2) (here_before a.1))
      (λ r. ⊎_elim
      (λ a. subst (Outcome order start bound lit old) (sym a.2) (here_added a.0 a.1))
      (λ t. ⊎_elim
      (λ a. subst (Outcome order start bound lit old) (sym a.2) (lower_before a.1))
      (λ a. subst (Outcome order start bound lit old) (sym a.2) (lower_added a.0 a.1))
      t)
      r)
      steps

-- where a literal of a clause stands
pub known_place : (order : List Lit) (places : List ℕ) (bound place : ℕ) (m : Lit) → IsPlaced order places → (slice_get places m.var ≡ Some bound) ⊎ FalseBefore order bound m → slice_get places m.var ≡ Some place → (place ≡ bound → ⊥)
    → (place < bound) × (slice_get order place ≡ Some (opposite m))
known_place order places bound place m placed which read apart =
    ⊎_elim
    (λ e. absurd (apart (same_Some place bound (sym read ∙ e))))
    (λ (q, small, there). let e : q ≡ place = same_Some q place (sym (placed q (opposite m) there) ∙ read) in (omega (arith, e, small), ap (slice_get order) (sym e) ∙ there))
    which

pub known_var : (order : List Lit) (places : List ℕ) (bound : ℕ) (m : Lit) → IsPlaced order places → (slice_get places m.var ≡ Some bound) ⊎ FalseBefore order bound m → m.var < length places
known_var order places bound m placed which =
    ⊎_elim (λ e. slice_get_within places m.var bound e) (λ (q, small, there). slice_get_within places m.var q (placed q (opposite m) there)) which

-- the clause as far as a loop has come
module _ (order : List Lit) (places : List ℕ) (start bound : ℕ) where
  pub covers_none : (m : MarkLists) → Marked order start bound m → Covers order places start bound [] m m
  covers_none m sound = record { marked = sound; grows = record { waiting = λ p h. h; lower = λ l h. h }; has = λ l h. absurd h }

  grown : (a b : MarkLists) (l : Lit) → Grows a b → IsMarked order a l → IsMarked order b l
  grown a b l g h = ⊎_elim (λ k. inl (g.lower l k)) (λ k. inr (k.0, k.1, g.waiting k.0 k.2)) h

  pub covers_skip : (xs : List Lit) (x : Lit) (old mid : MarkLists) → Covers order places start bound xs old mid → slice_get places x.var ≡ Some bound → Covers order places start bound (xs ++ x ∷ []) old mid
  covers_skip xs x old mid so e = record {
    marked = so.marked;
    grows = so.grows;
    has = λ m h. ⊎_elim (λ f. inl (ap (λ (l : Lit). slice_get places l.var) (sym f) ∙ e)) (λ k. so.has m k) (in_push_cases xs x m h);
  }

  pub covers_more : (xs : List Lit) (x : Lit) (old mid new : MarkLists) → Covers order places start bound xs old mid → Outcome order start bound x mid new → Covers order places start bound (xs ++ x ∷ []) old new
  covers_more xs x old mid new so out = record {
    marked = out.marked;
    grows = record { waiting = λ p h. out.grows.waiting p (so.grows.waiting p h); lower = λ l h. out.grows.lower l (so.grows.lower l h) };
    has = λ m h. ⊎_elim (λ f. inr (subst (IsMarked order new) f out.has)) (λ k. ⊎_elim inl (λ g. inr (grown mid new m out.grows g)) (so.has m k)) (in_push_cases xs x m h);
  }

-- the same, as the code reads the place
pub read_place : (order : List Lit) (places : List ℕ) (bound place : ℕ) (m : Lit) → IsPlaced order places → (slice_get places m.var ≡ Some bound) ⊎ FalseBefore order bound m → place ≡ slice_index_or places m.var place → slice_get places m.var ≡ Some place
read_place order places bound place m placed which read = read_there places m.var place (known_var order places bound m placed which) read
