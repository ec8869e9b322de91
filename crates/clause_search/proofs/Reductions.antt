-- Fewer learned clauses: what holds stays.
use Rattle.std.proofs.Common.{ℕ, zero, suc, ◌≤◌, ◌+◌, ◌-◌, ◌++◌, List, [], ◌∷◌, ◌≡◌, ◌∙◌, Some, ⊎_elim, refl, sym, ap, subst, length, arith}
use Rattle.std.specs.Prelude.{slice_get}
use Rattle.std.proofs.lemmas.Option.{slice_get_within}
use Rattle.clause_logic.specs.declared.Lit.{Lit}
use Rattle.clause_logic.specs.Clauses.{In, Listed, IsDerived}
use Rattle.clause_logic.proofs.Gets.{push_cases}
use Rattle.clause_logic.proofs.Members.{get_from_in}
use Rattle.clause_trail.specs.View.{Lists, Base, Sound}
use Rattle.clause_search.specs.Answers.{IsUnsatCore}
use Rattle.clause_search.specs.Content.{AllKnown}
use Rattle.clause_search.specs.Loading.{IsRoot, Impossible}
use Rattle.clause_search.specs.Solving.{Going, IsPart, IsRebuilt}
use Rattle.clause_search.proofs.Loads.{root_chosen}
use Rattle.clause_search.proofs.Rounding.{lawful, append_left, append_cases, append_assoc_one}

-- the added clauses name variables of the state
pub front_known : (t : Lists) (added learned : List (List Lit)) → Base t → t.clauses ≡ added ++ learned → AllKnown (length t.values) added
front_known t added learned base is c lits l at i =
    let r = append_left added learned lits (c, at) in
    let g = get_from_in lits l i in
    base.known r.0 lits l (ap (λ (cs : List (List Lit)). slice_get cs r.0) is ∙ r.1) (record { at = g.0; is = g.1 })

-- an impossible part
pub impossible_front : (t : Lists) (added learned : List (List Lit)) → t.clauses ≡ added ++ learned → Impossible added → Impossible t.clauses
impossible_front t added learned is none s models =
    none s (λ d at. models d (subst (λ (cs : List (List Lit)). Listed cs d) (sym is) (append_left added learned d at)))

part_none : (a : ℕ) (clauses : List (List Lit)) → IsPart a a clauses []
part_none a clauses = record { from = λ j d h. absurd (cc h); apart = λ i j c d r h. absurd (cc h) }

part_skip : (a n : ℕ) (clauses part : List (List Lit)) → IsPart a n clauses part → IsPart a (n + 1) clauses part
part_skip a n clauses part so = record { from = λ j d h. let f = so.from j d h in (f.0, f.1, omega (arith, f.2), f.3); apart = so.apart }

part_more : (a n : ℕ) (clauses part : List (List Lit)) (lits : List Lit) → IsPart a n clauses part → a ≤ n → slice_get clauses n ≡ Some lits → IsPart a (n + 1) clauses (part ++ lits ∷ [])
part_more a n clauses part lits so low at = record {
  from = λ j d h. ⊎_elim
      (λ e. (n, low, omega arith, at ∙ ap Some e.1))
      (λ k. let f = so.from j d k in (f.0, f.1, omega (arith, f.2), f.3))
      (push_cases part lits d j h);
  apart = λ i j c d r h k. ⊎_elim
      (λ e. ⊎_elim
      (λ g. absurd (omega (arith, e.0, g.0, r)))
      (λ g. let f = so.from i c g in (f.0, n, f.1, f.2, f.3, at ∙ ap Some e.1))
      (push_cases part lits c i h))
      (λ e. ⊎_elim
      (λ g. absurd (omega (arith, g.0, r, slice_get_within part j d e)))
      (λ g. so.apart i j c d r g e)
      (push_cases part lits c i h))
      (push_cases part lits d j k);
}

append_nothing : (xs : List (List Lit)) → xs ≡ xs ++ []
append_nothing [] = refl
append_nothing (x ∷ xs) = ap (λ (ys : List (List Lit)). x ∷ ys) (append_nothing xs)

module _ (t : Lists) (added : List (List Lit)) where
  pub rebuilt_none : (new : Lists) → IsRoot new (length t.values) added → IsRebuilt t new added (length added)
  rebuilt_none new root = record {
    kept = [];
    root = record { sound = root.sound; starts = root.starts; vars = root.vars; clauses = root.clauses ∙ append_nothing added };
    part = part_none (length added) t.clauses;
  }

  pub rebuilt_skip : (new : Lists) (n : ℕ) → IsRebuilt t new added n → IsRebuilt t new added (n + 1)
  rebuilt_skip new n so = record { kept = so.kept; root = so.root; part = part_skip (length added) n t.clauses so.kept so.part }

  pub rebuilt_more : (old new : Lists) (n : ℕ) (lits : List Lit) → IsRebuilt t old added n → length added ≤ n → slice_get t.clauses n ≡ Some lits → Sound new → new.starts ≡ old.starts → length new.values ≡ length old.values → new.clauses ≡ old.clauses ++ lits ∷ []
      → IsRebuilt t new added (n + 1)
  rebuilt_more old new n lits so low at sound starts vars is = record {
    kept = so.kept ++ lits ∷ [];
    root = record {
      sound = sound;
      starts = starts ∙ so.root.starts;
      vars = vars ∙ so.root.vars;
      clauses = is ∙ ap (λ (cs : List (List Lit)). cs ++ lits ∷ []) so.root.clauses ∙ append_assoc_one added so.kept lits;
    };
    part = part_more (length added) n t.clauses so.kept lits so.part low at;
  }

  -- a clause that is false by the others
  pub rebuilt_impossible : (old : Lists) (n : ℕ) (lits : List Lit) (learned : List (List Lit)) → IsRebuilt t old added n → t.clauses ≡ added ++ learned → slice_get t.clauses n ≡ Some lits → Impossible (old.clauses ++ lits ∷ []) → Impossible t.clauses
  rebuilt_impossible old n lits learned so is at none s models = none s (λ d there. models d (which d there))
    where
      among : (d : List Lit) → Listed (added ++ so.kept) d → Listed t.clauses d
      among d (i, h) =
          ⊎_elim
          (λ a. subst (λ (cs : List (List Lit)). Listed cs d) (sym is) (append_left added learned d a))
          (λ k. let f = so.part.from k.0 d k.1 in (f.0, f.3))
          (append_cases added so.kept i d h)

      which : (d : List Lit) → Listed (old.clauses ++ lits ∷ []) d → Listed t.clauses d
      which d (i, h) =
          ⊎_elim
          (λ e. (n, at ∙ ap Some e.1))
          (λ k. among d (i, ap (λ (cs : List (List Lit)). slice_get cs i) (sym so.root.clauses) ∙ k))
          (push_cases old.clauses lits d i h)

-- a clause past the added ones is a learned one
past_front : (added learned : List (List Lit)) (k : ℕ) (d : List Lit) → length added ≤ k → slice_get (added ++ learned) k ≡ Some d → slice_get learned (k - length added) ≡ Some d
past_front [] learned k d low at = ap (slice_get learned) (let e : k - 0 ≡ k = omega arith in e) ∙ at
past_front (x ∷ added) learned zero d low at = absurd (omega (arith, low))
past_front (x ∷ added) learned (suc k) d low at = ap (slice_get learned) (let e : suc k - length (x ∷ added) ≡ k - length added = omega arith in e) ∙ past_front added learned k d (omega (arith, low)) at

module _ (t : Lists) (added : List (List Lit)) (stands : List Lit → Type 0) (assumed : List Lit) (going : Going t added stands assumed) where
  there : (k : ℕ) (d : List Lit) → length added ≤ k → slice_get t.clauses k ≡ Some d → slice_get going.learned (k - length added) ≡ Some d
  there k d low at = past_front added going.learned k d low (ap (λ (cs : List (List Lit)). slice_get cs k) (sym going.clauses) ∙ at)

  part_derived : (n : ℕ) (part : List (List Lit)) → IsPart (length added) n t.clauses part → IsDerived (Listed added) stands part
  part_derived n part so = record {
    plain = λ i c l h. let f = so.from i c h in going.derived.plain (f.0 - length added) c l (there f.0 c f.1 f.3);
    different = λ i j c d r h k.
        let f = so.apart i j c d r h k in
        going.derived.different (f.0 - length added) (f.1 - length added) c d (omega (arith, f.2, f.3)) (there f.0 c f.2 f.4) (there f.1 d (omega (arith, f.2, f.3)) f.5);
    follows = λ i c h. let f = so.from i c h in going.derived.follows (f.0 - length added) c (there f.0 c f.1 f.3);
  }

  pub rebuilt_going : (new : Lists) (n : ℕ) → IsRebuilt t new added n → Going new added stands assumed × (length new.values ≡ length t.values)
  rebuilt_going new n so = (
    record {
      sound = so.root.sound;
      learned = so.kept;
      clauses = so.root.clauses;
      derived = part_derived n so.kept so.part;
      chosen = root_chosen new assumed so.root.sound so.root.starts;
    },
    so.root.vars,
  )

  -- clauses that can't hold
  pub refuted_core : Impossible t.clauses → (core : List Lit) → core ≡ [] → IsUnsatCore added stands assumed core
  refuted_core none core is = record {
    assumptions = λ l i. absurd (subst (In l) is i);
    once = λ i j l at. absurd (cc (sym at ∙ ap (λ (xs : List Lit). slice_get xs i) is));
    refuted = λ s models all. none s (λ d at. lawful t added stands assumed going d at s models);
  }
