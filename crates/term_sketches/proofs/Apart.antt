-- Terms are pairwise different exactly where they are so in order, and none is repeated; three truth values never are.
use Rattle.std.proofs.Common.{◌≡◌, ◌∙◌, suc, ◌<◌, ◌⊎◌, inl, inr, Bool, true, false, not, ◌&&◌, ◌||◌, List, [], ◌∷◌, length, map, refl, sym, ap, arith}
use Rattle.std.specs.declared.cmp.Ordering.{Ordering}
use Rattle.std.specs.declared.cmp.Ordering.TheVariants.{Less, Equal, Greater}
use Rattle.std.specs.Ordering.{match_ordering, is_eq}
use Rattle.std.specs.List.{list_any}
use Rattle.std.specs.BTreeSet.{insert_key}
use Rattle.y_tree.specs.Sorts.{Sort}
use Rattle.y_tree.specs.Values.{Value, same_value, same_truth}
use Rattle.y_tree.specs.Meaning.{are_distinct}
use Rattle.y_tree.specs.Laws.{SameSortIsEqual, SameValueIsEquivalence}
use Rattle.term_shapes.specs.declared.handles.Term.{Term}
use Rattle.term_sketches.specs.declared.items.Literal.{Literal}
use Rattle.term_sketches.specs.Sketches.{term_order, all_placed}
use Rattle.term_sketches.specs.Valuing.{IsValuation}
use Rattle.term_sketches.proofs.Mapping.{any_mapped}
use Rattle.term_sketches.proofs.Gates.{gate_all, any_is_gate}
use Rattle.term_sketches.proofs.Joins.{Each, term_same, gate_inserted, each_inserted}
use Rattle.term_sketches.proofs.Pairs.{same_turned, same_itself}

or_true : (b : Bool) → (b || true) ≡ true
or_true true = refl
or_true false = refl

and_false : (b : Bool) → (b && false) ≡ false
and_false true = refl
and_false false = refl

pairs_turned : (a b c d : Bool) → (not (a || b) && (not c && d)) ≡ (not (a || c) && (not b && d))
pairs_turned true b c d = refl
pairs_turned false true true d = refl
pairs_turned false true false d = refl
pairs_turned false false true d = refl
pairs_turned false false false d = refl

pub three_never : (a b c : Bool) (x y z : Bool) → (not (same_truth a b || (same_truth a c || x)) && (not (same_truth b c || y) && z)) ≡ false
three_never true true c x y z = refl
three_never true false true x y z = refl
three_never true false false x y z = and_false (not x)
three_never false true true x y z = and_false (not x)
three_never false true false x y z = refl
three_never false false c x y z = refl

module _ (v : Term → Value) (k : Term → Sort) (val : IsValuation v k) (sorts : SameSortIsEqual) (equivalence : SameValueIsEquivalence) (s : Sort) where
  -- the term has the type
  abbrev pub IsSorted : Term → Type 0
  IsSorted t = k t ≡ s

  -- the terms are pairwise different
  abbrev pub apart_all : List Term → Bool
  apart_all ts = are_distinct s (map v ts)

  -- one of the terms has the value of that one
  abbrev pub meets : Term → List Term → Bool
  meets t ts = list_any (same_value s (v t)) (map v ts)

  any_gate : (p : Value → Bool) (ts : List Term) → list_any p (map v ts) ≡ gate_all false (λ t. p (v t)) ts
  any_gate p ts = any_mapped v (λ t. p (v t)) p (λ t. refl) ts ∙ any_is_gate (λ t. p (v t)) ts

  any_inserted : (p : Value → Bool) (t : Term) (ts : List Term) → list_any p (map v (insert_key term_order ts t)) ≡ (p (v t) || list_any p (map v ts))
  any_inserted p t ts =
      any_gate p (insert_key term_order ts t) ∙ gate_inserted term_order term_same false (λ u. p (v u)) t ts ∙ ap (λ x. p (v t) || x) (sym (any_gate p ts))

  -- the term was there, or it is one more that is put in its place
  abbrev pub IsPlaced : Term → List Term → List Term → Type 0
  IsPlaced t ts new = ((length new ≡ length ts) × (meets t ts ≡ true)) ⊎ ((length new ≡ suc (length ts)) × (apart_all new ≡ apart_all (t ∷ ts)))

  placed : (t : Term) (ts : List Term) → k t ≡ s → Each IsSorted ts → IsPlaced t ts (insert_key term_order ts t)
  placed t [] e es = inr (refl, refl)
  placed t (u ∷ us) e es =
      let go : (o : Ordering) → term_order t u ≡ o → IsPlaced t (u ∷ us) (match_ordering o (t ∷ u ∷ us) (u ∷ us) (u ∷ insert_key term_order us t)) =
      λ o. elim o as (λ o. term_order t u ≡ o → IsPlaced t (u ∷ us) (match_ordering o (t ∷ u ∷ us) (u ∷ us) (u ∷ insert_key term_order us t))) [
        | Less ↦ λ h. inr (refl, refl)
        | Equal ↦ λ h. inl (refl, ap (λ b. b || meets t us) (same_itself v k val sorts equivalence t u s e (term_same t u (ap is_eq h))))
        | Greater ↦ λ h.
            elim (placed t us e es.1) [
              | inl p ↦ inl (ap suc p.0, ap (λ b. same_value s (v t) (v u) || b) p.1 ∙ or_true (same_value s (v t) (v u)))
              | inr p ↦ inr (
                ap suc p.0,
                ap (λ b. not b && apart_all (insert_key term_order us t)) (any_inserted (same_value s (v u)) t us) ∙ ap (λ b. not (same_value s (v u) (v t) || meets u us) && b) p.1
                    ∙ pairs_turned (same_value s (v u) (v t)) (meets u us) (meets t us) (apart_all us)
                    ∙ ap (λ b. not (b || meets t us) && (not (meets u us) && apart_all us)) (same_turned v k val sorts equivalence u t s es.0 e),
              )
            ]
      ]
      in go (term_order t u) refl

  -- the atoms of the literals
  abbrev pub atoms : List Literal → List Term
  atoms ls = map (λ (l : Literal). l.atom) ls

  pub each_placed : (ls : List Literal) → Each (λ (l : Literal). IsSorted l.atom) ls → Each IsSorted (all_placed ls)
  each_placed [] es = tt
  each_placed (l ∷ ls) es = each_inserted term_order term_same IsSorted l.atom (all_placed ls) es.0 (each_placed ls es.1)

  any_placed : (p : Value → Bool) (ls : List Literal) → list_any p (map v (all_placed ls)) ≡ list_any p (map v (atoms ls))
  any_placed p [] = refl
  any_placed p (l ∷ ls) = any_inserted p l.atom (all_placed ls) ∙ ap (λ x. p (v l.atom) || x) (any_placed p ls)

  -- all atoms are placed and none was there, or there are fewer and two are one
  abbrev pub IsSpread : List Literal → Type 0
  IsSpread ls = ((length (all_placed ls) ≡ length ls) × (apart_all (all_placed ls) ≡ apart_all (atoms ls))) ⊎ ((length (all_placed ls) < length ls) × (apart_all (atoms ls) ≡ false))

  pub spread : (ls : List Literal) → Each (λ (l : Literal). IsSorted l.atom) ls → IsSpread ls
  spread [] es = inl (refl, refl)
  spread (l ∷ ls) es =
      let t : Term = l.atom in
      let there : length (all_placed (l ∷ ls)) < length (l ∷ ls) → meets t (all_placed ls) ≡ true → IsSpread (l ∷ ls) =
      λ h m. inr (h, ap (λ b. not b && apart_all (atoms ls)) (sym (any_placed (same_value s (v t)) ls) ∙ m)) in
      let before : apart_all (atoms ls) ≡ false → length (all_placed (l ∷ ls)) < length (l ∷ ls) → IsSpread (l ∷ ls) =
      λ d h. inr (h, ap (λ b. not (meets t (atoms ls)) && b) d ∙ and_false (not (meets t (atoms ls)))) in
      elim (spread ls es.1) [
        | inl q ↦ elim (placed t (all_placed ls) es.0 (each_placed ls es.1)) [
          | inl p ↦ there (omega (arith, p.0, q.0)) p.1
          | inr p ↦ inl (omega (arith, p.0, q.0), p.1 ∙ ap (λ b. not b && apart_all (all_placed ls)) (any_placed (same_value s (v t)) ls) ∙ ap (λ b. not (meets t (atoms ls)) && b) q.1)
        ]
        | inr q ↦ elim (placed t (all_placed ls) es.0 (each_placed ls es.1)) [ inl p ↦ before q.1 (omega (arith, p.0, q.0)) | inr p ↦ before q.1 (omega (arith, p.0, q.0)) ]
      ]
