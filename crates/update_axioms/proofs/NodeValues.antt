-- Values of nodes, copied one by one.
use Rattle.std.proofs.Common.{◌≡◌, ◌∙◌, ◌++◌, inl, inr, ℕ, zero, suc, List, [], ◌∷◌, Some, map, length, refl, sym, ap, subst}
use Rattle.std.specs.Prelude.{slice_get, IsSome}
use Rattle.std.proofs.lemmas.List.{length-map, map-append}
use Rattle.y_tree.specs.declared.values.Value as code
use Rattle.y_tree.specs.Values.{Value}
use Rattle.y_tree.specs.Plain.{plain_value}
use Rattle.update_axioms.specs.Views.{Update}
use Rattle.update_axioms.specs.Shown.{found, value_or_none, key_or_none}
use Rattle.update_axioms.specs.Candidates.{or_empty}
use Rattle.update_axioms.proofs.Ranges.{at_append}
use Rattle.update_axioms.proofs.Ordered.{only_item}
use Rattle.update_axioms.proofs.Judging.{found_more, found_last, found_either}

-- lists with one image have one at each place
pub one_image : (g : ℕ → Value) (tuples : List (List code.Value)) (nodes : List (List ℕ)) (t : ℕ) → map (map plain_value) tuples ≡ map (map g) nodes → key_or_none (slice_get tuples t) ≡ map g (or_empty (slice_get nodes t))
one_image g [] [] t e = refl
one_image g [] (ns ∷ nodes) t e = absurd cc
one_image g (k ∷ tuples) [] t e = absurd cc
one_image g (k ∷ tuples) (ns ∷ nodes) zero e = cc
one_image g (k ∷ tuples) (ns ∷ nodes) (suc t) e = let rest : map (map plain_value) tuples ≡ map (map g) nodes = cc in one_image g tuples nodes t rest

pub one_length : (g : ℕ → Value) (tuples : List (List code.Value)) (nodes : List (List ℕ)) → map (map plain_value) tuples ≡ map (map g) nodes → length tuples ≡ length nodes
one_length g tuples nodes e = sym (length-map tuples (map plain_value)) ∙ ap length e ∙ length-map nodes (map g)

-- the updates so far have the values of their nodes
pub record ShownSoFar (vals : List code.Value) (updates : List Update) (vs : List (ℕ × code.Value)) : Type 0 where
  pub there : (k : ℕ) (u : Update) → slice_get updates k ≡ Some u → IsSome (found vs u.3)
  pub each : (n : ℕ) (w : code.Value) → found vs n ≡ Some w → plain_value w ≡ value_or_none (slice_get vals n)

pub none_shown : (vals : List code.Value) → ShownSoFar vals [] []
none_shown vals = record { there = λ k u h. absurd (cc h); each = λ n w h. absurd (cc h) }

pub shown_more : (vals : List code.Value) (updates updates2 : List Update) (vs vs2 : List (ℕ × code.Value)) (u : Update) (w : code.Value) → ShownSoFar vals updates vs → plain_value w ≡ value_or_none (slice_get vals u.3)
    → updates2 ≡ updates ++ u ∷ [] → vs2 ≡ vs ++ (u.3, w) ∷ [] → ShownSoFar vals updates2 vs2
shown_more vals updates updates2 vs vs2 u w so_far is e d =
    subst (λ us. ShownSoFar vals us vs2) (sym e) (subst (λ xs. ShownSoFar vals (updates ++ u ∷ []) xs) (sym d)
    (record {
      there = λ k x h.
          elim (at_append updates (u ∷ []) k x h) [
            | inl old ↦ found_more vs u.3 w x.3 (so_far.there k x old)
            | inr new ↦ (let same = only_item u new.0 x new.2 in subst (λ (y : Update). IsSome (found (vs ++ (u.3, w) ∷ []) y.3)) same (found_last vs u.3 w))
          ];
      each = λ n x h.
          elim (found_either vs u.3 w n x h) [
            | inl old ↦ so_far.each n x old
            | inr new ↦ subst (λ m. plain_value x ≡ value_or_none (slice_get vals m)) new.0 (ap plain_value (sym new.1) ∙ is)
          ];
    }))

-- one more in two lists with one image
pub image_more : {A B C : Type 0} (f : A → C) (g : B → C) (xs xs2 : List A) (ys ys2 : List B) (x : A) (y : B) → map f xs ≡ map g ys → xs2 ≡ xs ++ x ∷ [] → ys2 ≡ ys ++ y ∷ [] → f x ≡ g y → map f xs2 ≡ map g ys2
image_more f g xs xs2 ys ys2 x y e a b h =
    ap (map f) a ∙ map-append f xs (x ∷ []) ∙ ap (λ zs. zs ++ f x ∷ []) e ∙ ap (λ z. map g ys ++ z ∷ []) h ∙ sym (map-append g ys (y ∷ [])) ∙ ap (map g) (sym b)

-- the value of a node that is there
pub value_there : (vals : List code.Value) (n : ℕ) (w : code.Value) → slice_get vals n ≡ Some w → value_or_none (slice_get vals n) ≡ plain_value w
value_there vals n w h = ap value_or_none h
