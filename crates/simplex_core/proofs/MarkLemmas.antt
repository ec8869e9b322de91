-- Which variables are spent after a turn.
use Rattle.std.proofs.Common.{◌≡◌, ℕ, zero, suc, ◌<◌, ◌≤◌, Bool, true, false, List, [], ◌∷◌, ◌⊎◌, inl, inr, length, ltb, refl, ap, ◌∙◌, arith}
use native.Mathlib.Decide.{ℕ_discrete}
use Rattle.std.specs.Prelude.{replicate}
use Rattle.std.proofs.lemmas.Bool.{ltb-true, lt-ltb}
use Rattle.std.proofs.lemmas.List.{get_or-set_same, get_or-set_other, length-set}
use Rattle.simplex_logic.specs.Pivoting.{Marked}
use Rattle.simplex_core.specs.Checking.{cleared, marks_after, mark_at}

below_false : (n : ℕ) (xs : List Bool) (k : ℕ) → k < n → mark_at (cleared n xs) k ≡ false
below_false zero xs k h = absurd (omega arith)
below_false (suc n) [] k h = refl
below_false (suc n) (x ∷ xs) zero h = refl
below_false (suc n) (x ∷ xs) (suc k) h = below_false n xs k (omega arith)

above_same : (n : ℕ) (xs : List Bool) (k : ℕ) → n ≤ k → mark_at (cleared n xs) k ≡ mark_at xs k
above_same zero xs k h = refl
above_same (suc n) [] k h = refl
above_same (suc n) (x ∷ xs) zero h = absurd (omega arith)
above_same (suc n) (x ∷ xs) (suc k) h = above_same n xs k (omega arith)

false_stays : (n : ℕ) (xs : List Bool) (k : ℕ) → mark_at xs k ≡ false → mark_at (cleared n xs) k ≡ false
false_stays zero xs k h = h
false_stays (suc n) [] k h = refl
false_stays (suc n) (x ∷ xs) zero h = refl
false_stays (suc n) (x ∷ xs) (suc k) h = false_stays n xs k h

length-cleared : (n : ℕ) (xs : List Bool) → length (cleared n xs) ≡ length xs
length-cleared zero xs = refl
length-cleared (suc n) [] = refl
length-cleared (suc n) (x ∷ xs) = ap suc (length-cleared n xs)

pub length-after : (s r : ℕ) (xs : List Bool) → length (marks_after s r xs) ≡ length xs
length-after s r xs = length-set (cleared s (cleared (suc r) xs)) s (ltb r s) ∙ length-cleared s (cleared (suc r) xs) ∙ length-cleared (suc r) xs

not_ltb : (r s : ℕ) (b : Bool) → ltb r s ≡ b → s ≤ r → b ≡ false
not_ltb r s true e h = let l = ltb-true r s e in absurd (omega arith)
not_ltb r s false e h = refl

apart_by : (s x : ℕ) → s < x → x ≡ s → ⊥
apart_by s x h e = omega arith

module _ (s r : ℕ) (spent : List Bool) (hs : s < length spent) where
  here : mark_at (marks_after s r spent) s ≡ ltb r s
  here = get_or-set_same (cleared s (cleared (suc r) spent)) s (ltb r s) false (omega (arith, length-cleared s (cleared (suc r) spent), length-cleared (suc r) spent))

  there : (x : ℕ) → (x ≡ s → ⊥) → mark_at (marks_after s r spent) x ≡ mark_at (cleared s (cleared (suc r) spent)) x
  there x d = get_or-set_other (cleared s (cleared (suc r) spent)) s x (ltb r s) false d

  up_to : (x : ℕ) → (x < s) ⊎ (x < suc r) → mark_at (cleared s (cleared (suc r) spent)) x ≡ false
  up_to x (inl h) = below_false s (cleared (suc r) spent) x h
  up_to x (inr h) = false_stays s (cleared (suc r) spent) x (below_false (suc r) spent x h)

  weaker : (x : ℕ) → (x < s) ⊎ (x < r) → (x < s) ⊎ (x < suc r)
  weaker x (inl h) = inl h
  weaker x (inr h) = inr (omega arith)

  at_s : (x : ℕ) → x ≡ s → (x < s) ⊎ (x < r) → s ≤ r
  at_s x e (inl h) = absurd (omega arith)
  at_s x e (inr h) = omega arith

  below_case : (x : ℕ) → Dec (x ≡ s) → (x < s) ⊎ (x < r) → mark_at (marks_after s r spent) x ≡ false
  below_case x (yes e) h = ap (mark_at (marks_after s r spent)) e ∙ here ∙ not_ltb r s (ltb r s) refl (at_s x e h)
  below_case x (no d) h = there x d ∙ up_to x (weaker x h)

  pub marked_after : Marked (mark_at spent) (mark_at (marks_after s r spent)) s r
  marked_after = record {
    above = λ x h k. there x (apart_by s x h) ∙ above_same s (cleared (suc r) spent) x (omega arith) ∙ above_same (suc r) spent x (omega arith);
    below = λ x h. below_case x (ℕ_discrete x s) h;
    leaving = λ h. here ∙ lt-ltb r s h;
    entering = λ h. there r (apart_by s r h) ∙ up_to r (inr (omega arith));
  }

pub none_marked : (n x : ℕ) → mark_at (replicate n false) x ≡ false
none_marked zero x = refl
none_marked (suc n) zero = refl
none_marked (suc n) (suc x) = none_marked n x
