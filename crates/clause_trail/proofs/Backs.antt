-- The newest of literals that are false.
use Rattle.std.proofs.Common.{ℕ, ◌<◌, ◌≤◌, ◌+◌, ◌++◌, List, [], ◌∷◌, ◌≡◌, ◌∙◌, inl, inr, ⊎_elim, refl, sym, ap, Some, arith}
use Rattle.std.specs.Prelude.{slice_get, slice_index_or}
use Rattle.clause_trail.proofs.Counts.{read_there}
use Rattle.std.proofs.lemmas.Option.{same_Some, slice_get_within}
use Rattle.std.proofs.lemmas.Bool.{cases_eq}
use Rattle.clause_logic.specs.declared.Lit.{Lit}
use Rattle.clause_logic.specs.Clauses.{opposite}
use Rattle.clause_logic.specs.Trails.{IsPlaced, FalseBefore}
use Rattle.clause_trail.specs.Levels.{IsTop}
use Rattle.clause_logic.proofs.Members.{in_push, in_last, in_push_cases}

pub top_none : (order : List Lit) (start : ℕ) → IsTop order start [] 0
top_none order start = record { bound = omega arith; before = λ m h. absurd h; highest = inl refl }

later : (order : List Lit) (a b : ℕ) (m : Lit) → a ≤ b → FalseBefore order a m → FalseBefore order b m
later order a b m h f = (f.0, omega (arith, h, f.1), f.2)

module _ (order : List Lit) (start : ℕ) (xs : List Lit) (x : Lit) (top place : ℕ) (so : IsTop order start xs top) (there : slice_get order place ≡ Some (opposite x)) (low : place < start) where
  pub top_stays : place < top → IsTop order start (xs ++ x ∷ []) top
  top_stays h = record {
    bound = so.bound;
    before = λ m i. ⊎_elim (λ e. (place, h, there ∙ ap (λ (l : Lit). Some (opposite l)) e)) (λ k. so.before m k) (in_push_cases xs x m i);
    highest = ⊎_elim inl (λ t. inr (t.0, t.1, in_push xs x t.0 t.2, t.3, t.4)) so.highest;
  }

  pub top_rises : top ≤ place → IsTop order start (xs ++ x ∷ []) (place + 1)
  top_rises h = record {
    bound = omega (arith, low);
    before = λ m i. ⊎_elim
        (λ e. (place, omega arith, there ∙ ap (λ (l : Lit). Some (opposite l)) e))
        (λ k. later order top (place + 1) m (omega (arith, h)) (so.before m k))
        (in_push_cases xs x m i);
    highest = inr (x, place, in_last xs x, there, refl);
  }

-- one level more
pub under_more : (starts : List ℕ) (top level : ℕ) → ((k n : ℕ) → k < level → slice_get starts k ≡ Some n → n < top) → (x : ℕ) → slice_get starts level ≡ Some x → x < top → (k n : ℕ) → k < level + 1 → slice_get starts k ≡ Some n → n < top
under_more starts top level under x here small k n less at =
    ⊎_elim
    (λ e. let f : x ≡ n = same_Some x n (sym here ∙ ap (slice_get starts) (sym e) ∙ at) in omega (arith, f, small))
    (λ d. under k n (omega (arith, less, d)) at)
    (cases_eq k level)

-- where a false literal's variable stands, as the code reads it
pub place_of : (order : List Lit) (places : List ℕ) (s : ℕ) (m : Lit) → IsPlaced order places → FalseBefore order s m → (place : ℕ) → place ≡ slice_index_or places m.var place → (place < s) × (slice_get order place ≡ Some (opposite m))
place_of order places s m placed (q, small, there) place read =
    let at : slice_get places m.var ≡ Some q = placed q (opposite m) there in
    let e : q ≡ place = same_Some q place (sym at ∙ read_there places m.var place (slice_get_within places m.var q at) read) in
    (omega (arith, e, small), ap (slice_get order) (sym e) ∙ there)
