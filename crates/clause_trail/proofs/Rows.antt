-- The rows of watching clauses, after one clause moved to another row.
use Rattle.std.proofs.Common.{◌≡◌, ◌∙◌, ◌+◌, ◌-◌, ◌<◌, ◌≤◌, ◌++◌, ℕ, zero, suc, Bool, true, false, List, [], ◌∷◌, Some, length, refl, sym, ap, subst, ⊎_elim, arith, get_or, take}
use Rattle.std.specs.Prelude.{slice_get, slice_set, swap_remove}
use Rattle.std.proofs.lemmas.Bool.{cases_eq}
use Rattle.std.proofs.lemmas.Option.{same_Some, slice_get_within, slice_get-get_or, get_or_from_slice_get}
use Rattle.clause_logic.specs.declared.Lit.{Lit}
use Rattle.clause_trail.specs.Words.{code_of}
use Rattle.clause_trail.specs.View.{Listed}
use Rattle.clause_trail.specs.Steps.{row_of, rows_moved}
use Rattle.clause_logic.proofs.Gets.{set_other, set_here, length_set, push_here, push_old}

get_take : {X : Type 0} → (n : ℕ) (w : List X) (j : ℕ) → j < n → slice_get (take n w) j ≡ slice_get w j
get_take zero w j h = absurd (omega (arith, h))
get_take (suc n) [] j h = refl
get_take (suc n) (x ∷ w) zero h = refl
get_take (suc n) (x ∷ w) (suc j) h = get_take n w j (omega (arith, h))

-- what stays of a row
pub removed_keeps : (xs : List ℕ) (i k x : ℕ) → i < length xs → slice_get xs k ≡ Some x → (i ≡ k → ⊥)
    → (j : ℕ) × (slice_get (swap_remove xs i 0) j ≡ Some x) × ((n : ℕ) → n ≤ i → n ≤ k → n ≤ j)
removed_keeps xs i k x h is apart =
    let within : k < length xs = slice_get_within xs k x is in
    ⊎_elim
    (λ (e : k ≡ length xs - 1). (
      i,
      get_take (length xs - 1) _ i (omega (arith, h, within, apart, e)) ∙ set_here xs i (get_or xs i 0) (get_or xs (length xs - 1) 0) (slice_get-get_or xs i 0 h) ∙ ap Some (get_or_from_slice_get xs (length xs - 1) x 0 (ap (slice_get xs) (sym e) ∙ is)),
      λ n p q. p,
    ))
    (λ (d : k ≡ length xs - 1 → ⊥). (
      k,
      get_take (length xs - 1) _ k (omega (arith, within, d)) ∙ set_other xs i k (get_or xs (length xs - 1) 0) apart ∙ is,
      λ n p q. q,
    ))
    (cases_eq k (length xs - 1))

pub length_take : {X : Type 0} → (n : ℕ) (w : List X) → n ≤ length w → length (take n w) ≡ n
length_take zero w h = refl
length_take (suc n) [] h = absurd (omega (arith, h))
length_take (suc n) (x ∷ w) h = ap suc (length_take n w (omega (arith, h)))

pub removed_length : (xs : List ℕ) (i : ℕ) → i < length xs → length (swap_remove xs i 0) + 1 ≡ length xs
removed_length xs i h = rw (length_take (length xs - 1) (slice_set xs i (get_or xs (length xs - 1) 0)) (omega (arith, length_set xs i (get_or xs (length xs - 1) 0)))) (omega (arith, h))

code_parts : (m n : ℕ) (p q : Bool) → code_of (record { var = m; positive = p }) ≡ code_of (record { var = n; positive = q }) → (let a : Lit = record { var = m; positive = p } in a) ≡ (let b : Lit = record { var = n; positive = q } in b)
code_parts m n true true e = ap (λ (k : ℕ). let l : Lit = record { var = k; positive = true } in l) (omega (arith, e))
code_parts m n false false e = ap (λ (k : ℕ). let l : Lit = record { var = k; positive = false } in l) (omega (arith, e))
code_parts m n true false e = absurd (omega (arith, e))
code_parts m n false true e = absurd (omega (arith, e))

pub code_one : (a b : Lit) → code_of a ≡ code_of b → a ≡ b
code_one a b e = code_parts a.var b.var a.positive b.positive e

below_parts : (m n : ℕ) (p : Bool) → m < n → code_of (record { var = m; positive = p }) < n + n
below_parts m n true h = omega (arith, h)
below_parts m n false h = omega (arith, h)

pub code_below : (l : Lit) (n : ℕ) → l.var < n → code_of l < n + n
code_below l n h = below_parts l.var n l.positive h

module _ (watches : List (List ℕ)) (c at : ℕ) (f to : Lit) (to_in : code_of to < length watches) (f_in : code_of f < length watches)
    (apart : code_of to ≡ code_of f → ⊥) (here : slice_get (row_of watches f) at ≡ Some c) where
  abbrev more : List (List ℕ)
  more = slice_set watches (code_of to) (row_of watches to ++ c ∷ [])

  to_row : slice_get watches (code_of to) ≡ Some (row_of watches to)
  to_row = slice_get-get_or watches (code_of to) [] to_in

  f_row : slice_get watches (code_of f) ≡ Some (row_of watches f)
  f_row = slice_get-get_or watches (code_of f) [] f_in

  f_more : slice_get more (code_of f) ≡ Some (row_of watches f)
  f_more = set_other watches (code_of to) (code_of f) (row_of watches to ++ c ∷ []) apart ∙ f_row

  f_same : row_of more f ≡ row_of watches f
  f_same = get_or_from_slice_get more (code_of f) (row_of watches f) [] f_more

  f_new : slice_get (rows_moved watches c at f to) (code_of f) ≡ Some (swap_remove (row_of watches f) at 0)
  f_new = set_here more (code_of f) (row_of watches f) (swap_remove (row_of more f) at 0) f_more ∙ ap (λ r. Some (swap_remove r at 0)) f_same

  pub moved_row : row_of (rows_moved watches c at f to) f ≡ swap_remove (row_of watches f) at 0
  moved_row = get_or_from_slice_get (rows_moved watches c at f to) (code_of f) _ [] f_new

  pub moved_length : length (rows_moved watches c at f to) ≡ length watches
  moved_length = length_set more (code_of f) _ ∙ length_set watches (code_of to) _

  pub moved_here : Listed (rows_moved watches c at f to) to c
  moved_here = record {
    row = row_of watches to ++ c ∷ [];
    is = set_other more (code_of f) (code_of to) _ (λ e. apart (sym e)) ∙ set_here watches (code_of to) (row_of watches to) _ to_row;
    at = length (row_of watches to);
    there = push_here (row_of watches to) c;
  }

  pub moved_listed : (w : Lit) (d : ℕ) → Listed watches w d → (d ≡ c → code_of f ≡ code_of w → ⊥) → Listed (rows_moved watches c at f to) w d
  moved_listed w d old other =
      ⊎_elim
      (λ (e : code_of f ≡ code_of w).
      let row : old.row ≡ row_of watches f = same_Some old.row (row_of watches f) (sym old.is ∙ ap (slice_get watches) (sym e) ∙ f_row) in
      let there : slice_get (row_of watches f) old.at ≡ Some d = subst (λ r. slice_get r old.at ≡ Some d) row old.there in
      let kept = removed_keeps (row_of watches f) at old.at d (slice_get_within (row_of watches f) at c here) there
      (λ g. other (same_Some d c (sym there ∙ ap (slice_get (row_of watches f)) (sym g) ∙ here)) e) in
      record { row = swap_remove (row_of watches f) at 0; is = ap (slice_get (rows_moved watches c at f to)) (sym e) ∙ f_new; at = kept.0; there = kept.1 })
      (λ (n : code_of f ≡ code_of w → ⊥). ⊎_elim
      (λ (e : code_of to ≡ code_of w).
      let row : old.row ≡ row_of watches to = same_Some old.row (row_of watches to) (sym old.is ∙ ap (slice_get watches) (sym e) ∙ to_row) in
      let there : slice_get (row_of watches to) old.at ≡ Some d = subst (λ r. slice_get r old.at ≡ Some d) row old.there in
      record {
        row = row_of watches to ++ c ∷ [];
        is = set_other more (code_of f) (code_of w) _ n ∙ ap (slice_get more) (sym e) ∙ set_here watches (code_of to) (row_of watches to) _ to_row;
        at = old.at;
        there = push_old (row_of watches to) c d old.at there;
      })
      (λ (m : code_of to ≡ code_of w → ⊥). record {
        row = old.row;
        is = set_other more (code_of f) (code_of w) _ n ∙ set_other watches (code_of to) (code_of w) _ m ∙ old.is;
        at = old.at;
        there = old.there;
      })
      (cases_eq (code_of to) (code_of w)))
      (cases_eq (code_of f) (code_of w))
