-- The sum of the rows of a form's variables, one term more at a time.
use Rattle.std.proofs.Common.{◌≡◌, ℕ, zero, suc, ◌+◌, ◌<◌, ◌≤◌, inr, List, [], ◌∷◌, ◌++◌, Some, All, slice_get, length, get_or, take, refl, sym, ap, ◌∙◌, subst, arith}
use Rattle.rationals.specs.Rational.{ℚ, zero_ℚ, ◌*ℚ◌}
use Rattle.rationals.specs.Delta.{Delta}
use Rattle.fraction128.specs.declared.errors.Wide.{Wide}
use Rattle.simplex_logic.specs.Forms.{Term, row_of, Below}
use Rattle.simplex_logic.specs.Vectors.{at, add_rows, scale_row, summed, zeros}
use Rattle.simplex_logic.specs.Quantities.{PartSum, Quantity, entry_is, handed_is, handed_product, handed_sum}
use Rattle.simplex_logic.proofs.Grow.{length-summed, length-zeros}
use Rattle.simplex_logic.proofs.Operands.{sum_none, sum_more, summed-more}
use Rattle.simplex_logic.proofs.Quantity.{tabled_entry}
use Rattle.simplex_table.specs.Causes.{WideAlong, Summing, multiplied, added}
use Rattle.simplex_table.specs.View.{State, Sound, form_of, row_at, WideIn, KnownOr}
use Rattle.simplex_table.proofs.Pivoting.{read_row}
use Rattle.simplex_table.proofs.Soundness.{below_form}
use Rattle.simplex_table.proofs.Widths.{wide_in}

abbrev term : ℕ × ℚ → Term
term t = record { by = t.1; of = t.0 }

pub take-form : (k : ℕ) (row : List (ℕ × ℚ)) → take k (form_of row) ≡ form_of (take k row)
take-form zero row = refl
take-form (suc k) [] = refl
take-form (suc k) (t ∷ row) = ap (λ l. term t ∷ l) (take-form k row)

form_next : (k : ℕ) (row : List (ℕ × ℚ)) (t : ℕ × ℚ) → k < length row → t ≡ get_or row k t → form_of (take (suc k) row) ≡ form_of (take k row) ++ term t ∷ []
form_next k [] t h e = absurd (omega arith)
form_next zero (u ∷ row) t h e = ap (λ x. term x ∷ []) (sym e)
form_next (suc k) (u ∷ row) t h e = ap (λ l. term u ∷ l) (form_next k row t (omega arith) e)

suc_is : (k : ℕ) → suc k ≡ k + 1
suc_is k = omega arith

-- the first terms, one more
pub form_more : (k : ℕ) (row : List (ℕ × ℚ)) (t : ℕ × ℚ) → k < length row → t ≡ get_or row k t → form_of (take (k + 1) row) ≡ form_of (take k row) ++ term t ∷ []
form_more k row t h e = ap (λ n. form_of (take n row)) (sym (suc_is k)) ∙ form_next k row t h e

-- a term of the form
pub get_term : (k : ℕ) (row : List (ℕ × ℚ)) (t : ℕ × ℚ) → k < length row → t ≡ get_or row k t → slice_get (form_of row) k ≡ Some (term t)
get_term k [] t h e = absurd (omega arith)
get_term zero (u ∷ row) t h e = ap (λ x. Some (term x)) (sym e)
get_term (suc k) (u ∷ row) t h e = get_term k row t (omega arith) e

below_take : (n k : ℕ) (row : List (ℕ × ℚ)) → Below n (form_of row) → Below n (form_of (take k row))
below_take n zero row h = tt
below_take n (suc k) [] h = tt
below_take n (suc k) (t ∷ row) h = (h.0, below_take n k row h.1)

module _ (s : State) (h : Sound s) (row : List (ℕ × ℚ)) (b : All (λ t. t.0 < length s.rows) row) where
  abbrev sum_of : ℕ → List ℚ
  sum_of k = summed (row_at s.table) (zeros (length s.columns)) (form_of (take k row))

  within : (k : ℕ) → Below (length s.rows) (form_of (take k row))
  within k = below_take (length s.rows) k row (below_form (length s.rows) row b)

  -- the variable of a term exists
  pub term_known : (k : ℕ) (t : ℕ × ℚ) → k < length row → t ≡ get_or row k t → t.0 < length s.rows
  term_known k t p e = subst (λ (u : ℕ × ℚ). u.0 < length s.rows) (sym e) (b k t p)

  pub sum_long : (k : ℕ) → length (sum_of k) ≡ length s.columns
  sum_long k = length-summed (row_at s.table) (zeros (length s.columns)) (length s.rows) (length s.columns) (form_of (take k row)) (length-zeros (length s.columns)) (within k) h.tabled.width

  -- the sum and the next row have one length
  pub same_width : (k : ℕ) (t : ℕ × ℚ) (r sum : List ℚ) → k < length row → t ≡ get_or row k t → r ≡ get_or s.table t.0 r → sum ≡ sum_of k → length r ≡ length sum
  same_width k t r sum p e f g =
      let q = term_known k t p e in ap length (read_row s t.0 r h q f) ∙ h.tabled.width t.0 q ∙ sym (sum_long k) ∙ ap length (sym g)

  -- one term more
  pub sum_next : (k : ℕ) (t : ℕ × ℚ) (r sum sum' : List ℚ) → k < length row → t ≡ get_or row k t → r ≡ get_or s.table t.0 r → sum ≡ sum_of k → sum' ≡ add_rows sum (scale_row t.1 r) → sum' ≡ sum_of (k + 1)
  sum_next k t r sum sum' p e f g i =
      let q = term_known k t p e in
      i ∙ ap (λ x. add_rows x (scale_row t.1 r)) g ∙ ap (λ x. add_rows (sum_of k) (scale_row t.1 x)) (read_row s t.0 r h q f)
      ∙ sym (summed-more (row_at s.table) (zeros (length s.columns)) (form_of (take k row)) (term t)) ∙ ap (summed (row_at s.table) (zeros (length s.columns))) (sym (form_more k row t p e))

  -- a column's number in the sum so far is a sum of the first products
  part_sum : (k column : ℕ) → k ≤ length row → column < length s.columns → PartSum (row_of s.rows) s.columns column (form_of (take k row)) (at (sum_of k) column)
  part_sum zero column p q = sum_none (row_of s.rows) (length s.rows) s.columns (row_at s.table) h.tabled column q
  part_sum (suc k) column p q =
      let t = get_or row k (0, zero_ℚ) in
      let e : form_of (take (suc k) row) ≡ form_of (take k row) ++ term t ∷ [] = form_next k row t (omega arith) (same row k (0, zero_ℚ) t (omega arith)) in
      subst (λ f. PartSum (row_of s.rows) s.columns column f (at (summed (row_at s.table) (zeros (length s.columns)) f) column)) (sym e)
      (sum_more (row_of s.rows) (length s.rows) s.columns (row_at s.table) h.tabled column q (form_of (take k row)) (term t) (within k) (b k (0, zero_ℚ) (omega arith)) (part_sum k column (omega arith) q))
    where
      same : (xs : List (ℕ × ℚ)) (k : ℕ) (d e : ℕ × ℚ) → k < length xs → get_or xs k d ≡ get_or xs k e
      same [] k d e p = absurd (omega arith)
      same (x ∷ xs) zero d e p = refl
      same (x ∷ xs) (suc k) d e p = same xs k d e (omega arith)

  -- the operands where a term's row is added
  pub wide_sum : (C : List Delta) (k : ℕ) (t : ℕ × ℚ) (r sum : List ℚ) (w : Wide) → k < length row → t ≡ get_or row k t → r ≡ get_or s.table t.0 r → sum ≡ sum_of k → WideAlong (length sum) (Summing sum t.1 r) w → WideIn s (KnownOr s (form_of row)) C w
  wide_sum C k t r sum w p e f g a =
      wide_in s (KnownOr s (form_of row)) C w (Summing sum t.1 r a.column) h a.by both
    where
      known : t.0 < length s.rows
      known = term_known k t p e

      inside : a.column < length s.columns
      inside = subst (λ n. a.column < n) (ap length g ∙ sum_long k) a.inside

      both : (l u : ℚ) → Summing sum t.1 r a.column l u
          → Quantity (row_of s.rows) (length s.rows) (KnownOr s (form_of row)) s.columns C l × Quantity (row_of s.rows) (length s.rows) (KnownOr s (form_of row)) s.columns C u
      both l u (multiplied x y) = (
        handed_is (form_of row) k (term t) (inr refl) (get_term k row t p e) x,
        subst (λ q. Quantity (row_of s.rows) (length s.rows) (KnownOr s (form_of row)) s.columns C q) (sym (y ∙ ap (λ z. at z a.column) (read_row s t.0 r h known f)))
            (entry_is t.0 a.column (tabled_entry (row_of s.rows) (length s.rows) s.columns (row_at s.table) h.tabled t.0 a.column known inside)),
      )
      both l u (added x y) = (
        handed_sum (form_of row) k a.column (inr refl) (subst (λ q. PartSum (row_of s.rows) s.columns a.column (take k (form_of row)) q) (sym (x ∙ ap (λ z. at z a.column) g))
            (subst (λ z. PartSum (row_of s.rows) s.columns a.column z (at (sum_of k) a.column)) (sym (take-form k row)) (part_sum k a.column (omega arith) inside))),
        handed_product (form_of row) k a.column (term t) (at (row_at s.table t.0) a.column) (inr refl) (get_term k row t p e)
            (tabled_entry (row_of s.rows) (length s.rows) s.columns (row_at s.table) h.tabled t.0 a.column known inside) (y ∙ ap (λ z. t.1 *ℚ at z a.column) (read_row s t.0 r h known f)),
      )
