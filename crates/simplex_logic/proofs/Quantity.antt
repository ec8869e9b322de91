-- The numbers that a simplex may meet, and that a pivot's operands are such numbers.
use Rattle.std.proofs.Common.{◌≡◌, ℕ, zero, suc, ◌<◌, ◌≢◌, List, [], ◌∷◌, length, get_or, set, refl, sym, ap, ◌∙◌, subst, arith, pos}
use Rattle.rationals.specs.Rational.{ℚ, zero_ℚ, one_ℚ, ◌*ℚ◌}
use Rattle.rationals.proofs.Ring.{con}
use Rattle.rationals.proofs.RingQ.{coef}
use Rattle.rationals.proofs.Linear.{◌≈◌}
use Rattle.rationals.proofs.OrderQ.{signs_ℚ}
use Rattle.rationals.proofs.Finder.{lin_false}
use Rattle.rationals.specs.Delta.{Delta}
use Rattle.simplex_logic.specs.Forms.{Form, Rows}
use Rattle.simplex_logic.specs.Vectors.{dot, at, pivot_row, read, zeros}
use Rattle.simplex_logic.proofs.Dense.{pivot_value}
use Rattle.simplex_logic.proofs.Table.{length-read, read-set, at-read, length_set_ℕ}
use Rattle.simplex_logic.specs.Tables.{Tabled, pivoted, rowless}
use Rattle.simplex_logic.proofs.Pivot.{pivot_tabled, length_pivot}
use Rattle.simplex_logic.proofs.Grow.{length-zeros}
use Rattle.simplex_logic.specs.Quantities.{Basis, Entry, Expression, Near, Quantity, entry_is, near_is, product}

one_not_zero : one_ℚ ≡ zero_ℚ → ⊥
one_not_zero e = lin_false signs_ℚ [] ((con (coef (pos 1) 0) ≈ con (coef (pos 0) 0)) ∷ []) tt (e, tt)

-- a list with 1 in one place
abbrev unit : ℕ → ℕ → List ℚ
unit zero k = []
unit (suc n) zero = one_ℚ ∷ zeros n
unit (suc n) (suc k) = zero_ℚ ∷ unit n k

length-unit : (n k : ℕ) → length (unit n k) ≡ n
length-unit zero k = refl
length-unit (suc n) zero = ap suc (length-zeros n)
length-unit (suc n) (suc k) = ap suc (length-unit n k)

at-zeros : (n k : ℕ) → at (zeros n) k ≡ zero_ℚ
at-zeros zero k = refl
at-zeros (suc n) zero = refl
at-zeros (suc n) (suc k) = at-zeros n k

at-unit : (n k : ℕ) → k < n → at (unit n k) k ≡ one_ℚ
at-unit zero k h = absurd (omega arith)
at-unit (suc n) zero h = refl
at-unit (suc n) (suc k) h = at-unit n k (omega arith)

at-unit_later : (n k l : ℕ) → k < l → at (unit n k) l ≡ zero_ℚ
at-unit_later zero k l h = refl
at-unit_later (suc n) zero zero h = absurd (omega arith)
at-unit_later (suc n) zero (suc l) h = at-zeros n l
at-unit_later (suc n) (suc k) zero h = absurd (omega arith)
at-unit_later (suc n) (suc k) (suc l) h = at-unit_later n k l (omega arith)

module _ (rows : Rows) (n : ℕ) (cols : List ℕ) (tab : ℕ → List ℚ) (t : Tabled rows n cols tab) where
  before : (k l m : ℕ) → k < l → l < m → k < m
  before k l m h p = omega arith

  pub columns_different : (k l : ℕ) → k < l → l < length cols → get_or cols k 0 ≡ get_or cols l 0 → ⊥
  columns_different k l h p e =
      let m = length cols in let y = unit m k in let σ : ℕ → ℚ = λ c. dot (tab c) y in
      let o : read σ cols ≡ y = t.own y (length-unit m k) in
      let a : one_ℚ ≡ σ (get_or cols k 0) = sym (at-unit m k (before k l m h p)) ∙ ap (λ z. at z k) (sym o) ∙ at-read σ cols k (before k l m h p) in
      let b : zero_ℚ ≡ σ (get_or cols l 0) = sym (at-unit_later m k l h) ∙ ap (λ z. at z l) (sym o) ∙ at-read σ cols l p in
      one_not_zero (a ∙ ap σ e ∙ sym b)

  pub tabled_expression : (v : ℕ) → v < n → Expression rows v cols (tab v)
  tabled_expression v h = record { long = t.width v h; is = λ σ g. t.expressed σ g v h }

  pub tabled_basis : length cols ≡ rowless rows n → Basis rows n cols
  tabled_basis m = record { different = columns_different; many = m; each = λ v h. (tab v, tabled_expression v h) }

  pub tabled_entry : (v k : ℕ) → v < n → k < length cols → Entry rows v cols k (at (tab v) k)
  tabled_entry v k h p = record { coefficients = tab v; expressed = tabled_expression v h; inside = p; is = refl }

module _ (rows : Rows) (n : ℕ) (handed : Form → Type 0) (cols : List ℕ) (tab : ℕ → List ℚ) (C : List Delta) (t : Tabled rows n cols tab) (many : length cols ≡ rowless rows n)
    (s j : ℕ) (hs : s < n) (hj : j < length cols) (nz : at (tab s) j ≢ zero_ℚ) where
  abbrev B' : List ℕ
  B' = set cols j s

  near : Near rows n cols B'
  near = record {
    place = j;
    by = s;
    inside = hj;
    changed = refl;
    basis = tabled_basis rows n B' (pivoted s j tab) (pivot_tabled rows n cols tab s j t hs hj nz) (length_set_ℕ cols j s ∙ many);
  }

  -- the pivot row is the expression of the variable that enters
  pivot_expression : Expression rows (get_or cols j 0) B' (pivot_row j (tab s))
  pivot_expression = record {
    long = length_pivot j (tab s) ∙ t.width s hs ∙ sym (length_set_ℕ cols j s);
    is = λ σ g.
        let ys = read σ cols in let l = length-read σ cols in
        sym (at-read σ cols j hj)
        ∙ sym (pivot_value (tab s) ys j (σ s) (subst (λ m. j < m) (sym (t.width s hs)) hj) (subst (λ m. j < m) (sym l) hj) nz (t.expressed σ g s hs))
        ∙ ap (λ y. dot (pivot_row j (tab s)) y) (sym (read-set σ cols j s));
  }

  pivot_entry : (k : ℕ) → k < length cols → Entry rows (get_or cols j 0) B' k (at (pivot_row j (tab s)) k)
  pivot_entry k h = record { coefficients = pivot_row j (tab s); expressed = pivot_expression; inside = subst (λ m. k < m) (sym (length_set_ℕ cols j s)) h; is = refl }

  abbrev Counts : ℚ → Type 0
  Counts = Quantity rows n handed cols C

  -- the operands of each division of the pivot row
  pub divide_left : (k : ℕ) → k < length cols → Counts (at (tab s) k)
  divide_left k h = entry_is s k (tabled_entry rows n cols tab t s k hs h)

  pub divide_right : Counts (at (tab s) j)
  divide_right = entry_is s j (tabled_entry rows n cols tab t s j hs hj)

  -- the operands of each product: the entry in column j, and a number of the pivot row
  pub times_left : (v : ℕ) → v < n → Counts (at (tab v) j)
  times_left v h = entry_is v j (tabled_entry rows n cols tab t v j h hj)

  pub times_right : (k : ℕ) → k < length cols → Counts (at (pivot_row j (tab s)) k)
  times_right k h = near_is B' (get_or cols j 0) k near (pivot_entry k h)

  -- the operands of each sum
  pub plus_left : (v k : ℕ) → v < n → k < length cols → Counts (at (tab v) k)
  plus_left v k h p = entry_is v k (tabled_entry rows n cols tab t v k h p)

  pub plus_right : (v k : ℕ) → v < n → k < length cols → Counts (at (tab v) j *ℚ at (pivot_row j (tab s)) k)
  plus_right v k h p = product B' v j (get_or cols j 0) k (at (tab v) j) (at (pivot_row j (tab s)) k) (tabled_entry rows n cols tab t v j h hj) near (pivot_entry k p) refl
