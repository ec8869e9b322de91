-- The operands of a new row's sums and of the values' sums are quantities; the columns stay the same set under an exchange.
use Rattle.std.proofs.Common.{◌≡◌, ℕ, zero, suc, ◌<◌, Bool, true, false, eqb, List, [], ◌∷◌, ◌++◌, length, set, take, None, Some, refl, sym, ap, ◌∙◌, subst, arith}
use Rattle.rationals.specs.Rational.{ℚ, zero_ℚ, ◌+ℚ◌, ◌*ℚ◌}
use Rattle.rationals.proofs.RingQ as Q
use Rattle.rationals.specs.Delta.{Delta}
use Rattle.rationals.proofs.Delta.{zero-mul}
use Rattle.simplex_logic.specs.Forms.{Term, Form, Rows, Below}
use Rattle.simplex_logic.specs.Vectors.{dot, at, add_rows, scale_row, replaced, flip, zeros, summed, parts}
use Rattle.simplex_logic.proofs.Dense.{at-scale, length-scale}
use Rattle.simplex_logic.specs.Tables.{Tabled, rowless, Sorted, is_column}
use Rattle.simplex_logic.proofs.Grow.{length-zeros, length-summed, length-last}
use Rattle.simplex_logic.specs.Quantities.{PartSum, empty, further, Quantity, entry_is, stands_at, vertex_product, vertex_sum, Vertex}
use Rattle.simplex_logic.proofs.Quantity.{tabled_entry, tabled_expression}

-- ---- exchanged columns are the same set
abbrev either_of : Bool → Bool → Bool
either_of p r = elim p [ true ↦ true | false ↦ r ]

two : (p q r : Bool) → either_of p (either_of q r) ≡ either_of q (either_of p r)
two true true r = refl
two true false r = refl
two false true r = refl
two false false r = refl

pub is_column-flip : (k : ℕ) (cs : List ℕ) (x : ℕ) → is_column (flip k cs) x ≡ is_column cs x
is_column-flip zero (a ∷ b ∷ cs) x = two (eqb x b) (eqb x a) (is_column cs x)
is_column-flip zero (a ∷ []) x = refl
is_column-flip zero [] x = refl
is_column-flip (suc k) (c ∷ cs) x = ap (either_of (eqb x c)) (is_column-flip k cs x)
is_column-flip (suc k) [] x = refl

-- ---- a new row, one term at a time
pub summed-more : (tab : ℕ → List ℚ) (acc : List ℚ) (f : Form) (t : Term) → summed tab acc (f ++ t ∷ []) ≡ add_rows (summed tab acc f) (scale_row t.by (tab t.of))
summed-more tab acc [] t = refl
summed-more tab acc (u ∷ f) t = summed-more tab (add_rows acc (scale_row u.by (tab u.of))) f t

pub at_add : (xs ys : List ℚ) (k : ℕ) → length xs ≡ length ys → k < length xs → at (add_rows xs ys) k ≡ at xs k +ℚ at ys k
at_add [] ys k h l = absurd (omega arith)
at_add (x ∷ xs) [] k h l = absurd (omega arith)
at_add (x ∷ xs) (y ∷ ys) zero h l = refl
at_add (x ∷ xs) (y ∷ ys) (suc k) h l = at_add xs ys k (omega arith) (omega arith)

at-zeros : (n k : ℕ) → at (zeros n) k ≡ zero_ℚ
at-zeros zero k = refl
at-zeros (suc n) zero = refl
at-zeros (suc n) (suc k) = at-zeros n k

module _ (rows : Rows) (n : ℕ) (cols : List ℕ) (tab : ℕ → List ℚ) (t : Tabled rows n cols tab) (k : ℕ) (h : k < length cols) where
  pub sum_none : PartSum rows cols k [] (at (summed tab (zeros (length cols)) []) k)
  sum_none = subst (λ q. PartSum rows cols k [] q) (sym (at-zeros (length cols) k)) empty

  pub sum_more : (f : Form) (u : Term) → Below n f → u.of < n → PartSum rows cols k f (at (summed tab (zeros (length cols)) f) k)
      → PartSum rows cols k (f ++ u ∷ []) (at (summed tab (zeros (length cols)) (f ++ u ∷ [])) k)
  sum_more f u b l s =
      let acc = summed tab (zeros (length cols)) f in
      let w : length acc ≡ length cols = length-summed tab (zeros (length cols)) n (length cols) f (length-zeros (length cols)) b t.width in
      let e : at (summed tab (zeros (length cols)) (f ++ u ∷ [])) k ≡ at acc k +ℚ u.by *ℚ at (tab u.of) k =
      ap (λ r. at r k) (summed-more tab (zeros (length cols)) f u)
      ∙ at_add acc (scale_row u.by (tab u.of)) k (w ∙ sym (length-scale u.by (tab u.of) ∙ t.width u.of l)) (subst (λ m. k < m) (sym w) h)
      ∙ ap (λ v. at acc k +ℚ v) (at-scale u.by (tab u.of) k) in
      subst (λ q. PartSum rows cols k (f ++ u ∷ []) q) (sym e) (further f (at acc k) u (at (tab u.of) k) s (tabled_entry rows n cols tab t u.of k l h))

-- ---- the values, one column at a time
module _ (rows : Rows) (n : ℕ) (handed : Form → Type 0) (cols : List ℕ) (tab : ℕ → List ℚ) (C : List Delta) (t : Tabled rows n cols tab) (y : List Delta) (corner : Vertex cols C y) (v : ℕ) (hv : v < n) where
  abbrev Counts : ℚ → Type 0
  Counts = Quantity rows n handed cols C

  pub value_times_left : (k : ℕ) → k < length cols → Counts (at (tab v) k)
  value_times_left k h = entry_is v k (tabled_entry rows n cols tab t v k hv h)

  pub value_times_right : (b : Bool) (k : ℕ) → k < length cols → Counts (at (parts b y) k)
  value_times_right b k h = stands_at b y k corner h refl

  pub value_plus_left : (b : Bool) (k : ℕ) → Sorted cols → Counts (dot (take k (tab v)) (parts b y))
  value_plus_left b k o = vertex_sum b y v k (tab v) corner o (tabled_expression rows n cols tab t v hv) refl

  pub value_plus_right : (b : Bool) (k : ℕ) → k < length cols → Counts (at (tab v) k *ℚ at (parts b y) k)
  value_plus_right b k h = vertex_product b y v k (at (tab v) k) corner (tabled_entry rows n cols tab t v k hv h) refl

-- ---- a row with 0 in the column stays
add_none : (xs ys : List ℚ) → length xs ≡ length ys → add_rows xs (scale_row zero_ℚ ys) ≡ xs
add_none [] [] h = refl
add_none [] (y ∷ ys) h = absurd (omega arith)
add_none (x ∷ xs) [] h = absurd (omega arith)
add_none (x ∷ xs) (y ∷ ys) h =
    let e : x +ℚ zero_ℚ *ℚ y ≡ x = ap (λ v. x +ℚ v) (zero-mul y) ∙ Q.add-zero x in let r = add_none xs ys (omega arith) in cc

set_self : (xs : List ℚ) (j : ℕ) → set xs j (at xs j) ≡ xs
set_self [] j = refl
set_self (x ∷ xs) zero = refl
set_self (x ∷ xs) (suc j) = ap (λ l. x ∷ l) (set_self xs j)

pub replaced_same : (j : ℕ) (p b : List ℚ) → at b j ≡ zero_ℚ → length p ≡ length b → replaced j p b ≡ b
replaced_same j p b e h =
    ap (λ q. add_rows (set b j zero_ℚ) (scale_row q p)) e ∙ ap (λ q. add_rows (set b j q) (scale_row zero_ℚ p)) (sym e)
    ∙ ap (λ l. add_rows l (scale_row zero_ℚ p)) (set_self b j) ∙ add_none b p (sym h)

-- ---- as many columns as variables with no row
pub many-variable : (rows : Rows) (n : ℕ) (cols : List ℕ) → rows n ≡ None → length cols ≡ rowless rows n → length (cols ++ n ∷ []) ≡ rowless rows (suc n)
many-variable rows n cols e h = length-last cols n ∙ ap suc h ∙ sym (ap (λ o. elim o [ None ↦ suc (rowless rows n) | Some f ↦ rowless rows n ]) e)

pub rowless_same : (rows rows' : Rows) (n : ℕ) → ((v : ℕ) → v < n → rows' v ≡ rows v) → rowless rows' n ≡ rowless rows n
rowless_same rows rows' zero h = refl
rowless_same rows rows' (suc n) h =
    let r = rowless_same rows rows' n (λ v p. h v (omega arith)) in
    ap (λ o. elim o [ None ↦ suc (rowless rows' n) | Some f ↦ rowless rows' n ]) (h n (omega arith)) ∙ ap (λ m. elim (rows n) [ None ↦ suc m | Some f ↦ m ]) r

pub many-row : (rows rows' : Rows) (n : ℕ) (cols : List ℕ) (f : Form) → rows' n ≡ Some f → ((v : ℕ) → v < n → rows' v ≡ rows v) → length cols ≡ rowless rows n → length cols ≡ rowless rows' (suc n)
many-row rows rows' n cols f e h m = m ∙ sym (rowless_same rows rows' n h) ∙ sym (ap (λ o. elim o [ None ↦ suc (rowless rows' n) | Some f ↦ rowless rows' n ]) e)
