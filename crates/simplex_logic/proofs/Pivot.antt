-- What the table of all variables keeps, through pivots.
use Rattle.std.proofs.Common.{◌≡◌, ℕ, zero, suc, ◌<◌, ◌≢◌, List, [], ◌∷◌, length, get_or, set, refl, sym, ap, ◌∙◌, subst, arith}
use Rattle.rationals.specs.Rational.{ℚ, zero_ℚ, neg_ℚ, inv_ℚ}
use native.Mathlib.Decide.{ℕ_discrete}
use Rattle.simplex_logic.specs.Forms.{Form, value, Below, Rows, Solves}
use Rattle.simplex_logic.specs.Vectors.{dot, at, pivot_row, scale_row, read}
use Rattle.simplex_logic.proofs.Dense.{pivot_value, length-scale}
use Rattle.simplex_logic.proofs.Table.{length-read, read-set, set_back, set_set, length_set, length_set_ℕ, length_replaced, dot_replaced, pivot_self}
use Rattle.simplex_logic.specs.Tables.{Tabled, pivoted}

pub value_same : (σ τ : ℕ → ℚ) (n : ℕ) (f : Form) → Below n f → ((x : ℕ) → x < n → σ x ≡ τ x) → value σ f ≡ value τ f
value_same σ τ n [] b h = refl
value_same σ τ n (t ∷ f) b h = let a = h t.of b.0 in let e = value_same σ τ n f b.1 h in cc

pub length_pivot : (j : ℕ) (xs : List ℚ) → length (pivot_row j xs) ≡ length xs
length_pivot j xs = length_set (scale_row (neg_ℚ (inv_ℚ (at xs j))) xs) j (inv_ℚ (at xs j)) ∙ length-scale (neg_ℚ (inv_ℚ (at xs j))) xs

pub read_same : (σ τ : ℕ → ℚ) (cs : List ℕ) → ((k : ℕ) → k < length cs → σ (get_or cs k 0) ≡ τ (get_or cs k 0)) → read σ cs ≡ read τ cs
read_same σ τ [] h = refl
read_same σ τ (c ∷ cs) h = let a = h 0 (omega arith) in let e = read_same σ τ cs (λ k p. h (suc k) (omega arith)) in cc

pub get_set_ℕ : (cs : List ℕ) (j k s : ℕ) → (j ≡ k → ⊥) → get_or (set cs j s) k 0 ≡ get_or cs k 0
get_set_ℕ [] j k s h = refl
get_set_ℕ (c ∷ cs) zero zero s h = absurd (h refl)
get_set_ℕ (c ∷ cs) zero (suc k) s h = refl
get_set_ℕ (c ∷ cs) (suc j) zero s h = refl
get_set_ℕ (c ∷ cs) (suc j) (suc k) s h = get_set_ℕ cs j k s (λ e. h (ap suc e))

pub get_here_ℕ : (cs : List ℕ) (j s : ℕ) → j < length cs → get_or (set cs j s) j 0 ≡ s
get_here_ℕ [] j s h = absurd (omega arith)
get_here_ℕ (c ∷ cs) zero s h = refl
get_here_ℕ (c ∷ cs) (suc j) s h = get_here_ℕ cs j s (omega arith)

-- the columns' own values, all but that of column j
own_but : (σ : ℕ → ℚ) (cs : List ℕ) (y : List ℚ) (j s : ℕ) (d : ℚ) → j < length y → read σ cs ≡ set y j d → σ s ≡ at y j → read σ (set cs j s) ≡ y
own_but σ cs y j s d h e f = read-set σ cs j s ∙ ap (λ l. set l j (σ s)) e ∙ set_set y j d (σ s) ∙ ap (λ z. set y j z) f ∙ self y j h
  where
    self : (y : List ℚ) (j : ℕ) → j < length y → set y j (at y j) ≡ y
    self [] j h = refl
    self (z ∷ y) zero h = refl
    self (z ∷ y) (suc j) h = ap (λ l. z ∷ l) (self y j (omega arith))

module _ (rows : Rows) (n : ℕ) (cols : List ℕ) (tab : ℕ → List ℚ) (s j : ℕ) (t : Tabled rows n cols tab) (hs : s < n) (hj : j < length cols) (nz : at (tab s) j ≢ zero_ℚ) where
  abbrev p : List ℚ
  p = pivot_row j (tab s)

  p_long : length p ≡ length cols
  p_long = length_pivot j (tab s) ∙ t.width s hs

  -- a new row at y is the old row at y with column j's old value
  pub row_then : (v : ℕ) (y : List ℚ) → v < n → length y ≡ length cols → dot (pivoted s j tab v) y ≡ dot (tab v) (set y j (dot p y))
  row_then v y h l = let w = t.width v h in let q = p_long in dot_replaced j p (tab v) y (q ∙ sym w) (subst (λ m. j < m) (sym w) hj) (subst (λ m. j < m) (sym l) hj)

  long_set : (y : List ℚ) → length y ≡ length cols → length (set y j (dot p y)) ≡ length cols
  long_set y l = length_set y j (dot p y) ∙ l

  own_then : (y : List ℚ) → length y ≡ length cols → read (λ c. dot (pivoted s j tab c) y) (set cols j s) ≡ y
  own_then y l =
      own_but (λ c. dot (pivoted s j tab c) y) cols y j s (dot p y) (subst (λ m. j < m) (sym l) hj)
      (read_same (λ c. dot (pivoted s j tab c) y) (λ c. dot (tab c) (set y j (dot p y))) cols (λ k h. row_then (get_or cols k 0) y (t.named k h) l) ∙ t.own (set y j (dot p y)) (long_set y l))
      (row_then s y hs l ∙ pivot_self (tab s) y j (subst (λ m. j < m) (sym (t.width s hs)) hj) (subst (λ m. j < m) (sym l) hj) nz)

  linear_then : (y : List ℚ) → length y ≡ length cols → Solves rows (λ v. dot (pivoted s j tab v) y)
  linear_then y l v f e =
      let k = t.known v f e in
      row_then v y k.0 l ∙ t.linear (set y j (dot p y)) (long_set y l) v f e
      ∙ value_same (λ x. dot (tab x) (set y j (dot p y))) (λ x. dot (pivoted s j tab x) y) n f k.1 (λ x h. sym (row_then x y h l))

  expressed_then : (σ : ℕ → ℚ) → Solves rows σ → (v : ℕ) → v < n → σ v ≡ dot (pivoted s j tab v) (read σ (set cols j s))
  expressed_then σ g v h =
      let ys = read σ cols in let l = length-read σ cols in
      let lj : j < length ys = subst (λ m. j < m) (sym l) hj in
      let r : dot p (set ys j (σ s)) ≡ at ys j = pivot_value (tab s) ys j (σ s) (subst (λ m. j < m) (sym (t.width s hs)) hj) lj nz (t.expressed σ g s hs) in
      let e : set (set ys j (σ s)) j (dot p (set ys j (σ s))) ≡ ys = ap (λ z. set (set ys j (σ s)) j z) r ∙ set_back ys j (σ s) in
      t.expressed σ g v h ∙ ap (λ y. dot (tab v) y) (sym e)
      ∙ sym (row_then v (set ys j (σ s)) h (length_set ys j (σ s) ∙ l)) ∙ ap (λ y. dot (pivoted s j tab v) y) (sym (read-set σ cols j s))

  named_then : (k : ℕ) (d : Dec (j ≡ k)) → k < length cols → get_or (set cols j s) k 0 < n
  named_then k (yes e) h = subst (λ i. get_or (set cols j s) i 0 < n) e (subst (λ z. z < n) (sym (get_here_ℕ cols j s hj)) hs)
  named_then k (no d) h = subst (λ z. z < n) (sym (get_set_ℕ cols j k s d)) (t.named k h)

  pub pivot_tabled : Tabled rows n (set cols j s) (pivoted s j tab)
  pivot_tabled = let lc = length_set_ℕ cols j s in record {
    known = t.known;
    named = λ k h. named_then k (ℕ_discrete j k) (omega arith);
    width = λ v h. length_replaced j p (tab v) (p_long ∙ sym (t.width v h)) ∙ t.width v h ∙ sym lc;
    own = λ y l. own_then y (l ∙ lc);
    linear = λ y l. linear_then y (l ∙ lc);
    expressed = expressed_then;
  }

-- the same rows and coefficients, written in another way
pub tabled_alike : (rows rows' : Rows) (n : ℕ) (cols : List ℕ) (tab tab' : ℕ → List ℚ) → Tabled rows n cols tab → ((v : ℕ) → rows' v ≡ rows v) → ((v : ℕ) → v < n → tab' v ≡ tab v) → Tabled rows' n cols tab'
tabled_alike rows rows' n cols tab tab' t r e = record {
  known = λ v f g. t.known v f (sym (r v) ∙ g);
  named = t.named;
  width = λ v h. ap length (e v h) ∙ t.width v h;
  own = λ y l. read_same (λ c. dot (tab' c) y) (λ c. dot (tab c) y) cols (λ k h. ap (λ b. dot b y) (e (get_or cols k 0) (t.named k h))) ∙ t.own y l;
  linear = λ y l v f g.
      let q = sym (r v) ∙ g in let k = t.known v f q in
      ap (λ b. dot b y) (e v k.0) ∙ t.linear y l v f q ∙ value_same (λ x. dot (tab x) y) (λ x. dot (tab' x) y) n f k.1 (λ x h. sym (ap (λ b. dot b y) (e x h)));
  expressed = λ σ g v h. t.expressed σ (λ x f q. g x f (r x ∙ q)) v h ∙ sym (ap (λ b. dot b (read σ cols)) (e v h));
}
