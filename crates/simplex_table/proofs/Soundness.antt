-- What a tableau keeps, through each call.
use Rattle.std.proofs.Common.{◌≡◌, ◌≢◌, ℕ, zero, suc, ◌<◌, List, [], ◌∷◌, ◌++◌, Option, Some, None, All, length, get_or, set, map, refl, sym, ap, ◌∙◌, subst, arith}
use Rattle.std.proofs.lemmas.List.Elements.{All-head, All-tail}
use Rattle.rationals.specs.Rational.{ℚ, zero_ℚ, one_ℚ}
use Rattle.simplex_logic.specs.Forms.{Form, row_of, Below}
use Rattle.simplex_logic.specs.Tables.{Tabled, Sorted, rowless, pivoted}
use Rattle.simplex_logic.specs.Vectors.{at, zeros, summed, replaced, pivot_row}
use Rattle.simplex_logic.proofs.Bland.{Order3, less, same, more, compare}
use Rattle.simplex_logic.proofs.Grow.{variable_tabled, row_tabled, length-last}
use Rattle.simplex_logic.proofs.Operands.{many-variable, many-row, rowless_same}
use Rattle.simplex_logic.proofs.Pivot.{pivot_tabled, tabled_alike}
use Rattle.simplex_logic.proofs.Table.{length_set_ℕ}
use Rattle.simplex_table.specs.View.{State, Sound, row_at, form_of}
use Rattle.simplex_table.specs.Columns.{with_zero, Reordered, HaveLength}
use Rattle.simplex_table.proofs.Firsts.{get_mapped, length-map}

-- ---- lists with one item more
pub get_front : {A : Type 0} (xs ys : List A) (k : ℕ) (d : A) → k < length xs → get_or (xs ++ ys) k d ≡ get_or xs k d
get_front [] ys k d h = absurd (omega arith)
get_front (x ∷ xs) ys zero d h = refl
get_front (x ∷ xs) ys (suc k) d h = get_front xs ys k d (omega arith)

pub get_last : {A : Type 0} (xs : List A) (x d : A) → get_or (xs ++ x ∷ []) (length xs) d ≡ x
get_last [] x d = refl
get_last (y ∷ xs) x d = get_last xs x d

pub get_other : {A : Type 0} (xs : List A) (x d : A) (v : ℕ) → (v ≡ length xs → ⊥) → get_or (xs ++ x ∷ []) v d ≡ get_or xs v d
get_other [] x d zero h = absurd (h refl)
get_other [] x d (suc v) h = refl
get_other (y ∷ xs) x d zero h = refl
get_other (y ∷ xs) x d (suc v) h = get_other xs x d v (λ e. h (ap suc e))

get_past : {A : Type 0} (xs : List A) (d : A) → get_or xs (length xs) d ≡ d
get_past [] d = refl
get_past (x ∷ xs) d = get_past xs d

none_more : (rows : List (Option Form)) (v : ℕ) → row_of (rows ++ None ∷ []) v ≡ row_of rows v
none_more [] zero = refl
none_more [] (suc v) = refl
none_more (r ∷ rows) zero = refl
none_more (r ∷ rows) (suc v) = none_more rows v

sorted_more : (cols : List ℕ) (n : ℕ) → Sorted cols → ((k : ℕ) → k < length cols → get_or cols k 0 < n) → Sorted (cols ++ n ∷ [])
sorted_more cols n o b i l p q = by_place (compare l (length cols))
  where
    put : (a c d : ℕ) → a < c → d ≡ a → d < c
    put a c d h e = omega arith

    put_last : (a c d : ℕ) → a < c → d ≡ c → a < d
    put_last a c d h e = omega arith

    front : (k : ℕ) → k < length cols → get_or (cols ++ n ∷ []) k 0 ≡ get_or cols k 0
    front k h = get_front cols (n ∷ []) k 0 h

    by_place : Order3 l (length cols) → get_or (cols ++ n ∷ []) i 0 < get_or (cols ++ n ∷ []) l 0
    by_place (less h) = let a = front i (omega arith) in let c = front l h in let d = o i l p h in omega arith
    by_place (same e) =
        let h : i < length cols = omega arith in
        put_last (get_or (cols ++ n ∷ []) i 0) n (get_or (cols ++ n ∷ []) l 0) (put (get_or cols i 0) n (get_or (cols ++ n ∷ []) i 0) (b i h) (front i h)) (ap (λ k. get_or (cols ++ n ∷ []) k 0) e ∙ get_last cols n 0)
    by_place (more h) = let w = length-last cols n in absurd (omega arith)

-- ---- a new variable
pub sound_variable : (s : State) → Sound s
    → Sound (record { rows = s.rows ++ None ∷ []; columns = s.columns ++ length s.rows ∷ []; table = map with_zero s.table ++ (zeros (length s.columns) ++ one_ℚ ∷ []) ∷ [] })
sound_variable s h =
    let rows = row_of s.rows in let rows' = row_of (s.rows ++ None ∷ []) in let n = length s.rows in
    let table' = map with_zero s.table ++ (zeros (length s.columns) ++ one_ℚ ∷ []) ∷ [] in
    let m : length (map with_zero s.table) ≡ n = length-map with_zero s.table ∙ h.long in
    let l : length (s.rows ++ None ∷ []) ≡ suc n = length-last s.rows None in
    let t : Tabled rows (suc n) (s.columns ++ n ∷ []) (row_at table') =
    variable_tabled rows n s.columns (row_at s.table) (row_at table') h.tabled
    (ap (λ k. get_or table' k []) (sym m) ∙ get_last (map with_zero s.table) (zeros (length s.columns) ++ one_ℚ ∷ []) [])
    (λ v p. get_front (map with_zero s.table) ((zeros (length s.columns) ++ one_ℚ ∷ []) ∷ []) v [] (subst (λ k. v < k) (sym m) p) ∙ get_mapped with_zero s.table v (subst (λ k. v < k) (sym h.long) p)) in
    record {
      tabled = subst (λ k. Tabled rows' k (s.columns ++ n ∷ []) (row_at table')) (sym l) (tabled_alike rows rows' (suc n) (s.columns ++ n ∷ []) (row_at table') (row_at table') t (none_more s.rows) (λ v p. refl));
      sorted = sorted_more s.columns n h.sorted h.tabled.named;
      many = many-variable rows n s.columns (get_past s.rows None) h.many ∙ sym (rowless_same rows rows' (suc n) (λ v p. none_more s.rows v)) ∙ ap (rowless rows') (sym l);
      long = length-last (map with_zero s.table) (zeros (length s.columns) ++ one_ℚ ∷ []) ∙ ap suc m ∙ sym l;
    }

-- ---- a new row
pub below_form : (n : ℕ) (row : List (ℕ × ℚ)) → All (λ t. t.0 < n) row → Below n (form_of row)
below_form n [] h = tt
below_form n (t ∷ row) h = (All-head (λ t. t.0 < n) t row h, below_form n row (All-tail (λ t. t.0 < n) t row h))

pub sound_row : (s : State) (f : Form) → Sound s → Below (length s.rows) f
    → Sound (record { rows = s.rows ++ Some f ∷ []; columns = s.columns; table = s.table ++ summed (row_at s.table) (zeros (length s.columns)) f ∷ [] })
sound_row s f h b =
    let rows = row_of s.rows in let rows' = row_of (s.rows ++ Some f ∷ []) in let n = length s.rows in
    let row = summed (row_at s.table) (zeros (length s.columns)) f in let table' = s.table ++ row ∷ [] in
    let l : length (s.rows ++ Some f ∷ []) ≡ suc n = length-last s.rows (Some f) in
    let new : rows' n ≡ Some f = get_last s.rows (Some f) None in
    let old : (v : ℕ) → (v ≡ n → ⊥) → rows' v ≡ rows v = λ v d. get_other s.rows (Some f) None v d in
    let t : Tabled rows' (suc n) s.columns (row_at table') =
    row_tabled rows rows' n s.columns (row_at s.table) (row_at table') f h.tabled b new old
    (ap (λ k. get_or table' k []) (sym h.long) ∙ get_last s.table row [])
    (λ v p. get_front s.table (row ∷ []) v [] (subst (λ k. v < k) (sym h.long) p)) in
    record {
      tabled = subst (λ k. Tabled rows' k s.columns (row_at table')) (sym l) t;
      sorted = h.sorted;
      many = many-row rows rows' n s.columns f new (λ v p. old v (apart v n p)) h.many ∙ ap (rowless rows') (sym l);
      long = length-last s.table row ∙ ap suc h.long ∙ sym l;
    }
  where
    apart : (v n : ℕ) → v < n → v ≡ n → ⊥
    apart v n p e = omega arith

-- ---- a pivot, whose columns are then in another order
pub sound_pivot : (s : State) (v j : ℕ) (cols : List ℕ) (table : List (List ℚ)) → Sound s → v < length s.rows → j < length s.columns → at (row_at s.table v) j ≢ zero_ℚ
    → Reordered (set s.columns j v) (map (replaced j (pivot_row j (row_at s.table v))) s.table) cols table → Sorted cols → Sound (record { rows = s.rows; columns = cols; table = table })
sound_pivot s v j cols table h hv hj nz r o =
    let rows = row_of s.rows in let n = length s.rows in let p = pivot_row j (row_at s.table v) in
    let between = map (replaced j p) s.table in
    let m : length between ≡ n = length-map (replaced j p) s.table ∙ h.long in
    let t : Tabled rows n (set s.columns j v) (row_at between) =
    tabled_alike rows rows n (set s.columns j v) (pivoted v j (row_at s.table)) (row_at between) (pivot_tabled rows n s.columns (row_at s.table) v j h.tabled hv hj nz) (λ x. refl)
    (λ x q. get_mapped (replaced j p) s.table x (subst (λ k. x < k) (sym h.long) q)) in
    record {
      tabled = subst (λ k. Tabled rows k cols (row_at table)) m (r.tabled rows (subst (λ k. Tabled rows k (set s.columns j v) (row_at between)) (sym m) t));
      sorted = o;
      many = r.columns ∙ length_set_ℕ s.columns j v ∙ h.many;
      long = r.rows ∙ m;
    }

-- the rows of a sound tableau have one length
pub same_lengths : (s : State) → Sound s → HaveLength (length s.columns) s.table
same_lengths s h i p = h.tabled.width i (subst (λ k. i < k) h.long p)

-- ---- the same, as the calls write it
pub variable_added : (s : State) (rows : List (Option Form)) (cols : List ℕ) (table : List (List ℚ)) (row : List ℚ) (n m : ℕ) → Sound s → rows ≡ s.rows ++ None ∷ [] → cols ≡ s.columns ++ n ∷ [] → n ≡ length s.table → table ≡ map with_zero s.table ++ row ∷ []
    → row ≡ zeros m ++ one_ℚ ∷ [] → m ≡ length s.columns → Sound (record { rows = rows; columns = cols; table = table })
variable_added s rows cols table row n m h e f g k l d =
    let c : cols ≡ s.columns ++ length s.rows ∷ [] = f ∙ ap (λ x. s.columns ++ x ∷ []) (g ∙ h.long) in
    let t : table ≡ map with_zero s.table ++ (zeros (length s.columns) ++ one_ℚ ∷ []) ∷ [] = k ∙ ap (λ r. map with_zero s.table ++ r ∷ []) (l ∙ ap (λ x. zeros x ++ one_ℚ ∷ []) d) in
    subst (λ x. Sound (record { rows = x; columns = cols; table = table })) (sym e)
    (subst (λ x. Sound (record { rows = s.rows ++ None ∷ []; columns = x; table = table })) (sym c)
    (subst (λ x. Sound (record { rows = s.rows ++ None ∷ []; columns = s.columns ++ length s.rows ∷ []; table = x })) (sym t) (sound_variable s h)))

pub row_added : (s : State) (given : List (ℕ × ℚ)) (rows : List (Option Form)) (table : List (List ℚ)) (row : List ℚ) → Sound s → All (λ t. t.0 < length s.rows) given → rows ≡ s.rows ++ Some (form_of given) ∷ [] → table ≡ s.table ++ row ∷ []
    → row ≡ summed (row_at s.table) (zeros (length s.columns)) (form_of given) → Sound (record { rows = rows; columns = s.columns; table = table })
row_added s given rows table row h b e f g =
    let t : table ≡ s.table ++ summed (row_at s.table) (zeros (length s.columns)) (form_of given) ∷ [] = f ∙ ap (λ r. s.table ++ r ∷ []) g in
    subst (λ x. Sound (record { rows = x; columns = s.columns; table = table })) (sym e)
    (subst (λ x. Sound (record { rows = s.rows ++ Some (form_of given) ∷ []; columns = s.columns; table = x })) (sym t) (sound_row s (form_of given) h (below_form (length s.rows) given b)))
