-- Rows that are made entry by entry.
use Rattle.std.proofs.Common.{◌≡◌, ℕ, zero, suc, ◌+◌, ◌<◌, ◌≤◌, List, [], ◌∷◌, ◌++◌, length, get_or, set, take, refl, sym, ap, ◌∙◌, subst, arith, pos}
use Rattle.std.proofs.lemmas.List.{take_more, take_all}
use Rattle.std.proofs.lemmas.List.Edits.{swap_is}
use Rattle.std.specs.List.{swap}
use Rattle.rationals.specs.Rational.{ℚ, zero_ℚ, one_ℚ, ◌+ℚ◌, ◌*ℚ◌, ◌/ℚ◌, neg_ℚ, inv_ℚ}
use Rattle.rationals.proofs.RingQ as Q
use Rattle.rationals.proofs.RingQ.{ring-ℚ, coef}
use Rattle.rationals.proofs.Ring.{var, con, ◌⊗◌, minus}
use Rattle.rationals.proofs.Delta.{zero-mul, mul-zero}
use Rattle.simplex_logic.specs.Vectors.{at, dot, add_rows, scale_row, replaced, pivot_row, zeros, flip}
use Rattle.simplex_logic.proofs.Dense.{at-scale, at-set, length-scale}
use Rattle.simplex_logic.proofs.Table.{length_replaced, length_set, length_add}
use Rattle.simplex_logic.proofs.Pivot.{length_pivot}
use Rattle.simplex_logic.proofs.Operands.{at_add}
use Rattle.simplex_logic.proofs.Concrete.{dot-take}

-- ---- a + b * c with a factor 0
pub add_none_left : (a b c : ℚ) → b ≡ zero_ℚ → a ≡ a +ℚ b *ℚ c
add_none_left a b c e = sym (ap (λ x. a +ℚ x *ℚ c) e ∙ ap (λ x. a +ℚ x) (zero-mul c) ∙ Q.add-zero a)

pub add_none_right : (a b c : ℚ) → c ≡ zero_ℚ → a ≡ a +ℚ b *ℚ c
add_none_right a b c e = sym (ap (λ x. a +ℚ b *ℚ x) e ∙ ap (λ x. a +ℚ x) (mul-zero b) ∙ Q.add-zero a)

-- ---- a list that is made item by item
-- an item by the default that was read is the item by 0
pub at_read : (xs : List ℚ) (i : ℕ) (x : ℚ) → i < length xs → x ≡ get_or xs i x → x ≡ at xs i
at_read xs i x h e = e ∙ defaults xs i x zero_ℚ h
  where
    defaults : (xs : List ℚ) (i : ℕ) (x y : ℚ) → i < length xs → get_or xs i x ≡ get_or xs i y
    defaults [] i x y h = absurd (omega arith)
    defaults (z ∷ xs) zero x y h = refl
    defaults (z ∷ xs) (suc i) x y h = defaults xs i x y (omega arith)

-- one item more
pub made_more : (target out : List ℚ) (k : ℕ) (x : ℚ) → k < length target → out ≡ take k target → x ≡ at target k → out ++ x ∷ [] ≡ take (k + 1) target
made_more target out k x h e f = ap (λ o. o ++ x ∷ []) e ∙ ap (λ y. take k target ++ y ∷ []) f ∙ sym (take_more target k zero_ℚ h)

-- all items
pub made_all : (target out : List ℚ) (k : ℕ) → length target ≤ k → out ≡ take k target → out ≡ target
made_all target out k h e = e ∙ take_all k target h

-- ---- zeros
zeros-last : (n : ℕ) → zeros n ++ zero_ℚ ∷ [] ≡ zeros (suc n)
zeros-last zero = refl
zeros-last (suc n) = ap (λ l. zero_ℚ ∷ l) (zeros-last n)

pub zeros_more : (n : ℕ) (out : List ℚ) (x : ℚ) → out ≡ zeros n → x ≡ zero_ℚ → out ++ x ∷ [] ≡ zeros (n + 1)
zeros_more n out x e f = ap (λ l. l ++ x ∷ []) e ∙ ap (λ y. zeros n ++ y ∷ []) f ∙ zeros-last n ∙ ap zeros (suc_is n)
  where
    suc_is : (n : ℕ) → suc n ≡ n + 1
    suc_is n = omega arith

-- ---- neighbours exchanged
pub flip-swap : {A : Type 0} (xs : List A) (k : ℕ) → k + 1 < length xs → swap xs k (k + 1) ≡ flip k xs
flip-swap [] k h = absurd (omega arith)
flip-swap (x ∷ xs) k h = sym (swap_is (x ∷ xs) k (k + 1) x (omega arith) h) ∙ ap (λ n. set (set (x ∷ xs) k (get_or (x ∷ xs) n x)) n (get_or (x ∷ xs) k x)) (plus k) ∙ sets (x ∷ xs) k x (omega arith)
  where
    plus : (k : ℕ) → k + 1 ≡ suc k
    plus k = omega arith

    sets : {A : Type 0} (xs : List A) (k : ℕ) (d : A) → suc k < length xs → set (set xs k (get_or xs (suc k) d)) (suc k) (get_or xs k d) ≡ flip k xs
    sets [] k d h = absurd (omega arith)
    sets (x ∷ []) zero d h = absurd (omega arith)
    sets (x ∷ y ∷ xs) zero d h = refl
    sets (x ∷ xs) (suc k) d h = ap (λ l. x ∷ l) (sets xs k d (omega arith))

-- ---- the entries of a row in which a variable was replaced
pub at_other : (xs : List ℚ) (j k : ℕ) (x : ℚ) → (k ≡ j → ⊥) → at (set xs j x) k ≡ at xs k
at_other [] j k x h = refl
at_other (y ∷ xs) zero zero x h = absurd (h refl)
at_other (y ∷ xs) zero (suc k) x h = refl
at_other (y ∷ xs) (suc j) zero x h = refl
at_other (y ∷ xs) (suc j) (suc k) x h = at_other xs j k x (λ e. h (ap suc e))

pub kept_here : (b : List ℚ) (j k : ℕ) (x : ℚ) → k < length b → k ≡ j → x ≡ zero_ℚ → x ≡ at (set b j zero_ℚ) k
kept_here b j k x h e f = f ∙ sym (at-set b k zero_ℚ h) ∙ ap (λ i. at (set b i zero_ℚ) k) e

pub kept_there : (b : List ℚ) (j k : ℕ) (x : ℚ) → (k ≡ j → ⊥) → x ≡ at b k → x ≡ at (set b j zero_ℚ) k
kept_there b j k x h f = f ∙ sym (at_other b j k zero_ℚ h)

pub at_replaced : (j : ℕ) (p b : List ℚ) (k : ℕ) → length p ≡ length b → k < length b → at (replaced j p b) k ≡ at (set b j zero_ℚ) k +ℚ at b j *ℚ at p k
at_replaced j p b k h l =
    at_add (set b j zero_ℚ) (scale_row (at b j) p) k (length_set b j zero_ℚ ∙ sym h ∙ sym (length-scale (at b j) p)) (subst (λ m. k < m) (sym (length_set b j zero_ℚ)) l)
    ∙ ap (λ v. at (set b j zero_ℚ) k +ℚ v) (at-scale (at b j) p k)

pub replaced_more : (j : ℕ) (p b out : List ℚ) (k : ℕ) (x : ℚ) → length p ≡ length b → k < length b → out ≡ take k (replaced j p b) → x ≡ at (set b j zero_ℚ) k +ℚ at b j *ℚ at p k → out ++ x ∷ [] ≡ take (k + 1) (replaced j p b)
replaced_more j p b out k x h l e f = made_more (replaced j p b) out k x (subst (λ m. k < m) (sym (length_replaced j p b h)) l) e (f ∙ sym (at_replaced j p b k h l))

pub replaced_all : (j : ℕ) (p b out : List ℚ) (k : ℕ) → length p ≡ length b → length b ≤ k → out ≡ take k (replaced j p b) → out ≡ replaced j p b
replaced_all j p b out k h l e = made_all (replaced j p b) out k (subst (λ m. m ≤ k) (sym (length_replaced j p b h)) l) e

-- ---- the entries of a row that is solved
pub solved_here : (j : ℕ) (row : List ℚ) (k : ℕ) (x : ℚ) → k < length row → k ≡ j → x ≡ one_ℚ /ℚ at row j → x ≡ at (pivot_row j row) k
solved_here j row k x h e f =
    let m = neg_ℚ (inv_ℚ (at row j)) in
    f ∙ ring-ℚ (inv_ℚ (at row j) ∷ []) (con (coef (pos 1) 0) ⊗ var 0) (var 0) tt
    ∙ sym (at-set (scale_row m row) k (inv_ℚ (at row j)) (subst (λ n. k < n) (sym (length-scale m row)) h)) ∙ ap (λ i. at (set (scale_row m row) i (inv_ℚ (at row j))) k) e

pub solved_there : (j : ℕ) (row : List ℚ) (k : ℕ) (x : ℚ) → (k ≡ j → ⊥) → x ≡ neg_ℚ (at row k /ℚ at row j) → x ≡ at (pivot_row j row) k
solved_there j row k x h f =
    let m = neg_ℚ (inv_ℚ (at row j)) in
    f ∙ ring-ℚ (at row k ∷ inv_ℚ (at row j) ∷ []) (minus (var 0 ⊗ var 1)) (minus (var 1) ⊗ var 0) tt
    ∙ sym (at-scale m row k) ∙ sym (at_other (scale_row m row) j k (inv_ℚ (at row j)) h)

pub solved_none : (j : ℕ) (row : List ℚ) (k : ℕ) (x : ℚ) → (k ≡ j → ⊥) → x ≡ at row k → x ≡ zero_ℚ → x ≡ at (pivot_row j row) k
solved_none j row k x h e z =
    let i = inv_ℚ (at row j) in
    solved_there j row k x h (z ∙ ring-ℚ (i ∷ []) (con (coef (pos 0) 0)) (minus (con (coef (pos 0) 0) ⊗ var 0)) tt ∙ ap (λ y. neg_ℚ (y *ℚ i)) (sym z ∙ e))

pub solved_more : (j : ℕ) (row out : List ℚ) (k : ℕ) (x : ℚ) → k < length row → out ≡ take k (pivot_row j row) → x ≡ at (pivot_row j row) k → out ++ x ∷ [] ≡ take (k + 1) (pivot_row j row)
solved_more j row out k x h e f = made_more (pivot_row j row) out k x (subst (λ m. k < m) (sym (length_pivot j row)) h) e f

pub solved_all : (j : ℕ) (row out : List ℚ) (k : ℕ) → length row ≤ k → out ≡ take k (pivot_row j row) → out ≡ pivot_row j row
solved_all j row out k h e = made_all (pivot_row j row) out k (subst (λ m. m ≤ k) (sym (length_pivot j row)) h) e

-- ---- the entries of a sum of rows
same_length : (sum row : List ℚ) (by : ℚ) → length row ≡ length sum → length sum ≡ length (scale_row by row)
same_length sum row by h = sym h ∙ sym (length-scale by row)

length_sum : (sum row : List ℚ) (by : ℚ) → length row ≡ length sum → length (add_rows sum (scale_row by row)) ≡ length sum
length_sum sum row by h = length_add sum (scale_row by row) (same_length sum row by h)

pub summed_more : (sum row out : List ℚ) (by : ℚ) (k : ℕ) (x : ℚ) → length row ≡ length sum → k < length sum → out ≡ take k (add_rows sum (scale_row by row)) → x ≡ at sum k +ℚ by *ℚ at row k → out ++ x ∷ [] ≡ take (k + 1) (add_rows sum (scale_row by row))
summed_more sum row out by k x h l e f =
    made_more (add_rows sum (scale_row by row)) out k x (subst (λ m. k < m) (sym (length_sum sum row by h)) l) e
    (f ∙ sym (at_add sum (scale_row by row) k (same_length sum row by h) l ∙ ap (λ v. at sum k +ℚ v) (at-scale by row k)))

pub summed_all : (sum row out : List ℚ) (by : ℚ) (k : ℕ) → length row ≡ length sum → length sum ≤ k → out ≡ take k (add_rows sum (scale_row by row)) → out ≡ add_rows sum (scale_row by row)
summed_all sum row out by k h l e = made_all (add_rows sum (scale_row by row)) out k (subst (λ m. m ≤ k) (sym (length_sum sum row by h)) l) e

-- ---- the sum of products
pub dot_more : (row y : List ℚ) (k : ℕ) (sum x : ℚ) → length y ≡ length row → k < length row → sum ≡ dot (take k row) y → x ≡ sum +ℚ at row k *ℚ at y k → x ≡ dot (take (k + 1) row) y
dot_more row y k sum x h l e f = f ∙ ap (λ s. s +ℚ at row k *ℚ at y k) e ∙ sym (dot-take row y k l (subst (λ m. k < m) (sym h) l)) ∙ ap (λ n. dot (take n row) y) (suc_is k)
  where
    suc_is : (k : ℕ) → suc k ≡ k + 1
    suc_is k = omega arith

pub dot_all : (row y : List ℚ) (k : ℕ) (sum : ℚ) → length row ≤ k → sum ≡ dot (take k row) y → sum ≡ dot row y
dot_all row y k sum l e = e ∙ ap (λ r. dot r y) (take_all k row l)
