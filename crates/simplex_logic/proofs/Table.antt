-- Each variable's expression by the columns, and a pivot on them: one and the same step for every variable.
use Rattle.std.proofs.Common.{◌≡◌, ℕ, zero, suc, ◌<◌, ◌≢◌, List, [], ◌∷◌, length, get_or, set, pos, refl, sym, ap, ◌∙◌, subst, arith}
use Rattle.rationals.specs.Rational.{ℚ, zero_ℚ, ◌+ℚ◌, ◌*ℚ◌, neg_ℚ, inv_ℚ}
use Rattle.rationals.proofs.Ring.{eqn, ring_by, var, con, ◌⊕◌, ◌⊗◌, ◌⊝◌, minus}
use Rattle.rationals.proofs.RingQ.{coefs_ℚ, coef}
use Rattle.rationals.proofs.FieldQ.{mul-inv}
use Rattle.simplex_logic.specs.Vectors.{dot, at, scale_row, add_rows, pivot_row, read, replaced}
use Rattle.simplex_logic.proofs.Dense.{dot-set_row, dot-set_value, dot-scale, dot-add, at-scale, length-scale}

pub length-read : (σ : ℕ → ℚ) (cs : List ℕ) → length (read σ cs) ≡ length cs
length-read σ [] = refl
length-read σ (c ∷ cs) = ap suc (length-read σ cs)

pub read-set : (σ : ℕ → ℚ) (cs : List ℕ) (j s : ℕ) → read σ (set cs j s) ≡ set (read σ cs) j (σ s)
read-set σ [] j s = refl
read-set σ (c ∷ cs) zero s = refl
read-set σ (c ∷ cs) (suc j) s = ap (λ l. σ c ∷ l) (read-set σ cs j s)

pub at-read : (σ : ℕ → ℚ) (cs : List ℕ) (j : ℕ) → j < length cs → at (read σ cs) j ≡ σ (get_or cs j 0)
at-read σ [] j h = absurd (omega arith)
at-read σ (c ∷ cs) zero h = refl
at-read σ (c ∷ cs) (suc j) h = at-read σ cs j (omega arith)

pub set_back : (ys : List ℚ) (j : ℕ) (b : ℚ) → set (set ys j b) j (at ys j) ≡ ys
set_back [] j b = refl
set_back (y ∷ ys) zero b = refl
set_back (y ∷ ys) (suc j) b = ap (λ l. y ∷ l) (set_back ys j b)

pub set_set : (ys : List ℚ) (j : ℕ) (a b : ℚ) → set (set ys j a) j b ≡ set ys j b
set_set [] j a b = refl
set_set (y ∷ ys) zero a b = refl
set_set (y ∷ ys) (suc j) a b = ap (λ l. y ∷ l) (set_set ys j a b)

pub length_set : (ys : List ℚ) (j : ℕ) (b : ℚ) → length (set ys j b) ≡ length ys
length_set [] j b = refl
length_set (y ∷ ys) zero b = refl
length_set (y ∷ ys) (suc j) b = ap suc (length_set ys j b)

pub length_set_ℕ : (ys : List ℕ) (j : ℕ) (b : ℕ) → length (set ys j b) ≡ length ys
length_set_ℕ [] j b = refl
length_set_ℕ (y ∷ ys) zero b = refl
length_set_ℕ (y ∷ ys) (suc j) b = ap suc (length_set_ℕ ys j b)

pub length_add : (xs ys : List ℚ) → length xs ≡ length ys → length (add_rows xs ys) ≡ length xs
length_add [] [] h = refl
length_add [] (y ∷ ys) h = refl
length_add (x ∷ xs) [] h = refl
length_add (x ∷ xs) (y ∷ ys) h = ap suc (length_add xs ys (omega arith))

same_lengths : (j : ℕ) (p b : List ℚ) → length p ≡ length b → length (set b j zero_ℚ) ≡ length (scale_row (at b j) p)
same_lengths j p b h = length_set b j zero_ℚ ∙ sym h ∙ sym (length-scale (at b j) p)

pub length_replaced : (j : ℕ) (p b : List ℚ) → length p ≡ length b → length (replaced j p b) ≡ length b
length_replaced j p b h = length_add (set b j zero_ℚ) (scale_row (at b j) p) (same_lengths j p b h) ∙ length_set b j zero_ℚ

pub dot_replaced : (j : ℕ) (p b y : List ℚ) → length p ≡ length b → j < length b → j < length y → dot (replaced j p b) y ≡ dot b (set y j (dot p y))
dot_replaced j p b y h k m =
    ring_by coefs_ℚ (dot (replaced j p b) y ∷ dot (set b j zero_ℚ) y ∷ dot (scale_row (at b j) p) y ∷ at b j ∷ at y j ∷ dot b y ∷ dot p y ∷ dot b (set y j (dot p y)) ∷ []) (var 0) (var 7)
    (eqn (con (coef (pos 1) 0)) (var 0) (var 1 ⊕ var 2)
    ∷ eqn (con (coef (pos 1) 0)) (var 1 ⊕ var 3 ⊗ var 4) (var 5 ⊕ con (coef (pos 0) 0) ⊗ var 4)
    ∷ eqn (con (coef (pos 1) 0)) (var 2) (var 3 ⊗ var 6)
    ∷ eqn (minus (con (coef (pos 1) 0))) (var 7 ⊕ var 3 ⊗ var 4) (var 5 ⊕ var 3 ⊗ var 6) ∷ []) tt (
      dot-add (set b j zero_ℚ) (scale_row (at b j) p) y (same_lengths j p b h),
      (dot-set_row b y j zero_ℚ k, (dot-scale (at b j) p y, (dot-set_value b y j (dot p y) m, tt))),
    )

-- the pivot row put into the row that it came from is the variable itself
pub pivot_self : (xs y : List ℚ) (j : ℕ) → j < length xs → j < length y → at xs j ≢ zero_ℚ → dot xs (set y j (dot (pivot_row j xs) y)) ≡ at y j
pivot_self xs y j h k n =
    let i = inv_ℚ (at xs j) in let m = neg_ℚ (inv_ℚ (at xs j)) in let s = scale_row m xs in
    let e1 : dot (set s j i) y +ℚ at s j *ℚ at y j ≡ dot s y +ℚ i *ℚ at y j = dot-set_row s y j i (subst (λ l. j < l) (sym (length-scale m xs)) h) in
    ring_by coefs_ℚ (dot (set s j i) y ∷ at s j ∷ at y j ∷ dot s y ∷ i ∷ at xs j ∷ dot xs y ∷ dot xs (set y j (dot (set s j i) y)) ∷ []) (var 7) (var 2)
    (eqn (con (coef (pos 1) 0)) (var 7 ⊕ var 5 ⊗ var 2) (var 6 ⊕ var 5 ⊗ var 0)
    ∷ eqn (var 5) (var 0 ⊕ var 1 ⊗ var 2) (var 3 ⊕ var 4 ⊗ var 2)
    ∷ eqn (minus (var 5 ⊗ var 2)) (var 1) (minus (var 4) ⊗ var 5)
    ∷ eqn (var 5) (var 3) (minus (var 4) ⊗ var 6)
    ∷ eqn (var 2 ⊝ var 6 ⊕ var 5 ⊗ var 2) (var 5 ⊗ var 4) (con (coef (pos 1) 0)) ∷ []) tt
    (dot-set_value xs y j (dot (pivot_row j xs) y) k, (e1, (at-scale m xs j, (dot-scale m xs y, (mul-inv (at xs j) n, tt)))))
