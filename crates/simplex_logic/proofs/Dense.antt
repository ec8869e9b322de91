-- Rows as lists of coefficients by position, and a pivot on them.
use Rattle.std.proofs.Common.{◌≡◌, ℕ, zero, suc, ◌<◌, ◌≢◌, List, [], ◌∷◌, length, set, pos, refl, sym, ap, ◌∙◌, subst, arith}
use Rattle.rationals.specs.Rational.{ℚ, zero_ℚ, ◌+ℚ◌, ◌*ℚ◌, neg_ℚ, inv_ℚ}
use Rattle.rationals.proofs.Ring.{eqn, ring_by, var, con, ◌⊕◌, ◌⊗◌, minus}
use Rattle.rationals.proofs.RingQ as Q
use Rattle.rationals.proofs.RingQ.{coefs_ℚ, coef, ring_ℚ, ring-ℚ}
use Rattle.rationals.proofs.FieldQ.{mul-inv}
use Rattle.rationals.proofs.LawsQ.{ring_laws}
use Rattle.rationals.proofs.Delta.{mul-zero}
use Rattle.simplex_logic.specs.Vectors.{add_rows, at, dot, pivot_row, scale_row}

four : (a b c d : ℚ) → a +ℚ (b +ℚ c) ≡ b +ℚ (a +ℚ c)
four a b c d = simp ring_laws

pub dot-set_row : (xs ys : List ℚ) (j : ℕ) (x : ℚ) → j < length xs → dot (set xs j x) ys +ℚ at xs j *ℚ at ys j ≡ dot xs ys +ℚ x *ℚ at ys j
dot-set_row [] ys j x h = absurd (omega arith)
dot-set_row (a ∷ xs) [] zero x h = ap (λ v. zero_ℚ +ℚ v) (mul-zero a ∙ sym (mul-zero x))
dot-set_row (a ∷ xs) [] (suc j) x h = ap (λ v. zero_ℚ +ℚ v) (mul-zero (at xs j) ∙ sym (mul-zero x))
dot-set_row (a ∷ xs) (y ∷ ys) zero x h = ring-ℚ (x ∷ a ∷ y ∷ dot xs ys ∷ []) (var 0 ⊗ var 2 ⊕ var 3 ⊕ var 1 ⊗ var 2) (var 1 ⊗ var 2 ⊕ var 3 ⊕ var 0 ⊗ var 2) tt
dot-set_row (a ∷ xs) (y ∷ ys) (suc j) x h =
    Q.add_assoc (a *ℚ y) (dot (set xs j x) ys) (at xs j *ℚ at ys j) ∙ ap (λ v. a *ℚ y +ℚ v) (dot-set_row xs ys j x (omega arith)) ∙ sym (Q.add_assoc (a *ℚ y) (dot xs ys) (x *ℚ at ys j))

pub dot_comm : (xs ys : List ℚ) → dot xs ys ≡ dot ys xs
dot_comm [] [] = refl
dot_comm [] (y ∷ ys) = refl
dot_comm (x ∷ xs) [] = refl
dot_comm (x ∷ xs) (y ∷ ys) = ap (λ v. v +ℚ dot xs ys) (Q.mul_comm_ℚ x y) ∙ ap (λ v. y *ℚ x +ℚ v) (dot_comm xs ys)

pub dot-set_value : (xs ys : List ℚ) (j : ℕ) (y : ℚ) → j < length ys → dot xs (set ys j y) +ℚ at xs j *ℚ at ys j ≡ dot xs ys +ℚ at xs j *ℚ y
dot-set_value xs ys j y h =
    ap (λ v. v +ℚ at xs j *ℚ at ys j) (dot_comm xs (set ys j y)) ∙ ap (λ v. dot (set ys j y) xs +ℚ v) (Q.mul_comm_ℚ (at xs j) (at ys j))
    ∙ dot-set_row ys xs j y h ∙ ap (λ v. v +ℚ y *ℚ at xs j) (dot_comm ys xs) ∙ ap (λ v. dot xs ys +ℚ v) (Q.mul_comm_ℚ y (at xs j))

pub dot-scale : (q : ℚ) (xs ys : List ℚ) → dot (scale_row q xs) ys ≡ q *ℚ dot xs ys
dot-scale q [] ys = sym (mul-zero q)
dot-scale q (x ∷ xs) [] = sym (mul-zero q)
dot-scale q (x ∷ xs) (y ∷ ys) = let e = dot-scale q xs ys in simp (e, Q.mul-add, Q.mul_assoc)

pub dot-add : (xs ys zs : List ℚ) → length xs ≡ length ys → dot (add_rows xs ys) zs ≡ dot xs zs +ℚ dot ys zs
dot-add [] [] zs h = sym (Q.add-zero zero_ℚ)
dot-add [] (y ∷ ys) zs h = absurd (omega arith)
dot-add (x ∷ xs) [] zs h = absurd (omega arith)
dot-add (x ∷ xs) (y ∷ ys) [] h = sym (Q.add-zero zero_ℚ)
dot-add (x ∷ xs) (y ∷ ys) (z ∷ zs) h = let e = dot-add xs ys zs (omega arith) in
    ap (λ v. (x +ℚ y) *ℚ z +ℚ v) e ∙ ring-ℚ (x ∷ y ∷ z ∷ dot xs zs ∷ dot ys zs ∷ []) ((var 0 ⊕ var 1) ⊗ var 2 ⊕ (var 3 ⊕ var 4)) ((var 0 ⊗ var 2 ⊕ var 3) ⊕ (var 1 ⊗ var 2 ⊕ var 4)) tt

pub at-scale : (q : ℚ) (xs : List ℚ) (j : ℕ) → at (scale_row q xs) j ≡ q *ℚ at xs j
at-scale q [] j = sym (mul-zero q)
at-scale q (x ∷ xs) zero = refl
at-scale q (x ∷ xs) (suc j) = at-scale q xs j

pub length-scale : (q : ℚ) (xs : List ℚ) → length (scale_row q xs) ≡ length xs
length-scale q [] = refl
length-scale q (x ∷ xs) = ap suc (length-scale q xs)

pub at-set : (xs : List ℚ) (j : ℕ) (x : ℚ) → j < length xs → at (set xs j x) j ≡ x
at-set [] j x h = absurd (omega arith)
at-set (y ∷ xs) zero x h = refl
at-set (y ∷ xs) (suc j) x h = at-set xs j x (omega arith)

-- what the pivot row gives at the values with the leaving variable in column j
pub pivot_value : (xs ys : List ℚ) (j : ℕ) (b : ℚ) → j < length xs → j < length ys → at xs j ≢ zero_ℚ → b ≡ dot xs ys → dot (pivot_row j xs) (set ys j b) ≡ at ys j
pivot_value xs ys j b h k n e =
    let i = inv_ℚ (at xs j) in let m = neg_ℚ (inv_ℚ (at xs j)) in let v = set ys j b in let s = scale_row m xs in
    let e1 : dot (set s j i) v +ℚ at s j *ℚ at v j ≡ dot s v +ℚ i *ℚ at v j = dot-set_row s v j i (subst (λ l. j < l) (sym (length-scale m xs)) h) in
    ring_by coefs_ℚ (dot (set s j i) v ∷ at s j ∷ at v j ∷ dot s v ∷ i ∷ at xs j ∷ dot xs v ∷ at ys j ∷ dot xs ys ∷ b ∷ []) (var 0) (var 7)
    (eqn (con (coef (pos 1) 0)) (var 0 ⊕ var 1 ⊗ var 2) (var 3 ⊕ var 4 ⊗ var 2)
    ∷ eqn (minus (var 2)) (var 1) (minus (var 4) ⊗ var 5)
    ∷ eqn (var 4 ⊗ var 5 ⊕ var 4) (var 2) (var 9)
    ∷ eqn (con (coef (pos 1) 0)) (var 3) (minus (var 4) ⊗ var 6)
    ∷ eqn (minus (var 4)) (var 6 ⊕ var 5 ⊗ var 7) (var 8 ⊕ var 5 ⊗ var 9)
    ∷ eqn (var 4) (var 9) (var 8)
    ∷ eqn (var 7) (var 5 ⊗ var 4) (con (coef (pos 1) 0)) ∷ []) tt
    (e1, (at-scale m xs j, (at-set ys j b k, (dot-scale m xs v, (dot-set_value xs ys j b k, (e, (mul-inv (at xs j) n, tt)))))))
