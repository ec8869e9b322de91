-- How many of a list are true.
use Rattle.std.proofs.Common.{ℕ, zero, suc, ◌<◌, ◌≤◌, ◌+◌, Bool, true, false, List, [], ◌∷◌, ◌≡◌, refl, sym, ap, Some, length, arith, replicate}
use Rattle.std.specs.Prelude.{slice_get, slice_set, slice_index_or}
use Rattle.std.proofs.lemmas.Option.{same_Some}
use Rattle.clause_trail.specs.Analysis.{trues}

module _ {X : Type 0} where
  pub read_there : (xs : List X) (p : ℕ) (x : X) → p < length xs → x ≡ slice_index_or xs p x → slice_get xs p ≡ Some x
  read_there [] p x h e = absurd (omega (arith, h))
  read_there (y ∷ xs) zero x h e = ap Some (sym e)
  read_there (y ∷ xs) (suc p) x h e = read_there xs p x (omega (arith, h)) e

pub trues_set_true : (bs : List Bool) (p : ℕ) → slice_get bs p ≡ Some false → trues (slice_set bs p true) ≡ trues bs + 1
trues_set_true [] p h = absurd (cc h)
trues_set_true (true ∷ bs) zero h = absurd (cc h)
trues_set_true (false ∷ bs) zero h = omega arith
trues_set_true (true ∷ bs) (suc p) h = omega (arith, trues_set_true bs p h)
trues_set_true (false ∷ bs) (suc p) h = trues_set_true bs p h

pub trues_set_false : (bs : List Bool) (p : ℕ) → slice_get bs p ≡ Some true → trues bs ≡ trues (slice_set bs p false) + 1
trues_set_false [] p h = absurd (cc h)
trues_set_false (true ∷ bs) zero h = omega arith
trues_set_false (false ∷ bs) zero h = absurd (cc h)
trues_set_false (true ∷ bs) (suc p) h = omega (arith, trues_set_false bs p h)
trues_set_false (false ∷ bs) (suc p) h = trues_set_false bs p h

pub trues_some : (bs : List Bool) → 0 < trues bs → (p : ℕ) × (slice_get bs p ≡ Some true)
trues_some [] h = absurd (omega (arith, h))
trues_some (true ∷ bs) h = (zero, refl)
trues_some (false ∷ bs) h = let r = trues_some bs h in (suc r.0, r.1)

pub trues_has : (bs : List Bool) (p : ℕ) → slice_get bs p ≡ Some true → 0 < trues bs
trues_has [] p h = absurd (cc h)
trues_has (true ∷ bs) p h = omega arith
trues_has (false ∷ bs) zero h = absurd (cc h)
trues_has (false ∷ bs) (suc p) h = trues_has bs p h

pub trues_short : (bs : List Bool) → trues bs ≤ length bs
trues_short [] = omega arith
trues_short (true ∷ bs) = omega (arith, trues_short bs)
trues_short (false ∷ bs) = omega (arith, trues_short bs)

pub trues_room : (bs : List Bool) (p : ℕ) → slice_get bs p ≡ Some false → trues bs < length bs
trues_room [] p h = absurd (cc h)
trues_room (true ∷ bs) zero h = absurd (cc h)
trues_room (false ∷ bs) zero h = omega (arith, trues_short bs)
trues_room (true ∷ bs) (suc p) h = omega (arith, trues_room bs p h)
trues_room (false ∷ bs) (suc p) h = omega (arith, trues_room bs p h)

pub trues_fresh : (n : ℕ) → trues (replicate n false) ≡ 0
trues_fresh zero = refl
trues_fresh (suc n) = trues_fresh n

-- all items of a list made of one are that one
pub fresh_same : {X : Type 0} → (x y : X) → (n p : ℕ) → slice_get (replicate n x) p ≡ Some y → x ≡ y
fresh_same x y zero p h = absurd (cc h)
fresh_same x y (suc n) zero h = same_Some x y h
fresh_same x y (suc n) (suc p) h = fresh_same x y n p h

pub fresh_false : (n p : ℕ) → slice_get (replicate n false) p ≡ Some true → ⊥
fresh_false n p h = absurd (cc (fresh_same false true n p h))

pub two_apart : (bs : List Bool) (p : ℕ) → slice_get bs p ≡ Some true → 1 < trues bs → (q : ℕ) × (slice_get bs q ≡ Some true) × (q ≡ p → ⊥)
two_apart [] p h k = absurd (cc h)
two_apart (true ∷ bs) zero h k = let r = trues_some bs (omega (arith, k)) in (suc r.0, r.1, (λ e. omega (arith, e)))
two_apart (false ∷ bs) zero h k = absurd (cc h)
two_apart (true ∷ bs) (suc p) h k = (zero, refl, (λ e. omega (arith, e)))
two_apart (false ∷ bs) (suc p) h k = let r = two_apart bs p h k in (suc r.0, r.1, (λ e. r.2 (omega (arith, e))))

pub one_only : (bs : List Bool) (p q : ℕ) → trues bs ≡ 1 → slice_get bs p ≡ Some true → slice_get bs q ≡ Some true → p ≡ q
one_only [] p q e h k = absurd (cc h)
one_only (true ∷ bs) zero zero e h k = refl
one_only (true ∷ bs) zero (suc q) e h k = absurd (omega (arith, e, trues_has bs q k))
one_only (true ∷ bs) (suc p) q e h k = absurd (omega (arith, e, trues_has bs p h))
one_only (false ∷ bs) zero q e h k = absurd (cc h)
one_only (false ∷ bs) (suc p) zero e h k = absurd (cc k)
one_only (false ∷ bs) (suc p) (suc q) e h k = ap suc (one_only bs p q e h k)
