-- What stands in a list of literals.
use Rattle.std.proofs.Common.{ℕ, zero, suc, ◌<◌, ◌++◌, List, [], ◌∷◌, ◌≡◌, ◌⊎◌, inl, inr, ⊎_elim, refl, ap, length, map, arith, get_or, Some}
use Rattle.std.specs.Prelude.{slice_get}
use Rattle.std.proofs.lemmas.Option.{same_Some}
use Rattle.clause_logic.specs.declared.Lit.{Lit}
use Rattle.clause_logic.specs.Clauses.{In}
use Rattle.clause_logic.proofs.Lits.{lit_cases}

pub in_push : (xs : List Lit) (x l : Lit) → In l xs → In l (xs ++ x ∷ [])
in_push [] x l h = absurd h
in_push (y ∷ xs) x l h = ⊎_elim inl (λ k. inr (in_push xs x l k)) h

pub in_last : (xs : List Lit) (x : Lit) → In x (xs ++ x ∷ [])
in_last [] x = inl refl
in_last (y ∷ xs) x = inr (in_last xs x)

pub in_push_cases : (xs : List Lit) (x l : Lit) → In l (xs ++ x ∷ []) → (x ≡ l) ⊎ In l xs
in_push_cases [] x l h = ⊎_elim inl (λ k. absurd k) h
in_push_cases (y ∷ xs) x l h = ⊎_elim (λ e. inr (inl e)) (λ k. ⊎_elim inl (λ g. inr (inr g)) (in_push_cases xs x l k)) h

pub in_at : (xs : List Lit) (i : ℕ) (d : Lit) → i < length xs → In (get_or xs i d) xs
in_at [] i d h = absurd (omega (arith, h))
in_at (x ∷ xs) zero d h = inl refl
in_at (x ∷ xs) (suc i) d h = inr (in_at xs i d (omega (arith, h)))

pub in_from_get : (xs : List Lit) (i : ℕ) (l : Lit) → slice_get xs i ≡ Some l → In l xs
in_from_get [] i l h = absurd (cc h)
in_from_get (x ∷ xs) zero l h = inl (same_Some x l h)
in_from_get (x ∷ xs) (suc i) l h = inr (in_from_get xs i l h)

pub get_from_in : (xs : List Lit) (l : Lit) → In l xs → (i : ℕ) × (slice_get xs i ≡ Some l)
get_from_in [] l h = absurd h
get_from_in (x ∷ xs) l h = ⊎_elim (λ e. (zero, ap Some e)) (λ k. let r = get_from_in xs l k in (suc r.0, r.1)) h

-- whether a literal stands in a clause
pub in_cases : (l : Lit) (c : List Lit) → In l c ⊎ (In l c → ⊥)
in_cases l [] = inr (λ h. h)
in_cases l (x ∷ xs) =
    ⊎_elim
    (λ e. inl (inl e))
    (λ d. ⊎_elim (λ h. inl (inr h)) (λ n. inr (λ h. ⊎_elim d n h)) (in_cases l xs))
    (lit_cases x l)

pub in_map : (f : Lit → Lit) (c : List Lit) (l : Lit) → In l c → In (f l) (map f c)
in_map f [] l h = absurd h
in_map f (x ∷ xs) l h = ⊎_elim (λ e. inl (ap f e)) (λ k. inr (in_map f xs l k)) h

pub in_map_cases : (f : Lit → Lit) (c : List Lit) (m : Lit) → In m (map f c) → (l : Lit) × In l c × (f l ≡ m)
in_map_cases f [] m h = absurd h
in_map_cases f (x ∷ xs) m h = ⊎_elim (λ e. (x, inl refl, e)) (λ k. let r = in_map_cases f xs m k in (r.0, inr r.1, r.2)) h
