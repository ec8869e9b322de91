-- What stands in a list after a push, and at a place.
use Rattle.std.proofs.Common.{◌≡◌, ◌∙◌, ◌+◌, ◌<◌, ◌≤◌, ◌++◌, ℕ, zero, suc, List, [], ◌∷◌, Some, length, map, take, drop, All, refl, sym, ap, subst, add-one, inl, inr, ◌⊎◌, ⊎_elim, arith}
use Rattle.std.specs.Prelude.{slice_get}
use Rattle.std.proofs.lemmas.Option.{same_Some, slice_get_within, get_or_from_slice_get}
use Rattle.std.proofs.lemmas.List.{take_all}

module _ {X : Type 0} where
  pub push_here : (w : List X) (y : X) → slice_get (w ++ y ∷ []) (length w) ≡ Some y
  push_here [] y = refl
  push_here (v ∷ w) y = push_here w y

  pub push_old : (w : List X) (y x : X) (j : ℕ) → slice_get w j ≡ Some x → slice_get (w ++ y ∷ []) j ≡ Some x
  push_old [] y x j h = absurd (cc h)
  push_old (v ∷ w) y x zero h = h
  push_old (v ∷ w) y x (suc j) h = push_old w y x j h

  pub push_cases : (w : List X) (y x : X) (j : ℕ) → slice_get (w ++ y ∷ []) j ≡ Some x → ((j ≡ length w) × (y ≡ x)) ⊎ (slice_get w j ≡ Some x)
  push_cases [] y x zero h = inl (refl, same_Some y x h)
  push_cases [] y x (suc j) h = absurd (cc h)
  push_cases (v ∷ w) y x zero h = inr h
  push_cases (v ∷ w) y x (suc j) h = ⊎_elim (λ e. inl (ap suc e.0, e.1)) inr (push_cases w y x j h)

  pub length_pushed : (w : List X) (y : X) → length (w ++ y ∷ []) ≡ length w + 1
  length_pushed [] y = refl
  length_pushed (v ∷ w) y = ap suc (length_pushed w y) ∙ omega arith

  pub get_append : (xs ys : List X) (j : ℕ) → j < length xs → slice_get (xs ++ ys) j ≡ slice_get xs j
  get_append [] ys j h = absurd (omega (arith, h))
  get_append (x ∷ xs) ys zero h = refl
  get_append (x ∷ xs) ys (suc j) h = get_append xs ys j (omega (arith, h))

  -- a list round one of its places
  pub split_at : (xs : List X) (k : ℕ) (x : X) → slice_get xs k ≡ Some x → xs ≡ take k xs ++ x ∷ drop (suc k) xs
  split_at [] k x h = absurd (cc h)
  split_at (y ∷ xs) zero x h = ap (λ z. z ∷ xs) (same_Some y x h)
  split_at (y ∷ xs) (suc k) x h = ap (λ zs. y ∷ zs) (split_at xs k x h)

  pub length_front : (xs : List X) (k : ℕ) (x : X) → slice_get xs k ≡ Some x → length (take k xs) ≡ k
  length_front [] k x h = absurd (cc h)
  length_front (y ∷ xs) zero x h = refl
  length_front (y ∷ xs) (suc k) x h = ap suc (length_front xs k x h)

  -- what holds of each element holds at a place
  pub all_get : (P : X → Type 0) (xs : List X) (j : ℕ) (x : X) → All P xs → slice_get xs j ≡ Some x → P x
  all_get P xs j x h e = subst P (get_or_from_slice_get xs j x x e) (h j x (slice_get_within xs j x e))

  pub map_same : {Y : Type 0} (f g : X → Y) (xs : List X) → ((j : ℕ) (x : X) → slice_get xs j ≡ Some x → f x ≡ g x) → map f xs ≡ map g xs
  map_same f g [] h = refl
  map_same f g (x ∷ xs) h = ap (λ y. y ∷ map f xs) (h zero x refl) ∙ ap (λ ys. g x ∷ ys) (map_same f g xs (λ j. h (suc j)))

  -- a list that is mapped element by element
  pub map_more : {Y : Type 0} (f : X → Y) (xs : List X) (i : ℕ) (x : X) (v w : List Y) → slice_get xs i ≡ Some x → v ≡ map f (take i xs) → w ≡ v ++ f x ∷ [] → w ≡ map f (take (i + 1) xs)
  map_more f xs i x v w h known grown =
      grown ∙ ap (λ ys. ys ++ f x ∷ []) known ∙ rw add-one (taken f xs i x h)
    where
      taken : {Y : Type 0} (f : X → Y) (xs : List X) (i : ℕ) (x : X) → slice_get xs i ≡ Some x → map f (take i xs) ++ f x ∷ [] ≡ map f (take (suc i) xs)
      taken f [] i x h = absurd (cc h)
      taken f (y ∷ xs) zero x h = ap (λ z. f z ∷ []) (sym (same_Some y x h))
      taken f (y ∷ xs) (suc i) x h = ap (λ zs. f y ∷ zs) (taken f xs i x h)

  pub map_done : {Y : Type 0} (f : X → Y) (xs : List X) (i : ℕ) (v : List Y) → length xs ≤ i → v ≡ map f (take i xs) → v ≡ map f xs
  map_done f xs i v h known = known ∙ ap (map f) (take_all i xs h)

  -- what stands in one list or the other
  pub get_cases : (xs ys : List X) (i : ℕ) (x : X) → slice_get (xs ++ ys) i ≡ Some x → (slice_get xs i ≡ Some x) ⊎ ((j : ℕ) × (slice_get ys j ≡ Some x))
  get_cases [] ys i x h = inr (i, h)
  get_cases (z ∷ xs) ys zero x h = inl h
  get_cases (z ∷ xs) ys (suc i) x h = get_cases xs ys i x h

  pub front_get : (xs ys : List X) (i : ℕ) (x : X) → slice_get xs i ≡ Some x → slice_get (xs ++ ys) i ≡ Some x
  front_get xs ys i x h = get_append xs ys i (slice_get_within xs i x h) ∙ h

-- what stands in a mapped list
pub get_mapped : {X Y : Type 0} (f : X → Y) (xs : List X) (j : ℕ) (y : Y) → slice_get (map f xs) j ≡ Some y → (x : X) × (slice_get xs j ≡ Some x) × (f x ≡ y)
get_mapped f [] j y e = absurd (cc e)
get_mapped f (x ∷ xs) zero y e = (x, refl, same_Some (f x) y e)
get_mapped f (x ∷ xs) (suc j) y e = get_mapped f xs j y e
