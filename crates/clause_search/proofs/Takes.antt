-- The end of a list, copied element by element.
use Rattle.std.proofs.Common.{ℕ, zero, suc, ◌≤◌, ◌+◌, ◌-◌, ◌++◌, List, [], ◌∷◌, ◌≡◌, ◌∙◌, Some, refl, sym, ap, length, arith, take, drop}
use Rattle.std.specs.Prelude.{slice_get}

module _ {X : Type 0} where
  pub get_drop : (a n : ℕ) (xs : List X) → slice_get (drop a xs) n ≡ slice_get xs (a + n)
  get_drop zero n xs = ap (slice_get xs) (omega arith)
  get_drop (suc a) n [] = refl
  get_drop (suc a) n (x ∷ xs) = get_drop a n xs ∙ ap (slice_get (x ∷ xs)) (let e : suc (a + n) ≡ suc a + n = omega arith in e)

  pub take_next : (n : ℕ) (xs : List X) (x : X) → slice_get xs n ≡ Some x → take (suc n) xs ≡ take n xs ++ x ∷ []
  take_next n [] x h = absurd (cc h)
  take_next zero (y ∷ xs) x h = let e : y ≡ x = cc h in ap (λ z. z ∷ []) e
  take_next (suc n) (y ∷ xs) x h = ap (λ zs. y ∷ zs) (take_next n xs x h)

  pub take_whole : (n : ℕ) (xs : List X) → length xs ≤ n → take n xs ≡ xs
  take_whole zero [] h = refl
  take_whole (suc n) [] h = refl
  take_whole zero (x ∷ xs) h = absurd (omega (arith, h))
  take_whole (suc n) (x ∷ xs) h = ap (λ ys. x ∷ ys) (take_whole n xs (omega (arith, h)))

  pub drop_front : (xs ys : List X) → drop (length xs) (xs ++ ys) ≡ ys
  drop_front [] ys = refl
  drop_front (x ∷ xs) ys = drop_front xs ys

  pub drop_length : (a : ℕ) (xs : List X) → length (drop a xs) ≤ length xs - a
  drop_length zero xs = omega arith
  drop_length (suc a) [] = omega arith
  drop_length (suc a) (x ∷ xs) = omega (arith, drop_length a xs)

  pub copy_more : (xs acc new : List X) (from c : ℕ) (x : X) → from ≤ c → slice_get xs c ≡ Some x → acc ≡ take (c - from) (drop from xs) → new ≡ acc ++ x ∷ [] → new ≡ take (c + 1 - from) (drop from xs)
  copy_more xs acc new from c x low at before is =
      let there : slice_get (drop from xs) (c - from) ≡ Some x = get_drop from (c - from) xs ∙ ap (slice_get xs) (let e : from + (c - from) ≡ c = omega (arith, low) in e) ∙ at in
      is ∙ ap (λ (ys : List X). ys ++ x ∷ []) before ∙ sym (take_next (c - from) (drop from xs) x there)
      ∙ ap (λ (n : ℕ). take n (drop from xs)) (let e : suc (c - from) ≡ c + 1 - from = omega (arith, low) in e)
