-- Each call as written asks something.
use Rattle.std.proofs.Common.{◌≡◌, ◌∙◌, ◌<◌, ◌+◌, ℕ, zero, suc, Bool, true, false, List, [], ◌∷◌, map, Option, Some, None, refl, sym, ap, subst, ◌⊎◌, inl, inr, arith}
use Rattle.std.specs.Prelude.{IsSome, slice_get}
use Rattle.call_script.specs.declared.words.CallWord.{CallWord}
use Rattle.call_script.specs.Calls.{kind_at}
use Rattle.call_script.specs.Lines.{Written, HasForm}
use Rattle.yices_api.specs.declared.calls.Call.{Call}
use Rattle.yices_api.specs.declared.replies.CallError.{CallError}
use Rattle.yices_api.specs.declared.replies.CallError.TheVariants as refusal
use Rattle.script_session.specs.declared.meant.Gave.{Gave}
use Rattle.script_session.specs.declared.meant.Meant.{Meant}
use Rattle.script_session.specs.CallTable.{call_of}
use Rattle.script_session.specs.Asking.{meaning, AllMean, is_of_kind, IsRefusedAsWritten, AsksFor}
use Rattle.script_session.proofs.Forms.{call_made}

-- a list whose items are all good, or its first one that is bad
data Found {A : Type 0} (good bad : ℕ → A → Type 0) (xs : List A) : Type 0 where
  all_good : ((i : ℕ) (x : A) → slice_get xs i ≡ Some x → good i x) → Found good bad xs
  first_bad : (i : ℕ) (x : A) → slice_get xs i ≡ Some x → bad i x → ((j : ℕ) (y : A) → j < i → slice_get xs j ≡ Some y → good j y) → Found good bad xs

same_item : {A : Type 0} (x y : A) → Some x ≡ Some y → x ≡ y
same_item x y e = cc e

look : {A : Type 0} (good bad : ℕ → A → Type 0) → ((i : ℕ) (x : A) → good i x ⊎ bad i x) → (xs : List A) → Found good bad xs
look good bad d [] = all_good (λ i x e. absurd (cc e))
look {A} good bad d (x ∷ xs) = step (d 0 x) (look (λ i. good (suc i)) (λ i. bad (suc i)) (λ i. d (suc i)) xs)
  where
    begin : good 0 x → (y : A) → Some x ≡ Some y → good 0 y
    begin g y e = subst (good 0) (same_item x y e) g

    every : good 0 x → ((i : ℕ) (y : A) → slice_get xs i ≡ Some y → good (suc i) y) → (i : ℕ) (y : A) → slice_get (x ∷ xs) i ≡ Some y → good i y
    every g h zero y e = begin g y e
    every g h (suc i) y e = h i y e

    before : good 0 x → (i : ℕ) → ((j : ℕ) (y : A) → j < i → slice_get xs j ≡ Some y → good (suc j) y) → (j : ℕ) (y : A) → j < suc i → slice_get (x ∷ xs) j ≡ Some y → good j y
    before g i h zero y k e = begin g y e
    before g i h (suc j) y k e = h j y (omega arith) e

    step : good 0 x ⊎ bad 0 x → Found (λ i. good (suc i)) (λ i. bad (suc i)) xs → Found good bad (x ∷ xs)
    step (inr b) r = first_bad 0 x refl b (λ j y h e. absurd (omega arith))
    step (inl g) (all_good h) = all_good (every g h)
    step (inl g) (first_bad i y e b h) = first_bad (suc i) y e b (before g i h)

-- an option has a value or none
has_or_not : {A : Type 0} (o : Option A) → IsSome o ⊎ (o ≡ None)
has_or_not None = inr refl
has_or_not (Some x) = inl refl

true_or_false : (b : Bool) → (b ≡ true) ⊎ (b ≡ false)
true_or_false true = inl refl
true_or_false false = inr refl

-- the value of an option that has one
value_of : {A : Type 0} (o : Option A) → IsSome o → (x : A) × (o ≡ Some x)
value_of None h = absurd (cc h)
value_of (Some x) h = (x, refl)

-- the values of a list whose items all have one
values : {A B : Type 0} (f : A → Option B) (xs : List A) → ((i : ℕ) (x : A) → slice_get xs i ≡ Some x → IsSome (f x)) → (ys : List B) × (map f xs ≡ map Some ys)
values {A} {B} f [] h = ([], refl)
values {A} {B} f (x ∷ xs) h = add (value_of (f x) (h 0 x refl)) (values f xs (λ i y e. h (suc i) y e))
  where
    add : (y : B) × (f x ≡ Some y) → (ys : List B) × (map f xs ≡ map Some ys) → (zs : List B) × (map f (x ∷ xs) ≡ map Some zs)
    add (y, e) (ys, g) = (y ∷ ys, cc (e, g))

module _ (given : List Gave) (w : CallWord) (args : List Written) (form : HasForm w args) where
  abbrev Asked : Type 0
  Asked = ((e : CallError) × IsRefusedAsWritten given w args e) ⊎ ((c : Call) × AsksFor given w args c)

  with_kinds : (ms : List Meant) → AllMean given args ms → Found (λ i m. is_of_kind (kind_at w i) m ≡ true) (λ i m. is_of_kind (kind_at w i) m ≡ false) ms → Asked
  with_kinds ms all (all_good h) =
      let c = value_of (call_of w ms) (call_made (meaning given) w args ms form all h) in
      inr (c.0, record { meanings = ms; fit = record { all = all; kinds = h }; is = c.1 })
  with_kinds ms all (first_bad i m at wrong h) =
      inl (refusal.WrongKind (i + 1), record { meanings = ms; all = all; index = i; counted = refl; first = record { argument = m; there = at; wrong = wrong; earlier = h } })

  with_results : Found (λ i a. IsSome (meaning given a)) (λ i a. meaning given a ≡ None) args → Asked
  with_results (all_good h) =
      let ms = values (meaning given) args h in
      with_kinds ms.0 ms.1 (look (λ i m. is_of_kind (kind_at w i) m ≡ true) (λ i m. is_of_kind (kind_at w i) m ≡ false) (λ i m. true_or_false (is_of_kind (kind_at w i) m)) ms.0)
  with_results (first_bad i a at none h) = inl (refusal.NoResult (i + 1), record { index = i; counted = refl; argument = a; there = at; none = none; earlier = h })

  pub something_is_asked : ((e : CallError) × IsRefusedAsWritten given w args e) ⊎ ((c : Call) × AsksFor given w args c)
  something_is_asked = with_results (look (λ i a. IsSome (meaning given a)) (λ i a. meaning given a ≡ None) (λ i a. has_or_not (meaning given a)) args)
