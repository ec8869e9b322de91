-- Arguments and what they stand for, one after another.
use Rattle.std.proofs.Common.{◌≡◌, ◌∙◌, ◌++◌, ◌<◌, ◌≤◌, ◌+◌, ℕ, zero, suc, true, List, [], ◌∷◌, map, take, length, get_or, Option, Some, None, refl, sym, ap, ⊎_elim, arith, add-one}
use Rattle.std.proofs.lemmas.Bool.{cases_lt}
use Rattle.std.proofs.lemmas.Option.{slice_get-map, slice_get_read, slice_get_within}
use Rattle.std.specs.Prelude.{IsSome, slice_get}
use Rattle.std.specs.Option.{option_map}
use Rattle.call_script.specs.declared.lines.Argument.{Argument}
use Rattle.call_script.specs.declared.words.ArgumentKind.{ArgumentKind}
use Rattle.call_script.specs.declared.words.CallWord.{CallWord}
use Rattle.call_script.specs.Calls.{kind_at}
use Rattle.call_script.specs.Results.{written, all_written}
use Rattle.script_session.specs.declared.meant.Gave.{Gave}
use Rattle.script_session.specs.declared.meant.Meant.{Meant}
use Rattle.script_session.specs.Asking.{meaning, is_of_kind, IsWithoutResult}

-- all of a list, or its first items, are Some of these
pub first_all : {A B : Type 0} (f : A → Option B) (xs : List A) (n : ℕ) (ys : List B) → map f (take n xs) ≡ map Some ys → (i : ℕ) (x : A) → i < n → slice_get xs i ≡ Some x → IsSome (f x)
first_all f [] n ys e i x below at = absurd (cc at)
first_all f (y ∷ xs) zero ys e i x below at = absurd (omega arith)
first_all f (y ∷ xs) (suc n) [] e i x below at = absurd (cc e)
first_all f (y ∷ xs) (suc n) (z ∷ ys) e zero x below at = by (f x) (ap f (same at) ∙ head e)
  where
    same : Some y ≡ Some x → x ≡ y
    same q = cc q

    head : f y ∷ map f (take n xs) ≡ Some z ∷ map Some ys → f y ≡ Some z
    head q = cc q

    by : (o : Option _) → o ≡ Some z → IsSome o
    by None q = absurd (cc q)
    by (Some w) q = refl
first_all f (y ∷ xs) (suc n) (z ∷ ys) e (suc i) x below at = first_all f xs n ys (tail e) i x (omega arith) at
  where
    tail : f y ∷ map f (take n xs) ≡ Some z ∷ map Some ys → map f (take n xs) ≡ map Some ys
    tail q = cc q

-- one more
first_suc : {A B : Type 0} (f : A → Option B) (xs : List A) (n : ℕ) (ys : List B) (x : A) (y : B) → map f (take n xs) ≡ map Some ys → slice_get xs n ≡ Some x → f x ≡ Some y → map f (take (suc n) xs) ≡ map Some (ys ++ y ∷ [])
first_suc f [] n ys x y e at g = absurd (cc at)
first_suc f (z ∷ xs) zero [] x y e at g = ap (λ o. o ∷ []) (ap f (same at) ∙ g)
  where
    same : Some z ≡ Some x → z ≡ x
    same q = cc q
first_suc f (z ∷ xs) zero (w ∷ ys) x y e at g = absurd (cc e)
first_suc f (z ∷ xs) (suc n) [] x y e at g = absurd (cc e)
first_suc f (z ∷ xs) (suc n) (w ∷ ys) x y e at g = both (parts e).0 (first_suc f xs n ys x y (parts e).1 at g)
  where
    parts : f z ∷ map f (take n xs) ≡ Some w ∷ map Some ys → (f z ≡ Some w) × (map f (take n xs) ≡ map Some ys)
    parts q = (cc q, cc q)

    both : f z ≡ Some w → map f (take (suc n) xs) ≡ map Some (ys ++ y ∷ []) → f z ∷ map f (take (suc n) xs) ≡ Some w ∷ map Some (ys ++ y ∷ [])
    both p q = cc (p, q)

pub first_more : {A B : Type 0} (f : A → Option B) (xs : List A) (n : ℕ) (ys : List B) (x : A) (y : B) → map f (take n xs) ≡ map Some ys → slice_get xs n ≡ Some x → f x ≡ Some y → map f (take (n + 1) xs) ≡ map Some (ys ++ y ∷ [])
first_more f xs n ys x y e at g = rw (add-one n) (first_suc f xs n ys x y e at g)

-- the argument at an index, as written
at_written : (args : List Argument) (i : ℕ) (a : Argument) → i < length args → a ≡ get_or args i a → slice_get (all_written args) i ≡ Some (written a)
at_written args i a below is = slice_get-map written args i ∙ ap (option_map written) (slice_get_read args (length args) i a refl below is)

-- one more argument stands for something
pub more_meanings : (given : List Gave) (args : List Argument) (i : ℕ) (ms : List Meant) (a : Argument) (o : Option Meant) (m : Meant) → map (meaning given) (take i (all_written args)) ≡ map Some ms → i < length args → a ≡ get_or args i a → o ≡ meaning given (written a) → o ≡ Some m → map (meaning given) (take (i + 1) (all_written args)) ≡ map Some (ms ++ m ∷ [])
more_meanings given args i ms a o m before below is e f = first_more (meaning given) (all_written args) i ms (written a) m before (at_written args i a below is) (sym e ∙ f)

-- the first argument without a result
pub without_result : (given : List Gave) (args : List Argument) (i : ℕ) (ms : List Meant) (a : Argument) (o : Option Meant) → map (meaning given) (take i (all_written args)) ≡ map Some ms → i < length args → a ≡ get_or args i a → o ≡ meaning given (written a) → o ≡ None → IsWithoutResult given (all_written args) (i + 1)
without_result given args i ms a o before below is e f = record {
  index = i;
  counted = refl;
  argument = written a;
  there = at_written args i a below is;
  none = sym e ∙ f;
  earlier = first_all (meaning given) (all_written args) i ms before;
}

-- one more argument of the kind that is taken there
pub more_kinds : (w : CallWord) (ms : List Meant) (i : ℕ) (x : Meant) (k : Option ArgumentKind) → ((j : ℕ) (m : Meant) → j < i → slice_get ms j ≡ Some m → is_of_kind (kind_at w j) m ≡ true) → i < length ms → x ≡ get_or ms i x → k ≡ kind_at w i → true ≡ is_of_kind k x
    → (j : ℕ) (m : Meant) → j < i + 1 → slice_get ms j ≡ Some m → is_of_kind (kind_at w j) m ≡ true
more_kinds w ms i x k before below is kind so j m under at = ⊎_elim (λ h. before j m h at) last (cases_lt j i)
  where
    here : slice_get ms i ≡ Some x
    here = slice_get_read ms (length ms) i x refl below is

    same : Some m ≡ Some x → m ≡ x
    same q = cc q

    last : i ≤ j → is_of_kind (kind_at w j) m ≡ true
    last h =
        let e : j ≡ i = omega (arith, h, under) in
        let f : m ≡ x = same (sym at ∙ ap (slice_get ms) e ∙ here) in
        ap (λ n. is_of_kind (kind_at w n) m) e ∙ ap (is_of_kind (kind_at w i)) f ∙ ap (λ z. is_of_kind z x) (sym kind) ∙ sym so

-- all of them are
pub all_kinds : (w : CallWord) (ms : List Meant) (i : ℕ) → ((j : ℕ) (m : Meant) → j < i → slice_get ms j ≡ Some m → is_of_kind (kind_at w j) m ≡ true) → length ms ≤ i
    → (j : ℕ) (m : Meant) → slice_get ms j ≡ Some m → is_of_kind (kind_at w j) m ≡ true
all_kinds w ms i before past j m at = before j m (omega (arith, past, slice_get_within ms j m at)) at
