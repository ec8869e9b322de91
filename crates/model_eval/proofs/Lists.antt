-- Values of terms, one after another.
use Rattle.std.proofs.Common.{◌≡◌, ◌∙◌, ◌+◌, ◌<◌, ◌≤◌, ◌++◌, ◌&&◌, ◌||◌, ℕ, zero, suc, Bool, true, false, not, if◌then◌else◌, List, [], ◌∷◌, Some, length, map, take, drop, get_or, refl, sym, ap, arith}
use Rattle.std.specs.Prelude.{slice_get, nat_lt}
use Rattle.std.proofs.lemmas.Bool.{false≢true, lt-ltb}
use Rattle.std.specs.List.{list_all, list_any}
use Rattle.std.proofs.lemmas.List.{at_drop_more, at_drop_all, map_more, map-append, take_all}
use Rattle.std.proofs.lemmas.Option.{slice_get-get_or}
use Rattle.y_tree.specs.Sorts.{Sort}
use Rattle.y_tree.specs.Values.{Value, values, same_value}
use Rattle.y_tree.specs.Meaning.{truth_of, is_odd, are_distinct}
use Rattle.y_tree.specs.Plain.{plain_value, plain_values}
use Rattle.y_tree.specs.declared.values.Value as code
use Rattle.term_shapes.specs.declared.handles.Term.{Term}
use Rattle.term_orders.specs.Orders.{IsIn}

module _ (f : Term → Value) (ts : List Term) (i : ℕ) (d : Term) (within : i < length ts) where
  abbrev all_from : List Term → Bool
  all_from us = list_all truth_of (map f us)

  abbrev any_from : List Term → Bool
  any_from us = list_any truth_of (map f us)

  pub all_skip : (b : Bool) → b ≡ truth_of (f (get_or ts i d)) → b ≡ true → all_from (drop i ts) ≡ all_from ts → all_from (drop (i + 1) ts) ≡ all_from ts
  all_skip b is e known =
      sym (ap (λ x. x && all_from (drop (i + 1) ts)) (sym is ∙ e)) ∙ sym (at_drop_more all_from ts i d within) ∙ known

  pub all_stop : (b : Bool) → b ≡ truth_of (f (get_or ts i d)) → b ≡ false → all_from (drop i ts) ≡ all_from ts → false ≡ all_from ts
  all_stop b is e known =
      sym (ap (λ x. x && all_from (drop (i + 1) ts)) (sym is ∙ e)) ∙ sym (at_drop_more all_from ts i d within) ∙ known

  pub any_skip : (b : Bool) → b ≡ truth_of (f (get_or ts i d)) → b ≡ false → any_from (drop i ts) ≡ any_from ts → any_from (drop (i + 1) ts) ≡ any_from ts
  any_skip b is e known =
      sym (ap (λ x. x || any_from (drop (i + 1) ts)) (sym is ∙ e)) ∙ sym (at_drop_more any_from ts i d within) ∙ known

  pub any_stop : (b : Bool) → b ≡ truth_of (f (get_or ts i d)) → b ≡ true → any_from (drop i ts) ≡ any_from ts → true ≡ any_from ts
  any_stop b is e known =
      sym (ap (λ x. x || any_from (drop (i + 1) ts)) (sym is ∙ e)) ∙ sym (at_drop_more any_from ts i d within) ∙ known

  -- a term among the others is one with the first
  abbrev same_from : Sort → Value → List Term → Bool
  same_from k v us = list_any (same_value k v) (map f us)

  pub same_skip : (k : Sort) (v : Value) (b : Bool) → b ≡ same_value k v (f (get_or ts i d)) → b ≡ false → same_from k v (drop i ts) ≡ same_from k v ts → same_from k v (drop (i + 1) ts) ≡ same_from k v ts
  same_skip k v b is e known =
      sym (ap (λ x. x || same_from k v (drop (i + 1) ts)) (sym is ∙ e)) ∙ sym (at_drop_more (same_from k v) ts i d within) ∙ known

  pub same_stop : (k : Sort) (v : Value) (b : Bool) → b ≡ same_value k v (f (get_or ts i d)) → b ≡ true → same_from k v (drop i ts) ≡ same_from k v ts → true ≡ same_from k v ts
  same_stop k v b is e known =
      sym (ap (λ x. x || same_from k v (drop (i + 1) ts)) (sym is ∙ e)) ∙ sym (at_drop_more (same_from k v) ts i d within) ∙ known

  abbrev distinct_from : Sort → List Term → Bool
  distinct_from k us = are_distinct k (map f us)

  pub distinct_skip : (k : Sort) (b : Bool) → b ≡ same_from k (f (get_or ts i d)) (drop (i + 1) ts) → b ≡ false → distinct_from k (drop i ts) ≡ distinct_from k ts → distinct_from k (drop (i + 1) ts) ≡ distinct_from k ts
  distinct_skip k b is e known =
      sym (ap (λ x. not x && distinct_from k (drop (i + 1) ts)) (sym is ∙ e)) ∙ sym (at_drop_more (distinct_from k) ts i d within) ∙ known

  pub distinct_stop : (k : Sort) (b : Bool) → b ≡ same_from k (f (get_or ts i d)) (drop (i + 1) ts) → b ≡ true → distinct_from k (drop i ts) ≡ distinct_from k ts → false ≡ distinct_from k ts
  distinct_stop k b is e known =
      sym (ap (λ x. not x && distinct_from k (drop (i + 1) ts)) (sym is ∙ e)) ∙ sym (at_drop_more (distinct_from k) ts i d within) ∙ known

odd_behind : (bs : List Bool) (b : Bool) → is_odd (bs ++ b ∷ []) ≡ (if b then not (is_odd bs) else is_odd bs)
odd_behind [] true = refl
odd_behind [] false = refl
odd_behind (true ∷ bs) true = ap not (odd_behind bs true)
odd_behind (true ∷ bs) false = ap not (odd_behind bs false)
odd_behind (false ∷ bs) true = odd_behind bs true
odd_behind (false ∷ bs) false = odd_behind bs false

-- the truth of one term more
pub odd_more : (f : Term → Value) (ts : List Term) (i : ℕ) (d : Term) → i < length ts → (odd b : Bool) → odd ≡ is_odd (map truth_of (map f (take i ts))) → b ≡ truth_of (f (get_or ts i d))
    → (if b then not odd else odd) ≡ is_odd (map truth_of (map f (take (i + 1) ts)))
odd_more f ts i d within odd b known is =
    ap (λ x. if x then not odd else odd) is
    ∙ ap (λ x. if truth_of (f (get_or ts i d)) then not x else x) known
    ∙ sym (odd_behind (map truth_of (map f (take i ts))) (truth_of (f (get_or ts i d))))
    ∙ ap is_odd (sym (ap (map truth_of) (map_more f ts i d within) ∙ map-append truth_of (map f (take i ts)) (f (get_or ts i d) ∷ [])))

-- all of the first terms are all of them
pub taken : {Y : Type 0} (g : List Term → Y) (ts : List Term) (i : ℕ) → length ts ≤ i → g (take i ts) ≡ g ts
taken g ts i h = ap g (take_all i ts h)

pub all_ended : (f : Term → Value) (ts : List Term) (i : ℕ) → length ts ≤ i → list_all truth_of (map f (drop i ts)) ≡ list_all truth_of (map f ts) → true ≡ list_all truth_of (map f ts)
all_ended f ts i h known = sym (at_drop_all (λ us. list_all truth_of (map f us)) ts i h) ∙ known

pub any_ended : (f : Term → Value) (ts : List Term) (i : ℕ) → length ts ≤ i → list_any truth_of (map f (drop i ts)) ≡ list_any truth_of (map f ts) → false ≡ list_any truth_of (map f ts)
any_ended f ts i h known = sym (at_drop_all (λ us. list_any truth_of (map f us)) ts i h) ∙ known

pub same_ended : (f : Term → Value) (k : Sort) (v : Value) (ts : List Term) (i : ℕ) → length ts ≤ i → list_any (same_value k v) (map f (drop i ts)) ≡ list_any (same_value k v) (map f ts) → false ≡ list_any (same_value k v) (map f ts)
same_ended f k v ts i h known = sym (at_drop_all (λ us. list_any (same_value k v) (map f us)) ts i h) ∙ known

pub distinct_ended : (f : Term → Value) (k : Sort) (ts : List Term) (i : ℕ) → length ts ≤ i → are_distinct k (map f (drop i ts)) ≡ are_distinct k (map f ts) → true ≡ are_distinct k (map f ts)
distinct_ended f k ts i h known = sym (at_drop_all (λ us. are_distinct k (map f us)) ts i h) ∙ known

-- a key of one value more
pub key_more : (f : Term → Value) (ts : List Term) (i : ℕ) (d : Term) (vs new : List code.Value) (v : code.Value) → i < length ts → map plain_value vs ≡ map f (take i ts) → plain_value v ≡ f (get_or ts i d) → new ≡ vs ++ v ∷ []
    → map plain_value new ≡ map f (take (i + 1) ts)
key_more f ts i d vs new v within known is e =
    ap (map plain_value) e ∙ map-append plain_value vs (v ∷ []) ∙ ap (λ ys. ys ++ plain_value v ∷ []) known
    ∙ ap (λ y. map f (take i ts) ++ y ∷ []) is ∙ sym (map_more f ts i d within)

pub key_done : (f : Term → Value) (ts : List Term) (i : ℕ) (vs : List code.Value) → length ts ≤ i → map plain_value vs ≡ map f (take i ts) → plain_values vs ≡ values (map f ts)
key_done f ts i vs h known = ap values (known ∙ ap (map f) (take_all i ts h))

-- an item of a list, and of what is behind it, stands in it
pub in_here : (ts : List Term) (i : ℕ) (d : Term) → i < length ts → IsIn ts (get_or ts i d)
in_here ts i d h = record { place = i; at = slice_get-get_or ts i d h }

behind_at : (ts : List Term) (i j : ℕ) (t : Term) → slice_get (drop i ts) j ≡ Some t → (k : ℕ) × (slice_get ts k ≡ Some t)
behind_at ts zero j t h = (j, h)
behind_at [] (suc i) j t h = (j, h)
behind_at (x ∷ ts) (suc i) j t h = let r = behind_at ts i j t h in (suc r.0, r.1)

pub in_behind : (ts : List Term) (i : ℕ) (t : Term) → IsIn (drop i ts) t → IsIn ts t
in_behind ts i t h = let r = behind_at ts i h.place t h.at in record { place = r.0; at = r.1 }

-- the first of a list, or there is none
pub first_in : (ts : List Term) (t : Term) → true ≡ nat_lt 0 (length ts) → t ≡ get_or ts 0 t → IsIn ts t
first_in [] t h e = absurd (cc h)
first_in (x ∷ ts) t h e = record { place = 0; at = ap Some (sym e) }

pub none_first : (f : Term → Value) (ts : List Term) (k : Sort) → false ≡ nat_lt 0 (length ts) → true ≡ are_distinct k (map f ts)
none_first f [] k e = refl
none_first f (t ∷ ts) k e = absurd (false≢true (e ∙ lt-ltb 0 (length (t ∷ ts)) (omega arith)))
