-- Places of terms in a list, and lists with each term once.
use Rattle.std.proofs.Common.{◌≡◌, ◌∙◌, ◌<◌, ◌+◌, ◌++◌, ℕ, false, zero, suc, List, [], ◌∷◌, Some, length, map, take, get_or, sym, ap, subst, arith, ⊎_elim}
use Rattle.std.specs.Prelude.{slice_get}
use Rattle.std.specs.List.{position, list_any}
use Rattle.std.proofs.lemmas.Option.{same_Some, slice_get_within, slice_get-get_or, get_or_from_slice_get}
use Rattle.std.proofs.lemmas.List.{take_more}
use Rattle.std.proofs.lemmas.List.Quantifiers.{position-Some}
use Rattle.std.proofs.lemmas.Bool.{false≢true, cases_lt, cases_order}
use Rattle.stamped_slots.proofs.Lists.{map_push}
use Rattle.term_shapes.specs.declared.handles.Term.{Term}
use Rattle.term_shapes.specs.contracts.handles.TermPartialEq.TheImpl as term
use Rattle.term_shapes.proofs.Same.{term_decides}
use Rattle.term_orders.specs.Orders.{IsIn}
use Rattle.term_orders.specs.Walk.{Inserts}
use Rattle.term_orders.proofs.Members.{listed}
use Rattle.term_orders.proofs.Standing.{grows, put_there, place_cases}
use Rattle.term_checks.specs.Listing.{no_term, IsFirstAt, AreOnce}

-- the place that is found is the term's
pub found_place : (ks : List Term) (t : Term) (k : ℕ) → position (term.eq-value.it t) ks ≡ Some k → slice_get ks k ≡ Some t
found_place ks t k e =
    let p = position-Some (term.eq-value.it t) ks k no_term e in
    slice_get-get_or ks k no_term p.0 ∙ ap Some (sym ((term_decides t (get_or ks k no_term)).0 p.1))

-- a term that is there has one
pub has_place : (ks : List Term) (t : Term) → list_any (term.eq-value.it t) ks ≡ false → IsIn ks t → ⊥
has_place ks t e h = false≢true (sym e ∙ listed ks t h.place h.at)

-- an item of a list is in it
pub in_at : (ts : List Term) (i : ℕ) (t : Term) → slice_get ts i ≡ Some t → IsIn ts t
in_at ts i t e = record { place = i; at = e }

-- an item among the first ones
in_front : (xs : List Term) (n j : ℕ) (x : Term) → slice_get (take n xs) j ≡ Some x → (j < n) × (slice_get xs j ≡ Some x)
in_front xs zero j x h = absurd (cc h)
in_front [] (suc n) j x h = absurd (cc h)
in_front (y ∷ xs) (suc n) zero x h = (omega arith, h)
in_front (y ∷ xs) (suc n) (suc j) x h = let r = in_front xs n j x h in (omega (arith, r.0), r.1)

-- a different term, put behind those before it
pub set_more : (ts ks us : List Term) (i : ℕ) (t : Term) → ((i j : ℕ) (t : Term) → slice_get ts i ≡ Some t → slice_get ts j ≡ Some t → i ≡ j)
    → ks ≡ take i ts → slice_get ts i ≡ Some t → Inserts ks t us → us ≡ take (i + 1) ts
set_more ts ks us i t once e at put = ⊎_elim
    (λ s. absurd (again s.0))
    (λ s. s.1 ∙ ap (λ z. z ++ t ∷ []) e ∙ ap (λ z. take i ts ++ z ∷ []) (sym (get_or_from_slice_get ts i t no_term at)) ∙ sym (take_more ts i no_term (slice_get_within ts i t at)))
    put
  where
    again : IsIn ks t → ⊥
    again h =
        let there = subst (λ z. slice_get z h.place ≡ Some t) e h.at in
        let early = in_front ts i h.place t there in
        let same : h.place ≡ i = once h.place i t early.1 at in
        omega (arith, early.0, same)

-- the function at one item more
pub mapped_more : {X Y : Type 0} (f : X → Y) (xs : List X) (i : ℕ) (d : X) (vs : List Y) (v : Y) → i < length xs → vs ≡ map f (take i xs) → v ≡ f (get_or xs i d) → vs ++ v ∷ [] ≡ map f (take (i + 1) xs)
mapped_more f xs i d vs v small e is =
    ap (λ z. z ++ v ∷ []) e
    ∙ ap (λ z. map f (take i xs) ++ z ∷ []) is
    ∙ sym (map_push f (take i xs) (get_or xs i d))
    ∙ ap (map f) (sym (take_more xs i d small))

one_first : (ts : List Term) (p q : ℕ) (u : Term) → IsFirstAt ts p u → IsFirstAt ts q u → p ≡ q
one_first ts p q u f g = ⊎_elim (λ h. h) (⊎_elim (λ h. absurd (g.first p h f.at)) (λ h. absurd (f.first q h g.at))) (cases_order p q)

-- each of the first terms once
module _ (ts : List Term) (i : ℕ) (t : Term) (at : slice_get ts i ≡ Some t) (us vs : List Term) (o : AreOnce ts i us) (put : Inserts us t vs) where
  every_more : (p : ℕ) (u : Term) → p < i + 1 → slice_get ts p ≡ Some u → IsIn vs u
  every_more p u small e = ⊎_elim
      (λ h. grows us vs t put u (o.every p u h e))
      (λ h. let here : p ≡ i = omega (arith, h, small) in subst (IsIn vs) (same_Some t u (sym at ∙ ap (λ z. slice_get ts z) (sym here) ∙ e)) (put_there us vs t put))
      (cases_lt p i)

  first_here : (IsIn us t → ⊥) → IsFirstAt ts i t
  first_here new = record { at = at; first = λ p small e. new (o.every p t small e) }

  only_more : (j : ℕ) (u : Term) → slice_get vs j ≡ Some u → (p : ℕ) × (p < i + 1) × IsFirstAt ts p u
  only_more j u e = ⊎_elim
      (λ h. let r = o.only j u h in (r.0, omega (arith, r.1), r.2))
      (λ h. (i, omega arith, subst (IsFirstAt ts i) h.1 (first_here h.2)))
      (place_cases us vs t put j u e)

  single_more : (j k : ℕ) (u : Term) → slice_get vs j ≡ Some u → slice_get vs k ≡ Some u → j ≡ k
  single_more j k u e f = ⊎_elim
      (λ h. ⊎_elim (λ g. o.single j k u h g) (λ g. absurd (g.2 (subst (IsIn us) (sym g.1) (in_at us j u h)))) (place_cases us vs t put k u f))
      (λ h. ⊎_elim (λ g. absurd (h.2 (subst (IsIn us) (sym h.1) (in_at us k u g)))) (λ g. h.0 ∙ sym g.0) (place_cases us vs t put k u f))
      (place_cases us vs t put j u e)

  rising_more : (j k p q : ℕ) (u x : Term) → j < k → slice_get vs j ≡ Some u → slice_get vs k ≡ Some x → IsFirstAt ts p u → IsFirstAt ts q x → p < q
  rising_more j k p q u x small e f first second = ⊎_elim
      (λ h. ⊎_elim
      (λ g. o.rising j k p q u x small h g first second)
      (λ g. let r = o.only j u h in
      let here : r.0 ≡ p = one_first ts r.0 p u r.2 first in
      let there : i ≡ q = one_first ts i q x (subst (IsFirstAt ts i) g.1 (first_here g.2)) second in
      omega (arith, r.1, here, there))
      (place_cases us vs t put k x f))
      (λ h. ⊎_elim
      (λ g. absurd (let far = slice_get_within us k x g in omega (arith, far, h.0, small)))
      (λ g. absurd (omega (arith, h.0, g.0, small)))
      (place_cases us vs t put k x f))
      (place_cases us vs t put j u e)

  pub once_more : AreOnce ts (i + 1) vs
  once_more = record { every = every_more; only = only_more; single = single_more; rising = rising_more }

pub once_none : (ts us : List Term) → us ≡ [] → AreOnce ts 0 us
once_none ts us e = record {
  every = λ p t small h. absurd (omega (arith, small));
  only = λ j t h. absurd (cc (sym (ap (λ z. slice_get z j) e) ∙ h));
  single = λ j k t h g. absurd (cc (sym (ap (λ z. slice_get z j) e) ∙ h));
  rising = λ j k p q t u small h g. absurd (cc (sym (ap (λ z. slice_get z j) e) ∙ h));
}
