-- The order of numbers as the code compares them, and ranges with one bound more.
use Rattle.std.proofs.Common.{◌≡◌, ℕ, zero, suc, ◌+◌, ◌<◌, ◌≤◌, Bool, true, false, List, [], ◌∷◌, ◌++◌, ◌⊎◌, inl, inr, length, get_or, set, take, Option, Some, None, refl, sym, ap, ◌∙◌, subst, arith, length-append}
use native.Mathlib.Decide.{ℕ_discrete}
use Rattle.std.proofs.lemmas.List.{get_or-set_same, get_or-set_other, take_more, length-set}
use Rattle.std.proofs.lemmas.List.Elements.{Contains-append_cases, Contains-append_left, Contains-append_right}
use Rattle.std.specs.Prelude.{Contains}
use Rattle.std.specs.declared.cmp.Ordering.TheVariants.{Less, Equal, Greater}
use Rattle.std.specs.Ordering.{MatchOrdering}
use Rattle.rationals.specs.Delta.{Delta, ◌≤Δ◌, ◌<Δ◌, cmp_Δ}
use Rattle.rationals.proofs.Delta as D
use Rattle.simplex_logic.specs.Limits.{AtLeast, AtMost}
use Rattle.simplex_logic.proofs.Bland.{le_self}
use Rattle.simplex_table.specs.View.{delta_of}
use Rattle.simplex_bounds.specs.Ranges.{OnSide, free, range_at, limit_of, InRange, Keeps, as_before, by_new, Tightens, IsOf, Ranged, IsStraight, Stands, at_zero, at_low, at_up, Above, Under, Raised, from_zero, from_low, Lowered, kept, to_up, AllFree}
use Rattle.simplex_bounds.specs.declared.Bound.{Bound}
use Rattle.simplex_bounds.specs.declared.Range.{Range}

-- what each answer of the comparison says
pub below_of : (a b : Delta) → cmp_Δ a b ≡ Less → a <Δ b
below_of a b e = subst (λ o. MatchOrdering o (a <Δ b) (a ≡ b) (b <Δ a)) e (D.ranks_Δ a b)

pub least_of_lt : (a b : Delta) → a <Δ b → a ≤Δ b
least_of_lt a b h = elim (D.either a b) [ inl p ↦ p | inr p ↦ absurd (D.lt_irrefl a (D.lt_trans a b a h p)) ]

pub same_le : (a b : Delta) → a ≡ b → b ≤Δ a
same_le a b e = subst (λ x. x ≤Δ a) e (le_self a)

pub not_below_equal : (a b : Delta) → cmp_Δ a b ≡ Equal → b ≤Δ a
not_below_equal a b e = same_le a b (subst (λ o. MatchOrdering o (a <Δ b) (a ≡ b) (b <Δ a)) e (D.ranks_Δ a b))

pub not_below_greater : (a b : Delta) → cmp_Δ a b ≡ Greater → b ≤Δ a
not_below_greater a b e = least_of_lt b a (subst (λ o. MatchOrdering o (a <Δ b) (a ≡ b) (b <Δ a)) e (D.ranks_Δ a b))

-- ---- the stronger of two bounds
pub above_new : (old : Option Bound) (held bound : Bound) → old ≡ Some held → delta_of held.value <Δ delta_of bound.value → Above old bound (Some bound)
above_new old held bound e h = λ x k. (subst (λ o. AtLeast (limit_of o) x) (sym e) (D.le_trans (delta_of held.value) (delta_of bound.value) x (least_of_lt (delta_of held.value) (delta_of bound.value) h) k), k)

pub above_old : (old : Option Bound) (held bound : Bound) → old ≡ Some held → delta_of bound.value ≤Δ delta_of held.value → Above old bound (Some held)
above_old old held bound e h = λ x k. (subst (λ o. AtLeast (limit_of o) x) (sym e) k, D.le_trans (delta_of bound.value) (delta_of held.value) x h k)

pub under_new : (old : Option Bound) (held bound : Bound) → old ≡ Some held → delta_of bound.value <Δ delta_of held.value → Under old bound (Some bound)
under_new old held bound e h = λ x k. (subst (λ o. AtMost (limit_of o) x) (sym e) (D.le_trans x (delta_of bound.value) (delta_of held.value) k (least_of_lt (delta_of bound.value) (delta_of held.value) h)), k)

pub under_old : (old : Option Bound) (held bound : Bound) → old ≡ Some held → delta_of held.value ≤Δ delta_of bound.value → Under old bound (Some held)
under_old old held bound e h = λ x k. (subst (λ o. AtMost (limit_of o) x) (sym e) k, D.le_trans x (delta_of held.value) (delta_of bound.value) k h)

-- ---- where a column starts
pub starts : (low up : Option Bound) (a x : Delta) → ((b d : Bound) → low ≡ Some b → up ≡ Some d → delta_of b.value ≤Δ delta_of d.value)
    → Raised low a → Lowered up a x → Stands (record { low = low; up = up }) x
starts low up a x s (from_zero e) (kept f) = at_zero (f ∙ e)
starts low up a x s (from_low b p e) (kept f) = at_low b p (f ∙ e)
starts low up a x s r (to_up d q f h) = at_up d q f

-- ---- lists of ranges
pub free_straight : IsStraight free
free_straight = λ a b e f. absurd (no_bound a e)
  where
    no_bound : (a : Bound) → None ≡ Some a → ⊥
    no_bound a e = cc

-- past the end a range is free
pub past_end : (ranges : List Range) (v : ℕ) → length ranges ≤ v → range_at ranges v ≡ free
past_end [] v h = refl
past_end (r ∷ rs) zero h = absurd (omega arith)
past_end (r ∷ rs) (suc v) h = past_end rs v (omega arith)

pub all_straight : (ranges : List Range) (i v : ℕ) → length ranges ≤ i → ((k : ℕ) → k < i → IsStraight (range_at ranges k)) → IsStraight (range_at ranges v)
all_straight ranges i v h f = elim (split v (length ranges)) [
  | inl p ↦ f v (omega arith)
  | inr p ↦ subst (λ r. IsStraight r) (sym (past_end ranges v p)) free_straight
]
  where
    split : (m n : ℕ) → (m < n) ⊎ (n ≤ m)
    split m zero = inr (omega arith)
    split zero (suc n) = inl (omega arith)
    split (suc m) (suc n) = elim (split m n) [ inl p ↦ inl (omega arith) | inr p ↦ inr (omega arith) ]

pub one_more_free : (count : ℕ) (ranges ranges' : List Range) → AllFree count ranges → ranges' ≡ ranges ++ free ∷ [] → AllFree (count + 1) ranges'
one_more_free count ranges ranges' h e = subst (λ rs. AllFree (count + 1) rs) (sym e) (record { long = longer ranges count h.long; each = λ v. last ranges v (h.each v) })
  where
    longer : (rs : List Range) (n : ℕ) → length rs ≡ n → length (rs ++ free ∷ []) ≡ n + 1
    longer rs n e = omega (arith, length-append rs (free ∷ []))

    last : (rs : List Range) (v : ℕ) → range_at rs v ≡ free → range_at (rs ++ free ∷ []) v ≡ free
    last [] zero e = refl
    last [] (suc v) e = refl
    last (r ∷ rs) zero e = e
    last (r ∷ rs) (suc v) e = last rs v e

-- ---- ranges through one bound more
module _ (n : ℕ) (old : List Bound) (ranges : List Range) (b : Bound) (new : Range) (hb : b.variable < n) (g : Ranged n old ranges) (t : Tightens (range_at ranges b.variable) b new) where
  inside : b.variable < length ranges
  inside = subst (λ m. b.variable < m) (sym g.long) hb

  range_here : (v : ℕ) → v ≡ b.variable → range_at (set ranges b.variable new) v ≡ new
  range_here v e = ap (λ i. range_at (set ranges b.variable new) i) e ∙ get_or-set_same ranges b.variable new free inside

  range_there : (v : ℕ) → (v ≡ b.variable → ⊥) → range_at (set ranges b.variable new) v ≡ range_at ranges v
  range_there v d = get_or-set_other ranges b.variable v new free d

  kept_in : (v : ℕ) (s : Bool) (d : Bound) → IsOf old v s d → IsOf (old ++ b ∷ []) v s d
  kept_in v s d h = record { listed = Contains-append_left old (b ∷ []) d h.listed; variable = h.variable; side = h.side }

  last_in : Contains (old ++ b ∷ []) b
  last_in = Contains-append_right old (b ∷ []) b (0, omega arith, refl)

  side_then : (v : ℕ) (s : Bool) (was now : Option Bound) → v ≡ b.variable → ((d : Bound) → was ≡ Some d → IsOf old v s d) → Keeps s was b now → (d : Bound) → now ≡ Some d → IsOf (old ++ b ∷ []) v s d
  side_then v s was now e f (as_before k) d q = kept_in v s d (f d (sym k ∙ q))
  side_then v s was now e f (by_new k l) d q =
      let same : b ≡ d = cc in
      subst (λ x. IsOf (old ++ b ∷ []) v s x) same (record { listed = last_in; variable = sym e; side = k })

  low_then : (v : ℕ) (d : Bound) → Dec (v ≡ b.variable) → (range_at (set ranges b.variable new) v).low ≡ Some d → IsOf (old ++ b ∷ []) v false d
  low_then v d (yes e) q = side_then v false (range_at ranges b.variable).low new.low e (λ x p. g.low v x (ap (λ i. (range_at ranges i).low) e ∙ p)) t.low d (sym (ap (λ (r : Range). r.low) (range_here v e)) ∙ q)
  low_then v d (no k) q = kept_in v false d (g.low v d (sym (ap (λ (r : Range). r.low) (range_there v k)) ∙ q))

  up_then : (v : ℕ) (d : Bound) → Dec (v ≡ b.variable) → (range_at (set ranges b.variable new) v).up ≡ Some d → IsOf (old ++ b ∷ []) v true d
  up_then v d (yes e) q = side_then v true (range_at ranges b.variable).up new.up e (λ x p. g.up v x (ap (λ i. (range_at ranges i).up) e ∙ p)) t.up d (sym (ap (λ (r : Range). r.up) (range_here v e)) ∙ q)
  up_then v d (no k) q = kept_in v true d (g.up v d (sym (ap (λ (r : Range). r.up) (range_there v k)) ∙ q))

  in_old : (v : ℕ) (x : Delta) → Dec (v ≡ b.variable) → InRange (range_at (set ranges b.variable new) v) x → InRange (range_at ranges v) x
  in_old v x (yes e) h = subst (λ i. InRange (range_at ranges i) x) (sym e) (t.old_range x (subst (λ r. InRange r x) (range_here v e) h))
  in_old v x (no k) h = subst (λ r. InRange r x) (range_there v k) h

  only_one : (d : Bound) → Contains (b ∷ []) d → b ≡ d
  only_one d (zero, h, e) = e
  only_one d (suc k, h, e) = absurd (omega arith)

  met_then : (d : Bound) → (Contains old d) ⊎ (Contains (b ∷ []) d) → (x : Delta) → InRange (range_at (set ranges b.variable new) d.variable) x → OnSide d.upper (delta_of d.value) x
  met_then d (inl p) x h = g.met d p x (in_old d.variable x (ℕ_discrete d.variable b.variable) h)
  met_then d (inr p) x h =
      let e = only_one d p in
      subst (λ (z : Bound). OnSide z.upper (delta_of z.value) x) e (t.new_bound x (subst (λ r. InRange r x) (range_here d.variable (ap (λ (z : Bound). z.variable) (sym e))) h))

  pub ranged_more : Ranged n (old ++ b ∷ []) (set ranges b.variable new)
  ranged_more = record {
    long = length-set ranges b.variable new ∙ g.long;
    low = λ v d. low_then v d (ℕ_discrete v b.variable);
    up = λ v d. up_then v d (ℕ_discrete v b.variable);
    met = λ d p. met_then d (Contains-append_cases old (b ∷ []) d p);
  }

pub ranged_next : (n i : ℕ) (bounds : List Bound) (ranges : List Range) (b : Bound) (r new : Range) → i < length bounds → b ≡ get_or bounds i b → b.variable < n → Ranged n (take i bounds) ranges
    → r ≡ range_at ranges b.variable → Tightens r b new → Ranged n (take (i + 1) bounds) (set ranges b.variable new)
ranged_next n i bounds ranges b r new h e l g f t =
    subst (λ bs. Ranged n bs (set ranges b.variable new)) (ap (λ x. take i bounds ++ x ∷ []) e ∙ sym (take_more bounds i b h))
    (ranged_more n (take i bounds) ranges b new l g (subst (λ z. Tightens z b new) f t))

pub listed_at : (bounds : List Bound) (i : ℕ) (b : Bound) → i < length bounds → b ≡ get_or bounds i b → Contains bounds b
listed_at bounds i b h e = (i, h, sym e)
