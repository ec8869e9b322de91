-- The larger and the smaller of two numbers, and the largest and the least of a list.
use Rattle.std.proofs.Common.{◌≡◌, List, [], ◌∷◌, ◌⊎◌, inl, inr, refl, sym, ◌∙◌, subst, cond}
use Rattle.std.specs.declared.cmp.Ordering.{Ordering}
use Rattle.std.specs.declared.cmp.Ordering.TheVariants.{Less, Equal, Greater}
use Rattle.std.specs.Ordering.{is_lt, MatchOrdering}
use Rattle.rationals.specs.Rational.{ℚ, ◌≤ℚ◌, ◌<ℚ◌, cmp_ℚ, max_ℚ, min_ℚ, largest, least, AtMost, AtLeast, Among}
use Rattle.rationals.proofs.OrderedFieldQ.{le_refl, le_trans, le_of_lt}
use Rattle.rationals.proofs.CompareQ.{ranks_ℚ}

-- of two numbers in order, what the choice by that order gives
max_by : (q r : ℚ) (o : Ordering) → MatchOrdering o (q <ℚ r) (q ≡ r) (r <ℚ q) → (q ≤ℚ cond (is_lt o) r q) × (r ≤ℚ cond (is_lt o) r q)
max_by q r Less h = (le_of_lt q r h, le_refl r)
max_by q r Equal h = (le_refl q, subst (λ x. r ≤ℚ x) (sym h) (le_refl r))
max_by q r Greater h = (le_refl q, le_of_lt r q h)

min_by : (q r : ℚ) (o : Ordering) → MatchOrdering o (r <ℚ q) (r ≡ q) (q <ℚ r) → (cond (is_lt o) r q ≤ℚ q) × (cond (is_lt o) r q ≤ℚ r)
min_by q r Less h = (le_of_lt r q h, le_refl r)
min_by q r Equal h = (le_refl q, subst (λ x. q ≤ℚ x) (sym h) (le_refl q))
min_by q r Greater h = (le_refl q, le_of_lt q r h)

pub max_bounds : (q r : ℚ) → (q ≤ℚ max_ℚ q r) × (r ≤ℚ max_ℚ q r)
max_bounds q r = max_by q r (cmp_ℚ q r) (ranks_ℚ q r)

pub min_bounds : (q r : ℚ) → (min_ℚ q r ≤ℚ q) × (min_ℚ q r ≤ℚ r)
min_bounds q r = min_by q r (cmp_ℚ r q) (ranks_ℚ r q)

one_of : (q r : ℚ) (o : Ordering) → (cond (is_lt o) r q ≡ q) ⊎ (cond (is_lt o) r q ≡ r)
one_of q r Less = inr refl
one_of q r Equal = inl refl
one_of q r Greater = inl refl

-- ---- of a list
pub first_le_largest : (q : ℚ) (rs : List ℚ) → q ≤ℚ largest q rs
first_le_largest q [] = le_refl q
first_le_largest q (r ∷ rs) = le_trans q (max_ℚ q r) (largest (max_ℚ q r) rs) (max_bounds q r).0 (first_le_largest (max_ℚ q r) rs)

rest_at_most : (q : ℚ) (rs : List ℚ) → AtMost (largest q rs) rs
rest_at_most q [] = tt
rest_at_most q (r ∷ rs) = (le_trans r (max_ℚ q r) (largest (max_ℚ q r) rs) (max_bounds q r).1 (first_le_largest (max_ℚ q r) rs), rest_at_most (max_ℚ q r) rs)

-- no number of the list is above the largest, which is one of them
pub largest_bounds : (q : ℚ) (rs : List ℚ) → AtMost (largest q rs) (q ∷ rs)
largest_bounds q rs = (first_le_largest q rs, rest_at_most q rs)

moved : (m a q r : ℚ) (rs : List ℚ) → (a ≡ q) ⊎ (a ≡ r) → Among m (a ∷ rs) → Among m (q ∷ r ∷ rs)
moved m a q r rs (inl e) (inl f) = inl (f ∙ e)
moved m a q r rs (inr e) (inl f) = inr (inl (f ∙ e))
moved m a q r rs e (inr h) = inr (inr h)

pub largest_among : (q : ℚ) (rs : List ℚ) → Among (largest q rs) (q ∷ rs)
largest_among q [] = inl refl
largest_among q (r ∷ rs) = moved (largest (max_ℚ q r) rs) (max_ℚ q r) q r rs (one_of q r (cmp_ℚ q r)) (largest_among (max_ℚ q r) rs)

pub least_le_first : (q : ℚ) (rs : List ℚ) → least q rs ≤ℚ q
least_le_first q [] = le_refl q
least_le_first q (r ∷ rs) = le_trans (least (min_ℚ q r) rs) (min_ℚ q r) q (least_le_first (min_ℚ q r) rs) (min_bounds q r).0

rest_at_least : (q : ℚ) (rs : List ℚ) → AtLeast (least q rs) rs
rest_at_least q [] = tt
rest_at_least q (r ∷ rs) = (le_trans (least (min_ℚ q r) rs) (min_ℚ q r) r (least_le_first (min_ℚ q r) rs) (min_bounds q r).1, rest_at_least (min_ℚ q r) rs)

-- no number of the list is below the least, which is one of them
pub least_bounds : (q : ℚ) (rs : List ℚ) → AtLeast (least q rs) (q ∷ rs)
least_bounds q rs = (least_le_first q rs, rest_at_least q rs)

pub least_among : (q : ℚ) (rs : List ℚ) → Among (least q rs) (q ∷ rs)
least_among q [] = inl refl
least_among q (r ∷ rs) = moved (least (min_ℚ q r) rs) (min_ℚ q r) q r rs (one_of q r (cmp_ℚ r q)) (least_among (min_ℚ q r) rs)
