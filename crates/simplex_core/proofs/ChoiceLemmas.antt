-- What the searches of a turn find.
use Rattle.std.proofs.Common.{◌≡◌, ℕ, zero, suc, ◌+◌, ◌<◌, ◌≤◌, List, [], ◌∷◌, ◌⊎◌, inl, inr, length, get_or, refl, sym, ap, ◌∙◌, subst, arith, below_more, ℤ, pos, negsuc}
use Rattle.std.proofs.lemmas.Int.{ints}
use lib.Signed.{◌≤ℤ◌, ◌<ℤ◌}
use Rattle.std.proofs.lemmas.List.{get_or_read}
use Rattle.rationals.specs.Rational.{ℚ, zero_ℚ, ◌<ℚ◌}
use Rattle.rationals.specs.Delta.{Delta, of_ℚ}
use Rattle.rationals.proofs.OrderQ.{either, num_le}
use Rattle.rationals.proofs.FieldQ.{zero_of_num}
use Rattle.fraction128.specs.declared.infinitesimal.Delta.{Delta as Fractions}
use Rattle.simplex_logic.specs.Limits.{Stuck, Moves}
use Rattle.simplex_table.specs.View.{delta_of, delta_at, deltas}
use Rattle.simplex_bounds.specs.declared.Bound.{Bound}
use Rattle.simplex_bounds.specs.declared.Range.{Range}
use Rattle.simplex_bounds.specs.Ranges.{free, range_at, limit_of, limits_of, InRange}
use Rattle.simplex_core.specs.Choosing.{IsViolated, IsFirstViolated, AreWithin}
use Rattle.simplex_bounds.proofs.RangeLemmas.{past_end}

-- ---- the sign of a delta_of
pub negative_num : (q : ℚ) → q.num <ℤ pos 0 → q <ℚ zero_ℚ
negative_num q h = elim (either zero_ℚ q) [
  | inr p ↦ p
  | inl p ↦ let k = num_le q p in absurd (omega (arith, ints))
]

zero_int : (z : ℤ) → pos 0 ≤ℤ z → z ≤ℤ pos 0 → z ≡ pos 0
zero_int (pos zero) h k = refl
zero_int (pos (suc n)) h k = absurd (omega (arith, ints))
zero_int (negsuc n) h k = absurd (omega (arith, ints))

pub zero_num : (q : ℚ) → pos 0 ≤ℤ q.num → q.num ≤ℤ pos 0 → q ≡ zero_ℚ
zero_num q h k = zero_of_num q (zero_int q.num h k)

-- ---- elements that were read
pub range_read : (ranges : List Range) (i : ℕ) (r : Range) → i < length ranges → r ≡ get_or ranges i r → r ≡ range_at ranges i
range_read ranges i r h e = get_or_read ranges i r h e free

get-deltas : (values : List Fractions) (i : ℕ) (d : Fractions) → i < length values → get_or (deltas values) i (of_ℚ zero_ℚ) ≡ delta_of (get_or values i d)
get-deltas [] i d h = absurd (omega arith)
get-deltas (v ∷ vs) zero d h = refl
get-deltas (v ∷ vs) (suc i) d h = get-deltas vs i d (omega arith)

pub value_read : (values : List Fractions) (i : ℕ) (d : Fractions) → i < length values → d ≡ get_or values i d → delta_of d ≡ delta_at values i
value_read values i d h e = ap delta_of e ∙ sym (get-deltas values i d h)

-- ---- the first variable beyond a limit
pub violated_here : (ranges : List Range) (values : List Fractions) (i : ℕ) (r : Range) (d : Fractions) (b : Bound) → i < length ranges → length values ≡ length ranges → r ≡ get_or ranges i r → d ≡ get_or values i d
    → ((x : ℕ) → x < i → InRange (range_at ranges x) (delta_at values x)) → IsViolated r (delta_of d) b → IsFirstViolated ranges values b
violated_here ranges values i r d b h l e f g v = record {
  place = i;
  inside = h;
  violated = subst (λ x. IsViolated (range_at ranges i) x b) (value_read values i d (omega arith) f) (subst (λ z. IsViolated z (delta_of d) b) (range_read ranges i r h e) v);
  earlier = g;
}

pub within_next : (ranges : List Range) (values : List Fractions) (i : ℕ) (r : Range) (d : Fractions) → i < length ranges → length values ≡ length ranges → r ≡ get_or ranges i r → d ≡ get_or values i d
    → ((x : ℕ) → x < i → InRange (range_at ranges x) (delta_at values x)) → InRange r (delta_of d) → (x : ℕ) → x < i + 1 → InRange (range_at ranges x) (delta_at values x)
within_next ranges values i r d h l e f g v =
    below_more _ _ g (subst (λ x. InRange (range_at ranges i) x) (value_read values i d (omega arith) f) (subst (λ z. InRange z (delta_of d)) (range_read ranges i r h e) v))

pub in_free : (x : Delta) → InRange free x
in_free x = record { least = tt; most = tt }

pub all_within : (ranges : List Range) (values : List Fractions) (i : ℕ) → length ranges ≤ i → ((x : ℕ) → x < i → InRange (range_at ranges x) (delta_at values x)) → AreWithin ranges values
all_within ranges values i h g = λ x. elim (split x i) [
  | inl p ↦ g x p
  | inr p ↦ subst (λ r. InRange r (delta_at values x)) (sym (past_end ranges x (omega arith))) (in_free (delta_at values x))
]
  where
    split : (m n : ℕ) → (m < n) ⊎ (n ≤ m)
    split m zero = inr (omega arith)
    split zero (suc n) = inl (omega arith)
    split (suc m) (suc n) = elim (split m n) [ inl p ↦ inl (omega arith) | inr p ↦ inr (omega arith) ]

-- ---- the first column that moves
pub stuck_at : (ranges : List Range) (values : List Fractions) (q q' : ℚ) (c : ℕ) (r : Range) (d : Fractions) → c < length ranges → length values ≡ length ranges → r ≡ get_or ranges c r → d ≡ get_or values c d → q ≡ q'
    → Stuck q (limit_of r.low) (limit_of r.up) (delta_of d) → Stuck q' ((limits_of ranges).low c) ((limits_of ranges).up c) (delta_at values c)
stuck_at ranges values q q' c r d h l e f p s =
    subst (λ x. Stuck x ((limits_of ranges).low c) ((limits_of ranges).up c) (delta_at values c)) p
    (subst (λ x. Stuck q ((limits_of ranges).low c) ((limits_of ranges).up c) x) (value_read values c d (omega arith) f)
    (subst (λ (z : Range). Stuck q (limit_of z.low) (limit_of z.up) (delta_of d)) (range_read ranges c r h e) s))

pub moves_at : (ranges : List Range) (values : List Fractions) (q q' : ℚ) (c : ℕ) (r : Range) (d : Fractions) → c < length ranges → length values ≡ length ranges → r ≡ get_or ranges c r → d ≡ get_or values c d → q ≡ q'
    → Moves q (limit_of r.low) (limit_of r.up) (delta_of d) → Moves q' ((limits_of ranges).low c) ((limits_of ranges).up c) (delta_at values c)
moves_at ranges values q q' c r d h l e f p s =
    subst (λ x. Moves x ((limits_of ranges).low c) ((limits_of ranges).up c) (delta_at values c)) p
    (subst (λ x. Moves q ((limits_of ranges).low c) ((limits_of ranges).up c) x) (value_read values c d (omega arith) f)
    (subst (λ (z : Range). Moves q (limit_of z.low) (limit_of z.up) (delta_of d)) (range_read ranges c r h e) s))
