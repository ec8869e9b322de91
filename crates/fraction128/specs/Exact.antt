-- What the fractions of 128 bits are, and when an operation is too wide for them.
use Rattle.std.specs.Prelude.{◌≡◌, ℕ, zero, suc, ◌*◌, ◌/◌, ◌<◌, ◌^◌, Bool, true, false, ◌&&◌, T, nat_lt, ℤ, pos, negsuc, neg_ℤ, unsigned_abs, int_lt, ◌<ℤ◌, ◌+ℤ◌, ◌*ℤ◌, refl}
use Rattle.std.proofs.Common.{ap}
use Rattle.rationals.proofs.Rationals.{frac_is, den_pos}
use Rattle.rationals.specs.Rational.{ℚ, frac, is_lowest}
use Rattle.rationals.specs.Gcd.{gcd}

-- a numerator and a denominator in lowest terms that fit
pub record IsFrac (n d : ℤ) : Type 0 where
  pub positive : pos 0 <ℤ d
  pub lowest : T (is_lowest n (unsigned_abs d))
  pub num_small : unsigned_abs n < 2 ^ 127
  pub den_small : unsigned_abs d < 2 ^ 127

-- the parts of such a fraction's number are its own
pub kept : (n d : ℤ) → IsFrac n d → ((frac n (unsigned_abs d)).num ≡ n) × (pos (frac n (unsigned_abs d)).den ≡ d)
kept n (pos d) h =
    let e = frac_is n d (record { num = n; den = d; low = h.lowest }) (den_pos (record { num = n; den = d; low = h.lowest })) refl in
    (ap (λ (q : ℚ). q.num) e, ap (λ (q : ℚ). pos q.den) e)
kept n (negsuc d) h = absurd h.positive.lt

-- a size with a sign
abbrev pub with_sign : Bool → ℕ → ℤ
with_sign true m = neg_ℤ (pos m)
with_sign false m = pos m

-- n / d for whole numbers
abbrev pub ratio : ℤ → ℤ → ℚ
ratio n (pos d) = frac n d
ratio n (negsuc d) = frac (neg_ℤ n) (suc d)

-- a size up to 2^127 - 1
abbrev pub small : ℕ → Bool
small n = nat_lt n (2 ^ 127)

-- both parts of the lowest form are small
abbrev pub fits : ℚ → Bool
fits q = small (unsigned_abs q.num) && small q.den

-- both parts fit 62 bits
abbrev pub narrow : ℚ → Bool
narrow q = nat_lt (unsigned_abs q.num) (2 ^ 62) && nat_lt q.den (2 ^ 62)

-- the left numerator over the least common denominator
abbrev pub left_over : ℚ → ℚ → ℤ
left_over q r = q.num *ℤ pos (r.den / gcd q.den r.den)

-- the right numerator over it
abbrev pub right_over : ℚ → ℚ → ℤ
right_over q r = r.num *ℤ pos (q.den / gcd q.den r.den)

-- the least common denominator
abbrev pub common : ℚ → ℚ → ℕ
common q r = q.den / gcd q.den r.den * r.den

-- the least common denominator, the numerators over it and their sum are small
abbrev pub sum_fits : ℚ → ℚ → Bool
sum_fits q r =
    small (common q r) && (small (unsigned_abs (left_over q r)) && (small (unsigned_abs (right_over q r)) && small (unsigned_abs (left_over q r +ℤ right_over q r))))

-- whether a whole number is 0
abbrev pub is_zero_ℤ : ℤ → Bool
is_zero_ℤ (pos zero) = true
is_zero_ℤ (pos (suc n)) = false
is_zero_ℤ (negsuc n) = false

-- the test of q < r, by the cross products
abbrev pub less : ℚ → ℚ → Bool
less q r = int_lt (q.num *ℤ pos r.den) (r.num *ℤ pos q.den)

-- whether exactly one of the two holds
abbrev pub differ : Bool → Bool → Bool
differ true true = false
differ true false = true
differ false b = b
