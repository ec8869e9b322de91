-- Numbers with an infinitesimal part: a number plus a multiple of a positive infinitesimal whose square is 0.
use Rattle.std.specs.Prelude.{◌≡◌, ◌⊎◌}
use Rattle.std.specs.declared.cmp.Ordering.{Ordering}
use Rattle.std.specs.Ordering.{ordering_then}
use Rattle.rationals.specs.Rational.{ℚ, zero_ℚ, ◌+ℚ◌, ◌*ℚ◌, neg_ℚ, ◌≤ℚ◌, ◌<ℚ◌, cmp_ℚ}

-- a number, and how many infinitesimals are added to it
pub record Delta : Type 0 where
  pub real : ℚ
  pub inf : ℚ

-- the pair of these parts
abbrev pub delta : ℚ → ℚ → Delta
delta a b = record { real = a; inf = b }

-- the sum
abbrev pub d_add : Delta → Delta → Delta
d_add a b = delta (a.real +ℚ b.real) (a.inf +ℚ b.inf)

-- the product, in which the square of the infinitesimal is 0
abbrev pub d_mul : Delta → Delta → Delta
d_mul a b = delta (a.real *ℚ b.real) (a.real *ℚ b.inf +ℚ a.inf *ℚ b.real)

-- the negated number
abbrev pub d_neg : Delta → Delta
d_neg a = delta (neg_ℚ a.real) (neg_ℚ a.inf)

-- a number with no infinitesimal part
abbrev pub of_ℚ : ℚ → Delta
of_ℚ q = delta q zero_ℚ

infix 50 ◌≤Δ◌ ◌<Δ◌
-- at most: by the first parts, and by the second where those are equal
pub record ◌≤Δ◌ (a b : Delta) : Type 0 where
  pub le : (a.real <ℚ b.real) ⊎ ((a.real ≡ b.real) × (a.inf ≤ℚ b.inf))

-- below, in the same order
pub record ◌<Δ◌ (a b : Delta) : Type 0 where
  pub lt : (a.real <ℚ b.real) ⊎ ((a.real ≡ b.real) × (a.inf <ℚ b.inf))

-- the order as `Ord::cmp` answers it
abbrev pub cmp_Δ : Delta → Delta → Ordering
cmp_Δ a b = ordering_then (cmp_ℚ a.real b.real) (cmp_ℚ a.inf b.inf)
