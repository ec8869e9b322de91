-- The infinitesimal made concrete: a number in its place.
use Rattle.rationals.specs.Rational.{ℚ, ◌+ℚ◌, ◌*ℚ◌, ◌-ℚ◌, inv_ℚ, ◌≤ℚ◌, ◌<ℚ◌}
use Rattle.rationals.specs.Delta.{Delta}

-- with e in place of the infinitesimal l does not pass u by its infinitesimal part
pub record Allows (e : ℚ) (l u : Delta) : Type 0 where
  pub allows : u.inf <ℚ l.inf → (e *ℚ (l.inf -ℚ u.inf)) ≤ℚ (u.real -ℚ l.real)

-- the number with e in place of the infinitesimal
unfoldable pub at_step : ℚ → Delta → ℚ
at_step e d = d.real +ℚ e *ℚ d.inf

-- the largest step that l ≤ u allows
abbrev pub quotient : Delta → Delta → ℚ
quotient l u = (u.real -ℚ l.real) *ℚ inv_ℚ (l.inf -ℚ u.inf)
