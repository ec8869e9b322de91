-- The text of a fraction.
use Rattle.std.specs.Prelude.{ℕ, List, ◌++◌, ◌==◌, cond, codes}
use Rattle.std.specs.Fmt.{decimal, signed_decimal}
use Rattle.rationals.specs.Rational.{ℚ}

-- the numerator, and where the denominator isn't 1 a slash and the denominator
abbrev pub frac_text : ℚ → List ℕ
frac_text q = cond (q.den == 1) (signed_decimal q.num) (signed_decimal q.num ++ codes "/" ++ decimal q.den)
