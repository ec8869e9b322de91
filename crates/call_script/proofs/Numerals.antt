-- Numerals of any length as numbers.
use Rattle.std.proofs.Common.{◌≡◌, ℕ, ◌<◌, ◌≤◌, ◌^◌, Bool, true, Some, None, List, [], ◌∷◌, length, refl, ap, arith, rules, le-leb, ne_eqb, Err}
use Rattle.std.proofs.lemmas.Bool.{le-ltb}
use Rattle.std.specs.List.{list_all}
use Rattle.std.specs.Str.Parse.{digits_value, ParsesUnsigned}
use Rattle.std.proofs.lemmas.Str.Parse.{IsNumeralModel, numerals_by_value, parse_digits}
use Rattle.yices_grammar.specs.Words.{is_digit, are_some}
use Rattle.call_script.specs.Judging.{numeral, counted, reference_of}

pub own : IsNumeralModel (λ ds. list_all is_digit ds ≡ true) (digits_value 10)
own = numerals_by_value (λ ds. list_all is_digit ds ≡ true) (search rules)

pub are_all : (test : ℕ → Bool) (ds : List ℕ) → are_some test ds ≡ true → (list_all test ds ≡ true) × (0 < length ds)
are_all test [] h = absurd (cc h)
are_all test (d ∷ ds) h = (h, omega arith)

-- digits that don't parse are past the greatest number
past_value : {E : Type 0} (ds : List ℕ) (e : E) → ParsesUnsigned 64 10 ds (Err e) → are_some is_digit ds ≡ true → 2 ^ 64 ≤ digits_value 10 ds
past_value ds e h some =
    let parts = are_all is_digit ds some in
    let not_below = parse_digits own 64 ds (Err e) h parts.0 in
    omega (arith, λ (l : digits_value 10 ds < 2 ^ 64). not_below (parts.1, l))

-- as a numeral they are the greatest
pub past_all : {E : Type 0} (ds : List ℕ) (e : E) → ParsesUnsigned 64 10 ds (Err e) → are_some is_digit ds ≡ true → numeral ds ≡ Some 18446744073709551615
unfolding numeral
past_all ds e h some = rw (some, le-leb (2 ^ 64) (digits_value 10 ds) (past_value ds e h some)) refl

-- as a limit they are none
pub past_counted : {E : Type 0} (ds : List ℕ) (e : E) → ParsesUnsigned 64 10 ds (Err e) → are_some is_digit ds ≡ true → counted ds ≡ None
unfolding counted
past_counted ds e h some = rw (some, le-ltb (digits_value 10 ds) (2 ^ 64) (past_value ds e h some)) refl

-- a word without the sign is no reference
pub no_sign : (w : List ℕ) → ((rest : List ℕ) → w ≡ 35 ∷ rest → ⊥) → reference_of w ≡ None
unfolding reference_of
no_sign [] h = refl
no_sign (b ∷ bs) h = rw (ne_eqb b 35 (λ e. h bs (ap (λ c. c ∷ bs) e))) refl
