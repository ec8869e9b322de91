-- Values of operators on rational numbers. Both Z3 4.8.12 and CVC4 1.8 gave each value.
use Rattle.std.specs.Prelude.{◌≡◌, true, false, [], ◌∷◌, pos, negsuc, refl}
use Rattle.rationals.specs.Gcd.{gcd}
use Rattle.rationals.specs.Rational.{frac, ◌+ℚ◌, ◌*ℚ◌, neg_ℚ, inv_ℚ}
use Rattle.y_tree.specs.Sorts.{same_sorts}
use Rattle.y_tree.specs.Values.{truth, number}
use Rattle.y_tree.specs.Tree as tree
use Rattle.y_tree.specs.Typing.{sort_of}
use Rattle.y_tree.specs.Meaning.{meaning}
use Rattle.operator_values.specs.Closed.{on_numbers}

-- sums of rational numbers
pub real_sums :
    (on_numbers tree.sum (frac (pos 3) 4 ∷ []) ≡ number (frac (pos 3) 4))
    × (on_numbers tree.sum (frac (pos 1) 2 ∷ frac (pos 1) 3 ∷ []) ≡ number (frac (pos 5) 6))
    × (on_numbers tree.sum (frac (pos 1) 2 ∷ frac (negsuc 0) 2 ∷ []) ≡ number (frac (pos 0) 1))
    × (on_numbers tree.sum (frac (pos 5) 6 ∷ frac (negsuc 6) 4 ∷ frac (pos 2) 1 ∷ []) ≡ number (frac (pos 13) 12))
unfolding meaning frac ◌+ℚ◌ ◌*ℚ◌ neg_ℚ inv_ℚ gcd
real_sums = (refl, refl, refl, refl)

-- the negation of one number, and the first less all others
pub real_differences :
    (on_numbers tree.difference (frac (pos 3) 4 ∷ []) ≡ number (frac (negsuc 2) 4))
    × (on_numbers tree.difference (frac (pos 0) 1 ∷ []) ≡ number (frac (pos 0) 1))
    × (on_numbers tree.difference (frac (pos 1) 2 ∷ frac (pos 1) 3 ∷ []) ≡ number (frac (pos 1) 6))
    × (on_numbers tree.difference (frac (pos 1) 3 ∷ frac (pos 1) 2 ∷ []) ≡ number (frac (negsuc 0) 6))
    × (on_numbers tree.difference (frac (pos 1) 1 ∷ frac (pos 1) 2 ∷ frac (pos 1) 3 ∷ []) ≡ number (frac (pos 1) 6))
unfolding meaning frac ◌+ℚ◌ ◌*ℚ◌ neg_ℚ inv_ℚ gcd
real_differences = (refl, refl, refl, refl, refl)

-- products of rational numbers
pub real_products :
    (on_numbers tree.product (frac (pos 3) 4 ∷ []) ≡ number (frac (pos 3) 4))
    × (on_numbers tree.product (frac (pos 1) 2 ∷ frac (pos 1) 3 ∷ []) ≡ number (frac (pos 1) 6))
    × (on_numbers tree.product (frac (negsuc 1) 3 ∷ frac (pos 3) 2 ∷ []) ≡ number (frac (negsuc 0) 1))
    × (on_numbers tree.product (frac (pos 2) 1 ∷ frac (negsuc 0) 4 ∷ frac (pos 6) 1 ∷ []) ≡ number (frac (negsuc 2) 1))
unfolding meaning frac ◌+ℚ◌ ◌*ℚ◌ neg_ℚ inv_ℚ gcd
real_products = (refl, refl, refl, refl)

-- quotients of rational numbers
pub real_quotients :
    (on_numbers tree.quotient (frac (pos 1) 1 ∷ frac (pos 3) 1 ∷ []) ≡ number (frac (pos 1) 3))
    × (on_numbers tree.quotient (frac (pos 1) 2 ∷ frac (pos 1) 3 ∷ []) ≡ number (frac (pos 3) 2))
    × (on_numbers tree.quotient (frac (negsuc 1) 3 ∷ frac (negsuc 3) 9 ∷ []) ≡ number (frac (pos 3) 2))
    × (on_numbers tree.quotient (frac (pos 0) 1 ∷ frac (pos 5) 1 ∷ []) ≡ number (frac (pos 0) 1))
unfolding meaning frac ◌+ℚ◌ ◌*ℚ◌ neg_ℚ inv_ℚ gcd
real_quotients = (refl, refl, refl, refl)

-- less
pub less :
    (on_numbers tree.less (frac (pos 1) 2 ∷ frac (pos 1) 3 ∷ []) ≡ truth false)
    × (on_numbers tree.less (frac (pos 1) 3 ∷ frac (pos 1) 2 ∷ []) ≡ truth true)
    × (on_numbers tree.less (frac (pos 1) 2 ∷ frac (pos 1) 2 ∷ []) ≡ truth false)
    × (on_numbers tree.less (frac (negsuc 0) 2 ∷ frac (negsuc 0) 3 ∷ []) ≡ truth true)
    × (on_numbers tree.less (frac (negsuc 0) 3 ∷ frac (negsuc 0) 2 ∷ []) ≡ truth false)
unfolding meaning frac ◌+ℚ◌ ◌*ℚ◌ neg_ℚ inv_ℚ gcd
less = (refl, refl, refl, refl, refl)

-- at most
pub at_most :
    (on_numbers tree.at_most (frac (pos 1) 2 ∷ frac (pos 1) 3 ∷ []) ≡ truth false)
    × (on_numbers tree.at_most (frac (pos 1) 3 ∷ frac (pos 1) 2 ∷ []) ≡ truth true)
    × (on_numbers tree.at_most (frac (pos 1) 2 ∷ frac (pos 1) 2 ∷ []) ≡ truth true)
    × (on_numbers tree.at_most (frac (negsuc 0) 2 ∷ frac (negsuc 0) 3 ∷ []) ≡ truth true)
    × (on_numbers tree.at_most (frac (negsuc 0) 3 ∷ frac (negsuc 0) 2 ∷ []) ≡ truth false)
unfolding meaning frac ◌+ℚ◌ ◌*ℚ◌ neg_ℚ inv_ℚ gcd
at_most = (refl, refl, refl, refl, refl)

-- greater
pub greater :
    (on_numbers tree.greater (frac (pos 1) 2 ∷ frac (pos 1) 3 ∷ []) ≡ truth true)
    × (on_numbers tree.greater (frac (pos 1) 3 ∷ frac (pos 1) 2 ∷ []) ≡ truth false)
    × (on_numbers tree.greater (frac (pos 1) 2 ∷ frac (pos 1) 2 ∷ []) ≡ truth false)
    × (on_numbers tree.greater (frac (negsuc 0) 2 ∷ frac (negsuc 0) 3 ∷ []) ≡ truth false)
    × (on_numbers tree.greater (frac (negsuc 0) 3 ∷ frac (negsuc 0) 2 ∷ []) ≡ truth true)
unfolding meaning frac ◌+ℚ◌ ◌*ℚ◌ neg_ℚ inv_ℚ gcd
greater = (refl, refl, refl, refl, refl)

-- at least
pub at_least :
    (on_numbers tree.at_least (frac (pos 1) 2 ∷ frac (pos 1) 3 ∷ []) ≡ truth true)
    × (on_numbers tree.at_least (frac (pos 1) 3 ∷ frac (pos 1) 2 ∷ []) ≡ truth false)
    × (on_numbers tree.at_least (frac (pos 1) 2 ∷ frac (pos 1) 2 ∷ []) ≡ truth true)
    × (on_numbers tree.at_least (frac (negsuc 0) 2 ∷ frac (negsuc 0) 3 ∷ []) ≡ truth false)
    × (on_numbers tree.at_least (frac (negsuc 0) 3 ∷ frac (negsuc 0) 2 ∷ []) ≡ truth true)
unfolding meaning frac ◌+ℚ◌ ◌*ℚ◌ neg_ℚ inv_ℚ gcd
at_least = (refl, refl, refl, refl, refl)

-- equal rational numbers
pub real_equalities :
    (on_numbers tree.equality (frac (pos 1) 2 ∷ frac (pos 1) 2 ∷ []) ≡ truth true)
    × (on_numbers tree.equality (frac (pos 1) 2 ∷ frac (pos 1) 3 ∷ []) ≡ truth false)
unfolding meaning frac ◌+ℚ◌ ◌*ℚ◌ neg_ℚ inv_ℚ gcd sort_of same_sorts
real_equalities = (refl, refl)

-- different rational numbers
pub real_disequalities :
    (on_numbers tree.disequality (frac (pos 1) 2 ∷ frac (pos 1) 2 ∷ []) ≡ truth false)
    × (on_numbers tree.disequality (frac (pos 1) 2 ∷ frac (pos 1) 3 ∷ []) ≡ truth true)
unfolding meaning frac ◌+ℚ◌ ◌*ℚ◌ neg_ℚ inv_ℚ gcd sort_of same_sorts
real_disequalities = (refl, refl)

-- pairwise different rational numbers
pub real_distinctness :
    (on_numbers tree.distinctness (frac (pos 1) 2 ∷ frac (pos 1) 3 ∷ frac (pos 1) 1 ∷ []) ≡ truth true)
    × (on_numbers tree.distinctness (frac (pos 1) 2 ∷ frac (pos 1) 3 ∷ frac (pos 1) 2 ∷ []) ≡ truth false)
unfolding meaning frac ◌+ℚ◌ ◌*ℚ◌ neg_ℚ inv_ℚ gcd sort_of same_sorts
real_distinctness = (refl, refl)

-- linear forms: coefficients, a constant part, and the numbers at which they are taken
pub linear_forms :
    (on_numbers (tree.linear (frac (pos 2) 1 ∷ []) (frac (negsuc 6) 6)) (frac (pos 1) 3 ∷ []) ≡ number (frac (negsuc 0) 2))
    × (on_numbers (tree.linear (frac (pos 1) 2 ∷ frac (negsuc 0) 3 ∷ []) (frac (pos 0) 1)) (frac (pos 4) 1 ∷ frac (pos 6) 1 ∷ []) ≡ number (frac (pos 0) 1))
    × (on_numbers (tree.linear (frac (pos 1) 1 ∷ frac (pos 1) 1 ∷ frac (pos 1) 1 ∷ []) (frac (pos 1) 2)) (frac (pos 1) 2 ∷ frac (pos 1) 3 ∷ frac (pos 1) 6 ∷ []) ≡ number (frac (pos 3) 2))
    × (on_numbers (tree.linear [] (frac (pos 5) 7)) [] ≡ number (frac (pos 5) 7))
unfolding meaning frac ◌+ℚ◌ ◌*ℚ◌ gcd
linear_forms = (refl, refl, refl, refl)

-- not negative
pub signs :
    (on_numbers tree.non_negative (frac (pos 1) 9 ∷ []) ≡ truth true)
    × (on_numbers tree.non_negative (frac (pos 0) 1 ∷ []) ≡ truth true)
    × (on_numbers tree.non_negative (frac (negsuc 0) 9 ∷ []) ≡ truth false)
unfolding meaning frac gcd
signs = (refl, refl, refl)
