-- Values of functions from words to truth values: applications, updates, and which are one. Both Z3 4.8.12 and CVC4 1.8 gave each value; two functions count as one where all their values are.
use Rattle.std.specs.Prelude.{◌≡◌, true, false, [], ◌∷◌, refl}
use Rattle.y_tree.specs.Sorts.{same_sorts, count, are_simple, tuples_of}
use Rattle.y_tree.specs.Values.{truth, equal_all, value_at, agree_at, has_key, new_keys, has_sort, have_sorts, have_sort}
use Rattle.y_tree.specs.Tree as tree
use Rattle.y_tree.specs.Typing.{sort_of}
use Rattle.y_tree.specs.Meaning.{meaning}
use Rattle.operator_values.specs.Closed.{table, applied, updated_and_applied, compared}

-- applications, at keys with entries and without
pub applications :
    (applied (table 2 ((0, true) ∷ (3, true) ∷ []) false) 2 0 ≡ truth true)
    × (applied (table 2 ((0, true) ∷ (3, true) ∷ []) false) 2 1 ≡ truth false)
    × (applied (table 2 ((0, true) ∷ (3, true) ∷ []) false) 2 2 ≡ truth false)
    × (applied (table 2 ((0, true) ∷ (3, true) ∷ []) false) 2 3 ≡ truth true)
unfolding meaning equal_all value_at has_sort have_sorts have_sort
applications = (refl, refl, refl, refl)

-- applications of a function that was updated at a key
pub updates :
    (updated_and_applied (table 2 ((0, true) ∷ []) false) 2 1 true 0 ≡ truth true)
    × (updated_and_applied (table 2 ((0, true) ∷ []) false) 2 1 true 1 ≡ truth true)
    × (updated_and_applied (table 2 ((0, true) ∷ []) false) 2 1 true 2 ≡ truth false)
    × (updated_and_applied (table 2 ((0, true) ∷ []) false) 2 0 false 0 ≡ truth false)
    × (updated_and_applied (table 2 ((0, true) ∷ []) false) 2 0 false 1 ≡ truth false)
unfolding meaning equal_all value_at has_sort have_sorts have_sort
updates = (refl, refl, refl, refl, refl)

-- equal functions: keys that cover a finite domain, and keys that don't
pub function_equalities :
    (compared tree.equality (table 1 ((0, true) ∷ (1, true) ∷ []) false) (table 1 [] true) 1 ≡ truth true)
    × (compared tree.equality (table 1 ((0, true) ∷ []) false) (table 1 [] true) 1 ≡ truth false)
    × (compared tree.equality (table 1 ((0, true) ∷ (1, false) ∷ []) true) (table 1 ((0, true) ∷ []) false) 1 ≡ truth true)
    × (compared tree.equality (table 1 ((0, true) ∷ []) true) (table 1 [] true) 1 ≡ truth true)
    × (compared tree.equality (table 1 ((0, false) ∷ []) true) (table 1 ((1, true) ∷ []) false) 1 ≡ truth true)
    × (compared tree.equality (table 2 ((0, true) ∷ (1, true) ∷ (2, true) ∷ (3, true) ∷ []) false) (table 2 [] true) 2 ≡ truth true)
    × (compared tree.equality (table 2 ((0, true) ∷ (1, true) ∷ (2, true) ∷ []) false) (table 2 [] true) 2 ≡ truth false)
    × (compared tree.equality (table 2 ((3, true) ∷ []) false) (table 2 ((0, false) ∷ (1, false) ∷ (2, false) ∷ []) true) 2 ≡ truth true)
    × (compared tree.equality (table 2 ((1, true) ∷ []) false) (table 2 ((1, true) ∷ (2, false) ∷ []) false) 2 ≡ truth true)
    × (compared tree.equality (table 2 ((1, true) ∷ []) false) (table 2 ((1, false) ∷ []) false) 2 ≡ truth false)
unfolding meaning sort_of same_sorts count are_simple equal_all value_at agree_at has_key new_keys tuples_of has_sort have_sorts have_sort
function_equalities = (refl, refl, refl, refl, refl, refl, refl, refl, refl, refl)

-- different functions
pub function_disequalities :
    (compared tree.disequality (table 1 ((0, true) ∷ (1, true) ∷ []) false) (table 1 [] true) 1 ≡ truth false)
    × (compared tree.disequality (table 1 ((0, true) ∷ []) false) (table 1 [] true) 1 ≡ truth true)
    × (compared tree.disequality (table 1 ((0, true) ∷ (1, false) ∷ []) true) (table 1 ((0, true) ∷ []) false) 1 ≡ truth false)
unfolding meaning sort_of same_sorts count are_simple equal_all value_at agree_at has_key new_keys tuples_of has_sort have_sorts have_sort
function_disequalities = (refl, refl, refl)
