-- Values of operators on truth values. Both Z3 4.8.12 and CVC4 1.8 gave each value.
use Rattle.std.specs.Prelude.{◌≡◌, true, false, [], ◌∷◌, refl}
use Rattle.y_tree.specs.Sorts.{same_sorts}
use Rattle.y_tree.specs.Values.{truth}
use Rattle.y_tree.specs.Tree as tree
use Rattle.y_tree.specs.Typing.{sort_of}
use Rattle.y_tree.specs.Meaning.{meaning}
use Rattle.operator_values.specs.Closed.{on_truths}

-- negation
pub truth_negations :
    (on_truths tree.negation (true ∷ []) ≡ truth false)
    × (on_truths tree.negation (false ∷ []) ≡ truth true)
unfolding meaning
truth_negations = (refl, refl)

-- all are true
pub truth_conjunctions :
    (on_truths tree.conjunction (true ∷ []) ≡ truth true)
    × (on_truths tree.conjunction (false ∷ []) ≡ truth false)
    × (on_truths tree.conjunction (true ∷ true ∷ []) ≡ truth true)
    × (on_truths tree.conjunction (true ∷ false ∷ []) ≡ truth false)
    × (on_truths tree.conjunction (false ∷ true ∷ []) ≡ truth false)
    × (on_truths tree.conjunction (false ∷ false ∷ []) ≡ truth false)
    × (on_truths tree.conjunction (true ∷ true ∷ true ∷ []) ≡ truth true)
    × (on_truths tree.conjunction (true ∷ true ∷ false ∷ []) ≡ truth false)
unfolding meaning
truth_conjunctions = (refl, refl, refl, refl, refl, refl, refl, refl)

-- some is true
pub truth_disjunctions :
    (on_truths tree.disjunction (true ∷ []) ≡ truth true)
    × (on_truths tree.disjunction (false ∷ []) ≡ truth false)
    × (on_truths tree.disjunction (true ∷ true ∷ []) ≡ truth true)
    × (on_truths tree.disjunction (true ∷ false ∷ []) ≡ truth true)
    × (on_truths tree.disjunction (false ∷ true ∷ []) ≡ truth true)
    × (on_truths tree.disjunction (false ∷ false ∷ []) ≡ truth false)
    × (on_truths tree.disjunction (false ∷ false ∷ false ∷ []) ≡ truth false)
    × (on_truths tree.disjunction (false ∷ false ∷ true ∷ []) ≡ truth true)
unfolding meaning
truth_disjunctions = (refl, refl, refl, refl, refl, refl, refl, refl)

-- an odd number is true
pub truth_parities :
    (on_truths tree.parity (true ∷ []) ≡ truth true)
    × (on_truths tree.parity (false ∷ []) ≡ truth false)
    × (on_truths tree.parity (true ∷ true ∷ []) ≡ truth false)
    × (on_truths tree.parity (true ∷ false ∷ []) ≡ truth true)
    × (on_truths tree.parity (false ∷ true ∷ []) ≡ truth true)
    × (on_truths tree.parity (false ∷ false ∷ []) ≡ truth false)
    × (on_truths tree.parity (true ∷ true ∷ true ∷ []) ≡ truth true)
    × (on_truths tree.parity (true ∷ true ∷ false ∷ []) ≡ truth false)
    × (on_truths tree.parity (true ∷ false ∷ false ∷ []) ≡ truth true)
    × (on_truths tree.parity (false ∷ false ∷ false ∷ []) ≡ truth false)
unfolding meaning
truth_parities = (refl, refl, refl, refl, refl, refl, refl, refl, refl, refl)

-- implication
pub truth_implications :
    (on_truths tree.implication (true ∷ true ∷ []) ≡ truth true)
    × (on_truths tree.implication (true ∷ false ∷ []) ≡ truth false)
    × (on_truths tree.implication (false ∷ true ∷ []) ≡ truth true)
    × (on_truths tree.implication (false ∷ false ∷ []) ≡ truth true)
unfolding meaning
truth_implications = (refl, refl, refl, refl)

-- equivalence
pub truth_equivalences :
    (on_truths tree.equivalence (true ∷ true ∷ []) ≡ truth true)
    × (on_truths tree.equivalence (true ∷ false ∷ []) ≡ truth false)
    × (on_truths tree.equivalence (false ∷ true ∷ []) ≡ truth false)
    × (on_truths tree.equivalence (false ∷ false ∷ []) ≡ truth true)
unfolding meaning
truth_equivalences = (refl, refl, refl, refl)

-- choices
pub truth_choices :
    (on_truths tree.choice (true ∷ true ∷ true ∷ []) ≡ truth true)
    × (on_truths tree.choice (true ∷ true ∷ false ∷ []) ≡ truth true)
    × (on_truths tree.choice (true ∷ false ∷ true ∷ []) ≡ truth false)
    × (on_truths tree.choice (true ∷ false ∷ false ∷ []) ≡ truth false)
    × (on_truths tree.choice (false ∷ true ∷ true ∷ []) ≡ truth true)
    × (on_truths tree.choice (false ∷ true ∷ false ∷ []) ≡ truth false)
    × (on_truths tree.choice (false ∷ false ∷ true ∷ []) ≡ truth true)
    × (on_truths tree.choice (false ∷ false ∷ false ∷ []) ≡ truth false)
unfolding meaning
truth_choices = (refl, refl, refl, refl, refl, refl, refl, refl)

-- equal truth values
pub truth_equalities :
    (on_truths tree.equality (true ∷ true ∷ []) ≡ truth true)
    × (on_truths tree.equality (true ∷ false ∷ []) ≡ truth false)
    × (on_truths tree.equality (false ∷ true ∷ []) ≡ truth false)
    × (on_truths tree.equality (false ∷ false ∷ []) ≡ truth true)
unfolding meaning sort_of same_sorts
truth_equalities = (refl, refl, refl, refl)

-- different truth values
pub truth_disequalities :
    (on_truths tree.disequality (true ∷ true ∷ []) ≡ truth false)
    × (on_truths tree.disequality (true ∷ false ∷ []) ≡ truth true)
    × (on_truths tree.disequality (false ∷ true ∷ []) ≡ truth true)
    × (on_truths tree.disequality (false ∷ false ∷ []) ≡ truth false)
unfolding meaning sort_of same_sorts
truth_disequalities = (refl, refl, refl, refl)

-- pairwise different truth values
pub truth_distinctness :
    (on_truths tree.distinctness (true ∷ false ∷ []) ≡ truth true)
    × (on_truths tree.distinctness (true ∷ true ∷ []) ≡ truth false)
    × (on_truths tree.distinctness (true ∷ false ∷ true ∷ []) ≡ truth false)
unfolding meaning sort_of same_sorts
truth_distinctness = (refl, refl, refl)
