-- An operator over literals, and a function that is given by its table, as terms with their values.
use Rattle.std.specs.Prelude.{ℕ, Bool, List, [], ◌∷◌, map, if◌then◌else◌}
use Rattle.rationals.specs.Rational.{ℚ}
use Rattle.y_tree.specs.declared.BvOp.{BvOp}
use Rattle.y_tree.specs.declared.BvAtOp.{BvAtOp}
use Rattle.y_tree.specs.Sorts.{Sort, boolean, bit_vector, sorts}
use Rattle.y_tree.specs.Sorts as sort
use Rattle.y_tree.specs.Values.{Value, Entries, truth, bits, empty, entry, values}
use Rattle.y_tree.specs.Values as value
use Rattle.y_tree.specs.Tree.{Op, Tree, node, none, trees}
use Rattle.y_tree.specs.Tree as tree
use Rattle.y_tree.specs.Meaning.{Assignment, meaning}

-- a literal
abbrev pub leaf : Op → Tree
leaf op = node op none

-- no values of constants and variables
abbrev pub nothing : Assignment
nothing = record { constants = []; variables = [] }

-- the literal of a truth value
abbrev pub truth_literal : Bool → Tree
truth_literal b = leaf (if b then tree.truth else tree.falsity)

-- the value of an operator over truth values
abbrev pub on_truths : Op → List Bool → Value
on_truths op bs = meaning (node op (trees (map truth_literal bs))) nothing

-- the value of an operator over rational numbers
abbrev pub on_numbers : Op → List ℚ → Value
on_numbers op qs = meaning (node op (trees (map (λ q. leaf (tree.number q)) qs))) nothing

-- the literal of a bit-vector, by its width and its number
abbrev pub word : ℕ × ℕ → Tree
word v = leaf (tree.bits v.0 v.1)

-- the value of an operator over bit-vectors
abbrev pub over_words : Op → List (ℕ × ℕ) → Value
over_words op ws = meaning (node op (trees (map word ws))) nothing

-- the value of an operator of bit-vectors
abbrev pub on_words : BvOp → List (ℕ × ℕ) → Value
on_words op ws = over_words (tree.bit_vector op) ws

-- the value of an operator with numbers i and j on the bit-vector of width n with number a
abbrev pub at_word : BvAtOp → ℕ → ℕ → ℕ → ℕ → Value
at_word op i j n a = over_words (tree.bit_vector_at op i j) ((n, a) ∷ [])

-- entries at bit-vectors of width n
abbrev pub rows : ℕ → List (ℕ × Bool) → Entries
rows n [] = empty
rows n (e ∷ es) = entry (values (bits n e.0 ∷ [])) (truth e.1) (rows n es)

-- the function from bit-vectors of width n to truth values with these entries, and the value elsewhere
abbrev pub table : ℕ → List (ℕ × Bool) → Bool → Value
table n es other = value.function (rows n es) (truth other)

-- the constants 0 and 1 are the two functions
abbrev pub given : Value → Value → Assignment
given f g = record { constants = (0, f) ∷ (1, g) ∷ []; variables = [] }

-- the type of functions from bit-vectors of width n to truth values
abbrev pub tests : ℕ → Sort
tests n = sort.function (sorts (bit_vector n ∷ [])) boolean

-- a constant of that type
abbrev pub function_constant : ℕ → ℕ → Tree
function_constant k n = leaf (tree.constant k (tests n))

-- the value of the function at the bit-vector k of width n
abbrev pub applied : Value → ℕ → ℕ → Value
applied f n k = meaning (node tree.application (trees (function_constant 0 n ∷ word (n, k) ∷ []))) (given f f)

-- its value at k, where it was updated at j before
abbrev pub updated_and_applied : Value → ℕ → ℕ → Bool → ℕ → Value
updated_and_applied f n j b k = meaning (node tree.application (trees (node tree.update (trees (function_constant 0 n ∷ word (n, j) ∷ truth_literal b ∷ [])) ∷ word (n, k) ∷ []))) (given f f)

-- the value of an operator over two functions at bit-vectors of width n
abbrev pub compared : Op → Value → Value → ℕ → Value
compared op f g n = meaning (node op (trees (function_constant 0 n ∷ function_constant 1 n ∷ []))) (given f g)
