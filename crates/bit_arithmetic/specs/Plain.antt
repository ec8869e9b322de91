-- Words as the bit-vectors of the definitions.
use Rattle.std.specs.Prelude.{◌≡◌, ℕ, ◌+◌, ◌*◌, Bool, true, false, List, [], ◌∷◌}
use Rattle.std.specs.Int.Bits.{bit_and, bit_or, bit_xor}
use Rattle.y_tree.specs.Sorts.{Sort, bit_vector}
use Rattle.y_tree.specs.Values.{Value, truth, bits}
use Rattle.y_tree.specs.BitVectors.{wrap}
use Rattle.y_tree.specs.Typing.{BvForm}
use Rattle.y_tree.specs.Typing as form
use Rattle.bit_arithmetic.specs.declared.words.Word.{Word}
use Rattle.bit_arithmetic.specs.declared.words.Outcome.{Outcome}
use Rattle.bit_arithmetic.specs.declared.words.Outcome.TheVariants as outcome
use Rattle.bit_arithmetic.specs.declared.folds.Fold.{Fold}
use Rattle.bit_arithmetic.specs.declared.folds.Fold.TheVariants as fold

-- the width and the number
abbrev pub pair : Word → ℕ × ℕ
pair w = (w.width, w.bits)

-- the type of the word
abbrev pub type_of : Word → Sort
type_of w = bit_vector w.width

-- the value that an outcome is
abbrev pub plain : Outcome → Value
plain (outcome.Bits w) = bits w.width w.bits
plain (outcome.Truth b) = truth b

-- the form is one of two bit-vectors
abbrev pub takes_two : BvForm → Bool
takes_two form.one = false
takes_two form.two = true
takes_two form.test = true
takes_two form.some = false
takes_two form.joined = false

-- all words have the width
abbrev pub AreOfWidth : ℕ → List Word → Type 0
AreOfWidth n [] = Unit {0}
AreOfWidth n (w ∷ ws) = (n ≡ w.width) × AreOfWidth n ws

-- all widths together
abbrev pub all_widths : List Word → ℕ
all_widths [] = 0
all_widths (w ∷ ws) = w.width + all_widths ws

-- what a fold makes of two numbers of n bits
abbrev pub combined : Fold → ℕ → ℕ → ℕ → ℕ
combined fold.Sum n a b = wrap n (a + b)
combined fold.Product n a b = wrap n (a * b)
combined fold.Conjunction n a b = bit_and a b
combined fold.Disjunction n a b = bit_or a b
combined fold.Parity n a b = bit_xor a b
