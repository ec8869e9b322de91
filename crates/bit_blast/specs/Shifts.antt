-- Words moved to the left or to the right.
use Rattle.std.specs.Prelude.{ℕ, ◌-◌, Bool, List, ◌++◌, length, map, take, drop, replicate, if◌then◌else◌}
use Rattle.y_tree.specs.BitVectors.{complement, differ, shift_left, shift_right}
use Rattle.clause_logic.specs.declared.Lit.{Lit}
use Rattle.clause_gates.specs.Bits.{value_under}
use Rattle.bit_blast.specs.Bits.{values_under, number}
use Rattle.bit_blast.specs.declared.shifting.Way.{Way}
use Rattle.bit_blast.specs.declared.shifting.Way.TheVariants as way

-- the items moved by k places, the places left filled
abbrev pub moved : {X : Type 0} → Way → X → ℕ → List X → List X
moved way.Up x k xs = replicate k x ++ take (length xs - k) xs
moved way.Down x k xs = drop k xs ++ replicate k x

-- a shift that fills with 0
abbrev pub shift_plain : Way → ℕ → ℕ → ℕ → ℕ
shift_plain way.Up n a b = shift_left n a b
shift_plain way.Down n a b = shift_right n a b

-- a shift that fills with the flag
abbrev pub shift_filled : Way → Bool → ℕ → ℕ → ℕ → ℕ
shift_filled w flag n a b = if flag then complement n (shift_plain w n (complement n a) b) else shift_plain w n a b

-- the number of a word's bits, each inverted where a literal is true
abbrev pub flipped_number : (ℕ → Bool) → Lit → List Lit → ℕ
flipped_number s flag ls = number (map (differ (value_under s flag)) (values_under s ls))
