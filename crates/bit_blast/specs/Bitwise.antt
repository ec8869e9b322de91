-- Gates on all bits of words.
use Rattle.std.specs.Prelude.{Bool, ◌&&◌, ◌||◌, List, [], ◌∷◌, if◌then◌else◌}
use Rattle.y_tree.specs.BitVectors.{differ}
use Rattle.bit_blast.specs.declared.bitwise.Pairing.{Pairing}
use Rattle.bit_blast.specs.declared.bitwise.Pairing.TheVariants as pairing

-- what a gate makes of a bit of each word, beside a flag
abbrev pub pair_value : Pairing → Bool → Bool → Bool → Bool
pair_value pairing.And c a b = a && b
pair_value pairing.Or c a b = a || b
pair_value pairing.Xor c a b = differ a b
pair_value pairing.Choose c a b = if c then a else b
pair_value pairing.Keep c a b = c && a
pair_value pairing.Flip c a b = differ c a

-- a function of two bits, from place to place
abbrev pub pairwise : (Bool → Bool → Bool) → List Bool → List Bool → List Bool
pairwise f (x ∷ xs) (y ∷ ys) = f x y ∷ pairwise f xs ys
pairwise f _ _ = []
