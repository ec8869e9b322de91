-- Values of operators on bit-vectors. Both Z3 4.8.12 and CVC4 1.8 gave each value.
use Rattle.std.specs.Prelude.{◌≡◌, true, false, [], ◌∷◌, refl}
use Rattle.y_tree.specs.declared.BvOp.TheVariants as bv
use Rattle.y_tree.specs.declared.BvAtOp.TheVariants as bv_at
use Rattle.y_tree.specs.Sorts.{same_sorts}
use Rattle.y_tree.specs.Values.{truth, bits}
use Rattle.y_tree.specs.Tree as tree
use Rattle.y_tree.specs.Typing.{sort_of}
use Rattle.y_tree.specs.Meaning.{meaning}
use Rattle.operator_values.specs.Closed.{on_words, over_words, at_word}

-- sums modulo 2^n, of one, two and more words
pub sums :
    (on_words bv.Add ((1, 1) ∷ (1, 1) ∷ []) ≡ bits 1 0)
    × (on_words bv.Add ((4, 9) ∷ (4, 9) ∷ []) ≡ bits 4 2)
    × (on_words bv.Add ((8, 200) ∷ []) ≡ bits 8 200)
    × (on_words bv.Add ((8, 200) ∷ (8, 100) ∷ (8, 7) ∷ []) ≡ bits 8 51)
    × (on_words bv.Add ((128, 340282366920938463463374607431768211455) ∷ (128, 1) ∷ []) ≡ bits 128 0)
    × (on_words bv.Add ((128, 170141183460469231731687303715884105728) ∷ (128, 170141183460469231731687303715884105728) ∷ (128, 5) ∷ []) ≡ bits 128 5)
unfolding meaning
sums = (refl, refl, refl, refl, refl, refl)

-- products modulo 2^n
pub products :
    (on_words bv.Mul ((1, 1) ∷ (1, 1) ∷ []) ≡ bits 1 1)
    × (on_words bv.Mul ((4, 7) ∷ (4, 7) ∷ []) ≡ bits 4 1)
    × (on_words bv.Mul ((8, 250) ∷ []) ≡ bits 8 250)
    × (on_words bv.Mul ((8, 3) ∷ (8, 5) ∷ (8, 17) ∷ []) ≡ bits 8 255)
    × (on_words bv.Mul ((128, 340282366920938463463374607431768211455) ∷ (128, 340282366920938463463374607431768211455) ∷ []) ≡ bits 128 1)
    × (on_words bv.Mul ((128, 18446744073709551616) ∷ (128, 18446744073709551616) ∷ []) ≡ bits 128 0)
unfolding meaning
products = (refl, refl, refl, refl, refl, refl)

-- conjunctions bit by bit
pub conjunctions :
    (on_words bv.And ((1, 1) ∷ (1, 0) ∷ []) ≡ bits 1 0)
    × (on_words bv.And ((4, 12) ∷ (4, 10) ∷ []) ≡ bits 4 8)
    × (on_words bv.And ((8, 255) ∷ (8, 60) ∷ (8, 15) ∷ []) ≡ bits 8 12)
    × (on_words bv.And ((128, 340282366920938463463374607431768211455) ∷ (128, 170141183460469231731687303715884105731) ∷ []) ≡ bits 128 170141183460469231731687303715884105731)
unfolding meaning
conjunctions = (refl, refl, refl, refl)

-- disjunctions bit by bit
pub disjunctions :
    (on_words bv.Or ((1, 1) ∷ (1, 0) ∷ []) ≡ bits 1 1)
    × (on_words bv.Or ((4, 12) ∷ (4, 10) ∷ []) ≡ bits 4 14)
    × (on_words bv.Or ((8, 1) ∷ (8, 2) ∷ (8, 64) ∷ []) ≡ bits 8 67)
    × (on_words bv.Or ((128, 170141183460469231731687303715884105728) ∷ (128, 1) ∷ []) ≡ bits 128 170141183460469231731687303715884105729)
unfolding meaning
disjunctions = (refl, refl, refl, refl)

-- exclusive disjunctions bit by bit
pub exclusive_disjunctions :
    (on_words bv.Xor ((1, 1) ∷ (1, 1) ∷ []) ≡ bits 1 0)
    × (on_words bv.Xor ((4, 12) ∷ (4, 10) ∷ []) ≡ bits 4 6)
    × (on_words bv.Xor ((8, 255) ∷ (8, 15) ∷ (8, 60) ∷ []) ≡ bits 8 204)
    × (on_words bv.Xor ((128, 340282366920938463463374607431768211455) ∷ (128, 170141183460469231731687303715884105728) ∷ []) ≡ bits 128 170141183460469231731687303715884105727)
unfolding meaning
exclusive_disjunctions = (refl, refl, refl, refl)

-- differences modulo 2^n
pub differences :
    (on_words bv.Sub ((1, 0) ∷ (1, 1) ∷ []) ≡ bits 1 1)
    × (on_words bv.Sub ((4, 3) ∷ (4, 9) ∷ []) ≡ bits 4 10)
    × (on_words bv.Sub ((8, 5) ∷ (8, 5) ∷ []) ≡ bits 8 0)
    × (on_words bv.Sub ((128, 0) ∷ (128, 1) ∷ []) ≡ bits 128 340282366920938463463374607431768211455)
    × (on_words bv.Sub ((128, 170141183460469231731687303715884105728) ∷ (128, 340282366920938463463374607431768211455) ∷ []) ≡ bits 128 170141183460469231731687303715884105729)
unfolding meaning
differences = (refl, refl, refl, refl, refl)

-- negations modulo 2^n
pub negations :
    (on_words bv.Neg ((1, 1) ∷ []) ≡ bits 1 1)
    × (on_words bv.Neg ((4, 0) ∷ []) ≡ bits 4 0)
    × (on_words bv.Neg ((4, 8) ∷ []) ≡ bits 4 8)
    × (on_words bv.Neg ((8, 1) ∷ []) ≡ bits 8 255)
    × (on_words bv.Neg ((128, 1) ∷ []) ≡ bits 128 340282366920938463463374607431768211455)
    × (on_words bv.Neg ((128, 170141183460469231731687303715884105728) ∷ []) ≡ bits 128 170141183460469231731687303715884105728)
unfolding meaning
negations = (refl, refl, refl, refl, refl, refl)

-- each bit inverted
pub complements :
    (on_words bv.Not ((1, 0) ∷ []) ≡ bits 1 1)
    × (on_words bv.Not ((4, 10) ∷ []) ≡ bits 4 5)
    × (on_words bv.Not ((8, 255) ∷ []) ≡ bits 8 0)
    × (on_words bv.Not ((128, 1) ∷ []) ≡ bits 128 340282366920938463463374607431768211454)
unfolding meaning
complements = (refl, refl, refl, refl)

-- unsigned quotients, and by 0 all ones
pub quotients :
    (on_words bv.Div ((1, 1) ∷ (1, 1) ∷ []) ≡ bits 1 1)
    × (on_words bv.Div ((4, 13) ∷ (4, 3) ∷ []) ≡ bits 4 4)
    × (on_words bv.Div ((4, 13) ∷ (4, 0) ∷ []) ≡ bits 4 15)
    × (on_words bv.Div ((1, 0) ∷ (1, 0) ∷ []) ≡ bits 1 1)
    × (on_words bv.Div ((8, 7) ∷ (8, 200) ∷ []) ≡ bits 8 0)
    × (on_words bv.Div ((128, 340282366920938463463374607431768211455) ∷ (128, 3) ∷ []) ≡ bits 128 113427455640312821154458202477256070485)
    × (on_words bv.Div ((128, 170141183460469231731687303715884105728) ∷ (128, 0) ∷ []) ≡ bits 128 340282366920938463463374607431768211455)
unfolding meaning
quotients = (refl, refl, refl, refl, refl, refl, refl)

-- unsigned remainders, and by 0 the dividend
pub remainders :
    (on_words bv.Rem ((1, 1) ∷ (1, 1) ∷ []) ≡ bits 1 0)
    × (on_words bv.Rem ((4, 13) ∷ (4, 3) ∷ []) ≡ bits 4 1)
    × (on_words bv.Rem ((4, 13) ∷ (4, 0) ∷ []) ≡ bits 4 13)
    × (on_words bv.Rem ((1, 1) ∷ (1, 0) ∷ []) ≡ bits 1 1)
    × (on_words bv.Rem ((8, 7) ∷ (8, 200) ∷ []) ≡ bits 8 7)
    × (on_words bv.Rem ((128, 340282366920938463463374607431768211455) ∷ (128, 10) ∷ []) ≡ bits 128 5)
    × (on_words bv.Rem ((128, 170141183460469231731687303715884105728) ∷ (128, 0) ∷ []) ≡ bits 128 170141183460469231731687303715884105728)
unfolding meaning
remainders = (refl, refl, refl, refl, refl, refl, refl)

-- signed quotients rounded towards 0: each pair of signs, exact and not, by 0, at the edges
pub signed_quotients :
    (on_words bv.Sdiv ((4, 7) ∷ (4, 2) ∷ []) ≡ bits 4 3)
    × (on_words bv.Sdiv ((4, 9) ∷ (4, 2) ∷ []) ≡ bits 4 13)
    × (on_words bv.Sdiv ((4, 7) ∷ (4, 14) ∷ []) ≡ bits 4 13)
    × (on_words bv.Sdiv ((4, 9) ∷ (4, 14) ∷ []) ≡ bits 4 3)
    × (on_words bv.Sdiv ((4, 6) ∷ (4, 2) ∷ []) ≡ bits 4 3)
    × (on_words bv.Sdiv ((4, 10) ∷ (4, 2) ∷ []) ≡ bits 4 13)
    × (on_words bv.Sdiv ((4, 6) ∷ (4, 14) ∷ []) ≡ bits 4 13)
    × (on_words bv.Sdiv ((4, 10) ∷ (4, 14) ∷ []) ≡ bits 4 3)
    × (on_words bv.Sdiv ((4, 7) ∷ (4, 0) ∷ []) ≡ bits 4 15)
    × (on_words bv.Sdiv ((4, 9) ∷ (4, 0) ∷ []) ≡ bits 4 1)
    × (on_words bv.Sdiv ((4, 0) ∷ (4, 0) ∷ []) ≡ bits 4 15)
    × (on_words bv.Sdiv ((4, 8) ∷ (4, 15) ∷ []) ≡ bits 4 8)
    × (on_words bv.Sdiv ((4, 8) ∷ (4, 8) ∷ []) ≡ bits 4 1)
    × (on_words bv.Sdiv ((4, 8) ∷ (4, 1) ∷ []) ≡ bits 4 8)
    × (on_words bv.Sdiv ((4, 7) ∷ (4, 8) ∷ []) ≡ bits 4 0)
    × (on_words bv.Sdiv ((1, 1) ∷ (1, 1) ∷ []) ≡ bits 1 1)
    × (on_words bv.Sdiv ((1, 0) ∷ (1, 1) ∷ []) ≡ bits 1 0)
    × (on_words bv.Sdiv ((1, 1) ∷ (1, 0) ∷ []) ≡ bits 1 1)
    × (on_words bv.Sdiv ((128, 170141183460469231731687303715884105728) ∷ (128, 340282366920938463463374607431768211455) ∷ []) ≡ bits 128 170141183460469231731687303715884105728)
    × (on_words bv.Sdiv ((128, 340282366920938463463374607431768211455) ∷ (128, 3) ∷ []) ≡ bits 128 0)
    × (on_words bv.Sdiv ((128, 170141183460469231731687303715884105728) ∷ (128, 2) ∷ []) ≡ bits 128 255211775190703847597530955573826158592)
unfolding meaning
signed_quotients = (refl, refl, refl, refl, refl, refl, refl, refl, refl, refl, refl, refl, refl, refl, refl, refl, refl, refl, refl, refl, refl)

-- signed remainders with the sign of the dividend: the same cases
pub signed_remainders :
    (on_words bv.Srem ((4, 7) ∷ (4, 2) ∷ []) ≡ bits 4 1)
    × (on_words bv.Srem ((4, 9) ∷ (4, 2) ∷ []) ≡ bits 4 15)
    × (on_words bv.Srem ((4, 7) ∷ (4, 14) ∷ []) ≡ bits 4 1)
    × (on_words bv.Srem ((4, 9) ∷ (4, 14) ∷ []) ≡ bits 4 15)
    × (on_words bv.Srem ((4, 6) ∷ (4, 2) ∷ []) ≡ bits 4 0)
    × (on_words bv.Srem ((4, 10) ∷ (4, 2) ∷ []) ≡ bits 4 0)
    × (on_words bv.Srem ((4, 6) ∷ (4, 14) ∷ []) ≡ bits 4 0)
    × (on_words bv.Srem ((4, 10) ∷ (4, 14) ∷ []) ≡ bits 4 0)
    × (on_words bv.Srem ((4, 7) ∷ (4, 0) ∷ []) ≡ bits 4 7)
    × (on_words bv.Srem ((4, 9) ∷ (4, 0) ∷ []) ≡ bits 4 9)
    × (on_words bv.Srem ((4, 0) ∷ (4, 0) ∷ []) ≡ bits 4 0)
    × (on_words bv.Srem ((4, 8) ∷ (4, 15) ∷ []) ≡ bits 4 0)
    × (on_words bv.Srem ((4, 8) ∷ (4, 8) ∷ []) ≡ bits 4 0)
    × (on_words bv.Srem ((4, 8) ∷ (4, 1) ∷ []) ≡ bits 4 0)
    × (on_words bv.Srem ((4, 7) ∷ (4, 8) ∷ []) ≡ bits 4 7)
    × (on_words bv.Srem ((1, 1) ∷ (1, 1) ∷ []) ≡ bits 1 0)
    × (on_words bv.Srem ((1, 0) ∷ (1, 1) ∷ []) ≡ bits 1 0)
    × (on_words bv.Srem ((1, 1) ∷ (1, 0) ∷ []) ≡ bits 1 1)
    × (on_words bv.Srem ((128, 170141183460469231731687303715884105728) ∷ (128, 340282366920938463463374607431768211455) ∷ []) ≡ bits 128 0)
    × (on_words bv.Srem ((128, 340282366920938463463374607431768211455) ∷ (128, 3) ∷ []) ≡ bits 128 340282366920938463463374607431768211455)
    × (on_words bv.Srem ((128, 170141183460469231731687303715884105728) ∷ (128, 2) ∷ []) ≡ bits 128 0)
unfolding meaning
signed_remainders = (refl, refl, refl, refl, refl, refl, refl, refl, refl, refl, refl, refl, refl, refl, refl, refl, refl, refl, refl, refl, refl)

-- signed remainders with the sign of the divisor: the same cases
pub signed_moduli :
    (on_words bv.Smod ((4, 7) ∷ (4, 2) ∷ []) ≡ bits 4 1)
    × (on_words bv.Smod ((4, 9) ∷ (4, 2) ∷ []) ≡ bits 4 1)
    × (on_words bv.Smod ((4, 7) ∷ (4, 14) ∷ []) ≡ bits 4 15)
    × (on_words bv.Smod ((4, 9) ∷ (4, 14) ∷ []) ≡ bits 4 15)
    × (on_words bv.Smod ((4, 6) ∷ (4, 2) ∷ []) ≡ bits 4 0)
    × (on_words bv.Smod ((4, 10) ∷ (4, 2) ∷ []) ≡ bits 4 0)
    × (on_words bv.Smod ((4, 6) ∷ (4, 14) ∷ []) ≡ bits 4 0)
    × (on_words bv.Smod ((4, 10) ∷ (4, 14) ∷ []) ≡ bits 4 0)
    × (on_words bv.Smod ((4, 7) ∷ (4, 0) ∷ []) ≡ bits 4 7)
    × (on_words bv.Smod ((4, 9) ∷ (4, 0) ∷ []) ≡ bits 4 9)
    × (on_words bv.Smod ((4, 0) ∷ (4, 0) ∷ []) ≡ bits 4 0)
    × (on_words bv.Smod ((4, 8) ∷ (4, 15) ∷ []) ≡ bits 4 0)
    × (on_words bv.Smod ((4, 8) ∷ (4, 8) ∷ []) ≡ bits 4 0)
    × (on_words bv.Smod ((4, 8) ∷ (4, 1) ∷ []) ≡ bits 4 0)
    × (on_words bv.Smod ((4, 7) ∷ (4, 8) ∷ []) ≡ bits 4 15)
    × (on_words bv.Smod ((1, 1) ∷ (1, 1) ∷ []) ≡ bits 1 0)
    × (on_words bv.Smod ((1, 0) ∷ (1, 1) ∷ []) ≡ bits 1 0)
    × (on_words bv.Smod ((1, 1) ∷ (1, 0) ∷ []) ≡ bits 1 1)
    × (on_words bv.Smod ((128, 170141183460469231731687303715884105728) ∷ (128, 340282366920938463463374607431768211455) ∷ []) ≡ bits 128 0)
    × (on_words bv.Smod ((128, 340282366920938463463374607431768211455) ∷ (128, 3) ∷ []) ≡ bits 128 2)
    × (on_words bv.Smod ((128, 170141183460469231731687303715884105728) ∷ (128, 2) ∷ []) ≡ bits 128 0)
unfolding meaning
signed_moduli = (refl, refl, refl, refl, refl, refl, refl, refl, refl, refl, refl, refl, refl, refl, refl, refl, refl, refl, refl, refl, refl)

-- shifts to the left: below the width, by it and by more
pub left_shifts :
    (on_words bv.Shl ((1, 1) ∷ (1, 0) ∷ []) ≡ bits 1 1)
    × (on_words bv.Shl ((1, 1) ∷ (1, 1) ∷ []) ≡ bits 1 0)
    × (on_words bv.Shl ((4, 9) ∷ (4, 0) ∷ []) ≡ bits 4 9)
    × (on_words bv.Shl ((4, 9) ∷ (4, 1) ∷ []) ≡ bits 4 2)
    × (on_words bv.Shl ((4, 9) ∷ (4, 3) ∷ []) ≡ bits 4 8)
    × (on_words bv.Shl ((4, 9) ∷ (4, 4) ∷ []) ≡ bits 4 0)
    × (on_words bv.Shl ((4, 9) ∷ (4, 15) ∷ []) ≡ bits 4 0)
    × (on_words bv.Shl ((4, 5) ∷ (4, 2) ∷ []) ≡ bits 4 4)
    × (on_words bv.Shl ((8, 129) ∷ (8, 7) ∷ []) ≡ bits 8 128)
    × (on_words bv.Shl ((8, 129) ∷ (8, 200) ∷ []) ≡ bits 8 0)
    × (on_words bv.Shl ((128, 340282366920938463463374607431768211455) ∷ (128, 127) ∷ []) ≡ bits 128 170141183460469231731687303715884105728)
    × (on_words bv.Shl ((128, 340282366920938463463374607431768211455) ∷ (128, 128) ∷ []) ≡ bits 128 0)
    × (on_words bv.Shl ((128, 170141183460469231731687303715884105729) ∷ (128, 340282366920938463463374607431768211455) ∷ []) ≡ bits 128 0)
unfolding meaning
left_shifts = (refl, refl, refl, refl, refl, refl, refl, refl, refl, refl, refl, refl, refl)

-- shifts to the right with zeros: the same cases
pub right_shifts :
    (on_words bv.Lshr ((1, 1) ∷ (1, 0) ∷ []) ≡ bits 1 1)
    × (on_words bv.Lshr ((1, 1) ∷ (1, 1) ∷ []) ≡ bits 1 0)
    × (on_words bv.Lshr ((4, 9) ∷ (4, 0) ∷ []) ≡ bits 4 9)
    × (on_words bv.Lshr ((4, 9) ∷ (4, 1) ∷ []) ≡ bits 4 4)
    × (on_words bv.Lshr ((4, 9) ∷ (4, 3) ∷ []) ≡ bits 4 1)
    × (on_words bv.Lshr ((4, 9) ∷ (4, 4) ∷ []) ≡ bits 4 0)
    × (on_words bv.Lshr ((4, 9) ∷ (4, 15) ∷ []) ≡ bits 4 0)
    × (on_words bv.Lshr ((4, 5) ∷ (4, 2) ∷ []) ≡ bits 4 1)
    × (on_words bv.Lshr ((8, 129) ∷ (8, 7) ∷ []) ≡ bits 8 1)
    × (on_words bv.Lshr ((8, 129) ∷ (8, 200) ∷ []) ≡ bits 8 0)
    × (on_words bv.Lshr ((128, 340282366920938463463374607431768211455) ∷ (128, 127) ∷ []) ≡ bits 128 1)
    × (on_words bv.Lshr ((128, 340282366920938463463374607431768211455) ∷ (128, 128) ∷ []) ≡ bits 128 0)
    × (on_words bv.Lshr ((128, 170141183460469231731687303715884105729) ∷ (128, 340282366920938463463374607431768211455) ∷ []) ≡ bits 128 0)
unfolding meaning
right_shifts = (refl, refl, refl, refl, refl, refl, refl, refl, refl, refl, refl, refl, refl)

-- shifts to the right with copies of the sign bit: the same cases
pub signed_right_shifts :
    (on_words bv.Ashr ((1, 1) ∷ (1, 0) ∷ []) ≡ bits 1 1)
    × (on_words bv.Ashr ((1, 1) ∷ (1, 1) ∷ []) ≡ bits 1 1)
    × (on_words bv.Ashr ((4, 9) ∷ (4, 0) ∷ []) ≡ bits 4 9)
    × (on_words bv.Ashr ((4, 9) ∷ (4, 1) ∷ []) ≡ bits 4 12)
    × (on_words bv.Ashr ((4, 9) ∷ (4, 3) ∷ []) ≡ bits 4 15)
    × (on_words bv.Ashr ((4, 9) ∷ (4, 4) ∷ []) ≡ bits 4 15)
    × (on_words bv.Ashr ((4, 9) ∷ (4, 15) ∷ []) ≡ bits 4 15)
    × (on_words bv.Ashr ((4, 5) ∷ (4, 2) ∷ []) ≡ bits 4 1)
    × (on_words bv.Ashr ((8, 129) ∷ (8, 7) ∷ []) ≡ bits 8 255)
    × (on_words bv.Ashr ((8, 129) ∷ (8, 200) ∷ []) ≡ bits 8 255)
    × (on_words bv.Ashr ((128, 340282366920938463463374607431768211455) ∷ (128, 127) ∷ []) ≡ bits 128 340282366920938463463374607431768211455)
    × (on_words bv.Ashr ((128, 340282366920938463463374607431768211455) ∷ (128, 128) ∷ []) ≡ bits 128 340282366920938463463374607431768211455)
    × (on_words bv.Ashr ((128, 170141183460469231731687303715884105729) ∷ (128, 340282366920938463463374607431768211455) ∷ []) ≡ bits 128 340282366920938463463374607431768211455)
unfolding meaning
signed_right_shifts = (refl, refl, refl, refl, refl, refl, refl, refl, refl, refl, refl, refl, refl)

-- unsigned at least
pub unsigned_at_least :
    (on_words bv.Ge ((1, 0) ∷ (1, 1) ∷ []) ≡ truth false)
    × (on_words bv.Ge ((1, 1) ∷ (1, 1) ∷ []) ≡ truth true)
    × (on_words bv.Ge ((4, 7) ∷ (4, 8) ∷ []) ≡ truth false)
    × (on_words bv.Ge ((4, 8) ∷ (4, 7) ∷ []) ≡ truth true)
    × (on_words bv.Ge ((4, 15) ∷ (4, 15) ∷ []) ≡ truth true)
    × (on_words bv.Ge ((4, 9) ∷ (4, 12) ∷ []) ≡ truth false)
    × (on_words bv.Ge ((128, 340282366920938463463374607431768211455) ∷ (128, 0) ∷ []) ≡ truth true)
    × (on_words bv.Ge ((128, 170141183460469231731687303715884105728) ∷ (128, 170141183460469231731687303715884105727) ∷ []) ≡ truth true)
unfolding meaning
unsigned_at_least = (refl, refl, refl, refl, refl, refl, refl, refl)

-- unsigned above
pub unsigned_above :
    (on_words bv.Gt ((1, 0) ∷ (1, 1) ∷ []) ≡ truth false)
    × (on_words bv.Gt ((1, 1) ∷ (1, 1) ∷ []) ≡ truth false)
    × (on_words bv.Gt ((4, 7) ∷ (4, 8) ∷ []) ≡ truth false)
    × (on_words bv.Gt ((4, 8) ∷ (4, 7) ∷ []) ≡ truth true)
    × (on_words bv.Gt ((4, 15) ∷ (4, 15) ∷ []) ≡ truth false)
    × (on_words bv.Gt ((4, 9) ∷ (4, 12) ∷ []) ≡ truth false)
    × (on_words bv.Gt ((128, 340282366920938463463374607431768211455) ∷ (128, 0) ∷ []) ≡ truth true)
    × (on_words bv.Gt ((128, 170141183460469231731687303715884105728) ∷ (128, 170141183460469231731687303715884105727) ∷ []) ≡ truth true)
unfolding meaning
unsigned_above = (refl, refl, refl, refl, refl, refl, refl, refl)

-- unsigned at most
pub unsigned_at_most :
    (on_words bv.Le ((1, 0) ∷ (1, 1) ∷ []) ≡ truth true)
    × (on_words bv.Le ((1, 1) ∷ (1, 1) ∷ []) ≡ truth true)
    × (on_words bv.Le ((4, 7) ∷ (4, 8) ∷ []) ≡ truth true)
    × (on_words bv.Le ((4, 8) ∷ (4, 7) ∷ []) ≡ truth false)
    × (on_words bv.Le ((4, 15) ∷ (4, 15) ∷ []) ≡ truth true)
    × (on_words bv.Le ((4, 9) ∷ (4, 12) ∷ []) ≡ truth true)
    × (on_words bv.Le ((128, 340282366920938463463374607431768211455) ∷ (128, 0) ∷ []) ≡ truth false)
    × (on_words bv.Le ((128, 170141183460469231731687303715884105728) ∷ (128, 170141183460469231731687303715884105727) ∷ []) ≡ truth false)
unfolding meaning
unsigned_at_most = (refl, refl, refl, refl, refl, refl, refl, refl)

-- unsigned below
pub unsigned_below :
    (on_words bv.Lt ((1, 0) ∷ (1, 1) ∷ []) ≡ truth true)
    × (on_words bv.Lt ((1, 1) ∷ (1, 1) ∷ []) ≡ truth false)
    × (on_words bv.Lt ((4, 7) ∷ (4, 8) ∷ []) ≡ truth true)
    × (on_words bv.Lt ((4, 8) ∷ (4, 7) ∷ []) ≡ truth false)
    × (on_words bv.Lt ((4, 15) ∷ (4, 15) ∷ []) ≡ truth false)
    × (on_words bv.Lt ((4, 9) ∷ (4, 12) ∷ []) ≡ truth true)
    × (on_words bv.Lt ((128, 340282366920938463463374607431768211455) ∷ (128, 0) ∷ []) ≡ truth false)
    × (on_words bv.Lt ((128, 170141183460469231731687303715884105728) ∷ (128, 170141183460469231731687303715884105727) ∷ []) ≡ truth false)
unfolding meaning
unsigned_below = (refl, refl, refl, refl, refl, refl, refl, refl)

-- signed at least
pub signed_at_least :
    (on_words bv.Sge ((1, 0) ∷ (1, 1) ∷ []) ≡ truth true)
    × (on_words bv.Sge ((1, 1) ∷ (1, 1) ∷ []) ≡ truth true)
    × (on_words bv.Sge ((4, 7) ∷ (4, 8) ∷ []) ≡ truth true)
    × (on_words bv.Sge ((4, 8) ∷ (4, 7) ∷ []) ≡ truth false)
    × (on_words bv.Sge ((4, 15) ∷ (4, 15) ∷ []) ≡ truth true)
    × (on_words bv.Sge ((4, 9) ∷ (4, 12) ∷ []) ≡ truth false)
    × (on_words bv.Sge ((128, 340282366920938463463374607431768211455) ∷ (128, 0) ∷ []) ≡ truth false)
    × (on_words bv.Sge ((128, 170141183460469231731687303715884105728) ∷ (128, 170141183460469231731687303715884105727) ∷ []) ≡ truth false)
unfolding meaning
signed_at_least = (refl, refl, refl, refl, refl, refl, refl, refl)

-- signed above
pub signed_above :
    (on_words bv.Sgt ((1, 0) ∷ (1, 1) ∷ []) ≡ truth true)
    × (on_words bv.Sgt ((1, 1) ∷ (1, 1) ∷ []) ≡ truth false)
    × (on_words bv.Sgt ((4, 7) ∷ (4, 8) ∷ []) ≡ truth true)
    × (on_words bv.Sgt ((4, 8) ∷ (4, 7) ∷ []) ≡ truth false)
    × (on_words bv.Sgt ((4, 15) ∷ (4, 15) ∷ []) ≡ truth false)
    × (on_words bv.Sgt ((4, 9) ∷ (4, 12) ∷ []) ≡ truth false)
    × (on_words bv.Sgt ((128, 340282366920938463463374607431768211455) ∷ (128, 0) ∷ []) ≡ truth false)
    × (on_words bv.Sgt ((128, 170141183460469231731687303715884105728) ∷ (128, 170141183460469231731687303715884105727) ∷ []) ≡ truth false)
unfolding meaning
signed_above = (refl, refl, refl, refl, refl, refl, refl, refl)

-- signed at most
pub signed_at_most :
    (on_words bv.Sle ((1, 0) ∷ (1, 1) ∷ []) ≡ truth false)
    × (on_words bv.Sle ((1, 1) ∷ (1, 1) ∷ []) ≡ truth true)
    × (on_words bv.Sle ((4, 7) ∷ (4, 8) ∷ []) ≡ truth false)
    × (on_words bv.Sle ((4, 8) ∷ (4, 7) ∷ []) ≡ truth true)
    × (on_words bv.Sle ((4, 15) ∷ (4, 15) ∷ []) ≡ truth true)
    × (on_words bv.Sle ((4, 9) ∷ (4, 12) ∷ []) ≡ truth true)
    × (on_words bv.Sle ((128, 340282366920938463463374607431768211455) ∷ (128, 0) ∷ []) ≡ truth true)
    × (on_words bv.Sle ((128, 170141183460469231731687303715884105728) ∷ (128, 170141183460469231731687303715884105727) ∷ []) ≡ truth true)
unfolding meaning
signed_at_most = (refl, refl, refl, refl, refl, refl, refl, refl)

-- signed below
pub signed_below :
    (on_words bv.Slt ((1, 0) ∷ (1, 1) ∷ []) ≡ truth false)
    × (on_words bv.Slt ((1, 1) ∷ (1, 1) ∷ []) ≡ truth false)
    × (on_words bv.Slt ((4, 7) ∷ (4, 8) ∷ []) ≡ truth false)
    × (on_words bv.Slt ((4, 8) ∷ (4, 7) ∷ []) ≡ truth true)
    × (on_words bv.Slt ((4, 15) ∷ (4, 15) ∷ []) ≡ truth false)
    × (on_words bv.Slt ((4, 9) ∷ (4, 12) ∷ []) ≡ truth true)
    × (on_words bv.Slt ((128, 340282366920938463463374607431768211455) ∷ (128, 0) ∷ []) ≡ truth true)
    × (on_words bv.Slt ((128, 170141183460469231731687303715884105728) ∷ (128, 170141183460469231731687303715884105727) ∷ []) ≡ truth true)
unfolding meaning
signed_below = (refl, refl, refl, refl, refl, refl, refl, refl)

-- concatenations: the first word has the high bits
pub concatenations :
    (on_words bv.Concat ((2, 2) ∷ (2, 1) ∷ []) ≡ bits 4 9)
    × (on_words bv.Concat ((1, 1) ∷ (3, 0) ∷ []) ≡ bits 4 8)
    × (on_words bv.Concat ((4, 15) ∷ []) ≡ bits 4 15)
    × (on_words bv.Concat ((1, 1) ∷ (2, 0) ∷ (3, 5) ∷ []) ≡ bits 6 37)
    × (on_words bv.Concat ((64, 1) ∷ (64, 0) ∷ []) ≡ bits 128 18446744073709551616)
    × (on_words bv.Concat ((127, 0) ∷ (1, 1) ∷ []) ≡ bits 128 1)
unfolding meaning
concatenations = (refl, refl, refl, refl, refl, refl)

-- bits from a place down to another
pub extracts :
    (at_word bv_at.Extract 0 0 1 1 ≡ bits 1 1)
    × (at_word bv_at.Extract 3 0 4 9 ≡ bits 4 9)
    × (at_word bv_at.Extract 3 3 4 9 ≡ bits 1 1)
    × (at_word bv_at.Extract 2 1 4 5 ≡ bits 2 2)
    × (at_word bv_at.Extract 7 4 8 202 ≡ bits 4 12)
    × (at_word bv_at.Extract 127 127 128 170141183460469231731687303715884105728 ≡ bits 1 1)
    × (at_word bv_at.Extract 127 0 128 340282366920938463463374607431768211455 ≡ bits 128 340282366920938463463374607431768211455)
    × (at_word bv_at.Extract 64 64 128 18446744073709551616 ≡ bits 1 1)
unfolding meaning
extracts = (refl, refl, refl, refl, refl, refl, refl, refl)

-- copies of the sign bit in front
pub sign_extensions :
    (at_word bv_at.SignExtend 0 0 4 9 ≡ bits 4 9)
    × (at_word bv_at.SignExtend 1 0 1 1 ≡ bits 2 3)
    × (at_word bv_at.SignExtend 4 0 4 9 ≡ bits 8 249)
    × (at_word bv_at.SignExtend 4 0 4 5 ≡ bits 8 5)
    × (at_word bv_at.SignExtend 120 0 8 128 ≡ bits 128 340282366920938463463374607431768211328)
    × (at_word bv_at.SignExtend 127 0 1 1 ≡ bits 128 340282366920938463463374607431768211455)
unfolding meaning
sign_extensions = (refl, refl, refl, refl, refl, refl)

-- zeros in front
pub zero_extensions :
    (at_word bv_at.ZeroExtend 0 0 4 9 ≡ bits 4 9)
    × (at_word bv_at.ZeroExtend 1 0 1 1 ≡ bits 2 1)
    × (at_word bv_at.ZeroExtend 4 0 4 9 ≡ bits 8 9)
    × (at_word bv_at.ZeroExtend 120 0 8 255 ≡ bits 128 255)
unfolding meaning
zero_extensions = (refl, refl, refl, refl)

-- shifts to the left by a fixed number, up to the width
pub fixed_left_shifts :
    (at_word bv_at.ShiftLeft0 0 0 4 9 ≡ bits 4 9)
    × (at_word bv_at.ShiftLeft0 1 0 4 9 ≡ bits 4 2)
    × (at_word bv_at.ShiftLeft0 4 0 4 9 ≡ bits 4 0)
    × (at_word bv_at.ShiftLeft0 8 0 8 255 ≡ bits 8 0)
    × (at_word bv_at.ShiftLeft0 127 0 128 3 ≡ bits 128 170141183460469231731687303715884105728)
    × (at_word bv_at.ShiftLeft0 128 0 128 3 ≡ bits 128 0)
unfolding meaning
fixed_left_shifts = (refl, refl, refl, refl, refl, refl)

-- shifts to the right by a fixed number, up to the width
pub fixed_right_shifts :
    (at_word bv_at.ShiftRight0 0 0 4 9 ≡ bits 4 9)
    × (at_word bv_at.ShiftRight0 1 0 4 9 ≡ bits 4 4)
    × (at_word bv_at.ShiftRight0 4 0 4 9 ≡ bits 4 0)
    × (at_word bv_at.ShiftRight0 8 0 8 255 ≡ bits 8 0)
    × (at_word bv_at.ShiftRight0 127 0 128 170141183460469231731687303715884105728 ≡ bits 128 1)
    × (at_word bv_at.ShiftRight0 128 0 128 340282366920938463463374607431768211455 ≡ bits 128 0)
unfolding meaning
fixed_right_shifts = (refl, refl, refl, refl, refl, refl)

-- equal words
pub word_equalities :
    (over_words tree.equality ((8, 200) ∷ (8, 200) ∷ []) ≡ truth true)
    × (over_words tree.equality ((8, 200) ∷ (8, 201) ∷ []) ≡ truth false)
    × (over_words tree.equality ((128, 340282366920938463463374607431768211455) ∷ (128, 340282366920938463463374607431768211455) ∷ []) ≡ truth true)
unfolding meaning sort_of same_sorts
word_equalities = (refl, refl, refl)

-- different words
pub word_disequalities :
    (over_words tree.disequality ((8, 200) ∷ (8, 200) ∷ []) ≡ truth false)
    × (over_words tree.disequality ((8, 200) ∷ (8, 201) ∷ []) ≡ truth true)
    × (over_words tree.disequality ((128, 340282366920938463463374607431768211455) ∷ (128, 340282366920938463463374607431768211455) ∷ []) ≡ truth false)
unfolding meaning sort_of same_sorts
word_disequalities = (refl, refl, refl)

-- pairwise different words
pub word_distinctness :
    (over_words tree.distinctness ((2, 0) ∷ (2, 1) ∷ (2, 2) ∷ (2, 3) ∷ []) ≡ truth true)
    × (over_words tree.distinctness ((2, 0) ∷ (2, 1) ∷ (2, 2) ∷ (2, 1) ∷ []) ≡ truth false)
    × (over_words tree.distinctness ((1, 0) ∷ (1, 1) ∷ []) ≡ truth true)
unfolding meaning sort_of same_sorts
word_distinctness = (refl, refl, refl)
