-- What a tree means under an assignment.
use Rattle.std.specs.Prelude.{◌≡◌, ℕ, ◌+◌, ◌*◌, ◌-◌, Bool, true, false, not, ◌&&◌, ◌||◌, ◌==◌, nat_le, nat_lt, List, [], ◌∷◌, Option, Some, None, map, if◌then◌else◌}
use Rattle.std.specs.List.{list_all, list_any}
use Rattle.std.specs.Int.Bits.{bit_and, bit_or, bit_xor}
use Rattle.std.specs.Ordering.{is_lt}
use Rattle.rationals.specs.Rational.{ℚ, zero_ℚ, one_ℚ, ◌+ℚ◌, ◌-ℚ◌, ◌*ℚ◌, ◌/ℚ◌, neg_ℚ, cmp_ℚ}
use Rattle.y_tree.specs.declared.BvOp.{BvOp}
use Rattle.y_tree.specs.declared.BvOp.TheVariants as bv
use Rattle.y_tree.specs.declared.BvAtOp.{BvAtOp}
use Rattle.y_tree.specs.declared.BvAtOp.TheVariants as bv_at
use Rattle.y_tree.specs.Sorts.{Sort, boolean}
use Rattle.y_tree.specs.Values.{Value, truth, number, bits, element, function, entry, values, call, same_value, has_sort, zero_of}
use Rattle.y_tree.specs.Tree.{Op, Tree, Trees, node, none, more}
use Rattle.y_tree.specs.Tree as tree
use Rattle.y_tree.specs.Typing.{sort_of}
use Rattle.y_tree.specs.BitVectors.{wrap, complement, negate, subtract, divide, remainder, signed_divide, signed_remainder, signed_modulo, shift_left, shift_right, shift_right_signed, concatenate, extract, sign_extend, signed_at_least}

-- values of constants and of variables, by their numbers; the first entry with the number and a value of the type counts
pub record Assignment : Type 0 where
  pub constants : List (ℕ × Value)
  pub variables : List (ℕ × Value)

-- the value of that number and type, and the type's zero where there is none
abbrev pub value_in : List (ℕ × Value) → ℕ → Sort → Value
value_in [] k s = zero_of s
value_in (e ∷ es) k s = if (e.0 == k) && has_sort e.1 s then e.1 else value_in es k s

-- the truth value in a Boolean
abbrev pub truth_of : Value → Bool
truth_of (truth b) = b
truth_of (number q) = false
truth_of (bits n a) = false
truth_of (element k a) = false
truth_of (function es v) = false

-- the number in a real
abbrev pub number_of : Value → ℚ
number_of (truth b) = zero_ℚ
number_of (number q) = q
number_of (bits n a) = zero_ℚ
number_of (element k a) = zero_ℚ
number_of (function es v) = zero_ℚ

-- the width and the number in a bit-vector
abbrev pub bits_of : Value → ℕ × ℕ
bits_of (truth b) = (0, 0)
bits_of (number q) = (0, 0)
bits_of (bits n a) = (n, a)
bits_of (element k a) = (0, 0)
bits_of (function es v) = (0, 0)

-- an odd number of them is true
abbrev pub is_odd : List Bool → Bool
is_odd [] = false
is_odd (true ∷ bs) = not (is_odd bs)
is_odd (false ∷ bs) = is_odd bs

-- no two of the values are one
abbrev pub are_distinct : Sort → List Value → Bool
are_distinct s [] = true
are_distinct s (v ∷ vs) = not (list_any (same_value s v) vs) && are_distinct s vs

-- the sum of all
abbrev pub add_all : List ℚ → ℚ
add_all [] = zero_ℚ
add_all (q ∷ qs) = q +ℚ add_all qs

-- the product of all
abbrev pub multiply_all : List ℚ → ℚ
multiply_all [] = one_ℚ
multiply_all (q ∷ qs) = q *ℚ multiply_all qs

-- the negation of one number, and the first less all others
abbrev pub subtract_all : List ℚ → ℚ
subtract_all [] = zero_ℚ
subtract_all (q ∷ []) = neg_ℚ q
subtract_all (q ∷ r ∷ rs) = q -ℚ add_all (r ∷ rs)

-- the first number divided by the second
abbrev pub divide_all : List ℚ → ℚ
divide_all (q ∷ r ∷ []) = q /ℚ r
divide_all _ = zero_ℚ

-- the first of two numbers is below the second
abbrev pub are_rising : List ℚ → Bool
are_rising (q ∷ r ∷ []) = is_lt (cmp_ℚ q r)
are_rising _ = false

-- the second of two numbers is below the first
abbrev pub are_falling : List ℚ → Bool
are_falling (q ∷ r ∷ []) = is_lt (cmp_ℚ r q)
are_falling _ = false

-- the sum of the products, and the constant
abbrev pub linear_value : List ℚ → ℚ → List ℚ → ℚ
linear_value (a ∷ as_) c (q ∷ qs) = a *ℚ q +ℚ linear_value as_ c qs
linear_value _ c _ = c

-- the function with that value at the key
abbrev pub updated : Value → List Value → Value → Value
updated (function es other) key v = function (entry (values key) v es) other
updated (truth b) key v = truth b
updated (number q) key v = number q
updated (bits n a) key v = bits n a
updated (element k a) key v = element k a

-- the values but the last
abbrev pub front : List Value → List Value
front [] = []
front (v ∷ []) = []
front (v ∷ w ∷ vs) = v ∷ front (w ∷ vs)

-- the last of the values behind one
abbrev pub last : Value → List Value → Value
last v [] = v
last v (w ∷ vs) = last w vs

-- an operator on two bit-vectors of one width
abbrev pub on_two : BvOp → ℕ → ℕ → ℕ → Value
on_two bv.Sub n a b = bits n (subtract n a b)
on_two bv.Div n a b = bits n (divide n a b)
on_two bv.Rem n a b = bits n (remainder a b)
on_two bv.Sdiv n a b = bits n (signed_divide n a b)
on_two bv.Srem n a b = bits n (signed_remainder n a b)
on_two bv.Smod n a b = bits n (signed_modulo n a b)
on_two bv.Shl n a b = bits n (shift_left n a b)
on_two bv.Lshr n a b = bits n (shift_right n a b)
on_two bv.Ashr n a b = bits n (shift_right_signed n a b)
on_two bv.Ge n a b = truth (nat_le b a)
on_two bv.Gt n a b = truth (nat_lt b a)
on_two bv.Le n a b = truth (nat_le a b)
on_two bv.Lt n a b = truth (nat_lt a b)
on_two bv.Sge n a b = truth (signed_at_least n a b)
on_two bv.Sgt n a b = truth (not (signed_at_least n b a))
on_two bv.Sle n a b = truth (signed_at_least n b a)
on_two bv.Slt n a b = truth (not (signed_at_least n a b))
on_two bv.Add n a b = bits n (wrap n (a + b))
on_two bv.Mul n a b = bits n (wrap n (a * b))
on_two bv.Neg n a b = bits n (negate n a)
on_two bv.Not n a b = bits n (complement n a)
on_two bv.And n a b = bits n (bit_and a b)
on_two bv.Or n a b = bits n (bit_or a b)
on_two bv.Xor n a b = bits n (bit_xor a b)
on_two bv.Concat n a b = bits (n + n) (concatenate n a b)

-- the bit-vectors joined, the first one's bits before the others'
abbrev pub join_all : ℕ × ℕ → List (ℕ × ℕ) → ℕ × ℕ
join_all v [] = v
join_all v (w ∷ ws) = join_all (v.0 + w.0, concatenate w.0 v.1 w.1) ws

-- an operator on all numbers behind one
abbrev pub fold_all : (ℕ → ℕ → ℕ) → ℕ → List (ℕ × ℕ) → ℕ
fold_all f a [] = a
fold_all f a (w ∷ ws) = fold_all f (f a w.1) ws

-- a width with its number
abbrev pub bits_pair : ℕ × ℕ → Value
bits_pair v = bits v.0 v.1

-- an operator on a first bit-vector and those behind it
abbrev pub on_some : BvOp → ℕ × ℕ → List (ℕ × ℕ) → Value
on_some bv.Add v vs = bits v.0 (wrap v.0 (fold_all (λ a b. a + b) v.1 vs))
on_some bv.Mul v vs = bits v.0 (wrap v.0 (fold_all (λ a b. a * b) v.1 vs))
on_some bv.And v vs = bits v.0 (fold_all bit_and v.1 vs)
on_some bv.Or v vs = bits v.0 (fold_all bit_or v.1 vs)
on_some bv.Xor v vs = bits v.0 (fold_all bit_xor v.1 vs)
on_some bv.Concat v vs = bits_pair (join_all v vs)
on_some op v [] = on_two op v.0 v.1 0
on_some op v (w ∷ ws) = on_two op v.0 v.1 w.1

-- an operator on bit-vectors
abbrev pub on_bits : BvOp → List (ℕ × ℕ) → Value
on_bits op [] = truth false
on_bits op (v ∷ vs) = on_some op v vs

-- an operator with numbers on a bit-vector
abbrev pub on_bits_at : BvAtOp → ℕ → ℕ → ℕ × ℕ → Value
on_bits_at bv_at.ShiftLeft0 i j v = bits v.0 (shift_left v.0 v.1 i)
on_bits_at bv_at.ShiftRight0 i j v = bits v.0 (shift_right v.0 v.1 i)
on_bits_at bv_at.Extract i j v = bits (i - j + 1) (extract i j v.1)
on_bits_at bv_at.SignExtend i j v = bits (v.0 + i) (sign_extend v.0 i v.1)
on_bits_at bv_at.ZeroExtend i j v = bits (v.0 + i) v.1

-- what an operator makes of the values of its arguments, the first of which has that type
abbrev pub apply : Op → Sort → List Value → Assignment → Value
apply tree.truth s vs a = truth true
apply tree.falsity s vs a = truth false
apply (tree.number q) s vs a = number q
apply (tree.bits n k) s vs a = bits n k
apply (tree.constant k of) s vs a = value_in a.constants k of
apply (tree.variable k of) s vs a = value_in a.variables k of
apply tree.negation s vs a = truth (not (list_all truth_of vs))
apply tree.conjunction s vs a = truth (list_all truth_of vs)
apply tree.disjunction s vs a = truth (list_any truth_of vs)
apply tree.parity s vs a = truth (is_odd (map truth_of vs))
apply tree.implication s (v ∷ w ∷ []) a = truth (not (truth_of v) || truth_of w)
apply tree.equivalence s (v ∷ w ∷ []) a = truth (same_value boolean v w)
apply tree.choice s (c ∷ v ∷ w ∷ []) a = if truth_of c then v else w
apply tree.equality s (v ∷ w ∷ []) a = truth (same_value s v w)
apply tree.disequality s (v ∷ w ∷ []) a = truth (not (same_value s v w))
apply tree.distinctness s vs a = truth (are_distinct s vs)
apply tree.application s (f ∷ vs) a = call f (values vs)
apply tree.update s (f ∷ v ∷ vs) a = updated f (front (v ∷ vs)) (last v vs)
apply tree.sum s vs a = number (add_all (map number_of vs))
apply tree.difference s vs a = number (subtract_all (map number_of vs))
apply tree.product s vs a = number (multiply_all (map number_of vs))
apply tree.quotient s vs a = number (divide_all (map number_of vs))
apply tree.less s vs a = truth (are_rising (map number_of vs))
apply tree.at_most s vs a = truth (not (are_falling (map number_of vs)))
apply tree.greater s vs a = truth (are_falling (map number_of vs))
apply tree.at_least s vs a = truth (not (are_rising (map number_of vs)))
apply (tree.linear qs q) s vs a = number (linear_value qs q (map number_of vs))
apply tree.non_negative s (v ∷ []) a = truth (not (is_lt (cmp_ℚ (number_of v) zero_ℚ)))
apply (tree.bit_vector op) s vs a = on_bits op (map bits_of vs)
apply (tree.bit_vector_at op i j) s (v ∷ []) a = on_bits_at op i j (bits_of v)
apply _ s vs a = truth false

-- a type, or truth values where there is none
abbrev pub or_boolean : Option Sort → Sort
or_boolean None = boolean
or_boolean (Some s) = s

-- the type of the first tree
abbrev pub first_sort : Trees → Sort
first_sort none = boolean
first_sort (more t ts) = or_boolean (sort_of t)

-- the value of a tree under an assignment
unfoldable mutual
  pub meaning : Tree → Assignment → Value
  meaning (node op ts) a = apply op (first_sort ts) (meanings ts a) a

  pub meanings : Trees → Assignment → List Value
  meanings none a = []
  meanings (more t ts) a = meaning t a ∷ meanings ts a

-- the tree is true under the assignment
abbrev pub IsTrueUnder : Assignment → Tree → Type 0
IsTrueUnder a t = truth_of (meaning t a) ≡ true

-- each formula is true under the assignment
abbrev pub Satisfies : Assignment → List Tree → Type 0
Satisfies a [] = Unit {0}
Satisfies a (t ∷ ts) = IsTrueUnder a t × Satisfies a ts

-- no assignment makes all formulas true
abbrev pub IsUnsatisfiable : List Tree → Type 0
IsUnsatisfiable ts = (a : Assignment) → Satisfies a ts → ⊥
