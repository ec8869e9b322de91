-- How terms are printed.
use Rattle.std.specs.Prelude.{◌≡◌, ℕ, ◌<◌, Bool, ◌&&◌, ◌==◌, if◌then◌else◌, pos, List, [], ◌∷◌, ◌++◌, length, codes, decimal, Option, None, IsSome}
use Rattle.std.specs.Ordering.{int_eq}
use Rattle.rationals.specs.Rational.{ℚ}
use Rattle.y_tree.specs.declared.BvOp.{BvOp}
use Rattle.y_tree.specs.declared.BvOp.TheVariants as op
use Rattle.y_tree.specs.declared.BvAtOp.{BvAtOp}
use Rattle.y_tree.specs.declared.BvAtOp.TheVariants as at
use Rattle.y_tree.specs.Values.{number, bits}
use Rattle.value_texts.specs.Texts.{value_text}
use Rattle.name_stacks.specs.Names.{oldest_name}
use Rattle.term_shapes.specs.Shapes.{args_of}
use Rattle.term_shapes.specs.declared.handles.Term.{Term}
use Rattle.term_shapes.specs.declared.lists.Monomial.{Monomial}
use Rattle.term_shapes.specs.declared.shapes.Shape.{Shape}
use Rattle.term_shapes.specs.declared.shapes.Shape.TheVariants as shape
use Rattle.term_table.specs.World.{World, node_at, HasShape}
use Rattle.term_texts.specs.declared.errors.PrintError.{PrintError}
use Rattle.term_texts.specs.declared.errors.PrintError.TheVariants as error
use Rattle.term_texts.specs.TypeTexts.{spaced, name_or}

-- the word of an operator on bit-vectors
abbrev pub op_word : BvOp → List ℕ
op_word op.Add = codes "bv-add"
op_word op.Sub = codes "bv-sub"
op_word op.Mul = codes "bv-mul"
op_word op.Neg = codes "bv-neg"
op_word op.Div = codes "bv-div"
op_word op.Rem = codes "bv-rem"
op_word op.Sdiv = codes "bv-sdiv"
op_word op.Srem = codes "bv-srem"
op_word op.Smod = codes "bv-smod"
op_word op.Not = codes "bv-not"
op_word op.And = codes "bv-and"
op_word op.Or = codes "bv-or"
op_word op.Xor = codes "bv-xor"
op_word op.Shl = codes "bv-shl"
op_word op.Lshr = codes "bv-lshr"
op_word op.Ashr = codes "bv-ashr"
op_word op.Concat = codes "bv-concat"
op_word op.Ge = codes "bv-ge"
op_word op.Gt = codes "bv-gt"
op_word op.Le = codes "bv-le"
op_word op.Lt = codes "bv-lt"
op_word op.Sge = codes "bv-sge"
op_word op.Sgt = codes "bv-sgt"
op_word op.Sle = codes "bv-sle"
op_word op.Slt = codes "bv-slt"

-- the word of an operator on one bit-vector with numbers
abbrev pub at_word : BvAtOp → List ℕ
at_word at.ShiftLeft0 = codes "bv-shift-left0"
at_word at.ShiftRight0 = codes "bv-shift-right0"
at_word at.Extract = codes "bv-extract"
at_word at.SignExtend = codes "bv-sign-extend"
at_word at.ZeroExtend = codes "bv-zero-extend"

-- a word and its arguments in round brackets
abbrev pub form : List ℕ → List (List ℕ) → List ℕ
form word xs = codes "(" ++ word ++ spaced xs ++ codes ")"

-- the texts with single spaces between them
abbrev pub joined : List (List ℕ) → List ℕ
joined [] = []
joined (x ∷ xs) = x ++ spaced xs

-- behind the function of an update: the arguments in round brackets, and the value, which is the last text
abbrev pub behind_keys : List ℕ → List (List ℕ) → List ℕ
behind_keys x [] = codes ") " ++ x
behind_keys x (y ∷ ys) = codes " " ++ x ++ behind_keys y ys

abbrev pub keys_and_value : List (List ℕ) → List ℕ
keys_and_value [] = []
keys_and_value (x ∷ []) = codes " () " ++ x
keys_and_value (x ∷ y ∷ ys) = codes " (" ++ x ++ behind_keys y ys

-- the number is 1, and it is 0
abbrev pub is_one : ℚ → Bool
is_one q = int_eq q.num (pos 1) && (q.den == 1)

abbrev pub is_zero : ℚ → Bool
is_zero q = int_eq q.num (pos 0)

-- a part of a sum: the term, with its factor where that isn't 1
abbrev pub part : ℚ → List ℕ → List ℕ
part c x = if is_one c then x else codes "(* " ++ value_text (number c) ++ codes " " ++ x ++ codes ")"

-- the parts of a sum, and behind them its constant where that isn't 0
abbrev pub parts : List Monomial → List (List ℕ) → ℚ → List (List ℕ)
parts (m ∷ ms) (x ∷ xs) q = part m.factor x ∷ parts ms xs q
parts _ _ q = if is_zero q then [] else value_text (number q) ∷ []

-- a sum of these parts, where one alone stands for itself, and no parts for the constant
abbrev pub sum_text : List (List ℕ) → ℚ → List ℕ
sum_text [] q = value_text (number q)
sum_text (x ∷ []) q = x
sum_text (x ∷ y ∷ ys) q = form (codes "+") (x ∷ y ∷ ys)

-- the handles are one
abbrev pub same_term : Term → Term → Bool
same_term t u = (t.slot == u.slot) && (t.stamp == u.stamp)

-- the name of a term: that of its oldest meaning
abbrev pub term_name : World → Term → Option (List ℕ)
term_name w t = oldest_name same_term t w.term_names

-- an operator on one bit-vector with numbers
abbrev pub at_text : BvAtOp → ℕ → ℕ → List (List ℕ) → List ℕ
at_text at.Extract i j xs = codes "(bv-extract " ++ decimal i ++ codes " " ++ decimal j ++ spaced xs ++ codes ")"
at_text op k j xs = codes "(" ++ at_word op ++ spaced xs ++ codes " " ++ decimal k ++ codes ")"

-- the text of a term of that shape, where its arguments have these texts
abbrev pub shape_text : World → Term → Shape → List (List ℕ) → List ℕ
shape_text w t shape.True xs = codes "true"
shape_text w t shape.False xs = codes "false"
shape_text w t (shape.Const n of) xs = name_or (term_name w t) (codes "c!") n
shape_text w t (shape.Var n of) xs = name_or (term_name w t) (codes "v!") n
shape_text w t (shape.Number q) xs = value_text (number q)
shape_text w t (shape.Bits n a) xs = value_text (bits n a)
shape_text w t (shape.Not a) xs = form (codes "not") xs
shape_text w t (shape.And ts) xs = form (codes "and") xs
shape_text w t (shape.Or ts) xs = form (codes "or") xs
shape_text w t (shape.Xor ts) xs = form (codes "xor") xs
shape_text w t (shape.Ite a b c) xs = form (codes "ite") xs
shape_text w t (shape.Eq a b) xs = form (codes "=") xs
shape_text w t (shape.Distinct ts) xs = form (codes "distinct") xs
shape_text w t (shape.App f ts) xs = codes "(" ++ joined xs ++ codes ")"
shape_text w t (shape.Update f ts v) [] = []
shape_text w t (shape.Update f ts v) (x ∷ xs) = codes "(update " ++ x ++ keys_and_value xs ++ codes ")"
shape_text w t (shape.Sum ms q) xs = sum_text (parts ms xs q) q
shape_text w t (shape.NonNeg a) xs = codes "(>=" ++ spaced xs ++ codes " 0)"
shape_text w t (shape.Bv op ts) xs = form (op_word op) xs
shape_text w t (shape.BvAt op i j a) xs = at_text op i j xs

-- the text of a live term, and those of terms in order
mutual
  pub data Writes (w : World) : Term → List ℕ → Type 0 where
    written : (t : Term) (s : Shape) (texts : List (List ℕ)) (text : List ℕ) → HasShape w t s → AllWrite w (args_of s) texts → text ≡ shape_text w t s texts → Writes w t text

  pub data AllWrite (w : World) : List Term → List (List ℕ) → Type 0 where
    none : AllWrite w [] []
    more : (t : Term) (ts : List Term) (x : List ℕ) (xs : List (List ℕ)) → Writes w t x → AllWrite w ts xs → AllWrite w (t ∷ ts) (x ∷ xs)

-- the most bytes of a text
abbrev pub text_limit : ℕ
text_limit = 67108864

-- the term is live, and its text is longer than the limit
abbrev pub IsLong : World → Term → Type 0
IsLong w t = (text : List ℕ) × Writes w t text × (text_limit < length text)

-- why a term's text isn't written
abbrev pub RefusesText : World → Term → PrintError → Type 0
RefusesText w t error.DeadTerm = node_at w t ≡ None
RefusesText w t error.TooLong = IsLong w t
RefusesText w t error.NoMemory = IsSome (node_at w t)
