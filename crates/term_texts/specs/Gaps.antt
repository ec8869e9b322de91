-- The text of a term cut at its arguments: what stands before each of them, and behind the last.
use Rattle.std.specs.Prelude.{◌≡◌, ℕ, zero, suc, ◌+◌, ◌-◌, ◌==◌, nat_lt, Bool, true, false, if◌then◌else◌, List, [], ◌∷◌, ◌++◌, length, drop, codes, decimal, Option, Some, None, slice_get}
use Rattle.rationals.specs.Rational.{ℚ}
use Rattle.y_tree.specs.declared.BvAtOp.{BvAtOp}
use Rattle.y_tree.specs.declared.BvAtOp.TheVariants as at
use Rattle.y_tree.specs.Values.{number, bits}
use Rattle.value_texts.specs.Texts.{value_text}
use Rattle.term_shapes.specs.Shapes.{args_of}
use Rattle.term_shapes.specs.declared.handles.Term.{Term}
use Rattle.term_shapes.specs.declared.lists.Monomial.{Monomial}
use Rattle.term_shapes.specs.declared.shapes.Shape.{Shape}
use Rattle.term_shapes.specs.declared.shapes.Shape.TheVariants as shape
use Rattle.term_table.specs.World.{World, HasShape, shape_at}
use Rattle.term_texts.specs.declared.terms.Frame.{Frame}
use Rattle.term_texts.specs.TypeTexts.{name_or}
use Rattle.term_texts.specs.TermTexts.{op_word, at_word, is_one, is_zero, term_name, AllWrite}

-- before argument i of n arguments of a word, and at n behind the last
abbrev pub form_gap : List ℕ → ℕ → ℕ → List ℕ
form_gap word n i = (if i == 0 then codes "(" ++ word else []) ++ (if i == n then codes ")" else codes " ")

-- of an application with n arguments, the function among them
abbrev pub application_gap : ℕ → ℕ → List ℕ
application_gap n i = if i == 0 then codes "(" else (if i == n then codes ")" else codes " ")

-- of an update with n arguments behind the function, the value among them
abbrev pub update_gap : ℕ → ℕ → List ℕ
update_gap n i = if i == 0 then codes "(update " else (if nat_lt n i then codes ")" else (if i == n then (if i == 1 then codes " () " else codes ") ") else (if i == 1 then codes " (" else codes " ")))

-- of a comparison with 0
abbrev pub bound_gap : ℕ → List ℕ
bound_gap i = if i == 0 then codes "(>= " else codes " 0)"

-- before a term with that factor, and behind it
abbrev pub opened : Option Monomial → List ℕ
opened None = []
opened (Some m) = if is_one m.factor then [] else codes "(* " ++ value_text (number m.factor) ++ codes " "

abbrev pub closed : Option Monomial → List ℕ
closed None = []
closed (Some m) = if is_one m.factor then [] else codes ")"

-- the monomial before place i
abbrev pub earlier : List Monomial → ℕ → Option Monomial
earlier ms i = if i == 0 then None else slice_get ms (i - 1)

-- more than one part is to be summed
abbrev pub is_wrapped : ℕ → ℚ → Bool
is_wrapped n q = if is_zero q then nat_lt 1 n else nat_lt 0 n

-- before the first part of a sum
abbrev pub sum_start : Bool → List ℕ
sum_start true = codes "(+ "
sum_start false = []

-- behind the last part of a sum
abbrev pub sum_end : ℕ → ℚ → List ℕ
sum_end n q = (if is_zero q then [] else codes " " ++ value_text (number q)) ++ (if is_wrapped n q then codes ")" else [])

-- between the parts of a sum
abbrev pub between : ℕ → ℚ → ℕ → List ℕ
between n q i = if n == 0 then value_text (number q) else (if i == 0 then sum_start (is_wrapped n q) else (if i == n then sum_end n q else codes " "))

abbrev pub sum_gap : List Monomial → ℚ → ℕ → List ℕ
sum_gap ms q i = closed (earlier ms i) ++ between (length ms) q i ++ opened (slice_get ms i)

-- of an operator on one bit-vector with numbers
abbrev pub at_gap : BvAtOp → ℕ → ℕ → ℕ → List ℕ
at_gap at.Extract i j place = if place == 0 then codes "(bv-extract " ++ decimal i ++ codes " " ++ decimal j ++ codes " " else codes ")"
at_gap op k j place = if place == 0 then codes "(" ++ at_word op ++ codes " " else codes " " ++ decimal k ++ codes ")"

-- of a term of that shape
abbrev pub gap : World → Term → Shape → ℕ → List ℕ
gap w t shape.True i = codes "true"
gap w t shape.False i = codes "false"
gap w t (shape.Const n of) i = name_or (term_name w t) (codes "c!") n
gap w t (shape.Var n of) i = name_or (term_name w t) (codes "v!") n
gap w t (shape.Number q) i = value_text (number q)
gap w t (shape.Bits n a) i = value_text (bits n a)
gap w t (shape.Not a) i = form_gap (codes "not") 1 i
gap w t (shape.And ts) i = form_gap (codes "and") (length ts) i
gap w t (shape.Or ts) i = form_gap (codes "or") (length ts) i
gap w t (shape.Xor ts) i = form_gap (codes "xor") (length ts) i
gap w t (shape.Ite a b c) i = form_gap (codes "ite") 3 i
gap w t (shape.Eq a b) i = form_gap (codes "=") 2 i
gap w t (shape.Distinct ts) i = form_gap (codes "distinct") (length ts) i
gap w t (shape.App f ts) i = application_gap (length ts + 1) i
gap w t (shape.Update f ts v) i = update_gap (length ts + 1) i
gap w t (shape.Sum ms q) i = sum_gap ms q i
gap w t (shape.NonNeg a) i = bound_gap i
gap w t (shape.Bv op ts) i = form_gap (op_word op) (length ts) i
gap w t (shape.BvAt op j k a) i = at_gap op j k i

-- of a live term; nothing of a dead one
abbrev pub gap_under : World → Term → Option Shape → ℕ → List ℕ
gap_under w t None i = []
gap_under w t (Some s) i = gap w t s i

abbrev pub gap_at : World → Term → ℕ → List ℕ
gap_at w t i = gap_under w t (shape_at w t) i

-- what is begun behind a gap: the argument, and behind it the rest of its term
abbrev pub begun : Term → ℕ → Option Term → List Frame
begun t i None = []
begun t i (Some u) = record { of = t; place = i + 1 } ∷ record { of = u; place = 0 } ∷ []

-- the texts with the gaps before them, from place i on, and the gap behind the last
abbrev pub woven : (ℕ → List ℕ) → ℕ → List (List ℕ) → List ℕ
woven g i [] = g i
woven g i (x ∷ xs) = g i ++ x ++ woven g (i + 1) xs

-- what is left to write of a term from an argument on
abbrev pub FrameWrites : World → Frame → List ℕ → Type 0
FrameWrites w f text = (s : Shape) × (texts : List (List ℕ)) × HasShape w f.of s × AllWrite w (drop f.place (args_of s)) texts × (text ≡ woven (gap w f.of s) f.place texts)

-- what is left to write of all that is begun, the innermost, which stands last, first
abbrev pub StackWrites : World → List Frame → List ℕ → Type 0
StackWrites w [] text = text ≡ []
StackWrites w (f ∷ fs) text = (front : List ℕ) × (back : List ℕ) × StackWrites w fs front × FrameWrites w f back × (text ≡ front ++ back)

-- the arguments of a live term
abbrev pub args_under : Option Shape → List Term
args_under None = []
args_under (Some s) = args_of s

abbrev pub args_at : World → Term → List Term
args_at w t = args_under (shape_at w t)

-- one turn for each argument, and those of the argument itself
abbrev pub turns_of_all : (Term → ℕ) → List Term → ℕ
turns_of_all f [] = 0
turns_of_all f (t ∷ ts) = suc (f t) + turns_of_all f ts

-- how many turns it takes to write a term, where its depth is at most n
unfoldable pub turns : World → ℕ → Term → ℕ
turns w zero t = 0
turns w (suc n) t = suc (turns_of_all (turns w n) (args_at w t))

-- and what is left of it
abbrev pub frame_turns : World → Frame → ℕ
frame_turns w f = suc (turns_of_all (turns w (length w.terms)) (drop f.place (args_at w f.of)))

abbrev pub stack_turns : World → List Frame → ℕ
stack_turns w [] = 0
stack_turns w (f ∷ fs) = frame_turns w f + stack_turns w fs
