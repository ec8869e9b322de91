-- The operator, the arguments and the types of a shape.
use Rattle.std.specs.Prelude.{List, [], ◌∷◌, ◌++◌, map}
use Rattle.y_tree.specs.Sorts.{Sort}
use Rattle.y_tree.specs.Tree.{Op, truth, falsity, number, bits, constant, variable, negation, conjunction, disjunction, parity, choice, equality, distinctness, application, update, linear, non_negative, bit_vector, bit_vector_at}
use Rattle.term_shapes.specs.declared.handles.Term.{Term}
use Rattle.term_shapes.specs.declared.handles.TypeId.{TypeId}
use Rattle.term_shapes.specs.declared.lists.Monomial.{Monomial}
use Rattle.term_shapes.specs.declared.shapes.Shape.{Shape}
use Rattle.term_shapes.specs.declared.shapes.Shape.TheVariants as shape
use Rattle.term_shapes.specs.declared.shapes.TypeShape.{TypeShape}
use Rattle.term_shapes.specs.declared.shapes.TypeShape.TheVariants as type

-- the operator of a shape, where the type that it names stands for that sort
abbrev pub op_of : Shape → Sort → Op
op_of shape.True k = truth
op_of shape.False k = falsity
op_of (shape.Const n of) k = constant n k
op_of (shape.Var n of) k = variable n k
op_of (shape.Number q) k = number q
op_of (shape.Bits n a) k = bits n a
op_of (shape.Not t) k = negation
op_of (shape.And ts) k = conjunction
op_of (shape.Or ts) k = disjunction
op_of (shape.Xor ts) k = parity
op_of (shape.Ite c t u) k = choice
op_of (shape.Eq t u) k = equality
op_of (shape.Distinct ts) k = distinctness
op_of (shape.App f ts) k = application
op_of (shape.Update f ts v) k = update
op_of (shape.Sum ms q) k = linear (map (λ (m : Monomial). m.factor) ms) q
op_of (shape.NonNeg t) k = non_negative
op_of (shape.Bv op ts) k = bit_vector op
op_of (shape.BvAt op i j t) k = bit_vector_at op i j

-- the arguments of a shape, in order
abbrev pub args_of : Shape → List Term
args_of shape.True = []
args_of shape.False = []
args_of (shape.Const n of) = []
args_of (shape.Var n of) = []
args_of (shape.Number q) = []
args_of (shape.Bits n a) = []
args_of (shape.Not t) = t ∷ []
args_of (shape.And ts) = ts
args_of (shape.Or ts) = ts
args_of (shape.Xor ts) = ts
args_of (shape.Ite c t u) = c ∷ t ∷ u ∷ []
args_of (shape.Eq t u) = t ∷ u ∷ []
args_of (shape.Distinct ts) = ts
args_of (shape.App f ts) = f ∷ ts
args_of (shape.Update f ts v) = f ∷ (ts ++ v ∷ [])
args_of (shape.Sum ms q) = map (λ (m : Monomial). m.of) ms
args_of (shape.NonNeg t) = t ∷ []
args_of (shape.Bv op ts) = ts
args_of (shape.BvAt op i j t) = t ∷ []

-- the types that a shape names
abbrev pub types_of : Shape → List TypeId
types_of shape.True = []
types_of shape.False = []
types_of (shape.Const n of) = of ∷ []
types_of (shape.Var n of) = of ∷ []
types_of (shape.Number q) = []
types_of (shape.Bits n a) = []
types_of (shape.Not t) = []
types_of (shape.And ts) = []
types_of (shape.Or ts) = []
types_of (shape.Xor ts) = []
types_of (shape.Ite c t u) = []
types_of (shape.Eq t u) = []
types_of (shape.Distinct ts) = []
types_of (shape.App f ts) = []
types_of (shape.Update f ts v) = []
types_of (shape.Sum ms q) = []
types_of (shape.NonNeg t) = []
types_of (shape.Bv op ts) = []
types_of (shape.BvAt op i j t) = []

-- the types of which a type is made
abbrev pub parts_of : TypeShape → List TypeId
parts_of type.Bool = []
parts_of type.Real = []
parts_of (type.Bv n) = []
parts_of (type.Free k) = []
parts_of (type.Fun ts t) = ts ++ t ∷ []
