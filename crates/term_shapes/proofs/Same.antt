-- Shapes that compare equal are one.
use Rattle.std.proofs.Common.{rules, ◌≡◌, ◌==◌, ℕ, sym, List, Bool, true, refl, ap, ◌∙◌}
use Rattle.std.specs.Cmp.Lexicographic.{pointwise}
use Rattle.std.specs.Cmp.Rules.{comparing}
use Rattle.std.specs.Bool.{Decides}
use Rattle.std.proofs.lemmas.Slice.Eq.{slice_eq-Decides}
use Rattle.std.proofs.lemmas.Bool.Decides.{Decides-eqb}
use Rattle.std.proofs.lemmas.Bool.{eqb-true, eq-eqb, false≢true}
use Rattle.rationals.specs.Rational.{ℚ, same_ℚ}
use Rattle.rationals.proofs.CompareQ.{same_decides}
use denote.Enum.Bare.{same_true, true_same}
use Rattle.y_tree.specs.declared.BvOp.{BvOp}
use Rattle.y_tree.specs.declared.BvAtOp.{BvAtOp}
use Rattle.y_tree.specs.contracts.BvOp.{the_type as op_type}
use Rattle.y_tree.specs.contracts.BvAtOp.{the_type as at_op_type}
use Rattle.y_tree.specs.contracts.BvOpPartialEq.TheImpl as op
use Rattle.y_tree.specs.contracts.BvAtOpPartialEq.TheImpl as at_op
use Rattle.term_shapes.specs.declared.handles.Term.{Term}
use Rattle.term_shapes.specs.declared.handles.TypeId.{TypeId}
use Rattle.term_shapes.specs.declared.lists.Monomial.{Monomial}
use Rattle.term_shapes.specs.declared.shapes.Shape.{Shape}
use Rattle.term_shapes.specs.declared.shapes.Shape.TheVariants as shape_of
use Rattle.term_shapes.specs.contracts.shapes.ShapePartialEq.TheImpl as shape
use Rattle.term_shapes.specs.contracts.shapes.ShapeEq.TheImpl.Laws.{laws-law}
use Rattle.term_shapes.specs.contracts.shapes.NodePartialEq.TheImpl as node
use Rattle.term_shapes.specs.declared.shapes.Node.{Node}
use Rattle.term_shapes.specs.declared.shapes.TypeShape.{TypeShape}
use Rattle.term_shapes.specs.declared.shapes.TypeShape.TheVariants as type_of
use Rattle.term_shapes.specs.contracts.shapes.TypeShapePartialEq.TheImpl as type_shape
use Rattle.term_shapes.specs.contracts.handles.TermPartialEq.TheImpl as term
use Rattle.term_shapes.specs.contracts.handles.TypeIdPartialEq.TheImpl as type
use Rattle.term_shapes.specs.contracts.lists.MonomialPartialEq.TheImpl as monomial

pub term_decides : (a b : Term) → Decides (term.eq-value.it a b) (a ≡ b)
term_decides a b = search (rules, comparing, Decides-eqb)

pub type_decides : (a b : TypeId) → Decides (type.eq-value.it a b) (a ≡ b)
type_decides a b = search (rules, comparing, Decides-eqb)

pub number_decides : (q r : ℚ) → Decides (same_ℚ q r) (q ≡ r)
number_decides = same_decides

pub monomial_decides : (a b : Monomial) → Decides (monomial.eq-value.it a b) (a ≡ b)
monomial_decides a b = search (rules, comparing, Decides-eqb, number_decides, term_decides)

pub same_args : (xs ys : List Term) (r : Bool) → r ≡ pointwise term.eq-value.it xs ys → Decides r (xs ≡ ys)
same_args = slice_eq-Decides term_decides

pub same_types : (xs ys : List TypeId) (r : Bool) → r ≡ pointwise type.eq-value.it xs ys → Decides r (xs ≡ ys)
same_types = slice_eq-Decides type_decides

pub same_monomials : (xs ys : List Monomial) (r : Bool) → r ≡ pointwise monomial.eq-value.it xs ys → Decides r (xs ≡ ys)
same_monomials = slice_eq-Decides monomial_decides

pub op_decides : (a b : BvOp) → Decides (op.eq-value.it a b) (a ≡ b)
op_decides a b = (same_true op_type tt a b, true_same op_type a b)

pub at_op_decides : (a b : BvAtOp) → Decides (at_op.eq-value.it a b) (a ≡ b)
at_op_decides a b = (same_true at_op_type tt a b, true_same at_op_type a b)

args_decides : (xs ys : List Term) → Decides (pointwise term.eq-value.it xs ys) (xs ≡ ys)
args_decides xs ys = same_args xs ys (pointwise term.eq-value.it xs ys) refl

types_decides : (xs ys : List TypeId) → Decides (pointwise type.eq-value.it xs ys) (xs ≡ ys)
types_decides xs ys = same_types xs ys (pointwise type.eq-value.it xs ys) refl

monomials_decides : (xs ys : List Monomial) → Decides (pointwise monomial.eq-value.it xs ys) (xs ≡ ys)
monomials_decides xs ys = same_monomials xs ys (pointwise monomial.eq-value.it xs ys) refl

number : (m n : ℕ) → Decides (m == n) (m ≡ n)
number m n = (eqb-true m n, eq-eqb m n)

same : {P : Type 0} {b : Bool} → b ≡ true → Decides b P → P
same h d = d.0 h

is_True : (other : Shape) → shape.eq-value.it shape_of.True other ≡ true → shape_of.True ≡ other
is_True shape_of.True h = refl
is_True _ h = absurd (false≢true h)

is_False : (other : Shape) → shape.eq-value.it shape_of.False other ≡ true → shape_of.False ≡ other
is_False shape_of.False h = refl
is_False _ h = absurd (false≢true h)

is_Const : (n : ℕ) (t : TypeId) (other : Shape) → shape.eq-value.it (shape_of.Const n t) other ≡ true → shape_of.Const n t ≡ other
is_Const n t (shape_of.Const n' t') h = same h (search (rules, comparing, number, type_decides))
is_Const n t _ h = absurd (false≢true h)

is_Var : (n : ℕ) (t : TypeId) (other : Shape) → shape.eq-value.it (shape_of.Var n t) other ≡ true → shape_of.Var n t ≡ other
is_Var n t (shape_of.Var n' t') h = same h (search (rules, comparing, number, type_decides))
is_Var n t _ h = absurd (false≢true h)

is_Number : (q : ℚ) (other : Shape) → shape.eq-value.it (shape_of.Number q) other ≡ true → shape_of.Number q ≡ other
is_Number q (shape_of.Number q') h = same h (search (rules, comparing, number_decides))
is_Number q _ h = absurd (false≢true h)

is_Bits : (n : ℕ) (t : ℕ) (other : Shape) → shape.eq-value.it (shape_of.Bits n t) other ≡ true → shape_of.Bits n t ≡ other
is_Bits n t (shape_of.Bits n' t') h = same h (search (rules, comparing, number))
is_Bits n t _ h = absurd (false≢true h)

is_Not : (t : Term) (other : Shape) → shape.eq-value.it (shape_of.Not t) other ≡ true → shape_of.Not t ≡ other
is_Not t (shape_of.Not t') h = same h (search (rules, comparing, term_decides))
is_Not t _ h = absurd (false≢true h)

is_And : (ts : List Term) (other : Shape) → shape.eq-value.it (shape_of.And ts) other ≡ true → shape_of.And ts ≡ other
is_And ts (shape_of.And ts') h = same h (search (rules, comparing, args_decides))
is_And ts _ h = absurd (false≢true h)

is_Or : (ts : List Term) (other : Shape) → shape.eq-value.it (shape_of.Or ts) other ≡ true → shape_of.Or ts ≡ other
is_Or ts (shape_of.Or ts') h = same h (search (rules, comparing, args_decides))
is_Or ts _ h = absurd (false≢true h)

is_Xor : (ts : List Term) (other : Shape) → shape.eq-value.it (shape_of.Xor ts) other ≡ true → shape_of.Xor ts ≡ other
is_Xor ts (shape_of.Xor ts') h = same h (search (rules, comparing, args_decides))
is_Xor ts _ h = absurd (false≢true h)

is_Ite : (a : Term) (b : Term) (c : Term) (other : Shape) → shape.eq-value.it (shape_of.Ite a b c) other ≡ true → shape_of.Ite a b c ≡ other
is_Ite a b c (shape_of.Ite a' b' c') h = same h (search (rules, comparing, term_decides))
is_Ite a b c _ h = absurd (false≢true h)

is_Eq : (a : Term) (b : Term) (other : Shape) → shape.eq-value.it (shape_of.Eq a b) other ≡ true → shape_of.Eq a b ≡ other
is_Eq a b (shape_of.Eq a' b') h = same h (search (rules, comparing, term_decides))
is_Eq a b _ h = absurd (false≢true h)

is_Distinct : (ts : List Term) (other : Shape) → shape.eq-value.it (shape_of.Distinct ts) other ≡ true → shape_of.Distinct ts ≡ other
is_Distinct ts (shape_of.Distinct ts') h = same h (search (rules, comparing, args_decides))
is_Distinct ts _ h = absurd (false≢true h)

is_App : (f : Term) (ts : List Term) (other : Shape) → shape.eq-value.it (shape_of.App f ts) other ≡ true → shape_of.App f ts ≡ other
is_App f ts (shape_of.App f' ts') h = same h (search (rules, comparing, term_decides, args_decides))
is_App f ts _ h = absurd (false≢true h)

is_Update : (f : Term) (ts : List Term) (v : Term) (other : Shape) → shape.eq-value.it (shape_of.Update f ts v) other ≡ true → shape_of.Update f ts v ≡ other
is_Update f ts v (shape_of.Update f' ts' v') h = same h (search (rules, comparing, term_decides, args_decides))
is_Update f ts v _ h = absurd (false≢true h)

is_Sum : (ms : List Monomial) (q : ℚ) (other : Shape) → shape.eq-value.it (shape_of.Sum ms q) other ≡ true → shape_of.Sum ms q ≡ other
is_Sum ms q (shape_of.Sum ms' q') h = same h (search (rules, comparing, monomials_decides, number_decides))
is_Sum ms q _ h = absurd (false≢true h)

is_NonNeg : (t : Term) (other : Shape) → shape.eq-value.it (shape_of.NonNeg t) other ≡ true → shape_of.NonNeg t ≡ other
is_NonNeg t (shape_of.NonNeg t') h = same h (search (rules, comparing, term_decides))
is_NonNeg t _ h = absurd (false≢true h)

is_Bv : (o : BvOp) (ts : List Term) (other : Shape) → shape.eq-value.it (shape_of.Bv o ts) other ≡ true → shape_of.Bv o ts ≡ other
is_Bv o ts (shape_of.Bv o' ts') h = same h (search (rules, comparing, op_decides, args_decides))
is_Bv o ts _ h = absurd (false≢true h)

is_BvAt : (o : BvAtOp) (i : ℕ) (j : ℕ) (t : Term) (other : Shape) → shape.eq-value.it (shape_of.BvAt o i j t) other ≡ true → shape_of.BvAt o i j t ≡ other
is_BvAt o i j t (shape_of.BvAt o' i' j' t') h = same h (search (rules, comparing, at_op_decides, number, term_decides))
is_BvAt o i j t _ h = absurd (false≢true h)

same_shape : (a b : Shape) → shape.eq-value.it a b ≡ true → a ≡ b
same_shape shape_of.True other = is_True other
same_shape shape_of.False other = is_False other
same_shape (shape_of.Const n t) other = is_Const n t other
same_shape (shape_of.Var n t) other = is_Var n t other
same_shape (shape_of.Number q) other = is_Number q other
same_shape (shape_of.Bits n t) other = is_Bits n t other
same_shape (shape_of.Not t) other = is_Not t other
same_shape (shape_of.And ts) other = is_And ts other
same_shape (shape_of.Or ts) other = is_Or ts other
same_shape (shape_of.Xor ts) other = is_Xor ts other
same_shape (shape_of.Ite a b c) other = is_Ite a b c other
same_shape (shape_of.Eq a b) other = is_Eq a b other
same_shape (shape_of.Distinct ts) other = is_Distinct ts other
same_shape (shape_of.App f ts) other = is_App f ts other
same_shape (shape_of.Update f ts v) other = is_Update f ts v other
same_shape (shape_of.Sum ms q) other = is_Sum ms q other
same_shape (shape_of.NonNeg t) other = is_NonNeg t other
same_shape (shape_of.Bv o ts) other = is_Bv o ts other
same_shape (shape_of.BvAt o i j t) other = is_BvAt o i j t other

pub shape_decides : (a b : Shape) → Decides (shape.eq-value.it a b) (a ≡ b)
shape_decides a b = (same_shape a b, (λ e. ap (shape.eq-value.it a) (sym e) ∙ laws-law.refl a))

pub node_decides : (a b : Node) → Decides (node.eq-value.it a b) (a.shape ≡ b.shape)
node_decides a b = shape_decides a.shape b.shape

pub type_shape_decides : (a b : TypeShape) → Decides (type_shape.eq-value.it a b) (a ≡ b)
type_shape_decides type_of.Bool type_of.Bool = ((λ h. refl), (λ h. refl))
type_shape_decides type_of.Real type_of.Real = ((λ h. refl), (λ h. refl))
type_shape_decides (type_of.Bv n) (type_of.Bv m) = search (rules, comparing, number)
type_shape_decides (type_of.Free n) (type_of.Free m) = search (rules, comparing, number)
type_shape_decides (type_of.Fun ts t) (type_of.Fun us u) = search (rules, comparing, types_decides, type_decides)
type_shape_decides _ _ = ((λ h. absurd (cc h)), (λ e. absurd (cc e)))
