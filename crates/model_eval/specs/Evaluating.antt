-- What it means that a term has a value, and what an operator makes of values.
use Rattle.std.specs.Prelude.{◌≡◌, ◌⊎◌, ℕ, true, List, Option, Some, None, IsSome, map, slice_get}
use Rattle.std.specs.List.{list_all}
use Rattle.std.specs.Map.{lookup}
use Rattle.rationals.specs.Rational.{ℚ}
use Rattle.fraction128.specs.declared.errors.Wide.{Wide}
use Rattle.y_tree.specs.Sorts.{Sort, is_sort}
use Rattle.y_tree.specs.Values.{Value, number, has_sort, same_value, zero_of}
use Rattle.y_tree.specs.Order.{is_formed}
use Rattle.y_tree.specs.Plain.{plain_value}
use Rattle.y_tree.specs.Tree.{Tree}
use Rattle.y_tree.specs.Typing.{typed, sort_of}
use Rattle.y_tree.specs.Meaning.{Assignment, meaning, apply}
use Rattle.y_tree.specs.Laws.{first_of}
use Rattle.y_tree.specs.declared.values.Value as code
use Rattle.term_shapes.specs.declared.handles.Term.{Term}
use Rattle.term_shapes.specs.declared.lists.Monomial.{Monomial}
use Rattle.term_shapes.specs.declared.shapes.Shape.{Shape}
use Rattle.term_shapes.specs.declared.shapes.Shape.TheVariants as shape
use Rattle.term_shapes.specs.Shapes.{op_of, args_of, types_of}
use Rattle.term_table.specs.World.{World, HasShape, AllKeep, Keeps}
use Rattle.term_table.specs.Checking.{HasSort, HaveSorts}
use Rattle.term_orders.specs.Orders.{IsIn, IsBelow}
use Rattle.model_eval.specs.declared.errors.EvalError.{EvalError}
use Rattle.model_eval.specs.declared.errors.EvalError.TheVariants as eval_error
use Rattle.model_eval.specs.Known.{same_term, found, Enters, IsKnown, AreKnown, AllKnown}
use Rattle.model_eval.specs.Sums.{numbers, IsWideProduct, IsWideSum}

-- two terms of one sort that have values
pub record ArePair (w : World) (es : List (Term × code.Value)) (t u : Term) : Type 0 where
  pub sort : Sort
  pub limits : is_sort sort ≡ true
  pub has : HasSort w t sort
  pub left : IsKnown es t sort
  pub right : IsKnown es u sort

-- terms of one sort that have values
pub record AreAlike (w : World) (es : List (Term × code.Value)) (ts : List Term) : Type 0 where
  pub sort : Sort
  pub limits : is_sort sort ≡ true
  pub has : (t : Term) → IsIn ts t → HasSort w t sort
  pub known : AllKnown es ts sort

-- the term's kept tree means that value under the assignment, which is one of the tree's sort
pub record IsValueOf (w : World) (s : Assignment) (t : Term) (v : Value) : Type 0 where
  pub tree : Tree
  pub kept : Keeps w t tree
  pub sort : Sort
  pub typed : sort_of tree ≡ Some sort
  pub has : has_sort v sort ≡ true
  pub formed : is_formed v ≡ true
  pub same : same_value sort v (meaning tree s) ≡ true

-- each term of the sum means its number
abbrev pub AreNumbers : World → Assignment → List Monomial → List ℚ → Type 0
AreNumbers w s ms qs = (i : ℕ) (m : Monomial) → slice_get ms i ≡ Some m → (q : ℚ) × (slice_get qs i ≡ Some q) × IsValueOf w s m.of (number q)

-- an operation of the sum is too wide
pub record IsWideIn (w : World) (s : Assignment) (t : Term) (wide : Wide) : Type 0 where
  pub monomials : List Monomial
  pub constant : ℚ
  pub has : HasShape w t (shape.Sum monomials constant)
  pub values : List ℚ
  pub valued : AreNumbers w s monomials values
  pub operation : IsWideProduct monomials values wide ⊎ IsWideSum monomials constant values wide

-- the operator of a shape takes the values of its arguments
pub record IsReady (w : World) (es : List (Term × code.Value)) (s : Shape) : Type 0 where
  pub sorts : List Sort
  pub have : HaveSorts w (args_of s) sorts
  pub known : AreKnown es (args_of s) sorts
  pub limits : list_all is_sort sorts ≡ true
  pub named : Sort
  pub names : AllKeep w (types_of s) named
  pub result : Sort
  pub takes : typed (op_of s named) sorts ≡ Some result

-- the value is one of that sort, and one with the other
pub record IsResult (k : Sort) (x v : Value) : Type 0 where
  pub has : has_sort v k ≡ true
  pub formed : is_formed v ≡ true
  pub same : same_value k v x ≡ true

-- what the operator of a shape makes of the values of its arguments
abbrev pub applied : (w : World) → Assignment → (es : List (Term × code.Value)) (s : Shape) → IsReady w es s → Value
applied w a es s r = apply (op_of s r.named) (first_of r.sorts) (map (found es) (args_of s)) a

-- the value is what the operator of the shape makes of the values of its arguments
abbrev pub IsApplied : World → Assignment → List (Term × code.Value) → Shape → Value → Type 0
IsApplied w a es s v = (r : IsReady w es s) → IsResult r.result (applied w a es s r) v

-- the term has a value that was found before
pub record IsEvaluated (w : World) (a : Assignment) (es : List (Term × code.Value)) (t : Term) : Type 0 where
  pub of : IsValueOf w a t (found es t)
  pub there : IsSome (lookup (same_term t) es)

-- the term got the value that it means, and all others have theirs
pub record EntersValue (w : World) (a : Assignment) (es : List (Term × code.Value)) (t : Term) (fs : List (Term × code.Value)) : Type 0 where
  pub value : code.Value
  pub enters : Enters es t value fs
  pub is : IsValueOf w a t (plain_value value)

-- the value of its own, or the zero of the sort
abbrev pub or_zero : Sort → Option Value → Value
or_zero k None = zero_of k
or_zero k (Some v) = v

-- the shape is none of sums
abbrev pub IsNoSum : Shape → Type 0
IsNoSum (shape.Sum ms c) = ⊥
IsNoSum _ = Unit {0}

-- an operation of the sum that the shape is is too wide
pub record IsWideShape (es : List (Term × code.Value)) (s : Shape) (wide : Wide) : Type 0 where
  pub monomials : List Monomial
  pub constant : ℚ
  pub is : s ≡ shape.Sum monomials constant
  pub operation : IsWideProduct monomials (numbers es monomials) wide ⊎ IsWideSum monomials constant (numbers es monomials) wide

-- why a shape has no value: an operation is too wide, or memory is refused
abbrev pub RefusesShape : List (Term × code.Value) → Shape → EvalError → Type 0
RefusesShape es s (eval_error.Wide wide) = IsWideShape es s wide
RefusesShape es s eval_error.NoMemory = Unit {0}
RefusesShape es s _ = ⊥

-- why a term has no value: an operation of its own is too wide, or memory is refused
abbrev pub RefusesHere : World → Assignment → Term → EvalError → Type 0
RefusesHere w a t (eval_error.Wide wide) = IsWideIn w a t wide
RefusesHere w a t eval_error.NoMemory = Unit {0}
RefusesHere w a t _ = ⊥

-- why a term of the list has no value: an operation of its own is too wide, or memory is refused
abbrev pub RefusesAmong : World → Assignment → List Term → EvalError → Type 0
RefusesAmong w a ts (eval_error.Wide wide) = (t : Term) × IsIn ts t × IsWideIn w a t wide
RefusesAmong w a ts eval_error.NoMemory = Unit {0}
RefusesAmong w a ts _ = ⊥

-- why a term has no value: an operation of it or below it is too wide, or memory is refused
abbrev pub RefusesUnder : World → Assignment → Term → EvalError → Type 0
RefusesUnder w a t (eval_error.Wide wide) = (u : Term) × IsBelow w u t × IsWideIn w a u wide
RefusesUnder w a t eval_error.NoMemory = Unit {0}
RefusesUnder w a t _ = ⊥
