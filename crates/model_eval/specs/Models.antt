-- Models: constants of a table, each with a value, and the assignment that they make.
use Rattle.std.specs.Prelude.{◌≡◌, ℕ, ◌++◌, true, List, [], ◌∷◌, Option, Some, None, map, slice_get}
use Rattle.y_tree.specs.Sorts.{Sort, Sorts, boolean, real, bit_vector, uninterpreted, sorts}
use Rattle.y_tree.specs.Sorts as sort
use Rattle.y_tree.specs.Values.{Value, Values, truth, number, bits, element, function, none, more, empty, entry, has_sort, zero_of}
use Rattle.y_tree.specs.Order.{is_formed}
use Rattle.y_tree.specs.Plain.{plain_value}
use Rattle.y_tree.specs.Meaning.{Assignment}
use Rattle.y_tree.specs.declared.values.Value as code
use Rattle.term_shapes.specs.declared.handles.Term.{Term}
use Rattle.term_shapes.specs.declared.handles.TypeId.{TypeId}
use Rattle.term_shapes.specs.declared.shapes.Shape.{Shape}
use Rattle.term_shapes.specs.declared.shapes.Shape.TheVariants as shape
use Rattle.term_shapes.specs.declared.shapes.TypeShape.{TypeShape}
use Rattle.term_shapes.specs.declared.shapes.TypeShape.TheVariants as type
use Rattle.shape_rules.specs.Rules.{simple_of}
use Rattle.term_table.specs.World.{World, shape_at, type_shape_at, HasShape, KeepsType}

-- a term with its value, as contracts see it
abbrev pub plain_item : Term × code.Value → Term × Value
plain_item e = (e.0, plain_value e.1)

-- terms with their values
abbrev pub plain_items : List (Term × code.Value) → List (Term × Value)
plain_items es = map plain_item es

-- the terms, in order
abbrev pub terms_of : List (Term × Value) → List Term
terms_of m = map (λ (e : Term × Value). e.0) m

-- the keys of each function rise
abbrev pub AreFormed : List (Term × Value) → Type 0
AreFormed m = (i : ℕ) (e : Term × Value) → slice_get m i ≡ Some e → is_formed e.1 ≡ true

-- the term is a live constant, and the value is one of its type
pub record IsEntry (w : World) (e : Term × Value) : Type 0 where
  pub number : ℕ
  pub of : TypeId
  pub has : HasShape w e.0 (shape.Const number of)
  pub sort : Sort
  pub keeps : KeepsType w of sort
  pub value : has_sort e.1 sort ≡ true

-- live constants with values of their types, none of them twice
pub record IsModel (w : World) (m : List (Term × Value)) : Type 0 where
  pub each : (i : ℕ) (e : Term × Value) → slice_get m i ≡ Some e → IsEntry w e
  pub once : (i j : ℕ) (e f : Term × Value) → slice_get m i ≡ Some e → slice_get m j ≡ Some f → e.0 ≡ f.0 → i ≡ j

-- the zeros of types, as a key
unfoldable pub zeros : Sorts → Values
zeros sort.none = none
zeros (sort.more s ss) = more (zero_of s) (zeros ss)

-- a function of arguments of these types, and of no others: without entries it would be one of any, so it gets one at the zeros
abbrev pub marked : Sorts → Value → Value
marked domain (function empty v) = function (entry (zeros domain) v empty) v
marked domain (function (entry k w es) v) = function (entry k w es) v
marked domain (truth b) = truth b
marked domain (number q) = number q
marked domain (bits n a) = bits n a
marked domain (element k a) = element k a

-- the value as one of that type, and of no other
abbrev pub shown : Sort → Value → Value
shown (sort.function domain result) v = marked domain v
shown boolean v = v
shown real v = v
shown (bit_vector n) v = v
shown (uninterpreted k) v = v

-- the sort of a shape that is none of functions
abbrev pub simple_under : Option TypeShape → Sort
simple_under None = boolean
simple_under (Some s) = simple_of s

-- the sort of a part of a function type
abbrev pub part_in : World → TypeId → Sort
part_in w t = simple_under (type_shape_at w t)

-- the sort of a shape
abbrev pub sort_under : World → Option TypeShape → Sort
sort_under w None = boolean
sort_under w (Some type.Bool) = boolean
sort_under w (Some type.Real) = real
sort_under w (Some (type.Bv n)) = bit_vector n
sort_under w (Some (type.Free k)) = uninterpreted k
sort_under w (Some (type.Fun ts r)) = sort.function (sorts (map (part_in w) ts)) (part_in w r)

-- the sort that a live type stands for
unfoldable pub sort_in : World → TypeId → Sort
sort_in w t = sort_under w (type_shape_at w t)

-- the value under the constant's number
abbrev pub number_of : World → Option Shape → Value → List (ℕ × Value)
number_of w (Some (shape.Const n of)) v = (n, shown (sort_in w of) v) ∷ []
number_of w _ v = []

-- the values under their constants' numbers
unfoldable pub numbered : World → List (Term × Value) → List (ℕ × Value)
numbered w [] = []
numbered w (e ∷ es) = number_of w (shape_at w e.0) e.1 ++ numbered w es

-- the assignment of the values to the constants, with no variables
unfoldable pub assignment_of : World → List (Term × Value) → Assignment
assignment_of w m = record { constants = numbered w m; variables = [] }
