-- Bit-vectors as values of terms.
use Rattle.std.specs.Prelude.{◌≡◌, ℕ, ◌^◌, ◌<◌, true, List, Some, slice_get}
use Rattle.std.specs.List.{list_all}
use Rattle.y_tree.specs.Sorts.{Sort, bit_vector, is_width, is_sort}
use Rattle.y_tree.specs.Values.{Value, has_sort}
use Rattle.y_tree.specs.Tree.{Op}
use Rattle.y_tree.specs.Typing.{typed}
use Rattle.y_tree.specs.declared.values.Value as code
use Rattle.term_shapes.specs.declared.handles.Term.{Term}
use Rattle.model_eval.specs.Known.{found, AreKnown}

-- there are bit-vectors of that width, and the number is one of theirs
pub record IsWordOf (width number : ℕ) : Type 0 where
  pub limits : is_width width ≡ true
  pub below : number < 2 ^ width

-- the value is a bit-vector of a width that there is
pub record IsWord (v : Value) : Type 0 where
  pub width : ℕ
  pub limits : is_width width ≡ true
  pub has : has_sort v (bit_vector width) ≡ true

-- the values of the terms are bit-vectors
abbrev pub AreWords : List (Term × code.Value) → List Term → Type 0
AreWords es ts = (i : ℕ) (t : Term) → slice_get ts i ≡ Some t → IsWord (found es t)

-- the operator takes the values of the terms
pub record TakesWords (es : List (Term × code.Value)) (op : Op) (ts : List Term) : Type 0 where
  pub sorts : List Sort
  pub known : AreKnown es ts sorts
  pub limits : list_all is_sort sorts ≡ true
  pub result : Sort
  pub takes : typed op sorts ≡ Some result
