-- What one shape says by itself.
use Rattle.std.specs.Prelude.{◌≡◌, ℕ, nat_le, ◌==◌, ◌&&◌, Bool, true, false, length, Option, Some, None, slice_get}
use Rattle.y_tree.specs.Sorts.{boolean}
use Rattle.y_tree.specs.Sorts as sort
use Rattle.y_tree.specs.Tree.{Op}
use Rattle.y_tree.specs.Typing.{BvForm, one, two, test, some, joined}
use Rattle.y_tree.specs.Misfits.{Misfit, bad_width, bad_range}
use Rattle.term_shapes.specs.declared.handles.TypeId.{TypeId}
use Rattle.term_shapes.specs.declared.shapes.Shape.{Shape}
use Rattle.term_shapes.specs.declared.shapes.Shape.TheVariants as shape
use Rattle.term_shapes.specs.declared.shapes.TypeShape.{TypeShape}
use Rattle.term_shapes.specs.declared.shapes.TypeShape.TheVariants as type
use Rattle.term_shapes.specs.Shapes.{op_of}
use Rattle.shape_rules.specs.declared.errors.Wanted.{Wanted}
use Rattle.shape_rules.specs.declared.errors.Wanted.TheVariants as wanted
use Rattle.shape_rules.specs.declared.errors.ShapeError.{ShapeError}
use Rattle.shape_rules.specs.declared.errors.ShapeError.TheVariants as refusal
use Rattle.shape_rules.specs.declared.forms.Form.{Form}
use Rattle.shape_rules.specs.declared.forms.Form.TheVariants as form

-- neither a constant nor a variable
abbrev pub IsOperator : Shape → Type 0
IsOperator (shape.Const n of) = ⊥
IsOperator (shape.Var n of) = ⊥
IsOperator _ = Unit {0}

-- a constant or a variable
abbrev pub IsAtom : Shape → Type 0
IsAtom (shape.Const n of) = Unit {0}
IsAtom (shape.Var n of) = Unit {0}
IsAtom _ = ⊥

-- the operator of a shape that is neither
abbrev pub operator : Shape → Op
operator s = op_of s boolean

-- the form of an operator on bit-vectors
abbrev pub bv_form : Form → BvForm
bv_form form.One = one
bv_form form.Two = two
bv_form form.Test = test
bv_form form.Some = some
bv_form form.Joined = joined

-- the refusal says what the misfit of a width or of a number says
abbrev pub TellsNumber : Misfit → ShapeError → Type 0
TellsNumber m (refusal.BadWidth n) = m ≡ bad_width n
TellsNumber m refusal.BadRange = m ≡ bad_range
TellsNumber m _ = ⊥

-- the refusal tells the misfit, or neither is there
abbrev pub NumberToldBy : Option Misfit → Option ShapeError → Type 0
NumberToldBy None None = Unit {0}
NumberToldBy (Some m) (Some e) = TellsNumber m e
NumberToldBy None (Some e) = ⊥
NumberToldBy (Some m) None = ⊥

-- a type of that shape is of the kind that is wanted
abbrev pub is_kind : Wanted → TypeShape → Bool
is_kind wanted.Bool type.Bool = true
is_kind wanted.Real type.Real = true
is_kind wanted.AnyBv (type.Bv n) = true
is_kind wanted.AnyFun (type.Fun ts r) = true
is_kind _ _ = false

-- the width of a type of bit-vectors
abbrev pub shape_width : TypeShape → ℕ
shape_width (type.Bv n) = n
shape_width _ = 0

-- the type of what a function gives, and that of truth values for what is none
abbrev pub shape_result : TypeShape → TypeId
shape_result (type.Fun ts r) = r
shape_result _ = record { slot = 0; stamp = 0 }

-- a function takes so many arguments, and what is none takes any
abbrev pub shape_takes : TypeShape → ℕ → Bool
shape_takes (type.Fun ts r) n = length ts == n
shape_takes _ n = true

-- the type, or else the other one
abbrev pub type_or : TypeId → Option TypeId → TypeId
type_or u None = u
type_or u (Some t) = t

-- what a function wants of an argument, or of the value behind these; a function is wanted where it is none
abbrev pub wanted_by : TypeShape → ℕ → Wanted
wanted_by (type.Fun ts r) i = wanted.Same (type_or r (slice_get ts i))
wanted_by _ i = wanted.AnyFun

-- the shape is one of functions
abbrev pub is_function : TypeShape → Bool
is_function (type.Fun ts r) = true
is_function _ = false

-- a function has from 1 to 16 arguments
abbrev pub is_arity : ℕ → Bool
is_arity n = nat_le 1 n && nat_le n 16

-- the sort of a type that is none of functions
abbrev pub simple_of : TypeShape → sort.Sort
simple_of type.Bool = sort.boolean
simple_of type.Real = sort.real
simple_of (type.Bv n) = sort.bit_vector n
simple_of (type.Free k) = sort.uninterpreted k
simple_of (type.Fun ts r) = sort.boolean
