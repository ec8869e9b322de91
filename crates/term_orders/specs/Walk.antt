-- The steps of a depth-first walk over the arguments of a table's terms.
use Rattle.std.specs.Prelude.{◌≡◌, ℕ, ◌+◌, ◌⊎◌, List, [], ◌∷◌, ◌++◌, Option, Some, None, slice_get}
use Rattle.term_shapes.specs.declared.handles.Term.{Term}
use Rattle.term_shapes.specs.declared.shapes.Shape.{Shape}
use Rattle.term_shapes.specs.Shapes.{args_of}
use Rattle.term_table.specs.World.{World, shape_at}
use Rattle.term_orders.specs.declared.walk.Frame.{Frame}
use Rattle.term_orders.specs.Orders.{IsIn}

-- the arguments of a shape, and none of no shape
abbrev pub args_under : Option Shape → List Term
args_under None = []
args_under (Some s) = args_of s

-- the arguments of a term
abbrev pub args_at : World → Term → List Term
args_at w t = args_under (shape_at w t)

-- all arguments of the frame's term were looked at
abbrev pub IsDone : World → Frame → Type 0
IsDone w f = slice_get (args_at w f.term) f.next ≡ None

-- u is the argument of the frame's term that comes next
abbrev pub IsNext : World → Frame → Term → Type 0
IsNext w f u = slice_get (args_at w f.term) f.next ≡ Some u

-- the frame behind its next argument
abbrev pub behind : Frame → Frame
behind f = record { term = f.term; next = f.next + 1 }

-- the frame of a term of which nothing was looked at
abbrev pub fresh : Term → Frame
fresh t = record { term = t; next = 0 }

-- the term is put last, where it did not stand in the list
abbrev pub Inserts : List Term → Term → List Term → Type 0
Inserts ts t us = (IsIn ts t × (us ≡ ts)) ⊎ ((IsIn ts t → ⊥) × (us ≡ ts ++ t ∷ []))

-- all arguments were looked at: the frame's term is placed
pub record Places (w : World) (f : Frame) (stack new : List Frame) (ts us : List Term) : Type 0 where
  pub done : IsDone w f
  pub stack_stays : new ≡ stack
  pub order : Inserts ts f.term us

-- the next argument has its place
pub record Skips (w : World) (f : Frame) (stack new : List Frame) (ts us : List Term) : Type 0 where
  pub of : Term
  pub next : IsNext w f of
  pub there : IsIn ts of
  pub stack_behind : new ≡ stack ++ behind f ∷ []
  pub order_stays : us ≡ ts

-- the next argument has none, and gets a frame of its own
pub record Enters (w : World) (f : Frame) (stack new : List Frame) (ts us : List Term) : Type 0 where
  pub of : Term
  pub next : IsNext w f of
  pub stack_above : new ≡ (stack ++ behind f ∷ []) ++ fresh of ∷ []
  pub order_stays : us ≡ ts

-- one step of the walk at the top frame, which was taken off the stack
abbrev pub Advances : World → Frame → List Frame → List Frame → List Term → List Term → Type 0
Advances w f stack new ts us = Places w f stack new ts us ⊎ (Skips w f stack new ts us ⊎ Enters w f stack new ts us)
