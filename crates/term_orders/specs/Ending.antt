-- No term is among its own arguments, however deep.
use mathlib.Core.WellFounded.{Acc, Acc-prop}
use Rattle.term_shapes.specs.declared.handles.Term.{Term}
use Rattle.term_table.specs.World.{World}
use Rattle.term_orders.specs.Orders.{IsArgument}

-- each chain of arguments ends
abbrev pub Ends : World → Type 0
Ends w = (t : Term) → Acc (IsArgument w) t

-- in one way
pub ends_once : (w : World) → IsProp (Ends w)
ends_once w a b i t = Acc-prop (a t) (b t) i
