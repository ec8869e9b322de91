-- Calls one after another.
use Rattle.std.specs.Prelude.{◌≡◌, ◌⊎◌, List, [], ◌∷◌}
use Rattle.y_tree.specs.Sorts.{Sort}
use Rattle.y_tree.specs.Tree.{Tree}
use Rattle.term_shapes.specs.declared.handles.Term.{Term}
use Rattle.term_shapes.specs.declared.handles.TypeId.{TypeId}
use Rattle.term_table.specs.World.{World, IsTable, Keeps, KeepsType, IsFreedTerm, IsFreedType, IsAfter}
use Rattle.term_table.specs.Start.{IsNew}
use Rattle.yices_api.specs.declared.calls.Call.{Call}
use Rattle.yices_api.specs.declared.replies.Reply.{Reply}
use Rattle.yices_api.specs.State.{State, IsEnvironment}
use Rattle.yices_api.specs.Steps.{Api}

-- what always holds: the table is one, and what its contexts hold is formulas of it
pub record IsWorld (s : State) : Type 0 where
  pub table : IsTable s.table
  pub environment : IsEnvironment s

-- the new world is reached by the call, which replies so
pub record Reaches (old : State) (c : Call) (r : Reply) (new : State) : Type 0 where
  pub step : Api old c r new
  pub world : IsWorld new

-- the last world is reached by the calls in order, which give these replies
abbrev pub Runs : State → List Call → List Reply → State → Type 0
Runs first [] [] last = last ≡ first
Runs first (c ∷ cs) (r ∷ rs) last = (mid : State) × Reaches first c r mid × Runs mid cs rs last
Runs first [] (r ∷ rs) last = ⊥
Runs first (c ∷ cs) [] last = ⊥

-- a new environment: a new table, and no context was made
pub record IsEmpty (s : State) : Type 0 where
  pub table : IsNew s.table
  pub contexts : s.contexts ≡ []
  pub made : s.made ≡ 0

-- what a handle stood for it stands for, or it was freed, and no freed handle comes back
pub record Lasts (old new : World) : Type 0 where
  pub terms : (t : Term) (a : Tree) → Keeps old t a → Keeps new t a ⊎ IsFreedTerm new t
  pub types : (t : TypeId) (k : Sort) → KeepsType old t k → KeepsType new t k ⊎ IsFreedType new t
  pub after : IsAfter old new
