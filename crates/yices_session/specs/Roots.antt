-- The handles that a collection keeps, as the code lists them.
use Rattle.std.specs.Prelude.{◌≡◌, true, List, [], Option, Some, None, map}
use Rattle.y_tree.specs.Values.{Value}
use Rattle.term_shapes.specs.declared.handles.Term.{Term}
use Rattle.term_table.specs.declared.table.Marked.{Marked}
use Rattle.term_table.specs.declared.table.Marked.TheVariants as marked
use Rattle.term_table.specs.Checking.{AreLive}
use Rattle.term_collect.specs.Reach.{IsKept, IsReached, Leaves}
use Rattle.model_eval.specs.Models.{terms_of}
use Rattle.yices_api.specs.State.{State as Environment}
use Rattle.yices_session.specs.declared.session.Core.{Core}

-- the constants of a model of the code, where there is one
abbrev pub model_roots : Option (List (Term × Value)) → List Term
model_roots None = []
model_roots (Some m) = terms_of m

-- the terms of a core of the code, where there is one
abbrev pub core_roots : Option Core → List Term
core_roots None = []
core_roots (Some c) = c.terms

-- where the handles are those of live terms and no context is open: what neither they nor what names mean reaches is freed
pub record FreesBeside (roots : List Marked) (old new : Environment) : Type 0 where
  pub frees : (ts : List Term) → roots ≡ map marked.Term ts → AreLive old.table ts → old.contexts ≡ [] → Leaves old.table new.table (IsReached old.table (IsKept old.table ts [] true))
