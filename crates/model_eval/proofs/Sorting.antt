-- The sorts that terms have, as they are read off the table.
use Rattle.std.proofs.Common.{◌≡◌, Some, None, sym}
use Rattle.y_tree.specs.Sorts.{Sort}
use Rattle.term_shapes.specs.declared.handles.Term.{Term}
use Rattle.term_shapes.specs.declared.handles.TypeId.{TypeId}
use Rattle.term_table.specs.World.{World, type_at, type_shape_at, KeepsType}
use Rattle.term_table.specs.Checking.{HasSort}
use Rattle.term_table.proofs.Sorting.{one_kept, has_kept}
use Rattle.term_table.proofs.PlainSorts.{dead_kept}

pub sort_is : (w : World) (t : Term) (of : TypeId) (s : Sort) → Some of ≡ type_at w t → KeepsType w of s → (k : Sort) → HasSort w t k → s ≡ k
sort_is w t of s e keeps k has = one_kept w s k of keeps (has_kept w t of k (sym e) has)

pub no_dead_sort : (w : World) (t : Term) (of : TypeId) → Some of ≡ type_at w t → type_shape_at w of ≡ None → (k : Sort) → HasSort w t k → ⊥
no_dead_sort w t of e dead k has = dead_kept w of k dead (has_kept w t of k (sym e) has)
