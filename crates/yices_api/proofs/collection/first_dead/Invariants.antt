use Rattle.std.proofs.Common.{◌≡◌, ℕ, ◌<◌, Some}
use Rattle.std.specs.Prelude.{slice_get}
use Rattle.term_table.specs.declared.table.Marked.{Marked}
use Rattle.term_collect.specs.Reach.{IsLive}
use Rattle.yices_api.proofs.collection.first_dead.Given as goal

-- the handles before are live
abbrev pub invariant-loop-i : goal.invariant-loop-i
invariant-loop-i l = (k : ℕ) (m : Marked) → k < l.i → slice_get l.roots k ≡ Some m → IsLive l.table m
