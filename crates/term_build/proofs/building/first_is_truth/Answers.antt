use Rattle.std.proofs.Common.{◌≡◌, ◌≤◌, Bool, List, [], ◌∷◌, length, get_or, arith}
use Rattle.y_tree.specs.Sorts.{Sort, boolean, same_sort}
use Rattle.term_shapes.specs.declared.handles.Term.{Term}
use Rattle.term_table.specs.World.{World}
use Rattle.term_table.specs.Checking.{HasSort, HaveSorts}
use Rattle.term_sketches.specs.Valuing.{are_truths}
use Rattle.term_build.proofs.building.first_is_truth.Goals as goal

first_true : (w : World) (ts : List Term) (d : Term) (b : Bool) → 1 ≤ length ts → ((k : Sort) → HasSort w (get_or ts 0 d) k → b ≡ same_sort boolean k) → (ks : List Sort) → HaveSorts w ts ks → b ≡ are_truths ks
first_true w [] d b low f ks h = absurd (omega (arith, low))
first_true w (t ∷ ts) d b low f [] h = absurd h
first_true w (t ∷ ts) d b low f (k ∷ ks) h = f k h.0

pub returns-in-len1-up : goal.returns-in-len1-up
returns-in-len1-up c = first_true c.args.table.now c.args.arguments.now _ c.is_truth.result c.in-len1-up.len_at_least c.is_truth.ensures
