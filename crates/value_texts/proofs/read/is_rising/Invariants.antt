use Rattle.std.proofs.Common.{◌≡◌, ◌-◌, drop}
use Rattle.y_tree.specs.Order.{is_rising}
use Rattle.y_tree.specs.Plain.{plain_entries}
use Rattle.value_texts.proofs.read.is_rising.Given as goal

abbrev pub invariant-loop-i : goal.invariant-loop-i
invariant-loop-i l = is_rising (plain_entries l.entries) ≡ is_rising (plain_entries (drop (l.i - 1) l.entries))
