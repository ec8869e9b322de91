use Rattle.std.proofs.Common.{◌≡◌, ◌≤◌, None, drop, length}
use Rattle.name_stacks.specs.Names.{newest}
use Rattle.name_stacks.specs.Heads.{shown}
use Rattle.name_stacks.proofs.names.last.Given as goal

abbrev pub invariant-loop-at : goal.invariant-loop-at
invariant-loop-at g l = record {
  within : l.at ≤ length l.pairs;
  none : newest l.name (drop l.at (shown l.pairs)) ≡ None;
}

abbrev pub decreases-loop-at : goal.decreases-loop-at
decreases-loop-at g l = l.at
