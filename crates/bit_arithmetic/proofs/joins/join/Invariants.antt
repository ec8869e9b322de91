use Rattle.std.proofs.Common.{◌≡◌, ◌+◌, ◌≤◌, map, drop}
use Rattle.y_tree.specs.Meaning.{join_all}
use Rattle.bit_arithmetic.specs.Plain.{all_widths, pair}
use Rattle.bit_arithmetic.proofs.joins.join.Given as goal

abbrev pub invariant-loop-word : goal.invariant-loop-word
invariant-loop-word l = record {
  narrow : l.whole.width + all_widths (drop l.word-index l.rest) ≤ 128;
  same : join_all (pair l.whole) (map pair (drop l.word-index l.rest)) ≡ join_all (pair l.fn.first) (map pair l.rest);
}
