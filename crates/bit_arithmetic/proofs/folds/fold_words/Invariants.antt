use Rattle.std.proofs.Common.{◌≡◌, map, drop}
use Rattle.y_tree.specs.Meaning.{fold_all}
use Rattle.bit_arithmetic.specs.Plain.{AreOfWidth, combined, pair}
use Rattle.bit_arithmetic.proofs.folds.fold_words.Given as goal

abbrev pub invariant-loop-word : goal.invariant-loop-word
invariant-loop-word l = record {
  width : l.whole.width ≡ l.fn.first.width;
  others : AreOfWidth l.fn.first.width (drop l.word-index l.rest);
  bits : fold_all (combined l.by l.fn.first.width) l.whole.bits (map pair (drop l.word-index l.rest)) ≡ fold_all (combined l.by l.fn.first.width) l.fn.first.bits (map pair l.rest);
}
