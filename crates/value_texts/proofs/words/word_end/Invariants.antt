use Rattle.std.proofs.Common.{◌≡◌, true, take}
use Rattle.value_texts.specs.Pieces.{is_free, is_mark}
use Rattle.value_texts.proofs.words.word_end.Given as goal

abbrev pub invariant-loop-i : goal.invariant-loop-i
invariant-loop-i l = is_free is_mark (take l.i l.text) ≡ true
