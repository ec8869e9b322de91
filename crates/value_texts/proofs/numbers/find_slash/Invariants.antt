use Rattle.std.proofs.Common.{◌≡◌, true, take}
use Rattle.value_texts.specs.Pieces.{is_free, is_slash}
use Rattle.value_texts.proofs.numbers.find_slash.Given as goal

abbrev pub invariant-loop-i : goal.invariant-loop-i
invariant-loop-i l = is_free is_slash (take l.i l.text) ≡ true
