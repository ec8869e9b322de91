use Rattle.value_texts.proofs.KeyTexts.{KeysSoFar}
use Rattle.value_texts.proofs.read.read_keys.Given as goal

abbrev pub invariant-loop-i : goal.invariant-loop-i
invariant-loop-i l = KeysSoFar l.domain l.i l.text l.rest l.keys l.wide
