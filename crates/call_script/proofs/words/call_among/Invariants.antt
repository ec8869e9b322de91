use Rattle.std.proofs.Common.{◌≡◌, drop}
use Rattle.call_script.specs.Judging.{named_among}
use Rattle.call_script.proofs.words.call_among.Given as goal

abbrev pub invariant-loop-call : goal.invariant-loop-call
invariant-loop-call l = named_among (drop l.call-index l.calls) l.word ≡ named_among l.calls l.word
