use Rattle.std.proofs.Common.{◌≤◌, length}
use Rattle.yices_cli.proofs.Splitting.{HasAnsweredTo}
use Rattle.yices_cli.proofs.scripts.answer_script.Given as goal

-- the lines in front of the rest are answered
abbrev pub invariant-lines : goal.invariant-lines
invariant-lines g l = record {
  answered : HasAnsweredTo l.text l.rest (g.K.Sink.written l.fn.out) (g.K.Sink.written l.out) l.session;
  later : g.K.Sink.faults l.fn.out ≤ g.K.Sink.faults l.out;
}

abbrev pub decreases-lines : goal.decreases-lines
decreases-lines g l = length l.rest
