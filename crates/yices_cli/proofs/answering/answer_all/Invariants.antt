use Rattle.std.proofs.Common.{◌-◌, ◌≡◌, ◌≤◌, length}
use Rattle.yices_grammar.specs.Texts.{BeginsWith}
use Rattle.yices_text.specs.View.{says}
use Rattle.yices_cli.proofs.Replying.{HasReached}
use Rattle.yices_cli.proofs.answering.answer_all.Given as goal

-- the commands that were read are answered
abbrev pub invariant-commands : goal.invariant-commands
invariant-commands g l = record {
  answered : HasReached l.fn.turns (g.K.Sink.written l.fn.out) (g.K.Sink.written l.out) (says l.reader.answered) l.session;
  begins : BeginsWith l.reader.fed (says l.reader.answered);
  later : g.K.Sink.faults l.fn.out ≤ g.K.Sink.faults l.out;
  fed : l.reader.fed ≡ l.fn.reader.fed;
  finished : l.reader.finished ≡ l.fn.reader.finished;
}

abbrev pub decreases-commands : goal.decreases-commands
decreases-commands g l = length l.reader.fed - length l.reader.answered
