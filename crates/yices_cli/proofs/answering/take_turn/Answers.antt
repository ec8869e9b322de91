use Rattle.std.proofs.Common.{refl}
use Rattle.yices_cli.proofs.answering.take_turn.Goals as goal

pub returns-in_default-clause-end : goal.returns-in_default-clause-end
returns-in_default-clause-end g c = λ _. record {
  whole = c.in_ok-command.ensures.whole c.in_default.is;
  waiting = c.in_ok-command.ensures.waiting c.in_default.is;
  right = c.in_ok-command.ensures.right;
  same = refl;
}
