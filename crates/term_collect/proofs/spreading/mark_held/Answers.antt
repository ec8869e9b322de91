use Rattle.std.proofs.Common.{sym, subst}
use Rattle.term_collect.specs.Marking.{Marks, IsLiveHeld}
use Rattle.term_collect.proofs.Handles.{marks_held}
use Rattle.term_collect.proofs.spreading.mark_held.Goals as goal

pub returns : goal.returns
returns c =
    subst (λ z. Marks c.args.table.now z (IsLiveHeld c.args.table.now)) (sym c.mark_counted.ensures) (marks_held c.args.table.now)
