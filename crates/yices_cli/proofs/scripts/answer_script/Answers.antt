use Rattle.std.proofs.Common.{ap, subst, arith, refl}
use Rattle.std.proofs.lemmas.Result.{err_from_is_err_and}
use Rattle.yices_cli.specs.Parts.{EndsSo}
use Rattle.yices_cli.specs.declared.words.Mode.TheVariants.{Calls}
use Rattle.yices_cli.proofs.Running.{run_begins}
use Rattle.yices_cli.proofs.Splitting.{to_start, to_next}
use Rattle.yices_cli.proofs.Scripted.{exit_at, next_ends, last_ends, all_ends}
use Rattle.yices_cli.proofs.scripts.answer_script.Goals as goal

pub lines-init : goal.lines-init
lines-init g c = record { answered = to_start _ _ _ (run_begins c.handles_last.ensures _ _ c.in_ok-session.ensures.start); later = omega arith }

pub returns-in_err-answer_line-clause-stopped : goal.returns-in_err-answer_line-clause-stopped
returns-in_err-answer_line-clause-stopped g c =
    let p = err_from_is_err_and c.from_residual-in_err-answer_line.result c.from_residual-in_err-answer_line.ensures.1 in
    rw (p.1, p.2)
    (next_ends _ _ _ c.in-Some.count _ _ _ _ _ c.lines.invariant.answered c.in-Some.ensures.line c.in-Some.ensures.ended c.lines.invariant.later c.in_err-answer_line.ensures.failed)

pub lines-preserved : goal.lines-preserved
lines-preserved g c = record {
  answered = to_next _ _ _ c.in-Some.count _ _ _ _ _ c.lines.invariant.answered c.in-Some.ensures.line c.in-Some.ensures.ended refl c.in_ok-answer_line.ensures.answered;
  later = omega (arith, c.lines.invariant.later, c.in_ok-answer_line.ensures.later);
}

pub returns-in_err-answer_line-2-clause-stopped : goal.returns-in_err-answer_line-2-clause-stopped
returns-in_err-answer_line-2-clause-stopped g c =
    let p = err_from_is_err_and c.from_residual-in_err-answer_line-2.result c.from_residual-in_err-answer_line-2.ensures.1 in
    rw (p.1, p.2) (last_ends _ _ _ _ _ _ _ _ _ c.lines.invariant.answered c.in_default.ensures.none c.lines.invariant.later c.last_end.ensures c.in_err-answer_line-2.ensures.failed)

pub returns-in-InputEnd-clause-done : goal.returns-in-InputEnd-clause-done
returns-in-InputEnd-clause-done g c =
    subst (EndsSo Calls _ _ _) (ap exit_at c.in-InputEnd.is) (all_ends _ _ _ _ _ _ _ _ c.lines.invariant.answered c.in_default.ensures.none c.last_end.ensures c.in_ok-answer_line-2.ensures.answered)

pub returns-in-ReadFault-clause-stopped : goal.returns-in-ReadFault-clause-stopped
returns-in-ReadFault-clause-stopped g c =
    subst (EndsSo Calls _ _ _) (ap exit_at c.in-ReadFault.is) (all_ends _ _ _ _ _ _ _ _ c.lines.invariant.answered c.in_default.ensures.none c.last_end.ensures c.in_ok-answer_line-2.ensures.answered)

pub returns-clause-stopped : goal.returns-clause-stopped
returns-clause-stopped g c =
    subst (EndsSo Calls _ _ _) (ap exit_at c.in-Limit.is) (all_ends _ _ _ _ _ _ _ _ c.lines.invariant.answered c.in_default.ensures.none c.last_end.ensures c.in_ok-answer_line-2.ensures.answered)
