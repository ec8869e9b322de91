use Rattle.std.proofs.Common.{refl, sym, ap, subst, ◌∙◌, arith, length}
use Rattle.std.proofs.lemmas.Result.{err_from_is_err_and}
use Rattle.yices_grammar.specs.Texts.{BeginsWith}
use Rattle.yices_text.specs.View.{says}
use Rattle.yices_cli.specs.Parts.{is_finished}
use Rattle.yices_cli.proofs.Texts.{begins_none, length_says}
use Rattle.yices_cli.proofs.Replying.{reached_none, answered_next, begins_next, fewer_left, failed_ends, leaving_ends, whole_ends, fault_ends, full_ends, ends_at}
use Rattle.yices_cli.proofs.answering.answer_all.Goals as goal

pub commands-init : goal.commands-init
commands-init g c = record {
  answered = reached_none _ _ _ _ (ap says c.requires.fresh) c.in_ok-session.ensures.turns c.in_ok-session.ensures.start;
  begins = begins_none _ _ (ap says c.requires.fresh);
  later = omega arith;
  fed = refl;
  finished = refl;
}

pub returns-in_err-take_turn-clause-stopped : goal.returns-in_err-take_turn-clause-stopped
returns-in_err-take_turn-clause-stopped g c =
    let p = err_from_is_err_and c.from_residual-in_err-take_turn.result c.from_residual-in_err-take_turn.ensures.1 in
    rw (p.1, p.2)
    (ends_at _ _ _ _ _ _ c.commands.invariant.fed
    (failed_ends _ _ _ _ _ _ _ _ _ _ (c.commands.invariant.finished ∙ c.requires.finished) c.commands.invariant.answered c.commands.invariant.begins c.commands.invariant.later c.in_err-take_turn.ensures.failed))

pub commands-smaller : goal.commands-smaller
commands-smaller g c =
    let left = fewer_left _ _ _ _ _ _ _ (c.in_ok-take_turn.ensures.on c.in-On.is) in
    let same = ap length c.in_ok-take_turn.ensures.fed in
    omega (arith, left, same, length_says c.commands.reader.answered, length_says c.take_turn.new.reader.answered)

pub commands-preserved : goal.commands-preserved
commands-preserved g c =
    let next = c.in_ok-take_turn.ensures.on c.in-On.is in record {
      answered = answered_next _ _ _ _ _ _ _ _ _ c.commands.invariant.answered next;
      begins = subst (λ t. BeginsWith t (says c.take_turn.new.reader.answered)) (sym c.in_ok-take_turn.ensures.fed) (begins_next _ _ _ _ _ _ _ next);
      later = omega (arith, c.commands.invariant.later, c.in_ok-take_turn.ensures.later);
      fed = c.in_ok-take_turn.ensures.fed ∙ c.commands.invariant.fed;
      finished = c.in_ok-take_turn.ensures.finished ∙ c.commands.invariant.finished;
    }

pub returns-in-Left-clause-done : goal.returns-in-Left-clause-done
returns-in-Left-clause-done g c =
    ends_at _ _ _ _ _ _ c.commands.invariant.fed
    (leaving_ends _ _ _ _ _ _ _ _ (c.commands.invariant.finished ∙ c.requires.finished) c.commands.invariant.answered (c.in_ok-take_turn.ensures.left c.in-Left.is))

pub returns-in-InputEnd-clause-done : goal.returns-in-InputEnd-clause-done
returns-in-InputEnd-clause-done g c =
    rw c.in-InputEnd.is
    (ends_at _ _ _ _ _ _ c.commands.invariant.fed
    (whole_ends _ _ _ _ _ _ _ (c.commands.invariant.finished ∙ c.requires.finished ∙ ap is_finished c.in-InputEnd.is)
    c.commands.invariant.answered (c.in_ok-take_turn.ensures.end c.in-End.is)))

pub returns-in-ReadFault-clause-stopped : goal.returns-in-ReadFault-clause-stopped
returns-in-ReadFault-clause-stopped g c =
    rw c.in-ReadFault.is
    (ends_at _ _ _ _ _ _ c.commands.invariant.fed
    (fault_ends _ _ _ _ _ _ _ (c.commands.invariant.finished ∙ c.requires.finished ∙ ap is_finished c.in-ReadFault.is)
    c.commands.invariant.answered c.commands.invariant.begins (c.in_ok-take_turn.ensures.end c.in-End.is)))

pub returns-clause-stopped : goal.returns-clause-stopped
returns-clause-stopped g c =
    rw c.in-Limit.is
    (ends_at _ _ _ _ _ _ c.commands.invariant.fed
    (full_ends _ _ _ _ _ _ _ (c.commands.invariant.finished ∙ c.requires.finished ∙ ap is_finished c.in-Limit.is)
    c.commands.invariant.answered c.commands.invariant.begins (c.in_ok-take_turn.ensures.end c.in-End.is)))
