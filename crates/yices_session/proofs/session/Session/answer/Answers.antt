use Rattle.std.proofs.Common.{sym, ap, ◌∙◌}
use Rattle.stamped_slots.specs.Slots.{live}
use Rattle.term_table.specs.World.{World}
use Rattle.yices_commands.specs.Plain.{plain_command}
use Rattle.yices_session.specs.Held.{Held}
use Rattle.yices_session.proofs.Answering.{Readies, ready_collected, ready_left, answers_ok, answers_err}
use Rattle.yices_session.proofs.session.Session.answer.Goals.{then-count_terms-ge-MANY_TERMS+in_ok-collect, else-count_terms-ge-MANY_TERMS}
use Rattle.yices_session.proofs.session.Session.answer.Goals as goal

-- the session is ready for the command
readies : (c : goal.After-answer_ready) → Readies c.args.self.now c.if-count_terms-ge-MANY_TERMS.self
readies c =
    let count = c.count_terms.ensures ∙ ap (λ (w : World). live w.terms) (c.table.ensures ∙ ap (λ (h : Held). h.env.table) c.self.view_is) in
    elim c.if-count_terms-ge-MANY_TERMS.branch [
      | then-count_terms-ge-MANY_TERMS+in_ok-collect w ↦ ready_collected c.args.self.now w.collect.new.self _ c.count_terms.result count w.if-count_terms-ge-MANY_TERMS.true w.in_ok-collect.ensures.ok w.self-is
      | else-count_terms-ge-MANY_TERMS w ↦ ready_left c.args.self.now _ c.count_terms.result count w.if-count_terms-ge-MANY_TERMS.false w.self-is
    ]

pub returns-clause-step : goal.returns-clause-step
returns-clause-step c =
    answers_ok (plain_command c.args.command.now) c.args.self.now c.if-count_terms-ge-MANY_TERMS.self c.answer_ready.new.self c.answer_ready.result (sym c.is_built.ensures ∙ c.if-not-is_built.false) (readies c) c.answer_ready.ensures.does

pub returns-clause-stopped : goal.returns-clause-stopped
returns-clause-stopped c =
    answers_err (plain_command c.args.command.now) c.args.self.now c.if-count_terms-ge-MANY_TERMS.self c.answer_ready.new.self c.answer_ready.result (sym c.is_built.ensures ∙ c.if-not-is_built.false) (readies c) c.answer_ready.ensures.stopped
