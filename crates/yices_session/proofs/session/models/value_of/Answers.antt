use Rattle.std.proofs.Common.{◌∙◌, ap}
use Rattle.value_texts.specs.Texts.{value_text}
use Rattle.yices_session.proofs.TruthValues.{value_means, value_refused}
use Rattle.yices_session.proofs.session.models.value_of.Goals as goal

pub unreachable-requires : goal.unreachable-requires
unreachable-requires c = c.in_default.not-NoMemory (value_refused c.args.table.now c.is_table.ensures c.args.t c.requires.truths c.args.model.now c.in-Err.error c.in-Err.ensures.refused)

pub returns-in_ok-text-in-Ok-clause-text : goal.returns-in_ok-text-in-Ok-clause-text
returns-in_ok-text-in-Ok-clause-text c d stands =
    c.in_ok-text-in-Ok.ensures ∙ ap value_text (value_means c.args.table.now c.is_table.ensures c.args.t c.requires.truths c.args.model.now _ c.in-Ok.ensures.value d stands)
