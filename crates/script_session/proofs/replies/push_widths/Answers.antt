use Rattle.std.proofs.lemmas.Result.{on_ok_weaker}
use Rattle.script_session.proofs.Texts.{widths_text}
use Rattle.script_session.proofs.replies.push_widths.Goals as goal

pub returns-clause-text : goal.returns-clause-text
returns-clause-text c =
    on_ok_weaker c.push_number-2.result
    (widths_text _ _ _ _ _ _ _ _ _ c.in_ok-push_value.ensures.text c.in_ok-push_word.ensures.text c.in_ok-push_number.ensures.text c.in_ok-push_word-2.ensures.text)
    c.push_number-2.ensures.text
