use Rattle.std.proofs.Common.{◌∙◌, ap}
use Rattle.std.proofs.lemmas.Result.{IfOk-weaker}
use Rattle.call_script.specs.Results.{all_written}
use Rattle.script_session.specs.State.{Script}
use Rattle.script_session.proofs.Doings.{asked_answers}
use Rattle.script_session.proofs.session.ScriptSession.answer_call.Goals as goal

pub returns-in-Ok-clause-answered : goal.returns-in-Ok-clause-answered
returns-in-Ok-clause-answered c =
    IfOk-weaker c.do_call.result _ _
    (λ said t. asked_answers c.args.self.now c.args.call.now.word c.deref.result.now _ c.deref-2.result.now c.in-Ok.asked _ _ (c.deref.ensures.value ∙ ap (λ (s : Script). s.given) c.self.view_is) c.deref-2.ensures.value c.in-Ok.ensures.ok t)
    c.do_call.ensures.done
