use Rattle.std.proofs.lemmas.Result.{err_from_is_err_and}
use Rattle.script_session.proofs.Texts.{spelled_long}
use Rattle.script_session.proofs.replies.spell.Goals as goal

pub returns-in_err-push_refusal-in-Refused-clause-long :
    goal.returns-in_err-push_refusal-in-Refused-clause-long
returns-in_err-push_refusal-in-Refused-clause-long c =
    let p = err_from_is_err_and c.from_residual-in_err-push_refusal-in-Refused.result c.from_residual-in_err-push_refusal-in-Refused.ensures.1 in
    rw (p.1, p.2) (spelled_long c.args.env.now.table _ c.in-Refused.e c.args.reply.now _ c.table-in-Refused.ensures c.in-Refused.is c.in_err-push_refusal-in-Refused.ensures.long)
