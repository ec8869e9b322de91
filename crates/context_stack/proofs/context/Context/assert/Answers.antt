use Rattle.std.proofs.lemmas.Result.{err_from_is_err_and}
use Rattle.context_stack.proofs.context.Context.assert.Goals as goal

pub returns-in_err-assert-clause-refused : goal.returns-in_err-assert-clause-refused
returns-in_err-assert-clause-refused c =
    let p = err_from_is_err_and c.from_residual.result c.from_residual.ensures.1 in
    rw (p.1, p.2) c.in_err-assert.ensures.refused
