use Rattle.std.proofs.Common.{◌+◌, length}
use Rattle.std.proofs.lemmas.Result.{err_from_is_err_and}
use Rattle.term_build.specs.Building.{no_more}
use Rattle.term_build.proofs.building.build.Goals as goal

pub returns-in_err-check_call-clause-grown : goal.returns-in_err-check_call-clause-grown
returns-in_err-check_call-clause-grown c = no_more (4 + length c.args.arguments.now) c.args.table.now

pub returns-in_err-check_call-clause-refused : goal.returns-in_err-check_call-clause-refused
returns-in_err-check_call-clause-refused c =
    let p = err_from_is_err_and c.from_residual.result c.from_residual.ensures.1 in rw (p.1, p.2) (c.in_err-check_call.ensures.err c.args.table.now)
