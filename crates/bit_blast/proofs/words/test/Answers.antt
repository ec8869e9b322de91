use Rattle.std.proofs.Common.{◌*◌, length, arith}
use Rattle.clause_gates.proofs.Growth.{grows_more}
use Rattle.bit_blast.proofs.words.test.Goals as goal

pub returns-clause-grows : goal.returns-clause-grows
returns-clause-grows c = grows_more (8 * length c.args.a.now) c.truth.ensures.grows c.test_beside.ensures.grows (omega arith)
