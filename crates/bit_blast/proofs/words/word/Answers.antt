use Rattle.std.proofs.Common.{◌+◌, ◌*◌, length, arith}
use Rattle.clause_gates.proofs.Growth.{grows_more}
use Rattle.bit_blast.proofs.words.word.Goals as goal

pub returns-clause-grows : goal.returns-clause-grows
returns-clause-grows c = grows_more (48 * ((length c.args.a.now + 1) * (length c.args.a.now + 1))) c.truth.ensures.grows c.word_beside.ensures.grows (omega arith)
