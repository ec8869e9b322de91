use Rattle.std.proofs.Common.{arith}
use Rattle.term_table.proofs.Misfitting.{told_wrong}
use Rattle.term_table.proofs.table.Table.wrong_type.Goals as goal

pub returns-in-Some-clause-some : goal.returns-in-Some-clause-some
returns-in-Some-clause-some c ks have count =
    told_wrong c.args.self.now c.args.shape.now ks c.loop-place.place c.in-Some.e have (omega (arith, c.loop-place-test.true, c.count_arguments-place-end.ensures)) count (c.in-Some.ensures ks have) (c.loop-place.invariant ks have)
