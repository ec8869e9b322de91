use Rattle.std.proofs.Common.{false}
use Rattle.clause_trail.proofs.Seeking.{has_at, one_more_false, all_seen_false}
use Rattle.clause_trail.proofs.State.seek.Goals as goal

pub is_false-requires : goal.is_false-requires
is_false-requires c = c.requires _ (has_at c.args.lits.now c.loop-i.i (record { var = 0; positive = false }) c.loop-i-test.true)

pub loop-i-preserved : goal.loop-i-preserved
loop-i-preserved c = one_more_false c.args.lits.now c.args.self.now.values.items c.loop-i.i (record { var = 0; positive = false }) c.loop-i-test.true c.loop-i.invariant c.if-not-is_false.ensures.yes

pub returns-clause-none : goal.returns-clause-none
returns-clause-none c = all_seen_false c.args.lits.now c.args.self.now.values.items c.loop-i.i c.loop-i-test.false c.loop-i.invariant
