use Rattle.script_session.proofs.Meanings.{all_kinds, more_kinds}
use Rattle.script_session.proofs.asking.first_of_wrong_kind.Goals as goal

pub loop-i-preserved : goal.loop-i-preserved
loop-i-preserved c = more_kinds c.args.word c.args.ms.now c.loop-i.i c.index-ms-i.result c.kind_at.result c.loop-i.invariant c.loop-i-test.true c.index-ms-i.is c.kind_at.ensures c.if-not-is_of_kind.ensures

pub returns-clause-fit : goal.returns-clause-fit
returns-clause-fit c = all_kinds c.args.word c.args.ms.now c.loop-i.i c.loop-i.invariant c.loop-i-test.false
