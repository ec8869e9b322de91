use Rattle.expression_terms.proofs.Naming.{unbind_step}
use Rattle.expression_terms.proofs.names.unbind_first.Goals as goal

pub loop-i-preserved : goal.loop-i-preserved
loop-i-preserved c before ps was named =
    unbind_step c.args.binds.now ps c.args.count c.requires named before c.loop-i.names c.unbind.new.self c.loop-i.i c.index-binds-count.result c.loop-i-test.true c.index-binds-count.is (c.loop-i.invariant before ps was named) c.unbind.ensures
