use Rattle.std.proofs.Common.{◌∙◌, sym}
use Rattle.expression_terms.proofs.Naming.{bound_more, when_ok}
use Rattle.expression_terms.proofs.names.bind_all.Goals as goal

pub loop-i-preserved : goal.loop-i-preserved
loop-i-preserved c =
    bound_more c.args.binds.now c.args.terms.now c.args.names.now c.loop-i.names c.bind.new.self c.loop-i.i c.index-binds-i.result _ c.requires c.loop-i-test.true c.index-binds-i.is c.loop-i.invariant
    (when_ok c.bind.result (sym c.is_err.ensures.value ∙ c.if-is_err.false) c.bind.ensures.ok)
