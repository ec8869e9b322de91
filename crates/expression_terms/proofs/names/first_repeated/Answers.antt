use Rattle.std.proofs.Common.{◌∙◌, ap, sym}
use Rattle.std.specs.Prelude.{is_some}
use Rattle.expression_terms.proofs.Naming.{repeats_here, repeats_later}
use Rattle.expression_terms.proofs.names.first_repeated.Goals as goal

pub returns-then-is_some-clause-some : goal.returns-then-is_some-clause-some
returns-then-is_some-clause-some c =
    repeats_here c.args.binds.now c.loop-i.seen c.loop-i.i c.index-binds-i.result c.as_str.result.now c.loop-i-test.true c.index-binds-i.is c.as_str.ensures.bytes c.loop-i.invariant
    (sym (ap is_some c.newest.ensures) ∙ sym c.is_some.ensures ∙ c.if-is_some.true)

pub loop-i-preserved : goal.loop-i-preserved
loop-i-preserved c =
    repeats_later c.args.binds.now c.loop-i.seen c.loop-i.i c.index-binds-i.result c.as_str.result.now c.loop-i-test.true c.index-binds-i.is c.as_str.ensures.bytes c.loop-i.invariant
    (sym (ap is_some c.newest.ensures) ∙ sym c.is_some.ensures ∙ c.if-is_some.false) _ _ c.as_str-in-loop-i.ensures.bytes _ c.in_ok-push.ensures.ok
