use Rattle.std.proofs.Common.{map, take, Some, ◌+◌, ◌≡◌, subst}
use Rattle.call_script.specs.Results.{all_written}
use Rattle.script_session.specs.Asking.{meaning}
use Rattle.script_session.proofs.Meanings.{more_meanings, without_result}
use Rattle.script_session.proofs.asking.meanings.Goals as goal

pub returns-in-None-clause-refused : goal.returns-in-None-clause-refused
returns-in-None-clause-refused c = without_result c.args.given.now c.args.arguments.now c.loop-i.i c.loop-i.ms.items c.index-arguments-i.result c.in_ok-m.field-0 c.loop-i.invariant c.loop-i-test.true c.index-arguments-i.is c.in_ok-m.ensures c.in-None.is

pub loop-i-preserved : goal.loop-i-preserved
loop-i-preserved c =
    rw c.in_ok-push-in-Some.ensures.items
    (more_meanings c.args.given.now c.args.arguments.now c.loop-i.i c.loop-i.ms.items c.index-arguments-i.result c.in_ok-m.field-0 c.in-Some.m c.loop-i.invariant c.loop-i-test.true c.index-arguments-i.is c.in_ok-m.ensures c.in-Some.is)
