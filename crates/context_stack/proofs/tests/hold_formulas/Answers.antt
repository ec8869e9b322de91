use Rattle.std.proofs.Common.{arith}
use Rattle.context_stack.proofs.Stacks.{more_levels, levels_hold}
use Rattle.context_stack.proofs.tests.hold_formulas.Goals as goal

pub loop-level-preserved : goal.loop-level-preserved
loop-level-preserved c =
    more_levels c.args.table.now c.args.context.now.levels c.loop-level.level c.roots.result.now c.roots.ensures (c.in_ok-are_formulas.ensures.0 c.if-not-branch.false) c.loop-level.invariant

pub returns : goal.returns
returns c = λ y.
    levels_hold c.args.table.now c.args.context.now.levels c.levels-newest.result c.roots-2.result.now c.levels-newest.ensures c.roots-2.ensures (c.in_ok-all.ensures.0 y) (λ k us h. c.loop-level.invariant k us (omega (arith, h, c.loop-level-test.false)))
