use Rattle.std.proofs.Common.{arith}
use Rattle.y_tree.specs.Plain.{plain_sort}
use Rattle.model_eval.specs.Known.{found}
use Rattle.model_eval.proofs.Lists.{same_skip, same_stop, same_ended, in_here}
use Rattle.model_eval.proofs.truths.has_same.Goals as goal

pub are_same-requires-clause-right : goal.are_same-requires-clause-right
are_same-requires-clause-right c = c.requires.right _ (in_here c.args.others.now c.loop-other.other-index _ c.loop-other-test.true)

pub returns-then-are_same : goal.returns-then-are_same
returns-then-are_same c =
    same_stop (found c.args.known.now.entries) c.args.others.now c.loop-other.other-index _ c.loop-other-test.true (plain_sort c.args.of.now) (found c.args.known.now.entries c.args.t) c.are_same.result c.are_same.ensures c.if-are_same.true c.loop-other.invariant

pub loop-other-preserved : goal.loop-other-preserved
loop-other-preserved c =
    same_skip (found c.args.known.now.entries) c.args.others.now c.loop-other.other-index _ c.loop-other-test.true (plain_sort c.args.of.now) (found c.args.known.now.entries c.args.t) c.are_same.result c.are_same.ensures c.if-are_same.false c.loop-other.invariant

pub returns : goal.returns
returns c =
    same_ended (found c.args.known.now.entries) (plain_sort c.args.of.now) (found c.args.known.now.entries c.args.t) c.args.others.now c.loop-other.other-index (omega (arith, c.loop-other-test.false)) c.loop-other.invariant
