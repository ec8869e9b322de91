use Rattle.std.proofs.Common.{sym}
use Rattle.y_tree.specs.Sorts.{boolean}
use Rattle.term_table.proofs.Standing.{if_ok}
use Rattle.term_checks.specs.Building.{IsNodeOf, IsNodeAt}
use Rattle.term_checks.proofs.Sorts.{no_shape}
use Rattle.term_checks.proofs.Trees.{argument_there, ready_shape, node_by}
use Rattle.term_checks.proofs.building.node_at.Goals as goal

pub node_of-requires-clause-truths : goal.node_of-requires-clause-truths
node_of-requires-clause-truths c =
    (ready_shape c.args.table.now c.args.order.now.keys c.requires.ready c.is_table.ensures c.args.t c.in-Some.shape.now c.requires.there (sym c.in-Some.ensures)).0

pub node_of-requires-clause-placed : goal.node_of-requires-clause-placed
node_of-requires-clause-placed c =
    λ u h. argument_there c.args.table.now c.args.order.now.keys c.requires.ready c.args.t u c.in-Some.shape.now c.requires.there (sym c.in-Some.ensures) h

pub unreachable-requires : goal.unreachable-requires
unreachable-requires c = no_shape c.args.table.now c.args.t boolean c.in-None.ensures (c.requires.ready.sorts c.args.t c.requires.there)

pub returns : goal.returns
returns c =
    let w = c.args.table.now in
    let order = c.args.order.now.keys in
    let s = c.in-Some.shape.now in
    if_ok c.node_of.result (IsNodeOf order s) (IsNodeAt w order c.args.t) (λ n is. node_by w order c.requires.ready c.is_table.ensures c.args.t s n c.requires.there (sym c.in-Some.ensures) is) c.node_of.ensures
