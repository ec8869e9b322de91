use Rattle.std.proofs.Common.{◌++◌, ◌∷◌, [], get_or, take, sym, subst, arith}
use Rattle.std.specs.Prelude.{IsSome}
use Rattle.std.proofs.lemmas.Option.{slice_get-get_or}
use Rattle.term_shapes.specs.declared.handles.Term.{Term}
use Rattle.term_table.specs.World.{node_at}
use Rattle.term_orders.specs.Orders.{IsOrder}
use Rattle.term_orders.proofs.Rounds.{order_none, order_more, order_all}
use Rattle.term_orders.proofs.choosing.ordered.Goals as goal

pub loop-root-init : goal.loop-root-init
loop-root-init c = order_none c.args.table.now c.new-order.result.keys c.new-order.ensures.empty

pub place-requires : goal.place-requires
place-requires c =
    let d : Term = record { slot = 0; stamp = 0 } in
    let r : Term = get_or c.args.roots.now c.loop-root.root-index d in
    subst (λ w. IsSome (node_at w r)) (sym c.with_ends-grounded.ensures) (c.requires c.loop-root.root-index r (slice_get-get_or c.args.roots.now c.loop-root.root-index d c.loop-root-test.true))

pub loop-root-preserved : goal.loop-root-preserved
loop-root-preserved c =
    let d : Term = record { slot = 0; stamp = 0 } in
    let before = take c.loop-root.root-index c.args.roots.now in
    let r : Term = get_or c.args.roots.now c.loop-root.root-index d in
    order_more c.args.table.now c.args.roots.now c.place.new.order.keys c.loop-root.root-index d c.loop-root-test.true (subst (λ w. IsOrder w (before ++ r ∷ []) c.place.new.order.keys) c.with_ends-grounded.ensures (c.in_ok-place.ensures before (subst (λ w. IsOrder w before c.loop-root.order.keys) (sym c.with_ends-grounded.ensures) c.loop-root.invariant)))

pub returns : goal.returns
returns c =
    order_all c.args.table.now c.args.roots.now c.loop-root.order.keys c.loop-root.root-index (omega arith) c.loop-root.invariant
