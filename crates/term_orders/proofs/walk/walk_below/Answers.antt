use Rattle.std.proofs.Common.{◌∙◌, ◌++◌, ◌∷◌, [], List, ap, arith}
use Rattle.term_orders.specs.declared.walk.Frame.{Frame}
use Rattle.term_orders.specs.Walk.{fresh}
use Rattle.term_orders.proofs.Costs.{less_after}
use Rattle.term_orders.proofs.Walking.{walking_starts, walking_on, walking_ends, empty_is}
use Rattle.term_orders.proofs.walk.walk_below.Goals as goal

pub loop-frame-init : goal.loop-frame-init
loop-frame-init c = λ roots o.
    walking_starts c.args.grounded.now.table.now roots c.args.root c.push.new.self.items c.args.order.now.keys
    (c.in_ok-push.ensures.items ∙ ap (λ (s : List Frame). s ++ fresh c.args.root ∷ []) c.new-stack.ensures.items) c.requires o

pub loop-frame-preserved : goal.loop-frame-preserved
loop-frame-preserved c = λ roots o.
    walking_on c.args.grounded.now.table.now roots c.args.root c.is_table.ensures c.in-Some.frame c.pop.new.self.items c.advance.new.stack.items c.loop-frame.order.keys c.advance.new.order.keys
    c.loop-frame.stack.items c.in-Some.ensures.items (c.loop-frame.invariant roots o) c.in_ok-advance.ensures

pub loop-frame-smaller : goal.loop-frame-smaller
loop-frame-smaller c =
    less_after c.args.grounded.now.table.now c.args.grounded.now.ends c.in-Some.frame c.loop-frame.stack.items c.pop.new.self.items c.advance.new.stack.items c.loop-frame.order.keys c.advance.new.order.keys
    c.in-Some.ensures.items c.in_ok-advance.ensures

pub returns : goal.returns
returns c = λ roots o.
    walking_ends c.args.grounded.now.table.now roots c.args.root c.loop-frame.stack.items c.loop-frame.order.keys
    (empty_is c.loop-frame.stack.items (omega (arith, c.in_default.ensures.cases.0, c.loop-frame.stack.ok.0))) (c.loop-frame.invariant roots o)
