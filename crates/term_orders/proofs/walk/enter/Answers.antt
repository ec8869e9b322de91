use Rattle.std.proofs.Common.{refl, inl, inr}
use Rattle.term_orders.proofs.walk.enter.Goals as goal

pub returns-then-is_placed : goal.returns-then-is_placed
returns-then-is_placed c = inl (c.is_placed.ensures.0 c.if-is_placed.true, refl)

pub returns : goal.returns
returns c = inr c.in_ok-push.ensures.items
