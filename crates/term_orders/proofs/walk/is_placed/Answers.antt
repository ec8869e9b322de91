use Rattle.std.proofs.Common.{◌∙◌, sym}
use Rattle.term_orders.proofs.Members.{found, listed}
use Rattle.term_orders.proofs.walk.is_placed.Goals as goal

pub returns : goal.returns
returns c = (
  λ h. found c.args.order.now.keys c.args.term (sym c.contains.ensures ∙ h),
  λ h. c.contains.ensures ∙ listed c.args.order.now.keys c.args.term h.place h.at,
)
