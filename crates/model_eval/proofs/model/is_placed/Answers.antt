use Rattle.std.proofs.Common.{◌∙◌, sym}
use Rattle.term_orders.proofs.Members.{found, listed}
use Rattle.model_eval.proofs.model.is_placed.Goals as goal

pub returns : goal.returns
returns c = (
  λ h. found c.args.places.now.keys c.args.t (sym c.contains.ensures ∙ h),
  λ h. c.contains.ensures ∙ listed c.args.places.now.keys c.args.t h.place h.at,
)
