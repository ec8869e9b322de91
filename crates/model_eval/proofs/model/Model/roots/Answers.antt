use Rattle.std.proofs.Common.{◌∙◌}
use Rattle.model_eval.proofs.model.Model.roots.Goals as goal

pub returns : goal.returns
returns c = rw (← c.self.view_is) (c.as_slice.ensures.keys ∙ c.self.invariant.0)
