use Rattle.std.proofs.Common.{◌∙◌}
use Rattle.term_sketches.proofs.ordered.LiteralSet.to_list.Goals as goal

pub returns : goal.returns
returns c = c.in_ok-items.ensures ∙ c.self.view_is
