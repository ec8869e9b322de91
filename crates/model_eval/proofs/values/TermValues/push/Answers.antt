use Rattle.model_eval.proofs.Places.{formed_more}
use Rattle.model_eval.proofs.values.TermValues.push.Goals as goal

pub invariant_of-self-2 : goal.invariant_of-self-2
invariant_of-self-2 c = formed_more c.self.inside.items.items _ c.args.item c.self.invariant c.requires c.in_ok-push.ensures.items
