use Rattle.std.proofs.Common.{sym}
use Rattle.model_eval.proofs.Places.{value_there, value_missing}
use Rattle.model_eval.proofs.model.value_in.Goals as goal

pub returns-in-Some : goal.returns-in-Some
returns-in-Some c = value_there c.args.t c.args.places.now.keys c.args.entries.now c.in-Some.place _ c.requires c.in-Some.ensures.within c.in-Some.ensures.index c.value_at.ensures

pub returns-in-None : goal.returns-in-None
returns-in-None c = value_missing c.args.t c.args.places.now.keys c.args.entries.now c.requires (sym c.in-None.ensures.found)
