use Rattle.table_slots.proofs.Pushing.{pushed}
use Rattle.table_slots.proofs.permanents.push_type.Goals as goal

pub returns : goal.returns
returns c = pushed _ _ _ _ _ c.in-Ok.ensures.added c.requires.live
