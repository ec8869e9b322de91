use Rattle.term_build.proofs.Growing.{added_one}
use Rattle.term_build.proofs.Below.{added_below}
use Rattle.term_build.proofs.realising.add.Goals as goal

pub returns-in-Ok-clause-grown : goal.returns-in-Ok-clause-grown
returns-in-Ok-clause-grown c = added_one c.args.table.now c.add.new.self c.in-Ok.t c.args.shape c.in-Ok.ensures.added

pub returns-in-Ok-clause-below : goal.returns-in-Ok-clause-below
returns-in-Ok-clause-below c = added_below c.args.table.now c.add.new.self c.in-Ok.t c.args.shape c.in-Ok.ensures.added
