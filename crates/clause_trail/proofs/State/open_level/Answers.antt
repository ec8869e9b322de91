use Rattle.std.proofs.Common.{◌∙◌}
use Rattle.clause_trail.specs.View.{lists_of}
use Rattle.clause_trail.proofs.Growing.{more_level}
use Rattle.clause_trail.proofs.State.open_level.Goals as goal

pub returns-clause-sound : goal.returns-clause-sound
returns-clause-sound c =
    more_level (lists_of c.args.self.now) c.push.new.self.items c.len-start.result c.requires.sound (c.len-start.ensures ∙ c.args.self.now.order.ok.0) c.requires.all c.in_ok-push.ensures.items
