use Rattle.std.proofs.Common.{subst, sym}
use Rattle.clause_trail.specs.View.{lists_of, Sound}
use Rattle.clause_trail.proofs.Trails.{decided_sound}
use Rattle.clause_trail.proofs.State.decide.Goals as goal

pub returns-clause-sound : goal.returns-clause-sound
returns-clause-sound c = subst Sound (sym c.in_ok-enqueue.ensures.ok) (decided_sound (lists_of c.args.self.now) c.args.lit c.requires.sound c.requires.free c.requires.level)
