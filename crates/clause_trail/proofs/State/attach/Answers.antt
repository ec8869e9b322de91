use Rattle.clause_trail.specs.View.{lists_of}
use Rattle.clause_trail.proofs.Attaching.{attach_done}
use Rattle.clause_trail.proofs.State.attach.Goals as goal

pub returns-clause-sound : goal.returns-clause-sound
returns-clause-sound c =
    attach_done (lists_of c.args.self.now) (lists_of c.prepare.new.self) c.in_ok-c.c c.args.pair c.args.clause c.push.new.self.items
    c.prepare.ensures.same c.prepare.ensures.sound c.in_ok-c.ensures.ok c.requires.wide c.in_ok-push.ensures.items
