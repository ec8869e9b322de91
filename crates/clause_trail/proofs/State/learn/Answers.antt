use Rattle.clause_trail.specs.View.{lists_of}
use Rattle.clause_trail.proofs.Attaching.{learn_done}
use Rattle.clause_trail.proofs.State.learn.Goals as goal

pub returns-in-Ok-clause-sound : goal.returns-in-Ok-clause-sound
returns-in-Ok-clause-sound c =
    learn_done (lists_of c.args.self.now) (lists_of c.prepare.new.self) (lists_of c.enqueue.new.self) c.in_ok-c.c c.args.pair c.args.clause c.push.new.self.items
    c.prepare.ensures.same c.prepare.ensures.sound c.in_ok-c.ensures.ok c.requires.asserts c.in_ok-push.ensures.items c.in-Ok.ensures.ok
