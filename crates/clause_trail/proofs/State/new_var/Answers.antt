use Rattle.std.proofs.Common.{arith, length, ap}
use Rattle.clause_trail.specs.View.{lists_of}
use Rattle.clause_trail.proofs.Growing.{roomier_sound, more_var}
use Rattle.clause_trail.proofs.State.new_var.Goals as goal

pub returns-in_err-make_room-clause-sound : goal.returns-in_err-make_room-clause-sound
returns-in_err-make_room-clause-sound c = roomier_sound (lists_of c.args.self.now) (lists_of c.make_room.new.self) c.make_room.ensures.roomier c.requires

pub returns-in_err-push-clause-sound : goal.returns-in_err-push-clause-sound
returns-in_err-push-clause-sound c =
    rw c.in_err-push.ensures.items (roomier_sound (lists_of c.args.self.now) (lists_of c.make_room.new.self) c.make_room.ensures.roomier c.requires)

pub returns-clause-sound : goal.returns-clause-sound
returns-clause-sound c =
    let same = ap length c.make_room.ensures.roomier.values in
    more_var (lists_of c.make_room.new.self) c.push.new.self.items (roomier_sound (lists_of c.args.self.now) (lists_of c.make_room.new.self) c.make_room.ensures.roomier c.requires)
    c.in_ok-push.ensures.items
    (omega (arith, same, c.in_ok-make_room.ensures.ok.0, c.requires.base.reasons))
    (omega (arith, same, c.in_ok-make_room.ensures.ok.1, c.requires.base.places))
    (omega (arith, same, c.in_ok-make_room.ensures.ok.2, c.requires.base.rows))
