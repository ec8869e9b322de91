use Rattle.std.proofs.Common.{arith, ap, ◌-◌, length}
use Rattle.std.specs.Vec.{vec_len}
use Rattle.clause_trail.specs.View.{lists_of}
use Rattle.clause_trail.proofs.Lowering.{lowering_step, lowering_ends, last_split}
use Rattle.clause_trail.proofs.State.pop_level.Goals as goal

pub loop-self-preserved : goal.loop-self-preserved
loop-self-preserved c =
    lowering_step (lists_of c.args.self.now) (lists_of c.loop-self.self) (lists_of c.unassign.new.self) c.index-start.result.now c.loop-self.invariant c.unassign.ensures
    (omega (arith, c.loop-self-test.true, c.len.ensures, c.loop-self.self.order.ok.0))

pub returns-clause-sound : goal.returns-clause-sound
returns-clause-sound c =
    let same = ap length c.loop-self.invariant.starts in
    lowering_ends (lists_of c.args.self.now) (lists_of c.loop-self.self) c.index-start.result.now c.pop.new.self.items c.loop-self.invariant
    (omega (arith, c.loop-self-test.false, c.len.ensures, c.loop-self.self.order.ok.0))
    (last_split c.args.self.now.starts.items c.loop-self.self.starts.items c.pop.new.self.items (vec_len c.loop-self.self.starts - 1) (c.len-last.result - 1) c.index-start.result.now
    c.loop-self.invariant.starts
    c.pop.ensures.rest
    (omega (arith, c.requires.level, c.len-last.ensures, c.args.self.now.starts.ok.0))
    (omega (arith, c.requires.level, same, c.loop-self.self.starts.ok.0))
    c.index-start.ensures)
