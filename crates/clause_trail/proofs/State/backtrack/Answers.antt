use Rattle.std.proofs.Common.{arith, ap, length}
use Rattle.clause_trail.specs.View.{lists_of}
use Rattle.clause_logic.proofs.Gets.{length_push}
use Rattle.clause_trail.proofs.Lowering.{backed_same, backed_step}
use Rattle.clause_trail.proofs.State.backtrack.Goals as goal

pub loop-self-init : goal.loop-self-init
loop-self-init c = backed_same (lists_of c.args.self.now) c.args.level c.requires.sound

pub loop-self-preserved : goal.loop-self-preserved
loop-self-preserved c =
    backed_step (lists_of c.args.self.now) (lists_of c.loop-self.self) (lists_of c.pop_level.new.self) c.args.level c.loop-self.invariant
    (omega (arith, c.loop-self-test.true, c.len.ensures, c.loop-self.self.starts.ok.0))
    c.pop_level.ensures.sound c.pop_level.ensures.shrunk c.pop_level.ensures.starts c.pop_level.ensures.done

pub loop-self-smaller : goal.loop-self-smaller
loop-self-smaller c = omega (arith, ap length c.pop_level.ensures.starts, length_push c.pop_level.new.self.starts.items (length c.pop_level.new.self.order.items))
