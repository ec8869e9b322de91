use Rattle.std.proofs.Common.{ℕ, arith, length-drop, length-take}
use Rattle.y_io.proofs.Growth.{Grows-take}
use Rattle.y_io.proofs.sink.write_all.Goals as goal

pub loop-done-preserved : goal.loop-done-preserved
loop-done-preserved g c = record {
  within = omega (arith, c.in_ok-done.ensures.bound, length-drop {A = ℕ}, length-take {A = ℕ});
  grown = Grows-take _ _ _ c.loop-done.done c.in_ok-done.field-0 c.args.piece.now c.loop-done.invariant.grown c.in_ok-done.ensures.ok;
  later = omega (arith, c.loop-done.invariant.later, c.write.ensures.later);
}
