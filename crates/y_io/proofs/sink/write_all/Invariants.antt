use Rattle.std.proofs.Common.{length, ◌-◌, ◌≤◌, take}
use Rattle.y_io.specs.Outside.{Grows}
use Rattle.y_io.proofs.sink.write_all.Given as goal

abbrev pub invariant-loop-done : goal.invariant-loop-done
invariant-loop-done g l = record {
  within : l.done ≤ length l.piece;
  grown : Grows (g.K.Sink.written l.initial.out) (g.K.Sink.written l.out) (take l.done l.piece);
  later : g.K.Sink.faults l.initial.out ≤ g.K.Sink.faults l.out;
}

abbrev pub decreases-loop-done : goal.decreases-loop-done
decreases-loop-done g l = length l.piece - l.done
