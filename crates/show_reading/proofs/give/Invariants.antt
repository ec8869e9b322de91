use Rattle.std.proofs.Common.{◌≡◌, ◌≤◌, ◌*◌, length, false}
use Rattle.show_reading.proofs.give.Given as goal

abbrev pub invariant-loop-i : goal.invariant-loop-i
invariant-loop-i l = record { fed : length l.reader.fed ≤ l.i * 10; finished : l.reader.finished ≡ false }
