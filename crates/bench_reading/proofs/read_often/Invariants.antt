use Rattle.std.proofs.Common.{◌≡◌, ◌≤◌, ◌*◌, length, false}
use Rattle.bench_reading.proofs.read_often.Given as goal

abbrev pub invariant-loop-time : goal.invariant-loop-time
invariant-loop-time l = record { fed : length l.reader.fed ≤ l.time * 1073741824; unfinished : l.reader.finished ≡ false }
