use Rattle.std.proofs.Common.{◌≡◌}
use Rattle.bench_reading.proofs.take_all.Given as goal

abbrev pub invariant-loop : goal.invariant-loop
invariant-loop l = record { fed : l.reader.fed ≡ l.initial.reader.fed; finished : l.reader.finished ≡ l.initial.reader.finished }
