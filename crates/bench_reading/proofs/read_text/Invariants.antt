use Rattle.std.proofs.Common.{◌≡◌, ◌≤◌, ◌+◌, ◌-◌, length, false}
use Rattle.bench_reading.proofs.read_text.Given as goal

abbrev pub invariant-pieces : goal.invariant-pieces
invariant-pieces l = record { fed : length l.reader.fed ≡ length l.initial.reader.fed + l.place; within : l.place ≤ length l.text; unfinished : l.reader.finished ≡ false }

abbrev pub decreases-pieces : goal.decreases-pieces
decreases-pieces l = length l.text - l.place
