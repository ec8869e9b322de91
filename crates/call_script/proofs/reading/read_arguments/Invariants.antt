use Rattle.std.proofs.Common.{◌≡◌, ◌+◌, false, length}
use Rattle.call_script.specs.Results.{front_of}
use Rattle.call_script.specs.Judging.{said_from}
use Rattle.call_script.proofs.reading.read_arguments.Given as goal

abbrev pub invariant-loop-tail : goal.invariant-loop-tail
invariant-loop-tail l = record {
  left : l.here + length l.rest ≡ l.fn.column + length l.fn.bytes;
  same : said_from l.end l.last (front_of l.call) false l.here l.rest ≡ said_from l.end l.last (front_of l.fn.call) false l.fn.column l.fn.bytes;
}

abbrev pub decreases-loop-tail : goal.decreases-loop-tail
decreases-loop-tail l = length l.rest
