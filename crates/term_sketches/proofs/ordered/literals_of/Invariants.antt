use Rattle.std.proofs.Common.{◌≡◌, ◌++◌, map}
use Rattle.term_sketches.specs.Keys.{literal_of}
use Rattle.term_sketches.proofs.ordered.literals_of.Given as goal

abbrev pub invariant-loop-key : goal.invariant-loop-key
invariant-loop-key l = l.list.items ++ map literal_of l.key-iterator ≡ map literal_of l.keys.keys
