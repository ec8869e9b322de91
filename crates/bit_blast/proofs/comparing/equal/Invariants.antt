use Rattle.std.proofs.Common.{take, ◌*◌}
use Rattle.std.specs.Prelude.{◌==◌}
use Rattle.bit_blast.specs.Bits.{number_under}
use Rattle.clause_gates.specs.Circuits.{Grows, Computes}
use Rattle.bit_blast.proofs.comparing.equal.Given as goal

abbrev pub invariant-loop-i : goal.invariant-loop-i
invariant-loop-i l = record { grows : Grows l.fn.circuit l.circuit (2 * l.i); all : Computes l.circuit.content l.all (λ s. number_under s (take l.i l.a) == number_under s (take l.i l.b)) }
