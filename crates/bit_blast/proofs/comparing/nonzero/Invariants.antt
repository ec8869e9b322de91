use Rattle.std.proofs.Common.{take, not}
use Rattle.std.specs.Prelude.{◌==◌}
use Rattle.bit_blast.specs.Bits.{number_under}
use Rattle.clause_gates.specs.Circuits.{Grows, Computes}
use Rattle.bit_blast.proofs.comparing.nonzero.Given as goal

abbrev pub invariant-loop-i : goal.invariant-loop-i
invariant-loop-i l = record { grows : Grows l.fn.circuit l.circuit l.i; some : Computes l.circuit.content l.some (λ s. not (number_under s (take l.i l.a) == 0)) }
