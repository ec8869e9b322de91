use Rattle.std.proofs.Common.{take}
use Rattle.std.specs.Prelude.{nat_le}
use Rattle.bit_blast.specs.Bits.{number_under}
use Rattle.clause_gates.specs.Circuits.{Grows, Computes}
use Rattle.bit_blast.proofs.comparing.at_least.Given as goal

abbrev pub invariant-loop-i : goal.invariant-loop-i
invariant-loop-i l = record { grows : Grows l.fn.circuit l.circuit l.i; carry : Computes l.circuit.content l.carry (λ s. nat_le (number_under s (take l.i l.b)) (number_under s (take l.i l.a))) }
