use Rattle.std.proofs.Common.{◌*◌, take}
use Rattle.clause_gates.specs.Circuits.{Grows}
use Rattle.bit_blast.specs.Circuits.{IsSum}
use Rattle.bit_blast.proofs.adding.ripple.Given as goal

abbrev pub invariant-loop-i : goal.invariant-loop-i
invariant-loop-i l = record { grows : Grows l.fn.circuit l.circuit (2 * l.i); sum : IsSum l.circuit.content (take l.i l.a) (take l.i l.b) l.fn.first l.bits l.carry }
