use Rattle.std.proofs.Common.{take}
use Rattle.clause_gates.specs.Bits.{value_under}
use Rattle.bit_blast.specs.Bits.{values_under}
use Rattle.bit_blast.specs.Bitwise.{pair_value, pairwise}
use Rattle.clause_gates.specs.Circuits.{Grows}
use Rattle.bit_blast.specs.Circuits.{IsBits}
use Rattle.bit_blast.proofs.bitwise.each.Given as goal

abbrev pub invariant-loop-i : goal.invariant-loop-i
invariant-loop-i l = record {
  grows : Grows l.fn.circuit l.circuit l.i;
  bits : IsBits l.circuit.content l.i l.bits (λ s. pairwise (pair_value l.fn.pairing (value_under s l.fn.flag)) (values_under s (take l.i l.a)) (values_under s (take l.i l.b)));
}
