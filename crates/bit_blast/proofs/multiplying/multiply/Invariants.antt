use Rattle.std.proofs.Common.{◌*◌, ◌-◌, drop, length}
use Rattle.y_tree.specs.BitVectors.{wrap}
use Rattle.bit_blast.specs.Bits.{number_under}
use Rattle.clause_gates.specs.Circuits.{Grows}
use Rattle.bit_blast.specs.Circuits.{IsWord}
use Rattle.bit_blast.proofs.multiplying.multiply.Given as goal

abbrev pub invariant-loop-k : goal.invariant-loop-k
invariant-loop-k l = record {
  grows : Grows l.fn.circuit l.circuit (3 * (length l.a * l.k));
  product : IsWord l.circuit.content l.k l.product (λ s. wrap l.k (number_under s l.a * number_under s (drop (length l.a - l.k) l.b)));
}
