use Rattle.std.proofs.Common.{◌+◌, ◌*◌, ◌-◌, drop, length}
use Rattle.y_tree.specs.BitVectors.{divide, remainder}
use Rattle.bit_blast.specs.Bits.{number_under}
use Rattle.clause_gates.specs.Circuits.{Grows}
use Rattle.bit_blast.specs.Circuits.{IsWord}
use Rattle.bit_blast.proofs.dividing.divide.Given as goal

abbrev pub invariant-loop-k : goal.invariant-loop-k
invariant-loop-k l = record {
  grows : Grows l.initial.circuit l.circuit (l.k * (3 * length l.a + 1));
  quotient : IsWord l.circuit.content l.k l.quotient (λ s. divide l.k (number_under s (drop (length l.a - l.k) l.a)) (number_under s l.b));
  rest : IsWord l.circuit.content l.k l.rest (λ s. remainder (number_under s (drop (length l.a - l.k) l.a)) (number_under s l.b));
}
