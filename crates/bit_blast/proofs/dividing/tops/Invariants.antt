use Rattle.std.proofs.Common.{◌≡◌, ℕ, ◌<◌, ◌-◌, not, drop, length, get_or}
use Rattle.std.specs.Prelude.{◌==◌}
use Rattle.clause_logic.specs.declared.Lit.{Lit}
use Rattle.bit_blast.specs.Bits.{number_under}
use Rattle.clause_gates.specs.Circuits.{Grows, Computes}
use Rattle.bit_blast.proofs.dividing.tops.Given as goal

abbrev pub invariant-loop-t : goal.invariant-loop-t
invariant-loop-t l = record {
  grows : Grows l.fn.circuit l.circuit l.t;
  count : length l.all ≡ l.t;
  some : Computes l.circuit.content l.some (λ s. not (number_under s (drop (length l.b - l.t) l.b) == 0));
  each : (t : ℕ) (d : Lit) → t < l.t → Computes l.circuit.content (get_or l.all t d) (λ s. not (number_under s (drop (length l.b - t) l.b) == 0));
}
