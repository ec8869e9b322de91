use Rattle.std.proofs.Common.{ℕ, Bool, ◌≡◌, ◌*◌, length, take}
use Rattle.bit_blast.specs.Bits.{number_under}
use Rattle.clause_gates.specs.Circuits.{Satisfies, Grows, AllBelow}
use Rattle.bit_blast.specs.Shifts.{shift_plain, flipped_number}
use Rattle.bit_blast.proofs.shifting.shift_near.Given as goal

abbrev pub invariant-loop-j : goal.invariant-loop-j
invariant-loop-j l = record {
  grows : Grows l.fn.circuit l.circuit (l.j * length l.a);
  count : length l.word ≡ length l.a;
  known : AllBelow l.circuit.content.vars l.word;
  is : (s : ℕ → Bool) → Satisfies s l.circuit.content → flipped_number s l.fn.fill l.word ≡ shift_plain l.fn.way (length l.a) (flipped_number s l.fn.fill l.a) (number_under s (take l.j l.b));
}
