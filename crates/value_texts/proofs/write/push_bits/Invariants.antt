use Rattle.std.proofs.Common.{◌≡◌, ◌++◌, string_bytes}
use Rattle.value_texts.specs.Texts.{binary}
use Rattle.value_texts.proofs.write.push_bits.Given as goal

abbrev pub invariant-loop-i : goal.invariant-loop-i
invariant-loop-i l = string_bytes l.out ++ binary l.i l.bits ≡ string_bytes l.fn.out ++ binary l.width l.bits
