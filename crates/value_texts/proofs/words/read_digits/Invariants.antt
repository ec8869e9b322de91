use Rattle.std.proofs.Common.{◌≡◌, ◌<◌, ◌^◌, take}
use Rattle.value_texts.specs.Texts.{binary}
use Rattle.value_texts.proofs.words.read_digits.Given as goal

abbrev pub invariant-loop-i : goal.invariant-loop-i
invariant-loop-i l = record { value : take l.i l.text ≡ binary l.i l.bits; bound : l.bits < 2 ^ l.i }
