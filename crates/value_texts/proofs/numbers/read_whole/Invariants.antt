use Rattle.std.proofs.Common.{take}
use Rattle.std.specs.Str.Parse.{AllDigits, digits_value}
use Rattle.value_texts.specs.Pieces.{IsSize}
use Rattle.value_texts.proofs.numbers.read_whole.Given as goal

abbrev pub invariant-loop-i : goal.invariant-loop-i
invariant-loop-i l = record { digits : AllDigits 10 (take l.i l.text); size : IsSize l.size (digits_value 10 (take l.i l.text)) }
