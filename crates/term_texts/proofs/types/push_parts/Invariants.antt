use Rattle.std.proofs.Common.{◌≡◌, ◌++◌, map, drop, string_bytes}
use Rattle.term_texts.specs.TypeTexts.{part_text, spaced}
use Rattle.term_texts.proofs.types.push_parts.Given as goal

abbrev pub invariant-loop-part : goal.invariant-loop-part
invariant-loop-part l = string_bytes l.out ++ spaced (map (part_text l.table) (drop l.part-index l.parts)) ≡ string_bytes l.fn.out ++ spaced (map (part_text l.table) l.parts)
