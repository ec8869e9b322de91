use Rattle.std.proofs.Common.{take}
use Rattle.term_build.specs.Building.{AddsAtMost, AddsUnder, AreLiterals}
use Rattle.term_build.proofs.realising.literal_terms.Given as goal

abbrev pub invariant-loop-literal : goal.invariant-loop-literal
invariant-loop-literal l = record { grown : AddsAtMost l.literal-index l.fn.table l.table; made : AreLiterals l.table l.args (take l.literal-index l.literals); under : AddsUnder l.fn.table l.table l.args }
