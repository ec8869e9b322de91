use Rattle.std.proofs.Common.{◌≡◌, length}
use Rattle.term_table.proofs.PlainSorts.{AreCopies}
use Rattle.term_table.proofs.table.Table.function_sort.Given as goal

-- the sorts of the types before
abbrev pub invariant-loop-of : goal.invariant-loop-of
invariant-loop-of l = (length l.sorts ≡ l.of-index) × AreCopies l.self l.sorts l.domain
