use Rattle.std.proofs.Common.{length}
use Rattle.y_tree.specs.Plain.{plain_sort, plain_sorts}
use Rattle.value_texts.proofs.EntryTexts.{EntriesSoFar}
use Rattle.value_texts.proofs.read.read_rest.Given as goal

abbrev pub invariant-loop-inner : goal.invariant-loop-inner
invariant-loop-inner l = EntriesSoFar (plain_sorts l.domain) (plain_sort l.range) l.text l.rest l.entries.items l.wide_key l.wide

abbrev pub decreases-loop-inner : goal.decreases-loop-inner
decreases-loop-inner l = length l.rest
