use Rattle.std.proofs.Common.{◌∙◌, sym}
use Rattle.term_table.proofs.PlainSorts.{simple_kept, dead_kept}
use Rattle.term_table.proofs.table.Table.part_sort.Goals as goal

pub returns-in-Some : goal.returns-in-Some
returns-in-Some c k keeps simple = c.simple_sort.ensures ∙ simple_kept c.args.self.now c.args.of c.in-Some.shape.now k (sym c.in-Some.ensures) keeps simple

pub returns-in-None : goal.returns-in-None
returns-in-None c k keeps simple = absurd (dead_kept c.args.self.now c.args.of k (sym c.in-None.ensures) keeps)
