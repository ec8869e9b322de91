use Rattle.std.proofs.Common.{sym}
use Rattle.term_table.proofs.Rows.{width_some}
use Rattle.term_table.proofs.table.Table.width_of.Goals as goal

pub returns-in-Some : goal.returns-in-Some
returns-in-Some c k keeps = width_some c.args.self.now c.args.of c.in-Some.shape.now k c.shape_width.result (sym c.in-Some.ensures) keeps c.shape_width.ensures
