use Rattle.term_table.proofs.Rows.{keeps_vector}
use Rattle.term_table.proofs.table.Table.vector.Goals as goal

pub returns-in-Ok : goal.returns-in-Ok
returns-in-Ok c h = keeps_vector c.args.self.now c.in-Ok.of c.args.width c.in-Ok.ensures.ok.2
