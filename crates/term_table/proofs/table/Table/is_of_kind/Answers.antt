use Rattle.std.proofs.Common.{sym}
use Rattle.term_table.proofs.Rows.{kind_fits}
use Rattle.term_table.proofs.table.Table.is_of_kind.Goals as goal

pub returns-in-Some : goal.returns-in-Some
returns-in-Some c v k kind wants keeps = kind_fits c.args.self.now c.args.found c.in-Some.shape.now c.args.wanted v k c.is_kind.result (sym c.in-Some.ensures) kind wants keeps c.is_kind.ensures
