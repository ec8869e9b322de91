use Rattle.term_table.proofs.Rows.{takes_some, no_shape_of}
use Rattle.term_table.proofs.table.Table.takes.Goals as goal

pub returns-in-Some : goal.returns-in-Some
returns-in-Some c = takes_some c.args.self.now c.args.head c.in-Some.shape.now c.args.number c.shape_takes.result (λ of h. c.in-Some.ensures of h) c.shape_takes.ensures

pub returns-in-None : goal.returns-in-None
returns-in-None c k h = absurd (no_shape_of c.args.self.now c.args.head k (λ of g. c.in-None.ensures of g) h)
