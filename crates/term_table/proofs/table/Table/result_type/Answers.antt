use Rattle.y_tree.specs.Sorts.{function}
use Rattle.term_table.proofs.Rows.{result_some, no_shape_of}
use Rattle.term_table.proofs.table.Table.result_type.Goals as goal

pub returns-in-Some : goal.returns-in-Some
returns-in-Some c d k has = result_some c.args.self.now c.args.head c.in-Some.shape.now c.shape_result.result (λ of g. c.in-Some.ensures of g) c.shape_result.ensures d k has

pub returns-in-None : goal.returns-in-None
returns-in-None c d k has = absurd (no_shape_of c.args.self.now c.args.head (function d k) (λ of g. c.in-None.ensures of g) has)
