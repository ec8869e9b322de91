use Rattle.std.proofs.Common.{sym, subst}
use Rattle.term_table.specs.Checking.{Wants}
use Rattle.term_table.proofs.Rows.{function_wants, no_shape_of}
use Rattle.term_table.proofs.table.Table.wanted_by_function.Goals as goal

pub returns-in-Some : goal.returns-in-Some
returns-in-Some c b k ks v has h =
    subst (λ r. Wants c.args.self.now r v) (sym c.wanted_by.ensures) (function_wants c.args.self.now c.args.head c.in-Some.shape.now (λ of g. c.in-Some.ensures of g) b k ks v c.args.place c.if-place-eq0.false has h)

pub returns-in-None : goal.returns-in-None
returns-in-None c b k ks v has h = absurd (no_shape_of c.args.self.now c.args.head k (λ of g. c.in-None.ensures of g) has)
