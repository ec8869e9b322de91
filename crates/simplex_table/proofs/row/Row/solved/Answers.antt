use Rattle.std.proofs.Common.{rules}
use Rattle.simplex_table.proofs.Entries.{solved_all}
use Rattle.simplex_table.proofs.row.Row.solved.Goals as goal

pub returns-clause-ok : goal.returns-clause-ok
returns-clause-ok c = solved_all c.args.column c.args.self.now c.loop-k.entries.items c.loop-k.k (search rules) c.loop-k.invariant
