use Rattle.std.proofs.Common.{rules}
use Rattle.simplex_table.proofs.Entries.{summed_all}
use Rattle.simplex_table.proofs.row.Row.summed.Goals as goal

pub returns-clause-ok : goal.returns-clause-ok
returns-clause-ok c = summed_all c.args.self.now c.args.row.now c.loop-k.entries.items c.args.by c.loop-k.k c.requires.same_length (search rules) c.loop-k.invariant
