use Rattle.std.proofs.Common.{◌+◌, length}
use Rattle.yices_api.proofs.Stamps.{extended_environment}
use Rattle.yices_api.proofs.Tables.{most_extend}
use Rattle.yices_api.proofs.env.Env.build_term.Goals as goal

pub invariant_of-self : goal.invariant_of-self
invariant_of-self c =
    extended_environment c.self.inside.table c.build.new.table c.self.inside.contexts.slots c.self.inside.made c.is_table.ensures c.self.invariant
    (most_extend (4 + length c.args.arguments.now) c.self.inside.table c.build.new.table c.build.ensures.grown)
