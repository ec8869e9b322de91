use Rattle.std.proofs.Common.{refl}
use Rattle.term_table.specs.Naming.{type_unnamed}
use Rattle.yices_api.proofs.Stamps.{extended_environment}
use Rattle.yices_api.proofs.Tables.{replaced_extends}
use Rattle.yices_api.proofs.env.Env.remove_type_name.Goals as goal

pub invariant_of-self : goal.invariant_of-self
invariant_of-self c =
    extended_environment c.self.inside.table c.remove_type_name.new.self c.self.inside.contexts.slots c.self.inside.made c.is_table.ensures c.self.invariant
    (replaced_extends c.self.inside.table (type_unnamed c.self.inside.table c.args.name.now) c.remove_type_name.new.self c.remove_type_name.ensures.names refl refl)
