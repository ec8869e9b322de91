use Rattle.std.proofs.Common.{refl, arith}
use Rattle.yices_api.proofs.Calling.{opened_environment}
use Rattle.yices_api.proofs.env.Env.new_context.Goals as goal

pub invariant_of-self : goal.invariant_of-self
invariant_of-self c =
    opened_environment c.self.inside.table c.self.inside.contexts c.insert.new.self c.self.inside.made c.in-Ok-insert.key (record { stamp = c.self.inside.made; context = c.in-Ok.context }) c.in-Ok-insert.ensures.was_vacant c.in-Ok-insert.ensures.updates refl
    c.self.invariant c.in-Ok.ensures.levels c.in-Ok.ensures.unchecked (omega (arith, c.if-stamp-ge-MOST_CONTEXTS.false))
