use Rattle.std.proofs.Common.{arith}
use Rattle.std.proofs.lemmas.Grind.{common_steps}
use Rattle.stamped_slots.specs.Slots.{held_at}
use Rattle.term_shapes.specs.declared.handles.TypeId.{TypeId}
use Rattle.term_table.proofs.Meanings.{given_live, renamed}
use Rattle.term_table.proofs.table.Table.set_type_name.Goals as goal

pub invariant_of-self : goal.invariant_of-self
invariant_of-self c =
    renamed _ c.self.inside.term_names c.push.new.self c.self.invariant (record {
      terms = c.self.invariant.names.terms;
      types = given_live (λ (t : TypeId). held_at c.self.inside.types t.slot t.stamp) c.self.inside.type_names c.push.new.self c.push.result c.args.name.now c.args.t c.self.invariant.names.types c.push.ensures.ok c.push.ensures.err (grind (arith, common_steps));
    })
