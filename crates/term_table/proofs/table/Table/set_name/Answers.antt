use Rattle.std.proofs.Common.{arith}
use Rattle.std.proofs.lemmas.Grind.{common_steps}
use Rattle.stamped_slots.specs.Slots.{held_at}
use Rattle.term_shapes.specs.declared.handles.Term.{Term}
use Rattle.term_table.proofs.Meanings.{given_live, renamed}
use Rattle.term_table.proofs.table.Table.set_name.Goals as goal

pub invariant_of-self : goal.invariant_of-self
invariant_of-self c =
    renamed _ c.push.new.self c.self.inside.type_names c.self.invariant (record {
      terms = given_live (λ (t : Term). held_at c.self.inside.terms t.slot t.stamp) c.self.inside.term_names c.push.new.self c.push.result c.args.name.now c.args.t c.self.invariant.names.terms c.push.ensures.ok c.push.ensures.err (grind (arith, common_steps));
      types = c.self.invariant.names.types;
    })
