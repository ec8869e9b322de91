use Rattle.stamped_slots.specs.Slots.{held_at}
use Rattle.term_shapes.specs.declared.handles.Term.{Term}
use Rattle.term_table.proofs.Meanings.{left_live, renamed}
use Rattle.term_table.proofs.table.Table.remove_name.Goals as goal

pub invariant_of-self : goal.invariant_of-self
invariant_of-self c =
    renamed _ c.remove.new.self c.self.inside.type_names c.self.invariant (record {
      terms = left_live (λ (t : Term). held_at c.self.inside.terms t.slot t.stamp) c.self.inside.term_names c.remove.new.self c.self.invariant.names.terms c.args.name.now c.remove.ensures.pairs;
      types = c.self.invariant.names.types;
    })
