use Rattle.stamped_slots.specs.Slots.{held_at}
use Rattle.term_shapes.specs.declared.handles.TypeId.{TypeId}
use Rattle.term_table.proofs.Meanings.{left_live, renamed}
use Rattle.term_table.proofs.table.Table.remove_type_name.Goals as goal

pub invariant_of-self : goal.invariant_of-self
invariant_of-self c =
    renamed _ c.self.inside.term_names c.remove.new.self c.self.invariant (record {
      terms = c.self.invariant.names.terms;
      types = left_live (λ (t : TypeId). held_at c.self.inside.types t.slot t.stamp) c.self.inside.type_names c.remove.new.self c.self.invariant.names.types c.args.name.now c.remove.ensures.pairs;
    })
