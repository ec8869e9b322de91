use Rattle.std.proofs.Common.{◌∙◌, ◌+◌, ap, refl}
use Rattle.term_table.proofs.Handles.{given_stays_changed}
use Rattle.term_table.specs.World.{given}
use Rattle.stamped_slots.specs.Slots.{held_at, counted}
use Rattle.term_table.proofs.Sweeping.{same_table, held_changed, stays_counted}
use Rattle.term_table.proofs.table.Table.incref_type.Goals as goal

pub invariant_of-self : goal.invariant_of-self
invariant_of-self c = same_table _ _ c.self.invariant (λ i n. refl) (λ i n. ap (λ w. held_at w i n) c.set_count.ensures ∙ held_changed (counted (c.count-uses.result + 1)) (stays_counted (c.count-uses.result + 1)) c.self.inside.types c.args.t.slot i n) c.self.invariant.terms c.regular.ensures.regular refl refl refl refl (ap given c.set_count.ensures ∙ given_stays_changed (counted (c.count-uses.result + 1)) (stays_counted (c.count-uses.result + 1)) c.self.inside.types c.args.t.slot) refl refl
