use Rattle.std.proofs.Common.{◌∙◌, ap, refl}
use Rattle.stamped_slots.specs.Slots.{held_at, mark_if}
use Rattle.term_table.specs.World.{given}
use Rattle.table_slots.specs.Nodes.{any_at, meant_terms, meant_types}
use Rattle.term_table.proofs.Handles.{given_stays_each}
use Rattle.term_table.proofs.Sweeping.{same_table, held_each, stays_mark_if}
use Rattle.term_table.proofs.table.Table.mark_named.Goals as goal

pub invariant_of-self : goal.invariant_of-self
invariant_of-self c =
    same_table _ _ c.self.invariant
    (λ i n. ap (λ w. held_at w i n) c.mark_terms.ensures ∙ held_each (λ k s. mark_if (any_at k s.stamp (meant_terms c.self.inside.term_names)) s) (λ k. stays_mark_if (λ s. any_at k s.stamp (meant_terms c.self.inside.term_names))) c.self.inside.terms i n)
    (λ i n. ap (λ w. held_at w i n) c.mark_types.ensures ∙ held_each (λ k s. mark_if (any_at k s.stamp (meant_types c.self.inside.type_names)) s) (λ k. stays_mark_if (λ s. any_at k s.stamp (meant_types c.self.inside.type_names))) c.self.inside.types i n)
    c.regular.ensures.regular c.regular-2.ensures.regular refl refl refl
    (ap given c.mark_terms.ensures ∙ given_stays_each (λ k s. mark_if (any_at k s.stamp (meant_terms c.self.inside.term_names)) s) (λ k. stays_mark_if (λ s. any_at k s.stamp (meant_terms c.self.inside.term_names))) c.self.inside.terms 0)
    (ap given c.mark_types.ensures ∙ given_stays_each (λ k s. mark_if (any_at k s.stamp (meant_types c.self.inside.type_names)) s) (λ k. stays_mark_if (λ s. any_at k s.stamp (meant_types c.self.inside.type_names))) c.self.inside.types 0)
    refl refl
