use Rattle.std.proofs.Common.{◌∙◌, refl, sym, ap, map, if◌then◌else◌}
use Rattle.std.specs.Set.{remove_key}
use Rattle.std.specs.BTreeSet.{insert_key}
use Rattle.std.proofs.lemmas.Bool.{OnFalse_at}
use Rattle.term_sketches.specs.Keys.{atom_of}
use Rattle.term_sketches.specs.Sketches.{term_order, same_term}
use Rattle.term_sketches.proofs.Mapping.{found_as, removed_as}
use Rattle.term_sketches.proofs.ordered.AtomSet.toggle.Goals as goal

pub returns-then-remove : goal.returns-then-remove
returns-then-remove c =
    removed_as atom_of _ term_order (λ x y. refl) c.self.inside.set.keys c.remove.new.self.keys c.atom_key.result c.args.self.now c.args.atom
    c.self.view_is c.atom_key.ensures c.remove.ensures.keys
    ∙ ap (λ b. if b then remove_key (same_term c.args.atom) c.args.self.now else insert_key term_order c.args.self.now c.args.atom)
    (sym c.if-remove.true ∙ found_as atom_of _ term_order (λ x y. refl) c.self.inside.set.keys c.atom_key.result c.args.self.now c.args.atom c.remove.result c.self.view_is c.atom_key.ensures c.remove.ensures.test)

pub returns : goal.returns
returns c =
    c.in_ok-insert.ensures ∙ ap (λ xs. insert_key term_order xs c.args.atom) (ap (map atom_of) (OnFalse_at c.if-remove.false c.remove.ensures.unchanged) ∙ c.self.view_is)
    ∙ ap (λ b. if b then remove_key (same_term c.args.atom) c.args.self.now else insert_key term_order c.args.self.now c.args.atom)
    (sym c.if-remove.false ∙ found_as atom_of _ term_order (λ x y. refl) c.self.inside.set.keys c.atom_key.result c.args.self.now c.args.atom c.remove.result c.self.view_is c.atom_key.ensures c.remove.ensures.test)
