use Rattle.std.proofs.Common.{refl}
use Rattle.term_sketches.specs.Keys.{atom_of}
use Rattle.term_sketches.specs.Sketches.{term_order}
use Rattle.term_sketches.proofs.Mapping.{inserted_as}
use Rattle.term_sketches.proofs.ordered.AtomSet.insert.Goals as goal

pub returns : goal.returns
returns c =
    inserted_as atom_of _ term_order (λ x y. refl) c.self.inside.set.keys c.insert.new.self.keys c.atom_key.result c.args.self.now c.args.atom
    c.self.view_is c.atom_key.ensures c.in_ok-insert.ensures.keys
