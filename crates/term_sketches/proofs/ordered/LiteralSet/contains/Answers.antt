use Rattle.std.proofs.Common.{refl}
use Rattle.term_sketches.specs.Keys.{literal_of}
use Rattle.term_sketches.specs.Sketches.{literal_order}
use Rattle.term_sketches.proofs.Mapping.{found_as}
use Rattle.term_sketches.proofs.ordered.LiteralSet.contains.Goals as goal

pub returns : goal.returns
returns c =
    found_as literal_of _ literal_order (λ x y. refl) c.self.inside.set.keys c.literal_key.result c.args.self.now c.args.literal c.contains.result
    c.self.view_is c.literal_key.ensures c.contains.ensures
