use Rattle.std.proofs.Common.{refl}
use Rattle.term_sketches.specs.Keys.{literal_of}
use Rattle.term_sketches.specs.Sketches.{literal_order}
use Rattle.term_sketches.proofs.Mapping.{inserted_as}
use Rattle.term_sketches.proofs.ordered.LiteralSet.insert.Goals as goal

pub returns : goal.returns
returns c =
    inserted_as literal_of _ literal_order (λ x y. refl) c.self.inside.set.keys c.insert.new.self.keys c.literal_key.result c.args.self.now c.args.literal
    c.self.view_is c.literal_key.ensures c.in_ok-insert.ensures.keys
