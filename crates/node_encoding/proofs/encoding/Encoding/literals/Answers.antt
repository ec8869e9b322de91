use Rattle.std.proofs.Common.{◌∙◌, ◌++◌, ◌∷◌, [], ap, get_or}
use Rattle.node_encoding.specs.Encoding.{lit_at}
use Rattle.node_encoding.proofs.Gets.{map_more}
use Rattle.node_encoding.proofs.Placing.{read_lit, slice_get_here}
use Rattle.node_encoding.proofs.encoding.Encoding.literals.Goals as goal

pub loop-place-preserved : goal.loop-place-preserved
loop-place-preserved c =
    let lits = c.args.self.now.lits.items in
    let places = c.args.places.now in
    let i = c.loop-place.place-index in
    map_more (lit_at lits) places i (get_or places i 0) c.loop-place.lits.items c.push.new.self.items (slice_get_here places i 0 c.loop-place-test.true) c.loop-place.invariant
    (c.in_ok-push.ensures.items ∙ ap (λ l. c.loop-place.lits.items ++ l ∷ []) (c.index.ensures ∙ read_lit lits (get_or places i 0) _ (c.requires i 0 c.loop-place-test.true)))
