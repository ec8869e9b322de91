use Rattle.std.proofs.Common.{◌∷◌, sym}
use Rattle.term_shapes.specs.Shapes.{types_of}
use Rattle.term_collect.proofs.Sets.{type_marked_at}
use Rattle.term_collect.proofs.walking.mark_named_type.Goals as goal

pub returns : goal.returns
returns c n has =
    type_marked_at c.args.table.now c.mark_type.new.self (n.of ∷ types_of n.shape) 1 c.in-Some.of c.in-Some.ensures.live (sym (c.in-Some.ensures.at n has)) c.mark_type.ensures
