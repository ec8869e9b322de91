use Rattle.std.proofs.Common.{sym}
use Rattle.term_shapes.specs.Shapes.{parts_of}
use Rattle.term_collect.proofs.Sets.{type_marked_at}
use Rattle.term_collect.proofs.walking.mark_part.Goals as goal

pub returns : goal.returns
returns c n has =
    type_marked_at c.args.table.now c.mark_type.new.self (parts_of n) c.args.place c.in-Some.of c.in-Some.ensures.live (sym (c.in-Some.ensures.at n has)) c.mark_type.ensures
