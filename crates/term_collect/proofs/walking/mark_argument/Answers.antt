use Rattle.std.proofs.Common.{sym}
use Rattle.term_shapes.specs.Shapes.{args_of}
use Rattle.term_collect.proofs.Sets.{term_marked_at}
use Rattle.term_collect.proofs.walking.mark_argument.Goals as goal

pub returns : goal.returns
returns c n has =
    term_marked_at c.args.table.now c.mark.new.self (args_of n.shape) c.args.place c.in-Some.of c.in-Some.ensures.live (sym (c.in-Some.ensures.at n has)) c.mark.ensures
