use Rattle.term_collect.proofs.Sets.{under_term}
use Rattle.term_collect.proofs.walking.mark_under.Goals as goal

pub returns : goal.returns
returns c =
    under_term c.args.table.now c.mark_arguments.new.table c.mark_own_type.new.table c.mark_named_type.new.table c.args.t c.requires c.mark_arguments.ensures c.mark_own_type.ensures c.mark_named_type.ensures
