use Rattle.term_collect.specs.Reach.{IsKept}
use Rattle.term_collect.proofs.Listed.{kept_wait, kept_counts, leaves_kept, named_too}
use Rattle.term_collect.proofs.collecting.Collection.finish.Goals as goal

pub sweep-requires : goal.sweep-requires
sweep-requires c =
    kept_wait c.requires.0 c.mark_named.new.table (IsKept c.requires.0 c.requires.1 c.requires.2 c.args.keep_named) (named_too c.requires.0 c.args.self.table.now c.mark_named.new.table c.requires.1 c.requires.2 c.args.keep_named c.requires.3 c.mark_named.ensures)

pub returns-clause-leaves : goal.returns-clause-leaves
returns-clause-leaves c old ts us kept =
    leaves_kept old c.mark_named.new.table (IsKept old ts us c.args.keep_named) (named_too old c.args.self.table.now c.mark_named.new.table ts us c.args.keep_named kept c.mark_named.ensures) c.sweep.new.table c.sweep.ensures.leaves

pub returns-clause-counts : goal.returns-clause-counts
returns-clause-counts c old ts us kept =
    kept_counts old c.mark_named.new.table (IsKept old ts us c.args.keep_named) (named_too old c.args.self.table.now c.mark_named.new.table ts us c.args.keep_named kept c.mark_named.ensures) c.sweep.new.table c.sweep.result.terms c.sweep.result.types c.sweep.ensures.counts
