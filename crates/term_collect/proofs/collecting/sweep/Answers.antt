use Rattle.term_collect.proofs.Leaving.{leaves_reached, counts_first}
use Rattle.term_collect.proofs.collecting.sweep.Goals as goal

pub returns-clause-leaves : goal.returns-clause-leaves
returns-clause-leaves c =
    leaves_reached c.args.table.now c.mark_held.new.table c.spread.new.table c.mark_held.ensures c.spread.ensures c.is_table.ensures c.free_rest.new.table c.free_rest.ensures.swept

pub returns-clause-counts : goal.returns-clause-counts
returns-clause-counts c =
    counts_first c.args.table.now c.mark_held.new.table c.spread.new.table c.mark_held.ensures c.spread.ensures c.is_table.ensures c.free_rest.new.table c.free_rest.result.terms c.free_rest.result.types c.free_rest.ensures.counts
