use Rattle.term_orders.proofs.Chains.{chains_end}
use Rattle.term_orders.proofs.ending.with_ends.Goals as goal

pub invariant_of-result : goal.invariant_of-result
invariant_of-result c = record { ends = chains_end c.args.table.now c.is_table.ensures }
