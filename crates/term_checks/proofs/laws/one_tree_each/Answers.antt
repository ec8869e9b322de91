use Rattle.term_checks.proofs.Carried.{one_tree_each}
use Rattle.term_checks.proofs.laws.one_tree_each.Goals as goal

pub returns : goal.returns
returns c = one_tree_each
