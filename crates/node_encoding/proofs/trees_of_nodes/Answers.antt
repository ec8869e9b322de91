use Rattle.node_encoding.proofs.TreeLaws.{tree_at_older, tree_at_new}
use Rattle.node_encoding.proofs.trees_of_nodes.Goals as goal

pub returns : goal.returns
returns c = record { older = tree_at_older; new = tree_at_new }
