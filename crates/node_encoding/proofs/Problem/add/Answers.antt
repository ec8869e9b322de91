use Rattle.node_encoding.proofs.TreeLaws.{formed_push}
use Rattle.node_encoding.proofs.Problem.add.Goals as goal

pub invariant_of-self-2 : goal.invariant_of-self-2
invariant_of-self-2 c =
    rw c.in_ok-push.ensures.items (formed_push c.self.inside.nodes.items c.args.node c.self.invariant (rw c.self.view_is c.requires))
