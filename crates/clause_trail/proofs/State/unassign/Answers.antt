use Rattle.std.proofs.Common.{arith}
use Rattle.clause_trail.specs.View.{lists_of}
use Rattle.clause_trail.proofs.Lowering.{popped_known}
use Rattle.clause_trail.proofs.State.unassign.Goals as goal

pub index_mut-requires : goal.index_mut-requires
index_mut-requires c =
    omega (arith, popped_known (lists_of c.args.self.now) c.pop.new.self.items c.in-Some.lit c.requires.base c.in-Some.ensures.items, c.args.self.now.values.ok.0)
