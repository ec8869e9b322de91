use Rattle.clause_trail.specs.View.{lists_of}
use Rattle.clause_trail.proofs.Completing.{closed_at}
use Rattle.clause_trail.proofs.State.levels_closed.Goals as goal

pub returns : goal.returns
returns c = λ n s h. closed_at (lists_of c.args.self.now) n s c.requires h
