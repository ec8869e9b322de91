use Rattle.std.proofs.Common.{take}
use Rattle.name_stacks.specs.Heads.{shown, AreRaised}
use Rattle.name_stacks.proofs.names.raise.Given as goal

abbrev pub invariant-loop-pair : goal.invariant-loop-pair
invariant-loop-pair g l = AreRaised (g.T.Keeps.passes l.test) l.heads (shown (take l.pair-index l.pairs)) (shown l.pairs)
