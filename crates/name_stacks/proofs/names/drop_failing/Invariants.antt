use Rattle.std.proofs.Common.{take}
use Rattle.name_stacks.specs.Heads.{shown, AreLeft}
use Rattle.name_stacks.proofs.names.drop_failing.Given as goal

abbrev pub invariant-loop-pair : goal.invariant-loop-pair
invariant-loop-pair g l = AreLeft (g.T.Keeps.passes l.test) l.heads (shown (take l.pair-index l.pairs)) (shown l.pairs)
