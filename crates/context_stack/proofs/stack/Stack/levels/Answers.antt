use Rattle.std.proofs.Common.{ap, length, arith}
use Rattle.context_stack.proofs.Stacks.{level_count}
use Rattle.context_stack.proofs.stack.Stack.levels.Goals as goal

pub returns : goal.returns
returns c =
    omega (arith, c.len.ensures, c.self.inside.marks.ok.0, level_count c.self.inside.formulas.items c.self.inside.marks.items, ap length c.self.view_is)
