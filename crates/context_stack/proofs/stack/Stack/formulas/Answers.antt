use Rattle.std.proofs.Common.{◌∙◌, sym, ap, reverse}
use Rattle.context_stack.specs.Levels.{formulas}
use Rattle.context_stack.proofs.Stacks.{formulas_in}
use Rattle.context_stack.proofs.stack.Stack.formulas.Goals as goal

pub returns : goal.returns
returns c =
    c.as_slice.ensures.value ∙ sym (formulas_in c.self.inside.formulas.items (reverse c.self.inside.marks.items)) ∙ ap formulas c.self.view_is
