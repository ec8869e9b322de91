use Rattle.std.proofs.Common.{◌≡◌, ap, length, subst, refl, reverse, arith}
use Rattle.context_stack.specs.Steps.{Pops}
use Rattle.context_stack.specs.Levels.{levels_in}
use Rattle.context_stack.proofs.Stacks.{popped, popped_stack, level_count}
use Rattle.context_stack.proofs.stack.Stack.pop.Goals as goal

pub invariant_of-self : goal.invariant_of-self
invariant_of-self c =
    popped_stack c.self.inside.formulas.items c.truncate.new.self.items c.self.inside.marks.items c.pop.new.self.items c.in-Some.mark c.in-Some.ensures.items c.truncate.ensures.items c.self.invariant

pub returns-in-Some-clause-popped : goal.returns-in-Some-clause-popped
returns-in-Some-clause-popped c =
    subst (λ x. Pops x (levels_in c.truncate.new.self.items (reverse c.pop.new.self.items))) c.self.view_is (popped c.self.inside.formulas.items c.truncate.new.self.items c.self.inside.marks.items c.pop.new.self.items c.in-Some.mark c.in-Some.ensures.items c.truncate.ensures.items)

pub returns-in-Some-clause-above : goal.returns-in-Some-clause-above
returns-in-Some-clause-above c =
    omega (arith, c.in-Some.ensures.cases, c.self.inside.marks.ok.0, level_count c.self.inside.formulas.items c.self.inside.marks.items, ap length c.self.view_is)

pub returns-in-None-clause-refused : goal.returns-in-None-clause-refused
returns-in-None-clause-refused c = (
  refl,
  omega (arith, c.in-None.ensures.cases.0, c.self.inside.marks.ok.0, level_count c.self.inside.formulas.items c.self.inside.marks.items, ap length c.self.view_is),
)
