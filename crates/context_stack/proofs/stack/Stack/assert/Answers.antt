use Rattle.std.proofs.Common.{subst, reverse}
use Rattle.context_stack.specs.Steps.{Asserts}
use Rattle.context_stack.specs.Levels.{levels_in}
use Rattle.context_stack.proofs.Stacks.{asserted, asserted_stack}
use Rattle.context_stack.proofs.stack.Stack.assert.Goals as goal

pub invariant_of-self-2 : goal.invariant_of-self-2
invariant_of-self-2 c =
    asserted_stack c.self.inside.marks.items c.self.inside.formulas.items c.append.new.list.items c.args.t c.in_ok-append.ensures.ok c.self.invariant

pub returns-clause-asserted : goal.returns-clause-asserted
returns-clause-asserted c =
    subst (λ x. Asserts x (levels_in c.append.new.list.items (reverse c.self.inside.marks.items)) c.args.t) c.self.view_is (asserted c.self.inside.formulas.items c.append.new.list.items (reverse c.self.inside.marks.items) c.args.t c.in_ok-append.ensures.ok c.self.invariant.fall)
