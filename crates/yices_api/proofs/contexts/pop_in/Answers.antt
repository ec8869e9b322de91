use Rattle.std.proofs.Common.{sym}
use Rattle.context_stack.specs.States.{IsUnchecked}
use Rattle.context_stack.specs.Steps.{Pops}
use Rattle.yices_api.specs.Steps.{Relevels}
use Rattle.yices_api.proofs.Stamps.{altered}
use Rattle.yices_api.proofs.Outcomes.{done_both}
use Rattle.yices_api.proofs.contexts.pop_in.Goals as goal

pub returns-clause-popped : goal.returns-clause-popped
returns-clause-popped c =
    done_both c.pop.result (Pops c.in-Some.held.now.context.levels c.pop.new.self.levels) (IsUnchecked c.pop.new.self) _ c.pop.ensures.popped c.pop.ensures.unchecked
    (λ popped unchecked. altered c.args.contexts.now.slots c.args.id c.in-Some.held.now (sym c.in-Some.ensures.value) c.requires (Relevels Pops) c.pop.new.self (popped, unchecked))
