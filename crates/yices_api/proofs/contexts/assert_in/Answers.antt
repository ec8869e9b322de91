use Rattle.std.proofs.Common.{sym}
use Rattle.context_stack.specs.States.{IsUnchecked}
use Rattle.context_stack.specs.Steps.{Asserts}
use Rattle.yices_api.specs.Steps.{Relevels}
use Rattle.yices_api.proofs.Stamps.{altered}
use Rattle.yices_api.proofs.Outcomes.{done_both}
use Rattle.yices_api.proofs.contexts.assert_in.Goals as goal

pub returns-clause-asserted : goal.returns-clause-asserted
returns-clause-asserted c =
    done_both c.assert.result (Asserts c.in-Some.held.now.context.levels c.assert.new.self.levels c.args.t) (IsUnchecked c.assert.new.self) _ c.assert.ensures.asserted c.assert.ensures.unchecked
    (λ asserted unchecked. altered c.args.contexts.now.slots c.args.id c.in-Some.held.now (sym c.in-Some.ensures.value) c.requires (Relevels (λ ls ms. Asserts ls ms c.args.t)) c.assert.new.self (asserted, unchecked))
