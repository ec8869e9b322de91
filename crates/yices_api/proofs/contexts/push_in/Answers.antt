use Rattle.std.proofs.Common.{◌≡◌, ◌<◌, ◌++◌, ◌∷◌, [], length, sym}
use Rattle.context_stack.specs.States.{IsUnchecked}
use Rattle.yices_api.specs.Steps.{Relevels}
use Rattle.yices_api.proofs.Stamps.{altered}
use Rattle.yices_api.proofs.Outcomes.{done_both}
use Rattle.yices_api.proofs.contexts.push_in.Goals as goal

pub returns-clause-opened : goal.returns-clause-opened
returns-clause-opened c =
    done_both c.push.result ((length c.in-Some.held.now.context.levels < 65537) × (c.push.new.self.levels ≡ c.in-Some.held.now.context.levels ++ [] ∷ [])) (IsUnchecked c.push.new.self) _
    (done_both c.push.result (length c.in-Some.held.now.context.levels < 65537) (c.push.new.self.levels ≡ c.in-Some.held.now.context.levels ++ [] ∷ []) _ c.push.ensures.room c.push.ensures.opened (λ room opened. (room, opened)))
    c.push.ensures.unchecked
    (λ how unchecked. altered c.args.contexts.now.slots c.args.id c.in-Some.held.now (sym c.in-Some.ensures.value) c.requires (Relevels (λ ls ms. (length ls < 65537) × (ms ≡ ls ++ [] ∷ []))) c.push.new.self (how, unchecked))
