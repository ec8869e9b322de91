use Rattle.std.proofs.Common.{◌≡◌, ◌∷◌, [], false, is_some, subst, inl}
use Rattle.yices_api.specs.declared.calls.Call.TheVariants as call
use Rattle.yices_api.specs.declared.replies.CallError.TheVariants as error
use Rattle.yices_api.specs.declared.replies.Reply.TheVariants as reply
use Rattle.yices_api.specs.State.{State, context_in}
use Rattle.yices_api.specs.Calls.{of_context}
use Rattle.yices_api.specs.Steps.{Api}
use Rattle.yices_api.proofs.Stamps.{state}
use Rattle.yices_api.proofs.Holding.{empty_formulas}
use Rattle.yices_api.proofs.Outcomes.{releveled_on}
use Rattle.yices_api.proofs.Dead.{refuses_head}
use Rattle.yices_api.proofs.env.Env.reset_context.Goals as goal

pub returns-then-not-is_live : goal.returns-then-not-is_live
returns-then-not-is_live c =
    let dead : is_some (context_in c.self.inside.contexts.slots c.args.id) ≡ false = cc in
    subst (λ (s : State). Api s (call.ResetContext c.args.id) (reply.Refused (error.DeadContext 1)) s) c.self.view_is
    (inl (refuses_head (state c.self.inside.table c.self.inside.contexts.slots c.self.inside.made) 1 (of_context c.args.id) [] dead))

pub invariant_of-self : goal.invariant_of-self
invariant_of-self c =
    releveled_on c.self.inside.table c.self.inside.contexts.slots c.reset_in.new.contexts.slots c.self.inside.made c.args.id c.self.invariant (λ ls ms. ms ≡ [] ∷ []) c.reset_in.ensures
    (λ ls ms h e. empty_formulas c.self.inside.table ms e)
