use Rattle.std.proofs.Common.{◌≡◌, ◌++◌, [], ◌∷◌, length, ◌<◌, false, is_some, subst, inl}
use Rattle.yices_api.specs.declared.calls.Call.TheVariants as call
use Rattle.yices_api.specs.declared.replies.CallError.TheVariants as error
use Rattle.yices_api.specs.declared.replies.Reply.TheVariants as reply
use Rattle.yices_api.specs.State.{State, context_in}
use Rattle.yices_api.specs.Calls.{of_context}
use Rattle.yices_api.specs.Steps.{Api}
use Rattle.yices_api.proofs.Stamps.{state}
use Rattle.yices_api.proofs.Holding.{pushed_formulas}
use Rattle.yices_api.proofs.Dead.{refuses_head}
use Rattle.yices_api.proofs.Outcomes.{releveled_environment}
use Rattle.yices_api.proofs.env.Env.push.Goals as goal

pub returns-then-not-is_live : goal.returns-then-not-is_live
returns-then-not-is_live c =
    let dead : is_some (context_in c.self.inside.contexts.slots c.args.id) ≡ false = cc in
    subst (λ (s : State). Api s (call.Push c.args.id) (reply.Refused (error.DeadContext 1)) s) c.self.view_is
    (inl (refuses_head (state c.self.inside.table c.self.inside.contexts.slots c.self.inside.made) 1 (of_context c.args.id) [] dead))

pub invariant_of-self : goal.invariant_of-self
invariant_of-self c =
    releveled_environment c.self.inside.table c.self.inside.contexts.slots c.push_in.new.contexts.slots c.self.inside.made c.args.id c.self.invariant c.push_in.result (λ ls ms. (length ls < 65537) × (ms ≡ ls ++ [] ∷ [])) c.push_in.ensures.opened c.push_in.ensures.same
    (λ ls ms h pushed. pushed_formulas c.self.inside.table ls ms h pushed.1)
