use Rattle.std.proofs.Common.{◌≡◌, ◌∙◌, [], false, is_some, refl, subst, sym, inl}
use Rattle.std.specs.Prelude.{IsSome}
use Rattle.yices_api.specs.declared.calls.Call.TheVariants as call
use Rattle.yices_api.specs.declared.replies.CallError.TheVariants as error
use Rattle.yices_api.specs.declared.replies.Reply.TheVariants as reply
use Rattle.yices_api.specs.State.{State, context_in}
use Rattle.yices_api.specs.Calls.{of_context}
use Rattle.yices_api.specs.Steps.{Api}
use Rattle.yices_api.proofs.Stamps.{state, lost_environment}
use Rattle.yices_api.proofs.Calling.{lost}
use Rattle.yices_api.proofs.Dead.{refuses_head}
use Rattle.yices_api.proofs.env.Env.free_context.Goals as goal

pub returns-then-not-is_live : goal.returns-then-not-is_live
returns-then-not-is_live c =
    let dead : is_some (context_in c.self.inside.contexts.slots c.args.id) ≡ false = cc in
    subst (λ (s : State). Api s (call.FreeContext c.args.id) (reply.Refused (error.DeadContext 1)) s) c.self.view_is
    (inl (refuses_head (state c.self.inside.table c.self.inside.contexts.slots c.self.inside.made) 1 (of_context c.args.id) [] dead))

pub invariant_of-self : goal.invariant_of-self
invariant_of-self c =
    let live : IsSome (context_in c.self.inside.contexts.slots c.args.id) = sym c.is_live.ensures ∙ c.if-not-is_live.false in
    lost_environment c.self.inside.table c.self.inside.contexts.slots c.try_remove-freed.new.self.slots c.self.inside.made c.self.inside.made c.self.invariant c.args.id
    (lost c.self.inside.contexts c.try_remove-freed.new.self c.args.id live c.try_remove-freed.ensures.updates) refl
