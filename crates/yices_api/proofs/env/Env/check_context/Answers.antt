use Rattle.std.proofs.Common.{◌≡◌, ◌∙◌, [], None, false, is_some, refl, subst, sym, inl}
use Rattle.std.specs.Prelude.{IsSome}
use Rattle.yices_api.specs.declared.calls.Call.TheVariants as call
use Rattle.yices_api.specs.declared.replies.CallError.TheVariants as error
use Rattle.yices_api.specs.declared.replies.Reply.{Reply}
use Rattle.yices_api.specs.declared.replies.Reply.TheVariants as reply
use Rattle.yices_api.specs.State.{State, context_in}
use Rattle.yices_api.specs.Calls.{of_context}
use Rattle.yices_api.specs.Told.{told_check}
use Rattle.yices_api.specs.Steps.{Api}
use Rattle.yices_api.proofs.Stamps.{state, found_formulas}
use Rattle.yices_api.proofs.Dead.{refuses_head}
use Rattle.yices_api.proofs.Outcomes.{checked_on}
use Rattle.yices_api.proofs.Calling.{arrive, checked_in}
use Rattle.yices_api.proofs.env.Env.check_context.Goals as goal

pub returns-then-not-is_live : goal.returns-then-not-is_live
returns-then-not-is_live c =
    let dead : is_some (context_in c.self.inside.contexts.slots c.args.id) ≡ false = cc in
    subst (λ (s : State). Api s (call.CheckContext c.args.id c.args.turns) (reply.Refused (error.DeadContext 1)) s) c.self.view_is
    (inl (refuses_head (state c.self.inside.table c.self.inside.contexts.slots c.self.inside.made) 1 (of_context c.args.id) [] dead))

pub check_in-found-requires : goal.check_in-found-requires
check_in-found-requires c =
    let live : IsSome (context_in c.self.inside.contexts.slots c.args.id) = sym c.is_live.ensures ∙ c.if-not-is_live.false in
    found_formulas c.self.inside.table c.self.inside.contexts.slots c.self.inside.made c.args.id c.self.invariant live

pub invariant_of-self : goal.invariant_of-self
invariant_of-self c =
    checked_on c.self.inside.table c.self.inside.contexts.slots c.check_in-found.new.contexts.slots c.self.inside.made c.args.id c.self.invariant None c.args.turns c.check_in-found.result c.check_in-found.ensures

pub returns : goal.returns
returns c =
    let live : IsSome (context_in c.self.inside.contexts.slots c.args.id) = sym c.is_live.ensures ∙ c.if-not-is_live.false in
    arrive (λ (s : State) (r : Reply) (n : State). Api s (call.CheckContext c.args.id c.args.turns) r n) (state c.self.inside.table c.self.inside.contexts.slots c.self.inside.made) (state c.self.inside.table c.check_in-found.new.contexts.slots c.self.inside.made) (told_check c.check_in-found.result) c.args.self.now (state c.self.inside.table c.check_in-found.new.contexts.slots c.self.inside.made) c.of_check.result
    (checked_in c.self.inside.table c.self.inside.contexts.slots c.check_in-found.new.contexts.slots c.self.inside.made c.args.id live c.args.turns c.check_in-found.result c.check_in-found.ensures)
    c.self.view_is (sym c.of_check.ensures) refl
