use Rattle.std.proofs.Common.{◌≡◌, ◌∙◌, ◌+◌, Some, false, is_some, map, refl, subst, sym, inl}
use Rattle.std.specs.Prelude.{IsSome}
use Rattle.yices_api.specs.declared.calls.Call.TheVariants as call
use Rattle.yices_api.specs.declared.replies.CallError.TheVariants as error
use Rattle.yices_api.specs.declared.replies.Reply.{Reply}
use Rattle.yices_api.specs.declared.replies.Reply.TheVariants as reply
use Rattle.yices_api.specs.State.{State, context_in}
use Rattle.yices_api.specs.Calls.{of_term, placed}
use Rattle.yices_api.specs.Told.{told_check, told_context}
use Rattle.yices_api.specs.Steps.{Api}
use Rattle.yices_api.proofs.Stamps.{state, found_formulas}
use Rattle.yices_api.proofs.Dead.{refuses_assumed, refuses_assuming_head}
use Rattle.yices_api.proofs.Outcomes.{checked_environment}
use Rattle.yices_api.proofs.Calling.{arrive, checked_assuming, unchecked}
use Rattle.yices_api.proofs.env.Env.check_context_with_assumptions.Goals as goal
use Rattle.yices_api.proofs.env.Env.check_context_with_assumptions.Goals.{in-Ok, in-Err}

pub returns-then-not-is_live : goal.returns-then-not-is_live
returns-then-not-is_live c =
    let dead : is_some (context_in c.self.inside.contexts.slots c.args.id) ≡ false = cc in
    subst (λ (s : State). Api s (call.CheckContextWithAssumptions c.args.id c.args.turns c.args.assumed.now) (reply.Refused (error.DeadContext 1)) s) c.self.view_is
    (inl (refuses_assuming_head (state c.self.inside.table c.self.inside.contexts.slots c.self.inside.made) c.args.id (placed 3 (map of_term c.args.assumed.now)) dead))

pub returns-in-Some : goal.returns-in-Some
returns-in-Some c =
    let live : IsSome (context_in c.self.inside.contexts.slots c.args.id) = sym c.is_live.ensures ∙ c.if-not-is_live.false in
    subst (λ (s : State). Api s (call.CheckContextWithAssumptions c.args.id c.args.turns c.args.assumed.now) (reply.Refused (error.DeadTerm (c.in-Some.place + 2))) s) c.self.view_is
    (inl (refuses_assumed (state c.self.inside.table c.self.inside.contexts.slots c.self.inside.made) c.args.id live c.args.assumed.now c.in-Some.place c.in-Some.ensures.dead))

pub check_assuming_in-requires : goal.check_assuming_in-requires
check_assuming_in-requires c =
    let live : IsSome (context_in c.self.inside.contexts.slots c.args.id) = sym c.is_live.ensures ∙ c.if-not-is_live.false in
    found_formulas c.self.inside.table c.self.inside.contexts.slots c.self.inside.made c.args.id c.self.invariant live

pub invariant_of-self : goal.invariant_of-self
invariant_of-self c =
    checked_environment c.self.inside.table c.self.inside.contexts.slots c.check_assuming_in.new.contexts.slots c.self.inside.made c.args.id c.self.invariant c.check_assuming_in.result (Some c.args.assumed.now) c.args.turns c.check_assuming_in.ensures.checked c.check_assuming_in.ensures.same

pub returns : goal.returns
returns c =
    let live : IsSome (context_in c.self.inside.contexts.slots c.args.id) = sym c.is_live.ensures ∙ c.if-not-is_live.false in
    elim c.match-check_assuming_in.branch [
      | in-Ok w ↦
          arrive (λ (s : State) (r : Reply) (n : State). Api s (call.CheckContextWithAssumptions c.args.id c.args.turns c.args.assumed.now) r n) (state c.self.inside.table c.self.inside.contexts.slots c.self.inside.made) (state c.self.inside.table c.check_assuming_in.new.contexts.slots c.self.inside.made) (told_check w.in-Ok.found) c.args.self.now (state c.self.inside.table c.check_assuming_in.new.contexts.slots c.self.inside.made) c.match-check_assuming_in.result
          (checked_assuming c.self.inside.table c.self.inside.contexts.slots c.check_assuming_in.new.contexts.slots c.self.inside.made c.args.id live c.args.turns c.args.assumed.now c.in_default.ensures.live w.in-Ok.found w.in-Ok.ensures.checked)
          c.self.view_is (sym (w.result-is ∙ w.of_check.ensures)) refl
      | in-Err w ↦
          arrive (λ (s : State) (r : Reply) (n : State). Api s (call.CheckContextWithAssumptions c.args.id c.args.turns c.args.assumed.now) r n) (state c.self.inside.table c.self.inside.contexts.slots c.self.inside.made) (state c.self.inside.table c.check_assuming_in.new.contexts.slots c.self.inside.made) (told_context 1 w.in-Err.e) c.args.self.now (state c.self.inside.table c.check_assuming_in.new.contexts.slots c.self.inside.made) c.match-check_assuming_in.result
          (unchecked c.self.inside.table c.self.inside.contexts.slots c.check_assuming_in.new.contexts.slots c.self.inside.made c.args.id live c.args.turns c.args.assumed.now c.in_default.ensures.live w.in-Err.e w.in-Err.ensures.refused w.in-Err.ensures.same)
          c.self.view_is (sym (w.result-is ∙ w.of_context.ensures)) refl
    ]
