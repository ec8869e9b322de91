use Rattle.std.proofs.Common.{◌≡◌, [], ◌∷◌, false, is_some, subst, inl}
use Rattle.yices_api.specs.declared.calls.Call.TheVariants as call
use Rattle.yices_api.specs.declared.replies.CallError.TheVariants as error
use Rattle.yices_api.specs.declared.replies.Reply.TheVariants as reply
use Rattle.yices_api.specs.State.{State, context_in}
use Rattle.yices_api.specs.Calls.{of_context, of_term}
use Rattle.yices_api.specs.Steps.{Api}
use Rattle.yices_api.proofs.Stamps.{state}
use Rattle.yices_api.proofs.Dead.{refuses_head}
use Rattle.std.proofs.Common.{◌∙◌, sym, refl}
use Rattle.std.specs.Prelude.{IsSome}
use Rattle.y_tree.specs.Sorts.{boolean}
use Rattle.yices_api.specs.declared.replies.Reply.{Reply}
use Rattle.yices_api.specs.Told.{told_context}
use Rattle.yices_api.proofs.Outcomes.{asserted_environment}
use Rattle.yices_api.proofs.Staying.{sort_live}
use Rattle.yices_api.proofs.Calling.{arrive, asserted, unasserted}
use Rattle.yices_api.proofs.env.Env.assert_formula.Goals as goal
use Rattle.yices_api.proofs.env.Env.assert_formula.Goals.{in-Ok, in-Err}

pub returns-then-not-is_live : goal.returns-then-not-is_live
returns-then-not-is_live c =
    let dead : is_some (context_in c.self.inside.contexts.slots c.args.id) ≡ false = cc in
    subst (λ (s : State). Api s (call.AssertFormula c.args.id c.args.t) (reply.Refused (error.DeadContext 1)) s) c.self.view_is
    (inl (refuses_head (state c.self.inside.table c.self.inside.contexts.slots c.self.inside.made) 1 (of_context c.args.id) (of_term c.args.t ∷ []) dead))

pub invariant_of-self : goal.invariant_of-self
invariant_of-self c =
    asserted_environment c.self.inside.table c.self.inside.contexts.slots c.assert_in.new.contexts.slots c.self.inside.made c.args.id c.self.invariant c.assert_in.result c.args.t c.assert_in.ensures.asserted c.assert_in.ensures.formula c.assert_in.ensures.same

pub returns : goal.returns
returns c =
    let live : IsSome (context_in c.self.inside.contexts.slots c.args.id) = sym c.is_live.ensures ∙ c.if-not-is_live.false in
    elim c.match-assert_in.branch [
      | in-Ok w ↦
          arrive (λ (s : State) (r : Reply) (n : State). Api s (call.AssertFormula c.args.id c.args.t) r n) (state c.self.inside.table c.self.inside.contexts.slots c.self.inside.made) (state c.self.inside.table c.assert_in.new.contexts.slots c.self.inside.made) reply.Done c.args.self.now (state c.self.inside.table c.assert_in.new.contexts.slots c.self.inside.made) c.match-assert_in.result
          (asserted c.self.inside.table c.self.inside.contexts.slots c.assert_in.new.contexts.slots c.self.inside.made c.args.id live c.args.t (sort_live c.self.inside.table c.args.t boolean w.in-Ok.ensures.formula.sort) w.in-Ok.ensures.formula w.in-Ok.ensures.asserted)
          c.self.view_is (sym w.result-is) refl
      | in-Err w ↦
          arrive (λ (s : State) (r : Reply) (n : State). Api s (call.AssertFormula c.args.id c.args.t) r n) (state c.self.inside.table c.self.inside.contexts.slots c.self.inside.made) (state c.self.inside.table c.assert_in.new.contexts.slots c.self.inside.made) (told_context 2 w.in-Err.e) c.args.self.now (state c.self.inside.table c.assert_in.new.contexts.slots c.self.inside.made) c.match-assert_in.result
          (unasserted c.self.inside.table c.self.inside.contexts.slots c.assert_in.new.contexts.slots c.self.inside.made c.args.id live c.args.t w.in-Err.e w.in-Err.ensures.refused w.in-Err.ensures.same)
          c.self.view_is (sym (w.result-is ∙ w.of_context.ensures)) refl
    ]
