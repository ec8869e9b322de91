use Rattle.std.proofs.Common.{◌∙◌, sym, ap, refl}
use Rattle.yices_api.specs.declared.calls.Call.TheVariants as call
use Rattle.yices_api.specs.declared.replies.Reply.{Reply}
use Rattle.yices_api.specs.declared.replies.Reply.TheVariants as reply
use Rattle.yices_api.specs.State.{State}
use Rattle.yices_api.specs.Told.{told_table}
use Rattle.yices_api.specs.Steps.{Api}
use Rattle.yices_api.proofs.Stamps.{state, extended_environment}
use Rattle.term_table.specs.World.{World}
use Rattle.term_table.specs.Changes.{MakesConstant}
use Rattle.term_shapes.specs.declared.handles.Term.{Term}
use Rattle.yices_api.proofs.Tables.{constant_extends}
use Rattle.yices_api.proofs.Outcomes.{made_extends}
use Rattle.yices_api.proofs.Calling.{arrive, made, unmade}
use Rattle.yices_api.proofs.env.Env.new_constant.Goals as goal
use Rattle.yices_api.proofs.env.Env.new_constant.Goals.{in-Ok, in-Err}

pub invariant_of-self : goal.invariant_of-self
invariant_of-self c =
    extended_environment c.self.inside.table c.new_constant.new.self c.self.inside.contexts.slots c.self.inside.made c.is_table.ensures c.self.invariant
    (made_extends c.new_constant.result (λ t. MakesConstant c.self.inside.table c.new_constant.new.self c.args.of t) c.self.inside.table c.new_constant.new.self c.new_constant.ensures.made c.new_constant.ensures.same (λ t h. constant_extends c.self.inside.table c.new_constant.new.self c.args.of t h))

pub returns : goal.returns
returns c =
    elim c.match-new_constant.branch [
      | in-Ok w ↦
          arrive (λ (s : State) (r : Reply) (n : State). Api s (call.NewUninterpretedTerm c.args.of) r n) (state c.self.inside.table c.self.inside.contexts.slots c.self.inside.made) (state c.new_constant.new.self c.self.inside.contexts.slots c.self.inside.made) (reply.Term w.in-Ok.t) c.args.self.now (state c.new_constant.new.self c.self.inside.contexts.slots c.self.inside.made) c.match-new_constant.result
          (made c.self.inside.table c.new_constant.new.self c.self.inside.contexts.slots c.self.inside.made (λ (w x : World) (t : Term). MakesConstant w x c.args.of t) c.args.of w.in-Ok.t w.in-Ok.ensures.made.live w.in-Ok.ensures.made)
          c.self.view_is (sym w.result-is) refl
      | in-Err w ↦
          arrive (λ (s : State) (r : Reply) (n : State). Api s (call.NewUninterpretedTerm c.args.of) r n) (state c.self.inside.table c.self.inside.contexts.slots c.self.inside.made) (state c.self.inside.table c.self.inside.contexts.slots c.self.inside.made) (told_table 1 w.in-Err.e) c.args.self.now (state c.new_constant.new.self c.self.inside.contexts.slots c.self.inside.made) c.match-new_constant.result
          (unmade (state c.self.inside.table c.self.inside.contexts.slots c.self.inside.made) (λ (w x : World) (t : Term). MakesConstant w x c.args.of t) c.args.of w.in-Err.e w.in-Err.ensures.refused)
          c.self.view_is (sym (w.result-is ∙ w.of_table.ensures)) (ap (λ z. state z c.self.inside.contexts.slots c.self.inside.made) (sym w.in-Err.ensures.same))
    ]
