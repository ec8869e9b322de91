use Rattle.std.proofs.Common.{◌∙◌, ◌+◌, length, sym, refl, subst, inl}
use Rattle.yices_api.specs.declared.replies.CallError.TheVariants as error
use Rattle.yices_api.specs.declared.replies.Reply.TheVariants as reply
use Rattle.yices_api.specs.State.{State}
use Rattle.yices_api.specs.Calls.{of_term, placed}
use Rattle.yices_api.specs.Told.{told_build}
use Rattle.yices_api.specs.Steps.{StepsBy, Builds}
use Rattle.yices_api.proofs.Stamps.{state, extended_environment}
use Rattle.yices_api.proofs.Dead.{terms_refused}
use Rattle.std.proofs.Common.{map}
use Rattle.yices_api.proofs.Tables.{most_extend}
use Rattle.yices_api.proofs.Calling.{arrive, built, unbuilt}
use Rattle.yices_api.proofs.env.Env.build.Goals as goal
use Rattle.yices_api.proofs.env.Env.build.Goals.{in-Ok, in-Err}

pub invariant_of-self : goal.invariant_of-self
invariant_of-self c =
    extended_environment c.self.inside.table c.build.new.table c.self.inside.contexts.slots c.self.inside.made c.is_table.ensures c.self.invariant
    (most_extend (4 + length c.args.arguments.now) c.self.inside.table c.build.new.table c.build.ensures.grown)

pub returns-in-Some : goal.returns-in-Some
returns-in-Some c =
    subst (λ (s : State). StepsBy (placed 1 (map of_term c.args.arguments.now)) (Builds c.args.operator c.args.arguments.now) s (reply.Refused (error.DeadTerm c.in-Some.place)) s) c.self.view_is
    (inl (terms_refused (state c.self.inside.table c.self.inside.contexts.slots c.self.inside.made) c.args.arguments.now c.in-Some.place c.in-Some.ensures.dead))

pub returns : goal.returns
returns c =
    elim c.match-build.branch [
      | in-Ok w ↦
          arrive (StepsBy (placed 1 (map of_term c.args.arguments.now)) (Builds c.args.operator c.args.arguments.now)) (state c.self.inside.table c.self.inside.contexts.slots c.self.inside.made) (state c.build.new.table c.self.inside.contexts.slots c.self.inside.made) (reply.Term w.in-Ok.t) c.args.self.now (state c.build.new.table c.self.inside.contexts.slots c.self.inside.made) c.match-build.result
          (built c.self.inside.table c.build.new.table c.self.inside.contexts.slots c.self.inside.made c.args.operator c.args.arguments.now c.in_default.ensures.live w.in-Ok.t w.in-Ok.ensures.built c.build.ensures.grown)
          c.self.view_is (sym w.result-is) refl
      | in-Err w ↦
          arrive (StepsBy (placed 1 (map of_term c.args.arguments.now)) (Builds c.args.operator c.args.arguments.now)) (state c.self.inside.table c.self.inside.contexts.slots c.self.inside.made) (state c.build.new.table c.self.inside.contexts.slots c.self.inside.made) (told_build w.in-Err.e) c.args.self.now (state c.build.new.table c.self.inside.contexts.slots c.self.inside.made) c.match-build.result
          (unbuilt c.self.inside.table c.build.new.table c.self.inside.contexts.slots c.self.inside.made c.args.operator c.args.arguments.now c.in_default.ensures.live w.in-Err.e w.in-Err.ensures.refused c.build.ensures.grown w.in-Err.ensures.same)
          c.self.view_is (sym (w.result-is ∙ w.of_build.ensures)) refl
    ]
