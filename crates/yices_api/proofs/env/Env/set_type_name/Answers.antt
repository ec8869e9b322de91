use Rattle.std.proofs.Common.{◌≡◌, ◌∙◌, sym, ap, refl}
use Rattle.yices_api.specs.declared.calls.Call.TheVariants as call
use Rattle.yices_api.specs.declared.replies.Reply.{Reply}
use Rattle.yices_api.specs.declared.replies.Reply.TheVariants as reply
use Rattle.yices_api.specs.State.{State}
use Rattle.yices_api.specs.Calls.{of_type}
use Rattle.yices_api.specs.Told.{told_table}
use Rattle.yices_api.specs.Steps.{Api}
use Rattle.yices_api.proofs.Stamps.{state, extended_environment}
use Rattle.yices_api.proofs.Tables.{replaced_extends}
use Rattle.yices_api.proofs.Outcomes.{done_extends}
use Rattle.term_table.specs.Naming.{type_named}
use Rattle.yices_api.proofs.Calling.{arrive, named, type_unnamed}
use Rattle.yices_api.proofs.env.Env.set_type_name.Goals as goal
use Rattle.yices_api.proofs.env.Env.set_type_name.Goals.{in-Ok, in-Err}

pub invariant_of-self : goal.invariant_of-self
invariant_of-self c =
    extended_environment c.self.inside.table c.set_type_name.new.self c.self.inside.contexts.slots c.self.inside.made c.is_table.ensures c.self.invariant
    (done_extends c.set_type_name.result (c.set_type_name.new.self ≡ type_named c.self.inside.table c.args.name.now c.args.t) c.self.inside.table c.set_type_name.new.self c.set_type_name.ensures.named c.set_type_name.ensures.same (λ e. replaced_extends c.self.inside.table (type_named c.self.inside.table c.args.name.now c.args.t) c.set_type_name.new.self e refl refl))

pub returns : goal.returns
returns c =
    elim c.match-set_type_name.branch [
      | in-Ok w ↦
          arrive (λ (s : State) (r : Reply) (n : State). Api s (call.SetTypeName c.args.name.now c.args.t) r n) (state c.self.inside.table c.self.inside.contexts.slots c.self.inside.made) (state c.set_type_name.new.self c.self.inside.contexts.slots c.self.inside.made) reply.Done c.args.self.now (state c.set_type_name.new.self c.self.inside.contexts.slots c.self.inside.made) c.match-set_type_name.result
          (named c.self.inside.table c.set_type_name.new.self c.self.inside.contexts.slots c.self.inside.made (of_type c.args.t) (type_named c.self.inside.table c.args.name.now c.args.t) w.in-Ok.ensures.live w.in-Ok.ensures.named)
          c.self.view_is (sym w.result-is) refl
      | in-Err w ↦
          arrive (λ (s : State) (r : Reply) (n : State). Api s (call.SetTypeName c.args.name.now c.args.t) r n) (state c.self.inside.table c.self.inside.contexts.slots c.self.inside.made) (state c.self.inside.table c.self.inside.contexts.slots c.self.inside.made) (told_table 2 w.in-Err.e) c.args.self.now (state c.set_type_name.new.self c.self.inside.contexts.slots c.self.inside.made) c.match-set_type_name.result
          (type_unnamed (state c.self.inside.table c.self.inside.contexts.slots c.self.inside.made) (type_named c.self.inside.table c.args.name.now c.args.t) c.args.t w.in-Err.e w.in-Err.ensures.refused)
          c.self.view_is (sym (w.result-is ∙ w.of_table.ensures)) (ap (λ z. state z c.self.inside.contexts.slots c.self.inside.made) (sym w.in-Err.ensures.same))
    ]
