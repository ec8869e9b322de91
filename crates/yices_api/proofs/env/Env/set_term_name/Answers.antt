use Rattle.std.proofs.Common.{◌≡◌, ◌∙◌, sym, ap, refl}
use Rattle.yices_api.specs.declared.calls.Call.TheVariants as call
use Rattle.yices_api.specs.declared.replies.Reply.{Reply}
use Rattle.yices_api.specs.declared.replies.Reply.TheVariants as reply
use Rattle.yices_api.specs.State.{State}
use Rattle.yices_api.specs.Calls.{of_term}
use Rattle.yices_api.specs.Told.{told_table}
use Rattle.yices_api.specs.Steps.{Api}
use Rattle.yices_api.proofs.Stamps.{state, extended_environment}
use Rattle.yices_api.proofs.Tables.{replaced_extends}
use Rattle.yices_api.proofs.Outcomes.{done_extends}
use Rattle.term_table.specs.Naming.{term_named}
use Rattle.yices_api.proofs.Calling.{arrive, named, unnamed}
use Rattle.yices_api.proofs.env.Env.set_term_name.Goals as goal
use Rattle.yices_api.proofs.env.Env.set_term_name.Goals.{in-Ok, in-Err}

pub invariant_of-self : goal.invariant_of-self
invariant_of-self c =
    extended_environment c.self.inside.table c.set_name.new.self c.self.inside.contexts.slots c.self.inside.made c.is_table.ensures c.self.invariant
    (done_extends c.set_name.result (c.set_name.new.self ≡ term_named c.self.inside.table c.args.name.now c.args.t) c.self.inside.table c.set_name.new.self c.set_name.ensures.named c.set_name.ensures.same (λ e. replaced_extends c.self.inside.table (term_named c.self.inside.table c.args.name.now c.args.t) c.set_name.new.self e refl refl))

pub returns : goal.returns
returns c =
    elim c.match-set_name.branch [
      | in-Ok w ↦
          arrive (λ (s : State) (r : Reply) (n : State). Api s (call.SetTermName c.args.name.now c.args.t) r n) (state c.self.inside.table c.self.inside.contexts.slots c.self.inside.made) (state c.set_name.new.self c.self.inside.contexts.slots c.self.inside.made) reply.Done c.args.self.now (state c.set_name.new.self c.self.inside.contexts.slots c.self.inside.made) c.match-set_name.result
          (named c.self.inside.table c.set_name.new.self c.self.inside.contexts.slots c.self.inside.made (of_term c.args.t) (term_named c.self.inside.table c.args.name.now c.args.t) w.in-Ok.ensures.live w.in-Ok.ensures.named)
          c.self.view_is (sym w.result-is) refl
      | in-Err w ↦
          arrive (λ (s : State) (r : Reply) (n : State). Api s (call.SetTermName c.args.name.now c.args.t) r n) (state c.self.inside.table c.self.inside.contexts.slots c.self.inside.made) (state c.self.inside.table c.self.inside.contexts.slots c.self.inside.made) (told_table 2 w.in-Err.e) c.args.self.now (state c.set_name.new.self c.self.inside.contexts.slots c.self.inside.made) c.match-set_name.result
          (unnamed (state c.self.inside.table c.self.inside.contexts.slots c.self.inside.made) (term_named c.self.inside.table c.args.name.now c.args.t) c.args.t w.in-Err.e w.in-Err.ensures.refused)
          c.self.view_is (sym (w.result-is ∙ w.of_table.ensures)) (ap (λ z. state z c.self.inside.contexts.slots c.self.inside.made) (sym w.in-Err.ensures.same))
    ]
