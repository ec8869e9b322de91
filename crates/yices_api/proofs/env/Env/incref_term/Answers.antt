use Rattle.std.proofs.Common.{◌≡◌, ◌∙◌, sym, ap, refl}
use Rattle.yices_api.specs.declared.calls.Call.TheVariants as call
use Rattle.yices_api.specs.declared.replies.CallError.TheVariants as error
use Rattle.yices_api.specs.declared.replies.Reply.{Reply}
use Rattle.yices_api.specs.declared.replies.Reply.TheVariants as reply
use Rattle.yices_api.specs.State.{State}
use Rattle.yices_api.specs.Calls.{of_term}
use Rattle.yices_api.specs.Told.{told_table}
use Rattle.yices_api.specs.Steps.{Api}
use Rattle.yices_api.proofs.Stamps.{state, extended_environment}
use Rattle.term_table.specs.World.{World}
use Rattle.term_table.specs.Changes.{CountsUp, count_at}
use Rattle.yices_api.proofs.Lasting.{up_extends}
use Rattle.yices_api.proofs.Outcomes.{done_extends}
use Rattle.yices_api.proofs.Calling.{arrive, counted, up_refused}
use Rattle.yices_api.proofs.env.Env.incref_term.Goals as goal
use Rattle.yices_api.proofs.env.Env.incref_term.Goals.{in-Ok, in-Err}

pub invariant_of-self : goal.invariant_of-self
invariant_of-self c =
    extended_environment c.self.inside.table c.incref.new.self c.self.inside.contexts.slots c.self.inside.made c.is_table.ensures c.self.invariant
    (done_extends c.incref.result (CountsUp c.self.inside.table c.incref.new.self c.args.t) c.self.inside.table c.incref.new.self c.incref.ensures.counted c.incref.ensures.same (up_extends c.args.t c.self.inside.table c.incref.new.self))

pub returns : goal.returns
returns c =
    elim c.match-incref.branch [
      | in-Ok w ↦
          arrive (λ (s : State) (r : Reply) (n : State). Api s (call.IncrefTerm c.args.t) r n) (state c.self.inside.table c.self.inside.contexts.slots c.self.inside.made) (state c.incref.new.self c.self.inside.contexts.slots c.self.inside.made) reply.Done c.args.self.now (state c.incref.new.self c.self.inside.contexts.slots c.self.inside.made) c.match-incref.result
          (counted c.self.inside.table c.incref.new.self c.self.inside.contexts.slots c.self.inside.made (λ (w x : World). CountsUp w x c.args.t) error.CountFull (count_at c.self.inside.table c.args.t ≡ 4294967295) (of_term c.args.t) w.in-Ok.ensures.counted.live w.in-Ok.ensures.counted)
          c.self.view_is (sym w.result-is) refl
      | in-Err w ↦
          arrive (λ (s : State) (r : Reply) (n : State). Api s (call.IncrefTerm c.args.t) r n) (state c.self.inside.table c.self.inside.contexts.slots c.self.inside.made) (state c.self.inside.table c.self.inside.contexts.slots c.self.inside.made) (told_table 1 w.in-Err.e) c.args.self.now (state c.incref.new.self c.self.inside.contexts.slots c.self.inside.made) c.match-incref.result
          (up_refused (state c.self.inside.table c.self.inside.contexts.slots c.self.inside.made) (λ (w x : World). CountsUp w x c.args.t) c.args.t w.in-Err.e w.in-Err.ensures.refused)
          c.self.view_is (sym (w.result-is ∙ w.of_table.ensures)) (ap (λ z. state z c.self.inside.contexts.slots c.self.inside.made) (sym w.in-Err.ensures.same))
    ]
