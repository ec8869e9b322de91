use Rattle.std.proofs.Common.{◌≡◌, ◌∙◌, [], ◌∷◌, false, true, is_some, ap, subst, inl, inr, ⊎_elim}
use Rattle.term_table.specs.World.{type_shape_at}
use Rattle.term_texts.specs.TypeTexts.{type_name}
use Rattle.yices_api.specs.declared.calls.Call.TheVariants as call
use Rattle.yices_api.specs.declared.replies.CallError.TheVariants as error
use Rattle.yices_api.specs.declared.replies.Reply.TheVariants as reply
use Rattle.yices_api.specs.State.{State}
use Rattle.yices_api.specs.Calls.{of_type, placed}
use Rattle.yices_api.specs.Told.{text_or_nothing}
use Rattle.yices_api.specs.Steps.{Api}
use Rattle.yices_api.proofs.Stamps.{state}
use Rattle.yices_api.proofs.Dead.{refuses_head, live_one}
use Rattle.yices_api.proofs.Calling.{tells_if_room}
use Rattle.yices_api.proofs.env.Env.type_name.Goals as goal

pub returns-then-not-is_live_type : goal.returns-then-not-is_live_type
returns-then-not-is_live_type c =
    let dead : is_some (type_shape_at c.self.inside.table c.args.t) ≡ false = cc in
    subst (λ (s : State). Api s (call.GetTypeName c.args.t) (reply.Refused (error.DeadType 1)) s) c.self.view_is (inl (refuses_head (state c.self.inside.table c.self.inside.contexts.slots c.self.inside.made) 1 (of_type c.args.t) [] dead))

pub returns-in-Some : goal.returns-in-Some
returns-in-Some c =
    let live : is_some (type_shape_at c.self.inside.table c.args.t) ≡ true = cc in
    subst (λ (s : State). Api s (call.GetTypeName c.args.t) c.of_text.result s) c.self.view_is
    (tells_if_room (state c.self.inside.table c.self.inside.contexts.slots c.self.inside.made) (text_or_nothing (type_name c.self.inside.table c.args.t)) c.of_text.result (placed 1 (of_type c.args.t ∷ [])) (live_one (state c.self.inside.table c.self.inside.contexts.slots c.self.inside.made) 1 (of_type c.args.t) live) (⊎_elim (λ e. inl (e ∙ ap text_or_nothing c.in-Some.ensures)) inr c.of_text.ensures))

pub returns-in-None : goal.returns-in-None
returns-in-None c =
    let live : is_some (type_shape_at c.self.inside.table c.args.t) ≡ true = cc in
    subst (λ (s : State). Api s (call.GetTypeName c.args.t) reply.Nothing s) c.self.view_is
    (tells_if_room (state c.self.inside.table c.self.inside.contexts.slots c.self.inside.made) (text_or_nothing (type_name c.self.inside.table c.args.t)) reply.Nothing (placed 1 (of_type c.args.t ∷ [])) (live_one (state c.self.inside.table c.self.inside.contexts.slots c.self.inside.made) 1 (of_type c.args.t) live) (inl (ap text_or_nothing c.in-None.ensures)))
