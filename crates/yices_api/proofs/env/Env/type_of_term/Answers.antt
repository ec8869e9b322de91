use Rattle.std.proofs.Common.{◌≡◌, [], false, is_some, subst, inl}
use Rattle.term_table.specs.World.{node_at}
use Rattle.yices_api.specs.declared.calls.Call.TheVariants as call
use Rattle.yices_api.specs.declared.replies.CallError.TheVariants as error
use Rattle.yices_api.specs.declared.replies.Reply.TheVariants as reply
use Rattle.yices_api.specs.State.{State}
use Rattle.yices_api.specs.Calls.{of_term}
use Rattle.yices_api.specs.Steps.{Api}
use Rattle.yices_api.proofs.Stamps.{state}
use Rattle.yices_api.proofs.Dead.{refuses_head}
use Rattle.yices_api.proofs.Calling.{no_node}
use Rattle.yices_api.proofs.env.Env.type_of_term.Goals as goal

pub returns-in-None : goal.returns-in-None
returns-in-None c =
    let dead : is_some (node_at c.self.inside.table c.args.t) ≡ false = no_node c.self.inside.table c.args.t c.in-None.ensures in
    subst (λ (s : State). Api s (call.TypeOfTerm c.args.t) (reply.Refused (error.DeadTerm 1)) s) c.self.view_is (inl (refuses_head (state c.self.inside.table c.self.inside.contexts.slots c.self.inside.made) 1 (of_term c.args.t) [] dead))
