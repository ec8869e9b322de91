use Rattle.std.proofs.Common.{[], is_some, sym, ap, inl, subst}
use Rattle.yices_api.specs.declared.calls.Call.TheVariants as call
use Rattle.yices_api.specs.declared.replies.Reply.TheVariants as reply
use Rattle.yices_api.specs.Calls.{of_context}
use Rattle.yices_api.specs.Steps.{Api}
use Rattle.yices_api.proofs.Dead.{refuses_head}
use Rattle.yices_api.proofs.Calling.{known}
use Rattle.yices_api.proofs.env.Env.context_status.Goals as goal

pub returns-in-None : goal.returns-in-None
returns-in-None c = inl (refuses_head c.args.self.now 1 (of_context c.args.id) [] (ap is_some (sym c.in-None.ensures)))

pub returns-in-Some : goal.returns-in-Some
returns-in-Some c =
    subst (λ r. Api c.args.self.now (call.ContextStatus c.args.id) (reply.Status r) c.args.self.now) (sym c.status.ensures)
    (known c.args.self.now c.args.id c.in-Some.context.now (sym c.in-Some.ensures))
