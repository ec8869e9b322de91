use Rattle.std.proofs.Common.{[], is_some, sym, ap, inl}
use Rattle.yices_api.specs.Calls.{of_context}
use Rattle.yices_api.proofs.Dead.{refuses_head}
use Rattle.yices_api.proofs.env.Env.unsat_core.Goals as goal

pub returns-in-None : goal.returns-in-None
returns-in-None c = inl (refuses_head c.args.self.now 1 (of_context c.args.id) [] (ap is_some (sym c.in-None.ensures)))
