use Rattle.std.proofs.Common.{ap, length, ◌∙◌, sym, Some, None}
use Rattle.std.specs.Prelude.{slice_get}
use Rattle.clause_trail.specs.View.{Lists, assigned}
use Rattle.clause_logic.proofs.Gets.{push_here}
use Rattle.clause_trail.proofs.State.branch.Goals as goal

pub decide-requires-clause-level : goal.decide-requires-clause-level
decide-requires-clause-level c = (
  length c.args.self.now.starts.items,
  ap (λ (t : Lists). slice_get t.starts (length c.args.self.now.starts.items)) c.in_ok-open_level.ensures.ok ∙ push_here c.args.self.now.starts.items (length c.args.self.now.order.items) ∙ ap (λ (t : Lists). Some (length t.order)) (sym c.in_ok-open_level.ensures.ok),
)

pub returns-clause-ok : goal.returns-clause-ok
returns-clause-ok c = c.in_ok-decide.ensures.ok ∙ ap (λ (t : Lists). assigned t c.args.lit None) c.in_ok-open_level.ensures.ok
