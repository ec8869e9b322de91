use Rattle.std.proofs.Common.{ap, map}
use Rattle.yices_session.specs.View.{held_of}
use Rattle.yices_session.proofs.Viewing.{plain_name}
use Rattle.yices_session.proofs.Showing.{session_truths, shows_model, shows_none}
use Rattle.yices_session.proofs.session.Session.show_model.Goals as goal
use Rattle.yices_session.proofs.session.Session.show_model.Goals.{in-Some+in_ok-text-in-Some, in-None}

pub show_names-requires-clause-truths : goal.show_names-requires-clause-truths
show_names-requires-clause-truths c = session_truths (held_of c.self.inside) c.table-table.result.now c.as_slice.result.now c.self.invariant c.table-table.ensures (ap (map plain_name) c.as_slice.ensures.value)

pub returns-clause-step : goal.returns-clause-step
returns-clause-step c =
    let h = held_of c.self.inside in
    elim c.match-self.branch [
      | in-Some+in_ok-text-in-Some w ↦
          rw w.result-is (shows_model h c.args.self.now c.self.view_is c.known.ensures c.table-table.result.now c.is_table.ensures w.as_slice.result.now w.in-Some.model _ c.table-table.ensures (ap (map plain_name) w.as_slice.ensures.value) w.in-Some.is w.in_ok-text-in-Some.ensures.lines)
      | in-None w ↦ rw w.result-is (shows_none h c.args.self.now c.self.view_is w.in-None.is)
    ]
