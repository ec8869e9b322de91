use Rattle.simplex_table.specs.View.{deltas}
use Rattle.simplex_core.proofs.WideLemmas.{vertex_stops}
use Rattle.simplex_core.proofs.checking.anew.Goals as goal

pub returns-in-Err-clause-wide : goal.returns-in-Err-clause-wide
returns-in-Err-clause-wide c = vertex_stops c.args.tableau.now (deltas c.args.at_columns.now) c.in-Err.error c.stop_at.result c.stop_at.ensures c.in-Err.ensures.wide
