use Rattle.simplex_core.proofs.WideLemmas.{pivot_stops}
use Rattle.simplex_core.proofs.checking.pivot.Goals as goal

pub returns-in-Err-clause-wide : goal.returns-in-Err-clause-wide
returns-in-Err-clause-wide c = pivot_stops c.args.tableau.now c.pivot.new.self c.in-Err.error c.stop_at.result c.in-Err.ensures.err c.stop_at.ensures c.in-Err.ensures.wide
