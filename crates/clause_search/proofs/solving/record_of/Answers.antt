use Rattle.clause_search.proofs.Takes.{copy_more}
use Rattle.clause_search.proofs.solving.record_of.Goals as goal

pub loop-c-preserved : goal.loop-c-preserved
loop-c-preserved c =
    copy_more c.args.state.now.clauses.items c.loop-c.clauses c.push.new.self c.args.from c.loop-c.c c.in_ok-clause.clause c.loop-c.auto.c c.in_ok-clause.ensures c.loop-c.invariant c.in_ok-push.ensures.ok
