use Rattle.std.proofs.Common.{arith, refl}
use Rattle.clause_trail.proofs.Resolving.{reason_known, reason_some, reason_room, reason_false, resolved, cleared, on_ok}
use Rattle.clause_trail.proofs.analysis.Marks.resolve.Goals as goal

pub reason_at-requires-clause-known : goal.reason_at-requires-clause-known
reason_at-requires-clause-known c = reason_known _ _ _ _ c.args.start c.args.place _ c.requires.ready c.requires.marked c.requires.many c.requires.here

pub lits_at-requires : goal.lits_at-requires
lits_at-requires c = reason_room _ _ _ _ c.args.start c.args.place _ c.requires.ready c.requires.marked c.requires.many c.requires.here c.in-Some.reason c.in-Some.ensures

pub mark_all-requires-clause-marked : goal.mark_all-requires-clause-marked
mark_all-requires-clause-marked c =
    cleared _ _ _ _ c.args.start c.args.place _ c.requires.ready c.requires.marked c.requires.many c.requires.here _ _ refl (omega (arith, c.requires.many))

pub mark_all-requires-clause-false_there : goal.mark_all-requires-clause-false_there
mark_all-requires-clause-false_there c =
    reason_false _ _ _ c.args.state.now.clauses.items c.args.start c.args.place _ c.requires.ready c.requires.marked c.requires.many c.requires.here c.in-Some.reason c.in-Some.ensures _ c.lits_at.ensures

pub returns-in-Some : goal.returns-in-Some
returns-in-Some c =
    on_ok c.mark_all.result
    (resolved _ _ _ c.args.state.now.clauses.items c.args.start c.args.place _ c.requires.ready c.requires.marked c.requires.many c.requires.here c.in-Some.reason c.in-Some.ensures _ c.lits_at.ensures _ _ _ refl)
    c.mark_all.ensures

pub returns-in-None : goal.returns-in-None
returns-in-None c =
    absurd (reason_some _ _ _ c.args.state.now.clauses.items c.args.start c.args.place _ c.requires.ready c.requires.marked c.requires.many c.requires.here c.in-None.ensures)
