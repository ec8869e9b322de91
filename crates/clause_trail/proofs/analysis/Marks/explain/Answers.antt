use Rattle.std.proofs.Common.{arith, refl}
use Rattle.clause_trail.proofs.Cores.{count_here, cleared_marks, on_trail_here, cause_known, cause_room, cause_false, explained_by, explained_root}
use Rattle.clause_trail.proofs.analysis.Marks.explain.Goals as goal

pub overflow_sub-self : goal.overflow_sub-self
overflow_sub-self c = omega (arith, count_here _ c.args.place _ c.requires.marked c.requires.here)

pub reason_at-requires-clause-place : goal.reason_at-requires-clause-place
reason_at-requires-clause-place c = on_trail_here _ c.args.place _ c.requires.marked c.requires.here _ _ _ _ c.requires.rooted

pub reason_at-requires-clause-known : goal.reason_at-requires-clause-known
reason_at-requires-clause-known c = cause_known _ c.args.place _ c.requires.marked c.requires.here _ _ _ _ c.requires.rooted

pub lits_at-requires : goal.lits_at-requires
lits_at-requires c = cause_room _ c.args.place _ c.requires.marked c.requires.here _ _ _ _ c.requires.rooted c.in-Some.reason c.in-Some.ensures

pub mark_all-requires-clause-marked : goal.mark_all-requires-clause-marked
mark_all-requires-clause-marked c =
    cleared_marks _ c.args.place _ c.requires.marked c.requires.here _ _ refl (omega (arith, count_here _ c.args.place _ c.requires.marked c.requires.here))

pub mark_all-requires-clause-false_there : goal.mark_all-requires-clause-false_there
mark_all-requires-clause-false_there c =
    cause_false _ c.args.place _ c.requires.marked c.requires.here _ _ c.args.state.now.clauses.items _ c.requires.rooted c.in-Some.reason c.in-Some.ensures _ c.lits_at.ensures

pub lit_at-requires : goal.lit_at-requires
lit_at-requires c = on_trail_here _ c.args.place _ c.requires.marked c.requires.here _ _ _ _ c.requires.rooted

pub returns-in_ok-mark_all-in-Some : goal.returns-in_ok-mark_all-in-Some
returns-in_ok-mark_all-in-Some c =
    explained_by _ c.args.place _ c.requires.marked c.requires.here _ _ c.args.state.now.clauses.items _ c.requires.rooted c.in-Some.reason c.in-Some.ensures _ c.lits_at.ensures
    _ _ _ _ _ refl c.in_ok-mark_all-in-Some.ensures refl

pub returns-in_ok-push-in-None : goal.returns-in_ok-push-in-None
returns-in_ok-push-in-None c =
    explained_root _ c.args.place _ c.requires.marked c.requires.here _ _ c.args.state.now.clauses.items _ c.requires.rooted
    _ _ _ _ c.lit_at.result c.in-None.ensures c.lit_at.ensures refl (omega (arith, count_here _ c.args.place _ c.requires.marked c.requires.here)) c.in_ok-push-in-None.ensures.items
