use Rattle.std.proofs.Common.{arith, ◌≡◌, ◌<◌, ◌+◌, ◌-◌, inr, ℕ, false, Some, length, replicate, ◌∙◌, ap, subst}
use Rattle.clause_trail.specs.Analysis.{CoreSoFar, Covers}
use Rattle.clause_trail.specs.Analysis.{marks_of}
use Rattle.clause_trail.proofs.Counts.{read_there}
use Rattle.clause_trail.proofs.Resolving.{fresh_marked, waiting_some}
use Rattle.clause_trail.proofs.Cores.{core_begins, core_passes, core_steps, core_ends}
use Rattle.clause_trail.proofs.analysis.core_of.Goals as goal

pub mark_all-requires-clause-marked : goal.mark_all-requires-clause-marked
mark_all-requires-clause-marked c =
    let e : c.len-len.result ≡ length c.args.state.now.order.items = omega (arith, c.args.state.now.order.ok) in
    rw e
    (fresh_marked c.args.state.now.order.items c.args.state.now.places.items 0 c.args.lits.now c.requires.rooted.placed c.requires.false_there _ _ _ _
    (c.in_ok-marks.ensures.waiting ∙ ap (λ (n : ℕ). replicate n false) e) (c.in_ok-marks.ensures.kept ∙ ap (λ (n : ℕ). replicate n false) e) c.in_ok-marks.ensures.lower c.in_ok-marks.ensures.count)

pub mark_all-requires-clause-false_there : goal.mark_all-requires-clause-false_there
mark_all-requires-clause-false_there c =
    let e : c.len-len.result ≡ length c.args.state.now.order.items = omega (arith, c.args.state.now.order.ok) in
    rw e (λ m h. inr (c.requires.false_there m h))

pub loop-marks-init : goal.loop-marks-init
loop-marks-init c =
    let e : c.len-len.result ≡ length c.args.state.now.order.items = omega (arith, c.args.state.now.order.ok) in
    let covers : Covers c.args.state.now.order.items c.args.state.now.places.items 0 (length c.args.state.now.order.items) c.args.lits.now (marks_of c.in_ok-marks.marks) (marks_of c.mark_all.new.self) =
    subst (λ (n : ℕ). Covers c.args.state.now.order.items c.args.state.now.places.items 0 n c.args.lits.now (marks_of c.in_ok-marks.marks) (marks_of c.mark_all.new.self)) e c.in_ok-mark_all.ensures in
    rw e (core_begins _ _ _ _ c.args.lits.now c.requires.rooted.placed _ _ _ c.requires.false_there covers c.new-core.ensures.items)

pub overflow_sub-bound : goal.overflow_sub-bound
overflow_sub-bound c =
    let w = waiting_some _ _ _ _ c.loop-marks.invariant.marked c.loop-marks-test.true in omega (arith, w.1)

pub explain-requires-clause-here : goal.explain-requires-clause-here
explain-requires-clause-here c =
    let w = waiting_some _ _ _ _ c.loop-marks.invariant.marked c.loop-marks-test.true in
    let inside : c.loop-marks.bound - 1 < length c.loop-marks.marks.waiting.items = omega (arith, w.1, c.loop-marks.invariant.marked.waiting_length, c.loop-marks.invariant.short) in
    read_there _ _ _ inside c.index.ensures ∙ ap Some c.if-index.true

pub loop-marks-smaller-in-Continue-branch-3 : goal.loop-marks-smaller-in-Continue-branch-3
loop-marks-smaller-in-Continue-branch-3 c =
    let w = waiting_some _ _ _ _ c.loop-marks.invariant.marked c.loop-marks-test.true in omega (arith, w.1)

pub loop-marks-preserved-in-Continue-branch-3 : goal.loop-marks-preserved-in-Continue-branch-3
loop-marks-preserved-in-Continue-branch-3 c =
    let w = waiting_some _ _ _ _ c.loop-marks.invariant.marked c.loop-marks-test.true in
    let e : c.loop-marks.bound ≡ c.loop-marks.bound - 1 + 1 = omega (arith, w.1) in
    core_steps _ _ _ _ _ c.requires.rooted.placed (c.loop-marks.bound - 1) _ _ _ _
    (subst (λ (n : ℕ). CoreSoFar c.args.state.now.order.items n (c.args.state.now.clauses.items) c.args.assumed.now c.args.lits.now (marks_of c.loop-marks.marks) c.loop-marks.core.items) e c.loop-marks.invariant)
    c.in_ok-explain.ensures

pub loop-marks-smaller : goal.loop-marks-smaller
loop-marks-smaller c =
    let w = waiting_some _ _ _ _ c.loop-marks.invariant.marked c.loop-marks-test.true in omega (arith, w.1)

pub loop-marks-preserved : goal.loop-marks-preserved
loop-marks-preserved c =
    let w = waiting_some _ _ _ _ c.loop-marks.invariant.marked c.loop-marks-test.true in
    let e : c.loop-marks.bound ≡ c.loop-marks.bound - 1 + 1 = omega (arith, w.1) in
    let inside : c.loop-marks.bound - 1 < length c.loop-marks.marks.waiting.items = omega (arith, w.1, c.loop-marks.invariant.marked.waiting_length, c.loop-marks.invariant.short) in
    core_passes _ _ _ _ _ c.requires.rooted.placed (c.loop-marks.bound - 1) _ _
    (subst (λ (n : ℕ). CoreSoFar c.args.state.now.order.items n (c.args.state.now.clauses.items) c.args.assumed.now c.args.lits.now (marks_of c.loop-marks.marks) c.loop-marks.core.items) e c.loop-marks.invariant)
    (read_there _ _ _ inside c.index.ensures ∙ ap Some c.if-index.false)

pub returns : goal.returns
returns c = core_ends _ _ _ _ _ c.requires.rooted.placed _ _ _ c.loop-marks.invariant (omega (arith, c.loop-marks-test.false))
