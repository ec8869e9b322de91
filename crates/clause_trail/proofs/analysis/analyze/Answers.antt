use Rattle.std.proofs.Common.{arith, ◌≡◌, ◌<◌, ◌+◌, ◌-◌, inl, inr, ℕ, true, false, Some, length, replicate, ◌∙◌, sym, ap, refl, subst}
use Rattle.std.specs.Prelude.{slice_get}
use Rattle.std.proofs.lemmas.Option.{slice_get_within}
use Rattle.clause_logic.specs.Clauses.{Both, Listed}
use Rattle.clause_logic.specs.Trails.{Learned}
use Rattle.clause_trail.specs.Analysis.{Marked, Covers}
use Rattle.clause_trail.specs.Analysis.{marks_of}
use Rattle.clause_trail.proofs.Counts.{read_there}
use Rattle.clause_trail.proofs.Resolving.{fresh_marked, conflict_refuted, conflict_some, lower_bound, finished, waiting_some}
use Rattle.clause_trail.proofs.analysis.analyze.Goals as goal

pub mark_all-requires-clause-marked : goal.mark_all-requires-clause-marked
mark_all-requires-clause-marked c =
    let e : c.len-len.result ≡ length c.args.state.now.order.items = omega (arith, c.args.state.now.order.ok) in
    rw e
    (fresh_marked c.args.state.now.order.items c.args.state.now.places.items c.args.start c.args.conflict.now c.requires.ready.placed c.requires.false_there _ _ _ _
    (c.in_ok-marks.ensures.waiting ∙ ap (λ (n : ℕ). replicate n false) e) (c.in_ok-marks.ensures.kept ∙ ap (λ (n : ℕ). replicate n false) e) c.in_ok-marks.ensures.lower c.in_ok-marks.ensures.count)

pub mark_all-requires-clause-false_there : goal.mark_all-requires-clause-false_there
mark_all-requires-clause-false_there c =
    let e : c.len-len.result ≡ length c.args.state.now.order.items = omega (arith, c.args.state.now.order.ok) in
    rw e (λ m h. inr (c.requires.false_there m h))

pub loop-marks-init : goal.loop-marks-init
loop-marks-init c =
    let e : c.len-len.result ≡ length c.args.state.now.order.items = omega (arith, c.args.state.now.order.ok) in
    let covers : Covers c.args.state.now.order.items c.args.state.now.places.items c.args.start (length c.args.state.now.order.items) c.args.conflict.now (marks_of c.in_ok-marks.marks) (marks_of c.mark_all.new.self) =
    subst (λ (n : ℕ). Covers c.args.state.now.order.items c.args.state.now.places.items c.args.start n c.args.conflict.now (marks_of c.in_ok-marks.marks) (marks_of c.mark_all.new.self)) e c.in_ok-mark_all.ensures in
    record {
      marked = c.in_ok-mark_all.ensures.marked;
      some = conflict_some _ _ _ c.args.conflict.now c.requires.ready.placed c.requires.false_there _ _ covers c.requires.high;
      short = omega (arith, e);
      refuted = conflict_refuted _ _ _ c.args.conflict.now c.requires.ready.placed c.requires.false_there _ _ covers (Both (Listed (c.args.state.now.clauses.items)) (λ d. d ≡ c.args.conflict.now)) (inr refl);
    }

pub overflow_sub-bound : goal.overflow_sub-bound
overflow_sub-bound c =
    let w = waiting_some _ _ _ _ c.loop-marks.invariant.marked c.loop-marks.invariant.some in omega (arith, w.1)

pub resolve-requires-clause-here : goal.resolve-requires-clause-here
resolve-requires-clause-here c =
    let w = waiting_some _ _ _ _ c.loop-marks.invariant.marked c.loop-marks.invariant.some in
    let inside : c.loop-marks.bound - 1 < length c.loop-marks.marks.waiting.items = omega (arith, w.1, c.loop-marks.invariant.marked.waiting_length, c.loop-marks.invariant.short) in
    read_there _ _ _ inside c.index.ensures ∙ ap Some c.if-index.true

pub loop-marks-smaller-in-Continue-branch-3 : goal.loop-marks-smaller-in-Continue-branch-3
loop-marks-smaller-in-Continue-branch-3 c =
    let w = waiting_some _ _ _ _ c.loop-marks.invariant.marked c.loop-marks.invariant.some in omega (arith, w.1)

pub loop-marks-preserved-in-Continue-branch-3 : goal.loop-marks-preserved-in-Continue-branch-3
loop-marks-preserved-in-Continue-branch-3 c =
    let r = c.in_ok-resolve.ensures in
    record {
      marked = r.marked;
      some = r.some;
      short = omega (arith, c.loop-marks.invariant.short);
      refuted = λ s models agrees. c.loop-marks.invariant.refuted s models (r.keeps s (λ d h. models d (inl h)) agrees);
    }

pub loop-marks-smaller : goal.loop-marks-smaller
loop-marks-smaller c =
    let w = waiting_some _ _ _ _ c.loop-marks.invariant.marked c.loop-marks.invariant.some in omega (arith, w.1)

pub loop-marks-preserved : goal.loop-marks-preserved
loop-marks-preserved c =
    let w = waiting_some _ _ _ _ c.loop-marks.invariant.marked c.loop-marks.invariant.some in
    let e : c.loop-marks.bound ≡ c.loop-marks.bound - 1 + 1 = omega (arith, w.1) in
    let inside : c.loop-marks.bound - 1 < length c.loop-marks.marks.waiting.items = omega (arith, w.1, c.loop-marks.invariant.marked.waiting_length, c.loop-marks.invariant.short) in
    record {
      marked = lower_bound c.args.state.now.order.items c.args.start (c.loop-marks.bound - 1) _ (subst (λ (n : ℕ). Marked c.args.state.now.order.items c.args.start n (marks_of c.loop-marks.marks)) e c.loop-marks.invariant.marked)
          (read_there _ _ _ inside c.index.ensures ∙ ap Some c.if-index.false);
      some = c.loop-marks.invariant.some;
      short = omega (arith, c.loop-marks.invariant.short);
      refuted = c.loop-marks.invariant.refuted;
    }

pub last-place-requires-clause-some : goal.last-place-requires-clause-some
last-place-requires-clause-some c = waiting_some _ _ _ _ c.loop-marks.invariant.marked c.loop-marks.invariant.some

pub returns : goal.returns
returns c =
    let sound = c.loop-marks.invariant.marked in
    let one : c.loop-marks.marks.count ≡ 1 = omega (arith, c.loop-marks.invariant.some, c.loop-marks-test.false) in
    let inside : c.last-place.result < length c.args.state.now.order.items = omega (arith, slice_get_within c.loop-marks.marks.waiting.items c.last-place.result true c.last-place.ensures, sound.waiting_length) in
    let at : slice_get c.args.state.now.order.items c.last-place.result ≡ Some c.index-lit.result.now = read_there _ _ _ inside c.index-lit.ensures in
    subst (Learned (Both (Listed (c.args.state.now.clauses.items)) (λ d. d ≡ c.args.conflict.now)) c.args.state.now.order.items c.args.start) (sym c.in_ok-push.ensures.items)
    (finished _ _ _ _ _ _ _ sound one c.loop-marks.invariant.refuted c.last-place.ensures at)
