use Rattle.std.proofs.Common.{arith, ◌≡◌, ◌<◌, false, Some, length, ◌∙◌, ap, get_or}
use Rattle.std.specs.Prelude.{slice_get}
use Rattle.std.proofs.lemmas.Option.{slice_get_within}
use Rattle.std.proofs.lemmas.List.{take_more}
use Rattle.clause_logic.specs.declared.Lit.{Lit}
use Rattle.clause_logic.proofs.Members.{in_at}
use Rattle.clause_trail.proofs.Marking.{known_var, known_place, read_place, outcome, covers_skip, covers_more}
use Rattle.clause_trail.proofs.analysis.Marks.mark_all.Goals as goal
use Rattle.clause_trail.proofs.analysis.Marks.mark_all.Goals.{then-place-bound+in_ok-mark, else-place-bound}

abbrev none : Lit
none = record { var = 0; positive = false }

pub index-place-requires : goal.index-place-requires
index-place-requires c =
    let m : Lit = get_or c.args.lits.now c.loop-lit.lit-index none in
    let known : m.var < length c.args.state.now.places.items = known_var c.args.state.now.order.items c.args.state.now.places.items c.args.bound m c.requires.placed (c.requires.false_there m (in_at c.args.lits.now c.loop-lit.lit-index none c.loop-lit-test.true)) in
    omega (arith, known, c.args.state.now.places.ok)

pub mark-requires-clause-waiting : goal.mark-requires-clause-waiting
mark-requires-clause-waiting c =
    let m : Lit = get_or c.args.lits.now c.loop-lit.lit-index none in
    let which = c.requires.false_there m (in_at c.args.lits.now c.loop-lit.lit-index none c.loop-lit-test.true) in
    let at = known_place c.args.state.now.order.items c.args.state.now.places.items c.args.bound c.index-place.result.now m c.requires.placed which (read_place c.args.state.now.order.items _ c.args.bound _ m c.requires.placed which c.index-place.ensures) c.if-place-bound.true in
    omega (arith, slice_get_within c.args.state.now.order.items _ _ at.1, c.loop-lit.invariant.marked.waiting_length)

pub mark-requires-clause-kept : goal.mark-requires-clause-kept
mark-requires-clause-kept c =
    let m : Lit = get_or c.args.lits.now c.loop-lit.lit-index none in
    let which = c.requires.false_there m (in_at c.args.lits.now c.loop-lit.lit-index none c.loop-lit-test.true) in
    let at = known_place c.args.state.now.order.items c.args.state.now.places.items c.args.bound c.index-place.result.now m c.requires.placed which (read_place c.args.state.now.order.items _ c.args.bound _ m c.requires.placed which c.index-place.ensures) c.if-place-bound.true in
    omega (arith, slice_get_within c.args.state.now.order.items _ _ at.1, c.loop-lit.invariant.marked.kept_length)

pub loop-lit-preserved : goal.loop-lit-preserved
loop-lit-preserved c =
    let m : Lit = get_or c.args.lits.now c.loop-lit.lit-index none in
    let which = c.requires.false_there m (in_at c.args.lits.now c.loop-lit.lit-index none c.loop-lit-test.true) in
    let read : slice_get c.args.state.now.places.items m.var ≡ Some c.index-place.result.now =
    read_place c.args.state.now.order.items _ c.args.bound _ m c.requires.placed which c.index-place.ensures in
    rw (take_more c.args.lits.now c.loop-lit.lit-index none c.loop-lit-test.true)
    (elim c.if-place-bound.branch [
      | then-place-bound+in_ok-mark w ↦
          let at = known_place c.args.state.now.order.items c.args.state.now.places.items c.args.bound c.index-place.result.now m c.requires.placed which read w.if-place-bound.true in
          rw w.self-is
          (covers_more _ _ c.args.start c.args.bound _ m _ _ _ c.loop-lit.invariant
          (outcome c.args.state.now.order.items c.args.start c.args.bound c.index-place.result.now m _ at.1 at.0 c.loop-lit.invariant.marked _ w.in_ok-mark.ensures))
      | else-place-bound w ↦
          rw w.self-is (covers_skip _ _ c.args.start c.args.bound _ m _ _ c.loop-lit.invariant (read ∙ ap Some w.if-place-bound.false))
    ])
