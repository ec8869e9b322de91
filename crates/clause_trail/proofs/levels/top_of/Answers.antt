use Rattle.std.proofs.Common.{arith, false, length, get_or}
use Rattle.std.proofs.lemmas.List.{take_more}
use Rattle.std.proofs.lemmas.Option.{slice_get_within}
use Rattle.clause_logic.specs.declared.Lit.{Lit}
use Rattle.clause_logic.specs.Clauses.{opposite}
use Rattle.clause_logic.proofs.Members.{in_at}
use Rattle.clause_trail.proofs.Backs.{top_stays, top_rises, place_of}
use Rattle.clause_trail.proofs.levels.top_of.Goals as goal
use Rattle.clause_trail.proofs.levels.top_of.Goals.{then-place-top, else-place-top}

abbrev none : Lit
none = record { var = 0; positive = false }

pub index-place-requires : goal.index-place-requires
index-place-requires c =
    let false_there = c.requires.false_there in
    let m : Lit = get_or c.args.lits.now c.loop-lit.lit-index none in
    let f = false_there m (in_at c.args.lits.now c.loop-lit.lit-index none c.loop-lit-test.true) in
    omega (arith, slice_get_within c.args.state.now.places.items m.var f.0 (c.requires.placed f.0 (opposite m) f.2), c.args.state.now.places.ok)

pub overflow_add-top : goal.overflow_add-top
overflow_add-top c =
    let false_there = c.requires.false_there in
    let m : Lit = get_or c.args.lits.now c.loop-lit.lit-index none in
    let p = place_of _ _ (length c.args.state.now.order.items) m c.requires.placed (false_there m (in_at c.args.lits.now c.loop-lit.lit-index none c.loop-lit-test.true)) c.index-place.result.now c.index-place.ensures in
    omega (arith, slice_get_within c.args.state.now.order.items c.index-place.result.now (opposite m) p.1, c.args.state.now.order.ok)

pub loop-lit-preserved : goal.loop-lit-preserved
loop-lit-preserved c = λ s false_there.
    let m : Lit = get_or c.args.lits.now c.loop-lit.lit-index none in
    let p = place_of _ _ s m c.requires.placed (false_there m (in_at c.args.lits.now c.loop-lit.lit-index none c.loop-lit-test.true)) c.index-place.result.now c.index-place.ensures in
    rw (take_more c.args.lits.now c.loop-lit.lit-index none c.loop-lit-test.true)
    (elim c.if-place-top.branch [
      | then-place-top w ↦ rw w.top-is (top_rises _ s _ m _ _ (c.loop-lit.invariant s false_there) p.1 p.0 w.if-place-top.true)
      | else-place-top w ↦ rw w.top-is (top_stays _ s _ m _ _ (c.loop-lit.invariant s false_there) p.1 p.0 w.if-place-top.false)
    ])
