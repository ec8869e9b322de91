use Rattle.std.proofs.Common.{arith, false, length, get_or, refl}
use Rattle.std.proofs.lemmas.Option.{slice_get_within}
use Rattle.clause_logic.specs.declared.Lit.{Lit}
use Rattle.clause_logic.specs.Clauses.{opposite, Listed}
use Rattle.clause_logic.proofs.Members.{in_at}
use Rattle.clause_trail.specs.Shortening.{given}
use Rattle.clause_trail.specs.declared.shortening.Finding.TheVariants as finding
use Rattle.clause_trail.proofs.Backs.{place_of}
use Rattle.clause_trail.proofs.Shorter.{found_more}
use Rattle.clause_trail.proofs.shortening.begin.Goals as goal

abbrev none : Lit
none = record { var = 0; positive = false }

pub index-place-requires : goal.index-place-requires
index-place-requires c =
    let m : Lit = get_or c.args.lits.now c.loop-lit.lit-index none in
    let f = c.requires.false_there m (in_at c.args.lits.now c.loop-lit.lit-index none c.loop-lit-test.true) in
    omega (arith, slice_get_within c.args.state.now.places.items m.var f.0 (c.requires.placed f.0 (opposite m) f.2), c.args.state.now.places.ok)

pub index_mut-requires : goal.index_mut-requires
index_mut-requires c =
    let m : Lit = get_or c.args.lits.now c.loop-lit.lit-index none in
    let p = place_of _ _ (length c.args.state.now.order.items) m c.requires.placed (c.requires.false_there m (in_at c.args.lits.now c.loop-lit.lit-index none c.loop-lit-test.true)) c.index-place.result.now c.index-place.ensures in
    omega (arith, p.0, c.loop-lit.invariant.count, c.loop-lit.found.ok)

pub loop-lit-preserved : goal.loop-lit-preserved
loop-lit-preserved c =
    let m : Lit = get_or c.args.lits.now c.loop-lit.lit-index none in
    let there = in_at c.args.lits.now c.loop-lit.lit-index none c.loop-lit-test.true in
    let p = place_of _ _ (length c.args.state.now.order.items) m c.requires.placed (c.requires.false_there m there) c.index-place.result.now c.index-place.ensures in
    found_more (Listed c.args.state.now.clauses.items) c.args.state.now.order.items c.args.lits.now m c.loop-lit.found.items _ c.index-place.result.now finding.Implied c.loop-lit.invariant refl p.1 (λ e. given m there)
