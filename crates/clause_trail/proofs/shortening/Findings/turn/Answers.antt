use Rattle.std.proofs.Common.{arith, refl, length}
use Rattle.std.proofs.lemmas.Option.{slice_get_within}
use Rattle.clause_logic.specs.Clauses.{opposite, Listed}
use Rattle.clause_trail.proofs.Backs.{place_of}
use Rattle.clause_trail.proofs.Shorter.{found_more, settled, waits_more, waits_less}
use Rattle.clause_trail.proofs.shortening.Findings.turn.Goals as goal

pub index-place-requires : goal.index-place-requires
index-place-requires c =
    let f = c.requires.is_false in
    omega (arith, slice_get_within c.args.state.now.places.items c.args.top.var f.0 (c.requires.sound.base.found f.0 (opposite c.args.top) f.2), c.args.state.now.places.ok)

pub index_mut-requires : goal.index_mut-requires
index_mut-requires c =
    let p = place_of _ _ (length c.args.state.now.order.items) c.args.top c.requires.sound.base.found c.requires.is_false c.index-place.result.now c.index-place.ensures in
    omega (arith, p.0, c.requires.found.count, c.args.self.now.found.ok)

pub returns-in_ok-push-in-After-clause-waiting : goal.returns-in_ok-push-in-After-clause-waiting
returns-in_ok-push-in-After-clause-waiting c = waits_more c.args.state.now.order.items c.args.self.now.waiting.items c.push.new.self.items c.in-After.lit c.requires.waiting c.in-After.ensures c.in_ok-push-in-After.ensures.items

pub returns-in-Settled-clause-found : goal.returns-in-Settled-clause-found
returns-in-Settled-clause-found c =
    let p = place_of _ _ (length c.args.state.now.order.items) c.args.top c.requires.sound.base.found c.requires.is_false c.index-place.result.now c.index-place.ensures in
    found_more (Listed c.args.state.now.clauses.items) c.args.state.now.order.items c.args.lits.now c.args.top c.args.self.now.found.items _ c.index-place.result.now c.in-Settled.finding c.requires.found refl p.1
    (settled (Listed c.args.state.now.clauses.items) c.args.state.now.order.items c.args.lits.now c.args.top c.in-Settled.finding c.in-Settled.ensures)

pub returns-in-Settled-clause-waiting : goal.returns-in-Settled-clause-waiting
returns-in-Settled-clause-waiting c = waits_less c.args.state.now.order.items c.args.self.now.waiting.items c.pop.new.self.items _ c.requires.waiting c.pop.ensures.items
