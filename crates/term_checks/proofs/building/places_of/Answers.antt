use Rattle.std.proofs.Common.{get_or, subst, arith}
use Rattle.std.proofs.lemmas.Option.{slice_get-get_or}
use Rattle.std.proofs.lemmas.List.{take_all}
use Rattle.term_checks.specs.Listing.{no_term}
use Rattle.term_checks.specs.Building.{AreAt}
use Rattle.term_checks.proofs.Trees.{at_next}
use Rattle.term_checks.proofs.building.places_of.Goals as goal

pub place_of-requires : goal.place_of-requires
place_of-requires c =
    let ts = c.args.terms.now in
    let i = c.loop-term.term-index in
    c.requires (get_or ts i no_term) (record { place = i; at = slice_get-get_or ts i no_term c.loop-term-test.true })

pub loop-term-preserved : goal.loop-term-preserved
loop-term-preserved c =
    at_next c.args.order.now.keys c.args.terms.now c.loop-term.term-index c.loop-term.places _ c.place_of.result c.loop-term-test.true c.loop-term.invariant c.place_of.ensures c.in_ok-push.ensures.ok

pub returns : goal.returns
returns c =
    subst (λ z. AreAt c.args.order.now.keys z c.loop-term.places) (take_all c.loop-term.term-index c.args.terms.now (omega (arith, c.loop-term-test.false))) c.loop-term.invariant
