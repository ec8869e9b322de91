use Rattle.std.proofs.Common.{get_or}
use Rattle.std.proofs.lemmas.Option.{slice_get-get_or}
use Rattle.term_checks.specs.Listing.{no_term}
use Rattle.term_checks.proofs.Places.{set_more}
use Rattle.term_checks.proofs.lists.as_set.Goals as goal

pub loop-term-preserved : goal.loop-term-preserved
loop-term-preserved c =
    let ts = c.args.terms.now in
    let i = c.loop-term.term-index in
    set_more ts c.loop-term.order.keys c.put.new.order.keys i (get_or ts i no_term) c.requires c.loop-term.invariant (slice_get-get_or ts i no_term c.loop-term-test.true) c.in_ok-put.ensures
