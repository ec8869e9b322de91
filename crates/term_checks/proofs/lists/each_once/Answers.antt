use Rattle.std.proofs.Common.{get_or}
use Rattle.std.proofs.lemmas.Option.{slice_get-get_or}
use Rattle.term_checks.specs.Listing.{no_term}
use Rattle.term_checks.proofs.Places.{once_more}
use Rattle.term_checks.proofs.lists.each_once.Goals as goal

pub loop-term-preserved : goal.loop-term-preserved
loop-term-preserved c =
    let ts = c.args.terms.now in
    let i = c.loop-term.term-index in
    once_more ts i (get_or ts i no_term) (slice_get-get_or ts i no_term c.loop-term-test.true) c.loop-term.once.keys c.put.new.order.keys c.loop-term.invariant c.in_ok-put.ensures
