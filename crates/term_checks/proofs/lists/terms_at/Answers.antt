use Rattle.std.proofs.Common.{◌∙◌, sym}
use Rattle.std.proofs.lemmas.Option.{unwrap_or-slice_get}
use Rattle.term_checks.specs.Listing.{no_term, term_in}
use Rattle.term_checks.proofs.Places.{mapped_more}
use Rattle.term_checks.proofs.lists.terms_at.Goals as goal

pub loop-place-preserved : goal.loop-place-preserved
loop-place-preserved c =
    c.in_ok-push.ensures.ok ∙ mapped_more (term_in c.args.terms.now) c.args.places.now c.loop-place.place-index 0 c.loop-place.found _ c.loop-place-test.true c.loop-place.invariant (sym (unwrap_or-slice_get c.args.terms.now _ no_term))
