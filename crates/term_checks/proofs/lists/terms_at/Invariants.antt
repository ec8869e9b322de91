use Rattle.std.proofs.Common.{◌≡◌, map, take}
use Rattle.term_checks.specs.Listing.{term_in}
use Rattle.term_checks.proofs.lists.terms_at.Given as goal

abbrev pub invariant-loop-place : goal.invariant-loop-place
invariant-loop-place l = l.found ≡ map (term_in l.terms) (take l.place-index l.places)
