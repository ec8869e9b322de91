use Rattle.model_eval.proofs.Entries.{ArePlaced}
use Rattle.model_eval.proofs.model.places_of.Given as goal

abbrev pub invariant-loop-place : goal.invariant-loop-place
invariant-loop-place l = ArePlaced l.values l.place l.places.keys
