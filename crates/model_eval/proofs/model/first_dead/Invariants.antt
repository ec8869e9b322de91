use Rattle.model_eval.specs.Refusing.{IsDead}
use Rattle.model_eval.proofs.Entries.{NoneBefore}
use Rattle.model_eval.proofs.model.first_dead.Given as goal

abbrev pub invariant-loop-place : goal.invariant-loop-place
invariant-loop-place l = NoneBefore (IsDead l.table) l.values l.place
