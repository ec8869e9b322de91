use Rattle.model_eval.specs.Refusing.{IsOther}
use Rattle.model_eval.proofs.Entries.{NoneBefore}
use Rattle.model_eval.proofs.model.first_other.Given as goal

abbrev pub invariant-loop-place : goal.invariant-loop-place
invariant-loop-place l = NoneBefore (IsOther l.table) l.values l.place
