use Rattle.model_eval.specs.Refusing.{IsWrong}
use Rattle.model_eval.proofs.Entries.{NoneBefore}
use Rattle.model_eval.proofs.model.first_wrong.Given as goal

abbrev pub invariant-loop-place : goal.invariant-loop-place
invariant-loop-place l = NoneBefore (IsWrong l.table) l.values l.place
