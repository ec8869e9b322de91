use Rattle.model_eval.specs.Models.{assignment_of}
use Rattle.model_eval.proofs.Passes.{Before}
use Rattle.model_eval.proofs.evaluating.values_along.Given as goal

abbrev pub invariant-loop-term : goal.invariant-loop-term
invariant-loop-term l = Before l.fn.table (assignment_of l.fn.table l.fn.model) l.fn.order l.known.entries l.term-index
