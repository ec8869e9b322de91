use Rattle.std.proofs.Common.{◌≡◌, take}
use Rattle.y_tree.specs.Meaning.{add_all}
use Rattle.model_eval.specs.Sums.{numbers, parts}
use Rattle.model_eval.proofs.numbers.sum_of.Given as goal

abbrev pub invariant-loop-monomial : goal.invariant-loop-monomial
invariant-loop-monomial l = l.sum ≡ add_all (take l.monomial-index (parts l.monomials l.fn.constant (numbers l.known.entries l.monomials)))
