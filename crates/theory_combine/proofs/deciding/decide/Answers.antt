use Rattle.std.proofs.Common.{[], subst}
use Rattle.theory_combine.specs.Answers.{IfUnsat, IsConflictUnder}
use Rattle.theory_combine.proofs.Verdicts.{all_conflict}
use Rattle.theory_combine.proofs.deciding.decide.Goals as goal

pub returns-in-Unsat-clause-unsat : goal.returns-in-Unsat-clause-unsat
returns-in-Unsat-clause-unsat c =
    all_conflict c.args.problem.now c.args.lits.now c.in_ok-places-in-Unsat.places c.in-Unsat.field-0
    (subst (λ v. IfUnsat v (IsConflictUnder c.args.problem.now c.args.lits.now [])) c.in-Unsat.is c.in_ok-values.ensures.unsat)
    c.in_ok-places-in-Unsat.ensures.len c.in_ok-places-in-Unsat.ensures.each
