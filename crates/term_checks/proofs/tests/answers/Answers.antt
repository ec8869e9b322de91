use Rattle.term_checks.proofs.tests.answers.Goals as goal

-- the formulas were found to be ones
pub check_terms-requires-clause-formulas : goal.check_terms-requires-clause-formulas
check_terms-requires-clause-formulas c = c.in_ok-are_formulas.ensures.0 c.if-not-branch.false

-- and so were the assumptions
pub check_terms-requires-clause-assumptions : goal.check_terms-requires-clause-assumptions
check_terms-requires-clause-assumptions c = c.in_ok-are_formulas-2.ensures.0 c.if-not-branch-2.false
