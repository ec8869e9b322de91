use Rattle.yices_session.proofs.Closed.{truth_formulas, checked_boolean}
use Rattle.yices_session.proofs.session.checking.decided.Goals as goal

pub check_terms-requires-clause-formulas : goal.check_terms-requires-clause-formulas
check_terms-requires-clause-formulas c = truth_formulas c.args.table.now c.args.formulas.now c.requires.formulas

pub check_terms-requires-clause-assumptions : goal.check_terms-requires-clause-assumptions
check_terms-requires-clause-assumptions c = truth_formulas c.args.table.now c.args.assumed.now c.requires.assumptions

pub unreachable-requires : goal.unreachable-requires
unreachable-requires c = checked_boolean c.args.table.now c.args.formulas.now c.args.assumed.now c.requires.formulas c.requires.assumptions c.in-Err-NotBuilt.field-0 c.in-Err-NotBuilt.field-0-is c.in-Err-NotBuilt.ensures.refused
