use Rattle.std.proofs.Common.{◌++◌, subst}
use Rattle.term_checks.specs.Verdicts.{RefusesCheck}
use Rattle.context_stack.proofs.Checking.{both_formulas}
use Rattle.context_stack.proofs.checks.check_of.Goals as goal

pub returns-in-Ok-Sat-clause-judges : goal.returns-in-Ok-Sat-clause-judges
returns-in-Ok-Sat-clause-judges c = (
  both_formulas c.args.table.now c.args.formulas.now c.args.assumed.now c.requires.formulas c.requires.assumptions,
  c.in-Ok-Sat.ensures.boolean,
)

pub returns-in-Ok-Unsat-clause-judges : goal.returns-in-Ok-Unsat-clause-judges
returns-in-Ok-Unsat-clause-judges c = (
  both_formulas c.args.table.now c.args.formulas.now c.args.assumed.now c.requires.formulas c.requires.assumptions,
  c.in-Ok-Unsat.ensures.boolean,
)

pub returns-in-Ok-Unknown-clause-judges : goal.returns-in-Ok-Unknown-clause-judges
returns-in-Ok-Unknown-clause-judges c = (
  both_formulas c.args.table.now c.args.formulas.now c.args.assumed.now c.requires.formulas c.requires.assumptions,
  c.in-Ok-Unknown.ensures.boolean,
)

pub returns-in-Err-NotBuilt-clause-judges : goal.returns-in-Err-NotBuilt-clause-judges
returns-in-Err-NotBuilt-clause-judges c = (
  both_formulas c.args.table.now c.args.formulas.now c.args.assumed.now c.requires.formulas c.requires.assumptions,
  subst (λ e. RefusesCheck c.args.table.now (c.args.formulas.now ++ c.args.assumed.now) e) c.in-Err-NotBuilt.field-0-is c.in-Err-NotBuilt.ensures.refused,
)
