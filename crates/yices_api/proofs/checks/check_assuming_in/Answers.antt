use Rattle.std.proofs.Common.{Some, ap, is_some, sym}
use Rattle.term_checks.specs.Formulas.{AreFormulas}
use Rattle.context_stack.specs.States.{held_terms}
use Rattle.context_stack.specs.Checks.{Checks}
use Rattle.yices_api.proofs.Stamps.{altered, found_here, no_key}
use Rattle.yices_api.proofs.Holding.{on_levels}
use Rattle.yices_api.proofs.Outcomes.{answer_on}
use Rattle.yices_api.proofs.checks.check_assuming_in.Goals as goal

pub check_assuming-requires : goal.check_assuming-requires
check_assuming-requires c =
    on_levels c.args.table.now c.in-Some.held.now.context
    (found_here c.args.contexts.now.slots c.args.id c.in-Some.held.now (sym c.in-Some.ensures.value) (ap is_some c.requires.has) (λ x. AreFormulas c.args.table.now (held_terms x)) c.requires)

pub returns-clause-checked : goal.returns-clause-checked
returns-clause-checked c =
    answer_on c.check_assuming.result (λ found. Checks c.args.table.now (Some c.args.assumed.now) c.args.turns found c.in-Some.held.now.context c.check_assuming.new.self) _ c.check_assuming.ensures.checked
    (λ found checks. altered c.args.contexts.now.slots c.args.id c.in-Some.held.now (sym c.in-Some.ensures.value) (ap is_some c.requires.has) (Checks c.args.table.now (Some c.args.assumed.now) c.args.turns found) c.check_assuming.new.self checks)
