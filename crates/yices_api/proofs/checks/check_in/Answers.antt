use Rattle.std.proofs.Common.{None, ap, is_some, sym}
use Rattle.term_checks.specs.Formulas.{AreFormulas}
use Rattle.context_stack.specs.States.{held_terms}
use Rattle.context_stack.specs.Checks.{Checks}
use Rattle.yices_api.proofs.Stamps.{altered, found_here, no_key}
use Rattle.yices_api.proofs.Holding.{on_levels}
use Rattle.yices_api.proofs.checks.check_in.Goals as goal

pub check-requires : goal.check-requires
check-requires c =
    on_levels c.args.table.now c.in-Some.held.now.context
    (found_here c.args.contexts.now.slots c.args.id c.in-Some.held.now (sym c.in-Some.ensures.value) (ap is_some c.requires.has) (λ x. AreFormulas c.args.table.now (held_terms x)) c.requires)

pub returns : goal.returns
returns c =
    altered c.args.contexts.now.slots c.args.id c.in-Some.held.now (sym c.in-Some.ensures.value) (ap is_some c.requires.has) (Checks c.args.table.now None c.args.turns c.check.result) c.check.new.self c.check.ensures
