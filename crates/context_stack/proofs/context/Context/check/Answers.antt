use Rattle.std.proofs.Common.{◌∙◌, ap, sym, subst, Option, Some, None, [], ◌∷◌}
use Rattle.term_checks.specs.Formulas.{AreFormulas}
use Rattle.context_stack.specs.Levels.{formulas}
use Rattle.context_stack.specs.States.{ContextState}
use Rattle.context_stack.proofs.Checking.{check_kept, without_assumptions}
use Rattle.context_stack.proofs.context.Context.check.Goals as goal

pub check_of-found-requires-clause-formulas : goal.check_of-found-requires-clause-formulas
check_of-found-requires-clause-formulas c =
    subst (AreFormulas c.args.table.now) (sym (c.formulas.ensures ∙ ap (λ (z : ContextState). formulas z.levels) c.self.view_is)) c.requires

pub returns : goal.returns
returns c =
    check_kept c.args.table.now None c.args.turns c.check_of-found.result.answer c.formulas.result.now c.args.self.now c.keep.new.self None
    (c.formulas.ensures ∙ ap (λ (z : ContextState). formulas z.levels) c.self.view_is)
    (without_assumptions c.args.table.now c.formulas.result.now c.args.turns c.check_of-found.result.answer c.check_of-found.result.core c.check_of-found.ensures.answers) c.check_of-found.ensures.judges
    c.keep.ensures.levels c.keep.ensures.status c.keep.ensures.core
