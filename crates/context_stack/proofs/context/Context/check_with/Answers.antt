use Rattle.std.proofs.Common.{◌∙◌, ap, sym, subst, Option, Some, None, [], ◌∷◌}
use Rattle.term_checks.specs.Formulas.{AreFormulas}
use Rattle.context_stack.specs.Levels.{formulas}
use Rattle.context_stack.specs.States.{ContextState}
use Rattle.context_stack.proofs.Checking.{check_kept}
use Rattle.context_stack.proofs.context.Context.check_with.Goals as goal

pub check_of-found-requires-clause-formulas : goal.check_of-found-requires-clause-formulas
check_of-found-requires-clause-formulas c =
    subst (AreFormulas c.args.table.now) (sym (c.formulas.ensures ∙ ap (λ (z : ContextState). formulas z.levels) c.self.view_is)) c.requires.formulas

pub returns : goal.returns
returns c =
    check_kept c.args.table.now (Some c.args.assumed.now) c.args.turns c.check_of-found.result.answer c.formulas.result.now c.args.self.now c.keep.new.self c.check_of-found.result.core
    (c.formulas.ensures ∙ ap (λ (z : ContextState). formulas z.levels) c.self.view_is)
    c.check_of-found.ensures.answers c.check_of-found.ensures.judges
    c.keep.ensures.levels c.keep.ensures.status c.keep.ensures.core
