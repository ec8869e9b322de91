use Rattle.std.proofs.Common.{◌∙◌, Option, Some, Ok, ap, subst}
use Rattle.yices_lexer.specs.Found.{plain_lexeme}
use Rattle.yices_commands.specs.declared.state.Next.{Next}
use Rattle.yices_parser.specs.Steps.{TakesNext, token_at, step_at}
use Rattle.yices_parser.proofs.Dispatching.{step_goes, step_completes, step_none}
use Rattle.yices_parser.proofs.parser.step_inside.Goals as goal

pub returns-in-Some-Goes : goal.returns-in-Some-Goes
returns-in-Some-Goes c =
    step_goes c.args.place c.args.point c.in-Some-Goes.point c.args.at (plain_lexeme c.args.lexeme)
    (subst (λ (o : Option Next). TakesNext c.args.place (step_at c.args.place c.args.point (token_at c.args.at (plain_lexeme c.args.lexeme))) (Ok o)) (c.in-Some-Goes.is ∙ ap Some c.in-Some-Goes.field-0-is) (c.in_ok-point.ensures c.args.place))

pub returns-in-Some-Complete : goal.returns-in-Some-Complete
returns-in-Some-Complete c =
    step_completes c.args.place c.args.point c.in-Some-Complete.action c.args.at (plain_lexeme c.args.lexeme)
    (subst (λ (o : Option Next). TakesNext c.args.place (step_at c.args.place c.args.point (token_at c.args.at (plain_lexeme c.args.lexeme))) (Ok o)) (c.in-Some-Complete.is ∙ ap Some c.in-Some-Complete.field-0-is) (c.in_ok-point.ensures c.args.place))

pub returns-in-None : goal.returns-in-None
returns-in-None c =
    step_none c.args.place c.args.point c.args.at (plain_lexeme c.args.lexeme)
    (subst (λ (o : Option Next). TakesNext c.args.place (step_at c.args.place c.args.point (token_at c.args.at (plain_lexeme c.args.lexeme))) (Ok o)) c.in-None.is (c.in_ok-point.ensures c.args.place))
