use Rattle.std.proofs.Common.{Ok, sym, subst}
use Rattle.yices_grammar.specs.Tokens.{typing_mark}
use Rattle.yices_commands.specs.declared.state.Point.{Point}
use Rattle.yices_parser.specs.Steps.{Takes, token_at, step_at}
use Rattle.yices_parser.proofs.parser.marked.Goals as goal

pub returns-in-Token : goal.returns-in-Token
returns-in-Token c = λ p t. subst (λ (x : Point). Takes p (step_at p x (token_at t typing_mark)) (Ok c.due_mark.result)) (sym c.in-Token.is) (c.due_mark.ensures p t)
