use Rattle.std.proofs.Common.{sym, subst}
use Rattle.yices_lexer.specs.declared.lexer.Lexeme.{Lexeme}
use Rattle.yices_lexer.specs.Found.{plain_lexeme}
use Rattle.yices_parser.specs.Steps.{TakesNext, token_at, step_at}
use Rattle.yices_parser.proofs.parser.inside.Goals as goal

pub returns-in-Open : goal.returns-in-Open
returns-in-Open c = λ p. subst (λ (l : Lexeme). TakesNext p (step_at p c.args.point (token_at c.args.at (plain_lexeme l))) c.goes_on.result) (sym c.in-Open.is) (c.goes_on.ensures p _ (c.opened.ensures p))

pub returns-in-Close : goal.returns-in-Close
returns-in-Close c = λ p. subst (λ (l : Lexeme). TakesNext p (step_at p c.args.point (token_at c.args.at (plain_lexeme l))) c.closed.result) (sym c.in-Close.is) (c.closed.ensures p c.args.at)

pub returns-in-Mark : goal.returns-in-Mark
returns-in-Mark c = λ p. subst (λ (l : Lexeme). TakesNext p (step_at p c.args.point (token_at c.args.at (plain_lexeme l))) c.goes_on-in-Mark.result) (sym c.in-Mark.is) (c.goes_on-in-Mark.ensures p _ (c.marked.ensures p c.args.at))

pub returns-in-Word : goal.returns-in-Word
returns-in-Word c = λ p. subst (λ (l : Lexeme). TakesNext p (step_at p c.args.point (token_at c.args.at (plain_lexeme l))) c.goes_on-in-Word.result) (sym c.in-Word.is) (c.goes_on-in-Word.ensures p _ (c.word.ensures p))

pub returns-in-Quoted : goal.returns-in-Quoted
returns-in-Quoted c = λ p. subst (λ (l : Lexeme). TakesNext p (step_at p c.args.point (token_at c.args.at (plain_lexeme l))) c.goes_on-in-Quoted.result) (sym c.in-Quoted.is) (c.goes_on-in-Quoted.ensures p _ (c.quoted.ensures p c.args.at))
