use Rattle.std.proofs.Common.{◌∙◌, Ok, sym, ap, subst}
use Rattle.std.specs.Prelude.{option_map}
use Rattle.yices_grammar.specs.Tokens.{word}
use Rattle.yices_commands.specs.declared.state.Point.{Point}
use Rattle.yices_commands.specs.declared.state.Point.TheVariants as point
use Rattle.yices_parser.specs.States.{left_at}
use Rattle.yices_parser.specs.Steps.{Takes, token_at, step_at}
use Rattle.yices_parser.proofs.Beginning.{command_word, takes_point}
use Rattle.yices_parser.proofs.parser.word.Goals as goal

pub returns-in-TypeOrEnd : goal.returns-in-TypeOrEnd
returns-in-TypeOrEnd c = λ p. rw c.in-TypeOrEnd.is (c.type_or_end_word.ensures p)

pub returns-in-ExprOrEnd : goal.returns-in-ExprOrEnd
returns-in-ExprOrEnd c = λ p. rw c.in-ExprOrEnd.is (c.expr_or_end_word.ensures p)

pub returns-in-Literal : goal.returns-in-Literal
returns-in-Literal c = λ p. rw c.in-Literal.is (c.literal_word.ensures p)

pub returns-in-LiteralName : goal.returns-in-LiteralName
returns-in-LiteralName c = λ p. rw c.in-LiteralName.is (c.literal_name.ensures p)

pub returns-in-Type : goal.returns-in-Type
returns-in-Type c = λ p. rw c.in-Type.is (c.type_word.ensures p)

pub returns-in-Expr : goal.returns-in-Expr
returns-in-Expr c = λ p. rw c.in-Expr.is (c.expr_word.ensures p)

pub returns-in-Form : goal.returns-in-Form
returns-in-Form c = λ p. rw c.in-Form.is (c.form_word.ensures p)

pub returns-in-TypeName : goal.returns-in-TypeName
returns-in-TypeName c = λ p. rw c.in-TypeName.is (c.type_name.ensures p c.args.at)

pub returns-in-Name : goal.returns-in-Name
returns-in-Name c = λ p. rw c.in-Name.is (c.defined_name.ensures p c.args.at)

pub returns-in-TypeForm : goal.returns-in-TypeForm
returns-in-TypeForm c = λ p. rw c.in-TypeForm.is (c.type_form_word.ensures p c.args.at)

pub returns-in-TypeWidth : goal.returns-in-TypeWidth
returns-in-TypeWidth c = λ p. rw c.in-TypeWidth.is (c.type_width_word.ensures p c.args.at)

pub returns-in-Token : goal.returns-in-Token
returns-in-Token c = λ p. rw c.in-Token.is (c.due_word.ensures p c.args.at)

pub returns-in-LiteralNot : goal.returns-in-LiteralNot
returns-in-LiteralNot c = λ p. subst (λ (x : Point). Takes p (step_at p x (token_at c.args.at (word c.args.word.now))) (Ok c.literal_not.result)) (sym c.in-LiteralNot.is) (c.literal_not.ensures p c.args.at)

pub returns-in-Word : goal.returns-in-Word
returns-in-Word c = λ p.
    subst (λ (x : Point). Takes p (step_at p x (token_at c.args.at (word c.args.word.now))) (Ok c.command_point.result)) (sym c.in-Word.is)
    (takes_point p (step_at p point.Word (token_at c.args.at (word c.args.word.now))) c.command_point.result (command_word p c.args.at c.args.word.now ∙ ap (option_map (left_at p)) (sym c.command_point.ensures)))
