use Rattle.yices_parser.proofs.parser.opened.Goals as goal

pub returns-in-Form : goal.returns-in-Form
returns-in-Form c = λ p. rw c.in-Form.is (c.form_open.ensures p)

pub returns-in-Token : goal.returns-in-Token
returns-in-Token c = λ p. rw c.in-Token.is (c.due_open.ensures p c.args.at)
