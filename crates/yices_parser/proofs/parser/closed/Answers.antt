use Rattle.yices_parser.proofs.parser.closed.Goals as goal

pub returns-in-LiteralEnd : goal.returns-in-LiteralEnd
returns-in-LiteralEnd c = λ p t. rw c.in-LiteralEnd.is (c.goes_on.ensures p _ (c.literal_close.ensures p t))

pub returns-in-Type : goal.returns-in-Type
returns-in-Type c = λ p t. rw c.in-Type.is (c.goes_on-in-Type.ensures p _ (c.type_close.ensures p t))

pub returns-in-TypeEnd : goal.returns-in-TypeEnd
returns-in-TypeEnd c = λ p t. rw c.in-TypeEnd.is (c.goes_on-in-TypeEnd.ensures p _ (c.bitvector_close.ensures p t))

pub returns-in-Expr : goal.returns-in-Expr
returns-in-Expr c = λ p t. rw c.in-Expr.is (c.goes_on-in-Expr.ensures p _ (c.expr_close.ensures p t))

pub returns-in-Token : goal.returns-in-Token
returns-in-Token c = λ p t. rw c.in-Token.is (c.goes_on-in-Token.ensures p _ (c.due_close.ensures p t))
