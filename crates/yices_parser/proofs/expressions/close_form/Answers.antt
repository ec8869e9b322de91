use Rattle.yices_parser.proofs.expressions.close_form.Goals as goal

pub returns-in-Op : goal.returns-in-Op
returns-in-Op c = λ p t. rw c.in-Op.is (c.close_operation.ensures p t)

pub returns-in-Arguments : goal.returns-in-Arguments
returns-in-Arguments c = λ p t. rw c.in-Arguments.is (c.close_arguments.ensures p t)

pub returns-in-Apply : goal.returns-in-Apply
returns-in-Apply c = λ p t. rw c.in-Apply.is (c.close_application.ensures p t)
