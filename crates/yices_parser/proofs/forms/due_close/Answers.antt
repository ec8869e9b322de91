use Rattle.yices_parser.proofs.forms.due_close.Goals as goal

pub returns-in-Binding : goal.returns-in-Binding
returns-in-Binding c = λ p t. rw c.in-Binding.is (c.binding_close.ensures p t)

pub returns-in-BindingEnd : goal.returns-in-BindingEnd
returns-in-BindingEnd c = λ p t. rw c.in-BindingEnd.is (c.binding_end.ensures p t)

pub returns-in-Declaration : goal.returns-in-Declaration
returns-in-Declaration c = λ p t. rw c.in-Declaration.is (c.declaration_close.ensures p t)

pub returns-in-End : goal.returns-in-End
returns-in-End c = λ p t. rw c.in-End.is (c.end_close.ensures p t)
