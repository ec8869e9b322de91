use Rattle.yices_parser.proofs.forms.due_word.Goals as goal

pub returns-in-Width : goal.returns-in-Width
returns-in-Width c = λ p t. rw c.in-Width.is (c.width_word.ensures p t)

pub returns-in-Number : goal.returns-in-Number
returns-in-Number c = λ p t. rw c.in-Number.is (c.number_word.ensures p t)

pub returns-in-High : goal.returns-in-High
returns-in-High c = λ p t. rw c.in-High.is (c.high_word.ensures p t)

pub returns-in-Low : goal.returns-in-Low
returns-in-Low c = λ p t. rw c.in-Low.is (c.low_word.ensures p t)

pub returns-in-Count : goal.returns-in-Count
returns-in-Count c = λ p t. rw c.in-Count.is (c.count_word.ensures p t)

pub returns-in-BindingName : goal.returns-in-BindingName
returns-in-BindingName c = λ p t. rw c.in-BindingName.is (c.binding_name.ensures p t)

pub returns-in-Declaration : goal.returns-in-Declaration
returns-in-Declaration c = λ p t. rw c.in-Declaration.is (c.declaration_name.ensures p t)
