use Rattle.yices_parser.proofs.types.end_type.Goals as goal

pub returns-in-Variable : goal.returns-in-Variable
returns-in-Variable c = λ p. rw c.in-Variable.is (c.declared.ensures p)
