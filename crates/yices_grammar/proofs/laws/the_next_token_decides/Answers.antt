use Rattle.yices_grammar.proofs.Lawful.{token_decides, runs_begin}
use Rattle.yices_grammar.proofs.Literals.{no_bad_literal}
use Rattle.yices_grammar.proofs.Ends.{command_ends}
use Rattle.yices_grammar.proofs.laws.the_next_token_decides.Goals as goal

pub returns-clause-token : goal.returns-clause-token
returns-clause-token c = token_decides

pub returns-clause-begins : goal.returns-clause-begins
returns-clause-begins c = runs_begin

pub returns-clause-literals : goal.returns-clause-literals
returns-clause-literals c = no_bad_literal

pub returns-clause-ends : goal.returns-clause-ends
returns-clause-ends c = command_ends
