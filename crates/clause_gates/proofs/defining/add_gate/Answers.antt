use Rattle.clause_gates.proofs.defining.add_gate.Goals as goal

pub add_rows-requires : goal.add_rows-requires
add_rows-requires c = rw c.in-Truth.is at c.requires

pub returns-in-Truth-clause-some : goal.returns-in-Truth-clause-some
returns-in-Truth-clause-some c = rw c.in-Truth.is c.add_rows.ensures.some

pub returns-in-Truth-clause-ok : goal.returns-in-Truth-clause-ok
returns-in-Truth-clause-ok c = rw c.in-Truth.is c.add_rows.ensures.ok

pub add_and-requires : goal.add_and-requires
add_and-requires c = rw c.in-And.is at c.requires

pub returns-in-And-clause-some : goal.returns-in-And-clause-some
returns-in-And-clause-some c = rw c.in-And.is c.add_and.ensures.some

pub returns-in-And-clause-ok : goal.returns-in-And-clause-ok
returns-in-And-clause-ok c = rw c.in-And.is c.add_and.ensures.ok

pub add_xor-requires : goal.add_xor-requires
add_xor-requires c = rw c.in-Xor.is at c.requires

pub returns-in-Xor-clause-some : goal.returns-in-Xor-clause-some
returns-in-Xor-clause-some c = rw c.in-Xor.is c.add_xor.ensures.some

pub returns-in-Xor-clause-ok : goal.returns-in-Xor-clause-ok
returns-in-Xor-clause-ok c = rw c.in-Xor.is c.add_xor.ensures.ok

pub add_parity-requires : goal.add_parity-requires
add_parity-requires c = rw c.in-Parity.is at c.requires

pub returns-in-Parity-clause-some : goal.returns-in-Parity-clause-some
returns-in-Parity-clause-some c = rw c.in-Parity.is c.add_parity.ensures.some

pub returns-in-Parity-clause-ok : goal.returns-in-Parity-clause-ok
returns-in-Parity-clause-ok c = rw c.in-Parity.is c.add_parity.ensures.ok

pub add_majority-requires : goal.add_majority-requires
add_majority-requires c = rw c.in-Majority.is at c.requires

pub returns-in-Majority-clause-some : goal.returns-in-Majority-clause-some
returns-in-Majority-clause-some c = rw c.in-Majority.is c.add_majority.ensures.some

pub returns-in-Majority-clause-ok : goal.returns-in-Majority-clause-ok
returns-in-Majority-clause-ok c = rw c.in-Majority.is c.add_majority.ensures.ok

pub add_choice-requires : goal.add_choice-requires
add_choice-requires c = rw c.in-Choice.is at c.requires

pub returns-in-Choice-clause-some : goal.returns-in-Choice-clause-some
returns-in-Choice-clause-some c = rw c.in-Choice.is c.add_choice.ensures.some

pub returns-in-Choice-clause-ok : goal.returns-in-Choice-clause-ok
returns-in-Choice-clause-ok c = rw c.in-Choice.is c.add_choice.ensures.ok
