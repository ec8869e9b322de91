-- What is known where a text has to go on.
use Rattle.std.specs.Prelude.{◌≡◌, ℕ, Bool, false, Some, List}
use Rattle.yices_grammar.specs.Commands.{Command}
use Rattle.yices_grammar.specs.Faults.{Fault, HasFault}
use Rattle.yices_text.specs.declared.error.ReadError.{ReadError}
use Rattle.yices_text.specs.View.{fault_of, HoldsNoMore}

-- no command more is there, and no fault
pub record Waits (fed : List ℕ) (answered : List Command) : Type 0 where
  pub no_command : HoldsNoMore fed answered
  pub no_fault : (f : Fault) → HasFault false fed answered f → ⊥

-- the fault that the error stands for is that of the text
abbrev pub IsFaultOf : Bool → List ℕ → List Command → ReadError → Type 0
IsFaultOf finished fed answered e = (f : Fault) → fault_of e ≡ Some f → HasFault finished fed answered f
