-- What contracts see of a reader, and what it answers.
use Rattle.std.specs.Prelude.{◌≡◌, ℕ, Bool, Option, Some, None, Result, Ok, Err, List, [], ◌∷◌, ◌++◌, map}
use Rattle.std.specs.Coded.{Coded, code_by, coded×, coded_ℕ, coded_list, coded_bool, coded_option}
use Rattle.std.proofs.Common.{refl}
use Rattle.yices_grammar.specs.Commands as grammar
use Rattle.yices_grammar.specs.Texts.{BeginsWith}
use Rattle.yices_grammar.specs.Faults.{FaultKind, bad_byte, bad_literal, unexpected, end_of_input, nesting, Fault}
use Rattle.yices_commands.specs.declared.command.Command.{Command}
use Rattle.yices_commands.specs.contracts.command.Command as command
use Rattle.yices_text.specs.contracts.error.ReadError as error
use Rattle.yices_text.specs.declared.error.ReadError.{ReadError}
use Rattle.yices_text.specs.declared.error.ReadError.TheVariants.{Syntax, Nesting, NoMemory}
use Rattle.yices_text.specs.declared.error.SyntaxKind.{SyntaxKind}
use Rattle.yices_text.specs.declared.error.SyntaxKind.TheVariants as syntax
use Rattle.yices_commands.specs.Plain.{plain_command}

-- the bytes fed, the commands answered, whether no byte comes behind them, and the error that lasts
pub record Reading : Type 0 where
  pub fed : List ℕ
  pub answered : List Command
  pub finished : Bool
  pub failure : Option ReadError

-- readings are told apart by their parts
abbrev pub reading_code : Coded Reading
reading_code =
    code_by (List ℕ × (List Command × (Bool × Option ReadError))) (coded× (coded_list coded_ℕ) (coded× (coded_list command.the_row.coded) (coded× coded_bool (coded_option error.the_row.coded))))
    (λ r. (r.fed, (r.answered, (r.finished, r.failure)))) (λ p. record { fed = p.0; answered = p.1.0; finished = p.1.1.0; failure = p.1.1.1 }) (λ _. refl)

-- what commands of the code say
abbrev pub says : List Command → List grammar.Command
says cs = map plain_command cs

-- the command that was answered, if one was
abbrev pub listed : Option Command → List Command
listed None = []
listed (Some c) = c ∷ []

-- a kind of the code as one of the language
abbrev pub kind_of : SyntaxKind → FaultKind
kind_of syntax.BadByte = bad_byte
kind_of syntax.BadLiteral = bad_literal
kind_of syntax.Unexpected = unexpected
kind_of syntax.EndOfInput = end_of_input

-- the fault of the text that an error stands for
abbrev pub fault_of : ReadError → Option Fault
fault_of (Syntax e) = Some (record { kind = kind_of e.kind; place = e.place })
fault_of (Nesting at) = Some (record { kind = nesting; place = at })
fault_of NoMemory = None

-- the answer is that fault, or want of memory
abbrev pub AnswersFault : Fault → Result (Option Command) ReadError → Type 0
AnswersFault f (Ok r) = ⊥
AnswersFault f (Err (Syntax e)) = fault_of (Syntax e) ≡ Some f
AnswersFault f (Err (Nesting at)) = fault_of (Nesting at) ≡ Some f
AnswersFault f (Err NoMemory) = Unit {0}

-- the text begins with no command more
abbrev pub HoldsNoMore : List ℕ → List grammar.Command → Type 0
HoldsNoMore fed answered = (c : grammar.Command) → BeginsWith fed (answered ++ c ∷ []) → ⊥

-- the text that comes in these pieces
abbrev pub joined : List (List ℕ) → List ℕ
joined [] = []
joined (p ∷ ps) = p ++ joined ps
