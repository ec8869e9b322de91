-- What the parser answers to a token.
use Rattle.std.specs.Prelude.{◌≡◌, ℕ, ◌+◌, ◌-◌, Bool, true, false, Option, Some, None, Result, Ok, Err, List, [], ◌∷◌, nat_le}
use Rattle.yices_grammar.specs.declared.Place.{Place}
use Rattle.yices_grammar.specs.Tokens.{Lexeme, open_bracket, close_bracket, typing_mark, word, string}
use Rattle.yices_grammar.specs.Words.{is_bad_token}
use Rattle.yices_grammar.specs.Commands as grammar
use Rattle.yices_grammar.specs.Machine as machine
use Rattle.yices_grammar.specs.Machine.{Moved, take_token}
use Rattle.yices_commands.specs.declared.command.Command.{Command}
use Rattle.yices_parser.specs.declared.parser.Parser.{Parser}
use Rattle.yices_parser.specs.declared.parser.Taken.{Taken}
use Rattle.yices_parser.specs.declared.parser.TokenError.{TokenError}
use Rattle.yices_parser.specs.declared.parser.TokenError.TheVariants as error
use Rattle.yices_commands.specs.Plain.{plain_command}
use Rattle.yices_parser.specs.States.{plain_state}
use Rattle.yices_parser.specs.Steps.{token_at}

-- how many brackets are open behind a token, where so many are open before it
abbrev pub depth_behind : ℕ → Lexeme → ℕ
depth_behind d open_bracket = d + 1
depth_behind d close_bracket = d - 1
depth_behind d typing_mark = d
depth_behind d (word w) = d
depth_behind d (string s) = d

-- a bracket past the limit
abbrev pub is_too_deep : ℕ → Lexeme → Bool
is_too_deep d open_bracket = nat_le 4096 d
is_too_deep d close_bracket = false
is_too_deep d typing_mark = false
is_too_deep d (word w) = false
is_too_deep d (string s) = false

-- what was read of a command
abbrev pub state_of : Parser → machine.State
state_of p = plain_state p.state

-- how many brackets are open
abbrev pub depth_of : Parser → ℕ
depth_of p = p.depth

-- the command that a token ends, if it ends one
abbrev pub plain_commands : Option Command → List grammar.Command
plain_commands None = []
plain_commands (Some c) = plain_command c ∷ []

-- the state and the command behind a token
abbrev pub moved_of : Taken → Moved
moved_of t = record { state = state_of t.parser; commands = plain_commands t.command }

-- no command has begun
abbrev pub IsBetween : machine.State → Type 0
IsBetween machine.between = Unit {0}
IsBetween (machine.inside m) = ⊥

-- the token is no bad literal, and no bracket past the limit
pub record IsGood (d : ℕ) (l : Lexeme) : Type 0 where
  pub good : is_bad_token l ≡ false
  pub shallow : is_too_deep d l ≡ false

-- the token is taken
pub record Goes (d : ℕ) (s : machine.State) (at : Place) (l : Lexeme) (t : Taken) : Type 0 where
  pub good : IsGood d l
  pub depth : depth_of t.parser ≡ depth_behind d l
  pub moved : take_token s (token_at at l) ≡ Some (moved_of t)

-- the answer to a token, where so many brackets are open: what is wrong with it is said in this order
abbrev pub IsTaken : ℕ → machine.State → Place → Lexeme → Result Taken TokenError → Type 0
IsTaken d s at l (Ok t) = Goes d s at l t
IsTaken d s at l (Err error.BadLiteral) = is_bad_token l ≡ true
IsTaken d s at l (Err error.Nesting) = (is_bad_token l ≡ false) × (is_too_deep d l ≡ true)
IsTaken d s at l (Err error.Unexpected) = IsGood d l × (take_token s (token_at at l) ≡ None)
IsTaken d s at l (Err error.NoMemory) = Unit {0}
