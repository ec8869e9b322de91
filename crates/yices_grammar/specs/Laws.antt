-- What the machine is to the grammar: the next token decides.
use Rattle.std.specs.Prelude.{◌≡◌, ◌↔◌, true, false, Some, List, [], ◌∷◌, ◌++◌}
use Rattle.yices_grammar.specs.declared.Place.{Place}
use Rattle.yices_grammar.specs.Tokens.{close_bracket, Token}
use Rattle.yices_grammar.specs.Words.{is_bad_token}
use Rattle.yices_grammar.specs.Commands.{Command}
use Rattle.yices_grammar.specs.Parts.{Item, Maker}
use Rattle.yices_grammar.specs.Reading.{Gives, SpellsCommand, SpellsCommands, BeginsProgram}
use Rattle.yices_grammar.specs.Machine.{Left, step, between, Moved, run}
use Rattle.yices_grammar.specs.Test.{clear}

-- what is left is read behind a token exactly where the machine takes the token and what it leaves is read
abbrev pub TokenDecides : Type 0
TokenDecides =
    (items : List Item) (make : Maker items Command) (t : Token) (ts : List Token) (c : Command) → clear items ≡ true
    → Gives Command items make (t ∷ ts) c ↔ ((m : Left Command) × (step Command items make t ≡ Some m) × Gives Command m.items m.make ts c)

-- tokens begin a list of commands exactly where the machine takes them all
abbrev pub RunsBegin : Type 0
RunsBegin = (ts : List Token) → BeginsProgram ts ↔ ((m : Moved) × (run [] between ts ≡ Some m))

-- tokens spell commands exactly where the machine takes them all, answers these commands, and is between two
abbrev pub RunsComplete : Type 0
RunsComplete = (cs : List Command) (ts : List Token) → SpellsCommands cs ts ↔ (run [] between ts ≡ Some (record { state = between; commands = cs }))

-- tokens spell one list of commands
abbrev pub OneProgram : Type 0
OneProgram = (cs ds : List Command) (ts : List Token) → SpellsCommands cs ts → SpellsCommands ds ts → cs ≡ ds

-- no word of the tokens is a literal of no form
abbrev pub AreGood : List Token → Type 0
AreGood [] = Unit {0}
AreGood (t ∷ ts) = (is_bad_token t.lexeme ≡ false) × AreGood ts

-- no word of a list of commands is a literal of no form
abbrev pub NoBadLiteral : Type 0
NoBadLiteral = (ts : List Token) → BeginsProgram ts → AreGood ts

-- a closing bracket at that place
abbrev pub closed_at : Place → Token
closed_at at = record { place = at; lexeme = close_bracket }

-- the last of the tokens is a closing bracket
abbrev pub EndsClosed : List Token → Type 0
EndsClosed ts = (front : List Token) × (at : Place) × (ts ≡ front ++ closed_at at ∷ [])

-- a command ends with a closing bracket
abbrev pub CommandsEnd : Type 0
CommandsEnd = (c : Command) (ts : List Token) → SpellsCommand c ts → EndsClosed ts
