-- What answering a line says and does, and why it stops.
use Rattle.std.specs.Prelude.{◌≡◌, ℕ, ◌<◌, ◌≤◌, ◌⊎◌, List, [], ◌∷◌, ◌++◌, length, Option, Some, None}
use Rattle.yices_grammar.specs.declared.Place.{Place}
use Rattle.term_texts.specs.TermTexts.{text_limit}
use Rattle.call_script.specs.declared.lines.LineEnd.{LineEnd}
use Rattle.call_script.specs.declared.words.CallWord.{CallWord}
use Rattle.call_script.specs.Lines.{Written, Says, nothing, called, unfinished, FaultKind, bad_byte, unexpected, end_of_input, fault, not_built}
use Rattle.yices_api.specs.declared.calls.Call.{Call}
use Rattle.yices_api.specs.declared.replies.CallError.{CallError}
use Rattle.yices_api.specs.declared.replies.Reply.{Reply}
use Rattle.yices_api.specs.declared.replies.Reply.TheVariants as reply
use Rattle.yices_api.specs.State.{State}
use Rattle.yices_api.specs.Runs.{Reaches}
use Rattle.script_session.specs.declared.meant.Gave.{Gave}
use Rattle.script_session.specs.declared.meant.Gave.TheVariants as gave
use Rattle.script_session.specs.declared.stop.SyntaxFault.{SyntaxFault}
use Rattle.script_session.specs.declared.stop.SyntaxFault.TheVariants as told
use Rattle.script_session.specs.declared.stop.ScriptStop.{ScriptStop}
use Rattle.script_session.specs.declared.stop.ScriptStop.TheVariants as stop
use Rattle.script_session.specs.State.{Script, line_number, given_by}
use Rattle.script_session.specs.Asking.{IsRefusedAsWritten, AsksFor}
use Rattle.script_session.specs.Replies.{Prints, reply_line}

-- one line more, which gave that
abbrev pub with_line : Script → Gave → Script
with_line s g = record s { given = s.given ++ g ∷ [] }

-- a line without a call: nothing is said
pub record Passes (old : Script) (end : LineEnd) (bytes said : List ℕ) (new : Script) : Type 0 where
  pub says : Says end bytes nothing
  pub silent : said ≡ []
  pub after : new ≡ with_line old gave.Nothing

-- a line that may go on and has no fault so far: nothing is said, and nothing changes
pub record Waits (old : Script) (end : LineEnd) (bytes said : List ℕ) (new : Script) : Type 0 where
  pub says : Says end bytes unfinished
  pub silent : said ≡ []
  pub same : new ≡ old

-- a call that is refused for what its arguments stand for: the refusal is told
pub record IsRefused (old : Script) (word : CallWord) (arguments : List Written) (said : List ℕ) (new : Script) : Type 0 where
  pub why : CallError
  pub refused : IsRefusedAsWritten old.given word arguments why
  pub text : List ℕ
  pub prints : Prints old.env.table (reply.Refused why) text
  pub told : said ≡ reply_line (line_number old) text
  pub after : new ≡ with_line old gave.Nothing

-- what is asked is that call; the environment takes its step, and the reply prints that text
pub record Replies (old : Script) (word : CallWord) (arguments : List Written) (c : Call) (r : Reply) (text : List ℕ) (new : State) : Type 0 where
  pub asks : AsksFor old.given word arguments c
  pub reaches : Reaches old.env c r new
  pub prints : Prints new.table r text

-- a call that is done: its reply is told, and what it gave is kept
pub record IsDone (old : Script) (word : CallWord) (arguments : List Written) (c : Call) (r : Reply) (said : List ℕ) (new : Script) : Type 0 where
  pub text : List ℕ
  pub replies : Replies old word arguments c r text new.env
  pub fits : length text ≤ text_limit
  pub told : said ≡ reply_line (line_number old) text
  pub kept : new.given ≡ old.given ++ given_by r ∷ []

-- a call as written is answered so; with the call of the environment and its reply, where one was done
abbrev pub AnswersCall : Script → CallWord → List Written → Option (Call × Reply) → List ℕ → Script → Type 0
AnswersCall old word arguments None said new = IsRefused old word arguments said new
AnswersCall old word arguments (Some d) said new = IsDone old word arguments d.0 d.1 said new

-- the line says a call, which is answered so
pub record Calls (old : Script) (end : LineEnd) (bytes : List ℕ) (d : Option (Call × Reply)) (said : List ℕ) (new : Script) : Type 0 where
  pub column : ℕ
  pub word : CallWord
  pub arguments : List Written
  pub says : Says end bytes (called column word arguments)
  pub answers : AnswersCall old word arguments d said new

-- a line is answered so; with the call of the environment and its reply, where one was done
abbrev pub Answers : Script → LineEnd → List ℕ → Option (Call × Reply) → List ℕ → Script → Type 0
Answers old end bytes None said new = Passes old end bytes said new ⊎ Waits old end bytes said new ⊎ Calls old end bytes None said new
Answers old end bytes (Some d) said new = Calls old end bytes (Some d) said new

-- what is asked is a call whose reply prints a text past the limit
pub record IsTooLong (old : Script) (word : CallWord) (arguments : List Written) : Type 0 where
  pub asked : Call
  pub got : Reply
  pub text : List ℕ
  pub after : State
  pub replies : Replies old word arguments asked got text after
  pub long : text_limit < length text

-- a place on the next line
abbrev pub IsHere : Script → ℕ → Place → Type 0
IsHere s column place = (place.line ≡ line_number s) × (place.column ≡ column)

-- why a call as written, whose word has that column, isn't answered
abbrev pub StopsCall : Script → ℕ → CallWord → List Written → ScriptStop → Type 0
StopsCall old column word arguments (stop.TooLong place) = IsHere old column place × IsTooLong old word arguments
StopsCall old column word arguments stop.NoMemory = Unit {0}
StopsCall old column word arguments _ = ⊥

-- a fault, as it is told
abbrev pub fault_of : SyntaxFault → FaultKind
fault_of told.BadByte = bad_byte
fault_of told.Unexpected = unexpected
fault_of told.EndOfInput = end_of_input

-- why a line isn't answered, told at its place: a fault, a call that isn't built, a reply past the limit; memory may be refused at any time
abbrev pub Stops : Script → LineEnd → List ℕ → ScriptStop → Type 0
Stops old end bytes (stop.Syntax kind place) = (column : ℕ) × Says end bytes (fault (fault_of kind) column) × IsHere old column place
Stops old end bytes (stop.NotBuilt place) = (column : ℕ) × Says end bytes (not_built column) × IsHere old column place
Stops old end bytes (stop.TooLong place) = (column : ℕ) × (word : CallWord) × (arguments : List Written) × Says end bytes (called column word arguments) × IsHere old column place × IsTooLong old word arguments
Stops old end bytes stop.NoMemory = Unit {0}

-- what a stop leaves: a line that can't be read changes nothing; else a call was done at most, and no line is added
abbrev pub StaysAfter : ScriptStop → Script → Script → Type 0
StaysAfter (stop.Syntax kind place) old new = new ≡ old
StaysAfter (stop.NotBuilt place) old new = new ≡ old
StaysAfter _ old new = (new.given ≡ old.given) × ((new.env ≡ old.env) ⊎ ((c : Call) × (r : Reply) × Reaches old.env c r new.env))

-- a line that can't be read as a call that is built
abbrev pub IsFault : ScriptStop → Type 0
IsFault (stop.Syntax kind place) = Unit {0}
IsFault (stop.NotBuilt place) = Unit {0}
IsFault _ = ⊥
