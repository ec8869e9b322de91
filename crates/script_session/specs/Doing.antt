-- The parts of answering a line, as the functions that do them say.
use Rattle.std.specs.Prelude.{◌≡◌, ℕ, ◌≤◌, List, length, Option, None}
use Rattle.yices_grammar.specs.declared.Place.{Place}
use Rattle.term_texts.specs.TermTexts.{text_limit}
use Rattle.call_script.specs.declared.lines.LineError.{LineError}
use Rattle.call_script.specs.declared.lines.LineError.TheVariants as line_error
use Rattle.yices_api.specs.declared.calls.Call.{Call}
use Rattle.yices_api.specs.declared.replies.CallError.{CallError}
use Rattle.yices_api.specs.declared.replies.CallError.TheVariants as error
use Rattle.yices_api.specs.declared.replies.Reply.{Reply}
use Rattle.yices_api.specs.declared.replies.Reply.TheVariants as reply
use Rattle.yices_api.specs.State.{State}
use Rattle.yices_api.specs.Runs.{Reaches}
use Rattle.script_session.specs.declared.stop.ScriptStop.{ScriptStop}
use Rattle.script_session.specs.declared.stop.ScriptStop.TheVariants as stop
use Rattle.script_session.specs.declared.stop.SyntaxFault.TheVariants as told
use Rattle.script_session.specs.declared.meant.Gave.TheVariants as gave
use Rattle.script_session.specs.State.{Script, line_number, given_by}
use Rattle.script_session.specs.Replies.{Prints, IsLongReply, reply_line}
use Rattle.script_session.specs.Steps.{IsHere, with_line}

-- the refusals that scripts have and environments don't
abbrev pub IsOfScript : CallError → Type 0
IsOfScript (error.NoResult place) = place ≤ 18446744073709551615
IsOfScript (error.WrongKind place) = place ≤ 18446744073709551615
IsOfScript _ = ⊥

-- the refusal is told, and the line gave nothing
pub record TellsRefusal (old : Script) (why : CallError) (said : List ℕ) (new : Script) : Type 0 where
  pub text : List ℕ
  pub prints : Prints old.env.table (reply.Refused why) text
  pub told : said ≡ reply_line (line_number old) text
  pub after : new ≡ with_line old gave.Nothing

-- the call is done, its reply is told, and what it gave is kept
pub record TellsCall (old : Script) (c : Call) (r : Reply) (said : List ℕ) (new : Script) : Type 0 where
  pub reaches : Reaches old.env c r new.env
  pub text : List ℕ
  pub prints : Prints new.env.table r text
  pub fits : length text ≤ text_limit
  pub told : said ≡ reply_line (line_number old) text
  pub kept : new ≡ with_line (record old { env = new.env }) (given_by r)

-- the call is done, and its reply is past the limit; or memory is refused
abbrev pub StopsDoing : Script → ℕ → Call → ScriptStop → Type 0
StopsDoing old column c (stop.TooLong place) = IsHere old column place × (r : Reply) × (new : State) × Reaches old.env c r new × IsLongReply new.table r
StopsDoing old column c stop.NoMemory = Unit {0}
StopsDoing old column c _ = ⊥

-- the place of a column on a line
abbrev pub place_at : ℕ → ℕ → Place
place_at line column = record { line = line; column = column }

-- why a line can't be read, told with its place
abbrev pub told_error : LineError → ℕ → ScriptStop
told_error (line_error.BadByte column) line = stop.Syntax told.BadByte (place_at line column)
told_error (line_error.Unexpected column) line = stop.Syntax told.Unexpected (place_at line column)
told_error (line_error.EndOfInput column) line = stop.Syntax told.EndOfInput (place_at line column)
told_error (line_error.NotBuilt column) line = stop.NotBuilt (place_at line column)
told_error line_error.NoMemory line = stop.NoMemory
