-- What was answered of a script of calls, a line each, and why no more was.
use Rattle.std.specs.Prelude.{◌≡◌, ℕ, Bool, true, false, List, [], ◌∷◌, ◌++◌, Option, length, map}
use Rattle.std.specs.List.{AllByRecursion}
use Rattle.y_io.specs.Outside.{Rose, Grows, GrowsByPart}
use Rattle.yices_text.specs.declared.error.SyntaxKind.{SyntaxKind}
use Rattle.yices_text.specs.declared.error.SyntaxKind.TheVariants as syntax
use Rattle.expression_terms.specs.declared.refusal.Refusal.TheVariants as refusal
use Rattle.call_script.specs.declared.lines.LineEnd.{LineEnd}
use Rattle.call_script.specs.declared.lines.LineEnd.TheVariants as line_end
use Rattle.yices_api.specs.declared.calls.Call.{Call}
use Rattle.yices_api.specs.declared.replies.Reply.{Reply}
use Rattle.yices_api.specs.declared.handles.ContextId.{ContextId}
use Rattle.yices_api.specs.State.{IsFreedContext}
use Rattle.yices_api.specs.Runs.{Runs, Lasts}
use Rattle.script_session.specs.declared.stop.SyntaxFault.{SyntaxFault}
use Rattle.script_session.specs.declared.stop.SyntaxFault.TheVariants as fault
use Rattle.script_session.specs.declared.stop.ScriptStop.{ScriptStop}
use Rattle.script_session.specs.declared.stop.ScriptStop.TheVariants as stop
use Rattle.script_session.specs.State.{Script, IsStart}
use Rattle.script_session.specs.Steps.{Answers, Stops}
use Rattle.script_session.specs.Runs.{ScriptLine, Run, calls_of, replies_of}
use Rattle.yices_cli.specs.declared.exit.Exit.{Exit}
use Rattle.yices_cli.specs.declared.exit.Exit.TheVariants as exit
use Rattle.yices_cli.specs.declared.exit.LongKind.TheVariants as long
use Rattle.yices_cli.specs.Seen.{SourceSeen, SinkSeen, IsGot, MayBreak, HoldsMore, text_limit, joined}

-- no byte of these is the 10 that ends a line
abbrev pub IsOneLine : List ℕ → Type 0
IsOneLine bytes = AllByRecursion (λ b. b ≡ 10 → ⊥) bytes

-- the lines one after another, each with its byte 10
abbrev pub ended : List (List ℕ) → List ℕ
ended [] = []
ended (l ∷ ls) = l ++ 10 ∷ ended ls

-- the text is these lines, each ended by byte 10, and the rest behind the last of them
pub record IsLines (text : List ℕ) (lines : List (List ℕ)) (rest : List ℕ) : Type 0 where
  pub is : text ≡ ended lines ++ rest
  pub each : AllByRecursion IsOneLine lines
  pub behind : IsOneLine rest

-- how the rest of a text ends: with the text where that is finished, else it is open
abbrev pub end_of : Bool → LineEnd
end_of true = line_end.TextEnd
end_of false = line_end.Open

-- a line that byte 10 ends
abbrev pub ended_line : List ℕ → ScriptLine
ended_line bytes = record { bytes = bytes; end = line_end.Newline }

-- the text is a script of these lines: those that byte 10 ends, and the rest behind them
pub record IsScript (finished : Bool) (text : List ℕ) (lines : List ScriptLine) : Type 0 where
  pub whole : List (List ℕ)
  pub rest : List ℕ
  pub split : IsLines text whole rest
  pub are : lines ≡ map ended_line whole ++ record { bytes = rest; end = end_of finished } ∷ []

-- what a handle stood for it stands for, or it was freed; and no freed handle comes back, of a term, a type or a context
pub record KeepsHandles (old new : Script) : Type 0 where
  pub table : Lasts old.env.table new.env.table
  pub contexts : (c : ContextId) → IsFreedContext old.env c → IsFreedContext new.env c

-- so it is from behind each line of a run up to the run's end
abbrev pub HandlesLast : Script → Script → Type 0
HandlesLast first last = (front back : List ScriptLine) (done doing : List (Option (Call × Reply))) (said saying : List (List ℕ)) (mid : Script)
    → Run first front done said mid → Run mid back doing saying last → KeepsHandles mid last

-- the lines were answered from an empty environment on, up to this state, and their replies written; the calls that they made are a history of the environment
pub record HasRun (old new : Option (List ℕ)) (lines : List ScriptLine) (last : Script) : Type 0 where
  pub first : Script
  pub start : IsStart first
  pub done : List (Option (Call × Reply))
  pub said : List (List ℕ)
  pub run : Run first lines done said last
  pub history : Runs first.env (calls_of done) (replies_of done) last.env
  pub handles : HandlesLast first last
  pub written : Grows old new (joined said)

-- every line of the text was answered; of an open one nothing is said, and it has no fault so far
pub record IsAnswered (finished : Bool) (text : List ℕ) (out : SinkSeen) : Type 0 where
  pub lines : List ScriptLine
  pub script : IsScript finished text lines
  pub last : Script
  pub run : HasRun out.old out.new lines last

-- the whole input is a script, and every line of it was answered
pub record IsReadScript (input : SourceSeen) (out : SinkSeen) : Type 0 where
  pub text : List ℕ
  pub got : IsGot input true text
  pub answered : IsAnswered true text out

-- a read failed where the next byte of the script was needed
pub record IsBrokenScript (input : SourceSeen) (out : SinkSeen) : Type 0 where
  pub text : List ℕ
  pub got : IsGot input false text
  pub answered : IsAnswered false text out
  pub rose : Rose input.before input.after
  pub breaks : MayBreak (input.breaks (length text))

-- the next byte of the script was needed past the limit
pub record IsLongScript (input : SourceSeen) (out : SinkSeen) : Type 0 where
  pub text : List ℕ
  pub more : HoldsMore input.held text
  pub full : length text ≡ text_limit
  pub answered : IsAnswered false text out

-- the first lines of the script were answered
pub record IsScriptPart (input : SourceSeen) (out : SinkSeen) : Type 0 where
  pub finished : Bool
  pub text : List ℕ
  pub got : IsGot input finished text
  pub front : List ScriptLine
  pub back : List ScriptLine
  pub script : IsScript finished text (front ++ back)
  pub last : Script
  pub run : HasRun out.old out.new front last

-- the kind of a line's fault, as one of a text
abbrev pub kind_of_line : SyntaxFault → SyntaxKind
kind_of_line fault.BadByte = syntax.BadByte
kind_of_line fault.Unexpected = syntax.Unexpected
kind_of_line fault.EndOfInput = syntax.EndOfInput

-- the exit where a line isn't answered
abbrev pub exit_of : ScriptStop → Exit
exit_of (stop.Syntax kind place) = exit.Syntax (record { place = place; kind = kind_of_line kind })
exit_of (stop.NotBuilt place) = exit.Refused place refusal.NotBuilt
exit_of (stop.TooLong place) = exit.TooLong (long.Reply place)
exit_of stop.NoMemory = exit.NoMemory

-- the lines before one were answered, and that one isn't, for a cause that is this exit
pub record IsStoppedAtLine (input : SourceSeen) (out : SinkSeen) (e : Exit) : Type 0 where
  pub finished : Bool
  pub text : List ℕ
  pub got : IsGot input finished text
  pub front : List ScriptLine
  pub line : ScriptLine
  pub back : List ScriptLine
  pub script : IsScript finished text (front ++ line ∷ back)
  pub last : Script
  pub run : HasRun out.old out.new front last
  pub why : ScriptStop
  pub stops : Stops last line.end line.bytes why
  pub is : exit_of why ≡ e

-- the replies to the lines before one were written, and of the reply to that one not all
pub record IsScriptCutShort (input : SourceSeen) (out : SinkSeen) : Type 0 where
  pub finished : Bool
  pub text : List ℕ
  pub got : IsGot input finished text
  pub front : List ScriptLine
  pub line : ScriptLine
  pub back : List ScriptLine
  pub script : IsScript finished text (front ++ line ∷ back)
  pub last : Script
  pub between : Option (List ℕ)
  pub run : HasRun out.old between front last
  pub done : Option (Call × Reply)
  pub said : List ℕ
  pub next : Script
  pub answers : Answers last line.end line.bytes done said next
  pub rose : Rose out.before out.after
  pub written : GrowsByPart between out.new said

-- why the answering of a script stops, and what was written on `out`; a refused call is a reply and stops nothing
abbrev pub StopsScript : SourceSeen → SinkSeen → Exit → Type 0
StopsScript input out exit.Done = IsReadScript input out
StopsScript input out exit.NoMemory = IsScriptPart input out
StopsScript input out (exit.Syntax e) = IsStoppedAtLine input out (exit.Syntax e)
StopsScript input out exit.ReadFault = IsBrokenScript input out
StopsScript input out (exit.Usage k) = ⊥
StopsScript input out (exit.Refused at why) = IsStoppedAtLine input out (exit.Refused at why)
StopsScript input out exit.WriteFault = ⊥
StopsScript input out (exit.TooLong long.Bytes) = IsLongScript input out
StopsScript input out (exit.TooLong (long.Nesting at)) = ⊥
StopsScript input out (exit.TooLong (long.Reply at)) = IsStoppedAtLine input out (exit.TooLong (long.Reply at))
