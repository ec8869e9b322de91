-- What a turn of a script says: answering a line and writing what is said.
use Rattle.std.specs.Prelude.{◌≡◌, ℕ, ◌⊎◌, List, [], ◌∷◌, ◌++◌, Option}
use Rattle.y_io.specs.Outside.{Rose, GrowsByPart}
use Rattle.yices_api.specs.declared.calls.Call.{Call}
use Rattle.yices_api.specs.declared.replies.Reply.{Reply}
use Rattle.script_session.specs.declared.stop.ScriptStop.{ScriptStop}
use Rattle.script_session.specs.State.{Script}
use Rattle.script_session.specs.Steps.{Answers, Stops}
use Rattle.script_session.specs.Runs.{ScriptLine}
use Rattle.yices_cli.specs.declared.exit.Exit.{Exit}
use Rattle.yices_cli.specs.declared.exit.Exit.TheVariants as exit
use Rattle.yices_cli.specs.Seen.{SinkSeen}
use Rattle.yices_cli.specs.Scripts.{HasRun, exit_of}

-- a line more was answered, and what is said written: the lines that were answered are one more
abbrev pub GoesOn : Script → ScriptLine → Option (List ℕ) → Option (List ℕ) → Script → Type 0
GoesOn old line written now new = (first : Option (List ℕ)) (front : List ScriptLine) → HasRun first written front old → HasRun first now (front ++ line ∷ []) new

-- a line isn't answered, and nothing was written
pub record IsUnsaid (old : Script) (line : ScriptLine) (out : SinkSeen) (e : Exit) : Type 0 where
  pub same : out.new ≡ out.old
  pub why : ScriptStop
  pub stops : Stops old line.end line.bytes why
  pub is : exit_of why ≡ e

-- a line was answered, but what is said couldn't be written whole
pub record IsHalfSaid (old : Script) (line : ScriptLine) (out : SinkSeen) : Type 0 where
  pub done : Option (Call × Reply)
  pub said : List ℕ
  pub next : Script
  pub answers : Answers old line.end line.bytes done said next
  pub rose : Rose out.before out.after
  pub part : GrowsByPart out.old out.new said

-- why what is said of a line isn't written whole
abbrev pub IsFailedLine : Script → ScriptLine → SinkSeen → Exit → Type 0
IsFailedLine old line out e = IsUnsaid old line out e ⊎ ((e ≡ exit.WriteFault) × IsHalfSaid old line out)
