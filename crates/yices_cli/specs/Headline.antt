-- What the program writes and why it stops, for every text and every list of words.
use Rattle.std.specs.Prelude.{◌≡◌, ℕ, List, [], ◌⊎◌, take}
use Rattle.y_io.specs.Outside.{Rose, Grows, GrowsByPart}
use Rattle.yices_grammar.specs.declared.Place.{Place}
use Rattle.yices_text.specs.declared.error.SyntaxError.{SyntaxError}
use Rattle.expression_terms.specs.declared.refusal.Refusal.{Refusal}
use Rattle.yices_cli.specs.declared.exit.Exit.{Exit}
use Rattle.yices_cli.specs.declared.exit.Exit.TheVariants as exit
use Rattle.yices_cli.specs.declared.exit.LongKind.{LongKind}
use Rattle.yices_cli.specs.declared.words.Mode.{Mode}
use Rattle.yices_cli.specs.declared.words.Mode.TheVariants as mode
use Rattle.yices_cli.specs.Exits.{line_of}
use Rattle.yices_cli.specs.Words.{HasMode, IsUsage}
use Rattle.yices_cli.specs.Seen.{SourceSeen, SinkSeen}
use Rattle.yices_cli.specs.Commands.{StopsCommands, IsCutShort}
use Rattle.yices_cli.specs.Scripts.{StopsScript, IsScriptCutShort}

-- why the program stops in a mode, and what it wrote on `out`
abbrev pub StopsIn : Mode → SourceSeen → SinkSeen → Exit → Type 0
StopsIn (mode.Language turns) input out e = StopsCommands turns input out e
StopsIn mode.Calls input out e = StopsScript input out e

-- the replies before one were written, and of that one not all
abbrev pub IsCutShortIn : Mode → SourceSeen → SinkSeen → Type 0
IsCutShortIn (mode.Language turns) input out = IsCutShort turns input out
IsCutShortIn mode.Calls input out = IsScriptCutShort input out

-- the words are valid, and in the mode that they ask for the program stops so
abbrev pub StopsAsAsked : List (List ℕ) → SourceSeen → SinkSeen → Exit → Type 0
StopsAsAsked words input out e = (m : Mode) × HasMode words m × StopsIn m input out e

-- why the program stops, and what it wrote on `out`; a word is at fault exactly where the words aren't valid
abbrev pub Stops : List (List ℕ) → SourceSeen → SinkSeen → Exit → Type 0
Stops words input out exit.NoMemory = Grows out.old out.new [] ⊎ StopsAsAsked words input out exit.NoMemory
Stops words input out (exit.Usage k) = IsUsage words k × Grows out.old out.new []
Stops words input out exit.Done = StopsAsAsked words input out exit.Done
Stops words input out (exit.Syntax e) = StopsAsAsked words input out (exit.Syntax e)
Stops words input out exit.ReadFault = StopsAsAsked words input out exit.ReadFault
Stops words input out (exit.Refused at why) = StopsAsAsked words input out (exit.Refused at why)
Stops words input out exit.WriteFault = ⊥
Stops words input out (exit.TooLong kind) = StopsAsAsked words input out (exit.TooLong kind)

-- the line of another cause was due on errors and couldn't be written whole
pub record IsLineFault (words : List (List ℕ)) (input : SourceSeen) (out errors : SinkSeen) : Type 0 where
  pub cause : Exit
  pub due : Stops words input out cause
  pub rose : Rose errors.before errors.after
  pub written : GrowsByPart errors.old errors.new (line_of cause)

-- the output failed, and the start of its own line, or all of it, was written on errors
pub record IsOutFault (words : List (List ℕ)) (input : SourceSeen) (out errors : SinkSeen) : Type 0 where
  pub mode : Mode
  pub valid : HasMode words mode
  pub cut : IsCutShortIn mode input out
  pub count : ℕ
  pub written : Grows errors.old errors.new (take count (line_of exit.WriteFault))

-- an exit with its cause: what it says of `out`, and its whole line on errors
abbrev pub Ends : List (List ℕ) → SourceSeen → SinkSeen → SinkSeen → Exit → Type 0
Ends words input out errors e = Stops words input out e × Grows errors.old errors.new (line_of e)

-- the headline, an exit at a time
pub record Headline (words : List (List ℕ)) (input : SourceSeen) (out errors : SinkSeen) (e : Exit) : Type 0 where
  pub done : e ≡ exit.Done → Ends words input out errors exit.Done
  pub no_memory : e ≡ exit.NoMemory → Ends words input out errors exit.NoMemory
  pub syntax : (fault : SyntaxError) → e ≡ exit.Syntax fault → Ends words input out errors (exit.Syntax fault)
  pub read_fault : e ≡ exit.ReadFault → Ends words input out errors exit.ReadFault
  pub usage : (k : ℕ) → e ≡ exit.Usage k → Ends words input out errors (exit.Usage k)
  pub refused : (at : Place) (why : Refusal) → e ≡ exit.Refused at why → Ends words input out errors (exit.Refused at why)
  pub write_fault : e ≡ exit.WriteFault → IsOutFault words input out errors ⊎ IsLineFault words input out errors
  pub too_long : (kind : LongKind) → e ≡ exit.TooLong kind → Ends words input out errors (exit.TooLong kind)
