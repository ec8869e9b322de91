-- What the parts of the program say: reading the text, answering it, writing the line of the exit.
use Rattle.std.specs.Prelude.{◌≡◌, ℕ, Bool, true, false, ◌⊎◌, List, [], Option, length, take}
use Rattle.y_io.specs.Outside.{Rose, Grows, GrowsByPart}
use Rattle.yices_cli.specs.declared.exit.Exit.{Exit}
use Rattle.yices_cli.specs.declared.exit.Exit.TheVariants as exit
use Rattle.yices_cli.specs.declared.reading.TextEnd.{TextEnd}
use Rattle.yices_cli.specs.declared.reading.TextEnd.TheVariants as text_end
use Rattle.yices_cli.specs.declared.words.Mode.{Mode}
use Rattle.yices_cli.specs.Exits.{line_of}
use Rattle.yices_cli.specs.Words.{HasMode}
use Rattle.yices_cli.specs.Seen.{SourceSeen, SinkSeen, IsGot, MayBreak, HoldsMore, text_limit}
use Rattle.yices_cli.specs.Headline.{StopsIn, IsCutShortIn, Stops}

-- no byte comes behind the text
abbrev pub is_finished : TextEnd → Bool
is_finished text_end.InputEnd = true
is_finished text_end.ReadFault = false
is_finished text_end.Limit = false

-- the text was got from the input up to what ended it
abbrev pub IsTextTo : SourceSeen → List ℕ → TextEnd → Type 0
IsTextTo input text text_end.InputEnd = IsGot input true text
IsTextTo input text text_end.ReadFault = IsGot input false text × Rose input.before input.after × MayBreak (input.breaks (length text))
IsTextTo input text text_end.Limit = HoldsMore input.held text × (length text ≡ text_limit)

-- memory ran out before anything was written
abbrev pub Forgets : SinkSeen → Exit → Type 0
Forgets out e = (e ≡ exit.NoMemory) × Grows out.old out.new []

-- a reply was cut short
abbrev pub IsCut : Mode → SourceSeen → SinkSeen → Exit → Type 0
IsCut m input out e = (e ≡ exit.WriteFault) × IsCutShortIn m input out

-- why nothing more is answered in a mode: a cause that has a line on errors, or a reply cut short
abbrev pub AnswersIn : Mode → SourceSeen → SinkSeen → Exit → Type 0
AnswersIn m input out e = StopsIn m input out e ⊎ IsCut m input out e ⊎ Forgets out e

-- why nothing more is answered
abbrev pub Answers : List (List ℕ) → SourceSeen → SinkSeen → Exit → Type 0
Answers words input out e = Stops words input out e ⊎ ((m : Mode) × HasMode words m × IsCut m input out e)

-- whatever input the text was got from, the program ends so
pub record EndsSo (m : Mode) (end : TextEnd) (text : List ℕ) (out : SinkSeen) (e : Exit) : Type 0 where
  pub so : (input : SourceSeen) → IsTextTo input text end → AnswersIn m input out e

-- the line of the exit was written, or couldn't be written whole
abbrev pub WritesOwnLine : Option (List ℕ) → Option (List ℕ) → ℕ → ℕ → Exit → Exit → Type 0
WritesOwnLine old new before after e result =
    ((result ≡ e) × Grows old new (line_of e)) ⊎ ((result ≡ exit.WriteFault) × Rose before after × GrowsByPart old new (line_of e))

-- a part of the line of a failed output was written
abbrev pub WritesFault : Option (List ℕ) → Option (List ℕ) → Exit → Type 0
WritesFault old new result = (result ≡ exit.WriteFault) × ((n : ℕ) × Grows old new (take n (line_of exit.WriteFault)))

-- the line of the exit was written, or that of want of memory in its place
abbrev pub WritesEither : Option (List ℕ) → Option (List ℕ) → ℕ → ℕ → Exit → Exit → Type 0
WritesEither old new before after e result = WritesOwnLine old new before after e result ⊎ WritesOwnLine old new before after exit.NoMemory result

-- the line of a failed output, or of another exit
abbrev pub WritesLine : Option (List ℕ) → Option (List ℕ) → ℕ → ℕ → Exit → Exit → Type 0
WritesLine old new before after e result =
    ((e ≡ exit.WriteFault) × WritesFault old new result) ⊎ ((e ≡ exit.WriteFault → ⊥) × WritesEither old new before after e result)
