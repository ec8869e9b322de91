-- The results of the code, as what lines say.
use Rattle.std.specs.Prelude.{◌≡◌, ℕ, List, map, Result, Ok, Err}
use Rattle.call_script.specs.declared.lines.Argument.{Argument}
use Rattle.call_script.specs.declared.lines.Argument.TheVariants as argument
use Rattle.call_script.specs.declared.lines.Call.{Call}
use Rattle.call_script.specs.declared.lines.LineEnd.{LineEnd}
use Rattle.call_script.specs.declared.lines.Line.{Line}
use Rattle.call_script.specs.declared.lines.Line.TheVariants as line
use Rattle.call_script.specs.declared.lines.LineError.{LineError}
use Rattle.call_script.specs.declared.lines.LineError.TheVariants as error
use Rattle.call_script.specs.Lines.{Written, reference, entry, flag, limit, quoted, Front, part, Reading, nothing, called, unfinished, fault, not_built, bad_byte, unexpected, end_of_input, Says, HasForm}

-- an argument, as written
abbrev pub written : Argument → Written
written (argument.Reference k) = reference k
written (argument.Entry k i) = entry k i
written (argument.Flag b) = flag b
written (argument.Limit n) = limit n
written (argument.Name s) = quoted s

-- the arguments, as written
abbrev pub all_written : List Argument → List Written
all_written args = map written args

-- what a line says
abbrev pub reading_of : Line → Reading
reading_of line.Empty = nothing
reading_of (line.Call c) = called c.column c.word (all_written c.arguments.items)
reading_of line.Unfinished = unfinished

-- a call as far as it was read
abbrev pub front_of : Call → Front
front_of c = part c.column c.word (all_written c.arguments.items)

-- the error says that; memory may be refused at any time
abbrev pub ErrorTells : LineError → Reading → Type 0
ErrorTells (error.BadByte column) r = r ≡ fault bad_byte column
ErrorTells (error.Unexpected column) r = r ≡ fault unexpected column
ErrorTells (error.EndOfInput column) r = r ≡ fault end_of_input column
ErrorTells (error.NotBuilt column) r = r ≡ not_built column
ErrorTells error.NoMemory r = Unit {0}

-- the result says that
abbrev pub Tells : Result Line LineError → Reading → Type 0
Tells (Ok l) r = r ≡ reading_of l
Tells (Err e) r = ErrorTells e r

-- a call has the form of its word
abbrev pub IsFormed : Line → Type 0
IsFormed line.Empty = Unit {0}
IsFormed (line.Call c) = HasForm c.word (all_written c.arguments.items)
IsFormed line.Unfinished = Unit {0}

-- why the line is none, where it ends so; memory may be refused at any time
abbrev pub Refuses : LineEnd → List ℕ → LineError → Type 0
Refuses end bytes (error.BadByte column) = Says end bytes (fault bad_byte column)
Refuses end bytes (error.Unexpected column) = Says end bytes (fault unexpected column)
Refuses end bytes (error.EndOfInput column) = Says end bytes (fault end_of_input column)
Refuses end bytes (error.NotBuilt column) = Says end bytes (not_built column)
Refuses end bytes error.NoMemory = Unit {0}
