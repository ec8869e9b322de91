-- The exits of the program: their statuses, and the lines that they write on errors.
use Rattle.std.specs.Prelude.{ℕ, List, [], ◌++◌, codes, decimal}
use Rattle.yices_grammar.specs.declared.Place.{Place}
use Rattle.yices_text.specs.declared.error.SyntaxKind.{SyntaxKind}
use Rattle.yices_text.specs.declared.error.SyntaxKind.TheVariants as syntax
use Rattle.expression_terms.specs.declared.refusal.Refusal.{Refusal}
use Rattle.expression_terms.specs.declared.refusal.Refusal.TheVariants as refusal
use Rattle.yices_cli.specs.declared.exit.Exit.{Exit}
use Rattle.yices_cli.specs.declared.exit.Exit.TheVariants as exit
use Rattle.yices_cli.specs.declared.exit.LongKind.{LongKind}
use Rattle.yices_cli.specs.declared.exit.LongKind.TheVariants as long

-- the status of the process
abbrev pub status_of : Exit → ℕ
status_of exit.Done = 0
status_of exit.NoMemory = 16
status_of (exit.Syntax e) = 17
status_of exit.ReadFault = 18
status_of (exit.Usage k) = 19
status_of (exit.Refused at why) = 20
status_of exit.WriteFault = 22
status_of (exit.TooLong kind) = 23

-- the name of a kind of syntax fault
abbrev pub kind_text : SyntaxKind → List ℕ
kind_text syntax.BadByte = codes "BadByte"
kind_text syntax.BadLiteral = codes "BadLiteral"
kind_text syntax.Unexpected = codes "Unexpected"
kind_text syntax.EndOfInput = codes "EndOfInput"

-- a refusal's code, name and values
abbrev pub refusal_text : Refusal → List ℕ
refusal_text (refusal.UnknownName w) = codes "1 UnknownName " ++ w
refusal_text (refusal.NameInUse w) = codes "3 NameInUse " ++ w
refusal_text (refusal.BoundTwice w) = codes "4 BoundTwice " ++ w
refusal_text (refusal.BadArity n) = codes "6 BadArity " ++ decimal n
refusal_text (refusal.WrongType place wanted found) = codes "8 WrongType " ++ (decimal place ++ (codes " " ++ (wanted ++ (codes " " ++ found))))
refusal_text refusal.BottomLevel = codes "15 BottomLevel"
refusal_text refusal.TooDeep = codes "16 TooDeep"
refusal_text refusal.TableFull = codes "19 TableFull"
refusal_text refusal.NotBuilt = codes "21 NotBuilt"

-- a line of standard input's, with its end: the place, and what is said of it
abbrev pub line_at : Place → List ℕ → List ℕ
line_at at said = codes "yices: <stdin>:" ++ (decimal at.line ++ (codes ":" ++ (decimal at.column ++ (codes ": " ++ (said ++ codes "\n")))))

-- the line of a limit that was passed
abbrev pub long_line : LongKind → List ℕ
long_line long.Bytes = codes "yices: too long: bytes\n"
long_line (long.Nesting at) = line_at at (codes "too long: nesting")
long_line (long.Reply at) = line_at at (codes "too long: reply")

-- the line that an exit writes on errors, with its end; nothing where all is done
abbrev pub line_of : Exit → List ℕ
line_of exit.Done = []
line_of exit.NoMemory = codes "yices: out of memory\n"
line_of (exit.Syntax e) = line_at e.place (codes "syntax " ++ kind_text e.kind)
line_of exit.ReadFault = codes "yices: <stdin>: read fault\n"
line_of (exit.Usage k) = codes "yices: usage error at word " ++ decimal k ++ codes "\n"
line_of (exit.Refused at why) = line_at at (codes "refused " ++ refusal_text why)
line_of exit.WriteFault = codes "yices: write fault\n"
line_of (exit.TooLong kind) = long_line kind
