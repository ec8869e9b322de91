-- How replies are printed.
use Rattle.std.specs.Prelude.{◌≡◌, ℕ, ◌<◌, true, false, List, [], ◌∷◌, ◌++◌, length, codes, decimal}
use Rattle.shape_rules.specs.declared.errors.Wanted.{Wanted}
use Rattle.shape_rules.specs.declared.errors.Wanted.TheVariants as wanted
use Rattle.context_stack.specs.declared.errors.Status.TheVariants as status
use Rattle.term_table.specs.World.{World}
use Rattle.term_texts.specs.TermTexts.{Writes, text_limit}
use Rattle.term_texts.specs.TypeTexts.{type_text}
use Rattle.yices_api.specs.declared.replies.CallError.{CallError}
use Rattle.yices_api.specs.declared.replies.CallError.TheVariants as error
use Rattle.yices_api.specs.declared.replies.Reply.{Reply}
use Rattle.yices_api.specs.declared.replies.Reply.TheVariants as reply

-- what type an argument is to have
abbrev pub wanted_text : World → Wanted → List ℕ
wanted_text w wanted.Bool = codes "bool"
wanted_text w wanted.Real = codes "real"
wanted_text w wanted.AnyBv = codes "bitvector"
wanted_text w wanted.AnyFun = codes "function"
wanted_text w (wanted.Same t) = type_text w t

-- a refusal's name, and its values in order behind single spaces
abbrev pub PrintsRefusal : World → CallError → List ℕ → Type 0
PrintsRefusal w (error.NoResult place) text = text ≡ codes "NoResult " ++ decimal place
PrintsRefusal w (error.WrongKind place) text = text ≡ codes "WrongKind " ++ decimal place
PrintsRefusal w (error.DeadContext place) text = text ≡ codes "DeadContext " ++ decimal place
PrintsRefusal w (error.DeadType place) text = text ≡ codes "DeadType " ++ decimal place
PrintsRefusal w (error.DeadTerm place) text = text ≡ codes "DeadTerm " ++ decimal place
PrintsRefusal w (error.BadArity n) text = text ≡ codes "BadArity " ++ decimal n
PrintsRefusal w (error.WrongType place want found) text = text ≡ codes "WrongType " ++ decimal place ++ codes " " ++ wanted_text w want ++ codes " " ++ type_text w found
PrintsRefusal w (error.WidthsDiffer place left right) text = text ≡ codes "WidthsDiffer " ++ decimal place ++ codes " " ++ decimal left ++ codes " " ++ decimal right
PrintsRefusal w (error.BadWidth n) text = text ≡ codes "BadWidth " ++ decimal n
PrintsRefusal w error.BadRange text = text ≡ codes "BadRange"
PrintsRefusal w error.CountFull text = text ≡ codes "CountFull"
PrintsRefusal w error.CountZero text = text ≡ codes "CountZero"
PrintsRefusal w (error.NotBool place) text = text ≡ codes "NotBool " ++ decimal place
PrintsRefusal w (error.HasVariable v) text = (name : List ℕ) × Writes w v name × (text ≡ codes "HasVariable " ++ name)
PrintsRefusal w error.TooDeep text = text ≡ codes "TooDeep"
PrintsRefusal w error.BottomLevel text = text ≡ codes "BottomLevel"
PrintsRefusal w error.TooMany text = text ≡ codes "TooMany"
PrintsRefusal w error.TooLong text = text ≡ codes "TooLong"
PrintsRefusal w error.TableFull text = text ≡ codes "TableFull"
PrintsRefusal w error.NoCore text = text ≡ codes "NoCore"
PrintsRefusal w error.NotBuilt text = text ≡ codes "NotBuilt"

-- a reply's text; want of memory has none
abbrev pub Prints : World → Reply → List ℕ → Type 0
Prints w (reply.TypeId t) text = text ≡ codes "type " ++ type_text w t
Prints w (reply.Term t) text = text ≡ codes "term"
Prints w (reply.Context c) text = text ≡ codes "context"
Prints w (reply.Terms ts) text = text ≡ codes "list " ++ decimal (length ts)
Prints w reply.Done text = text ≡ codes "ok"
Prints w reply.Nothing text = text ≡ codes "none"
Prints w (reply.Flag true) text = text ≡ codes "true"
Prints w (reply.Flag false) text = text ≡ codes "false"
Prints w (reply.Number n) text = text ≡ decimal n
Prints w (reply.Text t) text = text ≡ t
Prints w (reply.Status status.Idle) text = text ≡ codes "idle"
Prints w (reply.Status status.Sat) text = text ≡ codes "sat"
Prints w (reply.Status status.Unsat) text = text ≡ codes "unsat"
Prints w (reply.Status status.Unknown) text = text ≡ codes "unknown"
Prints w (reply.Refused e) text = (values : List ℕ) × PrintsRefusal w e values × (text ≡ codes "refused " ++ values)
Prints w reply.NoMemory text = ⊥

-- a reply's line: the number of the line that is answered, and the text
abbrev pub reply_line : ℕ → List ℕ → List ℕ
reply_line n text = codes "#" ++ decimal n ++ codes " " ++ text ++ 10 ∷ []

-- these bytes, and a refusal's text behind them
abbrev pub AppendsRefusal : World → CallError → List ℕ → List ℕ → Type 0
AppendsRefusal w e old new = (text : List ℕ) × PrintsRefusal w e text × (new ≡ old ++ text)

-- a refusal's text is past the limit, and a reply's
abbrev pub IsLongRefusal : World → CallError → Type 0
IsLongRefusal w e = (text : List ℕ) × PrintsRefusal w e text × (text_limit < length text)

abbrev pub IsLongReply : World → Reply → Type 0
IsLongReply w r = (text : List ℕ) × Prints w r text × (text_limit < length text)
