-- What was answered of a text of commands, and why no more was.
use Rattle.std.specs.Prelude.{◌≡◌, ℕ, ◌<◌, Bool, true, false, List, [], ◌∷◌, ◌++◌, Option, ◌⊎◌, length, take}
use Rattle.y_io.specs.Outside.{Rose, Grows}
use Rattle.yices_grammar.specs.declared.Place.{Place}
use Rattle.yices_grammar.specs.Commands.{exit, Command}
use Rattle.yices_grammar.specs.Texts.{Reads, BeginsWith}
use Rattle.yices_grammar.specs.Faults.{Fault, FaultKind, nesting, HasFault}
use Rattle.yices_text.specs.View.{HoldsNoMore, kind_of}
use Rattle.clause_search.specs.declared.Turns.{Turns}
use Rattle.expression_terms.specs.declared.refusal.Refusal.{Refusal}
use Rattle.expression_terms.specs.declared.refusal.Stop.TheVariants as stop
use Rattle.yices_session.specs.State.{State, IsStart}
use Rattle.yices_session.specs.Steps.{Runs, Step}
use Rattle.yices_session.specs.Refusals.{Stays}
use Rattle.yices_session.specs.Refusals as session
use Rattle.yices_cli.specs.declared.exit.Exit.{Exit}
use Rattle.yices_cli.specs.declared.exit.Exit.TheVariants as exit
use Rattle.yices_cli.specs.declared.exit.LongKind.TheVariants as long
use Rattle.yices_cli.specs.Seen.{SourceSeen, SinkSeen, IsGot, MayBreak, HoldsMore, text_limit, joined}

-- the commands were answered from a start on, each check within so many turns, up to this state, and their replies written
pub record HasAnswered (turns : Turns) (old new : Option (List ℕ)) (commands : List Command) (last : State) : Type 0 where
  pub start : State
  pub is_start : IsStart start
  pub replies : List (List ℕ)
  pub runs : Runs turns start commands replies last
  pub written : Grows old new (joined replies)

-- the whole text is a list of commands, and all of them were answered
pub record IsRead (turns : Turns) (input : SourceSeen) (out : SinkSeen) : Type 0 where
  pub text : List ℕ
  pub got : IsGot input true text
  pub commands : List Command
  pub reads : Reads text commands
  pub last : State
  pub answered : HasAnswered turns out.old out.new commands last

-- the commands before an `exit` were answered, whatever follows it
pub record IsLeft (turns : Turns) (input : SourceSeen) (out : SinkSeen) : Type 0 where
  pub finished : Bool
  pub text : List ℕ
  pub got : IsGot input finished text
  pub front : List Command
  pub command : Command
  pub begins : BeginsWith text (front ++ command ∷ [])
  pub exits : command.action ≡ exit
  pub last : State
  pub answered : HasAnswered turns out.old out.new front last

-- the commands before a fault of the text were answered
pub record IsFaulty (turns : Turns) (input : SourceSeen) (out : SinkSeen) (kind : FaultKind) (at : Place) : Type 0 where
  pub finished : Bool
  pub text : List ℕ
  pub got : IsGot input finished text
  pub front : List Command
  pub begins : BeginsWith text front
  pub fault : HasFault finished text front (record { kind = kind; place = at })
  pub last : State
  pub answered : HasAnswered turns out.old out.new front last

-- the commands before one that is refused were answered; what they declared and asserted stays
pub record IsRefused (turns : Turns) (input : SourceSeen) (out : SinkSeen) (at : Place) (why : Refusal) : Type 0 where
  pub finished : Bool
  pub text : List ℕ
  pub got : IsGot input finished text
  pub front : List Command
  pub command : Command
  pub begins : BeginsWith text (front ++ command ∷ [])
  pub last : State
  pub answered : HasAnswered turns out.old out.new front last
  pub next : State
  pub stopped : session.IsStopped last command (stop.Refused at why) next
  pub stays : Stays last next

-- all whole commands of a text that goes on were answered, and it has no fault behind them
pub record HasWaited (turns : Turns) (text : List ℕ) (out : SinkSeen) : Type 0 where
  pub front : List Command
  pub begins : BeginsWith text front
  pub no_more : HoldsNoMore text front
  pub no_fault : (f : Fault) → HasFault false text front f → ⊥
  pub last : State
  pub answered : HasAnswered turns out.old out.new front last

-- a read failed where the next byte of the text was needed
pub record IsReadFault (turns : Turns) (input : SourceSeen) (out : SinkSeen) : Type 0 where
  pub text : List ℕ
  pub got : IsGot input false text
  pub waited : HasWaited turns text out
  pub rose : Rose input.before input.after
  pub breaks : MayBreak (input.breaks (length text))

-- the next byte was needed past the limit
pub record IsPastLimit (turns : Turns) (input : SourceSeen) (out : SinkSeen) : Type 0 where
  pub text : List ℕ
  pub more : HoldsMore input.held text
  pub full : length text ≡ text_limit
  pub waited : HasWaited turns text out

-- the first of the commands that the text begins with were answered
pub record IsStopped (turns : Turns) (input : SourceSeen) (out : SinkSeen) : Type 0 where
  pub finished : Bool
  pub text : List ℕ
  pub got : IsGot input finished text
  pub front : List Command
  pub rest : List Command
  pub begins : BeginsWith text (front ++ rest)
  pub last : State
  pub answered : HasAnswered turns out.old out.new front last

-- the replies before that to a command were written, and of that one not all
pub record IsCutShort (turns : Turns) (input : SourceSeen) (out : SinkSeen) : Type 0 where
  pub finished : Bool
  pub text : List ℕ
  pub got : IsGot input finished text
  pub front : List Command
  pub command : Command
  pub begins : BeginsWith text (front ++ command ∷ [])
  pub start : State
  pub is_start : IsStart start
  pub replies : List (List ℕ)
  pub last : State
  pub runs : Runs turns start front replies last
  pub reply : List ℕ
  pub next : State
  pub step : Step turns last command reply next
  pub rose : Rose out.before out.after
  pub count : ℕ
  pub part : count < length reply
  pub written : Grows out.old out.new (joined replies ++ take count reply)

-- why the answering of commands stops with that limit of turns for each check, and what was written on `out`
abbrev pub StopsCommands : Turns → SourceSeen → SinkSeen → Exit → Type 0
StopsCommands turns input out exit.Done = IsRead turns input out ⊎ IsLeft turns input out
StopsCommands turns input out exit.NoMemory = IsStopped turns input out
StopsCommands turns input out (exit.Syntax e) = IsFaulty turns input out (kind_of e.kind) e.place
StopsCommands turns input out exit.ReadFault = IsReadFault turns input out
StopsCommands turns input out (exit.Usage k) = ⊥
StopsCommands turns input out (exit.Refused at why) = IsRefused turns input out at why
StopsCommands turns input out exit.WriteFault = ⊥
StopsCommands turns input out (exit.TooLong long.Bytes) = IsPastLimit turns input out
StopsCommands turns input out (exit.TooLong (long.Nesting at)) = IsFaulty turns input out nesting at
StopsCommands turns input out (exit.TooLong (long.Reply at)) = ⊥
