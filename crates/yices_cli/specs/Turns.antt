-- What a turn of the run says: reading a command, answering it, writing its reply.
use Rattle.std.specs.Prelude.{◌≡◌, ℕ, Bool, true, false, ◌⊎◌, List, [], ◌∷◌, ◌++◌, Option}
use Rattle.y_io.specs.Outside.{Rose, Grows, GrowsByPart}
use Rattle.yices_grammar.specs.declared.Place.{Place}
use Rattle.yices_grammar.specs.Commands.{exit, Command}
use Rattle.yices_grammar.specs.Texts.{Reads, BeginsWith}
use Rattle.yices_grammar.specs.Faults.{Fault, FaultKind, nesting, HasFault}
use Rattle.yices_text.specs.View.{HoldsNoMore, kind_of}
use Rattle.expression_terms.specs.declared.refusal.Stop.TheVariants as stop
use Rattle.yices_session.specs.Held.{Held}
use Rattle.yices_session.specs.Answers.{Answers, Refuses}
use Rattle.yices_cli.specs.declared.exit.Exit.{Exit}
use Rattle.yices_cli.specs.declared.exit.Exit.TheVariants as ends
use Rattle.yices_cli.specs.declared.exit.LongKind.TheVariants as long
use Rattle.yices_cli.specs.Seen.{SinkSeen}

-- the text has no fault behind the commands
abbrev pub HasNoFault : Bool → List ℕ → List Command → Type 0
HasNoFault finished text commands = (f : Fault) → HasFault finished text commands f → ⊥

-- the text has that fault behind the commands
abbrev pub HasFaultAt : Bool → List ℕ → List Command → FaultKind → Place → Type 0
HasFaultAt finished text commands kind at = HasFault finished text commands (record { kind = kind; place = at })

-- why no command was read behind those
abbrev pub IsUnread : Bool → List ℕ → List Command → Exit → Type 0
IsUnread finished text commands ends.Done = ⊥
IsUnread finished text commands ends.NoMemory = Unit {0}
IsUnread finished text commands (ends.Syntax e) = HasFaultAt finished text commands (kind_of e.kind) e.place
IsUnread finished text commands ends.ReadFault = ⊥
IsUnread finished text commands (ends.Usage k) = ⊥
IsUnread finished text commands (ends.Refused at why) = ⊥
IsUnread finished text commands ends.WriteFault = ⊥
IsUnread finished text commands (ends.TooLong long.Bytes) = ⊥
IsUnread finished text commands (ends.TooLong (long.Nesting at)) = HasFaultAt finished text commands nesting at
IsUnread finished text commands (ends.TooLong (long.Reply at)) = ⊥

-- why the session has no reply to a command
abbrev pub IsUnanswered : Held → Command → Exit → Type 0
IsUnanswered old c ends.Done = ⊥
IsUnanswered old c ends.NoMemory = Unit {0}
IsUnanswered old c (ends.Syntax e) = ⊥
IsUnanswered old c ends.ReadFault = ⊥
IsUnanswered old c (ends.Usage k) = ⊥
IsUnanswered old c (ends.Refused at why) = (new : Held) × Refuses c old (stop.Refused at why) new
IsUnanswered old c ends.WriteFault = ⊥
IsUnanswered old c (ends.TooLong kind) = ⊥

-- a command other than `exit` was answered, and its reply written
pub record IsReplied (old : Held) (c : Command) (written now : Option (List ℕ)) (new : Held) : Type 0 where
  pub goes_on : c.action ≡ exit → ⊥
  pub bytes : List ℕ
  pub answers : Answers c old bytes new
  pub grows : Grows written now bytes

-- the command is `exit`, and nothing was written
pub record IsLeaving (c : Command) (written now : Option (List ℕ)) : Type 0 where
  pub exits : c.action ≡ exit
  pub same : now ≡ written

-- a command was answered, but its reply couldn't be written whole
pub record IsHalfReplied (old : Held) (c : Command) (out : SinkSeen) : Type 0 where
  pub bytes : List ℕ
  pub next : Held
  pub answers : Answers c old bytes next
  pub rose : Rose out.before out.after
  pub part : GrowsByPart out.old out.new bytes

-- why the reply to a command isn't written whole
abbrev pub IsUnreplied : Held → Command → SinkSeen → Exit → Type 0
IsUnreplied old c out e = ((out.new ≡ out.old) × IsUnanswered old c e) ⊎ ((e ≡ ends.WriteFault) × IsHalfReplied old c out)

-- the next command of the text behind those was answered
pub record AnswersNext (text : List ℕ) (front now : List Command) (old new : Held) (written grown : Option (List ℕ)) : Type 0 where
  pub command : Command
  pub begins : BeginsWith text (front ++ command ∷ [])
  pub more : now ≡ front ++ command ∷ []
  pub replied : IsReplied old command written grown new

-- the next command of the text behind those is `exit`
pub record LeavesNext (text : List ℕ) (front : List Command) (written now : Option (List ℕ)) : Type 0 where
  pub command : Command
  pub begins : BeginsWith text (front ++ command ∷ [])
  pub leaves : IsLeaving command written now

-- the text holds no whole command behind those, and no fault
pub record IsReadOut (finished : Bool) (text : List ℕ) (front : List Command) (written now : Option (List ℕ)) : Type 0 where
  pub whole : finished ≡ true → Reads text front
  pub waiting : finished ≡ false → HoldsNoMore text front
  pub right : HasNoFault finished text front
  pub same : now ≡ written

-- the next command of the text behind those has no reply that was written whole
pub record IsCutOff (text : List ℕ) (front : List Command) (old : Held) (out : SinkSeen) (e : Exit) : Type 0 where
  pub command : Command
  pub begins : BeginsWith text (front ++ command ∷ [])
  pub why : IsUnreplied old command out e

-- why the run can't go on behind those commands: no command was read, or it has no whole reply
abbrev pub IsFailed : Bool → List ℕ → List Command → Held → SinkSeen → Exit → Type 0
IsFailed finished text front old out e = ((out.new ≡ out.old) × IsUnread finished text front e) ⊎ IsCutOff text front old out e
