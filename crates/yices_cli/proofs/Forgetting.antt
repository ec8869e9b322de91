-- Want of memory in the place of another cause.
use Rattle.std.proofs.Common.{ℕ, Bool, true, false, List, [], ◌∷◌, sym, subst, inl, inr, append-nil, arith}
use Rattle.yices_grammar.specs.declared.Place.{Place}
use Rattle.yices_grammar.specs.Commands.{Command}
use Rattle.yices_grammar.specs.Texts.{Reads, BeginsWith}
use Rattle.yices_grammar.specs.Faults.{FaultKind}
use Rattle.clause_search.specs.declared.Turns.{Turns}
use Rattle.expression_terms.specs.declared.refusal.Refusal.{Refusal}
use Rattle.yices_cli.specs.declared.exit.Exit.{Exit}
use Rattle.yices_cli.specs.declared.exit.Exit.TheVariants as exit
use Rattle.yices_cli.specs.declared.exit.LongKind.TheVariants as long
use Rattle.yices_cli.specs.Seen.{SourceSeen, SinkSeen, IsGot}
use Rattle.yices_cli.specs.Commands.{HasWaited, IsRead, IsLeft, IsFaulty, IsRefused, IsStopped, StopsCommands}
use Rattle.yices_cli.specs.Scripts.{IsScript, IsAnswered, IsScriptPart, IsStoppedAtLine, StopsScript}
use Rattle.yices_cli.proofs.Pieces.{front_before}

reads_begins : (text : List ℕ) (cs : List Command) → Reads text cs → BeginsWith text cs
reads_begins text cs (ps, cut, are) = ([], ps, cut, are)

read_stopped : (turns : Turns) (input : SourceSeen) (out : SinkSeen) → IsRead turns input out → IsStopped turns input out
read_stopped turns input out h = record {
  finished = true;
  text = h.text;
  got = h.got;
  front = h.commands;
  rest = [];
  begins = subst (BeginsWith h.text) (sym (append-nil h.commands)) (reads_begins h.text h.commands h.reads);
  last = h.last;
  answered = h.answered;
}

left_stopped : (turns : Turns) (input : SourceSeen) (out : SinkSeen) → IsLeft turns input out → IsStopped turns input out
left_stopped turns input out h = record { finished = h.finished; text = h.text; got = h.got; front = h.front; rest = h.command ∷ []; begins = h.begins; last = h.last; answered = h.answered }

refused_stopped : (turns : Turns) (input : SourceSeen) (out : SinkSeen) (at : Place) (why : Refusal) → IsRefused turns input out at why → IsStopped turns input out
refused_stopped turns input out at why h = record { finished = h.finished; text = h.text; got = h.got; front = h.front; rest = h.command ∷ []; begins = h.begins; last = h.last; answered = h.answered }

faulty_stopped : (turns : Turns) (input : SourceSeen) (out : SinkSeen) (kind : FaultKind) (at : Place) → IsFaulty turns input out kind at → IsStopped turns input out
faulty_stopped turns input out kind at h = record {
  finished = h.finished;
  text = h.text;
  got = h.got;
  front = h.front;
  rest = [];
  begins = subst (BeginsWith h.text) (sym (append-nil h.front)) h.begins;
  last = h.last;
  answered = h.answered;
}

waited_stopped : (turns : Turns) (input : SourceSeen) (out : SinkSeen) (text : List ℕ) → IsGot input false text → HasWaited turns text out → IsStopped turns input out
waited_stopped turns input out text got h = record {
  finished = false;
  text = text;
  got = got;
  front = h.front;
  rest = [];
  begins = subst (BeginsWith text) (sym (append-nil h.front)) h.begins;
  last = h.last;
  answered = h.answered;
}

-- wherever the answering of commands stops for a cause, want of memory could stand in its place
pub commands_stopped : (turns : Turns) (input : SourceSeen) (out : SinkSeen) (e : Exit) → StopsCommands turns input out e → IsStopped turns input out
commands_stopped turns input out exit.Done (inl h) = read_stopped turns input out h
commands_stopped turns input out exit.Done (inr h) = left_stopped turns input out h
commands_stopped turns input out exit.NoMemory h = h
commands_stopped turns input out (exit.Syntax e) h = faulty_stopped turns input out _ _ h
commands_stopped turns input out exit.ReadFault h = waited_stopped turns input out h.text h.got h.waited
commands_stopped turns input out (exit.Usage k) h = absurd h
commands_stopped turns input out (exit.Refused at why) h = refused_stopped turns input out at why h
commands_stopped turns input out exit.WriteFault h = absurd h
commands_stopped turns input out (exit.TooLong long.Bytes) h =
    waited_stopped turns input out h.text (record { front = front_before input.held h.text h.more; short = omega (arith, h.full) }) h.waited
commands_stopped turns input out (exit.TooLong (long.Nesting at)) h = faulty_stopped turns input out _ _ h
commands_stopped turns input out (exit.TooLong (long.Reply at)) h = absurd h

answered_part : (input : SourceSeen) (out : SinkSeen) (finished : Bool) (text : List ℕ) → IsGot input finished text → IsAnswered finished text out → IsScriptPart input out
answered_part input out finished text got h = record {
  finished = finished;
  text = text;
  got = got;
  front = h.lines;
  back = [];
  script = subst (IsScript finished text) (sym (append-nil h.lines)) h.script;
  last = h.last;
  run = h.run;
}

stopped_part : (input : SourceSeen) (out : SinkSeen) (e : Exit) → IsStoppedAtLine input out e → IsScriptPart input out
stopped_part input out e h = record { finished = h.finished; text = h.text; got = h.got; front = h.front; back = h.line ∷ h.back; script = h.script; last = h.last; run = h.run }

-- wherever a script stops for a cause, want of memory could stand in its place
pub script_stopped : (input : SourceSeen) (out : SinkSeen) (e : Exit) → StopsScript input out e → IsScriptPart input out
script_stopped input out exit.Done h = answered_part input out true h.text h.got h.answered
script_stopped input out exit.NoMemory h = h
script_stopped input out (exit.Syntax e) h = stopped_part input out (exit.Syntax e) h
script_stopped input out exit.ReadFault h = answered_part input out false h.text h.got h.answered
script_stopped input out (exit.Usage k) h = absurd h
script_stopped input out (exit.Refused at why) h = stopped_part input out (exit.Refused at why) h
script_stopped input out exit.WriteFault h = absurd h
script_stopped input out (exit.TooLong long.Bytes) h =
    answered_part input out false h.text (record { front = front_before input.held h.text h.more; short = omega (arith, h.full) }) h.answered
script_stopped input out (exit.TooLong (long.Nesting at)) h = absurd h
script_stopped input out (exit.TooLong (long.Reply at)) h = stopped_part input out (exit.TooLong (long.Reply at)) h
