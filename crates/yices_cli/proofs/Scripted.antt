-- How the answering of a script ends.
use Rattle.std.proofs.Common.{ℕ, ◌≡◌, ◌≤◌, Bool, List, [], ◌∷◌, ◌++◌, Option, Some, map, take, slice_get, refl, sym, subst, inl, inr}
use Rattle.call_script.specs.declared.lines.LineEnd.{LineEnd}
use Rattle.script_session.specs.declared.stop.ScriptStop.{ScriptStop}
use Rattle.script_session.specs.declared.stop.ScriptStop.TheVariants as stop
use Rattle.script_session.specs.State.{Script}
use Rattle.script_session.specs.Steps.{Stops}
use Rattle.script_session.specs.Runs.{ScriptLine}
use Rattle.yices_cli.specs.declared.exit.Exit.{Exit}
use Rattle.yices_cli.specs.declared.exit.Exit.TheVariants as exit
use Rattle.yices_cli.specs.declared.exit.LongKind.TheVariants as long
use Rattle.yices_cli.specs.declared.reading.TextEnd.{TextEnd}
use Rattle.yices_cli.specs.declared.reading.TextEnd.TheVariants as text_end
use Rattle.yices_cli.specs.declared.words.Mode.TheVariants as mode
use Rattle.yices_cli.specs.Seen.{SourceSeen, SinkSeen, IsGot}
use Rattle.yices_cli.specs.Scripts.{IsOneLine, IsScript, HasRun, ended_line, end_of, IsAnswered, StopsScript, exit_of}
use Rattle.yices_cli.specs.Lines.{IsUnsaid, IsHalfSaid, IsFailedLine, GoesOn}
use Rattle.yices_cli.specs.Parts.{is_finished, EndsSo}
use Rattle.yices_cli.proofs.Pieces.{got_to, rose_since}
use Rattle.yices_cli.proofs.Splitting.{HasAnsweredTo, script_to_end, script_at}

-- a line isn't answered
stopped_at : (input : SourceSeen) (out : SinkSeen) (finished : Bool) (text : List ℕ) (front : List ScriptLine) (line : ScriptLine) (back : List ScriptLine) (s : Script) (why : ScriptStop)
    → IsGot input finished text → IsScript finished text (front ++ line ∷ back) → HasRun out.old out.new front s → Stops s line.end line.bytes why → StopsScript input out (exit_of why)
stopped_at input out finished text front line back s (stop.Syntax kind place) got script run stops =
    record { finished = finished; text = text; got = got; front = front; line = line; back = back; script = script; last = s; run = run; why = stop.Syntax kind place; stops = stops; is = refl }
stopped_at input out finished text front line back s (stop.NotBuilt place) got script run stops =
    record { finished = finished; text = text; got = got; front = front; line = line; back = back; script = script; last = s; run = run; why = stop.NotBuilt place; stops = stops; is = refl }
stopped_at input out finished text front line back s (stop.TooLong place) got script run stops =
    record { finished = finished; text = text; got = got; front = front; line = line; back = back; script = script; last = s; run = run; why = stop.TooLong place; stops = stops; is = refl }
stopped_at input out finished text front line back s stop.NoMemory got script run stops =
    record { finished = finished; text = text; got = got; front = front; back = line ∷ back; script = script; last = s; run = run }

-- the program ends at a line that isn't answered
unsaid_ends : (end : TextEnd) (text : List ℕ) (front : List ScriptLine) (line : ScriptLine) (back : List ScriptLine) (s : Script) (out : SinkSeen) (mid : Option (List ℕ)) (between : ℕ) (e : Exit)
    → IsScript (is_finished end) text (front ++ line ∷ back) → HasRun out.old mid front s
    → IsUnsaid s line (record { old = mid; new = out.new; before = between; after = out.after }) e → EndsSo mode.Calls end text out e
unsaid_ends end text front line back s out mid between e script run h = record {
  so = λ input to. inl
      (subst (StopsScript input out) h.is
      (stopped_at input out (is_finished end) text front line back s h.why (got_to input text end (is_finished end) refl to) script (subst (λ w. HasRun out.old w front s) (sym h.same) run) h.stops));
}

-- the program ends at a reply that couldn't be written whole
half_said_ends : (end : TextEnd) (text : List ℕ) (front : List ScriptLine) (line : ScriptLine) (back : List ScriptLine) (s : Script) (out : SinkSeen) (mid : Option (List ℕ)) (between : ℕ)
    → IsScript (is_finished end) text (front ++ line ∷ back) → HasRun out.old mid front s → out.before ≤ between
    → IsHalfSaid s line (record { old = mid; new = out.new; before = between; after = out.after }) → EndsSo mode.Calls end text out exit.WriteFault
half_said_ends end text front line back s out mid between script run later h = record {
  so = λ input to. inr (inl (
    refl,
    record {
      finished = is_finished end;
      text = text;
      got = got_to input text end (is_finished end) refl to;
      front = front;
      line = line;
      back = back;
      script = script;
      last = s;
      between = mid;
      run = run;
      done = h.done;
      said = h.said;
      next = h.next;
      answers = h.answers;
      rose = rose_since out.before between out.after later h.rose;
      written = h.part;
    },
  ));
}

-- the program ends at a line whose reply wasn't written whole
pub line_ends : (end : TextEnd) (text : List ℕ) (front : List ScriptLine) (line : ScriptLine) (back : List ScriptLine) (s : Script) (out : SinkSeen) (mid : Option (List ℕ)) (between : ℕ) (e : Exit)
    → IsScript (is_finished end) text (front ++ line ∷ back) → HasRun out.old mid front s → out.before ≤ between
    → IsFailedLine s line (record { old = mid; new = out.new; before = between; after = out.after }) e → EndsSo mode.Calls end text out e
line_ends end text front line back s out mid between e script run later (inl h) = unsaid_ends end text front line back s out mid between e script run h
line_ends end text front line back s out mid between e script run later (inr h) =
    subst (EndsSo mode.Calls end text out) (sym h.0) (half_said_ends end text front line back s out mid between script run later h.1)

-- the exit where every line was answered
abbrev pub exit_at : TextEnd → Exit
exit_at text_end.InputEnd = exit.Done
exit_at text_end.ReadFault = exit.ReadFault
exit_at text_end.Limit = exit.TooLong long.Bytes

-- the program ends behind the last line
pub script_ends : (end : TextEnd) (text : List ℕ) (out : SinkSeen) → IsAnswered (is_finished end) text out → EndsSo mode.Calls end text out (exit_at end)
script_ends text_end.InputEnd text out h = record { so = λ input to. inl (record { text = text; got = to; answered = h }) }
script_ends text_end.ReadFault text out h = record { so = λ input to. inl (record { text = text; got = to.0; answered = h; rose = to.1; breaks = to.2 }) }
script_ends text_end.Limit text out h = record { so = λ input to. inl (record { text = text; more = to.0; full = to.1; answered = h }) }

-- the program ends at one of the lines that byte 10 ends
pub next_ends : (end : TextEnd) (text rest : List ℕ) (n : ℕ) (s : Script) (out : SinkSeen) (mid : Option (List ℕ)) (between : ℕ) (e : Exit)
    → HasAnsweredTo text rest out.old mid s → IsOneLine (take n rest) → slice_get rest n ≡ Some 10 → out.before ≤ between
    → IsFailedLine s (ended_line (take n rest)) (record { old = mid; new = out.new; before = between; after = out.after }) e → EndsSo mode.Calls end text out e
next_ends end text rest n s out mid between e h line is later failed =
    let (back, script) = script_at (is_finished end) text rest n out.old mid s h line is in
    line_ends end text (map ended_line h.lines) (ended_line (take n rest)) back s out mid between e script h.run later failed

-- the last line, with its end
abbrev pub last_line : LineEnd → List ℕ → ScriptLine
last_line how bytes = record { bytes = bytes; end = how }

-- the program ends at the last line
pub last_ends : (end : TextEnd) (text rest : List ℕ) (s : Script) (out : SinkSeen) (mid : Option (List ℕ)) (between : ℕ) (e : Exit) (how : LineEnd)
    → HasAnsweredTo text rest out.old mid s → IsOneLine rest → out.before ≤ between → how ≡ end_of (is_finished end)
    → IsFailedLine s (last_line how rest) (record { old = mid; new = out.new; before = between; after = out.after }) e → EndsSo mode.Calls end text out e
last_ends end text rest s out mid between e how h last later is failed =
    line_ends end text (map ended_line h.lines) (last_line (end_of (is_finished end)) rest) [] s out mid between e
    (script_to_end (is_finished end) text rest out.old mid s h last) h.run later
    (subst (λ k. IsFailedLine s (last_line k rest) (record { old = mid; new = out.new; before = between; after = out.after }) e) is failed)

-- the program ends behind the last line, which was answered
pub all_ends : (end : TextEnd) (text rest : List ℕ) (s t : Script) (out : SinkSeen) (mid : Option (List ℕ)) (how : LineEnd)
    → HasAnsweredTo text rest out.old mid s → IsOneLine rest → how ≡ end_of (is_finished end)
    → GoesOn s (last_line how rest) mid out.new t → EndsSo mode.Calls end text out (exit_at end)
all_ends end text rest s t out mid how h last is goes =
    script_ends end text out (record {
      lines = map ended_line h.lines ++ last_line (end_of (is_finished end)) rest ∷ [];
      script = script_to_end (is_finished end) text rest out.old mid s h last;
      last = t;
      run = subst (λ k. GoesOn s (last_line k rest) mid out.new t) is goes out.old (map ended_line h.lines) h.run;
    })
