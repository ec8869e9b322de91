-- Answering one command more, and the end of it.
use Rattle.std.proofs.Common.{ℕ, ◌≡◌, ◌≤◌, ◌<◌, ◌-◌, ◌∙◌, Bool, true, false, List, [], ◌∷◌, ◌++◌, Option, Result, Ok, Err, take, length, refl, sym, ap, subst, inl, inr, arith, append-nil, length-append}
use Rattle.std.specs.Prelude.{IfOk}
use Rattle.y_io.specs.Outside.{Rose, Grows, GrowsByPart}
use Rattle.yices_grammar.specs.Commands.{exit, Command}
use Rattle.yices_grammar.specs.Texts.{Reads, BeginsWith}
use Rattle.yices_text.specs.View.{HoldsNoMore}
use Rattle.yices_session.specs.declared.refusal.Reply.{Reply}
use Rattle.clause_search.specs.declared.Turns.{Turns}
use Rattle.expression_terms.specs.declared.refusal.Stop.{Stop}
use Rattle.yices_session.specs.State.{State, IsStart}
use Rattle.yices_session.specs.Steps.{Runs, Step}
use Rattle.yices_session.specs.Held.{Held, Stands}
use Rattle.yices_session.specs.Answers.{Answers}
use Rattle.yices_cli.specs.declared.exit.Exit.{Exit}
use Rattle.yices_cli.specs.declared.exit.Exit.TheVariants as ends
use Rattle.yices_cli.specs.declared.exit.LongKind.TheVariants as long
use Rattle.yices_cli.specs.declared.reading.TextEnd.{TextEnd}
use Rattle.yices_cli.specs.declared.reading.TextEnd.TheVariants as text_end
use Rattle.yices_cli.specs.declared.words.Mode.TheVariants as mode
use Rattle.yices_cli.specs.Seen.{SourceSeen, SinkSeen, joined}
use Rattle.yices_cli.specs.Commands.{HasAnswered, HasWaited}
use Rattle.yices_cli.specs.Parts.{is_finished, IsTextTo, AnswersIn, EndsSo}
use Rattle.yices_cli.specs.Turns.{HasNoFault, IsUnread, IsUnanswered, IsUnreplied, AnswersNext, LeavesNext, IsReadOut, IsFailed}
use Rattle.yices_cli.proofs.Growing.{grows_same, grows_on, joined-push}
use Rattle.yices_cli.proofs.Pieces.{got_to, rose_since}
use Rattle.yices_cli.proofs.Texts.{few}

-- a run of the session goes on by one command
runs-push : (turns : Turns) (a b d : State) (cs : List Command) (rs : List (List ℕ)) (c : Command) (r : List ℕ) → Runs turns a cs rs b → (c.action ≡ exit → ⊥) → Step turns b c r d → Runs turns a (cs ++ c ∷ []) (rs ++ r ∷ []) d
runs-push turns a b d [] [] c r h on step = (on, (d, subst (λ s. Step turns s c r d) h step, refl))
runs-push turns a b d [] (x ∷ rs) c r h on step = absurd h
runs-push turns a b d (x ∷ cs) [] c r h on step = absurd h
runs-push turns a b d (x ∷ cs) (y ∷ rs) c r (goes, (mid, first, rest)) on step = (goes, (mid, first, runs-push turns mid b d cs rs c r rest on step))

-- no command was answered yet
answered_none : (turns : Turns) (w : Option (List ℕ)) (s : State) → IsStart s → HasAnswered turns w w [] s
answered_none turns w s start = record { start = s; is_start = start; replies = []; runs = refl; written = grows_same w }

-- one command more was answered
answered_more : (turns : Turns) (old mid new : Option (List ℕ)) (cs : List Command) (s t : State) (c : Command) (r : List ℕ)
    → HasAnswered turns old mid cs s → (c.action ≡ exit → ⊥) → Step turns s c r t → Grows mid new r → HasAnswered turns old new (cs ++ c ∷ []) t
answered_more turns old mid new cs s t c r h on step grows = record {
  start = h.start;
  is_start = h.is_start;
  replies = h.replies ++ r ∷ [];
  runs = runs-push turns h.start s t cs h.replies c r h.runs on step;
  written = rw (joined-push h.replies r) (grows_on old mid new (joined h.replies) r h.written grows);
}

-- the commands were answered with that limit of turns, up to a state that the session stands for
pub record HasReached (turns : Turns) (old new : Option (List ℕ)) (commands : List Command) (held : Held) : Type 0 where
  pub limit : held.turns ≡ turns
  pub last : State
  pub stands : Stands held last
  pub answered : HasAnswered turns old new commands last

-- a new session has answered no commands
pub reached_none : (turns : Turns) (w : Option (List ℕ)) (cs : List Command) (held : Held) → cs ≡ [] → held.turns ≡ turns → (s : State) × IsStart s × Stands held s → HasReached turns w w cs held
reached_none turns w cs held none limit (s, start, stands) =
    subst (λ ds. HasReached turns w w ds held) (sym none) (record { limit = limit; last = s; stands = stands; answered = answered_none turns w s start })

-- what was answered before nothing more was written
still_reached : (turns : Turns) (first mid new : Option (List ℕ)) (cs : List Command) (held : Held) → new ≡ mid → HasReached turns first mid cs held → HasReached turns first new cs held
still_reached turns first mid new cs held same so = subst (λ w. HasReached turns first w cs held) (sym same) so

-- a reply, or the exit where there is none
pub reply_is : (r : Result Reply Stop) (q : Result Reply Exit) (P : Reply → Type 0) → IfOk q (λ x. r ≡ Ok x) → IfOk r P → IfOk q P
reply_is r (Ok x) P same h = subst (λ y. IfOk y P) same h
reply_is r (Err e) P same h = tt

-- the text still begins with what was answered
pub begins_next : (mid new : Option (List ℕ)) (text : List ℕ) (cs now : List Command) (held after : Held) → AnswersNext text cs now held after mid new → BeginsWith text now
begins_next mid new text cs now held after next = subst (BeginsWith text) (sym next.more) next.begins

-- fewer commands are left
pub fewer_left : (mid new : Option (List ℕ)) (text : List ℕ) (cs now : List Command) (held after : Held) → AnswersNext text cs now held after mid new → length text - length now < length text - length cs
fewer_left mid new text cs now held after next =
    omega (arith, few text now (begins_next mid new text cs now held after next), ap length next.more, length-append cs (next.command ∷ []))

-- how the answering ends, with a limit of turns for each check
module _ (turns : Turns) where
  -- the program ends before a command was read
  unread_stops : (end : TextEnd) (finished : Bool) (text : List ℕ) (cs : List Command) (held : Held) (out : SinkSeen) (e : Exit) → finished ≡ is_finished end
      → HasReached turns out.old out.new cs held → BeginsWith text cs → IsUnread finished text cs e → (input : SourceSeen) → IsTextTo input text end → AnswersIn (mode.Language turns) input out e
  unread_stops end finished text cs held out ends.Done same so begins why input to = absurd why
  unread_stops end finished text cs held out ends.NoMemory same so begins why input to = inl (record {
    finished = finished;
    text = text;
    got = got_to input text end finished same to;
    front = cs;
    rest = [];
    begins = subst (BeginsWith text) (sym (append-nil cs)) begins;
    last = so.last;
    answered = so.answered;
  })
  unread_stops end finished text cs held out (ends.Syntax e) same so begins why input to =
      inl (record { finished = finished; text = text; got = got_to input text end finished same to; front = cs; begins = begins; fault = why; last = so.last; answered = so.answered })
  unread_stops end finished text cs held out ends.ReadFault same so begins why input to = absurd why
  unread_stops end finished text cs held out (ends.Usage k) same so begins why input to = absurd why
  unread_stops end finished text cs held out (ends.Refused at cause) same so begins why input to = absurd why
  unread_stops end finished text cs held out ends.WriteFault same so begins why input to = absurd why
  unread_stops end finished text cs held out (ends.TooLong long.Bytes) same so begins why input to = absurd why
  unread_stops end finished text cs held out (ends.TooLong (long.Nesting at)) same so begins why input to =
      inl (record { finished = finished; text = text; got = got_to input text end finished same to; front = cs; begins = begins; fault = why; last = so.last; answered = so.answered })
  unread_stops end finished text cs held out (ends.TooLong (long.Reply at)) same so begins why input to = absurd why

  pub unread_ends : (end : TextEnd) (finished : Bool) (text : List ℕ) (cs : List Command) (held : Held) (out : SinkSeen) (e : Exit) → finished ≡ is_finished end
      → HasReached turns out.old out.new cs held → BeginsWith text cs → IsUnread finished text cs e → EndsSo (mode.Language turns) end text out e
  unread_ends end finished text cs held out e same so begins why = record { so = unread_stops end finished text cs held out e same so begins why }

  -- the program ends at an `exit`
  pub left_ends : (end : TextEnd) (finished : Bool) (text : List ℕ) (cs : List Command) (c : Command) (held : Held) (out : SinkSeen) → finished ≡ is_finished end
      → HasReached turns out.old out.new cs held → BeginsWith text (cs ++ c ∷ []) → c.action ≡ exit → EndsSo (mode.Language turns) end text out ends.Done
  left_ends end finished text cs c held out same so begins exits = record {
    so = λ input to.
        inl (inr (record { finished = finished; text = text; got = got_to input text end finished same to; front = cs; command = c; begins = begins; exits = exits; last = so.last; answered = so.answered }));
  }

  -- the program ends at a command that has no reply
  unanswered_stops : (end : TextEnd) (finished : Bool) (text : List ℕ) (cs : List Command) (c : Command) (held : Held) (out : SinkSeen) (e : Exit) → finished ≡ is_finished end
      → HasReached turns out.old out.new cs held → BeginsWith text (cs ++ c ∷ []) → IsUnanswered held c e → (input : SourceSeen) → IsTextTo input text end → AnswersIn (mode.Language turns) input out e
  unanswered_stops end finished text cs c held out ends.Done same so begins why input to = absurd why
  unanswered_stops end finished text cs c held out ends.NoMemory same so begins why input to =
      inl (record { finished = finished; text = text; got = got_to input text end finished same to; front = cs; rest = c ∷ []; begins = begins; last = so.last; answered = so.answered })
  unanswered_stops end finished text cs c held out (ends.Syntax e) same so begins why input to = absurd why
  unanswered_stops end finished text cs c held out ends.ReadFault same so begins why input to = absurd why
  unanswered_stops end finished text cs c held out (ends.Usage k) same so begins why input to = absurd why
  unanswered_stops end finished text cs c held out (ends.Refused at cause) same so begins why input to =
      let next = why.1.each so.last so.stands in
      inl (record {
        finished = finished;
        text = text;
        got = got_to input text end finished same to;
        front = cs;
        command = c;
        begins = begins;
        last = so.last;
        answered = so.answered;
        next = next.0;
        stopped = next.1;
        stays = next.2;
      })
  unanswered_stops end finished text cs c held out ends.WriteFault same so begins why input to = absurd why
  unanswered_stops end finished text cs c held out (ends.TooLong kind) same so begins why input to = absurd why

  pub unanswered_ends : (end : TextEnd) (finished : Bool) (text : List ℕ) (cs : List Command) (c : Command) (held : Held) (out : SinkSeen) (e : Exit) → finished ≡ is_finished end
      → HasReached turns out.old out.new cs held → BeginsWith text (cs ++ c ∷ []) → IsUnanswered held c e → EndsSo (mode.Language turns) end text out e
  unanswered_ends end finished text cs c held out e same so begins why = record { so = unanswered_stops end finished text cs c held out e same so begins why }

  -- the program ends at a reply that couldn't be written whole
  pub cut_ends : (end : TextEnd) (finished : Bool) (text : List ℕ) (cs : List Command) (c : Command) (held new : Held) (r : List ℕ) (out : SinkSeen) (mid : Option (List ℕ)) (between : ℕ)
      → finished ≡ is_finished end → HasReached turns out.old mid cs held → BeginsWith text (cs ++ c ∷ []) → Answers c held r new
      → out.before ≤ between → Rose between out.after → GrowsByPart mid out.new r → EndsSo (mode.Language turns) end text out ends.WriteFault
  cut_ends end finished text cs c held new r out mid between same so begins answers later rose (n, small, grows) =
      let next = answers.each so.last so.stands in record {
        so = λ input to. inr (inl (
          refl,
          record {
            finished = finished;
            text = text;
            got = got_to input text end finished same to;
            front = cs;
            command = c;
            begins = begins;
            start = so.answered.start;
            is_start = so.answered.is_start;
            replies = so.answered.replies;
            last = so.last;
            runs = so.answered.runs;
            reply = r;
            next = next.0;
            step = subst (λ k. Step k so.last c r next.0) so.limit next.1;
            rose = rose_since out.before between out.after later rose;
            count = n;
            part = small;
            written = grows_on out.old mid out.new (joined so.answered.replies) (take n r) so.answered.written grows;
          },
        ));
      }

  -- all whole commands of a text that goes on were answered
  waited : (text : List ℕ) (cs : List Command) (held : Held) (out : SinkSeen) → HasReached turns out.old out.new cs held → BeginsWith text cs → HoldsNoMore text cs → HasNoFault false text cs → HasWaited turns text out
  waited text cs held out so begins no_more no_fault = record { front = cs; begins = begins; no_more = no_more; no_fault = no_fault; last = so.last; answered = so.answered }

  -- the program ends at the end of the input
  pub read_ends : (text : List ℕ) (cs : List Command) (held : Held) (out : SinkSeen) → HasReached turns out.old out.new cs held → Reads text cs → EndsSo (mode.Language turns) text_end.InputEnd text out ends.Done
  read_ends text cs held out so reads = record { so = λ input to. inl (inl (record { text = text; got = to; commands = cs; reads = reads; last = so.last; answered = so.answered })) }

  -- the program ends at a failed read
  pub broken_ends : (text : List ℕ) (cs : List Command) (held : Held) (out : SinkSeen) → HasReached turns out.old out.new cs held → BeginsWith text cs → HoldsNoMore text cs → HasNoFault false text cs → EndsSo (mode.Language turns) text_end.ReadFault text out ends.ReadFault
  broken_ends text cs held out so begins no_more no_fault =
      record { so = λ input to. inl (record { text = text; got = to.0; waited = waited text cs held out so begins no_more no_fault; rose = to.1; breaks = to.2 }) }

  -- the program ends at the limit
  pub limit_ends : (text : List ℕ) (cs : List Command) (held : Held) (out : SinkSeen) → HasReached turns out.old out.new cs held → BeginsWith text cs → HoldsNoMore text cs → HasNoFault false text cs → EndsSo (mode.Language turns) text_end.Limit text out (ends.TooLong long.Bytes)
  limit_ends text cs held out so begins no_more no_fault =
      record { so = λ input to. inl (record { text = text; more = to.0; full = to.1; waited = waited text cs held out so begins no_more no_fault }) }

  -- the same of an equal text
  pub ends_at : (end : TextEnd) (text fed : List ℕ) (out : SinkSeen) (e : Exit) → text ≡ fed → EndsSo (mode.Language turns) end text out e → EndsSo (mode.Language turns) end fed out e
  ends_at end text fed out e same ends = subst (λ t. EndsSo (mode.Language turns) end t out e) same ends

  -- one command more was answered
  pub answered_next : (first mid new : Option (List ℕ)) (text : List ℕ) (cs now : List Command) (held after : Held)
      → HasReached turns first mid cs held → AnswersNext text cs now held after mid new → HasReached turns first new now after
  answered_next first mid new text cs now held after so next =
      let goes = next.replied.answers.each so.last so.stands in
      let step = subst (λ k. Step k so.last next.command next.replied.bytes goes.0) so.limit goes.1 in
      let answered = answered_more turns first mid new cs so.last goes.0 next.command next.replied.bytes so.answered next.replied.goes_on step next.replied.grows in record {
        limit = next.replied.answers.turns ∙ so.limit;
        last = goes.0;
        stands = goes.2;
        answered = subst (λ ds. HasAnswered turns first new ds goes.0) (sym next.more) answered;
      }

  -- the program ends at a turn that found an `exit`
  pub leaving_ends : (end : TextEnd) (finished : Bool) (text : List ℕ) (cs : List Command) (held : Held) (out : SinkSeen) (mid : Option (List ℕ)) → finished ≡ is_finished end
      → HasReached turns out.old mid cs held → LeavesNext text cs mid out.new → EndsSo (mode.Language turns) end text out ends.Done
  leaving_ends end finished text cs held out mid same so next =
      left_ends end finished text cs next.command held out same (still_reached turns out.old mid out.new cs held next.leaves.same so) next.begins next.leaves.exits

  -- the reply to a command wasn't written whole
  unreplied_ends : (end : TextEnd) (finished : Bool) (text : List ℕ) (cs : List Command) (c : Command) (held : Held) (out : SinkSeen) (mid : Option (List ℕ)) (between : ℕ) (e : Exit)
      → finished ≡ is_finished end → HasReached turns out.old mid cs held → BeginsWith text (cs ++ c ∷ []) → out.before ≤ between
      → IsUnreplied held c (record { old = mid; new = out.new; before = between; after = out.after }) e → EndsSo (mode.Language turns) end text out e
  unreplied_ends end finished text cs c held out mid between e same so begins later (inl why) =
      unanswered_ends end finished text cs c held out e same (still_reached turns out.old mid out.new cs held why.0 so) begins why.1
  unreplied_ends end finished text cs c held out mid between e same so begins later (inr cut) =
      subst (EndsSo (mode.Language turns) end text out) (sym cut.0)
      (cut_ends end finished text cs c held cut.1.next cut.1.bytes out mid between same so begins cut.1.answers later cut.1.rose cut.1.part)

  -- the program ends at a turn that failed
  pub failed_ends : (end : TextEnd) (finished : Bool) (text : List ℕ) (cs : List Command) (held : Held) (out : SinkSeen) (mid : Option (List ℕ)) (between : ℕ) (e : Exit)
      → finished ≡ is_finished end → HasReached turns out.old mid cs held → BeginsWith text cs → out.before ≤ between
      → IsFailed finished text cs held (record { old = mid; new = out.new; before = between; after = out.after }) e → EndsSo (mode.Language turns) end text out e
  failed_ends end finished text cs held out mid between e same so begins later (inl why) =
      unread_ends end finished text cs held out e same (still_reached turns out.old mid out.new cs held why.0 so) begins why.1
  failed_ends end finished text cs held out mid between e same so begins later (inr cut) =
      unreplied_ends end finished text cs cut.command held out mid between e same so cut.begins later cut.why

  -- the program ends at the end of the input
  pub whole_ends : (finished : Bool) (text : List ℕ) (cs : List Command) (held : Held) (out : SinkSeen) (mid : Option (List ℕ)) → finished ≡ true
      → HasReached turns out.old mid cs held → IsReadOut finished text cs mid out.new → EndsSo (mode.Language turns) text_end.InputEnd text out ends.Done
  whole_ends finished text cs held out mid same so over = read_ends text cs held out (still_reached turns out.old mid out.new cs held over.same so) (over.whole same)

  -- the program ends at a failed read
  pub fault_ends : (finished : Bool) (text : List ℕ) (cs : List Command) (held : Held) (out : SinkSeen) (mid : Option (List ℕ)) → finished ≡ false
      → HasReached turns out.old mid cs held → BeginsWith text cs → IsReadOut finished text cs mid out.new → EndsSo (mode.Language turns) text_end.ReadFault text out ends.ReadFault
  fault_ends finished text cs held out mid same so begins over =
      broken_ends text cs held out (still_reached turns out.old mid out.new cs held over.same so) begins (over.waiting same) (subst (λ f. HasNoFault f text cs) same over.right)

  -- the program ends at the limit
  pub full_ends : (finished : Bool) (text : List ℕ) (cs : List Command) (held : Held) (out : SinkSeen) (mid : Option (List ℕ)) → finished ≡ false
      → HasReached turns out.old mid cs held → BeginsWith text cs → IsReadOut finished text cs mid out.new → EndsSo (mode.Language turns) text_end.Limit text out (ends.TooLong long.Bytes)
  full_ends finished text cs held out mid same so begins over =
      limit_ends text cs held out (still_reached turns out.old mid out.new cs held over.same so) begins (over.waiting same) (subst (λ f. HasNoFault f text cs) same over.right)
