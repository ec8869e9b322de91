-- What the parts of answering a line come to.
use Rattle.std.proofs.Common.{◌≡◌, ◌∙◌, ◌++◌, ◌+◌, ◌≤◌, ℕ, List, [], ◌∷◌, length, Option, Some, None, refl, sym, ap, subst, inr}
use Rattle.term_texts.specs.TermTexts.{text_limit}
use Rattle.yices_grammar.specs.declared.Place.{Place}
use Rattle.call_script.specs.declared.lines.LineEnd.{LineEnd}
use Rattle.call_script.specs.declared.lines.LineError.{LineError}
use Rattle.call_script.specs.declared.lines.LineError.TheVariants as line_error
use Rattle.call_script.specs.declared.words.CallWord.{CallWord}
use Rattle.call_script.specs.Lines.{Written}
use Rattle.call_script.specs.declared.lines.Argument.{Argument}
use Rattle.call_script.specs.Results.{Refuses, all_written}
use Rattle.yices_api.specs.declared.calls.Call.{Call}
use Rattle.yices_api.specs.declared.replies.Reply.{Reply}
use Rattle.script_session.specs.declared.meant.Gave.{Gave}
use Rattle.yices_api.specs.State.{State}
use Rattle.yices_api.specs.Steps.{Api}
use Rattle.yices_api.specs.Runs.{IsWorld, Reaches}
use Rattle.script_session.specs.declared.stop.ScriptStop.{ScriptStop}
use Rattle.script_session.specs.declared.stop.ScriptStop.TheVariants as stop
use Rattle.script_session.specs.Replies.{IsLongReply, Prints, reply_line}
use Rattle.script_session.specs.State.{Script, line_number, given_by}
use Rattle.script_session.specs.Asking.{AsksFor}
use Rattle.script_session.specs.Steps.{AnswersCall, IsFault, StaysAfter, Stops, with_line}
use Rattle.script_session.specs.Doing.{StopsDoing, TellsCall, place_at, told_error}

-- why a line can't be read, told with its place
pub stops_told : (old : Script) (end : LineEnd) (bytes : List ℕ) (e : LineError) (n : ℕ) → n ≡ line_number old → Refuses end bytes e → Stops old end bytes (told_error e n)
stops_told old end bytes (line_error.BadByte column) n is r = (column, r, (is, refl))
stops_told old end bytes (line_error.Unexpected column) n is r = (column, r, (is, refl))
stops_told old end bytes (line_error.EndOfInput column) n is r = (column, r, (is, refl))
stops_told old end bytes (line_error.NotBuilt column) n is r = (column, r, (is, refl))
stops_told old end bytes line_error.NoMemory n is r = tt

-- a call that is asked and done
pub done_answers : (old : Script) (word : CallWord) (arguments : List Written) (c : Call) (said : List ℕ) (new : Script) → AsksFor old.given word arguments c → (r : Reply) × TellsCall old c r said new → (d : Option (Call × Reply)) × AnswersCall old word arguments d said new
done_answers old word arguments c said new asks (r, t) = (
  Some (c, r),
  record {
    text = t.text;
    replies = record { asks = asks; reaches = t.reaches; prints = t.prints };
    fits = t.fits;
    told = t.told;
    kept = ap (λ (s : Script). s.given) t.kept;
  },
)

-- the same, where the lists are the ones that were handed in
pub asked_answers : (old : Script) (word : CallWord) (given : List Gave) (args held : List Argument) (c : Call) (said : List ℕ) (new : Script) → given ≡ old.given → held ≡ args → AsksFor given word (all_written held) c → (r : Reply) × TellsCall old c r said new → (d : Option (Call × Reply)) × AnswersCall old word (all_written args) d said new
asked_answers old word given args held c said new e g asks t =
    done_answers old word (all_written args) c said new (subst (λ z. AsksFor old.given word (all_written z) c) g (subst (λ z. AsksFor z word (all_written held) c) e asks)) t

-- a call that was done: its text is told on the line, and what it gave is kept
pub tells_call : (old mid new : Script) (c : Call) (r : Reply) (text said : List ℕ) → Reaches old.env c r mid.env → mid.given ≡ old.given → Prints mid.env.table r text → length text ≤ text_limit → said ≡ reply_line (line_number mid) text → new ≡ with_line mid (given_by r) → TellsCall old c r said new
tells_call old mid new c r text said reaches same prints fits told after = record {
  reaches = subst (λ e. Reaches old.env c r e) (sym (ap (λ (s : Script). s.env) after)) reaches;
  text = text;
  prints = subst (λ (e : State). Prints e.table r text) (sym (ap (λ (s : Script). s.env) after)) prints;
  fits = fits;
  told = told ∙ ap (λ g. reply_line (length g + 1) text) same;
  kept = rebuilt new (ap (λ (s : Script). s.given) after ∙ ap (λ g. g ++ given_by r ∷ []) same);
}
  where
    rebuilt : (s : Script) → s.given ≡ old.given ++ given_by r ∷ [] → s ≡ with_line (record old { env = s.env }) (given_by r)
    rebuilt s e = ap (λ (g : List Gave). let z : Script = record { env = s.env; given = g } in z) e

-- a call that was done, and no line more
pub done_at_most : (old new : Script) (c : Call) (r : Reply) (s : ScriptStop) → (IsFault s → ⊥) → Reaches old.env c r new.env → new.given ≡ old.given → StaysAfter s old new
done_at_most old new c r (stop.Syntax kind place) none_of reaches same = absurd (none_of tt)
done_at_most old new c r (stop.NotBuilt place) none_of reaches same = absurd (none_of tt)
done_at_most old new c r (stop.TooLong place) none_of reaches same = (same, inr (c, r, reaches))
done_at_most old new c r stop.NoMemory none_of reaches same = (same, inr (c, r, reaches))

-- the parts of a script
abbrev pub script : State → List Gave → Script
script env given = record { env = env; given = given }

-- the step of a script's environment
pub reached : (old : Script) (before after : State) (given : List Gave) (c : Call) (r : Reply) → script before given ≡ old → Api before c r after → IsWorld after → Reaches old.env c r after
reached old before after given c r is step world = subst (λ (s : Script). Reaches s.env c r after) is (record { step = step; world = world })

-- a call that was done, told and kept
pub told_and_kept : (old : Script) (before after : State) (given : List Gave) (new : Script) (c : Call) (r : Reply) (text spoken said : List ℕ) (held : Gave) → script before given ≡ old → Api before c r after → IsWorld after → Prints after.table r text → length text ≤ text_limit → spoken ≡ text → said ≡ reply_line (length given + 1) spoken → held ≡ given_by r → new ≡ with_line (script after given) held → (x : Reply) × TellsCall old c x said new
told_and_kept old before after given new c r text spoken said held is step world prints fits same told kept done = (
  r,
  tells_call old (script after given) new c r text said (reached old before after given c r is step world) (ap (λ (s : Script). s.given) is) prints fits
      (told ∙ ap (reply_line (length given + 1)) same) (done ∙ ap (with_line (script after given)) kept),
)

-- a call that was done, and whose reply is too long
pub done_too_long : (old : Script) (before after : State) (given : List Gave) (c : Call) (r : Reply) (place : Place) (line column : ℕ) → script before given ≡ old → Api before c r after → IsWorld after → IsLongReply after.table r → line ≡ line_number old → place ≡ place_at line column → StopsDoing old column c (stop.TooLong place)
done_too_long old before after given c r place line column is step world long here there =
    ((ap (λ (p : Place). p.line) there ∙ here, ap (λ (p : Place). p.column) there), r, after, reached old before after given c r is step world, long)

-- a call that was done, and no line more, since memory was refused
pub done_without_memory : (old : Script) (before after : State) (given : List Gave) (new : Script) (c : Call) (r : Reply) → script before given ≡ old → Api before c r after → IsWorld after → new ≡ script after given → StaysAfter stop.NoMemory old new
done_without_memory old before after given new c r is step world same =
    done_at_most old new c r stop.NoMemory (λ h. h) (subst (λ (s : Script). Reaches old.env c r s.env) (sym same) (reached old before after given c r is step world)) (ap (λ (s : Script). s.given) same ∙ ap (λ (s : Script). s.given) is)
