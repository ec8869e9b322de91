-- A line says one thing.
use Rattle.std.proofs.Common.{◌≡◌, ◌∙◌, ℕ, ◌+◌, Bool, true, false, List, [], ◌∷◌, length, sym, ap, subst, Ok, Err, IfOk, IfErr, Result}
use Rattle.call_script.specs.declared.words.CallWord.{CallWord}
use Rattle.call_script.specs.declared.lines.LineEnd.{LineEnd}
use Rattle.call_script.specs.declared.lines.LineEnd.TheVariants as line_end
use Rattle.call_script.specs.declared.lines.Line.{Line}
use Rattle.call_script.specs.declared.lines.Line.TheVariants as line
use Rattle.call_script.specs.declared.lines.LineError.{LineError}
use Rattle.call_script.specs.declared.lines.LineError.TheVariants as error
use Rattle.call_script.specs.Tokens.{Token, Tail, inside_word, IsTail, is_free, Cuts}
use Rattle.call_script.specs.Lines.{Written, Reading, called, start, Says, HasForm}
use Rattle.call_script.specs.Judging.{cut, said, judged, column_behind}
use Rattle.call_script.specs.Results.{reading_of, all_written, Tells, IsFormed, Refuses}
use Rattle.call_script.proofs.Cutting.{cuts_one, cuts_sound}
use Rattle.call_script.proofs.Fronts.{has_form}
use Rattle.call_script.proofs.Meaning.{means_one, means_said}

-- only an open line ends inside a word
inside_open : (end : LineEnd) (free : Bool) (here : ℕ) (bytes : List ℕ) (ts : List Token) (tail : Tail) → Cuts end free here bytes ts tail → tail ≡ inside_word → end ≡ line_end.Open
inside_open end free here bytes [] tail (blanks, rest, is, all, there) e = (subst (IsTail end (is_free free blanks) (here + length blanks) rest) e there).0
inside_open end free here bytes (t ∷ ts) tail (blanks, behind, is, all, f, column, whole, more) e = inside_open end false (column_behind t) behind ts tail more e

pub says_judged : (end : LineEnd) (l : List ℕ) → Says end l (judged end l)
says_judged end l =
    let ps = cut end true 1 l in
    (ps.tokens, ps.tail, cuts_sound end true 1 l, means_said end (length l + 1) ps.tokens ps.tail (inside_open end true 1 l ps.tokens ps.tail (cuts_sound end true 1 l)))

says_one : (end : LineEnd) (l : List ℕ) (r : Reading) → Says end l r → r ≡ judged end l
says_one end l r (ts, tail, cuts, means) =
    sym (means_one end (length l + 1) ts tail r means) ∙ ap (λ ps. said end (length l + 1) start ps.tokens ps.tail) (sym (cuts_one ts end true 1 l tail cuts))

pub says_once : (end : LineEnd) (l : List ℕ) (r s : Reading) → Says end l r → Says end l s → r ≡ s
says_once end l r s h k = says_one end l r h ∙ sym (says_one end l s k)

pub calls_formed : (end : LineEnd) (l : List ℕ) (column : ℕ) (w : CallWord) (args : List Written) → Says end l (called column w args) → HasForm w args
calls_formed end l column w args (ts, tail, cuts, (ended, front, enough, is)) = has_form ts column w args front enough

-- the result of the code
module _ (end : LineEnd) (l : List ℕ) where
  pub tells_says : (r : Result Line LineError) → Tells r (judged end l) → IfOk r (λ x. Says end l (reading_of x))
  tells_says (Ok x) h = subst (Says end l) h (says_judged end l)
  tells_says (Err e) h = tt

  pub tells_formed : (r : Result Line LineError) → Tells r (judged end l) → IfOk r (λ x. IsFormed x)
  tells_formed (Ok line.Empty) h = tt
  tells_formed (Ok (line.Call c)) h = calls_formed end l c.column c.word (all_written c.arguments.items) (subst (Says end l) h (says_judged end l))
  tells_formed (Ok line.Unfinished) h = tt
  tells_formed (Err e) h = tt

  pub tells_refused : (r : Result Line LineError) → Tells r (judged end l) → IfErr r (λ e. Refuses end l e)
  tells_refused (Ok x) h = tt
  tells_refused (Err (error.BadByte column)) h = subst (Says end l) h (says_judged end l)
  tells_refused (Err (error.Unexpected column)) h = subst (Says end l) h (says_judged end l)
  tells_refused (Err (error.EndOfInput column)) h = subst (Says end l) h (says_judged end l)
  tells_refused (Err (error.NotBuilt column)) h = subst (Says end l) h (says_judged end l)
  tells_refused (Err error.NoMemory) h = tt
