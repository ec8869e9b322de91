-- The texts of refusals and of replies.
use Rattle.std.proofs.Common.{◌≡◌, ◌∙◌, ◌++◌, ◌<◌, ◌≤◌, ◌+◌, ◌^◌, ℕ, List, [], ◌∷◌, length, Result, Err, refl, sym, ap, subst, append_assoc, length-append, arith}
use Rattle.std.proofs.lemmas.Fmt.{length-decimal-le}
use Rattle.std.specs.Prelude.{codes, decimal, IsErrOf}
use Rattle.term_shapes.specs.declared.handles.Term.{Term}
use Rattle.term_table.specs.World.{World}
use Rattle.term_texts.specs.TermTexts.{Writes, IsLong, text_limit}
use Rattle.yices_api.specs.declared.replies.CallError.{CallError}
use Rattle.yices_api.specs.declared.replies.CallError.TheVariants as refusal
use Rattle.yices_api.specs.declared.replies.Reply.{Reply}
use Rattle.yices_api.specs.declared.replies.Reply.TheVariants as reply
use Rattle.script_session.specs.declared.replies.TextError.{TextError}
use Rattle.script_session.specs.declared.replies.TextError.TheVariants as text_error
use Rattle.script_session.specs.Doing.{IsOfScript}
use Rattle.script_session.specs.Replies.{Prints, PrintsRefusal, AppendsRefusal, IsLongRefusal, IsLongReply}

-- a variable behind the name of its refusal
pub appends_variable : (w : World) (v : Term) (old mid new name : List ℕ) → Writes w v name → mid ≡ old ++ codes "HasVariable " → new ≡ mid ++ name → AppendsRefusal w (refusal.HasVariable v) old new
appends_variable w v old mid new name writes e f = (codes "HasVariable " ++ name, (name, writes, refl), f ∙ ap (λ z. z ++ name) e ∙ append_assoc old (codes "HasVariable ") name)

-- a long name makes a long refusal
pub long_variable : (w : World) (v : Term) → IsLong w v → IsLongRefusal w (refusal.HasVariable v)
long_variable w v long = (codes "HasVariable " ++ long.0, (long.0, long.1, refl), omega (arith, long.2, length-append (codes "HasVariable ") long.0))

-- a long refusal makes a long reply
pub long_reply : (w : World) (e : CallError) (r : Reply) → r ≡ reply.Refused e → IsLongRefusal w e → IsLongReply w r
long_reply w e r is long = subst (λ z. IsLongReply w z) (sym is) (codes "refused " ++ long.0, (long.0, long.1, refl), omega (arith, long.2, length-append (codes "refused ") long.0))

-- a long refusal is handed on as a long reply
pub spelled_long : {T : Type 0} (w v : World) (e : CallError) (r : Reply) (x : TextError) → v ≡ w → r ≡ reply.Refused e → (IsErrOf {T = Unit {0}} (Err x) text_error.TooLong → IsLongRefusal v e) → IsErrOf {T = T} (Err x) text_error.TooLong → IsLongReply w r
spelled_long {T} w v e r x same is long h = long_reply w e r is (subst (λ z. IsLongRefusal z e) same (long (ap Err (told h))))
  where
    told : ◌≡◌ {A = Result T TextError} (Err x) (Err text_error.TooLong) → x ≡ text_error.TooLong
    told q = cc q

-- a refusal of a place is short
short_text : (name text values : List ℕ) (place : ℕ) → length name ≤ 10 → place ≤ 18446744073709551615 → values ≡ name ++ decimal place → text ≡ codes "refused " ++ values → text_limit < length text → ⊥
short_text name text values place few below e f long =
    let d : length (decimal place) ≤ 20 = length-decimal-le 20 place (omega arith) (omega arith) (omega arith) in
    let a = ap length e ∙ length-append name (decimal place) in
    let b = ap length f ∙ length-append (codes "refused ") values in
    omega (arith, d, a, b)

-- the refusals that scripts have are short
pub short_refusal : (w : World) (e : CallError) → IsOfScript e → IsLongReply w (reply.Refused e) → ⊥
short_refusal w (refusal.NoResult place) h (text, prints, long) = short_text (codes "NoResult ") text prints.0 place (omega arith) h prints.1 prints.2 long
short_refusal w (refusal.WrongKind place) h (text, prints, long) = short_text (codes "WrongKind ") text prints.0 place (omega arith) h prints.1 prints.2 long
short_refusal w e h (text, prints, long) = absurd h

-- three numbers with spaces between them
pub widths_text : (old a b c d e p l r : List ℕ) → a ≡ old ++ (codes "WidthsDiffer " ++ p) → b ≡ a ++ codes " " → c ≡ b ++ l → d ≡ c ++ codes " " → e ≡ d ++ r → e ≡ old ++ (codes "WidthsDiffer " ++ p ++ codes " " ++ l ++ codes " " ++ r)
widths_text old a b c d e p l r ea eb ec ed ee = rw (ee, ed, ec, eb, ea) (simp append_assoc)
