-- What tokens and a tail mean is what is computed.
use Rattle.std.proofs.Common.{◌≡◌, ◌≢◌, ◌∙◌, ℕ, ◌<◌, Bool, true, false, cond, leb, Option, Some, None, List, [], ◌∷◌, ◌++◌, length, refl, sym, ap, subst, arith, inl, inr, ⊎_elim, append_assoc, append-nil}
use Rattle.std.proofs.lemmas.Bool.{le-leb, leb-true, leb-false}
use Rattle.yices_grammar.specs.Words.{is_among}
use Rattle.call_script.specs.declared.words.CallWord.{CallWord}
use Rattle.call_script.specs.declared.words.ArgumentKind.{ArgumentKind}
use Rattle.call_script.specs.declared.words.ArgumentKind.TheVariants as kind
use Rattle.call_script.specs.declared.lines.LineEnd.{LineEnd}
use Rattle.call_script.specs.declared.lines.LineEnd.TheVariants as line_end
use Rattle.call_script.specs.Calls.{form_of, later_words, kind_at, IsEnough}
use Rattle.call_script.specs.Tokens.{Lexeme, word, name, Token, Tail, over, inside_word, inside_name, bad, bad_in_name, stray}
use Rattle.call_script.specs.Lines.{Front, start, part, IsFront, BeginsCall, IsLater, FaultKind, bad_byte, unexpected, end_of_input, Reading, nothing, called, unfinished, fault, not_built, EndsEarly, NameMayStand, IsWrong, MayGoOn, Means}
use Rattle.call_script.specs.Judging.{is_open, word_call, call_named, with_word, go_on, is_later, refusal, too_early, if_ended, is_name_kind, name_may_stand, at_end, at_tail, said}
use Rattle.call_script.proofs.CallWords.{call_word, word_built}
use Rattle.call_script.proofs.Fronts.{front_more, front_last, said_front}

closed : (end : LineEnd) → end ≢ line_end.Open → is_open end ≡ false
closed line_end.Newline h = refl
closed line_end.TextEnd h = refl
closed line_end.Open h = absurd (h refl)

-- names

kind_named : (o : Option ArgumentKind) → o ≡ Some kind.Name → is_name_kind o ≡ true
kind_named o h = ap is_name_kind h

named_kind : (o : Option ArgumentKind) → is_name_kind o ≡ true → o ≡ Some kind.Name
named_kind None h = absurd (cc h)
named_kind (Some kind.Type) h = absurd (cc h)
named_kind (Some kind.Term) h = absurd (cc h)
named_kind (Some kind.Context) h = absurd (cc h)
named_kind (Some kind.TypeOrTerm) h = absurd (cc h)
named_kind (Some kind.Flag) h = absurd (cc h)
named_kind (Some kind.Turns) h = absurd (cc h)
named_kind (Some kind.Name) h = refl

may_named : (f : Front) → NameMayStand f → name_may_stand f ≡ true
may_named start h = absurd h
may_named (part column w args) h = kind_named (kind_at w (length args)) h

named_may : (f : Front) → name_may_stand f ≡ true → NameMayStand f
named_may start h = absurd (cc h)
named_may (part column w args) h = named_kind (kind_at w (length args)) h

not_named : (f : Front) → (NameMayStand f → ⊥) → name_may_stand f ≡ false
not_named f h = elim (name_may_stand f) as (λ v. name_may_stand f ≡ v → v ≡ false) [ true ↦ λ e. absurd (h (named_may f e)) | false ↦ λ e. refl ] refl

-- words that aren't built

later_is : (l : Lexeme) → IsLater l → is_later l ≡ true
later_is (word w) h = h
later_is (name s) h = absurd h

is_later_so : (l : Lexeme) → is_later l ≡ true → IsLater l
is_later_so (word w) h = h
is_later_so (name s) h = absurd (cc h)

later_unnamed : (w : List ℕ) (o : Option CallWord) → call_named w ≡ o → is_among later_words w ≡ true → o ≡ None
later_unnamed w None e h = refl
later_unnamed w (Some c) e h = absurd (cc (sym h ∙ ap (is_among later_words) (call_word w c e) ∙ word_built c))

later_no_call : (l : Lexeme) → IsLater l → word_call l ≡ None
later_no_call (word w) h = later_unnamed w (call_named w) refl h
later_no_call (name s) h = absurd h

-- from what is meant

early_is : (end : LineEnd) (last column : ℕ) (k : FaultKind) → EndsEarly end last k column → too_early end last ≡ fault k column
early_is line_end.Newline last column k (e, at) = ap (λ x. fault unexpected x) (sym at) ∙ ap (λ x. fault x column) (sym e)
early_is line_end.TextEnd last column k (e, at) = ap (λ x. fault end_of_input x) (sym at) ∙ ap (λ x. fault x column) (sym e)
early_is line_end.Open last column k h = absurd h

same_cond : (b : Bool) (x : Reading) → cond b x x ≡ x
same_cond true x = refl
same_cond false x = refl

open_tail : (last : ℕ) (f : Front) (t : Tail) → MayGoOn f t → at_tail line_end.Open last f t ≡ unfinished
unfolding at_tail
open_tail last start over h = refl
open_tail last (part column w args) over h = same_cond (leb (length (form_of w).fixed) (length args)) unfinished
open_tail last f inside_word h = refl
open_tail last f (inside_name at) h = ap (λ v. cond v unfinished (fault unexpected at)) (may_named f h)
open_tail last f (bad at) h = absurd h
open_tail last f (bad_in_name at there) h = absurd h
open_tail last f (stray at) h = absurd h

not_enough : (w : CallWord) (n : ℕ) → (IsEnough w n → ⊥) → leb (length (form_of w).fixed) n ≡ false
not_enough w n h = elim (leb (length (form_of w).fixed) n) as (λ v. leb (length (form_of w).fixed) n ≡ v → v ≡ false) [ true ↦ λ e. absurd (h (leb-true (length (form_of w).fixed) n e)) | false ↦ λ e. refl ] refl

fault_is : (k j : FaultKind) (m n : ℕ) → k ≡ j → m ≡ n → fault j n ≡ fault k m
fault_is k j m n e g = ap (λ x. fault x n) (sym e) ∙ ap (fault k) (sym g)

wrong_tail : (end : LineEnd) (last column : ℕ) (f : Front) (t : Tail) (k : FaultKind) → IsWrong end last f t k column → at_tail end last f t ≡ fault k column
unfolding at_tail
wrong_tail end last column start over k (h, early) = absurd h
wrong_tail end last column (part at w args) over k (h, early) =
    ap (λ v. cond v (if_ended end (called at w args)) (too_early end last)) (not_enough w (length args) h) ∙ early_is end last column k early
wrong_tail end last column f inside_word k h = absurd h
wrong_tail end last column f (inside_name at) k h =
    ⊎_elim (λ x. ap (λ v. cond v (too_early end last) (fault unexpected at)) (may_named f x.0) ∙ early_is end last column k x.1)
    (λ x. ap (λ v. cond v (too_early end last) (fault unexpected at)) (not_named f x.0) ∙ fault_is k unexpected column at x.1 x.2) h
wrong_tail end last column f (bad at) k (e, g) = fault_is k bad_byte column at e g
wrong_tail end last column f (bad_in_name at there) k h =
    ⊎_elim (λ x. ap (λ v. cond v (fault bad_byte there) (fault unexpected at)) (may_named f x.0) ∙ fault_is k bad_byte column there x.1 x.2)
    (λ x. ap (λ v. cond v (fault bad_byte there) (fault unexpected at)) (not_named f x.0) ∙ fault_is k unexpected column at x.1 x.2) h
wrong_tail end last column f (stray at) k (e, g) = fault_is k unexpected column at e g

said_end : (end : LineEnd) (last : ℕ) (ts : List Token) (t : Tail) (f : Front) → IsFront ts f → said end last start ts t ≡ at_tail end last f t
unfolding said
said_end end last ts t f h = ap (λ x. said end last start x t) (sym (append-nil ts)) ∙ said_front end last ts [] t f h

said_stops : (end : LineEnd) (last : ℕ) (f : Front) (t : Token) (ts : List Token) (tail : Tail) → go_on f t ≡ None → said end last f (t ∷ ts) tail ≡ refusal f t
unfolding said
said_stops end last f t ts tail h = ap (λ o. elim o as (λ _. Reading) [ Some g ↦ said end last g ts tail | None ↦ refusal f t ]) h

stops : (ts : List Token) (f : Front) (t : Token) → IsFront ts f → (BeginsCall (ts ++ t ∷ []) → ⊥) → go_on f t ≡ None
stops ts f t h wrong = go (go_on f t) refl
  where
    go : (o : Option Front) → go_on f t ≡ o → o ≡ None
    go None e = refl
    go (Some g) e = absurd (wrong (g, front_more ts f g t h e))

unexpected_is : (before : List Token) (f : Front) (t : Token) → IsFront before f → (before ≡ [] → IsLater t.lexeme → ⊥) → refusal f t ≡ fault unexpected t.column
unexpected_is before (part column w args) t h built = refl
unexpected_is (s ∷ before) start t h built = absurd h
unexpected_is [] start t h built =
    elim (is_later t.lexeme) as (λ v. is_later t.lexeme ≡ v → cond v (not_built t.column) (fault unexpected t.column) ≡ fault unexpected t.column) [
      | true ↦ λ e. absurd (built refl (is_later_so t.lexeme e))
      | false ↦ λ e. refl
    ] refl

pub means_one : (end : LineEnd) (last : ℕ) (ts : List Token) (tail : Tail) (r : Reading) → Means end last ts tail r → said end last start ts tail ≡ r
unfolding said at_tail
means_one end last ts tail nothing (ended, none, is) =
    ap (λ x. said end last start x tail) none ∙ ap (at_tail end last start) is ∙ ap (λ b. cond b unfinished nothing) (closed end ended)
means_one end last ts tail (called column w args) (ended, front, enough, is) =
    said_end end last ts tail (part column w args) front ∙ ap (at_tail end last (part column w args)) is
    ∙ ap (λ b. cond b (if_ended end (called column w args)) (too_early end last)) (le-leb (length (form_of w).fixed) (length args) enough)
    ∙ ap (λ b. cond b unfinished (called column w args)) (closed end ended)
means_one end last ts tail unfinished (open_end, f, front, goes) =
    said_end end last ts tail f front ∙ ap (λ e. at_tail e last f tail) open_end ∙ open_tail last f tail goes
means_one end last ts tail (fault k column) (inl (is, u)) =
    ap (λ x. said end last start x tail) u.is ∙ said_front end last u.before (u.token ∷ u.behind) tail u.good.0 u.good.1
    ∙ said_stops end last u.good.0 u.token u.behind tail (stops u.before u.good.0 u.token u.good.1 u.wrong)
    ∙ unexpected_is u.before u.good.0 u.token u.good.1 u.built ∙ fault_is k unexpected column u.token.column is u.place
means_one end last ts tail (fault k column) (inr (f, front, wrong)) = said_end end last ts tail f front ∙ wrong_tail end last column f tail k wrong
means_one end last ts tail (not_built column) (t, behind, is, later, at) =
    ap (λ x. said end last start x tail) is ∙ said_stops end last start t behind tail (ap (with_word t.column) (later_no_call t.lexeme later))
    ∙ ap (λ b. cond b (not_built t.column) (fault unexpected t.column)) (later_is t.lexeme later) ∙ ap not_built (sym at)

-- what is computed is meant

-- the line's end, where it isn't open or may go on
by_end : (P : LineEnd → Type 0) → P line_end.Newline → P line_end.TextEnd → P line_end.Open → (end : LineEnd) → P end
by_end P n t o line_end.Newline = n
by_end P n t o line_end.TextEnd = t
by_end P n t o line_end.Open = o

newline_ends : line_end.Newline ≢ line_end.Open
newline_ends h = absurd (cc h)

text_ends : line_end.TextEnd ≢ line_end.Open
text_ends h = absurd (cc h)

-- the cases of a test
by_test : (P : Reading → Type 0) (b : Bool) (x y : Reading) → (b ≡ true → P x) → (b ≡ false → P y) → P (cond b x y)
by_test P b x y h k = elim b as (λ v. b ≡ v → P (cond v x y)) [ true ↦ λ e. h e | false ↦ λ e. k e ] refl

early_means : (end : LineEnd) (last : ℕ) (ts : List Token) (f : Front) (tail : Tail) → IsFront ts f
    → ((k : FaultKind) (column : ℕ) → EndsEarly end last k column → IsWrong end last f tail k column) → MayGoOn f tail → Means end last ts tail (too_early end last)
early_means end last ts f tail front wrong goes =
    by_end (λ e. ((k : FaultKind) (column : ℕ) → EndsEarly e last k column → IsWrong e last f tail k column) → Means e last ts tail (too_early e last))
    (λ w. inr (f, front, w unexpected last (refl, refl))) (λ w. inr (f, front, w end_of_input last (refl, refl))) (λ w. (refl, f, front, goes)) end wrong

end_means : (end : LineEnd) (last : ℕ) (ts : List Token) (f : Front) → IsFront ts f → Means end last ts over (at_end end last f)
end_means end last [] start h = by_end (λ e. Means e last [] over (at_end e last start)) (newline_ends, refl, refl) (text_ends, refl, refl) (refl, start, tt, tt) end
end_means end last (t ∷ ts) start h = absurd h
end_means end last ts (part column w args) h =
    by_test (Means end last ts over) (leb (length (form_of w).fixed) (length args)) (if_ended end (called column w args)) (too_early end last)
    (λ e. let enough = leb-true (length (form_of w).fixed) (length args) e in
    by_end (λ x. Means x last ts over (if_ended x (called column w args))) (newline_ends, h, enough, refl) (text_ends, h, enough, refl) (refl, part column w args, h, tt) end)
    (λ e. let few : length args < length (form_of w).fixed = leb-false (length (form_of w).fixed) (length args) e in
    early_means end last ts (part column w args) over h (λ k at early. (λ enough. omega arith, early)) tt)

tail_means : (end : LineEnd) (last : ℕ) (ts : List Token) (f : Front) (tail : Tail) → IsFront ts f → (tail ≡ inside_word → end ≡ line_end.Open) → Means end last ts tail (at_tail end last f tail)
unfolding at_tail
tail_means end last ts f over h o = end_means end last ts f h
tail_means end last ts f inside_word h o = (o refl, f, h, tt)
tail_means end last ts f (inside_name at) h o =
    by_test (Means end last ts (inside_name at)) (name_may_stand f) (too_early end last) (fault unexpected at)
    (λ e. let may = named_may f e in early_means end last ts f (inside_name at) h (λ k c early. inl (may, early)) may)
    (λ e. inr (f, h, inr (λ may. absurd (cc (e, may_named f may)), refl, refl)))
tail_means end last ts f (bad at) h o = inr (f, h, (refl, refl))
tail_means end last ts f (bad_in_name at there) h o =
    by_test (Means end last ts (bad_in_name at there)) (name_may_stand f) (fault bad_byte there) (fault unexpected at)
    (λ e. inr (f, h, inl (named_may f e, refl, refl)))
    (λ e. inr (f, h, inr (λ may. absurd (cc (e, may_named f may)), refl, refl)))
tail_means end last ts f (stray at) h o = inr (f, h, (refl, refl))

wrong_behind : (before : List Token) (f : Front) (t : Token) → IsFront before f → go_on f t ≡ None → BeginsCall (before ++ t ∷ []) → ⊥
wrong_behind before f t h e (g, front) = absurd (cc (sym e ∙ front_last before f g t h front))

refusal_means : (end : LineEnd) (last : ℕ) (before : List Token) (f : Front) (t : Token) (ts : List Token) (tail : Tail) → IsFront before f → go_on f t ≡ None
    → Means end last (before ++ t ∷ ts) tail (refusal f t)
refusal_means end last [] start t ts tail h e =
    by_test (Means end last (t ∷ ts) tail) (is_later t.lexeme) (not_built t.column) (fault unexpected t.column)
    (λ later. (t, ts, refl, is_later_so t.lexeme later, refl))
    (λ later. inl (refl, record { before = []; token = t; behind = ts; is = refl; good = (start, tt); wrong = wrong_behind [] start t tt e; built = λ none l. absurd (cc (later, later_is t.lexeme l)); place = refl }))
refusal_means end last (s ∷ before) start t ts tail h e = absurd h
refusal_means end last [] (part column w args) t ts tail h e = absurd h
refusal_means end last (s ∷ before) (part column w args) t ts tail h e =
    inl (refl, record { before = s ∷ before; token = t; behind = ts; is = refl; good = (part column w args, h); wrong = wrong_behind (s ∷ before) (part column w args) t h e; built = λ none l. absurd (cc none); place = refl })

means_behind : (end : LineEnd) (last : ℕ) (ts before : List Token) (f : Front) (tail : Tail) → IsFront before f → (tail ≡ inside_word → end ≡ line_end.Open)
    → Means end last (before ++ ts) tail (said end last f ts tail)
unfolding said
means_behind end last [] before f tail h o = subst (λ x. Means end last x tail (at_tail end last f tail)) (sym (append-nil before)) (tail_means end last before f tail h o)
means_behind end last (t ∷ ts) before f tail h o =
    elim (go_on f t) as (λ v. go_on f t ≡ v → Means end last (before ++ t ∷ ts) tail (elim v as (λ _. Reading) [ Some g ↦ said end last g ts tail | None ↦ refusal f t ])) [
      | None ↦ λ e. refusal_means end last before f t ts tail h e
      | Some g ↦ λ e. subst (λ x. Means end last x tail (said end last g ts tail)) (append_assoc before (t ∷ []) ts) (means_behind end last ts (before ++ t ∷ []) g tail (front_more before f g t h e) o)
    ] refl

pub means_said : (end : LineEnd) (last : ℕ) (ts : List Token) (tail : Tail) → (tail ≡ inside_word → end ≡ line_end.Open) → Means end last ts tail (said end last start ts tail)
means_said end last ts tail o = means_behind end last ts [] start tail tt o
