-- Tokens begin a call where they can be gone through.
use Rattle.std.proofs.Common.{◌≡◌, ◌∙◌, ℕ, suc, ◌+◌, ◌≤◌, Option, Some, None, List, [], ◌∷◌, ◌++◌, length, refl, sym, ap, subst, arith, append_assoc, append-nil, length-append}
use Rattle.call_script.specs.declared.words.CallWord.{CallWord}
use Rattle.call_script.specs.declared.words.ArgumentKind.{ArgumentKind}
use Rattle.call_script.specs.declared.lines.LineEnd.{LineEnd}
use Rattle.call_script.specs.Calls.{form_of, kind_among, kind_at, IsEnough}
use Rattle.call_script.specs.Tokens.{Lexeme, word, name, Token, Tail}
use Rattle.call_script.specs.Lines.{Written, IsArgument, AreArguments, Front, start, part, IsFront, IsOfKind, HaveKinds, HasForm, Reading}
use Rattle.call_script.specs.Judging.{argument_if, argument_at, word_call, with_word, with_argument, go_on, refusal, said}
use Rattle.call_script.proofs.Writing.{written_is, written_from, written_kind}
use Rattle.call_script.proofs.CallWords.{call_word, word_named}

some_is : {X : Type 0} (x y : X) → Some x ≡ Some y → x ≡ y
some_is x y h = cc h

none_is : {X : Type 0} (x : X) → None ≡ Some x → ⊥
none_is x h = absurd (cc h)

-- what the tokens are behind others, token by token
abbrev and_then : Option Front → (Front → Option Front) → Option Front
and_then None next = None
and_then (Some f) next = next f

abbrev run : Front → List Token → Option Front
run f [] = Some f
run f (t ∷ ts) = and_then (go_on f t) (λ g. run g ts)

run_append : (ts us : List Token) (f : Front) → run f (ts ++ us) ≡ and_then (run f ts) (λ g. run g us)
run_append [] us f = refl
run_append (t ∷ ts) us f = elim (go_on f t) as (λ o. and_then o (λ g. run g (ts ++ us)) ≡ and_then (and_then o (λ g. run g ts)) (λ g. run g us)) [ None ↦ refl | Some g ↦ run_append ts us g ]

-- one argument

argument_is : (w : CallWord) (place : ℕ) (t : Token) (a : Written) → IsArgument w place t a → argument_at w place t.lexeme ≡ Some a
argument_is w place t a (k, e, h) = ap (λ o. argument_if o t.lexeme) e ∙ written_is k t.lexeme a h

argument_from : (w : CallWord) (place : ℕ) (t : Token) (a : Written) → argument_at w place t.lexeme ≡ Some a → IsArgument w place t a
argument_from w place t a h = go (kind_at w place) refl h
  where
    go : (o : Option ArgumentKind) → kind_at w place ≡ o → argument_if o t.lexeme ≡ Some a → IsArgument w place t a
    go None e k = absurd (none_is a k)
    go (Some x) e k = (x, e, written_from x t.lexeme a k)

-- arguments

arguments_run : (w : CallWord) (column place : ℕ) (ts : List Token) (before args : List Written) → AreArguments w place ts args → length before ≡ place
    → run (part column w before) ts ≡ Some (part column w (before ++ args))
arguments_run w column place [] before [] h e = ap (λ x. Some (part column w x)) (sym (append-nil before))
arguments_run w column place [] before (a ∷ args) h e = absurd h
arguments_run w column place (t ∷ ts) before [] h e = absurd h
arguments_run w column place (t ∷ ts) before (a ∷ args) (first, rest) e =
    ap (λ o. and_then (with_argument column w before o) (λ g. run g ts)) (ap (λ n. argument_at w n t.lexeme) e ∙ argument_is w place t a first)
    ∙ arguments_run w column (suc place) ts (before ++ a ∷ []) args rest (length-append before (a ∷ []) ∙ counted)
    ∙ ap (λ x. Some (part column w x)) (append_assoc before (a ∷ []) args)
  where
    counted : length before + length (a ∷ []) ≡ suc place
    counted = omega arith

arguments_more : (w : CallWord) (place : ℕ) (ts : List Token) (args : List Written) (t : Token) (a : Written) → AreArguments w place ts args → IsArgument w (length args + place) t a
    → AreArguments w place (ts ++ t ∷ []) (args ++ a ∷ [])
arguments_more w place [] [] t a h last = (subst (λ n. IsArgument w n t a) counted last, tt)
  where
    counted : length {A = Written} [] + place ≡ place
    counted = omega arith
arguments_more w place [] (b ∷ args) t a h last = absurd h
arguments_more w place (s ∷ ts) [] t a h last = absurd h
arguments_more w place (s ∷ ts) (b ∷ args) t a (first, rest) last = (first, arguments_more w (suc place) ts args t a rest (subst (λ n. IsArgument w n t a) counted last))
  where
    counted : length (b ∷ args) + place ≡ length args + suc place
    counted = omega arith

-- fronts

word_run : (l : Lexeme) (w : CallWord) → l ≡ word (form_of w).text → word_call l ≡ Some w
word_run l w h = ap word_call h ∙ word_named w

pub front_run : (ts : List Token) (f : Front) → IsFront ts f → run start ts ≡ Some f
front_run [] start h = refl
front_run [] (part column w args) h = absurd h
front_run (t ∷ ts) start h = absurd h
front_run (t ∷ ts) (part column w args) (is, at, rest) =
    ap (λ o. and_then (with_word t.column o) (λ g. run g ts)) (word_run t.lexeme w is)
    ∙ arguments_run w t.column 0 ts [] args rest refl
    ∙ ap (λ k. Some (part k w args)) (sym at)

lexeme_word : (l : Lexeme) (w : CallWord) → word_call l ≡ Some w → l ≡ word (form_of w).text
lexeme_word (word v) w h = ap word (call_word v w h)
lexeme_word (name s) w h = absurd (none_is w h)

first_front : (t : Token) (o : Option CallWord) (g : Front) → word_call t.lexeme ≡ o → with_word t.column o ≡ Some g → IsFront (t ∷ []) g
first_front t None g e h = absurd (none_is g h)
first_front t (Some w) g e h = subst (IsFront (t ∷ [])) (some_is (part t.column w []) g h) (lexeme_word t.lexeme w e, refl, tt)

next_front : (ts : List Token) (column : ℕ) (w : CallWord) (args : List Written) (t : Token) (o : Option Written) (g : Front) → IsFront ts (part column w args)
    → argument_at w (length args) t.lexeme ≡ o → with_argument column w args o ≡ Some g → IsFront (ts ++ t ∷ []) g
next_front ts column w args t None g h e k = absurd (none_is g k)
next_front [] column w args t (Some a) g h e k = absurd h
next_front (s ∷ ts) column w args t (Some a) g (is, at, rest) e k =
    subst (IsFront (s ∷ ts ++ t ∷ [])) (some_is (part column w (args ++ a ∷ [])) g k)
    (is, at, arguments_more w 0 ts args t a rest (subst (λ n. IsArgument w n t a) counted (argument_from w (length args) t a e)))
  where
    counted : length args ≡ length args + 0
    counted = omega arith

pub front_more : (ts : List Token) (f g : Front) (t : Token) → IsFront ts f → go_on f t ≡ Some g → IsFront (ts ++ t ∷ []) g
front_more [] start g t h e = first_front t (word_call t.lexeme) g refl e
front_more (s ∷ ts) start g t h e = absurd h
front_more ts (part column w args) g t h e = next_front ts column w args t (argument_at w (length args) t.lexeme) g h refl e

pub front_last : (ts : List Token) (f g : Front) (t : Token) → IsFront ts f → IsFront (ts ++ t ∷ []) g → go_on f t ≡ Some g
front_last ts f g t h k =
    last (go_on f t) (sym (run_append ts (t ∷ []) start ∙ ap (λ o. and_then o (λ x. run x (t ∷ []))) (front_run ts f h)) ∙ front_run (ts ++ t ∷ []) g k)
  where
    last : (o : Option Front) → and_then o (λ x. Some x) ≡ Some g → o ≡ Some g
    last None e = absurd (none_is g e)
    last (Some x) e = e

pub front_one : (ts : List Token) (f g : Front) → IsFront ts f → IsFront ts g → f ≡ g
front_one ts f g h k = some_is f g (sym (front_run ts f h) ∙ front_run ts g k)

-- what tokens say goes on behind those in front
pub said_run : (end : LineEnd) (last : ℕ) (ts us : List Token) (tail : Tail) (f g : Front) → run f ts ≡ Some g → said end last f (ts ++ us) tail ≡ said end last g us tail
unfolding said
said_run end last [] us tail f g h = ap (λ x. said end last x us tail) (some_is f g h)
said_run end last (t ∷ ts) us tail f g h =
    elim (go_on f t) as (λ o. and_then o (λ x. run x ts) ≡ Some g → elim o as (λ _. Reading) [ Some x ↦ said end last x (ts ++ us) tail | None ↦ refusal f t ] ≡ said end last g us tail) [
      | None ↦ λ e. absurd (none_is g e)
      | Some x ↦ λ e. said_run end last ts us tail x g e
    ] h

pub said_front : (end : LineEnd) (last : ℕ) (ts us : List Token) (tail : Tail) (f : Front) → IsFront ts f → said end last start (ts ++ us) tail ≡ said end last f us tail
said_front end last ts us tail f h = said_run end last ts us tail start f (front_run ts f h)

-- whole calls have their form

at_first : (n : ℕ) → n ≡ n + 0
at_first n = omega arith

at_next : (n j : ℕ) → suc n + j ≡ n + suc j
at_next n j = omega arith

from_zero : (j : ℕ) → 0 + j ≡ j
from_zero j = omega arith

some_kind : (j k : ArgumentKind) → Some j ≡ Some k → j ≡ k
some_kind j k h = cc h

have_kinds : (w : CallWord) (place : ℕ) (ks : List ArgumentKind) (repeated : Option ArgumentKind) (ts : List Token) (args : List Written)
    → ((j : ℕ) → kind_at w (place + j) ≡ kind_among ks repeated j) → AreArguments w place ts args → length ks ≤ length args → HaveKinds ks repeated args
have_kinds w place [] None [] [] kinds h enough = tt
have_kinds w place [] (Some k) [] [] kinds h enough = tt
have_kinds w place (k ∷ ks) repeated [] [] kinds h enough = absurd (omega arith)
have_kinds w place ks repeated [] (a ∷ args) kinds h enough = absurd h
have_kinds w place ks repeated (t ∷ ts) [] kinds h enough = absurd h
have_kinds w place [] None (t ∷ ts) (a ∷ args) kinds ((k, e, x), rest) enough = absurd (none_is k (sym (kinds 0) ∙ ap (kind_at w) (sym (at_first place)) ∙ e))
have_kinds w place [] (Some r) (t ∷ ts) (a ∷ args) kinds ((k, e, x), rest) enough =
    let is : k ≡ r = some_kind k r (sym e ∙ ap (kind_at w) (at_first place) ∙ kinds 0) in (
      subst (λ y. IsOfKind y a) is (written_kind k t.lexeme a x),
      have_kinds w (suc place) [] (Some r) ts args (λ j. ap (kind_at w) (at_next place j) ∙ kinds (suc j)) rest (omega arith),
    )
have_kinds w place (d ∷ ks) repeated (t ∷ ts) (a ∷ args) kinds ((k, e, x), rest) enough =
    let is : k ≡ d = some_kind k d (sym e ∙ ap (kind_at w) (at_first place) ∙ kinds 0) in (
      subst (λ y. IsOfKind y a) is (written_kind k t.lexeme a x),
      have_kinds w (suc place) ks repeated ts args (λ j. ap (kind_at w) (at_next place j) ∙ kinds (suc j)) rest (omega arith),
    )

pub has_form : (ts : List Token) (column : ℕ) (w : CallWord) (args : List Written) → IsFront ts (part column w args) → IsEnough w (length args) → HasForm w args
has_form [] column w args h enough = absurd h
has_form (t ∷ ts) column w args (is, at, rest) enough =
    have_kinds w 0 (form_of w).fixed (form_of w).repeated ts args (λ j. ap (kind_at w) (from_zero j)) rest enough
