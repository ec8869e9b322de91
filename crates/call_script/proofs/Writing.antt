-- Arguments are written as is computed.
use Rattle.std.proofs.Common.{◌≡◌, ◌∙◌, ℕ, ◌+◌, ◌<◌, ◌^◌, Bool, true, false, not, ◌&&◌, cond, ltb, leb, Option, Some, None, List, [], ◌∷◌, ◌++◌, length, get_or, take, drop, refl, sym, ap, subst, arith, codes, append_assoc, append-nil, length-append, take_at, drop_at}
use Rattle.std.specs.Prelude.{◌==◌}
use Rattle.std.specs.List.{list_all, position_or_len, before_first, after_first}
use Rattle.std.specs.Str.{bytes_eq}
use Rattle.std.specs.Str.Parse.{digits_value}
use Rattle.std.proofs.lemmas.Bool.{and_parts, ne_eqb, eqb-true, lt-ltb, le-ltb, ltb-true, leb-true}
use Rattle.std.proofs.lemmas.Slice.Eq.{bytes_eq-Decides}
use Rattle.std.proofs.lemmas.List.Sums.{split_at_first, prefix_len_stops}
use Rattle.yices_grammar.specs.Words.{is_digit, are_some}
use Rattle.call_script.specs.declared.words.ArgumentKind.{ArgumentKind}
use Rattle.call_script.specs.declared.words.ArgumentKind.TheVariants as kind
use Rattle.call_script.specs.Calls.{is_reference_kind}
use Rattle.call_script.specs.Tokens.{Lexeme, word, name}
use Rattle.call_script.specs.Lines.{Written, reference, entry, flag, limit, quoted, IsNumber, flag_text, IsLimit, IsWritten, IsOfKind}
use Rattle.call_script.specs.Judging.{number_of, numeral, as_reference, as_entry, is_point, numbers_of, reference_of, flag_of, counted, as_limit, limit_of, quoted_of, argument_of}
use Rattle.call_script.proofs.Runs.{both, prefix_run}
use Rattle.call_script.proofs.Numerals.{are_all}

some_is : {X : Type 0} (x y : X) → Some x ≡ Some y → x ≡ y
some_is x y h = cc h

none_is : {X : Type 0} (x : X) → None ≡ Some x → ⊥
none_is x h = absurd (cc h)

-- numerals

numeral_is : (ds : List ℕ) (n : ℕ) → IsNumber ds n → numeral ds ≡ Some n
unfolding numeral
numeral_is ds n h = ap (λ v. cond v (Some (number_of ds)) None) h.0 ∙ ap Some (sym h.1)

numeral_from : (ds : List ℕ) (n : ℕ) → numeral ds ≡ Some n → IsNumber ds n
unfolding numeral
numeral_from ds n h =
    elim (are_some is_digit ds) as (λ v. are_some is_digit ds ≡ v → cond v (Some (number_of ds)) None ≡ Some n → IsNumber ds n) [
      | true ↦ λ e k. (e, sym (some_is (number_of ds) n k))
      | false ↦ λ e k. absurd (none_is n k)
    ] refl h

digit_is : (b : ℕ) → is_digit b ≡ true → is_point b ≡ false
digit_is b h = let low = leb-true 48 b (and_parts (leb 48 b) (leb b 57) h).0 in ne_eqb b 46 (λ e. omega (arith, e))

no_point : (ds : List ℕ) → list_all is_digit ds ≡ true → list_all (λ b. not (is_point b)) ds ≡ true
no_point [] h = refl
no_point (b ∷ ds) h =
    let parts = and_parts (is_digit b) (list_all is_digit ds) h in
    both (not (is_point b)) (list_all (λ c. not (is_point c)) ds) (ap not (digit_is b parts.0)) (no_point ds parts.1)

-- what stands behind the sign of a reference
abbrev Numbers : List ℕ → Written → Type 0
Numbers bs (reference n) = IsNumber bs n
Numbers bs (entry n i) = (ds : List ℕ) × (es : List ℕ) × (bs ≡ ds ++ 46 ∷ es) × IsNumber ds n × IsNumber es i
Numbers bs (flag b) = ⊥
Numbers bs (limit n) = ⊥
Numbers bs (quoted s) = ⊥

one_number : (ds : List ℕ) (n : ℕ) → IsNumber ds n → numbers_of ds ≡ Some (reference n)
one_number ds n h =
    let all = no_point ds (are_all is_digit ds h.0).0 in
    let at : position_or_len is_point ds ≡ length ds = ap (position_or_len is_point) (sym (append-nil ds)) ∙ prefix_run (λ b. not (is_point b)) ds [] all refl in
    ap (λ v. cond v (as_entry (numeral (before_first is_point ds)) (numeral (after_first is_point ds))) (as_reference (numeral ds))) (le-ltb (position_or_len is_point ds) (length ds) (omega arith))
    ∙ ap as_reference (numeral_is ds n h)

two_numbers : (ds es : List ℕ) (n i : ℕ) → IsNumber ds n → IsNumber es i → numbers_of (ds ++ 46 ∷ es) ≡ Some (entry n i)
two_numbers ds es n i h k =
    let all = no_point ds (are_all is_digit ds h.0).0 in
    let at : position_or_len is_point (ds ++ 46 ∷ es) ≡ length ds = prefix_run (λ b. not (is_point b)) ds (46 ∷ es) all refl in
    let front : before_first is_point (ds ++ 46 ∷ es) ≡ ds = ap (λ j. take j (ds ++ 46 ∷ es)) at ∙ take_at ds (46 ∷ es) (length ds) refl in
    let counted : length (ds ++ 46 ∷ []) ≡ length ds + 1 = length-append ds (46 ∷ []) in
    let behind : after_first is_point (ds ++ 46 ∷ es) ≡ es =
    ap (λ j. drop (j + 1) (ds ++ 46 ∷ es)) at ∙ ap (drop (length ds + 1)) (sym (append_assoc ds (46 ∷ []) es)) ∙ drop_at (ds ++ 46 ∷ []) es (length ds + 1) counted in
    ap (λ v. cond v (as_entry (numeral (before_first is_point (ds ++ 46 ∷ es))) (numeral (after_first is_point (ds ++ 46 ∷ es)))) (as_reference (numeral (ds ++ 46 ∷ es))))
    (lt-ltb (position_or_len is_point (ds ++ 46 ∷ es)) (length (ds ++ 46 ∷ es)) (omega (arith, at, length-append ds (46 ∷ es))))
    ∙ ap (λ x. as_entry (numeral x) (numeral (after_first is_point (ds ++ 46 ∷ es)))) front ∙ ap (λ x. as_entry (numeral ds) (numeral x)) behind
    ∙ ap (λ o. as_entry o (numeral es)) (numeral_is ds n h) ∙ ap (as_entry (Some n)) (numeral_is es i k)

from_reference : (bs : List ℕ) (o : Option ℕ) (a : Written) → numeral bs ≡ o → as_reference o ≡ Some a → Numbers bs a
from_reference bs None a e h = absurd (none_is a h)
from_reference bs (Some n) a e h = subst (Numbers bs) (some_is (reference n) a h) (numeral_from bs n e)

from_entry : (bs ds es : List ℕ) (o p : Option ℕ) (a : Written) → bs ≡ ds ++ 46 ∷ es → numeral ds ≡ o → numeral es ≡ p → as_entry o p ≡ Some a → Numbers bs a
from_entry bs ds es None p a is e f h = absurd (none_is a h)
from_entry bs ds es (Some n) None a is e f h = absurd (none_is a h)
from_entry bs ds es (Some n) (Some i) a is e f h = subst (Numbers bs) (some_is (entry n i) a h) (ds, es, is, numeral_from ds n e, numeral_from es i f)

split_is : (bs : List ℕ) → position_or_len is_point bs < length bs → bs ≡ before_first is_point bs ++ 46 ∷ after_first is_point bs
split_is bs h =
    let passes = eqb-true _ 46 (not_not (is_point (get_or bs (position_or_len is_point bs) 0)) (prefix_len_stops (λ b. not (is_point b)) bs 0 h)) in
    split_at_first is_point bs 0 h ∙ ap (λ b. before_first is_point bs ++ b ∷ after_first is_point bs) passes
  where
    not_not : (x : Bool) → not x ≡ false → x ≡ true
    not_not true k = refl
    not_not false k = absurd (cc k)

numbers_from : (bs : List ℕ) (a : Written) → numbers_of bs ≡ Some a → Numbers bs a
numbers_from bs a h =
    elim (ltb (position_or_len is_point bs) (length bs)) as (λ v. ltb (position_or_len is_point bs) (length bs) ≡ v
    → cond v (as_entry (numeral (before_first is_point bs)) (numeral (after_first is_point bs))) (as_reference (numeral bs)) ≡ Some a → Numbers bs a) [
      | true ↦ λ e k. from_entry bs (before_first is_point bs) (after_first is_point bs) _ _ a (split_is bs (ltb-true (position_or_len is_point bs) (length bs) e)) refl refl k
      | false ↦ λ e k. from_reference bs (numeral bs) a refl k
    ] refl h

-- references

reference_is : (w bs : List ℕ) (a : Written) → w ≡ 35 ∷ bs → numbers_of bs ≡ Some a → reference_of w ≡ Some a
unfolding reference_of
reference_is w bs a is h = ap reference_of is ∙ h

sign_is : (k : ArgumentKind) (b : ℕ) (bs : List ℕ) (a : Written) → is_reference_kind k ≡ true → b ≡ 35 → Numbers bs a → IsWritten k (word (b ∷ bs)) a
sign_is k b bs (reference n) r e h = (r, bs, ap (λ x. x ∷ bs) e, h)
sign_is k b bs (entry n i) r e (ds, es, is, first, second) = (r, ds, es, ap (λ x. x ∷ bs) e ∙ ap (λ x. 35 ∷ x) is, first, second)
sign_is k b bs (flag v) r e h = absurd h
sign_is k b bs (limit n) r e h = absurd h
sign_is k b bs (quoted s) r e h = absurd h

reference_from : (k : ArgumentKind) (w : List ℕ) (a : Written) → is_reference_kind k ≡ true → reference_of w ≡ Some a → IsWritten k (word w) a
unfolding reference_of
reference_from k [] a r h = absurd (none_is a h)
reference_from k (b ∷ bs) a r h =
    elim (b == 35) as (λ v. (b == 35) ≡ v → cond v (numbers_of bs) None ≡ Some a → IsWritten k (word (b ∷ bs)) a) [
      | true ↦ λ e g. sign_is k b bs a r (eqb-true b 35 e) (numbers_from bs a g)
      | false ↦ λ e g. absurd (none_is a g)
    ] refl h

-- flags

flag_is : (w : List ℕ) (b : Bool) → w ≡ flag_text b → flag_of w ≡ Some (flag b)
unfolding flag_of
flag_is w true h = ap flag_of h
flag_is w false h = ap flag_of h

flag_from : (w : List ℕ) (a : Written) → flag_of w ≡ Some a → IsWritten kind.Flag (word w) a
unfolding flag_of
flag_from w a h =
    elim (bytes_eq w (codes "true")) as (λ v. bytes_eq w (codes "true") ≡ v
    → cond v (Some (flag true)) (cond (bytes_eq w (codes "false")) (Some (flag false)) None) ≡ Some a → IsWritten kind.Flag (word w) a) [
      | true ↦ λ e g. subst (IsWritten kind.Flag (word w)) (some_is (flag true) a g) (refl, (bytes_eq-Decides w (codes "true")).0 e)
      | false ↦ λ e g. elim (bytes_eq w (codes "false")) as (λ v. bytes_eq w (codes "false") ≡ v → cond v (Some (flag false)) None ≡ Some a → IsWritten kind.Flag (word w) a) [
        | true ↦ λ f j. subst (IsWritten kind.Flag (word w)) (some_is (flag false) a j) (refl, (bytes_eq-Decides w (codes "false")).0 f)
        | false ↦ λ f j. absurd (none_is a j)
      ] refl g
    ] refl h

-- limits

counted_is : (ds : List ℕ) (n : ℕ) → IsLimit ds (Some n) → counted ds ≡ Some n
unfolding counted
counted_is ds n (digits, is, low) =
    ap (λ v. cond v (Some (digits_value 10 ds)) None) (both (are_some is_digit ds) (ltb (digits_value 10 ds) (2 ^ 64)) digits (lt-ltb (digits_value 10 ds) (2 ^ 64) (subst (λ x. x < 2 ^ 64) is low)))
    ∙ ap Some (sym is)

counted_from : (ds : List ℕ) (n : ℕ) → counted ds ≡ Some n → IsLimit ds (Some n)
unfolding counted
counted_from ds n h =
    elim (are_some is_digit ds && ltb (digits_value 10 ds) (2 ^ 64)) as (λ v. (are_some is_digit ds && ltb (digits_value 10 ds) (2 ^ 64)) ≡ v → cond v (Some (digits_value 10 ds)) None ≡ Some n → IsLimit ds (Some n)) [
      | true ↦ λ e k.
          let parts = and_parts (are_some is_digit ds) (ltb (digits_value 10 ds) (2 ^ 64)) e in
          let is = some_is (digits_value 10 ds) n k in
          (parts.0, sym is, subst (λ x. x < 2 ^ 64) is (ltb-true (digits_value 10 ds) (2 ^ 64) parts.1))
      | false ↦ λ e k. absurd (none_is n k)
    ] refl h

-- digits are no word
digits_differ : (w : List ℕ) → are_some is_digit w ≡ true → bytes_eq w (codes "whole") ≡ false
digits_differ w h =
    elim (bytes_eq w (codes "whole")) as (λ v. bytes_eq w (codes "whole") ≡ v → v ≡ false) [
      | true ↦ λ e. absurd (cc (sym (ap (are_some is_digit) ((bytes_eq-Decides w (codes "whole")).0 e)) ∙ h))
      | false ↦ λ e. refl
    ] refl

limit_is : (w : List ℕ) (n : Option ℕ) → IsLimit w n → limit_of w ≡ Some (limit n)
unfolding limit_of
limit_is w None h = ap limit_of h
limit_is w (Some n) h = ap (λ v. cond v (Some (limit None)) (as_limit (counted w))) (digits_differ w h.0) ∙ ap as_limit (counted_is w n h)

from_counted : (w : List ℕ) (o : Option ℕ) (a : Written) → counted w ≡ o → as_limit o ≡ Some a → IsWritten kind.Turns (word w) a
from_counted w None a e h = absurd (none_is a h)
from_counted w (Some n) a e h = subst (IsWritten kind.Turns (word w)) (some_is (limit (Some n)) a h) (refl, counted_from w n e)

limit_from : (w : List ℕ) (a : Written) → limit_of w ≡ Some a → IsWritten kind.Turns (word w) a
unfolding limit_of
limit_from w a h =
    elim (bytes_eq w (codes "whole")) as (λ v. bytes_eq w (codes "whole") ≡ v → cond v (Some (limit None)) (as_limit (counted w)) ≡ Some a → IsWritten kind.Turns (word w) a) [
      | true ↦ λ e g. subst (IsWritten kind.Turns (word w)) (some_is (limit None) a g) (refl, (bytes_eq-Decides w (codes "whole")).0 e)
      | false ↦ λ e g. from_counted w (counted w) a refl g
    ] refl h

-- names

quoted_is : (s : List ℕ) → 0 < length s → quoted_of s ≡ Some (quoted s)
quoted_is [] h = absurd (omega arith)
quoted_is (b ∷ s) h = refl

quoted_from : (s : List ℕ) (a : Written) → quoted_of s ≡ Some a → IsWritten kind.Name (name s) a
quoted_from [] a h = absurd (none_is a h)
quoted_from (b ∷ s) a h = subst (IsWritten kind.Name (name (b ∷ s))) (some_is (quoted (b ∷ s)) a h) (refl, omega arith, refl)

-- arguments of any kind

word_of_kind : (k : ArgumentKind) (w : List ℕ) → is_reference_kind k ≡ true → argument_of k (word w) ≡ reference_of w
word_of_kind kind.Type w h = refl
word_of_kind kind.Term w h = refl
word_of_kind kind.Context w h = refl
word_of_kind kind.TypeOrTerm w h = refl
word_of_kind kind.Flag w h = absurd (cc h)
word_of_kind kind.Turns w h = absurd (cc h)
word_of_kind kind.Name w h = absurd (cc h)

pub written_is : (k : ArgumentKind) (l : Lexeme) (a : Written) → IsWritten k l a → argument_of k l ≡ Some a
written_is k (word w) (reference n) (r, ds, is, num) = word_of_kind k w r ∙ reference_is w ds (reference n) is (one_number ds n num)
written_is k (word w) (entry n i) (r, ds, es, is, first, second) = word_of_kind k w r ∙ reference_is w (ds ++ 46 ∷ es) (entry n i) is (two_numbers ds es n i first second)
written_is k (word w) (flag b) (e, is) = ap (λ x. argument_of x (word w)) e ∙ flag_is w b is
written_is k (word w) (limit n) (e, is) = ap (λ x. argument_of x (word w)) e ∙ limit_is w n is
written_is k (word w) (quoted s) h = absurd h
written_is k (name s) (reference n) h = absurd h
written_is k (name s) (entry n i) h = absurd h
written_is k (name s) (flag b) h = absurd h
written_is k (name s) (limit n) h = absurd h
written_is k (name s) (quoted t) (e, some, is) = ap (λ x. argument_of x (name s)) e ∙ quoted_is s some ∙ ap (λ x. Some (quoted x)) (sym is)

pub written_from : (k : ArgumentKind) (l : Lexeme) (a : Written) → argument_of k l ≡ Some a → IsWritten k l a
written_from kind.Type (word w) a h = reference_from kind.Type w a refl h
written_from kind.Term (word w) a h = reference_from kind.Term w a refl h
written_from kind.Context (word w) a h = reference_from kind.Context w a refl h
written_from kind.TypeOrTerm (word w) a h = reference_from kind.TypeOrTerm w a refl h
written_from kind.Flag (word w) a h = flag_from w a h
written_from kind.Turns (word w) a h = limit_from w a h
written_from kind.Name (word w) a h = absurd (none_is a h)
written_from kind.Type (name s) a h = absurd (none_is a h)
written_from kind.Term (name s) a h = absurd (none_is a h)
written_from kind.Context (name s) a h = absurd (none_is a h)
written_from kind.TypeOrTerm (name s) a h = absurd (none_is a h)
written_from kind.Flag (name s) a h = absurd (none_is a h)
written_from kind.Turns (name s) a h = absurd (none_is a h)
written_from kind.Name (name s) a h = quoted_from s a h

-- an argument is of the kind that it is written as
pub written_kind : (k : ArgumentKind) (l : Lexeme) (a : Written) → IsWritten k l a → IsOfKind k a
written_kind k (word w) (reference n) h = h.0
written_kind k (word w) (entry n i) h = h.0
written_kind k (word w) (flag b) h = h.0
written_kind k (word w) (limit n) h = h.0
written_kind k (word w) (quoted s) h = absurd h
written_kind k (name s) (reference n) h = absurd h
written_kind k (name s) (entry n i) h = absurd h
written_kind k (name s) (flag b) h = absurd h
written_kind k (name s) (limit n) h = absurd h
written_kind k (name s) (quoted t) h = h.0
