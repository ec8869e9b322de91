-- Whole numbers in a text.
use Rattle.std.proofs.Common.{◌≡◌, ◌≢◌, ◌∙◌, ℕ, zero, suc, ◌+◌, ◌*◌, ◌/◌, ◌%◌, ◌^◌, ◌<◌, ◌≤◌, Bool, true, false, List, [], ◌∷◌, ◌++◌, length, take, get_or, refl, sym, ap, subst, arith, append_assoc, append-nil, length-append}
use Rattle.std.specs.Prelude.{not}
use Rattle.std.specs.Char.{digit_value}
use Rattle.std.specs.Fmt.{decimal}
use Rattle.std.specs.Str.Parse.{AllDigits, digits_value, digits_value_after}
use Rattle.std.proofs.lemmas.List.{take_more, take_all}
use Rattle.std.proofs.lemmas.Bool.{and_from}
use Rattle.std.proofs.lemmas.Fmt.{decimal_is_IsNumeral_wide, decimal_step_wide, decimal_by_steps_wide, decimal_digit}
use Rattle.std.proofs.lemmas.Str.{digit_value_digit}
use Rattle.std.proofs.lemmas.Int.Digits.{digits_value_more}
use Rattle.std.proofs.lemmas.Str.Parse.{digit_from_value}
use Rattle.value_texts.specs.declared.numbers.Size.{Size}
use Rattle.value_texts.specs.Reading.{IsWhole}
use Rattle.value_texts.specs.Pieces.{is_free, IsSize, IsWholeOf, NoWhole}

digits_append : (a b : List ℕ) → AllDigits 10 a → AllDigits 10 b → AllDigits 10 (a ++ b)
digits_append [] b f g = g
digits_append (c ∷ a) b f g = (f.0, digits_append a b f.1 g)

digit_of_all : (text : List ℕ) (i : ℕ) → i < length text → AllDigits 10 text → digit_value (get_or text i 0) < 10
digit_of_all [] i l f = absurd (omega (arith, l))
digit_of_all (c ∷ cs) zero l f = f.0
digit_of_all (c ∷ cs) (suc i) l f = digit_of_all cs i (omega (arith, l)) f.1

-- a whole number is what `decimal` writes
le_value_after : (n : ℕ) (ds : List ℕ) → n ≤ digits_value_after 10 n ds
le_value_after n [] = omega arith
le_value_after n (c ∷ cs) = omega (arith, le_value_after (n * 10 + digit_value c) cs)

decimal_after : (n : ℕ) (ds : List ℕ) → 0 < n → AllDigits 10 ds → digits_value_after 10 n ds < 10 ^ 64 → decimal (digits_value_after 10 n ds) ≡ decimal n ++ ds
decimal_after n [] some f small = sym (append-nil (decimal n))
decimal_after n (c ∷ cs) some f small =
    let next : ℕ = n * 10 + digit_value c in
    let digit = digit_value_digit c (digit_from_value c f.0) in
    let quotient : next / 10 ≡ n = omega (arith, f.0) in
    let last : 48 + next % 10 ≡ c = omega (arith, f.0, digit) in
    decimal_after next cs (omega (arith, some)) f.1 small
    ∙ ap (λ x. x ++ cs) (decimal_step_wide next (omega (arith, some)) (omega (arith, le_value_after next cs, small)) ∙ (λ i. decimal (quotient i) ++ (last i ∷ [])))
    ∙ append_assoc (decimal n) (c ∷ []) cs

whole_by_front : (text : List ℕ) (n : ℕ) → IsWhole text n → n < 10 ^ 64 → text ≡ decimal n
whole_by_front [] n w small = absurd (omega (arith, w.digits.0))
whole_by_front (c ∷ []) n w small =
    let digit = digit_value_digit c (digit_from_value c w.digits.1.0) in
    let is : n ≡ digit_value c = omega (arith, w.value) in
    (λ i. (let same : c ≡ 48 + digit_value c = omega (arith, digit) in same) i ∷ []) ∙ sym (decimal_digit (digit_value c) w.digits.1.0) ∙ ap decimal (sym is)
whole_by_front (c ∷ d ∷ cs) n w small =
    let digit = digit_value_digit c (digit_from_value c w.digits.1.0) in
    let first : c ≡ 48 → ⊥ = w.front (omega arith) in
    let from_zero : 0 * 10 + digit_value c ≡ digit_value c = omega arith in
    let value : digits_value_after 10 (digit_value c) (d ∷ cs) ≡ n = ap (λ m. digits_value_after 10 m (d ∷ cs)) (sym from_zero) ∙ w.value in
    let same : c ≡ 48 + digit_value c = omega (arith, digit) in
    sym (ap decimal (sym value)
    ∙ decimal_after (digit_value c) (d ∷ cs) (omega (arith, digit, first)) w.digits.1.1 (omega (arith, value, small))
    ∙ ap (λ x. x ++ (d ∷ cs)) (decimal_digit (digit_value c) w.digits.1.0 ∙ (λ i. sym same i ∷ [])))

pub whole_is_decimal : (text : List ℕ) (n : ℕ) → IsWhole text n → n < 2 ^ 127 → text ≡ decimal n
whole_is_decimal text n w small = whole_by_front text n w (omega (arith, small))

NoZero : ℕ → List ℕ → Type 0
NoZero n text = (0 < n → get_or text 0 0 ≢ 48) × (0 < length text) × (n < 10 → length text ≡ 1)

decimal_front : (n : ℕ) → n < 10 ^ 64 → NoZero n (decimal n)
unfolding NoZero
decimal_front = decimal_by_steps_wide NoZero (λ m l. (λ some. omega (arith, some), omega arith, λ small. refl)) more
  where
    head : (ds : List ℕ) (c : ℕ) → 0 < length ds → get_or (ds ++ c ∷ []) 0 0 ≡ get_or ds 0 0
    head [] c l = absurd (omega (arith, l))
    head (d ∷ ds) c l = refl

    more : (m : ℕ) (ds : List ℕ) → 10 ≤ m → NoZero (m / 10) ds → NoZero m (ds ++ ((48 + m % 10) ∷ []))
    more m ds l h =
        (λ some z. h.0 (omega (arith, l)) (sym (head ds (48 + m % 10) h.1) ∙ z), omega (arith, length-append ds ((48 + m % 10) ∷ []), h.1), λ small. absurd (omega (arith, l, small)))

pub decimal_whole : (n : ℕ) → n < 2 ^ 127 → IsWhole (decimal n) n
unfolding NoZero
decimal_whole n small =
    let within : n < 10 ^ 64 = omega (arith, small) in
    let front = decimal_front n within in
    record {
      digits = (decimal_is_IsNumeral_wide n within).0;
      value = (decimal_is_IsNumeral_wide n within).1;
      front = λ l. front.0 (by_size n front.2 l);
    }
  where
    by_size : (n : ℕ) → (n < 10 → length (decimal n) ≡ 1) → 1 < length (decimal n) → 0 < n
    by_size zero h l = absurd (omega (arith, l, h (omega arith)))
    by_size (suc n) h l = omega arith

-- a number has one size
pub one_whole : (text : List ℕ) (m n : ℕ) → IsWhole text m → IsWhole text n → m ≡ n
one_whole text m n v w = sym v.value ∙ w.value

-- digits are no marks
pub free_digits : (test : ℕ → Bool) → ((c : ℕ) → 48 ≤ c → c ≤ 57 → test c ≡ false) → (text : List ℕ) → AllDigits 10 text → is_free test text ≡ true
free_digits test h [] f = refl
free_digits test h (c ∷ cs) f =
    let range = digit_from_value c f.0 in
    and_from _ _ (ap not (h c (omega (arith, range)) (omega (arith, range)))) (free_digits test h cs f.1)

-- the loop over digits
pub digits_more : (text : List ℕ) (i : ℕ) → i < length text → AllDigits 10 (take i text) → digit_value (get_or text i 0) < 10 → AllDigits 10 (take (i + 1) text)
digits_more text i l f d = subst (AllDigits 10) (sym (take_more text i 0 l)) (digits_append (take i text) (get_or text i 0 ∷ []) f (d, tt))

pub size_more : (text : List ℕ) (i : ℕ) (old new : Size) → i < length text → IsSize old (digits_value 10 (take i text))
    → ((n : ℕ) → IsSize old n → IsSize new (n * 10 + digit_value (get_or text i 0))) → IsSize new (digits_value 10 (take (i + 1) text))
size_more text i old new l s h = subst (IsSize new) (sym (digits_value_more 10 text i l)) (h (digits_value 10 (take i text)) s)

pub no_digit : (text : List ℕ) (i : ℕ) → i < length text → 10 ≤ digit_value (get_or text i 0) → NoWhole text
no_digit text i l h n w = omega (arith, h, digit_of_all text i l w.digits.1)
