-- Words: what value each has, and that none has a mark in it.
use Rattle.std.proofs.Common.{◌≡◌, ◌≢◌, ◌∙◌, ℕ, ◌^◌, ◌<◌, ◌≤◌, Bool, true, false, cond, List, [], ◌++◌, take, drop, refl, sym, ap, subst, arith, codes, inl, inr, eq-eqb, eqb-true, ne_eqb, lt-ltb, ltb-true, decimal}
use Rattle.std.proofs.lemmas.Bool.{and_parts, and_from}
use Rattle.std.proofs.lemmas.Fmt.{decimal_injective}
use Rattle.std.proofs.lemmas.List.{append_cancel_left, take-append-drop}
use Rattle.std.specs.Str.{bytes_eq}
use Rattle.std.proofs.lemmas.Slice.Eq.{bytes_eq-Decides}
use Rattle.rationals.specs.Rational.{ℚ, zero_ℚ}
use Rattle.value_texts.specs.declared.numbers.Size.{Size}
use Rattle.value_texts.specs.declared.numbers.Size.TheVariants as size
use Rattle.value_texts.specs.declared.numbers.Number.TheVariants as read
use Rattle.y_tree.specs.Sorts.{Sort, boolean, real, bit_vector, uninterpreted}
use Rattle.y_tree.specs.Values.{Value, truth, number, bits, element, function, has_sort}
use Rattle.value_texts.specs.Texts.{binary, value_text}
use Rattle.value_texts.specs.Reading.{IsWhole, Word}
use Rattle.value_texts.specs.Pieces.{is_free, is_mark, Stops, IsEnd, IsSize, IsWholeOf, NoWhole, IsBottom, IsFraction, IsWord, NoWord, IsNumber, NoNumber, IsFront, NoFront}
use Rattle.value_texts.proofs.Splitting.{head_or, free_append, split_once, split_at_end}
use Rattle.value_texts.proofs.Wholes.{whole_is_decimal, decimal_whole, one_whole, free_digits}
use Rattle.value_texts.proofs.Digits.{binary_injective, binary_free}
use Rattle.value_texts.proofs.Fractions.{negative_of, exact_fraction, fraction_of_wide}

-- the values of each simple type
of_boolean : (w : Value) → has_sort w boolean ≡ true → (b : Bool) × (w ≡ truth b)
unfolding has_sort
of_boolean (truth b) h = (b, refl)
of_boolean (number q) h = absurd (cc h)
of_boolean (bits n a) h = absurd (cc h)
of_boolean (element k a) h = absurd (cc h)
of_boolean (function es v) h = absurd (cc h)

of_real : (w : Value) → has_sort w real ≡ true → (q : ℚ) × (w ≡ number q)
unfolding has_sort
of_real (truth b) h = absurd (cc h)
of_real (number q) h = (q, refl)
of_real (bits n a) h = absurd (cc h)
of_real (element k a) h = absurd (cc h)
of_real (function es v) h = absurd (cc h)

of_bits : (n : ℕ) (w : Value) → has_sort w (bit_vector n) ≡ true → (a : ℕ) × (w ≡ bits n a) × (a < 2 ^ n)
unfolding has_sort
of_bits n (truth b) h = absurd (cc h)
of_bits n (number q) h = absurd (cc h)
of_bits n (bits m a) h = let p = and_parts _ _ h in let e = eqb-true m n p.0 in (a, ap (λ x. bits x a) e, ltb-true a (2 ^ n) p.1)
of_bits n (element k a) h = absurd (cc h)
of_bits n (function es v) h = absurd (cc h)

of_element : (k : ℕ) (w : Value) → has_sort w (uninterpreted k) ≡ true → (a : ℕ) × (w ≡ element k a)
unfolding has_sort
of_element k (truth b) h = absurd (cc h)
of_element k (number q) h = absurd (cc h)
of_element k (bits m a) h = absurd (cc h)
of_element k (element l a) h = (a, ap (λ x. element x a) (eqb-true l k h))
of_element k (function es v) h = absurd (cc h)

is_truth : (b : Bool) → has_sort (truth b) boolean ≡ true
unfolding has_sort
is_truth b = refl

is_number : (q : ℚ) → has_sort (number q) real ≡ true
unfolding has_sort
is_number q = refl

are_bits : (n a : ℕ) → a < 2 ^ n → has_sort (bits n a) (bit_vector n) ≡ true
unfolding has_sort
are_bits n a l = and_from _ _ (eq-eqb n n refl) (lt-ltb a (2 ^ n) l)

is_element : (k a : ℕ) → has_sort (element k a) (uninterpreted k) ≡ true
unfolding has_sort
is_element k a = eq-eqb k k refl

-- truth values
same_truth : (text : List ℕ) (b c flag : Bool) → text ≡ value_text (truth b) → Word flag (truth c) text → (flag ≡ false) × (truth c ≡ truth b)
unfolding value_text
same_truth text b c true e w = absurd w
same_truth text true true false e w = (refl, refl)
same_truth text false false false e w = (refl, refl)
same_truth text true false false e w = let h : 116 ≡ 102 = ap head_or (sym e ∙ w.1) in absurd (omega (arith, h))
same_truth text false true false e w = let h : 102 ≡ 116 = ap head_or (sym e ∙ w.1) in absurd (omega (arith, h))

pub truth_word : (text : List ℕ) (b : Bool) → text ≡ value_text (truth b) → IsWord boolean text (truth b) false
truth_word text b e = record {
  sorted = is_truth b;
  written = (refl, e);
  only = λ w flag h p.
      let c = of_boolean w h in
      let same = same_truth text b c.0 flag e (subst (λ x. Word flag x text) c.1 p) in
      (same.0, λ narrow. c.1 ∙ same.1);
}

pub no_truth : (text : List ℕ) → ((b : Bool) → text ≢ value_text (truth b)) → NoWord boolean text
no_truth text h v wide s w = let c = of_boolean v s in go wide c.0 (subst (λ x. Word wide x text) c.1 w)
  where
    go : (wide b : Bool) → Word wide (truth b) text → ⊥
    go true b w = w
    go false b w = h b w.1

pub read_true : (text word : List ℕ) (b : Bool) → word ≡ codes "true" → b ≡ bytes_eq text word → b ≡ true → text ≡ value_text (truth true)
unfolding value_text
read_true text word b w e h = (bytes_eq-Decides text word).0 (sym e ∙ h) ∙ w

pub read_false : (text word : List ℕ) (b : Bool) → word ≡ codes "false" → b ≡ bytes_eq text word → b ≡ true → text ≡ value_text (truth false)
unfolding value_text
read_false text word b w e h = (bytes_eq-Decides text word).0 (sym e ∙ h) ∙ w

pub read_neither : (text u v : List ℕ) (a b : Bool) → u ≡ codes "true" → v ≡ codes "false" → a ≡ bytes_eq text u → b ≡ bytes_eq text v → a ≡ false → b ≡ false → (c : Bool) → text ≢ value_text (truth c)
unfolding value_text
read_neither text u v a b d c e f g h true w = cc (sym g ∙ e ∙ (bytes_eq-Decides text u).1 (w ∙ sym d))
read_neither text u v a b d c e f g h false w = cc (sym h ∙ f ∙ (bytes_eq-Decides text v).1 (w ∙ sym c))

-- numbers
same_number : (text : List ℕ) (q p : ℚ) (flag : Bool) → IsNumber text (read.Exact q) → Word flag (number p) text → (flag ≡ false) × (number p ≡ number q)
same_number text q p true h w = absurd (h.2 w)
same_number text q p false h w = (refl, ap number (h.1 p w))

pub number_word : (text : List ℕ) (q : ℚ) → IsNumber text (read.Exact q) → IsWord real text (number q) false
number_word text q h = record {
  sorted = is_number q;
  written = h.0;
  only = λ w flag s p.
      let c = of_real w s in
      let same = same_number text q c.0 flag h (subst (λ x. Word flag x text) c.1 p) in
      (same.0, λ narrow. c.1 ∙ same.1);
}

pub wide_word : (text : List ℕ) → IsNumber text read.Wide → IsWord real text (number zero_ℚ) true
wide_word text h = record {
  sorted = is_number zero_ℚ;
  written = h.0;
  only = λ w flag s p. let c = of_real w s in go flag c.0 w (subst (λ x. Word flag x text) c.1 p);
}
  where
    go : (flag : Bool) (p : ℚ) (w : Value) → Word flag (number p) text → (flag ≡ true) × (true ≡ false → w ≡ number zero_ℚ)
    go true p w x = (refl, λ e. absurd (cc e))
    go false p w x = absurd (h.1 p x)

pub no_real : (text : List ℕ) → NoNumber text → NoWord real text
no_real text h v wide s w = let c = of_real v s in go wide c.0 (subst (λ x. Word wide x text) c.1 w)
  where
    go : (wide : Bool) (q : ℚ) → Word wide (number q) text → ⊥
    go true q w = h.1 w
    go false q w = h.0 q w

-- bit-vectors
bits_are : (n c : ℕ) → value_text (bits n c) ≡ codes "0b" ++ binary n c
unfolding value_text
bits_are n c = refl

element_is : (k c : ℕ) → value_text (element k c) ≡ codes "@" ++ decimal c
unfolding value_text
element_is k c = refl

same_bits : (text : List ℕ) (n a c : ℕ) (flag : Bool) → a < 2 ^ n → c < 2 ^ n → text ≡ codes "0b" ++ binary n a → Word flag (bits n c) text → (flag ≡ false) × (bits n c ≡ bits n a)
same_bits text n a c true l h e w = absurd w
same_bits text n a c false l h e w = (refl, ap (bits n) (binary_injective n c a h l (append_cancel_left (codes "0b") (binary n c) (binary n a) (sym (w.1 ∙ bits_are n c) ∙ e))))

pub bits_word : (text : List ℕ) (n a : ℕ) → a < 2 ^ n → text ≡ codes "0b" ++ binary n a → IsWord (bit_vector n) text (bits n a) false
bits_word text n a l e = record {
  sorted = are_bits n a l;
  written = (refl, e ∙ sym (bits_are n a));
  only = λ w flag s p.
      let c = of_bits n w s in
      let same = same_bits text n a c.0 flag l c.2 e (subst (λ x. Word flag x text) c.1 p) in
      (same.0, λ narrow. c.1 ∙ same.1);
}

pub no_bits : (text : List ℕ) (n : ℕ) → ((a : ℕ) → text ≢ codes "0b" ++ binary n a) → NoWord (bit_vector n) text
no_bits text n h v wide s w = let c = of_bits n v s in go wide c.0 (subst (λ x. Word wide x text) c.1 w)
  where
    go : (wide : Bool) (a : ℕ) → Word wide (bits n a) text → ⊥
    go true a w = w
    go false a w = h a (w.1 ∙ bits_are n a)

-- elements
same_element : (text : List ℕ) (k a c : ℕ) (flag : Bool) → a < 2 ^ 64 → text ≡ codes "@" ++ decimal a → Word flag (element k c) text → (flag ≡ false) × (element k c ≡ element k a)
same_element text k a c true l e w = absurd w
same_element text k a c false l e w =
    (refl, ap (element k) (decimal_injective c a (ltb-true c (2 ^ 64) w.0) l (append_cancel_left (codes "@") (decimal c) (decimal a) (sym (w.1 ∙ element_is k c) ∙ e))))

pub element_word : (text : List ℕ) (k a : ℕ) → a < 2 ^ 64 → text ≡ codes "@" ++ decimal a → IsWord (uninterpreted k) text (element k a) false
element_word text k a l e = record {
  sorted = is_element k a;
  written = (lt-ltb a (2 ^ 64) l, e ∙ sym (element_is k a));
  only = λ w flag s p.
      let c = of_element k w s in
      let same = same_element text k a c.0 flag l e (subst (λ x. Word flag x text) c.1 p) in
      (same.0, λ narrow. c.1 ∙ same.1);
}

pub no_element : (text : List ℕ) (k : ℕ) → ((a : ℕ) → a < 2 ^ 64 → text ≢ codes "@" ++ decimal a) → NoWord (uninterpreted k) text
no_element text k h v wide s w = let c = of_element k v s in go wide c.0 (subst (λ x. Word wide x text) c.1 w)
  where
    go : (wide : Bool) (a : ℕ) → Word wide (element k a) text → ⊥
    go true a w = w
    go false a w = h a (ltb-true a (2 ^ 64) w.0) (w.1 ∙ element_is k a)

-- an element's number
whole_behind : (text digits : List ℕ) (a : ℕ) → text ≡ codes "@" ++ digits → a < 2 ^ 64 → text ≡ codes "@" ++ decimal a → IsWhole digits a
whole_behind text digits a e l f = subst (λ x. IsWhole x a) (append_cancel_left (codes "@") (decimal a) digits (sym f ∙ e)) (decimal_whole a (omega (arith, l)))

pub no_at_digits : (text digits : List ℕ) → text ≡ codes "@" ++ digits → NoWhole digits → (a : ℕ) → a < 2 ^ 64 → text ≢ codes "@" ++ decimal a
no_at_digits text digits e h a l f = h a (whole_behind text digits a e l f)

pub no_at_large : (text digits : List ℕ) (s : Size) → text ≡ codes "@" ++ digits → IsWholeOf digits s → ((m : ℕ) → s ≡ size.Small m → 2 ^ 64 ≤ m) → (a : ℕ) → a < 2 ^ 64 → text ≢ codes "@" ++ decimal a
no_at_large text digits (size.Small m) e w h a l f = omega (arith, l, h m refl, w.2.0, one_whole digits a w.0 (whole_behind text digits a e l f) w.1)
no_at_large text digits size.Past e w h a l f = omega (arith, l, w.2, one_whole digits a w.0 (whole_behind text digits a e l f) w.1)

pub at_number : (text digits : List ℕ) (s : Size) (m : ℕ) → text ≡ codes "@" ++ digits → IsWholeOf digits s → s ≡ size.Small m → text ≡ codes "@" ++ decimal m
at_number text digits s m e w is =
    let small = subst (IsSize' w.0) is w.2 in
    e ∙ ap (λ x. codes "@" ++ x) (whole_is_decimal digits w.0 w.1 (omega (arith, small.0, small.1)) ∙ ap decimal small.0)
  where
    IsSize' : ℕ → Size → Type 0
    IsSize' n s = IsSize s n

-- the word of each type
pub word_at : (s t : Sort) (v w : Value) (text : List ℕ) (wide : Bool) → t ≡ s → w ≡ v → IsWord s text v wide → IsWord t text w wide
word_at s t v w text wide e f h = subst (λ x. IsWord x text w wide) (sym e) (subst (λ x. IsWord s text x wide) (sym f) h)

pub no_word_at : (s t : Sort) (text : List ℕ) → t ≡ s → NoWord s text → NoWord t text
no_word_at s t text e h = subst (λ x. NoWord x text) (sym e) h

-- no mark stands in a word
no_mark : (c : ℕ) → 42 ≤ c → is_mark c ≡ false
no_mark c l = rw (ne_eqb c 32 (λ e. omega (arith, l, e)), ne_eqb c 40 (λ e. omega (arith, l, e)), ne_eqb c 41 (λ e. omega (arith, l, e))) refl

whole_free : (text : List ℕ) (n : ℕ) → IsWhole text n → is_free is_mark text ≡ true
whole_free text n w = free_digits is_mark (λ c l h. no_mark c (omega (arith, l))) text w.digits.1

bottom_free : (text : List ℕ) (n : ℕ) → IsBottom text n → is_free is_mark text ≡ true
bottom_free text n (inl h) = ap (is_free is_mark) h.0
bottom_free text n (inr h) = ap (is_free is_mark) h.1 ∙ whole_free h.0 n h.2

fraction_free : (n : Bool) (t b : ℕ) (text : List ℕ) → IsFraction n t b text → is_free is_mark text ≡ true
fraction_free n t b text f =
    ap (is_free is_mark) f.1
    ∙ free_append is_mark (cond n (codes "-") []) f.0 (sign_free n) (ap (is_free is_mark) f.2.parts ∙ free_append is_mark f.2.top_text f.2.bottom_text (whole_free f.2.top_text t f.2.top_is) (bottom_free f.2.bottom_text b f.2.bottom_is))
  where
    sign_free : (n : Bool) → is_free is_mark (cond n (codes "-") []) ≡ true
    sign_free true = refl
    sign_free false = refl

pub word_free : (v : Value) (wide : Bool) (text : List ℕ) → Word wide v text → is_free is_mark text ≡ true
unfolding value_text
word_free (truth true) false text w = ap (is_free is_mark) w.1
word_free (truth false) false text w = ap (is_free is_mark) w.1
word_free (truth b) true text w = absurd w
word_free (number q) false text w = fraction_free (negative_of q.num) _ q.den text (exact_fraction q text w)
word_free (number q) true text w = fraction_free w.negative w.top w.bottom text (fraction_of_wide text w)
word_free (bits n a) false text w = ap (is_free is_mark) w.1 ∙ free_append is_mark (codes "0b") (binary n a) refl (binary_free n a)
word_free (bits n a) true text w = absurd w
word_free (element k a) false text w =
    ap (is_free is_mark) w.1
    ∙ free_append is_mark (codes "@") (decimal a) refl (let small = ltb-true a (2 ^ 64) w.0 in whole_free (decimal a) a (decimal_whole a (omega (arith, small))))
word_free (element k a) true text w = absurd w
word_free (function es v) false text w = absurd (cc w.0)
word_free (function es v) true text w = absurd w

-- a word in front of a text
pub no_front : (s : Sort) (text : List ℕ) (at : ℕ) → IsEnd is_mark text at → NoWord s (take at text) → NoFront s text
no_front s text at end h word rest e stops v wide sorted w =
    h v wide sorted (subst (Word wide v) (split_at_end is_mark text at word rest end (word_free v wide word w) stops e).0 w)

-- a word in front of a text is one alone
pub record SameFront (v w : Value) (wide flag : Bool) (rest other : List ℕ) : Type 0 where
  pub flag_is : flag ≡ wide
  pub rest_is : other ≡ rest
  pub value_is : wide ≡ false → w ≡ v

pub one_front : (s : Sort) (text : List ℕ) (v : Value) (wide : Bool) (rest : List ℕ) (w : Value) (flag : Bool) (word other : List ℕ)
    → IsFront s text v wide rest → has_sort w s ≡ true → Word flag w word → text ≡ word ++ other → Stops is_mark other → SameFront v w wide flag rest other
one_front s text v wide rest w flag word other f sorted p e stops =
    let same = split_once is_mark word f.word other rest (word_free w flag word p) (word_free v wide f.word f.is.written) stops f.stops (sym e ∙ f.joined) in
    let only = f.is.only w flag sorted (subst (Word flag w) same.0 p) in
    record { flag_is = only.0; rest_is = same.1; value_is = only.1 }

-- sizes past 64 bits
pub size_large : (s : Size) (n : ℕ) → s ≡ size.Small n → 2 ^ 64 ≤ n → (m : ℕ) → s ≡ size.Small m → 2 ^ 64 ≤ m
size_large s n e l m f = omega (arith, l, ap (λ x. small_or x 0) (sym e ∙ f))
  where
    small_or : Size → ℕ → ℕ
    small_or (size.Small n) m = n
    small_or size.Past m = m

pub size_past : (s : Size) → s ≡ size.Past → (m : ℕ) → s ≡ size.Small m → 2 ^ 64 ≤ m
size_past s e m f = absurd (cc (sym e ∙ f))
