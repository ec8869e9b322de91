-- Whole texts of functions.
use Rattle.std.proofs.Common.{◌≡◌, ◌∙◌, ℕ, zero, suc, ◌-◌, ◌<◌, ◌≤◌, Bool, true, false, ◌&&◌, ◌||◌, List, [], ◌∷◌, ◌++◌, length, drop, get_or, refl, sym, ap, subst, arith, codes, append_assoc}
use Rattle.std.proofs.lemmas.Bool.{and_parts, and_from}
use Rattle.std.proofs.lemmas.List.{append_cancel_left, at_drop_all}
use Rattle.std.specs.Ordering.{is_lt}
use Rattle.y_tree.specs.declared.values.Entry as code_entry
use Rattle.y_tree.specs.Sorts.{Sort, Sorts, is_simple}
use Rattle.y_tree.specs.Sorts as sort
use Rattle.y_tree.specs.Values.{Value, Values, Entries, truth, number, bits, element, function, none, more, empty, entry, has_sort, have_sort}
use Rattle.y_tree.specs.Order.{order_keys, precedes, is_rising, is_formed}
use Rattle.value_texts.specs.Texts.{value_text, keys_text, spaced_text, entries_text}
use Rattle.value_texts.specs.Reading.{Word, SpacedKeys, Keys, WrittenEntries, WrittenFunction, Written, IsOfWiderForm, Refuses}
use Rattle.value_texts.specs.declared.errors.ValueError.{ValueError}
use Rattle.value_texts.specs.declared.errors.ValueError.TheVariants as refused
use Rattle.y_tree.specs.Plain.{plain_entry, plain_entries}
use Rattle.value_texts.specs.Pieces.{keys_of, IsWord, NoWord, IsRest, IsOnlyRest, NoRest, Fails}
use Rattle.value_texts.proofs.KeyTexts.{neither}

-- rising is a matter of the keys
abbrev before : Values → List Values → Bool
before k [] = true
before k (l ∷ ls) = is_lt (order_keys k l)

abbrev rising_keys : List Values → Bool
rising_keys [] = true
rising_keys (k ∷ ks) = before k ks && rising_keys ks

before_is : (k : Values) (es : Entries) → precedes k es ≡ before k (keys_of es)
before_is k empty = refl
before_is k (entry l v es) = refl

rising_is : (es : Entries) → is_rising es ≡ rising_keys (keys_of es)
unfolding is_rising
rising_is empty = refl
rising_is (entry k v es) = λ i. before_is k es i && rising_is es i

step_at : (es : List code_entry.Entry) (i : ℕ) (d e : code_entry.Entry) → suc i < length es
    → is_rising (plain_entries (drop i es)) ≡ (is_lt (order_keys (plain_entry (get_or es i d)).0 (plain_entry (get_or es (suc i) e)).0) && is_rising (plain_entries (drop (suc i) es)))
unfolding is_rising
step_at [] i d e l = absurd (omega (arith, l))
step_at (x ∷ []) i d e l = absurd (omega (arith, l))
step_at (x ∷ y ∷ es) zero d e l = refl
step_at (x ∷ y ∷ es) (suc i) d e l = step_at (y ∷ es) i d e (omega (arith, l))

pub rising_step : (es : List code_entry.Entry) (i : ℕ) (d e : code_entry.Entry) → 0 < i → i < length es
    → is_rising (plain_entries (drop (i - 1) es)) ≡ (is_lt (order_keys (plain_entry (get_or es (i - 1) d)).0 (plain_entry (get_or es i e)).0) && is_rising (plain_entries (drop i es)))
rising_step es zero d e p l = absurd (omega (arith, p))
rising_step es (suc i) d e p l =
    let back : i ≡ suc i - 1 = omega arith in
    subst (λ n. is_rising (plain_entries (drop n es)) ≡ (is_lt (order_keys (plain_entry (get_or es n d)).0 (plain_entry (get_or es (suc i) e)).0) && is_rising (plain_entries (drop (suc i) es)))) back (step_at es i d e l)

rising_last : (xs : List code_entry.Entry) (i : ℕ) → length xs ≤ suc i → is_rising (plain_entries (drop i xs)) ≡ true
unfolding is_rising
rising_last [] i l = at_drop_all (λ x. is_rising (plain_entries x)) [] i (omega arith)
rising_last (x ∷ []) zero l = refl
rising_last (x ∷ y ∷ xs) zero l = absurd (omega (arith, l))
rising_last (x ∷ xs) (suc i) l = rising_last xs i (omega (arith, l))

pub rising_end : (es : List code_entry.Entry) (i : ℕ) → length es ≤ i → is_rising (plain_entries (drop (i - 1) es)) ≡ true
rising_end es i l = rising_last es (i - 1) (omega (arith, l))

pub rising_more : (es : List code_entry.Entry) (i : ℕ) (d e : code_entry.Entry) (whole b : Bool) → 0 < i → i < length es → whole ≡ is_rising (plain_entries (drop (i - 1) es))
    → b ≡ is_lt (order_keys (plain_entry (get_or es (i - 1) d)).0 (plain_entry (get_or es i e)).0) → b ≡ true → whole ≡ is_rising (plain_entries (drop i es))
rising_more es i d e whole b p l w is h = w ∙ rising_step es i d e p l ∙ ap (λ x. x && is_rising (plain_entries (drop i es))) (sym is ∙ h)

pub rising_less : (es : List code_entry.Entry) (i : ℕ) (d e : code_entry.Entry) (whole b : Bool) → 0 < i → i < length es → whole ≡ is_rising (plain_entries (drop (i - 1) es))
    → b ≡ is_lt (order_keys (plain_entry (get_or es (i - 1) d)).0 (plain_entry (get_or es i e)).0) → b ≡ false → false ≡ whole
rising_less es i d e whole b p l w is h = sym (w ∙ rising_step es i d e p l ∙ ap (λ x. x && is_rising (plain_entries (drop i es))) (sym is ∙ h))

-- the texts where no number is past the bound
word_text : (v : Value) (wide : Bool) (text : List ℕ) → wide ≡ false → Word wide v text → text ≡ value_text v
word_text v false text e w = w.1
word_text v true text e w = absurd (cc e)

spaced_is : (vs : Values) (wide : Bool) (text : List ℕ) → wide ≡ false → SpacedKeys vs wide text → text ≡ spaced_text vs
unfolding SpacedKeys value_text
spaced_is none wide text e w = w.1
spaced_is (more v vs) wide text e w =
    let b = w.rest_is in
    let n = neither b.first_wide b.second_wide (sym b.either ∙ e) in
    w.joined ∙ ap (λ y. codes " " ++ y) (b.joined ∙ (λ i. word_text v b.first_wide b.first_text n.0 b.first i ++ spaced_is vs b.second_wide b.second_text n.1 b.second i))

keys_are : (vs : Values) (wide : Bool) (text : List ℕ) → wide ≡ false → Keys vs wide text → text ≡ keys_text vs
unfolding value_text
keys_are none wide text e w = w.1
keys_are (more v vs) wide text e w =
    let n = neither w.first_wide w.second_wide (sym w.either ∙ e) in
    w.joined ∙ (λ i. word_text v w.first_wide w.first_text n.0 w.first i ++ spaced_is vs w.second_wide w.second_text n.1 w.second i)

record Narrow (in_keys : Bool) (es : Entries) (text : List ℕ) : Type 0 where
  pub keys : in_keys ≡ false
  pub text_is : text ≡ entries_text es

grouped : (a k b v r : List ℕ) → a ++ (k ++ ((b ++ v) ++ r)) ≡ (((a ++ k) ++ b) ++ v) ++ r
grouped a k b v r = simp append_assoc

narrow_entries : (in_keys : Bool) (es : Entries) (wide : Bool) (text : List ℕ) → wide ≡ false → WrittenEntries in_keys es wide text → Narrow in_keys es text
unfolding WrittenEntries value_text
narrow_entries in_keys empty wide text e w = record { keys = w.0; text_is = w.1.1 }
narrow_entries in_keys (entry k v es) wide text e w =
    let line = w.3 in
    let keys = line.rest_is in
    let tail = keys.second in
    let n = neither keys.first_wide keys.second_wide (sym keys.either ∙ e) in
    let m = neither tail.first_wide tail.second_wide (sym tail.either ∙ n.1) in
    let rest = narrow_entries w.1 es tail.second_wide tail.second_text m.1 tail.second in
    record {
      keys = w.2 ∙ (λ i. (sym keys.first.0 ∙ n.0) i || rest.keys i);
      text_is =
          line.joined ∙ ap (λ y. codes " (" ++ y) (keys.joined ∙ (λ i. keys_are k keys.first_wide keys.first_text n.0 keys.first.1 i ++ tail.joined i)
          ∙ (λ i. keys_text k ++ ((tail.first.joined ∙ ap (λ y. codes ") " ++ y) (word_text v tail.first_wide tail.first.rest m.0 tail.first.rest_is)) i ++ rest.text_is i)))
          ∙ grouped (codes " (") (keys_text k) (codes ") ") (value_text v) (entries_text es);
    }

pub narrow_keys : (domain : Sorts) (range : Sort) (text : List ℕ) (es : Entries) (v : Value) (in_keys : Bool) → IsRest domain range text es v in_keys false → in_keys ≡ false
narrow_keys domain range text es v in_keys r =
    let w = r.written in
    (narrow_entries in_keys es w.first_wide w.first_text (neither w.first_wide w.second_wide (sym w.either)).0 w.first).keys

ended : (a e d v : List ℕ) → a ++ (e ++ (d ++ (v ++ codes ")"))) ≡ (((a ++ e) ++ d) ++ v) ++ codes ")"
ended a e d v = simp append_assoc

pub narrow_text : (domain : Sorts) (range : Sort) (whole text : List ℕ) (es : Entries) (v : Value) (in_keys : Bool) → whole ≡ codes "(function" ++ text → IsRest domain range text es v in_keys false → value_text (function es v) ≡ whole
unfolding value_text
narrow_text domain range whole text es v in_keys e r =
    let w = r.written in
    let n = neither w.first_wide w.second_wide (sym w.either) in
    let d = w.second.rest_is in
    let m = neither d.first_wide d.second_wide (sym d.either ∙ n.1) in
    let entries = narrow_entries in_keys es w.first_wide w.first_text n.0 w.first in
    sym (e ∙ ap (λ y. codes "(function" ++ y)
    (w.joined ∙ (λ i. entries.text_is i ++ (w.second.joined ∙ ap (λ y. codes " default " ++ y) (d.joined ∙ (λ j. word_text v d.first_wide d.first_text m.0 d.first j ++ d.second.1 j))) i))
    ∙ ended (codes "(function") (entries_text es) (codes " default ") (value_text v))

-- why a text is no function, and that it is one
function_written : (domain : Sorts) (range : Sort) (whole : List ℕ) (wide : Bool) → IsOfWiderForm (sort.function domain range) wide whole
    → (es : Entries) × (v : Value) × (have_sort es domain range ≡ true) × (has_sort v range ≡ true) × WrittenFunction es v wide whole
unfolding has_sort
function_written domain range whole wide f = go f.value f.sorted f.written
  where
    go : (value : Value) → has_sort value (sort.function domain range) ≡ true → Written value wide whole
        → (es : Entries) × (v : Value) × (have_sort es domain range ≡ true) × (has_sort v range ≡ true) × WrittenFunction es v wide whole
    go (truth b) s w = absurd (cc s)
    go (number q) s w = absurd (cc s)
    go (bits n a) s w = absurd (cc s)
    go (element k a) s w = absurd (cc s)
    go (function es v) s w = (es, v, (and_parts _ _ s).0, (and_parts _ _ s).1, w)

pub no_function_front : (domain : Sorts) (range : Sort) (whole : List ℕ) → ((rest : List ℕ) → whole ≡ codes "(function" ++ rest → ⊥) → Refuses (sort.function domain range) whole refused.BadText
no_function_front domain range whole h wide f = let w = function_written domain range whole wide f in h w.4.written.rest w.4.written.joined

rest_of : (domain : Sorts) (range : Sort) (whole text : List ℕ) (wide : Bool) (es : Entries) (v : Value) → whole ≡ codes "(function" ++ text → have_sort es domain range ≡ true → has_sort v range ≡ true → (w : WrittenFunction es v wide whole)
    → IsRest domain range text es v w.in_keys wide
rest_of domain range whole text wide es v e s t w =
    subst (λ x. IsRest domain range x es v w.in_keys wide) (append_cancel_left (codes "(function") w.written.rest text (sym w.written.joined ∙ e))
    (record { entries_sorted = s; sorted = t; written = w.written.rest_is })

pub no_function_rest : (domain : Sorts) (range : Sort) (whole text : List ℕ) → whole ≡ codes "(function" ++ text → NoRest domain range text → Refuses (sort.function domain range) whole refused.BadText
no_function_rest domain range whole text e h wide f =
    let w = function_written domain range whole wide f in h w.0 w.1 w.4.in_keys wide (rest_of domain range whole text wide w.0 w.1 e w.2 w.3 w.4)

pub no_function_order : (domain : Sorts) (range : Sort) (whole text : List ℕ) (es : Entries) (v : Value) (in_keys flag : Bool) → whole ≡ codes "(function" ++ text → IsOnlyRest domain range text es v in_keys flag
    → in_keys ≡ false → is_rising es ≡ false → Refuses (sort.function domain range) whole refused.BadText
no_function_order domain range whole text es v in_keys flag e only narrow order wide f =
    let w = function_written domain range whole wide f in
    let same = only.only w.0 w.1 w.4.in_keys wide (rest_of domain range whole text wide w.0 w.1 e w.2 w.3 w.4) in
    cc (sym (w.4.rising (same.0 ∙ narrow)) ∙ rising_is w.0 ∙ ap rising_keys (same.2 narrow) ∙ sym (rising_is es) ∙ order)

pub function_wide : (domain : Sorts) (range : Sort) (whole text : List ℕ) (es : Entries) (v : Value) (in_keys : Bool) → whole ≡ codes "(function" ++ text → IsOnlyRest domain range text es v in_keys true
    → (in_keys ≡ false → is_rising es ≡ true) → Refuses (sort.function domain range) whole refused.Wide
unfolding has_sort
function_wide domain range whole text es v in_keys e only order = record {
  value = function es v;
  sorted = and_from _ _ only.is.entries_sorted only.is.sorted;
  written = record { in_keys = in_keys; written = record { rest = text; rest_is = only.is.written; joined = e }; rising = order };
}

pub function_sorted : (domain : Sorts) (range : Sort) (text : List ℕ) (es : Entries) (v : Value) (in_keys wide : Bool) → IsRest domain range text es v in_keys wide → has_sort (function es v) (sort.function domain range) ≡ true
unfolding has_sort
function_sorted domain range text es v in_keys wide r = and_from _ _ r.entries_sorted r.sorted

-- words as whole texts
no_simple_function : (s : Sort) (es : Entries) (x : Value) → is_simple s ≡ true → has_sort (function es x) s ≡ true → ⊥
unfolding has_sort
no_simple_function sort.boolean es x p h = cc h
no_simple_function sort.real es x p h = cc h
no_simple_function (sort.bit_vector n) es x p h = cc h
no_simple_function (sort.uninterpreted k) es x p h = cc h
no_simple_function (sort.function domain range) es x p h = cc p

pub no_simple : (s : Sort) (text : List ℕ) → is_simple s ≡ true → NoWord s text → Refuses s text refused.BadText
no_simple s text simple h wide f = go f.value f.sorted f.written
  where
    go : (value : Value) → has_sort value s ≡ true → Written value wide text → ⊥
    go (truth b) p w = h (truth b) wide p w
    go (number q) p w = h (number q) wide p w
    go (bits n a) p w = h (bits n a) wide p w
    go (element k a) p w = h (element k a) wide p w
    go (function es x) p w = no_simple_function s es x simple p

-- a reason carried up
pub fails_of : {P Q : Type 0} (e : ValueError) → (P → Q) → Fails P e → Fails Q e
fails_of refused.BadText f h = f h
fails_of refused.Wide f h = h
fails_of refused.NoMemory f h = tt

pub refuses_of : {P : Type 0} (s : Sort) (text : List ℕ) (e : ValueError) → (P → Refuses s text refused.BadText) → Fails P e → Refuses s text e
refuses_of s text refused.BadText f h = f h
refuses_of s text refused.Wide f h = absurd h
refuses_of s text refused.NoMemory f h = tt

-- the function that was read
pub function_read : (domain : Sorts) (range : Sort) (whole text : List ℕ) (f : Value) (es : Entries) (v : Value) (in_keys wide : Bool) → whole ≡ codes "(function" ++ text → IsOnlyRest domain range text es v in_keys wide → wide ≡ false
    → (in_keys ≡ false → is_rising es ≡ true) → f ≡ function es v → (has_sort f (sort.function domain range) ≡ true) × (is_formed f ≡ true) × (value_text f ≡ whole)
function_read domain range whole text f es v in_keys wide e only narrow order is =
    let rest = subst (IsRest domain range text es v in_keys) narrow only.is in (
      ap (λ x. has_sort x (sort.function domain range)) is ∙ function_sorted domain range text es v in_keys false rest,
      ap is_formed is ∙ order (narrow_keys domain range text es v in_keys rest),
      ap value_text is ∙ narrow_text domain range whole text es v in_keys e rest,
    )

pub function_past : (domain : Sorts) (range : Sort) (whole text : List ℕ) (es : Entries) (v : Value) (in_keys wide : Bool) → whole ≡ codes "(function" ++ text → IsOnlyRest domain range text es v in_keys wide → wide ≡ true
    → (in_keys ≡ false → is_rising es ≡ true) → Refuses (sort.function domain range) whole refused.Wide
function_past domain range whole text es v in_keys wide e only far order =
    function_wide domain range whole text es v in_keys e (subst (IsOnlyRest domain range text es v in_keys) far only) order

pub read_as : (s t : Sort) (f v : Value) (text : List ℕ) → s ≡ t → v ≡ f → (has_sort f t ≡ true) × (is_formed f ≡ true) × (value_text f ≡ text) → (has_sort v s ≡ true) × (is_formed v ≡ true) × (value_text v ≡ text)
read_as s t f v text d e h = ((λ i. has_sort (e i) (d i)) ∙ h.0, ap is_formed e ∙ h.1, ap value_text e ∙ h.2)

-- no number is past the bound in what was read
pub function_within : (domain : Sorts) (range : Sort) (whole text : List ℕ) (es : Entries) (v : Value) (in_keys flag : Bool) → whole ≡ codes "(function" ++ text → IsOnlyRest domain range text es v in_keys flag → flag ≡ false
    → IsOfWiderForm (sort.function domain range) true whole → ⊥
function_within domain range whole text es v in_keys flag e only narrow f =
    let w = function_written domain range whole true f in
    let same = only.only w.0 w.1 w.4.in_keys true (rest_of domain range whole text true w.0 w.1 e w.2 w.3 w.4) in
    cc (same.1 ∙ narrow)

pub simple_within : (s : Sort) (text : List ℕ) (v : Value) (flag : Bool) → is_simple s ≡ true → IsWord s text v flag → flag ≡ false → IsOfWiderForm s true text → ⊥
simple_within s text v flag simple only narrow f = go f.value f.sorted f.written
  where
    go : (w : Value) → has_sort w s ≡ true → Written w true text → ⊥
    go (truth b) p w = w
    go (number q) p w = cc ((only.only (number q) true p w).0 ∙ narrow)
    go (bits n a) p w = w
    go (element k a) p w = w
    go (function es x) p w = no_simple_function s es x simple p
