-- Keys in a text: word by word.
use Rattle.std.proofs.Common.{◌≡◌, ◌∙◌, ℕ, zero, suc, ◌+◌, ◌-◌, ◌<◌, ◌≤◌, Bool, true, false, ◌||◌, List, [], ◌∷◌, ◌++◌, length, drop, get_or, refl, sym, ap, subst, arith, codes, append_assoc, length-append, leb-true}
use Rattle.std.proofs.lemmas.Bool.{and_parts, and_from}
use Rattle.std.proofs.lemmas.List.{append_cancel_left, at_drop_more, at_drop_all, drop_at}
use Rattle.y_tree.specs.declared.sorts.Sort as code_sort
use Rattle.y_tree.specs.declared.values.Value as code_value
use Rattle.y_tree.specs.Sorts.{Sort, Sorts, is_simple, are_simple, is_sort, count}
use Rattle.y_tree.specs.Sorts as sort
use Rattle.y_tree.specs.Values.{Value, Values, none, more, has_sort}
use Rattle.y_tree.specs.Plain.{plain_sort, plain_sorts, plain_value, plain_values}
use Rattle.value_texts.specs.Reading.{Word, SpacedKeys}
use Rattle.value_texts.specs.Pieces.{is_mark, Stops, IsFront, NoFront, IsNext, AreSpaced, AreKeys, OnlyKeys, NoKeys, append_values}
use Rattle.value_texts.proofs.Splitting.{tails}
use Rattle.value_texts.proofs.WordForms.{one_front}

pub neither : (a b : Bool) → (a || b) ≡ false → (a ≡ false) × (b ≡ false)
neither true b e = absurd (cc e)
neither false b e = (refl, e)

pub or_assoc : (a b c : Bool) → ((a || b) || c) ≡ (a || (b || c))
or_assoc true b c = refl
or_assoc false b c = refl

pub or_false : (a : Bool) → (a || false) ≡ a
or_false true = refl
or_false false = refl

-- behind keys there is a mark
spaced_stops : (vs : Values) (wide : Bool) (keys rest : List ℕ) → SpacedKeys vs wide keys → Stops is_mark (keys ++ (codes ") " ++ rest))
unfolding SpacedKeys
spaced_stops none wide keys rest h = subst (λ x. Stops is_mark (x ++ (codes ") " ++ rest))) (sym h.1) refl
spaced_stops (more v vs) wide keys rest h = subst (λ x. Stops is_mark (x ++ (codes ") " ++ rest))) (sym h.joined) refl

-- the first key of some, and the rest
record FirstKey (s : Sort) (ss : Sorts) (text : List ℕ) (vs : Values) (wide : Bool) (other : List ℕ) : Type 0 where
  pub key : Value
  pub others : Values
  pub key_wide : Bool
  pub rest_wide : Bool
  pub word : List ℕ
  pub rest : List ℕ
  pub vs_is : vs ≡ more key others
  pub sorted : has_sort key s ≡ true
  pub written : Word key_wide key word
  pub text_is : text ≡ word ++ rest
  pub stops : Stops is_mark rest
  pub others_are : AreSpaced ss rest others rest_wide other
  pub wide_is : wide ≡ (key_wide || rest_wide)

first_key : (s : Sort) (ss : Sorts) (text : List ℕ) (vs : Values) (wide : Bool) (other : List ℕ) → AreKeys (sort.more s ss) text vs wide other → FirstKey s ss text vs wide other
unfolding has_sort
first_key s ss text none wide other a = absurd (cc a.sorted)
first_key s ss text (more v vs) wide other a =
    let w = a.written in
    record {
      key = v;
      others = vs;
      key_wide = w.first_wide;
      rest_wide = w.second_wide;
      word = w.first_text;
      rest = w.second_text ++ (codes ") " ++ other);
      vs_is = refl;
      sorted = (and_parts _ _ a.sorted).0;
      written = w.first;
      text_is = a.joined ∙ ap (λ x. x ++ (codes ") " ++ other)) w.joined ∙ append_assoc w.first_text w.second_text (codes ") " ++ other);
      stops = spaced_stops vs w.second_wide w.second_text other w.second;
      others_are = record { keys = w.second_text; sorted = (and_parts _ _ a.sorted).1; written = w.second; joined = refl };
      wide_is = w.either;
    }

keys_written : (s : Sort) (ss : Sorts) (text : List ℕ) (v : Value) (w : Bool) (rest : List ℕ) (vs : Values) (wide : Bool) (r : List ℕ)
    → IsFront s text v w rest → AreSpaced ss rest vs wide r → AreKeys (sort.more s ss) text (more v vs) (w || wide) r
unfolding has_sort
keys_written s ss text v w rest vs wide r f h = record {
  keys = f.word ++ h.keys;
  sorted = and_from _ _ f.is.sorted h.sorted;
  written = record { first_wide = w; second_wide = wide; first_text = f.word; second_text = h.keys; first = f.is.written; second = h.written; either = refl; joined = refl };
  joined = f.joined ∙ ap (λ x. f.word ++ x) h.joined ∙ sym (append_assoc f.word h.keys (codes ") " ++ r));
}

keys_step : (s : Sort) (ss : Sorts) (text : List ℕ) (v : Value) (w : Bool) (rest : List ℕ) (vs : Values) (wide : Bool) (r : List ℕ)
    → IsFront s text v w rest → OnlyKeys (AreSpaced ss rest) vs wide r → OnlyKeys (AreKeys (sort.more s ss) text) (more v vs) (w || wide) r
keys_step s ss text v w rest vs wide r f h = (
  keys_written s ss text v w rest vs wide r f h.0,
  λ ws flag other a.
      let k = first_key s ss text ws flag other a in
      let front = one_front s text v w rest k.key k.key_wide k.word k.rest f k.sorted k.written k.text_is k.stops in
      let tail = h.1 k.others k.rest_wide other (subst (λ x. AreSpaced ss x k.others k.rest_wide other) front.rest_is k.others_are) in
      (k.wide_is ∙ (λ i. front.flag_is i || tail.0 i), tail.1, λ narrow. let n = neither w wide narrow in k.vs_is ∙ (λ i. more (front.value_is n.0 i) (tail.2 n.1 i))),
)

keys_bad : (s : Sort) (ss : Sorts) (text : List ℕ) (v : Value) (w : Bool) (rest : List ℕ) → IsFront s text v w rest → NoKeys (AreSpaced ss rest) → NoKeys (AreKeys (sort.more s ss) text)
keys_bad s ss text v w rest f h ws flag other a =
    let k = first_key s ss text ws flag other a in
    let front = one_front s text v w rest k.key k.key_wide k.word k.rest f k.sorted k.written k.text_is k.stops in
    h k.others k.rest_wide other (subst (λ x. AreSpaced ss x k.others k.rest_wide other) front.rest_is k.others_are)

keys_missing : (s : Sort) (ss : Sorts) (text : List ℕ) → NoFront s text → NoKeys (AreKeys (sort.more s ss) text)
keys_missing s ss text h ws flag other a =
    let k = first_key s ss text ws flag other a in
    h k.word k.rest k.text_is k.stops k.key k.key_wide k.sorted k.written

-- keys behind a space
spaced_keys : (s : Sort) (ss : Sorts) (text inner : List ℕ) (vs : Values) (wide : Bool) (r : List ℕ) → text ≡ codes " " ++ inner → AreKeys (sort.more s ss) inner vs wide r → AreSpaced (sort.more s ss) text vs wide r
unfolding SpacedKeys has_sort
spaced_keys s ss text inner none wide r e a = absurd (cc a.sorted)
spaced_keys s ss text inner (more v vs) wide r e a = record {
  keys = codes " " ++ a.keys;
  sorted = a.sorted;
  written = record { rest = a.keys; rest_is = a.written; joined = refl };
  joined = e ∙ ap (λ x. codes " " ++ x) a.joined;
}

record Spaced (s : Sort) (ss : Sorts) (text : List ℕ) (vs : Values) (wide : Bool) (r : List ℕ) : Type 0 where
  pub inner : List ℕ
  pub text_is : text ≡ codes " " ++ inner
  pub are : AreKeys (sort.more s ss) inner vs wide r

keys_spaced : (s : Sort) (ss : Sorts) (text : List ℕ) (vs : Values) (wide : Bool) (r : List ℕ) → AreSpaced (sort.more s ss) text vs wide r → Spaced s ss text vs wide r
unfolding SpacedKeys has_sort
keys_spaced s ss text none wide r a = absurd (cc a.sorted)
keys_spaced s ss text (more v vs) wide r a = record {
  inner = a.written.rest ++ (codes ") " ++ r);
  text_is = a.joined ∙ ap (λ x. x ++ (codes ") " ++ r)) a.written.joined;
  are = record { keys = a.written.rest; sorted = a.sorted; written = a.written.rest_is; joined = refl };
}

spaced_only : (s : Sort) (ss : Sorts) (text inner : List ℕ) (vs : Values) (wide : Bool) (r : List ℕ) → text ≡ codes " " ++ inner → OnlyKeys (AreKeys (sort.more s ss) inner) vs wide r → OnlyKeys (AreSpaced (sort.more s ss) text) vs wide r
spaced_only s ss text inner vs wide r e h = (
  spaced_keys s ss text inner vs wide r e h.0,
  λ ws flag other a.
      let k = keys_spaced s ss text ws flag other a in h.1 ws flag other (subst (λ x. AreKeys (sort.more s ss) x ws flag other) (tails 32 32 k.inner inner (sym k.text_is ∙ e)) k.are),
)

spaced_bad : (s : Sort) (ss : Sorts) (text inner : List ℕ) → text ≡ codes " " ++ inner → NoKeys (AreKeys (sort.more s ss) inner) → NoKeys (AreSpaced (sort.more s ss) text)
spaced_bad s ss text inner e h ws flag other a =
    let k = keys_spaced s ss text ws flag other a in
    h ws flag other (subst (λ x. AreKeys (sort.more s ss) x ws flag other) (tails 32 32 k.inner inner (sym k.text_is ∙ e)) k.are)

spaced_missing : (s : Sort) (ss : Sorts) (text : List ℕ) → ((inner : List ℕ) → text ≡ codes " " ++ inner → NoFront s inner) → NoKeys (AreSpaced (sort.more s ss) text)
spaced_missing s ss text h ws flag other a =
    let k = keys_spaced s ss text ws flag other a in
    keys_missing s ss k.inner (h k.inner k.text_is) ws flag other k.are

-- the end of the keys
spaced_end : (text r : List ℕ) → text ≡ codes ") " ++ r → OnlyKeys (AreSpaced sort.none text) none false r
unfolding SpacedKeys has_sort
spaced_end text r e = (record { keys = []; sorted = refl; written = (refl, refl); joined = e }, other_keys)
  where
    other_keys : (ws : Values) (flag : Bool) (other : List ℕ) → AreSpaced sort.none text ws flag other → (flag ≡ false) × (other ≡ r) × (false ≡ false → ws ≡ none)
    other_keys none flag other a = (a.written.0, append_cancel_left (codes ") ") other r (sym (a.joined ∙ ap (λ x. x ++ (codes ") " ++ other)) a.written.1) ∙ e), λ n. refl)
    other_keys (more v vs) flag other a = absurd (cc a.sorted)

spaced_unclosed : (text : List ℕ) → ((r : List ℕ) → text ≡ codes ") " ++ r → ⊥) → NoKeys (AreSpaced sort.none text)
unfolding SpacedKeys has_sort
spaced_unclosed text h none flag other a = h other (a.joined ∙ ap (λ x. x ++ (codes ") " ++ other)) a.written.1)
spaced_unclosed text h (more v vs) flag other a = absurd (cc a.sorted)

-- the loop over keys: what was read, and what is left for the rest of the types
append_none : (vs : Values) → append_values vs none ≡ vs
append_none none = refl
append_none (more v vs) = ap (more v) (append_none vs)

append_push : (ks : List code_value.Value) (v : code_value.Value) (vs : Values) → append_values (plain_values (ks ++ v ∷ [])) vs ≡ append_values (plain_values ks) (more (plain_value v) vs)
append_push [] v vs = refl
append_push (k ∷ ks) v vs = ap (more (plain_value k)) (append_push ks v vs)

pub record KeysSoFar (domain : List code_sort.Sort) (i : ℕ) (text rest : List ℕ) (keys : List code_value.Value) (wide : Bool) : Type 0 where
  pub good : (vs : Values) (flag : Bool) (r : List ℕ) → OnlyKeys (AreSpaced (plain_sorts (drop i domain)) rest) vs flag r → OnlyKeys (AreKeys (plain_sorts domain) text) (append_values (plain_values keys) vs) (wide || flag) r
  pub bad : NoKeys (AreSpaced (plain_sorts (drop i domain)) rest) → NoKeys (AreKeys (plain_sorts domain) text)

first_sort : (domain : List code_sort.Sort) (d : code_sort.Sort) → 0 < length domain → plain_sorts domain ≡ sort.more (plain_sort (get_or domain 0 d)) (plain_sorts (drop 1 domain))
first_sort [] d l = absurd (omega (arith, l))
first_sort (s ∷ domain) d l = refl

pub keys_start : (domain : List code_sort.Sort) (d : code_sort.Sort) (text next : List ℕ) (v : code_value.Value) (w : Bool) → 0 < length domain → IsFront (plain_sort (get_or domain 0 d)) text (plain_value v) w next → KeysSoFar domain 1 text next (v ∷ []) w
keys_start domain d text next v w l f =
    let s = plain_sort (get_or domain 0 d) in
    let ss = plain_sorts (drop 1 domain) in
    record {
      good = λ vs flag r h. subst (λ x. OnlyKeys (AreKeys x text) (more (plain_value v) vs) (w || flag) r) (sym (first_sort domain d l)) (keys_step s ss text (plain_value v) w next vs flag r f h);
      bad = λ h. subst (λ x. NoKeys (AreKeys x text)) (sym (first_sort domain d l)) (keys_bad s ss text (plain_value v) w next f h);
    }

pub keys_no_start : (domain : List code_sort.Sort) (d : code_sort.Sort) (text : List ℕ) → 0 < length domain → NoFront (plain_sort (get_or domain 0 d)) text → NoKeys (AreKeys (plain_sorts domain) text)
keys_no_start domain d text l h =
    subst (λ x. NoKeys (AreKeys x text)) (sym (first_sort domain d l)) (keys_missing (plain_sort (get_or domain 0 d)) (plain_sorts (drop 1 domain)) text h)

pub keys_more : (domain : List code_sort.Sort) (i : ℕ) (d : code_sort.Sort) (text rest next : List ℕ) (keys : List code_value.Value) (wide : Bool) (v : code_value.Value) (w : Bool)
    → i < length domain → KeysSoFar domain i text rest keys wide → IsNext (plain_sort (get_or domain i d)) rest (plain_value v) w next → KeysSoFar domain (i + 1) text next (keys ++ v ∷ []) (wide || w)
keys_more domain i d text rest next keys wide v w l so n =
    let s = plain_sort (get_or domain i d) in
    let ss = plain_sorts (drop (i + 1) domain) in
    let split : plain_sorts (drop i domain) ≡ sort.more s ss = at_drop_more plain_sorts domain i d l in
    record {
      good = λ vs flag r h.
          let step = spaced_only s ss rest n.inner (more (plain_value v) vs) (w || flag) r n.text_is (keys_step s ss n.inner (plain_value v) w next vs flag r n.front h) in
          let all = so.good (more (plain_value v) vs) (w || flag) r (subst (λ x. OnlyKeys (AreSpaced x rest) (more (plain_value v) vs) (w || flag) r) (sym split) step) in
          subst (λ x. OnlyKeys (AreKeys (plain_sorts domain) text) x ((wide || w) || flag) r) (sym (append_push keys v vs))
          (subst (λ b. OnlyKeys (AreKeys (plain_sorts domain) text) (append_values (plain_values keys) (more (plain_value v) vs)) b r) (sym (or_assoc wide w flag)) all);
      bad = λ h.
          so.bad (subst (λ x. NoKeys (AreSpaced x rest)) (sym split) (spaced_bad s ss rest n.inner n.text_is (keys_bad s ss n.inner (plain_value v) w next n.front h)));
    }

pub keys_stop : (domain : List code_sort.Sort) (i : ℕ) (d : code_sort.Sort) (text rest : List ℕ) (keys : List code_value.Value) (wide : Bool)
    → i < length domain → KeysSoFar domain i text rest keys wide → ((inner : List ℕ) → rest ≡ codes " " ++ inner → NoFront (plain_sort (get_or domain i d)) inner) → NoKeys (AreKeys (plain_sorts domain) text)
keys_stop domain i d text rest keys wide l so h =
    let split = at_drop_more plain_sorts domain i d l in
    so.bad (subst (λ x. NoKeys (AreSpaced x rest)) (sym split) (spaced_missing (plain_sort (get_or domain i d)) (plain_sorts (drop (i + 1) domain)) rest h))

keys_all : (domain : List code_sort.Sort) (i : ℕ) (text rest r : List ℕ) (keys : List code_value.Value) (wide : Bool)
    → length domain ≤ i → KeysSoFar domain i text rest keys wide → rest ≡ codes ") " ++ r → OnlyKeys (AreKeys (plain_sorts domain) text) (plain_values keys) wide r
keys_all domain i text rest r keys wide l so e =
    let all = so.good none false r (subst (λ x. OnlyKeys (AreSpaced x rest) none false r) (sym (at_drop_all plain_sorts domain i l)) (spaced_end rest r e)) in
    subst (λ x. OnlyKeys (AreKeys (plain_sorts domain) text) x wide r) (append_none (plain_values keys))
    (subst (λ b. OnlyKeys (AreKeys (plain_sorts domain) text) (append_values (plain_values keys) none) b r) (or_false wide) all)

-- what is behind the front, by its length
suffix_length : (text front r : List ℕ) → text ≡ front ++ r → length r ≤ length text
suffix_length text front r e = omega (arith, ap length e, length-append front r)

suffix_is : (text front r : List ℕ) → text ≡ front ++ r → drop (length text - length r) text ≡ r
suffix_is text front r e =
    ap (drop (length text - length r)) e ∙ drop_at front r (length text - length r) (omega (arith, ap length e, length-append front r))

pub keys_short : (domain : List code_sort.Sort) (i : ℕ) (text rest r : List ℕ) (keys : List code_value.Value) (wide : Bool)
    → length domain ≤ i → KeysSoFar domain i text rest keys wide → rest ≡ codes ") " ++ r → length r ≤ length text
keys_short domain i text rest r keys wide l so e =
    let a = (keys_all domain i text rest r keys wide l so e).0 in
    suffix_length text (a.keys ++ codes ") ") r (a.joined ∙ sym (append_assoc a.keys (codes ") ") r))

pub keys_done : (domain : List code_sort.Sort) (i : ℕ) (text rest r : List ℕ) (keys : List code_value.Value) (wide : Bool)
    → length domain ≤ i → KeysSoFar domain i text rest keys wide → rest ≡ codes ") " ++ r → OnlyKeys (AreKeys (plain_sorts domain) text) (plain_values keys) wide (drop (length text - length r) text)
keys_done domain i text rest r keys wide l so e =
    let all = keys_all domain i text rest r keys wide l so e in
    let a = all.0 in
    subst (λ x. OnlyKeys (AreKeys (plain_sorts domain) text) (plain_values keys) wide x) (sym (suffix_is text (a.keys ++ codes ") ") r (a.joined ∙ sym (append_assoc a.keys (codes ") ") r)))) all

pub keys_unclosed : (domain : List code_sort.Sort) (i : ℕ) (text rest : List ℕ) (keys : List code_value.Value) (wide : Bool)
    → length domain ≤ i → KeysSoFar domain i text rest keys wide → ((r : List ℕ) → rest ≡ codes ") " ++ r → ⊥) → NoKeys (AreKeys (plain_sorts domain) text)
keys_unclosed domain i text rest keys wide l so h =
    so.bad (subst (λ x. NoKeys (AreSpaced x rest)) (sym (at_drop_all plain_sorts domain i l)) (spaced_unclosed rest h))

-- the types of keys are simple
pub simple_at : (domain : List code_sort.Sort) (i : ℕ) (d : code_sort.Sort) → i < length domain → are_simple (plain_sorts domain) ≡ true → is_simple (plain_sort (get_or domain i d)) ≡ true
unfolding are_simple
simple_at [] i d l h = absurd (omega (arith, l))
simple_at (s ∷ domain) zero d l h = (and_parts _ _ h).0
simple_at (s ∷ domain) (suc i) d l h = simple_at domain i d (omega (arith, l)) (and_parts _ _ h).1

pub count_is : (domain : List code_sort.Sort) → count (plain_sorts domain) ≡ length domain
unfolding count
count_is [] = refl
count_is (s ∷ domain) = omega (arith, count_is domain)

pub some_arguments : (domain : List code_sort.Sort) (s : Sort) → is_sort (sort.function (plain_sorts domain) s) ≡ true → 0 < length domain
some_arguments domain s h =
    let first = (and_parts _ _ (and_parts _ _ (and_parts _ _ h).0).0).0 in
    let least : 1 ≤ count (plain_sorts domain) = leb-true 1 (count (plain_sorts domain)) first in
    omega (arith, count_is domain, least)
