-- Entries and the value elsewhere in a text.
use Rattle.std.proofs.Common.{◌≡◌, ◌∙◌, ℕ, Bool, true, false, ◌&&◌, ◌||◌, List, [], ◌∷◌, ◌++◌, refl, sym, ap, subst, arith, codes, append_assoc}
use Rattle.std.proofs.lemmas.Bool.{and_parts, and_from}
use Rattle.std.proofs.lemmas.List.{append_cancel_left}
use Rattle.y_tree.specs.declared.values.Entry as code_entry
use Rattle.y_tree.specs.Sorts.{Sort, Sorts}
use Rattle.y_tree.specs.Values.{Value, Values, Entries, empty, entry, has_sort, have_sorts, have_sort}
use Rattle.value_texts.specs.Reading.{Word, Keys, WrittenEntries}
use Rattle.y_tree.specs.Plain.{plain_entry, plain_entries}
use Rattle.value_texts.specs.Pieces.{is_mark, Stops, IsFront, NoFront, AreKeys, OnlyKeys, NoKeys, keys_of, IsRest, IsOnlyRest, NoRest, IsLine, append_entries}
use Rattle.value_texts.proofs.Splitting.{head_or, behind}
use Rattle.value_texts.proofs.WordForms.{one_front}
use Rattle.value_texts.proofs.KeyTexts.{neither, or_assoc, or_false}

second : List ℕ → ℕ
second cs = head_or (behind cs)

-- behind an entry's value there is a mark
rest_stops : (domain : Sorts) (range : Sort) (text : List ℕ) (es : Entries) (v : Value) (in_keys wide : Bool) → IsRest domain range text es v in_keys wide → Stops is_mark text
unfolding WrittenEntries
rest_stops domain range text empty v in_keys wide r =
    let w = r.written in subst (Stops is_mark) (sym (w.joined ∙ (λ i. w.first.1.1 i ++ w.second.joined i))) refl
rest_stops domain range text (entry k x es) v in_keys wide r =
    let w = r.written in subst (Stops is_mark) (sym (w.joined ∙ ap (λ y. y ++ w.second_text) w.first.3.joined)) refl

-- an entry's parts, grouped from the left and from the right
regroup : (a x e s : List ℕ) → (a ++ ((codes ") " ++ x) ++ e)) ++ s ≡ a ++ (codes ") " ++ (x ++ (e ++ s)))
regroup a x e s = append_assoc a ((codes ") " ++ x) ++ e) s ∙ ap (λ y. a ++ (codes ") " ++ y)) (append_assoc x e s)

-- the first entry of some, and what stands behind it
record FirstEntry (domain : Sorts) (range : Sort) (text : List ℕ) (es : Entries) (v : Value) (in_keys wide : Bool) : Type 0 where
  pub key : Values
  pub value : Value
  pub others : Entries
  pub key_wide : Bool
  pub rest_keys : Bool
  pub value_wide : Bool
  pub rest_wide : Bool
  pub middle : List ℕ
  pub word : List ℕ
  pub rest : List ℕ
  pub es_is : es ≡ entry key value others
  pub keys_are : AreKeys domain text key key_wide middle
  pub sorted : has_sort value range ≡ true
  pub written : Word value_wide value word
  pub middle_is : middle ≡ word ++ rest
  pub stops : Stops is_mark rest
  pub rest_is : IsRest domain range rest others v rest_keys rest_wide
  pub in_keys_is : in_keys ≡ (key_wide || rest_keys)
  pub wide_is : wide ≡ (key_wide || (value_wide || rest_wide))

or_regroup : (k v f s : Bool) → ((k || (v || f)) || s) ≡ (k || (v || (f || s)))
or_regroup true v f s = refl
or_regroup false true f s = refl
or_regroup false false f s = refl

first_entry : (domain : Sorts) (range : Sort) (text : List ℕ) (es : Entries) (v : Value) (in_keys wide : Bool) → IsRest domain range (codes " (" ++ text) es v in_keys wide → FirstEntry domain range text es v in_keys wide
unfolding WrittenEntries has_sort second
first_entry domain range text empty v in_keys wide r =
    let w = r.written in
    let clash : 40 ≡ 100 = ap second (w.joined ∙ (λ i. w.first.1.1 i ++ w.second.joined i)) in
    absurd (omega (arith, clash))
first_entry domain range text (entry k x es) v in_keys wide r =
    let w = r.written in
    let line = w.first.3 in
    let keys = line.rest_is in
    let tail = keys.second in
    let value = tail.first in
    let sorts = and_parts (have_sorts k domain && has_sort x range) (have_sort es domain range) r.entries_sorted in
    let rest_text = tail.second_text ++ w.second_text in
    let rest : IsRest domain range rest_text es v w.first.1 (tail.second_wide || w.second_wide) =
    record {
      entries_sorted = sorts.1;
      sorted = r.sorted;
      written = record { first_wide = tail.second_wide; second_wide = w.second_wide; first_text = tail.second_text; second_text = w.second_text; first = tail.second; second = w.second; either = refl; joined = refl };
    } in
    let whole : codes " (" ++ text ≡ codes " (" ++ ((keys.first_text ++ ((codes ") " ++ value.rest) ++ tail.second_text)) ++ w.second_text) =
    w.joined ∙ ap (λ y. y ++ w.second_text) (line.joined ∙ ap (λ y. codes " (" ++ y) (keys.joined ∙ ap (λ y. keys.first_text ++ y) (tail.joined ∙ ap (λ y. y ++ tail.second_text) value.joined))) in
    record {
      key = k;
      value = x;
      others = es;
      key_wide = w.first.0;
      rest_keys = w.first.1;
      value_wide = tail.first_wide;
      rest_wide = tail.second_wide || w.second_wide;
      middle = value.rest ++ rest_text;
      word = value.rest;
      rest = rest_text;
      es_is = refl;
      keys_are = record {
        keys = keys.first_text;
        sorted = (and_parts (have_sorts k domain) (has_sort x range) sorts.0).0;
        written = subst (λ b. Keys k b keys.first_text) keys.first.0 keys.first.1;
        joined = append_cancel_left (codes " (") text _ whole ∙ regroup keys.first_text value.rest tail.second_text w.second_text;
      };
      sorted = (and_parts (have_sorts k domain) (has_sort x range) sorts.0).1;
      written = value.rest_is;
      middle_is = refl;
      stops = rest_stops domain range rest_text es v w.first.1 (tail.second_wide || w.second_wide) rest;
      rest_is = rest;
      in_keys_is = w.first.2;
      wide_is = w.either ∙ (λ i. (keys.either ∙ (λ j. keys.first.0 j || tail.either j)) i || w.second_wide) ∙ or_regroup w.first.0 tail.first_wide tail.second_wide w.second_wide;
    }

or_four : (k v f s flag : Bool) → flag ≡ (f || s) → ((k || v) || flag) ≡ ((k || (v || f)) || s)
or_four true v f s flag e = refl
or_four false true f s flag e = refl
or_four false false f s flag e = e

entry_written : (domain : Sorts) (range : Sort) (text middle rest : List ℕ) (k : Values) (kw : Bool) (x : Value) (vw : Bool) (es : Entries) (v : Value) (in_keys flag : Bool)
    → AreKeys domain text k kw middle → IsFront range middle x vw rest → IsRest domain range rest es v in_keys flag → IsRest domain range (codes " (" ++ text) (entry k x es) v (kw || in_keys) ((kw || vw) || flag)
unfolding WrittenEntries has_sort
entry_written domain range text middle rest k kw x vw es v in_keys flag a f r =
    let w = r.written in
    record {
      entries_sorted = and_from _ _ (and_from _ _ a.sorted f.is.sorted) r.entries_sorted;
      sorted = r.sorted;
      written = record {
        first_wide = kw || (vw || w.first_wide);
        second_wide = w.second_wide;
        first_text = codes " (" ++ (a.keys ++ ((codes ") " ++ f.word) ++ w.first_text));
        second_text = w.second_text;
        first = (
          kw,
          in_keys,
          refl,
          record {
            rest = a.keys ++ ((codes ") " ++ f.word) ++ w.first_text);
            rest_is = record {
              first_wide = kw;
              second_wide = vw || w.first_wide;
              first_text = a.keys;
              second_text = (codes ") " ++ f.word) ++ w.first_text;
              first = (refl, a.written);
              second = record {
                first_wide = vw;
                second_wide = w.first_wide;
                first_text = codes ") " ++ f.word;
                second_text = w.first_text;
                first = record { rest = f.word; rest_is = f.is.written; joined = refl };
                second = w.first;
                either = refl;
                joined = refl;
              };
              either = refl;
              joined = refl;
            };
            joined = refl;
          },
        );
        second = w.second;
        either = or_four kw vw w.first_wide w.second_wide flag w.either;
        joined =
            ap (λ y. codes " (" ++ y) (a.joined ∙ ap (λ y. a.keys ++ (codes ") " ++ y)) (f.joined ∙ ap (λ y. f.word ++ y) w.joined) ∙ sym (regroup a.keys f.word w.first_text w.second_text));
      };
    }

pub line_is : (domain : Sorts) (range : Sort) (text middle rest : List ℕ) (k : Values) (kw : Bool) (x : Value) (vw : Bool)
    → OnlyKeys (AreKeys domain text) k kw middle → IsFront range middle x vw rest → IsLine domain range text rest k x kw (kw || vw)
line_is domain range text middle rest k kw x vw only f = record {
  good = λ es w in_keys flag h. record {
    is = entry_written domain range text middle rest k kw x vw es w in_keys flag only.0 f h.is;
    only = λ fs u keys wide r.
        let e = first_entry domain range text fs u keys wide r in
        let ks = only.1 e.key e.key_wide e.middle e.keys_are in
        let front = one_front range middle x vw rest e.value e.value_wide e.word e.rest f e.sorted e.written (sym ks.1 ∙ e.middle_is) e.stops in
        let tail = h.only e.others u e.rest_keys e.rest_wide (subst (λ y. IsRest domain range y e.others u e.rest_keys e.rest_wide) front.rest_is e.rest_is) in (
          e.in_keys_is ∙ (λ i. ks.0 i || tail.0 i),
          e.wide_is ∙ (λ i. ks.0 i || (front.flag_is i || tail.1 i)) ∙ sym (or_assoc kw vw flag),
          λ narrow.
              let n = neither kw in_keys narrow in ap keys_of e.es_is ∙ (λ i. ks.2 n.0 i ∷ tail.2 n.1 i),
        );
  };
  bad = λ h fs u keys wide r.
      let e = first_entry domain range text fs u keys wide r in
      let ks = only.1 e.key e.key_wide e.middle e.keys_are in
      let front = one_front range middle x vw rest e.value e.value_wide e.word e.rest f e.sorted e.written (sym ks.1 ∙ e.middle_is) e.stops in
      h e.others u e.rest_keys e.rest_wide (subst (λ y. IsRest domain range y e.others u e.rest_keys e.rest_wide) front.rest_is e.rest_is);
}

pub no_line_keys : (domain : Sorts) (range : Sort) (text : List ℕ) → NoKeys (AreKeys domain text) → NoRest domain range (codes " (" ++ text)
no_line_keys domain range text h fs u keys wide r =
    let e = first_entry domain range text fs u keys wide r in h e.key e.key_wide e.middle e.keys_are

pub no_line_value : (domain : Sorts) (range : Sort) (text middle : List ℕ) (k : Values) (kw : Bool) → OnlyKeys (AreKeys domain text) k kw middle → NoFront range middle → NoRest domain range (codes " (" ++ text)
no_line_value domain range text middle k kw only h fs u keys wide r =
    let e = first_entry domain range text fs u keys wide r in
    let ks = only.1 e.key e.key_wide e.middle e.keys_are in
    h e.word e.rest (sym ks.1 ∙ e.middle_is) e.stops e.value e.value_wide e.sorted e.written

-- the value elsewhere
record OnlyDefault (range : Sort) (text : List ℕ) (es : Entries) (v : Value) (in_keys wide : Bool) : Type 0 where
  pub word : List ℕ
  pub word_wide : Bool
  pub es_is : es ≡ empty
  pub in_keys_is : in_keys ≡ false
  pub sorted : has_sort v range ≡ true
  pub written : Word word_wide v word
  pub text_is : text ≡ codes " default " ++ (word ++ codes ")")
  pub wide_is : wide ≡ word_wide

only_default : (domain : Sorts) (range : Sort) (text : List ℕ) (es : Entries) (v : Value) (in_keys wide : Bool) → ((rest : List ℕ) → text ≡ codes " (" ++ rest → ⊥) → IsRest domain range text es v in_keys wide → OnlyDefault range text es v in_keys wide
unfolding WrittenEntries
only_default domain range text empty v in_keys wide h r =
    let w = r.written in
    let d = w.second in
    record {
      word = d.rest_is.first_text;
      word_wide = d.rest_is.first_wide;
      es_is = refl;
      in_keys_is = w.first.0;
      sorted = r.sorted;
      written = d.rest_is.first;
      text_is = w.joined ∙ (λ i. w.first.1.1 i ++ d.joined i) ∙ ap (λ y. codes " default " ++ y) (d.rest_is.joined ∙ ap (λ y. d.rest_is.first_text ++ y) d.rest_is.second.1);
      wide_is = w.either ∙ (λ i. w.first.1.0 i || w.second_wide) ∙ d.rest_is.either ∙ (λ i. d.rest_is.first_wide || d.rest_is.second.0 i) ∙ or_false d.rest_is.first_wide;
    }
only_default domain range text (entry k x es) v in_keys wide h r =
    let w = r.written in absurd (h (w.first.3.rest ++ w.second_text) (w.joined ∙ ap (λ y. y ++ w.second_text) w.first.3.joined))

pub default_is : (domain : Sorts) (range : Sort) (text inner end : List ℕ) (v : Value) (w : Bool) → ((rest : List ℕ) → text ≡ codes " (" ++ rest → ⊥) → text ≡ codes " default " ++ inner → IsFront range inner v w end → end ≡ codes ")"
    → IsOnlyRest domain range text empty v false w
unfolding WrittenEntries has_sort
default_is domain range text inner end v w no_entry e f last = record {
  is = record {
    entries_sorted = refl;
    sorted = f.is.sorted;
    written = record {
      first_wide = false;
      second_wide = w;
      first_text = [];
      second_text = text;
      first = (refl, (refl, refl));
      second = record {
        rest = inner;
        rest_is = record { first_wide = w; second_wide = false; first_text = f.word; second_text = codes ")"; first = f.is.written; second = (refl, refl); either = sym (or_false w); joined = f.joined ∙ ap (λ y. f.word ++ y) last };
        joined = e;
      };
      either = refl;
      joined = refl;
    };
  };
  only = λ fs u keys flag r. let d = only_default domain range text fs u keys flag no_entry r in
      let front = one_front range inner v w end u d.word_wide d.word (codes ")") f d.sorted d.written (append_cancel_left (codes " default ") inner (d.word ++ codes ")") (sym e ∙ d.text_is)) refl in
      (d.in_keys_is, d.wide_is ∙ front.flag_is, λ narrow. ap keys_of d.es_is);
}

pub no_default : (domain : Sorts) (range : Sort) (text : List ℕ) → ((rest : List ℕ) → text ≡ codes " (" ++ rest → ⊥) → ((rest : List ℕ) → text ≡ codes " default " ++ rest → ⊥) → NoRest domain range text
no_default domain range text no_entry h fs u keys flag r = let d = only_default domain range text fs u keys flag no_entry r in h (d.word ++ codes ")") d.text_is

pub no_default_word : (domain : Sorts) (range : Sort) (text inner : List ℕ) → ((rest : List ℕ) → text ≡ codes " (" ++ rest → ⊥) → text ≡ codes " default " ++ inner → NoFront range inner → NoRest domain range text
no_default_word domain range text inner no_entry e h fs u keys flag r =
    let d = only_default domain range text fs u keys flag no_entry r in
    h d.word (codes ")") (append_cancel_left (codes " default ") inner (d.word ++ codes ")") (sym e ∙ d.text_is)) refl u d.word_wide d.sorted d.written

pub no_default_end : (domain : Sorts) (range : Sort) (text inner end : List ℕ) (v : Value) (w : Bool) → ((rest : List ℕ) → text ≡ codes " (" ++ rest → ⊥) → text ≡ codes " default " ++ inner → IsFront range inner v w end → (end ≡ codes ")" → ⊥)
    → NoRest domain range text
no_default_end domain range text inner end v w no_entry e f h fs u keys flag r =
    let d = only_default domain range text fs u keys flag no_entry r in
    let front = one_front range inner v w end u d.word_wide d.word (codes ")") f d.sorted d.written (append_cancel_left (codes " default ") inner (d.word ++ codes ")") (sym e ∙ d.text_is)) refl in
    h (sym front.rest_is)

-- the loop over entries
append_empty : (es : Entries) → append_entries es empty ≡ es
append_empty empty = refl
append_empty (entry k v es) = ap (entry k v) (append_empty es)

append_push : (es : List code_entry.Entry) (e : code_entry.Entry) (fs : Entries) → append_entries (plain_entries (es ++ e ∷ [])) fs ≡ append_entries (plain_entries es) (entry (plain_entry e).0 (plain_entry e).1 fs)
append_push [] e fs = refl
append_push (d ∷ es) e fs = ap (entry (plain_entry d).0 (plain_entry d).1) (append_push es e fs)

pub record EntriesSoFar (domain : Sorts) (range : Sort) (text rest : List ℕ) (es : List code_entry.Entry) (wide_key wide : Bool) : Type 0 where
  pub good : (fs : Entries) (v : Value) (in_keys flag : Bool) → IsOnlyRest domain range rest fs v in_keys flag → IsOnlyRest domain range text (append_entries (plain_entries es) fs) v (wide_key || in_keys) (wide || flag)
  pub bad : NoRest domain range rest → NoRest domain range text

pub entries_more : (domain : Sorts) (range : Sort) (text rest inner next : List ℕ) (es : List code_entry.Entry) (e : code_entry.Entry) (wide_key wide kw lw : Bool)
    → EntriesSoFar domain range text rest es wide_key wide → rest ≡ codes " (" ++ inner → IsLine domain range inner next (plain_entry e).0 (plain_entry e).1 kw lw
    → EntriesSoFar domain range text next (es ++ e ∷ []) (wide_key || kw) (wide || lw)
entries_more domain range text rest inner next es e wide_key wide kw lw so is line = record {
  good = λ fs v in_keys flag h.
      let here = subst (λ x. IsOnlyRest domain range x (entry (plain_entry e).0 (plain_entry e).1 fs) v (kw || in_keys) (lw || flag)) (sym is) (line.good fs v in_keys flag h) in
      let all = so.good (entry (plain_entry e).0 (plain_entry e).1 fs) v (kw || in_keys) (lw || flag) here in
      subst (λ x. IsOnlyRest domain range text x v ((wide_key || kw) || in_keys) ((wide || lw) || flag)) (sym (append_push es e fs))
      (subst (λ b. IsOnlyRest domain range text (append_entries (plain_entries es) (entry (plain_entry e).0 (plain_entry e).1 fs)) v b ((wide || lw) || flag)) (sym (or_assoc wide_key kw in_keys))
      (subst (λ b. IsOnlyRest domain range text (append_entries (plain_entries es) (entry (plain_entry e).0 (plain_entry e).1 fs)) v (wide_key || (kw || in_keys)) b) (sym (or_assoc wide lw flag)) all));
  bad = λ h. so.bad (subst (NoRest domain range) (sym is) (line.bad h));
}

pub entries_stop : (domain : Sorts) (range : Sort) (text rest inner : List ℕ) (es : List code_entry.Entry) (wide_key wide : Bool)
    → EntriesSoFar domain range text rest es wide_key wide → rest ≡ codes " (" ++ inner → NoRest domain range (codes " (" ++ inner) → NoRest domain range text
entries_stop domain range text rest inner es wide_key wide so is h = so.bad (subst (NoRest domain range) (sym is) h)

pub entries_done : (domain : Sorts) (range : Sort) (text rest : List ℕ) (es : List code_entry.Entry) (wide_key wide : Bool) (v : Value) (w : Bool)
    → EntriesSoFar domain range text rest es wide_key wide → IsOnlyRest domain range rest empty v false w → IsOnlyRest domain range text (plain_entries es) v wide_key (wide || w)
entries_done domain range text rest es wide_key wide v w so h =
    subst (λ x. IsOnlyRest domain range text x v wide_key (wide || w)) (append_empty (plain_entries es))
    (subst (λ b. IsOnlyRest domain range text (append_entries (plain_entries es) empty) v b (wide || w)) (or_false wide_key) (so.good empty v false w h))
