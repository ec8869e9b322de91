-- No word of a command is a literal of no form.
use Rattle.std.proofs.Common.{◌≡◌, ◌∙◌, ℕ, Bool, true, false, not, ◌&&◌, ◌||◌, List, [], Some, None, ◌∷◌, ◌++◌, length, drop, refl, sym, ap, subst, inl, inr, ⊎_elim, arith}
use Rattle.std.specs.Prelude.{◌==◌, nat_lt}
use Rattle.std.specs.List.{list_all, prefix_len}
use Rattle.std.specs.Str.{bytes_eq}
use Rattle.std.proofs.lemmas.Bool.{and_parts, or_cases, true≢false, eqb-true, lt-ltb}
use Rattle.std.proofs.lemmas.List.{drop_all}
use Rattle.std.proofs.lemmas.Slice.Eq.{bytes_eq-Decides}
use Rattle.yices_grammar.specs.Tokens.{Lexeme, open_bracket, close_bracket, typing_mark, word, string, Token}
use Rattle.yices_grammar.specs.Words.{is_among, is_digit, begins_as_literal, is_whole, is_number, is_number_end, is_binary, is_hex, is_bad_literal, is_bad_token, type_words, term_words, special_words, count_operators}
use Rattle.yices_grammar.specs.Commands.{Command}
use Rattle.yices_grammar.specs.Parts.{Kind, the, a_name, a_type_name, a_whole, a_number, a_binary, a_hex, an_operator, a_count_operator, is_of, Part, command, command_form, literal, type, type_form, expression, expression_form, binding, declaration, Item, sign, one, part, optional, many, some, Maker, Rule}
use Rattle.yices_grammar.specs.Grammar.{rules}
use Rattle.yices_grammar.specs.Reading.{ByOne, Enters, Gives, SpellsCommands}
use Rattle.yices_grammar.specs.Laws.{AreGood, NoBadLiteral}

not_false : (b : Bool) → not b ≡ true → b ≡ false
not_false true h = absurd (true≢false (sym h))
not_false false h = refl

and_false : (b c : Bool) → c ≡ false → (b && c) ≡ false
and_false true c h = h
and_false false c h = refl

or_right : (b : Bool) → (b || true) ≡ true
or_right true = refl
or_right false = refl

-- a word that begins as no literal is no bad one
begins_good : (w : List ℕ) → begins_as_literal w ≡ false → is_bad_literal w ≡ false
begins_good w h = rw h refl

formed_good : (w : List ℕ) → (is_number w || is_binary w || is_hex w) ≡ true → is_bad_literal w ≡ false
formed_good w h = and_false (begins_as_literal w) (not (is_number w || is_binary w || is_hex w)) (rw h refl)

number_good : (w : List ℕ) → is_number w ≡ true → is_bad_literal w ≡ false
number_good w h = formed_good w (rw h refl)

binary_good : (w : List ℕ) → is_binary w ≡ true → is_bad_literal w ≡ false
binary_good w h = formed_good w (rw h (ap (λ b. b || is_hex w) (or_right (is_number w))))

hex_good : (w : List ℕ) → is_hex w ≡ true → is_bad_literal w ≡ false
hex_good w h = formed_good w (rw h (or_right (is_number w || is_binary w)))

-- digits alone are a number
all_run : (test : ℕ → Bool) (bs : List ℕ) → list_all test bs ≡ true → prefix_len test bs ≡ length bs
all_run test [] h = refl
all_run test (b ∷ bs) h = let parts = and_parts (test b) (list_all test bs) h in rw (parts.0, all_run test bs parts.1) (omega arith)

digit_sign : (b : ℕ) → is_digit b ≡ true → (b == 43 || b == 45) ≡ false
digit_sign b h = go (b == 43) (b == 45) refl refl
  where
    no_digit : (n : ℕ) → b ≡ n → is_digit n ≡ false → ⊥
    no_digit n e k = true≢false (sym h ∙ ap is_digit e ∙ k)

    go : (x y : Bool) → (b == 43) ≡ x → (b == 45) ≡ y → (b == 43 || b == 45) ≡ false
    go true y e f = absurd (no_digit 43 (eqb-true b 43 e) refl)
    go false true e f = absurd (no_digit 45 (eqb-true b 45 f) refl)
    go false false e f = rw (e, f) refl

whole_number : (w : List ℕ) → is_whole w ≡ true → is_number w ≡ true
whole_number [] h = absurd (true≢false (sym h))
whole_number (b ∷ bs) h =
    let parts = and_parts (is_digit b) (list_all is_digit bs) h in
    let run : prefix_len is_digit (b ∷ bs) ≡ length (b ∷ bs) = all_run is_digit (b ∷ bs) h in
    let none : drop (length (b ∷ bs)) (b ∷ bs) ≡ [] = drop_all (length (b ∷ bs)) (b ∷ bs) (omega arith) in
    unsigned_whole (digit_sign b parts.0) (rw run (positive none))
  where
    positive : drop (length (b ∷ bs)) (b ∷ bs) ≡ [] → (nat_lt 0 (length (b ∷ bs)) && is_number_end (drop (length (b ∷ bs)) (b ∷ bs))) ≡ true
    positive none = rw (none, lt-ltb 0 (length (b ∷ bs)) (omega arith)) refl

    unsigned_whole : (b == 43 || b == 45) ≡ false → (nat_lt 0 (prefix_len is_digit (b ∷ bs)) && is_number_end (drop (prefix_len is_digit (b ∷ bs)) (b ∷ bs))) ≡ true → is_number (b ∷ bs) ≡ true
    unsigned_whole e k = rw e k

-- what each of the words passes
among_all : (test : List ℕ → Bool) (words : List (List ℕ)) (w : List ℕ) → list_all test words ≡ true → is_among words w ≡ true → test w ≡ true
among_all test [] w h k = absurd (true≢false (sym k))
among_all test (v ∷ words) w h k =
    let parts = and_parts (test v) (list_all test words) h in
    ⊎_elim (λ e. subst (λ u. test u ≡ true) (sym ((bytes_eq-Decides w v).0 e)) parts.0) (λ e. among_all test words w parts.1 e) (or_cases (bytes_eq w v) (is_among words w) k)

-- kinds whose words are no bad literals
good_kind : Kind → Bool
good_kind (the v) = not (is_bad_literal v)
good_kind _ = true

word_good : (k : Kind) (w : List ℕ) → good_kind k ≡ true → is_of k (word w) ≡ true → is_bad_literal w ≡ false
unfolding good_kind
word_good (the v) w g h = subst (λ u. is_bad_literal u ≡ false) (sym ((bytes_eq-Decides w v).0 h)) (not_false (is_bad_literal v) g)
word_good a_name w g h = begins_good w (not_false (begins_as_literal w) (and_parts (not (begins_as_literal w)) (not (is_among term_words w)) h).0)
word_good a_type_name w g h = begins_good w (not_false (begins_as_literal w) (and_parts (not (begins_as_literal w)) (not (is_among type_words w)) h).0)
word_good a_whole w g h = number_good w (whole_number w h)
word_good a_number w g h = number_good w h
word_good a_binary w g h = binary_good w h
word_good a_hex w g h = hex_good w h
word_good an_operator w g h =
    let terms = (and_parts (is_among term_words w) (not (is_among special_words w)) (and_parts (is_among term_words w && not (is_among special_words w)) (not (is_among count_operators w)) h).0).0 in
    not_false (is_bad_literal w) (among_all (λ v. not (is_bad_literal v)) term_words w refl terms)
word_good a_count_operator w g h = not_false (is_bad_literal w) (among_all (λ v. not (is_bad_literal v)) count_operators w refl h)
word_good _ w g h = absurd (true≢false (sym h))

kind_good : (k : Kind) (l : Lexeme) → good_kind k ≡ true → is_of k l ≡ true → is_bad_token l ≡ false
kind_good k open_bracket g h = refl
kind_good k close_bracket g h = refl
kind_good k typing_mark g h = refl
kind_good k (word w) g h = word_good k w g h
kind_good k (string s) g h = refl

good_item : Item → Bool
good_item (sign k) = good_kind k
good_item (one k) = good_kind k
good_item _ = true

good_rules : {Q : Type 0} → List (Rule Q) → Bool
good_rules rs = list_all (λ r. good_kind r.first && list_all good_item r.items) rs

-- each rule of the grammar is of such kinds
all_good : (p : Part) → good_rules (rules p) ≡ true
unfolding good_rules good_item good_kind
all_good command = refl
all_good command_form = refl
all_good literal = refl
all_good type = refl
all_good type_form = refl
all_good expression = refl
all_good expression_form = refl
all_good binding = refl
all_good declaration = refl

good_append : (a b : List Item) → list_all good_item a ≡ true → list_all good_item b ≡ true → list_all good_item (a ++ b) ≡ true
good_append [] b h k = k
good_append (i ∷ a) b h k = let parts = and_parts (good_item i) (list_all good_item a) h in rw (parts.0, good_append a b parts.1 k) refl

module _ (R : Type 0) where
  by_rules : {Q : Type 0} (t : Token) (ts : List Token) (rest : List Item) (make : Q → Maker rest R) (value : R) (rs : List (Rule Q)) → good_rules rs ≡ true → list_all good_item rest ≡ true
      → ((items : List Item) (m : Maker items R) → list_all good_item items ≡ true → Gives R items m ts value → AreGood ts) → ByOne (Enters R t rest make (λ is m. Gives R is m ts value)) rs → AreGood (t ∷ ts)
  unfolding good_rules
  by_rules t ts rest make value [] g k goes h = absurd h
  by_rules t ts rest make value (r ∷ rs) g k goes (inl (is, reads)) =
      let parts = and_parts (good_kind r.first) (list_all good_item r.items) (and_parts (good_kind r.first && list_all good_item r.items) _ g).0 in
      (kind_good r.first t.lexeme parts.0 is, goes _ _ (good_append r.items rest parts.1 k) reads)
  by_rules t ts rest make value (r ∷ rs) g k goes (inr h) = by_rules t ts rest make value rs (and_parts (good_kind r.first && list_all good_item r.items) _ g).1 k goes h

  gives_good : (ts : List Token) (items : List Item) (make : Maker items R) (value : R) → list_all good_item items ≡ true → Gives R items make ts value → AreGood ts
  unfolding Gives good_item
  gives_good [] items make value g h = tt
  gives_good (t ∷ ts) [] make value g h = absurd h
  gives_good (t ∷ ts) (sign k ∷ items) make value g h = let parts = and_parts (good_kind k) (list_all good_item items) g in (kind_good k t.lexeme parts.0 h.0, gives_good ts items make value parts.1 h.1)
  gives_good (t ∷ ts) (one k ∷ items) make value g h = let parts = and_parts (good_kind k) (list_all good_item items) g in (kind_good k t.lexeme parts.0 h.0, gives_good ts items (make t) value parts.1 h.1)
  gives_good (t ∷ ts) (part p ∷ items) make value g h = by_rules t ts items make value (rules p) (all_good p) g (λ is m a b. gives_good ts is m value a b) h
  gives_good (t ∷ ts) (optional p ∷ items) make value g (inl h) = gives_good (t ∷ ts) items (make None) value g h
  gives_good (t ∷ ts) (optional p ∷ items) make value g (inr h) = by_rules t ts items (λ x. make (Some x)) value (rules p) (all_good p) g (λ is m a b. gives_good ts is m value a b) h
  gives_good (t ∷ ts) (many p ∷ items) make value g (inl h) = gives_good (t ∷ ts) items (make []) value g h
  gives_good (t ∷ ts) (many p ∷ items) make value g (inr h) = by_rules t ts (many p ∷ items) (λ x xs. make (x ∷ xs)) value (rules p) (all_good p) g (λ is m a b. gives_good ts is m value a b) h
  gives_good (t ∷ ts) (some p ∷ items) make value g h = by_rules t ts (many p ∷ items) (λ x xs. make (x ∷ xs)) value (rules p) (all_good p) g (λ is m a b. gives_good ts is m value a b) h

good_both : (a b : List Token) → AreGood a → AreGood b → AreGood (a ++ b)
good_both [] b h k = k
good_both (t ∷ a) b h k = (h.0, good_both a b h.1 k)

good_front : (a b : List Token) → AreGood (a ++ b) → AreGood a
good_front [] b h = tt
good_front (t ∷ a) b h = (h.0, good_front a b h.1)

spelled_good : (cs : List Command) (ts : List Token) → SpellsCommands cs ts → AreGood ts
unfolding good_item
spelled_good [] ts e = subst AreGood (sym e) tt
spelled_good (c ∷ cs) ts (first, rest, spells, others, e) =
    subst AreGood (sym e) (good_both first rest (gives_good Command first (part command ∷ []) (λ x. x) c refl spells) (spelled_good cs rest others))

pub no_bad_literal : NoBadLiteral
no_bad_literal ts (more, (cs, spells)) = good_front ts more (spelled_good cs (ts ++ more) spells)

-- the token behind some
pub good_behind : (a : List Token) (t : Token) (b : List Token) → AreGood (a ++ t ∷ b) → is_bad_token t.lexeme ≡ false
good_behind [] t b h = h.0
good_behind (u ∷ a) t b h = good_behind a t b h.1
