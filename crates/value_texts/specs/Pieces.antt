-- What the parts of a value's text are read as: marks, whole numbers, fractions, words, keys, entries.
use Rattle.std.specs.Prelude.{◌≡◌, ℕ, ◌<◌, ◌≤◌, ◌^◌, Bool, true, false, not, ◌&&◌, ◌||◌, ◌==◌, ◌⊎◌, List, [], ◌∷◌, ◌++◌, take, drop, length, codes, if◌then◌else◌}
use Rattle.value_texts.specs.declared.numbers.Size.{Size}
use Rattle.value_texts.specs.declared.numbers.Size.TheVariants as size
use Rattle.value_texts.specs.declared.numbers.Number.{Number}
use Rattle.value_texts.specs.declared.numbers.Number.TheVariants as read
use Rattle.value_texts.specs.declared.errors.ValueError.{ValueError}
use Rattle.value_texts.specs.declared.errors.ValueError.TheVariants as error
use Rattle.rationals.specs.Rational.{ℚ}
use Rattle.y_tree.specs.Sorts.{Sort, Sorts}
use Rattle.y_tree.specs.Values.{Value, Values, Entries, number, none, more, empty, entry, has_sort, have_sorts, have_sort}
use Rattle.value_texts.specs.Reading.{IsWhole, IsWideFraction, Word, Both, SpacedKeys, Keys, WrittenEntries, Default}

-- no byte passes the test
abbrev pub is_free : (ℕ → Bool) → List ℕ → Bool
is_free test [] = true
is_free test (c ∷ cs) = not (test c) && is_free test cs

-- there is no byte, or the first passes the test
abbrev pub Stops : (ℕ → Bool) → List ℕ → Type 0
Stops test [] = Unit {0}
Stops test (c ∷ cs) = test c ≡ true

-- the place is that of the first byte that passes the test, or the end
pub record IsEnd (test : ℕ → Bool) (text : List ℕ) (at : ℕ) : Type 0 where
  pub within : at ≤ length text
  pub free : is_free test (take at text) ≡ true
  pub stops : Stops test (drop at text)

-- the byte ends a word: a space or a bracket
abbrev pub is_mark : ℕ → Bool
is_mark c = c == 32 || (c == 40 || c == 41)

-- the byte is a slash
abbrev pub is_slash : ℕ → Bool
is_slash c = c == 47

-- the number has that size
abbrev pub IsSize : Size → ℕ → Type 0
IsSize (size.Small n) m = (m ≡ n) × (n < 2 ^ 127)
IsSize size.Past m = 2 ^ 127 ≤ m

-- the size is that of 0
abbrev pub is_zero : Size → Bool
is_zero (size.Small n) = n == 0
is_zero size.Past = false

-- the text is that of a whole number of that size
abbrev pub IsWholeOf : List ℕ → Size → Type 0
IsWholeOf text s = (n : ℕ) × IsWhole text n × IsSize s n

-- the text is that of no whole number
abbrev pub NoWhole : List ℕ → Type 0
NoWhole text = (n : ℕ) → IsWhole text n → ⊥

-- the text is nothing for the denominator 1, or a slash and another denominator
abbrev pub IsBottom : List ℕ → ℕ → Type 0
IsBottom text n = ((text ≡ []) × (n ≡ 1)) ⊎ ((digits : List ℕ) × (text ≡ codes "/" ++ digits) × IsWhole digits n × (1 < n))

-- the text is a denominator of that size
abbrev pub IsBottomOf : List ℕ → Size → Type 0
IsBottomOf text s = (n : ℕ) × IsBottom text n × IsSize s n

-- the text is no denominator
abbrev pub NoBottom : List ℕ → Type 0
NoBottom text = (n : ℕ) → IsBottom text n → ⊥

-- the text is a fraction without its sign; a negative one isn't 0
pub record IsUnsigned (negative : Bool) (top bottom : ℕ) (text : List ℕ) : Type 0 where
  pub top_text : List ℕ
  pub bottom_text : List ℕ
  pub top_is : IsWhole top_text top
  pub bottom_is : IsBottom bottom_text bottom
  pub signed : negative ≡ true → 0 < top
  pub parts : text ≡ top_text ++ bottom_text

-- the text is a fraction, in lowest terms or not
abbrev pub IsFraction : Bool → ℕ → ℕ → List ℕ → Type 0
IsFraction negative top bottom text = (digits : List ℕ) × (text ≡ (if negative then codes "-" else []) ++ digits) × IsUnsigned negative top bottom digits

-- the value is the word's for the type, and no other is; the flag says whether it is a fraction with a number past the bound, and then others are
pub record IsWord (s : Sort) (text : List ℕ) (v : Value) (wide : Bool) : Type 0 where
  pub sorted : has_sort v s ≡ true
  pub written : Word wide v text
  pub only : (w : Value) (flag : Bool) → has_sort w s ≡ true → Word flag w text → (flag ≡ wide) × (wide ≡ false → w ≡ v)

-- the text is no word for the type
abbrev pub NoWord : Sort → List ℕ → Type 0
NoWord s text = (v : Value) (wide : Bool) → has_sort v s ≡ true → Word wide v text → ⊥

-- such a word is in front of the rest, which doesn't go on with it
pub record IsFront (s : Sort) (text : List ℕ) (v : Value) (wide : Bool) (rest : List ℕ) : Type 0 where
  pub word : List ℕ
  pub is : IsWord s word v wide
  pub stops : Stops is_mark rest
  pub joined : text ≡ word ++ rest

-- there is none in front of the text
abbrev pub NoFront : Sort → List ℕ → Type 0
NoFront s text = (word rest : List ℕ) → text ≡ word ++ rest → Stops is_mark rest → NoWord s word

-- such a word stands behind a space
pub record IsNext (s : Sort) (text : List ℕ) (v : Value) (wide : Bool) (rest : List ℕ) : Type 0 where
  pub inner : List ℕ
  pub text_is : text ≡ codes " " ++ inner
  pub front : IsFront s inner v wide rest

-- keys, each behind a space, and the bracket and the space behind them, are in front of the rest
pub record AreSpaced (ss : Sorts) (text : List ℕ) (vs : Values) (wide : Bool) (rest : List ℕ) : Type 0 where
  pub keys : List ℕ
  pub sorted : have_sorts vs ss ≡ true
  pub written : SpacedKeys vs wide keys
  pub joined : text ≡ keys ++ (codes ") " ++ rest)

-- keys, and the bracket and the space behind them, are in front of the rest
pub record AreKeys (ss : Sorts) (text : List ℕ) (vs : Values) (wide : Bool) (rest : List ℕ) : Type 0 where
  pub keys : List ℕ
  pub sorted : have_sorts vs ss ≡ true
  pub written : Keys vs wide keys
  pub joined : text ≡ keys ++ (codes ") " ++ rest)

-- the keys are these and no others, up to fractions with a number past the bound
abbrev pub OnlyKeys : (Values → Bool → List ℕ → Type 0) → Values → Bool → List ℕ → Type 0
OnlyKeys P vs wide rest = P vs wide rest × ((ws : Values) (flag : Bool) (other : List ℕ) → P ws flag other → (flag ≡ wide) × (other ≡ rest) × (wide ≡ false → ws ≡ vs))

-- there are no such keys
abbrev pub NoKeys : (Values → Bool → List ℕ → Type 0) → Type 0
NoKeys P = (vs : Values) (wide : Bool) (rest : List ℕ) → P vs wide rest → ⊥

-- the keys of entries
abbrev pub keys_of : Entries → List Values
keys_of empty = []
keys_of (entry k v es) = k ∷ keys_of es

-- entries, a default and the last bracket
pub record IsRest (domain : Sorts) (result : Sort) (text : List ℕ) (es : Entries) (v : Value) (in_keys wide : Bool) : Type 0 where
  pub entries_sorted : have_sort es domain result ≡ true
  pub sorted : has_sort v result ≡ true
  pub written : Both (WrittenEntries in_keys es) (Default v) wide text

-- there are such entries, and the text has no other flags, nor other keys, unless one has a number past the bound
pub record IsOnlyRest (domain : Sorts) (result : Sort) (text : List ℕ) (es : Entries) (v : Value) (in_keys wide : Bool) : Type 0 where
  pub is : IsRest domain result text es v in_keys wide
  pub only : (fs : Entries) (w : Value) (keys flag : Bool) → IsRest domain result text fs w keys flag → (keys ≡ in_keys) × (flag ≡ wide) × (in_keys ≡ false → keys_of fs ≡ keys_of es)

-- there are none
abbrev pub NoRest : Sorts → Sort → List ℕ → Type 0
NoRest domain result text = (es : Entries) (v : Value) (in_keys wide : Bool) → IsRest domain result text es v in_keys wide → ⊥

-- the entries one after the other
abbrev pub append_entries : Entries → Entries → Entries
append_entries empty fs = fs
append_entries (entry k v es) fs = entry k v (append_entries es fs)

-- the values one after the other
abbrev pub append_values : Values → Values → Values
append_values none ws = ws
append_values (more v vs) ws = more v (append_values vs ws)

-- a part isn't read for that reason, or memory is wanting
abbrev pub Fails : Type 0 → ValueError → Type 0
Fails P error.BadText = P
Fails P error.Wide = ⊥
Fails P error.NoMemory = Unit {0}

-- what stands behind an entry is what stands behind its bracket and space
pub record IsLine (domain : Sorts) (result : Sort) (text rest : List ℕ) (k : Values) (v : Value) (key_wide wide : Bool) : Type 0 where
  pub good : (es : Entries) (w : Value) (in_keys flag : Bool) → IsOnlyRest domain result rest es w in_keys flag → IsOnlyRest domain result (codes " (" ++ text) (entry k v es) w (key_wide || in_keys) (wide || flag)
  pub bad : NoRest domain result rest → NoRest domain result (codes " (" ++ text)

-- the number is read as it stands, or is one past the bound; no text is both
abbrev pub IsNumber : List ℕ → Number → Type 0
IsNumber text (read.Exact q) = Word false (number q) text × ((p : ℚ) → Word false (number p) text → p ≡ q) × (IsWideFraction text → ⊥)
IsNumber text read.Wide = IsWideFraction text × ((p : ℚ) → Word false (number p) text → ⊥)

-- the text is no number
abbrev pub NoNumber : List ℕ → Type 0
NoNumber text = ((p : ℚ) → Word false (number p) text → ⊥) × (IsWideFraction text → ⊥)
