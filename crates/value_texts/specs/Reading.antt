-- Which texts are read as values: those that are printed, and a wider form in which a fraction may have a number past the bound.
use Rattle.std.specs.Prelude.{◌≡◌, ◌≢◌, ℕ, ◌<◌, ◌≤◌, ◌^◌, Bool, true, false, ◌||◌, ◌==◌, ◌⊎◌, nat_lt, List, [], ◌++◌, length, slice_index, codes, if◌then◌else◌}
use Rattle.std.specs.Str.Parse.{IsNumeral, digits_value}
use Rattle.fraction128.specs.Exact.{fits}
use Rattle.y_tree.specs.Sorts.{Sort}
use Rattle.y_tree.specs.Values.{Value, Values, Entries, truth, number, bits, element, function, none, more, empty, entry, has_sort}
use Rattle.y_tree.specs.Order.{is_rising}
use Rattle.value_texts.specs.Texts.{value_text}
use Rattle.value_texts.specs.declared.errors.ValueError.{ValueError}
use Rattle.value_texts.specs.declared.errors.ValueError.TheVariants as refused

-- the digits of a whole number of any size, with no 0 in front of others
pub record IsWhole (text : List ℕ) (n : ℕ) : Type 0 where
  pub digits : IsNumeral 10 text
  pub value : digits_value 10 text ≡ n
  pub front : 1 < length text → slice_index text 0 ≢ 48

-- a fraction with a number past 2^127 - 1, not always in lowest terms: its sign, its numerator and, where that isn't 1, its denominator
pub record IsWideFraction (text : List ℕ) : Type 0 where
  pub negative : Bool
  pub top : ℕ
  pub top_text : List ℕ
  pub bottom : ℕ
  pub bottom_text : List ℕ
  pub top_is : IsWhole top_text top
  pub bottom_is : IsWhole bottom_text bottom
  pub positive : 0 < bottom
  pub signed : negative ≡ true → 0 < top
  pub past : (2 ^ 127 ≤ top) ⊎ (2 ^ 127 ≤ bottom)
  pub parts : text ≡ (if negative then codes "-" else []) ++ top_text ++ (if bottom == 1 then [] else codes "/" ++ bottom_text)

-- the value's numbers are within the bounds of the code
abbrev pub is_within : Value → Bool
is_within (truth b) = true
is_within (number q) = fits q
is_within (bits n a) = true
is_within (element k a) = nat_lt a (2 ^ 64)
is_within (function es v) = false

-- a word for a value that is no function; the flag says whether it is a fraction with a number past the bound
abbrev pub Word : Bool → Value → List ℕ → Type 0
Word false v text = (is_within v ≡ true) × (text ≡ value_text v)
Word true (number q) text = IsWideFraction text
Word true (truth b) text = ⊥
Word true (bits n a) text = ⊥
Word true (element k a) text = ⊥
Word true (function es v) text = ⊥

-- two texts, one after the other, for two things; the flag says whether either has a fraction past the bound
pub record Both (First Second : Bool → List ℕ → Type 0) (wide : Bool) (text : List ℕ) : Type 0 where
  pub first_wide : Bool
  pub second_wide : Bool
  pub first_text : List ℕ
  pub second_text : List ℕ
  pub first : First first_wide first_text
  pub second : Second second_wide second_text
  pub either : wide ≡ (first_wide || second_wide)
  pub joined : text ≡ first_text ++ second_text

-- a fixed text, and something behind it
pub record Behind (front : List ℕ) (Rest : Bool → List ℕ → Type 0) (wide : Bool) (text : List ℕ) : Type 0 where
  pub rest : List ℕ
  pub rest_is : Rest wide rest
  pub joined : text ≡ front ++ rest

-- a fixed text
abbrev pub Only : List ℕ → Bool → List ℕ → Type 0
Only fixed wide text = (wide ≡ false) × (text ≡ fixed)

-- a space before each key
unfoldable pub SpacedKeys : Values → Bool → List ℕ → Type 0
SpacedKeys none = Only []
SpacedKeys (more v vs) = Behind (codes " ") (Both (λ wide text. Word wide v text) (SpacedKeys vs))

-- keys with single spaces
abbrev pub Keys : Values → Bool → List ℕ → Type 0
Keys none = Only []
Keys (more v vs) = Both (λ wide text. Word wide v text) (SpacedKeys vs)

-- an entry's value
abbrev pub EntryValue : Value → Bool → List ℕ → Type 0
EntryValue v = Behind (codes ") ") (λ wide text. Word wide v text)

-- entries; the first flag says whether a key has a fraction past the bound
unfoldable pub WrittenEntries : Bool → Entries → Bool → List ℕ → Type 0
WrittenEntries in_keys empty wide text = (in_keys ≡ false) × Only [] wide text
WrittenEntries in_keys (entry k v es) wide text =
    (key_wide : Bool) × (rest_keys : Bool) × (in_keys ≡ (key_wide || rest_keys))
    × Behind (codes " (") (Both (λ w t. (w ≡ key_wide) × Keys k w t) (Both (EntryValue v) (WrittenEntries rest_keys es))) wide text

-- the default of a function, and the end
abbrev pub Default : Value → Bool → List ℕ → Type 0
Default v = Behind (codes " default ") (Both (λ wide text. Word wide v text) (Only (codes ")")))

-- a function, with its keys in rising order unless one of them has a fraction past the bound
pub record WrittenFunction (es : Entries) (v : Value) (wide : Bool) (text : List ℕ) : Type 0 where
  pub in_keys : Bool
  pub written : Behind (codes "(function") (Both (WrittenEntries in_keys es) (Default v)) wide text
  pub rising : in_keys ≡ false → is_rising es ≡ true

-- the value's text in the wider form; the flag says whether it has a fraction past the bound
abbrev pub Written : Value → Bool → List ℕ → Type 0
Written (function es v) wide text = WrittenFunction es v wide text
Written (truth b) wide text = Word wide (truth b) text
Written (number q) wide text = Word wide (number q) text
Written (bits n a) wide text = Word wide (bits n a) text
Written (element k a) wide text = Word wide (element k a) text

-- the text is one of the wider form for the type
pub record IsOfWiderForm (s : Sort) (wide : Bool) (text : List ℕ) : Type 0 where
  pub value : Value
  pub sorted : has_sort value s ≡ true
  pub written : Written value wide text

-- why a text isn't read: it isn't of the wider form, or it has a fraction past the bound
abbrev pub Refuses : Sort → List ℕ → ValueError → Type 0
Refuses s text refused.BadText = (wide : Bool) → IsOfWiderForm s wide text → ⊥
Refuses s text refused.Wide = IsOfWiderForm s true text
Refuses s text refused.NoMemory = Unit {0}
