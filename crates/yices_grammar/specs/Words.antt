-- The forms of literals, and the words of the whole language.
use Rattle.std.specs.Prelude.{ℕ, Bool, true, false, not, ◌&&◌, ◌||◌, ◌==◌, List, [], ◌∷◌, nat_le, nat_lt, drop, if◌then◌else◌, codes}
use Rattle.std.specs.List.{list_all, list_any, prefix_len}
use Rattle.std.specs.Str.{bytes_eq}
use Rattle.yices_grammar.specs.Tokens.{Lexeme, open_bracket, close_bracket, typing_mark, word, string, begins_with}

-- the words that are no names
abbrev pub term_words : List (List ℕ)
term_words =
    codes "true" ∷ codes "false" ∷ codes "not" ∷ codes "and" ∷ codes "or" ∷ codes "xor" ∷ codes "=>" ∷ codes "<=>"
    ∷ codes "if" ∷ codes "ite" ∷ codes "=" ∷ codes "/=" ∷ codes "distinct" ∷ codes "let" ∷ codes "forall" ∷ codes "update"
    ∷ codes "mk-bv" ∷ codes "+" ∷ codes "-" ∷ codes "*" ∷ codes "/" ∷ codes "<" ∷ codes "<=" ∷ codes ">" ∷ codes ">="
    ∷ codes "bv-add" ∷ codes "bv-mul" ∷ codes "bv-sub" ∷ codes "bv-neg" ∷ codes "bv-not" ∷ codes "bv-div" ∷ codes "bv-rem"
    ∷ codes "bv-sdiv" ∷ codes "bv-srem" ∷ codes "bv-smod" ∷ codes "bv-and" ∷ codes "bv-or" ∷ codes "bv-xor"
    ∷ codes "bv-shl" ∷ codes "bv-lshr" ∷ codes "bv-ashr" ∷ codes "bv-concat" ∷ codes "bv-extract"
    ∷ codes "bv-shift-left0" ∷ codes "bv-shift-right0" ∷ codes "bv-sign-extend" ∷ codes "bv-zero-extend"
    ∷ codes "bv-ge" ∷ codes "bv-gt" ∷ codes "bv-le" ∷ codes "bv-lt" ∷ codes "bv-sge" ∷ codes "bv-sgt" ∷ codes "bv-sle" ∷ codes "bv-slt" ∷ []

-- the word is among the words
abbrev pub is_among : List (List ℕ) → List ℕ → Bool
is_among words w = list_any (bytes_eq w) words

-- a digit of a numeral
abbrev pub is_digit : ℕ → Bool
is_digit b = nat_le 48 b && nat_le b 57

-- a word that begins with a digit, or with a sign and then a digit, is a literal
abbrev pub begins_as_literal : List ℕ → Bool
begins_as_literal [] = false
begins_as_literal (b ∷ bs) = is_digit b || ((b == 43 || b == 45) && begins_with is_digit bs)

-- a name is a word that is no literal and no word of terms
abbrev pub is_name : List ℕ → Bool
is_name w = not (begins_as_literal w) && not (is_among term_words w)

-- one byte or more, and each passes the test
abbrev pub are_some : (ℕ → Bool) → List ℕ → Bool
are_some test [] = false
are_some test (b ∷ bs) = test b && list_all test bs

-- a whole number without a sign
abbrev pub is_whole : List ℕ → Bool
is_whole w = are_some is_digit w

-- what may stand behind the first digits of a number: nothing, a denominator, or decimals
abbrev pub is_number_end : List ℕ → Bool
is_number_end [] = true
is_number_end (b ∷ bs) = (b == 47 || b == 46) && are_some is_digit bs

-- the word without its sign
abbrev pub unsigned : List ℕ → List ℕ
unsigned [] = []
unsigned (b ∷ bs) = if b == 43 || b == 45 then bs else b ∷ bs

-- digits, and then the end of a number
abbrev pub is_unsigned : List ℕ → Bool
is_unsigned w = nat_lt 0 (prefix_len is_digit w) && is_number_end (drop (prefix_len is_digit w) w)

-- a whole number, a fraction or a decimal, perhaps with a sign
abbrev pub is_number : List ℕ → Bool
is_number w = is_unsigned (unsigned w)

-- a binary digit
abbrev pub is_bit : ℕ → Bool
is_bit b = b == 48 || b == 49

-- a hexadecimal digit of either case
abbrev pub is_hex_digit : ℕ → Bool
is_hex_digit b = is_digit b || (nat_le 65 b && nat_le b 70) || (nat_le 97 b && nat_le b 102)

-- digits behind a zero and that letter
abbrev pub has_prefix : ℕ → (ℕ → Bool) → List ℕ → Bool
has_prefix letter test [] = false
has_prefix letter test (a ∷ []) = false
has_prefix letter test (a ∷ b ∷ bs) = a == 48 && b == letter && are_some test bs

-- bits behind `0b`
abbrev pub is_binary : List ℕ → Bool
is_binary w = has_prefix 98 is_bit w

-- hexadecimal digits behind `0x`
abbrev pub is_hex : List ℕ → Bool
is_hex w = has_prefix 120 is_hex_digit w

-- a literal of none of these forms
abbrev pub is_bad_literal : List ℕ → Bool
is_bad_literal w = begins_as_literal w && not (is_number w || is_binary w || is_hex w)

-- the token is such a literal
abbrev pub is_bad_token : Lexeme → Bool
is_bad_token open_bracket = false
is_bad_token close_bracket = false
is_bad_token typing_mark = false
is_bad_token (word w) = is_bad_literal w
is_bad_token (string s) = false

-- the words that are no names of types
abbrev pub type_words : List (List ℕ)
type_words = codes "bool" ∷ codes "real" ∷ codes "bitvector" ∷ codes "->" ∷ []

-- a name of a type is a word that is no literal and no word of types
abbrev pub is_type_name : List ℕ → Bool
is_type_name w = not (begins_as_literal w) && not (is_among type_words w)

-- the operators between a term and a count
abbrev pub count_operators : List (List ℕ)
count_operators = codes "bv-shift-left0" ∷ codes "bv-shift-right0" ∷ codes "bv-sign-extend" ∷ codes "bv-zero-extend" ∷ []

-- the words of terms with a form of their own, or none
abbrev pub special_words : List (List ℕ)
special_words = codes "true" ∷ codes "false" ∷ codes "let" ∷ codes "forall" ∷ codes "update" ∷ codes "mk-bv" ∷ codes "bv-extract" ∷ []

-- the operators over any number of terms
abbrev pub is_operator : List ℕ → Bool
is_operator w = is_among term_words w && not (is_among special_words w) && not (is_among count_operators w)
