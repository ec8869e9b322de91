-- How the bytes of a line are cut into tokens, and what stands behind the last of them.
use Rattle.std.specs.Prelude.{◌≡◌, ◌≢◌, ℕ, ◌+◌, ◌<◌, ◌⊎◌, Bool, true, false, not, ◌&&◌, ◌||◌, ◌==◌, List, [], ◌∷◌, ◌++◌, length, nat_lt}
use Rattle.std.specs.List.{list_all}
use Rattle.yices_grammar.specs.Tokens.{begins_with}
use Rattle.call_script.specs.declared.lines.LineEnd.{LineEnd}
use Rattle.call_script.specs.declared.lines.LineEnd.TheVariants as line_end

-- a tab or a space
abbrev pub is_separator : ℕ → Bool
is_separator b = b == 9 || b == 32

-- a bracket
abbrev pub is_bracket : ℕ → Bool
is_bracket b = b == 40 || b == 41

-- the brackets, the quote and the semicolon end a word
abbrev pub is_mark : ℕ → Bool
is_mark b = is_bracket b || b == 34 || b == 59

-- a word is made of the other printable bytes
abbrev pub is_word_byte : ℕ → Bool
is_word_byte b = nat_lt 32 b && nat_lt b 127 && not (is_mark b)

-- a name is made of printable bytes and spaces, but no quote and no backslash
abbrev pub is_name_byte : ℕ → Bool
is_name_byte b = nat_lt 31 b && nat_lt b 127 && not (b == 34 || b == 92)

-- no token, separator or comment begins with the byte
abbrev pub begins_nothing : ℕ → Bool
begins_nothing b = not (is_separator b || is_mark b || is_word_byte b)

-- a word, or a name without its quotes
pub data Lexeme : Type 0 where
  word : List ℕ → Lexeme
  name : List ℕ → Lexeme

-- the bytes of a word or a name
abbrev pub lexeme_bytes : Lexeme → List ℕ
lexeme_bytes (word w) = w
lexeme_bytes (name s) = 34 ∷ s ++ 34 ∷ []

-- a word or a name, with the column of its first byte
pub record Token : Type 0 where
  pub column : ℕ
  pub lexeme : Lexeme

-- a word is the longest run of its bytes, and is whole where a byte stands behind it or the line doesn't go on; a name is whole with its closing quote
abbrev pub IsWhole : LineEnd → Lexeme → List ℕ → Type 0
IsWhole end (word w) behind = (0 < length w) × (list_all is_word_byte w ≡ true) × (begins_with is_word_byte behind ≡ false) × (behind ≡ [] → end ≢ line_end.Open)
IsWhole end (name s) behind = list_all is_name_byte s ≡ true

-- what stands behind the tokens of a line, with columns
pub data Tail : Type 0 where
  -- the line's end, perhaps behind a comment
  over : Tail
  -- the end of an open line, inside a word
  inside_word : Tail
  -- the line's end, inside the name that begins there
  inside_name : ℕ → Tail
  -- a byte there that nothing can hold
  bad : ℕ → Tail
  -- in the name that begins at the first column, a byte at the second that no name can hold
  bad_in_name : ℕ → ℕ → Tail
  -- a byte there that begins no token: a bracket, or one where a separator is missing
  stray : ℕ → Tail

-- that stands there, in front of these bytes, the first of which has this column; a token may stand there where the flag says so
abbrev pub IsTail : LineEnd → Bool → ℕ → List ℕ → Tail → Type 0
IsTail end free here bytes over = (bytes ≡ []) ⊎ ((comment : List ℕ) × (bytes ≡ 59 ∷ comment))
IsTail end free here bytes inside_word = (end ≡ line_end.Open) × (free ≡ true) × (0 < length bytes) × (list_all is_word_byte bytes ≡ true)
IsTail end free here bytes (inside_name at) = (at ≡ here) × (free ≡ true) × (s : List ℕ) × (bytes ≡ 34 ∷ s) × (list_all is_name_byte s ≡ true)
IsTail end free here bytes (bad at) = (at ≡ here) × (begins_with begins_nothing bytes ≡ true)
IsTail end free here bytes (bad_in_name at k) =
    (at ≡ here) × (free ≡ true) × (s : List ℕ) × (b : ℕ) × (behind : List ℕ) × (bytes ≡ 34 ∷ s ++ b ∷ behind) × (list_all is_name_byte s ≡ true) × (is_name_byte b ≡ false) × (b ≢ 34) × (k ≡ here + 1 + length s)
IsTail end free here bytes (stray at) =
    (at ≡ here) × ((begins_with is_bracket bytes ≡ true) ⊎ ((free ≡ false) × (begins_with (λ b. b == 34 || is_word_byte b) bytes ≡ true)))

-- a token may stand behind the separators: there are some, or one may stand in front of them
abbrev pub is_free : Bool → List ℕ → Bool
is_free free [] = free
is_free free (b ∷ bs) = true

-- the bytes of a line from a column on are these tokens, with separators in front of each, and then that tail; a token may stand right there where the flag says so
abbrev pub Cuts : LineEnd → Bool → ℕ → List ℕ → List Token → Tail → Type 0
Cuts end free here bytes [] tail =
    (blanks : List ℕ) × (rest : List ℕ) × (bytes ≡ blanks ++ rest) × (list_all is_separator blanks ≡ true)
    × IsTail end (is_free free blanks) (here + length blanks) rest tail
Cuts end free here bytes (t ∷ ts) tail =
    (blanks : List ℕ) × (behind : List ℕ) × (bytes ≡ blanks ++ (lexeme_bytes t.lexeme ++ behind)) × (list_all is_separator blanks ≡ true) × (is_free free blanks ≡ true)
    × (t.column ≡ here + length blanks) × IsWhole end t.lexeme behind × Cuts end false (t.column + length (lexeme_bytes t.lexeme)) behind ts tail

-- a whole line, from column 1 on
abbrev pub CutsLine : LineEnd → List ℕ → List Token → Tail → Type 0
CutsLine end line ts tail = Cuts end true 1 line ts tail
