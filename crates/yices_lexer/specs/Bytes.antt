-- How bytes make tokens, one by one.
use Rattle.std.specs.Prelude.{◌≡◌, ℕ, ◌<◌, Bool, true, false, not, ◌==◌, Some, List, [], ◌∷◌, ◌++◌, length}
use Rattle.std.specs.List.{list_all}
use Rattle.yices_grammar.specs.Tokens as tokens
use Rattle.yices_grammar.specs.Tokens.{open_bracket, close_bracket, typing_mark, string, lexeme_bytes, is_white, is_word_byte, is_in_line, is_content}
use Rattle.yices_lexer.specs.Pieces.{passes, bad, break_of}
use Rattle.yices_lexer.specs.declared.lexing.Lexing.{Lexing}
use Rattle.yices_lexer.specs.declared.lexing.Lexing.TheVariants as lexing
use Rattle.yices_lexer.specs.declared.lexing.Ended.{Ended}
use Rattle.yices_lexer.specs.declared.lexing.Ended.TheVariants as ended
use Rattle.yices_lexer.specs.declared.lexing.Lexed.{Lexed}
use Rattle.yices_lexer.specs.declared.lexing.Lexed.TheVariants as lexed

-- the bytes are those of what was read of a token or a comment
abbrev pub IsLexing : Lexing → List ℕ → Type 0
IsLexing lexing.Blank rest = rest ≡ []
IsLexing lexing.Comment rest = (bs : List ℕ) × (rest ≡ 59 ∷ bs) × (list_all is_in_line bs ≡ true)
IsLexing lexing.Colon rest = rest ≡ 58 ∷ []
IsLexing (lexing.Word w) rest = (rest ≡ w) × (0 < length w) × (list_all is_word_byte w ≡ true)
IsLexing (lexing.Quoted bytes escaped) rest = (rest ≡ 34 ∷ bytes) × (passes false bytes ≡ Some escaped)

-- a word or a comment that was read ends before the byte
abbrev pub is_ended : Lexing → ℕ → Bool
is_ended (lexing.Word w) b = not (is_word_byte b)
is_ended lexing.Comment b = b == 10
is_ended lexing.Blank b = false
is_ended lexing.Colon b = false
is_ended (lexing.Quoted bytes escaped) b = false

-- a token with its last byte as one of the grammar
abbrev pub plain_ended : Ended → tokens.Lexeme
plain_ended ended.Open = open_bracket
plain_ended ended.Close = close_bracket
plain_ended ended.Mark = typing_mark
plain_ended (ended.Quoted s) = string s

-- the bytes that are kept are those of a word, or the start of a string
abbrev pub IsHeld : Lexing → Type 0
IsHeld (lexing.Word w) = list_all is_word_byte w ≡ true
IsHeld (lexing.Quoted bytes escaped) = passes false bytes ≡ Some escaped
IsHeld lexing.Blank = Unit {0}
IsHeld lexing.Comment = Unit {0}
IsHeld lexing.Colon = Unit {0}

-- where the token is a string, its bytes can stand in one
abbrev pub IsGoodEnded : Ended → Type 0
IsGoodEnded ended.Open = Unit {0}
IsGoodEnded ended.Close = Unit {0}
IsGoodEnded ended.Mark = Unit {0}
IsGoodEnded (ended.Quoted s) = is_content s ≡ true

-- the bytes that are kept are so
abbrev pub IsHeldLexed : Lexed → Type 0
IsHeldLexed (lexed.Goes l) = IsHeld l
IsHeldLexed (lexed.Token t) = IsGoodEnded t
IsHeldLexed lexed.White = Unit {0}
IsHeldLexed lexed.BadByte = Unit {0}
IsHeldLexed lexed.LoneColon = Unit {0}

-- what a byte makes of the bytes that were read
abbrev pub IsLexed : List ℕ → ℕ → Lexed → Type 0
IsLexed rest b (lexed.Goes l) = IsLexing l (rest ++ b ∷ [])
IsLexed rest b lexed.White = (rest ≡ []) × (is_white b ≡ true)
IsLexed rest b (lexed.Token t) = rest ++ b ∷ [] ≡ lexeme_bytes (plain_ended t)
IsLexed rest b lexed.BadByte = break_of false (rest ++ b ∷ []) ≡ Some (bad (length rest))
IsLexed rest b lexed.LoneColon = break_of false (rest ++ b ∷ []) ≡ Some (bad 0)
