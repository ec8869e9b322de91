-- The tokens of the code, as those of the definition.
use Rattle.std.specs.Prelude.{◌≡◌, ℕ, ◌+◌, ◌<◌, Bool, ◌&&◌, List, length, nat_lt}
use Rattle.call_script.specs.declared.scanning.Lexeme.{Lexeme}
use Rattle.call_script.specs.declared.scanning.Lexeme.TheVariants as lexeme
use Rattle.call_script.specs.declared.scanning.Token.{Token}
use Rattle.call_script.specs.declared.scanning.Tail.{Tail}
use Rattle.call_script.specs.declared.scanning.Tail.TheVariants as tail
use Rattle.call_script.specs.declared.scanning.Piece.{Piece}
use Rattle.call_script.specs.declared.scanning.Piece.TheVariants as piece
use Rattle.call_script.specs.Tokens as tokens
use Rattle.call_script.specs.Tokens.{word, name, over, inside_word, inside_name, bad, bad_in_name, stray}
use Rattle.call_script.specs.Judging as judging
use Rattle.call_script.specs.Judging.{a_token, no_token, column_behind}

-- a word or a name
abbrev pub plain_lexeme : Lexeme → tokens.Lexeme
plain_lexeme (lexeme.Word w) = word w.now
plain_lexeme (lexeme.Name s) = name s.now

-- what stands behind the tokens
abbrev pub plain_tail : Tail → tokens.Tail
plain_tail tail.Over = over
plain_tail tail.InsideWord = inside_word
plain_tail (tail.InsideName at) = inside_name at
plain_tail (tail.Bad at) = bad at
plain_tail (tail.BadInName at there) = bad_in_name at there
plain_tail (tail.Stray at) = stray at

-- a word or a name with its column
abbrev pub plain_token : Token → tokens.Token
plain_token t = record { column = t.column; lexeme = plain_lexeme t.lexeme }

-- what stands first
abbrev pub plain_piece : Piece → judging.Piece
plain_piece (piece.Token t behind) = a_token (plain_token t) behind.now
plain_piece (piece.Tail t) = no_token (plain_tail t)

-- the token takes some of the bytes, and the rest is what stands behind it
abbrev pub IsWithin : ℕ → List ℕ → judging.Piece → Type 0
IsWithin here bytes (a_token t behind) = (column_behind t + length behind ≡ here + length bytes) × (length behind < length bytes)
IsWithin here bytes (no_token tail) = Unit {0}

-- a byte of ASCII that stands for a letter, a mark or a space
abbrev pub is_printable : ℕ → Bool
is_printable b = nat_lt 31 b && nat_lt b 127
