-- Where a reader stands in its text.
use Rattle.std.specs.Prelude.{◌≡◌, ℕ, ⊤, Bool, true, false, Result, Ok, Err, Option, Some, None, List, [], ◌∷◌, ◌++◌, length}
use Rattle.yices_grammar.specs.declared.Place.{Place}
use Rattle.yices_grammar.specs.Commands.{Command}
use Rattle.yices_grammar.specs.Tokens.{Lexeme, token, Firm, lexeme_bytes, place_behind}
use Rattle.yices_grammar.specs.Texts.{Reads, BeginsWith}
use Rattle.yices_grammar.specs.Faults.{Fault, bad_literal, nesting, unexpected}
use Rattle.yices_lexer.specs.Bytes.{IsLexing, IsLexed, is_ended}
use Rattle.yices_lexer.specs.declared.lexing.Lexing.TheVariants as lexing
use Rattle.yices_lexer.specs.declared.lexing.Lexed.{Lexed}
use Rattle.yices_parser.specs.Taking.{state_of, depth_of}
use Rattle.yices_parser.specs.declared.parser.TokenError.{TokenError}
use Rattle.yices_parser.specs.declared.parser.TokenError.TheVariants as token_error
use Rattle.yices_text.specs.declared.error.ReadError.{ReadError}
use Rattle.yices_text.specs.declared.scanner.Scanner.{Scanner}
use Rattle.yices_text.specs.Reached.{IsReached}
use Rattle.yices_text.specs.View.{says}
use Rattle.yices_text.specs.Waiting.{IsFaultOf}

-- all commands that were read: those that were answered, and those that wait
abbrev pub all_of : List Command → Scanner → List Command
all_of answered c = answered ++ says c.waiting

-- the text was read up to the rest
abbrev pub IsRead : Bool → List ℕ → List ℕ → List Command → Scanner → Type 0
IsRead finished fed rest answered c = IsReached finished fed rest c.first (all_of answered c) (state_of c.parser) (depth_of c.parser)

-- the text was read up to the bytes of the unfinished token
pub record IsAt (finished : Bool) (fed : List ℕ) (answered : List Command) (c : Scanner) : Type 0 where
  pub rest : List ℕ
  pub read : IsRead finished fed rest answered c
  pub lexing : IsLexing c.lexing rest
  pub here : c.at.place ≡ place_behind c.first rest
  pub index : c.at.index ≡ length fed

-- a byte more came, which stands behind no whole word or comment
pub record IsBefore (fed : List ℕ) (byte : ℕ) (answered : List Command) (c : Scanner) : Type 0 where
  pub rest : List ℕ
  pub read : IsRead false (fed ++ byte ∷ []) (rest ++ byte ∷ []) answered c
  pub lexing : IsLexing c.lexing rest
  pub here : c.at.place ≡ place_behind c.first rest
  pub index : c.at.index ≡ length fed
  pub open_ : is_ended c.lexing byte ≡ false

-- the text has the fault that the error stands for behind all commands that were read
pub record Stops (finished : Bool) (fed : List ℕ) (answered : List Command) (c : Scanner) (e : ReadError) : Type 0 where
  pub fault : IsFaultOf finished fed (all_of answered c) e
  pub begins : BeginsWith fed (all_of answered c)

-- behind a token
abbrev pub Advances : Bool → List ℕ → List ℕ → List Command → Scanner → Result ⊤ ReadError → Type 0
Advances finished fed behind answered c (Ok x) = IsRead finished fed behind answered c
Advances finished fed behind answered c (Err e) = Stops finished fed answered c e

-- the place behind a token that was taken
abbrev pub FirstIs : Result ⊤ ReadError → Place → Place → Type 0
FirstIs (Ok x) at next = at ≡ next
FirstIs (Err e) at next = Unit {0}

-- the token was handed to the parser, and the text goes on at that place
pub record TakesToken (old new : Scanner) (l : Lexeme) (next : Place) (r : Result ⊤ ReadError) : Type 0 where
  pub lexing : new.lexing ≡ old.lexing
  pub at : new.at ≡ old.at
  pub first : FirstIs r new.first next
  pub advances : (finished : Bool) (fed rest behind : List ℕ) (answered : List Command) → IsRead finished fed rest answered old → Firm finished (token l ∷ []) rest behind → next ≡ place_behind old.first (lexeme_bytes l)
      → Advances finished fed behind answered new r

-- before a byte
abbrev pub Readies : List ℕ → ℕ → List Command → Scanner → Result ⊤ ReadError → Type 0
Readies fed byte answered c (Ok x) = IsBefore fed byte answered c
Readies fed byte answered c (Err e) = Stops false (fed ++ byte ∷ []) answered c e

-- behind some bytes
abbrev pub Feeds : List ℕ → List Command → Scanner → Result ⊤ ReadError → Type 0
Feeds fed answered c (Ok x) = IsAt false fed answered c
Feeds fed answered c (Err e) = Stops false fed answered c e

-- what a byte makes of the bytes before it, where it was read but for what it makes; it stands at that place
pub record Makes (fed : List ℕ) (byte : ℕ) (answered : List Command) (c : Scanner) (l : Lexed) (place : Place) : Type 0 where
  pub rest : List ℕ
  pub read : IsRead false (fed ++ byte ∷ []) (rest ++ byte ∷ []) answered c
  pub made : IsLexed rest byte l
  pub here : place ≡ place_behind c.first rest
  pub behind : c.at.place ≡ place_behind c.first (rest ++ byte ∷ [])
  pub index : c.at.index ≡ length (fed ++ byte ∷ [])

-- at the end of the text, where no token is unfinished
abbrev pub Closes : List ℕ → List Command → Scanner → Result ⊤ ReadError → Type 0
Closes fed answered c (Ok x) = IsRead true fed [] answered c × (c.at.place ≡ c.first) × (c.at.index ≡ length fed) × (c.lexing ≡ lexing.Blank)
Closes fed answered c (Err e) = Stops true fed answered c e

-- at the end of the text
abbrev pub Ends : List ℕ → List Command → Scanner → Result ⊤ ReadError → Type 0
Ends fed answered c (Ok x) = IsAt true fed answered c × Reads fed (all_of answered c)
Ends fed answered c (Err e) = Stops true fed answered c e

-- the fault of a token at that place
abbrev pub token_fault_of : Place → TokenError → Option Fault
token_fault_of at token_error.BadLiteral = Some (record { kind = bad_literal; place = at })
token_fault_of at token_error.Nesting = Some (record { kind = nesting; place = at })
token_fault_of at token_error.Unexpected = Some (record { kind = unexpected; place = at })
token_fault_of at token_error.NoMemory = None
