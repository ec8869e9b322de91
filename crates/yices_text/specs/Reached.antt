-- How far a text was read.
use Rattle.std.specs.Prelude.{◌≡◌, ℕ, Bool, Some, List, [], ◌∷◌}
use Rattle.yices_grammar.specs.declared.Place.{Place}
use Rattle.yices_grammar.specs.Tokens.{Lexeme, Piece, tokens_from, start, Firm, end_place}
use Rattle.yices_grammar.specs.Commands.{Command}
use Rattle.yices_grammar.specs.Texts.{IsShallow, lexemes}
use Rattle.yices_grammar.specs.Machine.{State, between, run}
use Rattle.yices_parser.specs.Taking.{depth_behind}

-- how many brackets are open behind some tokens, where so many are open before them
unfoldable pub depths : ℕ → List Lexeme → ℕ
depths d [] = d
depths d (l ∷ ls) = depths (depth_behind d l) ls

-- the text up to the rest is these commands and what the state says; the rest begins at that place, and so many brackets are open there
pub record IsReached (finished : Bool) (fed rest : List ℕ) (place : Place) (commands : List Command) (s : State) (depth : ℕ) : Type 0 where
  pub pieces : List Piece
  pub firm : Firm finished pieces fed rest
  pub here : end_place start pieces ≡ place
  pub ran : run [] between (tokens_from start pieces) ≡ Some (record { state = s; commands = commands })
  pub shallow : IsShallow 0 (lexemes (tokens_from start pieces))
  pub brackets : depths 0 (lexemes (tokens_from start pieces)) ≡ depth
