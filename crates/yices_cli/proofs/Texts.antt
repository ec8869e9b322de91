-- How many commands a text holds.
use Rattle.std.proofs.Common.{ℕ, suc, ◌≡◌, ◌<◌, ◌≤◌, List, [], ◌∷◌, ◌++◌, length, refl, sym, ap, subst, arith, length-append}
use Rattle.yices_grammar.specs.declared.Place.{Place}
use Rattle.yices_grammar.specs.Tokens.{Token, Piece, white, comment, token, open_bracket, close_bracket, typing_mark, word, string, Cuts, place_behind, tokens_from, lexeme_bytes, start}
use Rattle.yices_grammar.specs.Commands.{Command}
use Rattle.yices_grammar.specs.Reading.{Gives, SpellsCommand, SpellsCommands}
use Rattle.yices_grammar.specs.Texts.{BeginsWith}
use Rattle.yices_commands.specs.declared.command.Command as code
use Rattle.yices_text.specs.View.{says}

-- a text has no more commands than bytes
tokens_few : (at : Place) (ps : List Piece) (text rest : List ℕ) → Cuts ps text rest → length (tokens_from at ps) ≤ length text
tokens_few at [] text rest cut = omega arith
tokens_few at (white b ∷ ps) text rest (behind, is, piece, cut) =
    omega (arith, ap length is, tokens_few (place_behind at (b ∷ [])) ps behind rest cut)
tokens_few at (comment bs ∷ ps) text rest (behind, is, piece, cut) =
    omega (arith, ap length is, length-append bs behind, tokens_few (place_behind at (59 ∷ bs)) ps behind rest cut)
tokens_few at (token open_bracket ∷ ps) text rest (behind, is, piece, cut) = omega (arith, ap length is, tokens_few (place_behind at (40 ∷ [])) ps behind rest cut)
tokens_few at (token close_bracket ∷ ps) text rest (behind, is, piece, cut) = omega (arith, ap length is, tokens_few (place_behind at (41 ∷ [])) ps behind rest cut)
tokens_few at (token typing_mark ∷ ps) text rest (behind, is, piece, cut) = omega (arith, ap length is, tokens_few (place_behind at (58 ∷ 58 ∷ [])) ps behind rest cut)
tokens_few at (token (word w) ∷ ps) text rest (behind, is, piece, cut) =
    omega (arith, ap length is, length-append w behind, piece.0, tokens_few (place_behind at w) ps behind rest cut)
tokens_few at (token (string s) ∷ ps) text rest (behind, is, piece, cut) =
    omega (arith, ap length is, length-append (s ++ 34 ∷ []) behind, tokens_few (place_behind at (lexeme_bytes (string s))) ps behind rest cut)

-- a command has a token
some_tokens : (c : Command) (ts : List Token) → SpellsCommand c ts → 0 < length ts
unfolding Gives
some_tokens c [] spelled = absurd spelled
some_tokens c (t ∷ ts) spelled = omega arith

commands_few : (cs : List Command) (ts : List Token) → SpellsCommands cs ts → length cs ≤ length ts
commands_few [] ts spelled = omega arith
commands_few (c ∷ cs) ts (first, rest, one, more, is) = omega (arith, ap length is, length-append first rest, some_tokens c first one, commands_few cs rest more)

pub few : (text : List ℕ) (cs : List Command) → BeginsWith text cs → length cs ≤ length text
few text cs (rest, ps, cut, are) = omega (arith, commands_few cs (tokens_from start ps) are.spelled, tokens_few start ps text rest cut)

-- what commands say are as many
pub length_says : (cs : List code.Command) → length (says cs) ≡ length cs
length_says [] = refl
length_says (c ∷ cs) = ap suc (length_says cs)

-- each text begins with no commands
pub begins_none : (text : List ℕ) (cs : List Command) → cs ≡ [] → BeginsWith text cs
begins_none text cs none = subst (BeginsWith text) (sym none) (text, [], refl, record { spelled = refl; shallow = tt })
