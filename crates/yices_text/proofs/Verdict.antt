-- What is wrong behind a state, as a function of the text behind it.
use Rattle.std.proofs.Common.{ℕ, Bool, true, false, Option, Some, None, List, [], ◌∷◌, take}
use Rattle.std.specs.Prelude.{option_map, if◌then◌else◌}
use Rattle.yices_grammar.specs.declared.Place.{Place}
use Rattle.yices_grammar.specs.Tokens.{Lexeme, white, comment, token, place_behind}
use Rattle.yices_grammar.specs.Words.{is_bad_token}
use Rattle.yices_grammar.specs.Faults.{FaultKind, bad_byte, bad_literal, unexpected, end_of_input, nesting, Fault}
use Rattle.yices_grammar.specs.Machine.{State, between, inside, Moved, take_token}
use Rattle.yices_lexer.specs.Pieces.{Cut, first_cut, Break, bad, ends, break_of}
use Rattle.yices_parser.specs.Taking.{is_too_deep}

-- a fault of that kind at the place
abbrev pub fault_at : Place → FaultKind → Fault
fault_at at k = record { kind = k; place = at }

-- what is wrong where the machine takes no step
abbrev pub no_step : Option Moved → Option FaultKind
no_step (Some m) = None
no_step None = Some unexpected

-- what is wrong with a token behind the state, if anything is, where so many brackets are open
unfoldable pub token_fault : ℕ → State → Place → Lexeme → Option FaultKind
token_fault d s at l = if is_bad_token l then Some bad_literal else if is_too_deep d l then Some nesting else no_step (take_token s (record { place = at; lexeme = l }))

-- what is wrong at the end of the text
abbrev pub end_verdict : Bool → Place → State → List ℕ → Option Fault
end_verdict false at s rest = None
end_verdict true at s (b ∷ bs) = None
end_verdict true at between [] = None
end_verdict true at (inside m) [] = Some (fault_at at end_of_input)

-- what is wrong where no piece begins the text
abbrev pub break_verdict : Bool → Place → State → List ℕ → Option Break → Option Fault
break_verdict finished at s rest (Some (bad k)) = Some (fault_at (place_behind at (take k rest)) bad_byte)
break_verdict finished at s rest (Some ends) = Some (fault_at (place_behind at rest) end_of_input)
break_verdict finished at s rest None = end_verdict finished at s rest

-- what is wrong, if the text begins with that piece or with none
abbrev pub piece_verdict : Bool → ℕ → Place → State → List ℕ → Option Cut → Option Fault
piece_verdict finished d at s rest (Some (white b, behind)) = None
piece_verdict finished d at s rest (Some (comment bs, behind)) = None
piece_verdict finished d at s rest (Some (token l, behind)) = option_map (fault_at at) (token_fault d s at l)
piece_verdict finished d at s rest None = break_verdict finished at s rest (break_of finished rest)

-- what is wrong behind the state, where so many brackets are open
abbrev pub verdict : Bool → ℕ → Place → State → List ℕ → Option Fault
verdict finished d at s rest = piece_verdict finished d at s rest (first_cut rest)
