-- The same, computed: what a line says, token by token.
use Rattle.std.specs.Prelude.{ℕ, zero, suc, ◌+◌, ◌-◌, ◌^◌, ◌==◌, Bool, true, false, ◌&&◌, ◌||◌, Option, Some, None, List, [], ◌∷◌, ◌++◌, length, take, drop, nat_le, nat_lt, codes, if◌then◌else◌}
use Rattle.std.specs.List.{prefix_len, position_or_len, before_first, after_first}
use Rattle.std.specs.Str.{bytes_eq}
use Rattle.std.specs.Str.Parse.{digits_value}
use Rattle.yices_grammar.specs.Words.{is_digit, are_some, is_among}
use Rattle.call_script.specs.declared.words.CallWord.{CallWord}
use Rattle.call_script.specs.declared.words.CallWord.TheVariants as call
use Rattle.call_script.specs.declared.words.ArgumentKind.{ArgumentKind}
use Rattle.call_script.specs.declared.words.ArgumentKind.TheVariants as kind
use Rattle.call_script.specs.declared.lines.LineEnd.{LineEnd}
use Rattle.call_script.specs.declared.lines.LineEnd.TheVariants as line_end
use Rattle.call_script.specs.Calls.{form_of, later_words, kind_at}
use Rattle.call_script.specs.Tokens.{Lexeme, word, name, lexeme_bytes, Token, Tail, over, inside_word, inside_name, bad, bad_in_name, stray, is_separator, is_bracket, is_word_byte, is_name_byte}
use Rattle.call_script.specs.Lines.{Written, reference, entry, flag, limit, quoted, Front, start, part, bad_byte, unexpected, end_of_input, Reading, nothing, called, unfinished, fault, not_built}

-- more may come
abbrev pub is_open : LineEnd → Bool
is_open line_end.Newline = false
is_open line_end.TextEnd = false
is_open line_end.Open = true

-- there is no byte
abbrev pub is_nil : List ℕ → Bool
is_nil [] = true
is_nil (b ∷ bs) = false

-- what stands first: a token and the bytes behind it, or the tail
pub data Piece : Type 0 where
  a_token : Token → List ℕ → Piece
  no_token : Tail → Piece

-- the word of so many bytes that begins there
abbrev pub word_piece : LineEnd → ℕ → List ℕ → ℕ → Piece
word_piece end here bytes n =
    if is_nil (drop n bytes) && is_open end then no_token inside_word else a_token (record { column = here; lexeme = word (take n bytes) }) (drop n bytes)

-- what ends a name, whose bytes and what stands behind them are given
abbrev pub name_end : ℕ → List ℕ → List ℕ → Piece
name_end here s [] = no_token (inside_name here)
name_end here s (b ∷ behind) = if b == 34 then a_token (record { column = here; lexeme = name s }) behind else no_token (bad_in_name here (here + 1 + length s))

-- the name whose quote stands there, with so many bytes behind it
abbrev pub name_piece : ℕ → List ℕ → ℕ → Piece
name_piece here bytes n = name_end here (take n bytes) (drop n bytes)

-- what stands right there
unfoldable pub piece_at : LineEnd → Bool → ℕ → List ℕ → Piece
piece_at end free here [] = no_token over
piece_at end free here (b ∷ bs) =
    if b == 59 then no_token over
    else if is_bracket b then no_token (stray here)
    else if b == 34 then (if free then name_piece here bs (prefix_len is_name_byte bs) else no_token (stray here))
    else if is_word_byte b then (if free then word_piece end here (b ∷ bs) (prefix_len is_word_byte (b ∷ bs)) else no_token (stray here))
    else no_token (bad here)

-- what stands behind the separators, so many
abbrev pub piece_behind : LineEnd → Bool → ℕ → List ℕ → ℕ → Piece
piece_behind end free here bytes n = piece_at end (free || nat_lt 0 n) (here + n) (drop n bytes)

-- what stands behind the separators
abbrev pub next_piece : LineEnd → Bool → ℕ → List ℕ → Piece
next_piece end free here bytes = piece_behind end free here bytes (prefix_len is_separator bytes)

-- the tokens of a line, and what stands behind the last of them
pub record Parts : Type 0 where
  pub tokens : List Token
  pub tail : Tail

-- a token in front
abbrev pub with_token : Token → Parts → Parts
with_token t parts = record { tokens = t ∷ parts.tokens; tail = parts.tail }

-- the column behind a token
abbrev pub column_behind : Token → ℕ
column_behind t = t.column + length (lexeme_bytes t.lexeme)

-- the parts of a line that begins with the piece, where those behind a token are known
abbrev pub parts_of : (Token → List ℕ → Parts) → Piece → Parts
parts_of rest (a_token t behind) = with_token t (rest t behind)
parts_of rest (no_token tail) = record { tokens = []; tail = tail }

-- the parts of a line from a column on, found in so many steps
unfoldable pub cut_in : ℕ → LineEnd → Bool → ℕ → List ℕ → Parts
cut_in zero end free here bytes = record { tokens = []; tail = over }
cut_in (suc steps) end free here bytes = parts_of (λ t behind. cut_in steps end false (column_behind t) behind) (next_piece end free here bytes)

-- the parts of a line from a column on
abbrev pub cut : LineEnd → Bool → ℕ → List ℕ → Parts
cut end free here bytes = cut_in (suc (length bytes)) end free here bytes

-- the calls, in the order of their forms
abbrev pub all_calls : List CallWord
all_calls =
    call.BoolType ∷ call.True ∷ call.False ∷ call.NewUninterpretedTerm ∷ call.NewVariable ∷ call.Not ∷ call.And ∷ call.Or ∷ call.Xor ∷ call.Implies ∷ call.Iff
    ∷ call.Ite ∷ call.Eq ∷ call.Neq ∷ call.Distinct ∷ call.TypeOfTerm ∷ call.PpTerm ∷ call.IncrefTerm ∷ call.DecrefTerm ∷ call.IncrefType ∷ call.DecrefType
    ∷ call.NumTerms ∷ call.NumTypes ∷ call.GarbageCollect ∷ call.SetTermName ∷ call.SetTypeName ∷ call.GetTermByName ∷ call.GetTypeByName ∷ call.GetTermName
    ∷ call.GetTypeName ∷ call.RemoveTermName ∷ call.RemoveTypeName ∷ call.NewContext ∷ call.FreeContext ∷ call.ResetContext ∷ call.Push ∷ call.Pop
    ∷ call.ContextStatus ∷ call.AssertFormula ∷ call.CheckContext ∷ call.CheckContextWithAssumptions ∷ call.GetUnsatCore ∷ []

-- the first of the calls with that word
abbrev pub named_among : List CallWord → List ℕ → Option CallWord
named_among [] w = None
named_among (c ∷ cs) w = if bytes_eq (form_of c).text w then Some c else named_among cs w

-- the call with that word
unfoldable pub call_named : List ℕ → Option CallWord
call_named w = named_among all_calls w

-- the number that digits stand for
abbrev pub number_of : List ℕ → ℕ
number_of ds = if nat_le (2 ^ 64) (digits_value 10 ds) then 2 ^ 64 - 1 else digits_value 10 ds

-- the number of a numeral
unfoldable pub numeral : List ℕ → Option ℕ
numeral ds = if are_some is_digit ds then Some (number_of ds) else None

-- a reference by its number
abbrev pub as_reference : Option ℕ → Option Written
as_reference None = None
as_reference (Some n) = Some (reference n)

-- an entry by its numbers
abbrev pub as_entry : Option ℕ → Option ℕ → Option Written
as_entry (Some n) (Some i) = Some (entry n i)
as_entry _ _ = None

-- a point
abbrev pub is_point : ℕ → Bool
is_point b = b == 46

-- what stands behind the sign of a reference: a numeral, or two with a point between them
abbrev pub numbers_of : List ℕ → Option Written
numbers_of bs =
    if nat_lt (position_or_len is_point bs) (length bs) then as_entry (numeral (before_first is_point bs)) (numeral (after_first is_point bs))
    else as_reference (numeral bs)

-- a reference
unfoldable pub reference_of : List ℕ → Option Written
reference_of [] = None
reference_of (b ∷ bs) = if b == 35 then numbers_of bs else None

-- a flag
unfoldable pub flag_of : List ℕ → Option Written
flag_of w = if bytes_eq w (codes "true") then Some (flag true) else if bytes_eq w (codes "false") then Some (flag false) else None

-- the number of a numeral below 2^64
unfoldable pub counted : List ℕ → Option ℕ
counted ds = if are_some is_digit ds && nat_lt (digits_value 10 ds) (2 ^ 64) then Some (digits_value 10 ds) else None

-- a limit by its number
abbrev pub as_limit : Option ℕ → Option Written
as_limit None = None
as_limit (Some n) = Some (limit (Some n))

-- a limit of turns, or none
unfoldable pub limit_of : List ℕ → Option Written
limit_of w = if bytes_eq w (codes "whole") then Some (limit None) else as_limit (counted w)

-- a name that isn't empty
abbrev pub quoted_of : List ℕ → Option Written
quoted_of [] = None
quoted_of (b ∷ bs) = Some (quoted (b ∷ bs))

-- the argument of that kind
abbrev pub argument_of : ArgumentKind → Lexeme → Option Written
argument_of kind.Flag (word w) = flag_of w
argument_of kind.Turns (word w) = limit_of w
argument_of kind.Name (word w) = None
argument_of k (word w) = reference_of w
argument_of kind.Name (name s) = quoted_of s
argument_of k (name s) = None

-- the argument of that kind, where one may stand
abbrev pub argument_if : Option ArgumentKind → Lexeme → Option Written
argument_if None l = None
argument_if (Some k) l = argument_of k l

-- the call's argument at a place
abbrev pub argument_at : CallWord → ℕ → Lexeme → Option Written
argument_at w place l = argument_if (kind_at w place) l

-- the call that the token is the word of
abbrev pub word_call : Lexeme → Option CallWord
word_call (word w) = call_named w
word_call (name s) = None

-- the token is the word of a call that isn't built
abbrev pub is_later : Lexeme → Bool
is_later (word w) = is_among later_words w
is_later (name s) = false

-- the tokens with one more, where it can stand
abbrev pub with_word : ℕ → Option CallWord → Option Front
with_word column None = None
with_word column (Some w) = Some (part column w [])

-- the same of an argument
abbrev pub with_argument : ℕ → CallWord → List Written → Option Written → Option Front
with_argument column w args None = None
with_argument column w args (Some a) = Some (part column w (args ++ a ∷ []))

-- what the tokens are with one more
abbrev pub go_on : Front → Token → Option Front
go_on start t = with_word t.column (word_call t.lexeme)
go_on (part column w args) t = with_argument column w args (argument_at w (length args) t.lexeme)

-- what a token says that can't stand there
abbrev pub refusal : Front → Token → Reading
refusal start t = if is_later t.lexeme then not_built t.column else fault unexpected t.column
refusal (part column w args) t = fault unexpected t.column

-- a line that ends too early
abbrev pub too_early : LineEnd → ℕ → Reading
too_early line_end.Newline last = fault unexpected last
too_early line_end.TextEnd last = fault end_of_input last
too_early line_end.Open last = unfinished

-- a line that is whole, unless it may go on
abbrev pub if_ended : LineEnd → Reading → Reading
if_ended end r = if is_open end then unfinished else r

-- the next argument may be a name
abbrev pub is_name_kind : Option ArgumentKind → Bool
is_name_kind None = false
is_name_kind (Some kind.Name) = true
is_name_kind (Some k) = false

abbrev pub name_may_stand : Front → Bool
name_may_stand start = false
name_may_stand (part column w args) = is_name_kind (kind_at w (length args))

-- what the end of a line says
abbrev pub at_end : LineEnd → ℕ → Front → Reading
at_end end last start = if_ended end nothing
at_end end last (part column w args) = if nat_le (length (form_of w).fixed) (length args) then if_ended end (called column w args) else too_early end last

-- what a tail says behind tokens
unfoldable pub at_tail : LineEnd → ℕ → Front → Tail → Reading
at_tail end last f over = at_end end last f
at_tail end last f inside_word = unfinished
at_tail end last f (inside_name at) = if name_may_stand f then too_early end last else fault unexpected at
at_tail end last f (bad at) = fault bad_byte at
at_tail end last f (bad_in_name at there) = if name_may_stand f then fault bad_byte there else fault unexpected at
at_tail end last f (stray at) = fault unexpected at

-- what tokens and a tail say behind others
unfoldable pub said : LineEnd → ℕ → Front → List Token → Tail → Reading
said end last f [] tail = at_tail end last f tail
said end last f (t ∷ ts) tail = elim (go_on f t) as (λ _. Reading) [ Some g ↦ said end last g ts tail | None ↦ refusal f t ]

-- what the bytes of a line from a column on say behind some tokens
abbrev pub said_from : LineEnd → ℕ → Front → Bool → ℕ → List ℕ → Reading
said_from end last f free here bytes = said end last f (cut end free here bytes).tokens (cut end free here bytes).tail

-- what a line says
abbrev pub judged : LineEnd → List ℕ → Reading
judged end line = said_from end (length line + 1) start true 1 line
