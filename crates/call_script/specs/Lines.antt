-- What a line of a script says: nothing, a call, or why it is none.
use Rattle.std.specs.Prelude.{◌≡◌, ◌≢◌, ℕ, suc, ◌+◌, ◌<◌, ◌^◌, ◌-◌, ◌⊎◌, Bool, true, false, Option, Some, None, List, [], ◌∷◌, ◌++◌, length, codes, nat_le, if◌then◌else◌}
use Rattle.std.specs.Str.Parse.{digits_value}
use Rattle.yices_grammar.specs.Words.{is_digit, are_some, is_among}
use Rattle.call_script.specs.declared.words.CallWord.{CallWord}
use Rattle.call_script.specs.declared.words.ArgumentKind.{ArgumentKind}
use Rattle.call_script.specs.declared.words.ArgumentKind.TheVariants as kind
use Rattle.call_script.specs.declared.lines.LineEnd.{LineEnd}
use Rattle.call_script.specs.declared.lines.LineEnd.TheVariants as line_end
use Rattle.call_script.specs.Calls.{form_of, later_words, kind_at, IsEnough, is_reference_kind}
use Rattle.call_script.specs.Tokens.{Lexeme, word, name, Token, Tail, over, inside_word, inside_name, bad, bad_in_name, stray, CutsLine}

-- an argument: the result of a line, an entry of a line's list, a flag, a limit of turns or none, or a name
pub data Written : Type 0 where
  reference : ℕ → Written
  entry : ℕ → ℕ → Written
  flag : Bool → Written
  limit : Option ℕ → Written
  quoted : List ℕ → Written

-- the digits are a numeral; a value past `2^64 - 1` counts as that
abbrev pub IsNumber : List ℕ → ℕ → Type 0
IsNumber ds n = (are_some is_digit ds ≡ true) × (n ≡ (if nat_le (2 ^ 64) (digits_value 10 ds) then 2 ^ 64 - 1 else digits_value 10 ds))

-- the text of a flag
abbrev pub flag_text : Bool → List ℕ
flag_text true = codes "true"
flag_text false = codes "false"

-- how a limit of turns is written: `whole` for none, or a numeral below 2^64
abbrev pub IsLimit : List ℕ → Option ℕ → Type 0
IsLimit w None = w ≡ codes "whole"
IsLimit w (Some n) = (are_some is_digit w ≡ true) × (n ≡ digits_value 10 w) × (n < 2 ^ 64)

-- how an argument of a kind is written: `#k`, `#k.i`, a flag, a limit, or a name
abbrev pub IsWritten : ArgumentKind → Lexeme → Written → Type 0
IsWritten k (word w) (reference n) = (is_reference_kind k ≡ true) × (ds : List ℕ) × (w ≡ 35 ∷ ds) × IsNumber ds n
IsWritten k (word w) (entry n i) = (is_reference_kind k ≡ true) × (ds : List ℕ) × (es : List ℕ) × (w ≡ 35 ∷ ds ++ 46 ∷ es) × IsNumber ds n × IsNumber es i
IsWritten k (word w) (flag b) = (k ≡ kind.Flag) × (w ≡ flag_text b)
IsWritten k (word w) (limit n) = (k ≡ kind.Turns) × IsLimit w n
IsWritten k (word w) (quoted s) = ⊥
IsWritten k (name s) (quoted t) = (k ≡ kind.Name) × (0 < length s) × (t ≡ s)
IsWritten k (name s) _ = ⊥

-- the token is that argument of the call, at a place from 0
abbrev pub IsArgument : CallWord → ℕ → Token → Written → Type 0
IsArgument w place t a = (k : ArgumentKind) × (kind_at w place ≡ Some k) × IsWritten k t.lexeme a

-- the tokens are these arguments of the call, the first one at that place
abbrev pub AreArguments : CallWord → ℕ → List Token → List Written → Type 0
AreArguments w place [] [] = Unit {0}
AreArguments w place [] (a ∷ others) = ⊥
AreArguments w place (t ∷ ts) [] = ⊥
AreArguments w place (t ∷ ts) (a ∷ others) = IsArgument w place t a × AreArguments w (suc place) ts others

-- what the first tokens of a line are: nothing, or a call's word, with its column, and its first arguments
pub data Front : Type 0 where
  start : Front
  part : ℕ → CallWord → List Written → Front

-- the tokens are that
abbrev pub IsFront : List Token → Front → Type 0
IsFront [] start = Unit {0}
IsFront [] (part column w args) = ⊥
IsFront (t ∷ ts) start = ⊥
IsFront (t ∷ ts) (part column w args) = (t.lexeme ≡ word (form_of w).text) × (column ≡ t.column) × AreArguments w 0 ts args

-- the tokens begin a call
abbrev pub BeginsCall : List Token → Type 0
BeginsCall ts = (f : Front) × IsFront ts f

-- the token is the word of a call that isn't built
abbrev pub IsLater : Lexeme → Type 0
IsLater (word w) = is_among later_words w ≡ true
IsLater (name s) = ⊥

-- what is wrong
pub data FaultKind : Type 0 where
  bad_byte : FaultKind
  unexpected : FaultKind
  end_of_input : FaultKind

-- what a line says; numbers are columns
pub data Reading : Type 0 where
  nothing : Reading
  called : ℕ → CallWord → List Written → Reading
  unfinished : Reading
  fault : FaultKind → ℕ → Reading
  not_built : ℕ → Reading

-- the line ends too early, at that column
abbrev pub EndsEarly : LineEnd → ℕ → FaultKind → ℕ → Type 0
EndsEarly line_end.Newline last k column = (k ≡ unexpected) × (column ≡ last)
EndsEarly line_end.TextEnd last k column = (k ≡ end_of_input) × (column ≡ last)
EndsEarly line_end.Open last k column = ⊥

-- the next argument may be a name
abbrev pub NameMayStand : Front → Type 0
NameMayStand start = ⊥
NameMayStand (part column w args) = kind_at w (length args) ≡ Some kind.Name

-- the tokens are a call's word and too few arguments
abbrev pub IsPart : Front → Type 0
IsPart start = ⊥
IsPart (part column w args) = IsEnough w (length args) → ⊥

-- the first token with which those so far begin no call, unless it is the line's first and the word of a call that isn't built
pub record IsUnexpected (ts : List Token) (column : ℕ) : Type 0 where
  pub before : List Token
  pub token : Token
  pub behind : List Token
  pub is : ts ≡ before ++ token ∷ behind
  pub good : BeginsCall before
  pub wrong : BeginsCall (before ++ token ∷ []) → ⊥
  pub built : before ≡ [] → IsLater token.lexeme → ⊥
  pub place : column ≡ token.column

-- what is wrong behind tokens that begin a call
abbrev pub IsWrong : LineEnd → ℕ → Front → Tail → FaultKind → ℕ → Type 0
IsWrong end last f over k column = IsPart f × EndsEarly end last k column
IsWrong end last f inside_word k column = ⊥
IsWrong end last f (inside_name at) k column = (NameMayStand f × EndsEarly end last k column) ⊎ ((NameMayStand f → ⊥) × (k ≡ unexpected) × (column ≡ at))
IsWrong end last f (bad at) k column = (k ≡ bad_byte) × (column ≡ at)
IsWrong end last f (bad_in_name at there) k column =
    (NameMayStand f × (k ≡ bad_byte) × (column ≡ there)) ⊎ ((NameMayStand f → ⊥) × (k ≡ unexpected) × (column ≡ at))
IsWrong end last f (stray at) k column = (k ≡ unexpected) × (column ≡ at)

-- nothing is wrong yet in an open line
abbrev pub MayGoOn : Front → Tail → Type 0
MayGoOn f over = Unit {0}
MayGoOn f inside_word = Unit {0}
MayGoOn f (inside_name at) = NameMayStand f
MayGoOn f (bad at) = ⊥
MayGoOn f (bad_in_name at there) = ⊥
MayGoOn f (stray at) = ⊥

-- what tokens and a tail say; the last number is the column behind the line's bytes
abbrev pub Means : LineEnd → ℕ → List Token → Tail → Reading → Type 0
Means end last ts tail nothing = (end ≢ line_end.Open) × (ts ≡ []) × (tail ≡ over)
Means end last ts tail (called column w args) = (end ≢ line_end.Open) × IsFront ts (part column w args) × IsEnough w (length args) × (tail ≡ over)
Means end last ts tail unfinished = (end ≡ line_end.Open) × (f : Front) × IsFront ts f × MayGoOn f tail
Means end last ts tail (fault k column) = ((k ≡ unexpected) × IsUnexpected ts column) ⊎ ((f : Front) × IsFront ts f × IsWrong end last f tail k column)
Means end last ts tail (not_built column) = (t : Token) × (behind : List Token) × (ts ≡ t ∷ behind) × IsLater t.lexeme × (column ≡ t.column)

-- what a line of these bytes says, where it ends so
abbrev pub Says : LineEnd → List ℕ → Reading → Type 0
Says end line r = (ts : List Token) × (tail : Tail) × CutsLine end line ts tail × Means end (length line + 1) ts tail r

-- the argument is of the kind
abbrev pub IsOfKind : ArgumentKind → Written → Type 0
IsOfKind k (reference n) = is_reference_kind k ≡ true
IsOfKind k (entry n i) = is_reference_kind k ≡ true
IsOfKind k (flag b) = k ≡ kind.Flag
IsOfKind k (limit n) = k ≡ kind.Turns
IsOfKind k (quoted s) = k ≡ kind.Name

-- the arguments are of the kinds, in order; those behind the first ones are of the repeated kind
abbrev pub HaveKinds : List ArgumentKind → Option ArgumentKind → List Written → Type 0
HaveKinds [] None [] = Unit {0}
HaveKinds [] None (a ∷ others) = ⊥
HaveKinds [] (Some k) [] = Unit {0}
HaveKinds [] (Some k) (a ∷ others) = IsOfKind k a × HaveKinds [] (Some k) others
HaveKinds (k ∷ ks) repeated [] = ⊥
HaveKinds (k ∷ ks) repeated (a ∷ others) = IsOfKind k a × HaveKinds ks repeated others

-- the arguments have the form of the call
abbrev pub HasForm : CallWord → List Written → Type 0
HasForm w args = HaveKinds (form_of w).fixed (form_of w).repeated args
