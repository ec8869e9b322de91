-- What holds of all lines.
use Rattle.std.specs.Prelude.{◌≡◌, ℕ, List}
use Rattle.call_script.specs.declared.words.CallWord.{CallWord}
use Rattle.call_script.specs.declared.lines.LineEnd.{LineEnd}
use Rattle.call_script.specs.Calls.{form_of}
use Rattle.call_script.specs.Lines.{Written, Reading, called, Says, HasForm}
use Rattle.call_script.specs.Judging.{judged}

-- each line says what is computed of it
abbrev pub SaysJudged : Type 0
SaysJudged = (end : LineEnd) (line : List ℕ) → Says end line (judged end line)

-- a line says one thing
abbrev pub SaysOne : Type 0
SaysOne = (end : LineEnd) (line : List ℕ) (r s : Reading) → Says end line r → Says end line s → r ≡ s

-- a word is one call
abbrev pub WordsDiffer : Type 0
WordsDiffer = (v w : CallWord) → (form_of v).text ≡ (form_of w).text → v ≡ w

-- a call that a line says has the form of its word
abbrev pub CallsAreFormed : Type 0
CallsAreFormed = (end : LineEnd) (line : List ℕ) (column : ℕ) (w : CallWord) (args : List Written) → Says end line (called column w args) → HasForm w args
