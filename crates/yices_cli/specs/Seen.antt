-- What is seen of the input and of the sinks, and which text was got.
use Rattle.std.specs.Prelude.{◌≡◌, ℕ, ◌≤◌, Bool, true, false, List, [], ◌∷◌, ◌++◌, Option, Some, None, length}

-- standard input: its bytes and where it breaks, where they are told, and its count of faults before and after
pub record SourceSeen : Type 0 where
  pub held : Option (List ℕ)
  pub breaks : ℕ → Option Bool
  pub before : ℕ
  pub after : ℕ

-- a sink: what was written, where it is told, and its count of faults, before and after
pub record SinkSeen : Type 0 where
  pub old : Option (List ℕ)
  pub new : Option (List ℕ)
  pub before : ℕ
  pub after : ℕ

-- a text has at most so many bytes
abbrev pub text_limit : ℕ
text_limit = 67108864

-- the bytes, one list after another
abbrev pub joined : List (List ℕ) → List ℕ
joined [] = []
joined (r ∷ rs) = r ++ joined rs

-- the text is all that the input holds, where it is finished; else the input begins with it
abbrev pub IsFrontOf : Bool → List ℕ → List ℕ → Type 0
IsFrontOf true held text = held ≡ text
IsFrontOf false held text = (rest : List ℕ) × (held ≡ text ++ rest)

-- the text was got from the input: all that the input holds, where it is finished, else its first bytes, within the limit; where the input isn't told, any text
abbrev pub IsFront : Option (List ℕ) → Bool → List ℕ → Type 0
IsFront None finished text = Unit {0}
IsFront (Some held) finished text = IsFrontOf finished held text

-- the text that was got from the input, within the limit
pub record IsGot (input : SourceSeen) (finished : Bool) (text : List ℕ) : Type 0 where
  pub front : IsFront input.held finished text
  pub short : length text ≤ text_limit

-- a read may fail there: it does, or nothing is told
abbrev pub MayBreak : Option Bool → Type 0
MayBreak None = Unit {0}
MayBreak (Some breaks) = breaks ≡ true

-- the input holds a byte more behind the text, where it is told
abbrev pub HoldsMore : Option (List ℕ) → List ℕ → Type 0
HoldsMore None text = Unit {0}
HoldsMore (Some held) text = (b : ℕ) × (rest : List ℕ) × (held ≡ text ++ b ∷ rest)
