-- Which words after the program's name are valid, what they ask for, and which word is at fault.
use Rattle.std.specs.Prelude.{◌≡◌, ℕ, ◌+◌, ◌^◌, ◌<◌, ◌≤◌, ◌⊎◌, List, [], ◌∷◌, ◌++◌, codes, length, take}
use Rattle.std.specs.Str.Parse.{IsNumeral, digits_value}
use Rattle.clause_search.specs.declared.Turns.TheVariants as turns
use Rattle.yices_cli.specs.declared.words.Mode.{Mode}
use Rattle.yices_cli.specs.declared.words.Mode.TheVariants as mode

-- one or more decimal digits whose number is n, below 2^64
abbrev pub IsLimit : List ℕ → ℕ → Type 0
IsLimit digits n = IsNumeral 10 digits × (n ≡ digits_value 10 digits) × (n < 2 ^ 64)

-- the words are valid, and ask for that
abbrev pub HasMode : List (List ℕ) → Mode → Type 0
HasMode words (mode.Language turns.Whole) = words ≡ []
HasMode words (mode.Language (turns.Counted n)) =
    (digits : List ℕ) × IsLimit digits n × ((words ≡ (codes "--turns=" ++ digits) ∷ []) ⊎ (words ≡ codes "--turns" ∷ digits ∷ []))
HasMode words mode.Calls = words ≡ codes "--calls" ∷ []

-- valid words begin with these
abbrev pub BeginsValid : List (List ℕ) → Type 0
BeginsValid words = (more : List (List ℕ)) × (m : Mode) × HasMode (words ++ more) m

-- no valid words begin with the first k of these, or k is their number plus one, and they aren't valid; k is the least such number
pub record IsUsage (words : List (List ℕ)) (k : ℕ) : Type 0 where
  pub faulty : ((k ≤ length words) × (BeginsValid (take k words) → ⊥)) ⊎ ((k ≡ length words + 1) × ((m : Mode) → HasMode words m → ⊥))
  pub least : (i : ℕ) → i < k → BeginsValid (take i words)
