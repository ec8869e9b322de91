-- What a read and a write say of the bytes and of the count of faults.
use Rattle.std.specs.Prelude.{ℕ, Bool, true, List, ◌++◌, Option, Some, None, Result, IsErr, ◌≡◌, ◌<◌, ◌≤◌, ◌↔◌, length, take, drop}

-- the count rose, or stands at the last value of 64 bits
abbrev pub Rose : ℕ → ℕ → Type 0
Rose before now = now < 18446744073709551615 → before < now

-- the n bytes that were got are the held ones from the place on, and none just at or past the end
abbrev pub Reads : Option (List ℕ) → ℕ → List ℕ → ℕ → Type 0
Reads None place got n = Unit {0}
Reads (Some bytes) place got n = (got ≡ take n (drop place bytes)) × ((n ≡ 0) ↔ (length bytes ≤ place))

-- an error comes just where it is told
abbrev pub Told : {A E : Type 0} → Option Bool → Result A E → Type 0
Told None result = Unit {0}
Told (Some fails) result = (fails ≡ true) ↔ IsErr result

-- what was written grew by these bytes, where it is told
abbrev pub Grows : Option (List ℕ) → Option (List ℕ) → List ℕ → Type 0
Grows None new bytes = new ≡ None
Grows (Some written) new bytes = new ≡ Some (written ++ bytes)

-- what was written grew by the first of these bytes, and not by all of them
abbrev pub GrowsByPart : Option (List ℕ) → Option (List ℕ) → List ℕ → Type 0
GrowsByPart old new bytes = (n : ℕ) × (n < length bytes) × Grows old new (take n bytes)
