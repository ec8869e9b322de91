-- The newest meaning of each name, in a map by names.
use Rattle.std.specs.Prelude.{◌≡◌, ℕ, Bool, List, Option, None, is_some, if◌then◌else◌, string_bytes, map}
use Rattle.std.specs.List.{filter}
use Rattle.std.specs.Prelude.{String}
use Rattle.std.specs.HashMap.{HashMap, get_by_text}
use Rattle.std.specs.Map.{update}
use Rattle.std.specs.Str.{bytes_eq}
use Rattle.name_stacks.specs.declared.names.Pair.{Pair}
use Rattle.name_stacks.specs.Names.{newest, or_else}

-- the pairs as names and handles
abbrev pub shown : {H : Type 0} → List (Pair H) → List (List ℕ × H)
shown {H} items = map (λ (p : Pair H). (string_bytes p.name, p.of)) items

-- the map has the newest meaning of each name
pub record AreHeads {H Y S : Type 0} (heads : HashMap (String Y) H S) (ps : List (List ℕ × H)) : Type 0 where
  pub each : (name : List ℕ) → get_by_text heads name ≡ newest name ps

-- the name has this handle, or none, and each other name what it had
pub record PutsHead {H Y S : Type 0} (old new : HashMap (String Y) H S) (name : List ℕ) (of : Option H) : Type 0 where
  pub each : (other : List ℕ) → get_by_text new other ≡ update bytes_eq (get_by_text old) name of other

-- each name has the handle that it had
pub record SameHeads {H Y S : Type 0} (old new : HashMap (String Y) H S) : Type 0 where
  pub each : (name : List ℕ) → get_by_text new name ≡ get_by_text old name

-- the pairs whose handle passes
abbrev pub passing : {H : Type 0} → (H → Bool) → List (List ℕ × H) → List (List ℕ × H)
passing {H} passes ps = filter (λ (p : List ℕ × H). passes p.1) ps

-- each name has the newest of its handles in the front pairs that pass, or else its newest one
pub record AreRaised {H Y S : Type 0} (passes : H → Bool) (heads : HashMap (String Y) H S) (front ps : List (List ℕ × H)) : Type 0 where
  pub each : (name : List ℕ) → get_by_text heads name ≡ or_else (newest name (passing passes front)) (newest name ps)

-- each name of the front pairs has the newest of its handles that pass, or none, and each other name what `AreRaised` says
pub record AreLeft {H Y S : Type 0} (passes : H → Bool) (heads : HashMap (String Y) H S) (front ps : List (List ℕ × H)) : Type 0 where
  pub each : (name : List ℕ) → get_by_text heads name ≡ or_else (newest name (passing passes ps)) (if is_some (newest name front) then None else newest name ps)
