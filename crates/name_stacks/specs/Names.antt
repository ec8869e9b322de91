-- Names with their meanings, as pairs from the oldest to the newest. A name is its bytes. Handles are compared by their type's `==`, which is equality of values where it is derived over whole numbers.
use Rattle.std.specs.Prelude.{◌≡◌, ℕ, Bool, if◌then◌else◌, List, [], ◌∷◌, Option, Some, None, is_some, slice_get, remove}
use Rattle.std.specs.Str.{bytes_eq}

-- the first, or else the second
abbrev pub or_else : {X : Type 0} → Option X → Option X → Option X
or_else None b = b
or_else (Some x) b = Some x

-- the newest meaning of a name
abbrev pub newest : {H : Type 0} → List ℕ → List (List ℕ × H) → Option H
newest name [] = None
newest name (p ∷ ps) = or_else (newest name ps) (if bytes_eq p.0 name then Some p.1 else None)

-- the pairs without the newest meaning of a name
abbrev pub without_newest : {H : Type 0} → List ℕ → List (List ℕ × H) → List (List ℕ × H)
without_newest name [] = []
without_newest name (p ∷ ps) = if is_some (newest name ps) then p ∷ without_newest name ps else (if bytes_eq p.0 name then ps else p ∷ ps)

-- the name of the oldest pair with a handle that is `same` as this one
abbrev pub oldest_name : {H : Type 0} → (H → H → Bool) → H → List (List ℕ × H) → Option (List ℕ)
oldest_name same of [] = None
oldest_name same of (p ∷ ps) = if same of p.1 then Some p.0 else oldest_name same of ps

-- the pair at i is the newest with the name
pub record IsNewest {H : Type 0} (name : List ℕ) (ps : List (List ℕ × H)) (i : ℕ) : Type 0 where
  pub pair : List ℕ × H
  pub at : slice_get ps i ≡ Some pair
  pub newest : newest name ps ≡ Some pair.1
  pub without : without_newest name ps ≡ remove ps i
