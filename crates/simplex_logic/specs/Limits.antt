-- Limits of variables, and how a value stands to them.
use Rattle.std.specs.Prelude.{◌≡◌, ℕ, ◌<◌, Bool, true, false, Option, None, Some, List, length, get_or}
use Rattle.rationals.specs.Rational.{ℚ, zero_ℚ, neg_ℚ, ◌<ℚ◌}
use Rattle.rationals.specs.Delta.{Delta, ◌≤Δ◌, ◌<Δ◌}
use Rattle.simplex_logic.specs.Vectors.{at}

-- a lower limit, if there is one, is met
abbrev pub AtLeast : Option Delta → Delta → Type 0
AtLeast None x = Unit {0}
AtLeast (Some b) x = b ≤Δ x

-- an upper one is
abbrev pub AtMost : Option Delta → Delta → Type 0
AtMost None x = Unit {0}
AtMost (Some b) x = x ≤Δ b

-- there is a lower limit, and the value is below it
abbrev pub Under : Option Delta → Delta → Type 0
Under None x = ⊥
Under (Some b) x = x <Δ b

-- there is an upper limit, and the value is above it
abbrev pub Over : Option Delta → Delta → Type 0
Over None x = ⊥
Over (Some b) x = b <Δ x

-- an upper limit leaves no room
abbrev pub Full : Option Delta → Delta → Type 0
Full None x = ⊥
Full (Some b) x = b ≤Δ x

-- a lower limit leaves no room
abbrev pub Empty : Option Delta → Delta → Type 0
Empty None x = ⊥
Empty (Some b) x = x ≤Δ b

-- there is room up to the upper limit
abbrev pub CanRise : Option Delta → Delta → Type 0
CanRise None x = Unit {0}
CanRise (Some b) x = x <Δ b

-- there is room down to the lower limit
abbrev pub CanFall : Option Delta → Delta → Type 0
CanFall None x = Unit {0}
CanFall (Some b) x = b <Δ x

-- no move of the column, with coefficient q and value x, raises the row
pub record Stuck (q : ℚ) (low up : Option Delta) (x : Delta) : Type 0 where
  pub rise : zero_ℚ <ℚ q → Full up x
  pub fall : q <ℚ zero_ℚ → Empty low x

-- a move of the column raises the row
pub data Moves (q : ℚ) (low up : Option Delta) (x : Delta) : Type 0 where
  rises : zero_ℚ <ℚ q → CanRise up x → Moves q low up x
  falls : q <ℚ zero_ℚ → CanFall low x → Moves q low up x

-- x is the limit that y is beyond
pub data Beyond (low up : Option Delta) (x y : Delta) : Type 0 where
  under : low ≡ Some x → y <Δ x → Beyond low up x y
  over : up ≡ Some x → x <Δ y → Beyond low up x y

-- the limits of all variables
pub record Limits : Type 0 where
  pub low : ℕ → Option Delta
  pub up : ℕ → Option Delta

-- variable x is within its limits
pub record Within (L : Limits) (v : ℕ → Delta) (x : ℕ) : Type 0 where
  pub least : AtLeast (L.low x) (v x)
  pub most : AtMost (L.up x) (v x)

-- s is below its lower limit and must rise (true), or above its upper one and must fall (false)
abbrev pub Violates : Limits → (ℕ → Delta) → ℕ → Bool → Type 0
Violates L v s true = Under (L.low s) (v s)
Violates L v s false = Over (L.up s) (v s)

-- a coefficient as it stands where the row must rise, and with the sign changed where it must fall
abbrev pub turned : Bool → ℚ → ℚ
turned true q = q
turned false q = neg_ℚ q

-- column j is the first whose move repairs the row
pub record First (L : Limits) (v : ℕ → Delta) (up : Bool) (qs : List ℚ) (cols : List ℕ) (j : ℕ) : Type 0 where
  pub is_column : j < length cols
  pub earlier : (k : ℕ) → k < j → let c = get_or cols k 0 in Stuck (turned up (at qs k)) (L.low c) (L.up c) (v c)
  pub moves : let c = get_or cols j 0 in Moves (turned up (at qs j)) (L.low c) (L.up c) (v c)

-- s is the least variable beyond a limit, b that limit, and j the first column whose move repairs it
pub record Found (n : ℕ) (L : Limits) (cols : List ℕ) (tab : ℕ → List ℚ) (v : ℕ → Delta) (s : ℕ) (up : Bool) (b : Delta) (j : ℕ) : Type 0 where
  pub is_variable : s < n
  pub violates : Violates L v s up
  pub left : Beyond (L.low s) (L.up s) b (v s)
  pub least : (x : ℕ) → x < s → Within L v x
  pub first : First L v up (tab s) cols j
