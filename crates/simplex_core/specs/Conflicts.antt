-- Bounds whose multiples add up to a contradiction, named by their tags.
use Rattle.std.specs.Prelude.{◌≡◌, ◌⊎◌, ℕ, not, List, [], ◌∷◌, Option, Some, None, take, Contains}
use Rattle.rationals.specs.Rational.{ℚ, zero_ℚ, one_ℚ, neg_ℚ, ◌<ℚ◌}
use Rattle.rationals.specs.Delta.{Delta}
use Rattle.simplex_logic.specs.Forms.{Rows, Solves_Δ}
use Rattle.simplex_logic.specs.Limits.{Limits}
use Rattle.simplex_logic.specs.Contradictions.{Part, Contradiction, Stops, first_part}
use Rattle.simplex_logic.proofs.Step.{turned_row}
use Rattle.simplex_table.specs.View.{delta_of}
use Rattle.simplex_bounds.specs.declared.Bound.{Bound}
use Rattle.simplex_bounds.specs.declared.Range.{Range}
use Rattle.simplex_bounds.specs.Ranges.{limits_of, Ranged, Holds}
use Rattle.simplex_core.specs.Choosing.{AllStuck}

-- the bound of a tag and multiplier is in force, and the part is that bound, so multiplied
pub record Named (bounds : List Bound) (m : ℕ × ℚ) (p : Part) : Type 0 where
  pub bound : Bound
  pub listed : Contains bounds bound
  pub tag : m.0 ≡ bound.tag
  pub multiplier : p.by ≡ m.1
  pub variable : p.variable ≡ bound.variable
  pub upper : p.upper ≡ bound.upper
  pub value : p.bound ≡ delta_of bound.value

-- so is each of a list
abbrev pub Names : List Bound → List (ℕ × ℚ) → List Part → Type 0
Names bounds [] [] = Unit {0}
Names bounds [] (p ∷ ps) = ⊥
Names bounds (m ∷ ms) [] = ⊥
Names bounds (m ∷ ms) (p ∷ ps) = Named bounds m p × Names bounds ms ps

-- the named bounds of the list, multiplied and added, are a contradiction
pub record IsConflict (rows : Rows) (bounds : List Bound) (ms : List (ℕ × ℚ)) : Type 0 where
  pub parts : List Part
  pub named : Names bounds ms parts
  pub contradiction : Contradiction rows parts

-- the tag is named
abbrev pub HasTag : ℕ → List (ℕ × ℚ) → Type 0
HasTag t [] = ⊥
HasTag t (m ∷ ms) = (m.0 ≡ t) ⊎ HasTag t ms

-- no values meet the rows and the bounds that a conflict names
abbrev pub ConflictsRefute : Type 0
ConflictsRefute = (rows : Rows) (bounds : List Bound) (ms : List (ℕ × ℚ)) (w : ℕ → Delta) → IsConflict rows bounds ms → Solves_Δ rows w
    → ((b : Bound) → Contains bounds b → HasTag b.tag ms → Holds w b) → ⊥

-- the bound that a column with coefficient q runs against, with the size of q
pub data IsStop (r : Range) (q : ℚ) (m : Option (ℕ × ℚ)) : Type 0 where
  no_stop : q ≡ zero_ℚ → m ≡ None → IsStop r q m
  stop_up : (b : Bound) → zero_ℚ <ℚ q → r.up ≡ Some b → m ≡ Some (b.tag, q) → IsStop r q m
  stop_low : (b : Bound) → q <ℚ zero_ℚ → r.low ≡ Some b → m ≡ Some (b.tag, neg_ℚ q) → IsStop r q m
  open_up : zero_ℚ <ℚ q → r.up ≡ None → IsStop r q m
  open_low : q <ℚ zero_ℚ → r.low ≡ None → IsStop r q m

-- the violated bound and the bounds that stop the columns of its row
pub record Certificate (bounds : List Bound) (L : Limits) (v : ℕ → Delta) (b : Bound) (row : List ℚ) (columns : List ℕ) (ms : List (ℕ × ℚ)) : Type 0 where
  pub parts : List Part
  pub named : Names bounds ms (first_part (not b.upper) b.variable (delta_of b.value) ∷ parts)
  pub stops : Stops L v (turned_row (not b.upper) row) columns parts

-- the same, where the violated bound is in force and each column is stuck
abbrev pub Certifies : List Range → Bound → List ℚ → List ℕ → List (ℕ × ℚ) → Type 0
Certifies ranges b row columns ms = (n : ℕ) (bounds : List Bound) (v : ℕ → Delta) → Ranged n bounds ranges → Contains bounds b → AllStuck (limits_of ranges) v (not b.upper) row columns
    → Certificate bounds (limits_of ranges) v b row columns ms

-- two bounds, each once
abbrev pub IsPair : Bound → Bound → List (ℕ × ℚ) → Type 0
IsPair a b ms = ms ≡ (a.tag, one_ℚ) ∷ (b.tag, one_ℚ) ∷ []

-- the same for the first k columns
abbrev pub CertifiesTo : ℕ → List Range → Bound → List ℚ → List ℕ → List (ℕ × ℚ) → Type 0
CertifiesTo k ranges b row columns ms = (n : ℕ) (bounds : List Bound) (v : ℕ → Delta) → Ranged n bounds ranges → Contains bounds b → AllStuck (limits_of ranges) v (not b.upper) row columns
    → Certificate bounds (limits_of ranges) v b (take k row) (take k columns) ms
