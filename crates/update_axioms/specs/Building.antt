-- Functions made of the applications of a candidate.
use Rattle.std.specs.Prelude.{◌≡◌, ℕ, false, List, Some, length, slice_get, IsSome}
use Rattle.y_tree.specs.declared.values.Value as code
use Rattle.y_tree.specs.declared.values.FunValue.{FunValue, out-FunValue}
use Rattle.y_tree.specs.Values.{equal}
use Rattle.y_tree.specs.Plain.{plain_value}
use Rattle.update_axioms.specs.declared.FunctionView.{FunctionView}
use Rattle.update_axioms.specs.declared.candidate.Candidate.{Candidate}
use Rattle.update_axioms.specs.declared.building.One.{One}
use Rattle.update_axioms.specs.declared.building.One.TheVariants.{Function, Clash}
use Rattle.update_axioms.specs.declared.building.All.{All}
use Rattle.update_axioms.specs.declared.building.All.TheVariants.{Functions, Clashes}
use Rattle.update_axioms.specs.Views.{Update}
use Rattle.update_axioms.specs.Shown.{found, key_or_none}
use Rattle.update_axioms.specs.Tabling.{Made, points_made, AreTabled}
use Rattle.update_axioms.specs.Grouping.{key_at, IsGroup}
use Rattle.update_axioms.specs.Candidates.{value_in, key_in}

-- the values of the nodes of each tuple
pub record AreTupleValues (v : FunctionView) (c : Candidate) (tuples : List (List code.Value)) : Type 0 where
  pub long : length tuples ≡ length v.tuples
  pub each : (t : ℕ) → key_or_none (slice_get tuples t) ≡ key_in v c t

-- the function has the values of the applications of the group, and the one value elsewhere
pub record IsBuilt (c : Candidate) (tuples : List (List code.Value)) (f : ℕ) (g : FunValue) : Type 0 where
  pub group : List Made
  pub grouped : IsGroup c.applications f group
  pub tabled : AreTabled (points_made tuples c.values group) (out-FunValue g).entries.items
  pub other : plain_value (out-FunValue g).default_value ≡ plain_value c.default_value

-- two applications of the function at one key have different values
pub record Clashing (c : Candidate) (tuples : List (List code.Value)) (f s t : ℕ) : Type 0 where
  pub left : ℕ
  pub right : ℕ
  pub first : (i : ℕ) × (slice_get c.applications i ≡ Some (f, s, left))
  pub second : (i : ℕ) × (slice_get c.applications i ≡ Some (f, t, right))
  pub key : key_at tuples s ≡ key_at tuples t
  pub two : equal (value_in c left) (value_in c right) ≡ false

-- what came of one function
abbrev pub IsOne : Candidate → List (List code.Value) → ℕ → One → Type 0
IsOne c tuples f (Function g) = IsBuilt c tuples f g
IsOne c tuples f (Clash s t) = Clashing c tuples f s t

-- each function node has its function
pub record AreAllBuilt (c : Candidate) (tuples : List (List code.Value)) (fs : List (ℕ × FunValue)) : Type 0 where
  pub there : (i f : ℕ) → slice_get c.functions i ≡ Some f → IsSome (found fs f)
  pub each : (f : ℕ) (g : FunValue) → found fs f ≡ Some g → IsBuilt c tuples f g

-- what came of all functions
abbrev pub IsAll : Candidate → List (List code.Value) → All → Type 0
IsAll c tuples (Functions fs) = AreAllBuilt c tuples fs
IsAll c tuples (Clashes f s t) = Clashing c tuples f s t

-- each value node of an update has its value
pub record AreUpdateValues (v : FunctionView) (c : Candidate) (vs : List (ℕ × code.Value)) : Type 0 where
  pub there : (k : ℕ) (u : Update) → slice_get v.updates k ≡ Some u → IsSome (found vs u.3)
  pub each : (n : ℕ) (w : code.Value) → found vs n ≡ Some w → plain_value w ≡ value_in c n
