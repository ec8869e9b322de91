-- What lasts while terms are built, and when a constructor answers the same handle again.
use Rattle.std.specs.Prelude.{◌≡◌, ℕ, ◌+◌, ◌≤◌, List, [], ◌∷◌, None, IsSome}
use Rattle.y_tree.specs.Sorts.{Sort}
use Rattle.y_tree.specs.Tree.{Tree}
use Rattle.stamped_slots.specs.Slots.{live}
use Rattle.term_shapes.specs.declared.handles.Term.{Term}
use Rattle.term_shapes.specs.declared.handles.TypeId.{TypeId}
use Rattle.term_shapes.specs.declared.shapes.Shape.{Shape}
use Rattle.term_shapes.specs.declared.shapes.TypeShape.{TypeShape}
use Rattle.term_shapes.specs.declared.shapes.Node.{Node}
use Rattle.term_table.specs.World.{World, node_at, shape_at, HasNode, HasShape, HasTypeShape, Keeps, IsTable, IsAfter}
use Rattle.term_table.specs.Changes.{count_at}
use Rattle.term_table.specs.Checking.{HasSort}
use Rattle.term_sketches.specs.declared.items.Operator.{Operator}
use Rattle.term_build.specs.Building.{AddsAtMost, AddsBelow, IsBuilt}

-- whatever was said of a term that was live is still so, and there are at most so many terms more
pub record LastsWith (n : ℕ) (old new : World) : Type 0 where
  pub nodes : (t : Term) (x : Node) → HasNode old t x → HasNode new t x
  pub shapes : (t : Term) (s : Shape) → HasShape old t s → HasShape new t s
  pub sorts : (t : Term) (k : Sort) → HasSort old t k → HasSort new t k
  pub trees : (t : Term) (a : Tree) → Keeps old t a → Keeps new t a
  pub counts : (t : Term) → IsSome (node_at old t) → count_at new t ≡ count_at old t
  -- nothing refers to a new term
  pub uncounted : (t : Term) → node_at old t ≡ None → IsSome (node_at new t) → count_at new t ≡ 0
  -- types, names and the numbers that were given are as they were
  pub rest : new ≡ record old { terms = new.terms }
  -- no freed handle comes back
  pub after : IsAfter old new
  pub few : live new.terms ≤ live old.terms + n

-- what is built lasts
abbrev pub BuildingLasts : Type 0
BuildingLasts = (n : ℕ) (old new : World) → AddsAtMost n old new → LastsWith n old new

-- the term has one shape and one tree in both tables
pub record IsUnchanged (old new : World) (t : Term) : Type 0 where
  pub shape : shape_at old t ≡ shape_at new t
  pub tree : Tree
  pub before : Keeps old t tree
  pub after : Keeps new t tree

-- so has each of the terms
abbrev pub AreUnchanged : World → World → List Term → Type 0
AreUnchanged old new [] = Unit {0}
AreUnchanged old new (t ∷ ts) = IsUnchanged old new t × AreUnchanged old new ts

-- a table that was built on: before and after
pub record IsBuiltOn (old new : World) : Type 0 where
  pub bound : ℕ
  pub adds : AddsAtMost bound old new
  pub before : IsTable old
  pub after : IsTable new

-- a call over arguments that are unchanged since an earlier call of the same constructor answers the handle that was answered then, where that one stands for what it stood for
abbrev pub AnswersAgain : Type 0
AnswersAgain =
    (a b c d : World) (o : Operator) (ts : List Term) (t u : Term) → IsBuiltOn a b → IsBuiltOn c d → IsBuilt a b o ts t → IsBuilt c d o ts u → AreUnchanged a c ts
    → (tree : Tree) → Keeps b t tree → Keeps d t tree → t ≡ u

-- so it does where terms were only built in between
abbrev pub AnswersAgainInBuilding : Type 0
AnswersAgainInBuilding =
    (a b c d : World) (o : Operator) (ts : List Term) (t u : Term) → IsBuiltOn a b → IsBuiltOn b c → IsBuiltOn c d → IsBuilt a b o ts t → IsBuilt c d o ts u → t ≡ u

-- what was live is live, each term with its shape and its type and each type with its shape, whatever else was made
pub record StaysLive (old new : World) : Type 0 where
  pub terms : (t : Term) (x : Node) → HasNode old t x → HasNode new t x
  pub types : (t : TypeId) (s : TypeShape) → HasTypeShape old t s → HasTypeShape new t s

-- a call over arguments that are unchanged since an earlier call of the same constructor changes nothing, where the earlier answer is live and stands for what it stood for, and it answers that one
abbrev pub AddsNothingAgain : Type 0
AddsNothingAgain =
    (a b c d : World) (o : Operator) (ts : List Term) (t u : Term) → IsBuiltOn a b → IsBuiltOn c d → IsBuilt a b o ts t → IsBuilt c d o ts u → AddsBelow c d u → AreUnchanged a c ts
    → (tree : Tree) → Keeps b t tree → Keeps c t tree → (t ≡ u) × (d ≡ c)

-- so it is where what was live after the earlier call is so still
abbrev pub AddsNothingWhereLive : Type 0
AddsNothingWhereLive =
    (a b c d : World) (o : Operator) (ts : List Term) (t u : Term) → IsBuiltOn a b → StaysLive b c → IsBuiltOn c d → IsBuilt a b o ts t → IsBuilt c d o ts u → AddsBelow c d u → (t ≡ u) × (d ≡ c)

-- so it is where terms were only built in between
abbrev pub AddsNothingInBuilding : Type 0
AddsNothingInBuilding =
    (a b c d : World) (o : Operator) (ts : List Term) (t u : Term) → IsBuiltOn a b → IsBuiltOn b c → IsBuiltOn c d → IsBuilt a b o ts t → IsBuilt c d o ts u → AddsBelow c d u → (t ≡ u) × (d ≡ c)
