-- What the slots of types and terms hold at first, when they refuse a new key, and which of them names mean.
use Rattle.std.specs.Prelude.{◌≡◌, ℕ, ◌<◌, ◌-◌, ◌==◌, ◌&&◌, ◌||◌, Bool, false, if◌then◌else◌, List, [], ◌∷◌, length, map, Some, slice_get}
use Rattle.stamped_slots.specs.Slots.{Slot, fresh, taken, mark_if, each_from}
use Rattle.term_shapes.specs.declared.handles.Term.{Term}
use Rattle.term_shapes.specs.declared.handles.TypeId.{TypeId}
use Rattle.term_shapes.specs.declared.shapes.Shape.TheVariants as shape
use Rattle.term_shapes.specs.declared.shapes.TypeShape.{TypeShape}
use Rattle.term_shapes.specs.declared.shapes.TypeShape.TheVariants as type
use Rattle.term_shapes.specs.declared.shapes.Node.{Node}
use Rattle.shape_rules.specs.declared.errors.TableError.{TableError}
use Rattle.shape_rules.specs.declared.errors.TableError.TheVariants as error

-- the permanent types in order: truth values, real numbers, and the bit-vectors by their widths
abbrev pub permanent : ℕ → TypeShape
permanent i = if i == 0 then type.Bool else (if i == 1 then type.Real else type.Bv (i - 1))

-- the first n slots hold the permanent types, and there are no others
pub record HoldsFirst (w : List (Slot TypeShape)) (n : ℕ) : Type 0 where
  pub count : length w ≡ n
  pub at : (i : ℕ) → i < n → slice_get w i ≡ Some (fresh 0 (permanent i))

-- the term that is true
abbrev pub true_node : Node
true_node = record { shape = shape.True; of = record { slot = 0; stamp = 0 } }

-- the term that is false
abbrev pub false_node : Node
false_node = record { shape = shape.False; of = record { slot = 0; stamp = 0 } }

-- no slot is left, or memory is refused
abbrev pub RefusesSlot : {S : Type 0} → List (Slot S) → TableError → Type 0
RefusesSlot w error.TableFull = taken w ≡ 4194304
RefusesSlot w error.NoMemory = Unit {0}
RefusesSlot w _ = ⊥

-- one of these slots and stamps is that one
abbrev pub any_at : ℕ → ℕ → List (ℕ × ℕ) → Bool
any_at i n [] = false
any_at i n (h ∷ hs) = ((h.0 == i) && (h.1 == n)) || any_at i n hs

-- the slots and stamps of the terms that names mean
abbrev pub meant_terms : List (List ℕ × Term) → List (ℕ × ℕ)
meant_terms ps = map (λ (p : List ℕ × Term). (p.1.slot, p.1.stamp)) ps

-- the slots and stamps of the types that names mean
abbrev pub meant_types : List (List ℕ × TypeId) → List (ℕ × ℕ)
meant_types ps = map (λ (p : List ℕ × TypeId). (p.1.slot, p.1.stamp)) ps

-- the slots after each of these was marked
abbrev pub meant_marked : {S : Type 0} → List (ℕ × ℕ) → List (Slot S) → List (Slot S)
meant_marked hs w = each_from (λ i s. mark_if (any_at i s.stamp hs) s) 0 w
