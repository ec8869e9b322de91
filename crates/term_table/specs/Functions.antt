-- What the calls on function types say.
use Rattle.std.specs.Prelude.{◌≡◌, ℕ, ◌+◌, ◌<◌, Bool, true, false, List, [], ◌∷◌, ◌++◌, length, Option, Some, None, ◌⊎◌, slice_get}
use Rattle.y_tree.specs.Sorts.{Sorts, function, is_sort}
use Rattle.y_tree.specs.Sorts as sort
use Rattle.y_tree.specs.declared.sorts.Sort.{Sort}
use Rattle.y_tree.specs.Plain.{plain_sort}
use Rattle.stamped_slots.specs.Slots.{Adds}
use Rattle.term_shapes.specs.declared.handles.TypeId.{TypeId}
use Rattle.term_shapes.specs.declared.shapes.TypeShape.{TypeShape}
use Rattle.term_shapes.specs.declared.shapes.TypeShape.TheVariants as type
use Rattle.shape_rules.specs.declared.errors.TableError.{TableError}
use Rattle.shape_rules.specs.declared.errors.TableError.TheVariants as error
pub use Rattle.shape_rules.specs.Rules.{is_arity}
use Rattle.term_table.specs.World.{World, type_shape_at, HasTypeShape, KeepsType, KeepsTypes}
use Rattle.table_slots.specs.Nodes.{RefusesSlot}

-- the item at that place, from 1 on, is the first that has it
pub record IsFirstWith {X : Type 0} (P : X → Type 0) (xs : List X) (place : ℕ) : Type 0 where
  pub others : ℕ
  pub behind : place ≡ others + 1
  pub item : X
  pub there : slice_get xs others ≡ Some item
  pub has : P item
  pub earlier : (i : ℕ) (x : X) → i < others → slice_get xs i ≡ Some x → P x → ⊥

-- no item has it
abbrev pub NoneHas : {X : Type 0} → (X → Type 0) → List X → Type 0
NoneHas {X} P xs = (i : ℕ) (x : X) → slice_get xs i ≡ Some x → P x → ⊥

-- whether the item at i has it
abbrev pub HasAt : {X : Type 0} → (X → Type 0) → List X → ℕ → Bool → Type 0
HasAt {X} P xs i true = (x : X) × (slice_get xs i ≡ Some x) × P x
HasAt {X} P xs i false = (x : X) → slice_get xs i ≡ Some x → P x → ⊥

-- the type is dead
abbrev pub IsDeadType : World → TypeId → Type 0
IsDeadType w t = type_shape_at w t ≡ None

-- the type is one of functions
abbrev pub IsFunctionType : World → TypeId → Type 0
IsFunctionType w t = (ts : List TypeId) × (r : TypeId) × HasTypeShape w t (type.Fun ts r)

-- a function type has these parts
pub record ArePartTypes (w : World) (ts : List TypeId) (r : TypeId) : Type 0 where
  pub number : is_arity (length ts) ≡ true
  pub live : NoneHas (IsDeadType w) (ts ++ r ∷ [])
  pub simple : NoneHas (IsFunctionType w) (ts ++ r ∷ [])

-- no slot is left or memory is refused, and no live type has the shape
abbrev pub RefusesType : World → TypeShape → TableError → Type 0
RefusesType w s e = RefusesSlot w.types e × ((u : TypeId) → HasTypeShape w u s → ⊥)

-- why there is no type of functions from these types to that one: their number, the first dead one, the first of functions; or no slot is left, or memory is refused
abbrev pub RefusesFunction : World → List TypeId → TypeId → TableError → Type 0
RefusesFunction w ts r (error.BadArity n) = (n ≡ length ts) × (is_arity n ≡ false)
RefusesFunction w ts r (error.DeadType place) = (is_arity (length ts) ≡ true) × IsFirstWith (IsDeadType w) (ts ++ r ∷ []) place
RefusesFunction w ts r (error.HigherOrder place) = (is_arity (length ts) ≡ true) × NoneHas (IsDeadType w) (ts ++ r ∷ []) × IsFirstWith (IsFunctionType w) (ts ++ r ∷ []) place
RefusesFunction w ts r error.TableFull = ArePartTypes w ts r × RefusesType w (type.Fun ts r) error.TableFull
RefusesFunction w ts r error.NoMemory = ArePartTypes w ts r
RefusesFunction w ts r _ = ⊥

-- a new type of that shape, and nothing else changes
pub record AddsType (old new : World) (t : TypeId) (s : TypeShape) : Type 0 where
  pub absent : (u : TypeId) → HasTypeShape old u s → ⊥
  pub added : Adds old.types new.types t.slot t.stamp s
  pub rest : new ≡ record old { types = new.types }

-- the handle stands for the type of functions: it was there and nothing changes, or it is new
abbrev pub AddsFunction : World → World → TypeId → TypeShape → Type 0
AddsFunction old new t s = ((new ≡ old) × HasTypeShape old t s) ⊎ AddsType old new t s

-- a type of that shape would stand for a function type within the limits
pub record IsFunctionShape (w : World) (s : TypeShape) : Type 0 where
  pub arguments : List TypeId
  pub value : TypeId
  pub is : s ≡ type.Fun arguments value
  pub domain : Sorts
  pub result : sort.Sort
  pub keeps_domain : KeepsTypes w arguments domain
  pub keeps_result : KeepsType w value result
  pub within : is_sort (function domain result) ≡ true

-- the type is dead, or stands for that sort
abbrev pub StandsFor : World → TypeId → Option Sort → Type 0
StandsFor w t None = type_shape_at w t ≡ None
StandsFor w t (Some s) = KeepsType w t (plain_sort s)
