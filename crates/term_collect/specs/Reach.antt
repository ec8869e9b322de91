-- What a collection leaves: what the permanent types and terms, whatever is referred to, and the kept handles reach.
use Rattle.std.specs.Prelude.{◌≡◌, ℕ, ◌+◌, ◌<◌, ◌⊎◌, Bool, IsTrue, List, ◌∷◌, Some, IsSome, IsNone, slice_get}
use Rattle.y_tree.specs.Sorts.{Sort}
use Rattle.y_tree.specs.Tree.{Tree}
use Rattle.stamped_slots.specs.Slots.{live}
use Rattle.term_shapes.specs.declared.handles.Term.{Term}
use Rattle.term_shapes.specs.declared.handles.TypeId.{TypeId}
use Rattle.term_shapes.specs.declared.shapes.TypeShape.{TypeShape}
use Rattle.term_shapes.specs.declared.shapes.Node.{Node}
use Rattle.term_shapes.specs.Shapes.{args_of, types_of, parts_of}
use Rattle.term_table.specs.declared.table.Marked.{Marked}
use Rattle.term_table.specs.declared.table.Marked.TheVariants as handle
use Rattle.term_table.specs.World.{World, node_at, type_shape_at, HasNode, HasTypeShape, Keeps, KeepsType, IsFreedTerm, IsFreedType, IsAfter}
use Rattle.term_table.specs.Changes.{count_at, type_count_at}
use Rattle.term_table.specs.Checking.{AreLive, IsFirstDead}
use Rattle.term_table.specs.Naming.{live_names, live_type_names}
use Rattle.term_collect.specs.declared.roots.DeadRoot.{DeadRoot}
use Rattle.term_collect.specs.declared.roots.DeadRoot.TheVariants as dead

-- a handle of a term or of a type
abbrev pub Handle : Type 0
Handle = Marked

-- it is the term at that place of the list
abbrev pub IsTermAt : List Term → ℕ → Handle → Type 0
IsTermAt xs i h = (t : Term) × (slice_get xs i ≡ Some t) × (h ≡ handle.Term t)

-- it is the type at that place of the list
abbrev pub IsTypeAt : List TypeId → ℕ → Handle → Type 0
IsTypeAt xs i h = (t : TypeId) × (slice_get xs i ≡ Some t) × (h ≡ handle.TypeId t)

-- it is a term of the list
abbrev pub IsTermOf : List Term → Handle → Type 0
IsTermOf xs h = (i : ℕ) × IsTermAt xs i h

-- it is a type of the list
abbrev pub IsTypeOf : List TypeId → Handle → Type 0
IsTypeOf xs h = (i : ℕ) × IsTypeAt xs i h

-- the handle is live
abbrev pub IsLive : World → Handle → Type 0
IsLive w (handle.Term t) = IsSome (node_at w t)
IsLive w (handle.TypeId t) = IsSome (type_shape_at w t)

-- it is permanent, or it is referred to
abbrev pub IsHeld : World → Handle → Type 0
IsHeld w (handle.Term t) = (t.slot < 2) ⊎ (0 < count_at w t)
IsHeld w (handle.TypeId t) = (t.slot < 130) ⊎ (0 < type_count_at w t)

-- a term needs its arguments, its type and the type that it names, and a type needs its parts
abbrev pub Needs : World → Handle → Handle → Type 0
Needs w (handle.Term t) h = (n : Node) × HasNode w t n × (IsTermOf (args_of n.shape) h ⊎ IsTypeOf (n.of ∷ types_of n.shape) h)
Needs w (handle.TypeId t) h = (s : TypeShape) × HasTypeShape w t s × IsTypeOf (parts_of s) h

-- what a handle reaches: itself, and what is needed there
pub data Reaches (w : World) (g : Handle) : Handle → Type 0 where
  itself : Reaches w g g
  needed : (h k : Handle) → Reaches w g h → Needs w h k → Reaches w g k

-- a live handle that is held or kept reaches it
abbrev pub IsReached : World → (Handle → Type 0) → Handle → Type 0
IsReached w K h = (g : Handle) × IsLive w g × (IsHeld w g ⊎ K g) × Reaches w g h

-- it stands in one of the lists
abbrev pub IsListed : List Term → List TypeId → Handle → Type 0
IsListed roots types h = IsTermOf roots h ⊎ IsTypeOf types h

-- a name means it, be that meaning hidden or not
abbrev pub IsMeant : World → Handle → Type 0
IsMeant w (handle.Term t) = (i : ℕ) × (p : List ℕ × Term) × (slice_get w.term_names i ≡ Some p) × (p.1 ≡ t)
IsMeant w (handle.TypeId t) = (i : ℕ) × (p : List ℕ × TypeId) × (slice_get w.type_names i ≡ Some p) × (p.1 ≡ t)

-- names are to be kept, and a name means it
abbrev pub IsNamed : World → Bool → Handle → Type 0
IsNamed w keep_named h = IsTrue keep_named × IsMeant w h

-- it stands in one of the lists, or names are to be kept and a name means it
abbrev pub IsKept : World → List Term → List TypeId → Bool → Handle → Type 0
IsKept w roots types keep_named h = IsListed roots types h ⊎ IsNamed w keep_named h

-- exactly what has R stays, as it was
pub record Leaves (old new : World) (R : Handle → Type 0) : Type 0 where
  -- the shape, the type and the count of a term, and its tree
  pub term : (t : Term) (n : Node) → HasNode old t n → R (handle.Term t) → HasNode new t n
  pub count : (t : Term) → R (handle.Term t) → count_at new t ≡ count_at old t
  pub tree : (t : Term) (a : Tree) → Keeps old t a → R (handle.Term t) → Keeps new t a
  -- the shape and the count of a type, and its sort
  pub type_shape : (t : TypeId) (s : TypeShape) → HasTypeShape old t s → R (handle.TypeId t) → HasTypeShape new t s
  pub type_count : (t : TypeId) → R (handle.TypeId t) → type_count_at new t ≡ type_count_at old t
  pub sort : (t : TypeId) (k : Sort) → KeepsType old t k → R (handle.TypeId t) → KeepsType new t k
  -- nothing else is live
  pub only : (h : Handle) → IsLive new h → IsLive old h × R h
  -- and whatever was is dead for good
  pub freed_term : (t : Term) → IsSome (node_at old t) → (R (handle.Term t) → ⊥) → IsFreedTerm new t
  pub freed_type : (t : TypeId) → IsSome (type_shape_at old t) → (R (handle.TypeId t) → ⊥) → IsFreedType new t
  pub after : IsAfter old new
  -- the meanings that stay are those of what is live, in their order
  pub term_names : new.term_names ≡ live_names new old.term_names
  pub type_names : new.type_names ≡ live_type_names new old.type_names
  pub constants : new.constants ≡ old.constants
  pub variables : new.variables ≡ old.variables
  pub kinds : new.kinds ≡ old.kinds

-- so many terms and types fewer are live
pub record Frees (old new : World) (terms types : ℕ) : Type 0 where
  pub terms_freed : terms + live new.terms ≡ live old.terms
  pub types_freed : types + live new.types ≡ live old.types

-- each type of the list is live
abbrev pub AreLiveTypes : World → List TypeId → Type 0
AreLiveTypes w ts = (i : ℕ) (t : TypeId) → slice_get ts i ≡ Some t → IsSome (type_shape_at w t)

-- the first dead type of the list stands at that place, counted from 1
abbrev pub IsFirstDeadType : World → List TypeId → ℕ → Type 0
IsFirstDeadType w ts place = (i : ℕ) × (t : TypeId) × (place ≡ i + 1) × (slice_get ts i ≡ Some t) × IsNone (type_shape_at w t) × ((j : ℕ) (u : TypeId) → j < i → slice_get ts j ≡ Some u → IsSome (type_shape_at w u))

-- which listed handle is dead: terms come first
abbrev pub IsDeadRoot : World → List Term → List TypeId → DeadRoot → Type 0
IsDeadRoot w roots types (dead.Term place) = IsFirstDead w roots place
IsDeadRoot w roots types (dead.TypeId place) = AreLive w roots × IsFirstDeadType w types place
