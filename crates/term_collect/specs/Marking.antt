-- Marks: how they spread from the roots to all that these reach.
use Rattle.std.specs.Prelude.{◌≡◌, ℕ, ◌+◌, ◌<◌, ◌⊎◌, Bool, true, not, ◌&&◌, List, Some, slice_get}
use Rattle.std.specs.Option.{option_map}
use Rattle.stamped_slots.specs.Slots.{Slot, how_many, unmarked}
use Rattle.stamped_slots.specs.Regular.{NoneWaits}
use Rattle.term_shapes.specs.declared.handles.Term.{Term}
use Rattle.term_shapes.specs.declared.handles.TypeId.{TypeId}
use Rattle.term_table.specs.declared.table.Marked.TheVariants as handle
use Rattle.term_table.specs.World.{World}
use Rattle.term_table.specs.Changes.{IsMarkedAt, cleared}
use Rattle.term_collect.specs.Reach.{Handle, IsTermAt, IsTypeAt, IsLive, IsHeld, Needs, Reaches, IsListed}

-- it is one of the first n terms of the list
abbrev pub IsTermBelow : List Term → ℕ → Handle → Type 0
IsTermBelow xs n h = (i : ℕ) × (i < n) × IsTermAt xs i h

-- it is one of the first n types of the list
abbrev pub IsTypeBelow : List TypeId → ℕ → Handle → Type 0
IsTypeBelow xs n h = (i : ℕ) × (i < n) × IsTypeAt xs i h

-- a live handle that is permanent or referred to
abbrev pub IsLiveHeld : World → Handle → Type 0
IsLiveHeld w h = IsLive w h × IsHeld w h

-- the handle is marked
abbrev pub HasMark : World → Handle → Type 0
HasMark w (handle.Term t) = IsMarkedAt w.terms t.slot t.stamp
HasMark w (handle.TypeId t) = IsMarkedAt w.types t.slot t.stamp

-- the handle of slot i and stamp n is on the worklist
abbrev pub IsWaitingAt : {S : Type 0} → List (Slot S) → ℕ → ℕ → Type 0
IsWaitingAt {S} w i n = (s : Slot S) × (slice_get w i ≡ Some s) × (s.stamp ≡ n) × (s.waiting ≡ true)

-- the handle is on the worklist
abbrev pub Waits : World → Handle → Type 0
Waits w (handle.Term t) = IsWaitingAt w.terms t.slot t.stamp
Waits w (handle.TypeId t) = IsWaitingAt w.types t.slot t.stamp

-- what is marked is on the worklist
abbrev pub AllWait : World → Type 0
AllWait w = (h : Handle) → HasMark w h → Waits w h

-- the slots differ in marks alone
abbrev pub SameSlots : {S : Type 0} → List (Slot S) → List (Slot S) → Type 0
SameSlots old new = (i : ℕ) → option_map unmarked (slice_get new i) ≡ option_map unmarked (slice_get old i)

-- the tables differ in marks alone
pub record SameButMarks (old new : World) : Type 0 where
  pub terms : SameSlots old.terms new.terms
  pub types : SameSlots old.types new.types
  pub term_names : new.term_names ≡ old.term_names
  pub type_names : new.type_names ≡ old.type_names
  pub constants : new.constants ≡ old.constants
  pub variables : new.variables ≡ old.variables
  pub kinds : new.kinds ≡ old.kinds

-- a slot whose turn on the worklist may still come
abbrev pub is_due : {S : Type 0} → Slot S → Bool
is_due s = not (s.marked && not s.waiting)

-- how many slots may still come to their turn
abbrev pub due : World → ℕ
due w = how_many is_due w.terms + how_many is_due w.types

-- whatever has P is marked, and what else was marked before; new marks go on the worklist
pub record Marks (old new : World) (P : Handle → Type 0) : Type 0 where
  pub same : SameButMarks old new
  pub each : (h : Handle) → P h → HasMark new h
  pub grows : (h : Handle) → HasMark old h → HasMark new h
  pub waits : (h : Handle) → Waits old h → Waits new h
  pub only : (h : Handle) → HasMark new h → HasMark old h ⊎ (P h × Waits new h)
  pub left : due new ≡ due old

-- the handle was on the worklist, and is taken off it
pub record Takes (old new : World) (g : Handle) : Type 0 where
  pub same : SameButMarks old new
  pub live : IsLive new g
  pub marked : HasMark old g
  pub grows : (h : Handle) → HasMark old h → HasMark new h
  pub only : (h : Handle) → HasMark new h → HasMark old h
  pub waits : (h : Handle) → Waits old h → (h ≡ g) ⊎ Waits new h
  pub left : due new + 1 ≡ due old

-- what is marked is what the marked handles reached, and the worklist is empty
pub record Spreads (old new : World) : Type 0 where
  pub same : SameButMarks old new
  pub grows : (h : Handle) → HasMark old h → HasMark new h
  pub reached : (h : Handle) → HasMark new h → (g : Handle) × HasMark old g × Reaches old g h
  pub closed : (h k : Handle) → HasMark new h → Needs old h k → HasMark new k
  pub no_term_waits : NoneWaits new.terms
  pub no_type_waits : NoneWaits new.types

-- a collection that was started on the old table, and what it keeps so far
pub record Keeping (old now : World) (terms : List Term) (types : List TypeId) : Type 0 where
  pub marks : Marks (cleared old) now (IsListed terms types)
