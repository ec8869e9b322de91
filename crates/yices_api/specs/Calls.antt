-- The calls: their handles in order, and those that make a term of an operator and arguments.
use Rattle.std.specs.Prelude.{◌≡◌, ℕ, ◌<◌, ◌+◌, List, [], ◌∷◌, Option, Some, None, IsSome, IsNone, slice_get, map}
use Rattle.term_shapes.specs.declared.handles.Term.{Term}
use Rattle.term_shapes.specs.declared.handles.TypeId.{TypeId}
use Rattle.term_sketches.specs.declared.items.Operator.{Operator}
use Rattle.term_sketches.specs.declared.items.Operator.TheVariants as operator
use Rattle.term_table.specs.World.{World, node_at, type_shape_at}
use Rattle.term_collect.specs.Reach.{IsLive as IsLiveRoot}
use Rattle.term_table.specs.declared.table.Marked.{Marked}
use Rattle.term_table.specs.declared.table.Marked.TheVariants as marked
use Rattle.yices_api.specs.declared.handles.ContextId.{ContextId}
use Rattle.yices_api.specs.declared.calls.Call.{Call}
use Rattle.yices_api.specs.declared.calls.Call.TheVariants as call
use Rattle.yices_api.specs.State.{State, context_in}

-- a handle of any kind
pub data Handle : Type 0 where
  of_term : Term → Handle
  of_type : TypeId → Handle
  of_context : ContextId → Handle

-- it is live
abbrev pub IsLive : State → Handle → Type 0
IsLive s (of_term t) = IsSome (node_at s.table t)
IsLive s (of_type t) = IsSome (type_shape_at s.table t)
IsLive s (of_context c) = IsSome (context_in s.contexts c)

-- it is dead
abbrev pub IsDead : State → Handle → Type 0
IsDead s (of_term t) = IsNone (node_at s.table t)
IsDead s (of_type t) = IsNone (type_shape_at s.table t)
IsDead s (of_context c) = IsNone (context_in s.contexts c)

-- a listed handle of a term or of a type
abbrev pub listed : Marked → Handle
listed (marked.Term t) = of_term t
listed (marked.TypeId t) = of_type t

-- the constructor of a call that makes a term, with its arguments
abbrev pub made_by : Call → Option (Operator × List Term)
made_by (call.Not a) = Some (operator.Not, a ∷ [])
made_by (call.And ts) = Some (operator.And, ts)
made_by (call.Or ts) = Some (operator.Or, ts)
made_by (call.Xor ts) = Some (operator.Xor, ts)
made_by (call.Implies a b) = Some (operator.Implies, a ∷ b ∷ [])
made_by (call.Iff a b) = Some (operator.Iff, a ∷ b ∷ [])
made_by (call.Ite c a b) = Some (operator.Ite, c ∷ a ∷ b ∷ [])
made_by (call.Eq a b) = Some (operator.Eq, a ∷ b ∷ [])
made_by (call.Neq a b) = Some (operator.Neq, a ∷ b ∷ [])
made_by (call.Distinct ts) = Some (operator.Distinct, ts)
made_by _ = None

-- the handles with their places among all arguments, from that place on
abbrev pub placed : ℕ → List Handle → List (ℕ × Handle)
placed n [] = []
placed n (h ∷ hs) = (n, h) ∷ placed (n + 1) hs

-- the handles of a call that is no constructor
abbrev pub other_handles : Call → List (ℕ × Handle)
other_handles (call.NewUninterpretedTerm of) = placed 1 (of_type of ∷ [])
other_handles (call.NewVariable of) = placed 1 (of_type of ∷ [])
other_handles (call.TypeOfTerm t) = placed 1 (of_term t ∷ [])
other_handles (call.PpTerm t) = placed 1 (of_term t ∷ [])
other_handles (call.IncrefTerm t) = placed 1 (of_term t ∷ [])
other_handles (call.DecrefTerm t) = placed 1 (of_term t ∷ [])
other_handles (call.IncrefType t) = placed 1 (of_type t ∷ [])
other_handles (call.DecrefType t) = placed 1 (of_type t ∷ [])
other_handles (call.GarbageCollect keep_named roots) = placed 2 (map listed roots)
other_handles (call.SetTermName name t) = placed 2 (of_term t ∷ [])
other_handles (call.SetTypeName name t) = placed 2 (of_type t ∷ [])
other_handles (call.GetTermName t) = placed 1 (of_term t ∷ [])
other_handles (call.GetTypeName t) = placed 1 (of_type t ∷ [])
other_handles (call.FreeContext c) = placed 1 (of_context c ∷ [])
other_handles (call.ResetContext c) = placed 1 (of_context c ∷ [])
other_handles (call.Push c) = placed 1 (of_context c ∷ [])
other_handles (call.Pop c) = placed 1 (of_context c ∷ [])
other_handles (call.ContextStatus c) = placed 1 (of_context c ∷ [])
other_handles (call.AssertFormula c t) = placed 1 (of_context c ∷ of_term t ∷ [])
other_handles (call.CheckContext c turns) = placed 1 (of_context c ∷ [])
other_handles (call.CheckContextWithAssumptions c turns ts) = (1, of_context c) ∷ placed 3 (map of_term ts)
other_handles (call.GetUnsatCore c) = placed 1 (of_context c ∷ [])
other_handles _ = []

-- the arguments of a constructor, or else the handles of that call
abbrev pub handles_by : Option (Operator × List Term) → Call → List (ℕ × Handle)
handles_by (Some p) c = placed 1 (map of_term p.1)
handles_by None c = other_handles c

-- the handles among the arguments of a call, in order, each with its place among all arguments, from 1 on
abbrev pub handles_of : Call → List (ℕ × Handle)
handles_of c = handles_by (made_by c) c

-- the handle at that place is dead, and those before it are live
pub record IsFirstDead (s : State) (hs : List (ℕ × Handle)) (place : ℕ) (h : Handle) : Type 0 where
  pub index : ℕ
  pub there : slice_get hs index ≡ Some (place, h)
  pub dead : IsDead s h
  pub earlier : (i : ℕ) (p : ℕ × Handle) → i < index → slice_get hs i ≡ Some p → IsLive s p.1

-- all of them are live
abbrev pub AllLive : State → List (ℕ × Handle) → Type 0
AllLive s hs = (i : ℕ) (p : ℕ × Handle) → slice_get hs i ≡ Some p → IsLive s p.1

-- the terms among listed handles, and the types
abbrev pub listed_terms : List Marked → List Term
listed_terms [] = []
listed_terms (marked.Term t ∷ ms) = t ∷ listed_terms ms
listed_terms (marked.TypeId t ∷ ms) = listed_terms ms

abbrev pub listed_types : List Marked → List TypeId
listed_types [] = []
listed_types (marked.Term t ∷ ms) = listed_types ms
listed_types (marked.TypeId t ∷ ms) = t ∷ listed_types ms

-- the first dead one of listed handles, by its index
abbrev pub IsFirstDeadRoot : World → List Marked → ℕ → Type 0
IsFirstDeadRoot w ms index = (m : Marked) × (slice_get ms index ≡ Some m) × (IsLiveRoot w m → ⊥) × ((i : ℕ) (n : Marked) → i < index → slice_get ms i ≡ Some n → IsLiveRoot w n)

-- each of listed handles is live
abbrev pub AllLiveRoots : World → List Marked → Type 0
AllLiveRoots w ms = (i : ℕ) (m : Marked) → slice_get ms i ≡ Some m → IsLiveRoot w m
