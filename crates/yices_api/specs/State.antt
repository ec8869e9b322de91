-- What contracts see of an environment: its table, and its contexts.
use Rattle.std.specs.Prelude.{◌≡◌, ℕ, ◌<◌, ◌≤◌, ◌==◌, List, [], ◌∷◌, ◌++◌, Option, Some, None, slice_index_or, if◌then◌else◌}
use Rattle.slab.specs.Slab.{entries_from}
use Rattle.term_shapes.specs.declared.handles.Term.{Term}
use Rattle.term_table.specs.World.{World}
use Rattle.term_checks.specs.Formulas.{AreFormulas}
use Rattle.context_stack.specs.States.{ContextState, held_terms}
use Rattle.yices_api.specs.declared.handles.ContextId.{ContextId}
use Rattle.yices_api.specs.declared.held.Held.{Held}

-- what each key holds: nothing, or a context under the stamp of its handle
abbrev pub Contexts : Type 0
Contexts = List (Option Held)

-- the table; the contexts; how many contexts were made
pub record State : Type 0 where
  pub table : World
  pub contexts : List (Option Held)
  pub made : ℕ

-- what a key holds under a stamp
abbrev pub context_under : ℕ → Option Held → Option ContextState
context_under n None = None
context_under n (Some h) = if h.stamp == n then Some h.context else None

-- a context, where it is live
abbrev pub context_in : Contexts → ContextId → Option ContextState
context_in cs c = context_under c.stamp (slice_index_or cs c.key None)

-- the context is live and is that
abbrev pub HasContext : Contexts → ContextId → ContextState → Type 0
HasContext cs c x = context_in cs c ≡ Some x

-- the formulas and cores of what these keys hold
abbrev pub terms_of : List (ℕ × Held) → List Term
terms_of [] = []
terms_of (e ∷ es) = held_terms e.1.context ++ terms_of es

-- the formulas and cores of all contexts
abbrev pub terms_of_contexts : Contexts → List Term
terms_of_contexts cs = terms_of (entries_from 0 cs)

-- what always holds of an environment: what a live context holds, on its levels and in its core, is formulas, and each stamp is below the number of contexts made
pub record IsEnvironment (s : State) : Type 0 where
  pub formulas : (c : ContextId) (x : ContextState) → HasContext s.contexts c x → AreFormulas s.table (held_terms x)
  pub given : (c : ContextId) (x : ContextState) → HasContext s.contexts c x → c.stamp < s.made
  pub few : s.made ≤ 4294967296

-- every other context is as it was
abbrev pub OthersStay : Contexts → Contexts → ContextId → Type 0
OthersStay old new c = (other : ContextId) → (other ≡ c → ⊥) → context_in new other ≡ context_in old other

-- the context is that now, and every other one is as it was
pub record Puts (old new : Contexts) (c : ContextId) (x : ContextState) : Type 0 where
  pub here : HasContext new c x
  pub others : OthersStay old new c

-- the context is gone, and every other one is as it was
pub record Loses (old new : Contexts) (c : ContextId) : Type 0 where
  pub gone : context_in new c ≡ None
  pub others : OthersStay old new c

-- only the table may change
pub record ContextsStay (old new : State) : Type 0 where
  pub contexts : new.contexts ≡ old.contexts
  pub made : new.made ≡ old.made

-- a context's handle was given and is dead, and none is given so again
pub record IsFreedContext (s : State) (c : ContextId) : Type 0 where
  pub given : c.stamp < s.made
  pub gone : context_in s.contexts c ≡ None
