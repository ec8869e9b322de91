-- The step of the interface: what each call replies and does, and why it is refused.
use Rattle.std.specs.Prelude.{◌≡◌, ℕ, ◌<◌, ◌≤◌, ◌+◌, ◌⊎◌, Bool, List, [], ◌∷◌, ◌++◌, length, Option, Some, None, IsSome, is_some}
use Rattle.y_tree.specs.Sorts.{boolean}
use Rattle.stamped_slots.specs.Slots.{live, taken}
use Rattle.name_stacks.specs.Names.{newest}
use Rattle.term_shapes.specs.declared.handles.Term.{Term}
use Rattle.term_shapes.specs.declared.handles.TypeId.{TypeId}
use Rattle.term_shapes.specs.declared.shapes.Shape.TheVariants as shape
use Rattle.term_shapes.specs.declared.shapes.TypeShape.TheVariants as type
use Rattle.term_table.specs.World.{World, HasShape, HasType, HasTypeShape}
use Rattle.term_table.specs.Changes.{MakesConstant, MakesVariable, CountsUp, CountsDown, CountsTypeUp, CountsTypeDown, count_at, type_count_at}
use Rattle.term_table.specs.Checking.{HasSort}
use Rattle.term_table.specs.Naming.{term_named, type_named, term_unnamed, type_unnamed}
use Rattle.term_table.specs.declared.table.Marked.{Marked}
use Rattle.term_collect.specs.Reach.{IsReached, IsKept, Leaves}
use Rattle.term_orders.specs.Orders.{IsBelow, IsVariable}
use Rattle.term_sketches.specs.declared.items.Operator.{Operator}
use Rattle.term_sketches.specs.Sketches.{operator_of}
use Rattle.term_build.specs.Building.{AddsAtMost, IsBuilt, MayAdd, RefusesCall}
use Rattle.term_build.specs.declared.errors.BuildError.{BuildError}
use Rattle.term_texts.specs.TermTexts.{Writes, IsLong, text_limit, term_name}
use Rattle.term_texts.specs.TypeTexts.{type_name}
use Rattle.clause_search.specs.declared.Turns.{Turns}
use Rattle.term_checks.specs.Formulas.{IsFormula}
use Rattle.context_stack.specs.declared.checks.Checked.{Checked}
use Rattle.context_stack.specs.States.{ContextState, IsUnchecked}
use Rattle.context_stack.specs.Steps.{Asserts, Pops}
use Rattle.context_stack.specs.Checks.{AreTruthValues, Checks, HasFirstVariable, IsFirstOther}
use Rattle.yices_api.specs.declared.handles.ContextId.{ContextId}
use Rattle.yices_api.specs.declared.calls.Call.{Call}
use Rattle.yices_api.specs.declared.calls.Call.TheVariants as call
use Rattle.yices_api.specs.declared.replies.CallError.{CallError}
use Rattle.yices_api.specs.declared.replies.CallError.TheVariants as error
use Rattle.yices_api.specs.declared.replies.Reply.{Reply}
use Rattle.yices_api.specs.declared.replies.Reply.TheVariants as reply
use Rattle.yices_api.specs.State.{State, Contexts, HasContext, Puts, Loses, ContextsStay, terms_of_contexts}
use Rattle.yices_api.specs.Calls.{Handle, made_by, handles_of, IsFirstDead, AllLive, listed_terms, listed_types}
use Rattle.yices_api.specs.Told.{dead_at, told_build, told_check, term_or_nothing, type_or_nothing, text_or_nothing}

-- it replies that, and nothing changes
pub record Tells (a : Reply) (old : State) (r : Reply) (new : State) : Type 0 where
  pub told : r ≡ a
  pub same : new ≡ old

-- it replies that, or memory is refused; nothing changes
pub record TellsIfRoom (a : Reply) (old : State) (r : Reply) (new : State) : Type 0 where
  pub told : (r ≡ a) ⊎ (r ≡ reply.NoMemory)
  pub same : new ≡ old

-- at most so many new terms, and nothing else changes
pub record Grows (bound : ℕ) (old new : State) : Type 0 where
  pub terms : AddsAtMost bound old.table new.table
  pub contexts : ContextsStay old new

-- a constructor is refused; only for want of a slot or of memory there may be new terms
pub record RefusesBuild (old : State) (o : Operator) (ts : List Term) (r : Reply) (new : State) : Type 0 where
  pub why : BuildError
  pub refuses : RefusesCall old.table new.table (operator_of o) ts why
  pub told : r ≡ told_build why
  pub grown : Grows (4 + length ts) old new
  pub same : (MayAdd why → ⊥) → new ≡ old

-- a constructor replies a term with its operator's meaning, or it is refused
abbrev pub Builds : Operator → List Term → State → Reply → State → Type 0
Builds o ts old (reply.Term t) new = IsBuilt old.table new.table o ts t × Grows (4 + length ts) old new
Builds o ts old r new = RefusesBuild old o ts r new

-- a new term is made so; or no slot is left, or memory is refused, and nothing changes
abbrev pub Makes : (World → World → Term → Type 0) → State → Reply → State → Type 0
Makes makes old (reply.Term t) new = makes old.table new.table t × ContextsStay old new
Makes makes old (reply.Refused e) new = (e ≡ error.TableFull) × (taken old.table.terms ≡ 4194304) × (new ≡ old)
Makes makes old reply.NoMemory new = new ≡ old
Makes makes old _ new = ⊥

-- a count changes so; or it is at its bound, that refusal is told, and nothing changes
abbrev pub Counts : (World → World → Type 0) → CallError → Type 0 → State → Reply → State → Type 0
Counts changes told bound old reply.Done new = changes old.table new.table × ContextsStay old new
Counts changes told bound old (reply.Refused e) new = (e ≡ told) × bound × (new ≡ old)
Counts changes told bound old _ new = ⊥

-- the table becomes that one; or memory is refused, and nothing changes
abbrev pub Becomes : World → State → Reply → State → Type 0
Becomes w old reply.Done new = new ≡ record old { table = w }
Becomes w old reply.NoMemory new = new ≡ old
Becomes w old _ new = ⊥

-- the text of a term; or it is too long, or memory is refused
abbrev pub Prints : Term → State → Reply → State → Type 0
Prints t old (reply.Text text) new = Writes old.table t text × (length text ≤ text_limit) × (new ≡ old)
Prints t old (reply.Refused e) new = (e ≡ error.TooLong) × IsLong old.table t × (new ≡ old)
Prints t old reply.NoMemory new = new ≡ old
Prints t old _ new = ⊥

-- what nothing reaches is freed: neither a permanent one, nor what is counted, nor a listed handle, nor a formula or a core of a context, nor, where asked, what a name means
abbrev pub Frees : Bool → List Marked → State → Reply → State → Type 0
Frees keep_named roots old r new = (r ≡ reply.Done) × Leaves old.table new.table (IsReached old.table (IsKept old.table (listed_terms roots ++ terms_of_contexts old.contexts) (listed_types roots) keep_named)) × ContextsStay old new

-- only the contexts may change
pub record TableStays (old new : State) : Type 0 where
  pub table : new.table ≡ old.table
  pub made : new.made ≡ old.made

-- a context changes so, and every other one stays
pub record Alters (how : ContextState → ContextState → Type 0) (c : ContextId) (old new : Contexts) : Type 0 where
  pub before : ContextState
  pub was : HasContext old c before
  pub after : ContextState
  pub changed : how before after
  pub puts : Puts old new c after

-- a context is so
pub record Finds (how : ContextState → Type 0) (c : ContextId) (cs : Contexts) : Type 0 where
  pub context : ContextState
  pub has : HasContext cs c context
  pub so : how context

-- the levels of a context change so, and nothing is known of them
abbrev pub Relevels : (List (List Term) → List (List Term) → Type 0) → ContextState → ContextState → Type 0
Relevels how x y = how x.levels y.levels × IsUnchecked y

-- a new context with one empty list of formulas, of which nothing is known, under a stamp that none had
pub record AddsContext (c : ContextId) (old new : State) : Type 0 where
  pub below : old.made < 4294967296
  pub stamp : c.stamp ≡ old.made
  pub context : ContextState
  pub levels : context.levels ≡ [] ∷ []
  pub unchecked : IsUnchecked context
  pub puts : Puts old.contexts new.contexts c context
  pub table : new.table ≡ old.table
  pub made : new.made ≡ old.made + 1

-- a new context; or there were too many, or memory is refused, and nothing changes
abbrev pub Opens : State → Reply → State → Type 0
Opens old (reply.Context c) new = AddsContext c old new
Opens old (reply.Refused e) new = (e ≡ error.TooMany) × (old.made ≡ 4294967296) × (new ≡ old)
Opens old reply.NoMemory new = new ≡ old
Opens old _ new = ⊥

-- the context is gone
abbrev pub Closes : ContextId → State → Reply → State → Type 0
Closes c old r new = (r ≡ reply.Done) × Loses old.contexts new.contexts c × TableStays old new

-- one empty list of formulas is left
abbrev pub Resets : ContextId → State → Reply → State → Type 0
Resets c old r new = (r ≡ reply.Done) × Alters (Relevels (λ ls ms. ms ≡ [] ∷ [])) c old.contexts new.contexts × TableStays old new

-- a level more; or there are 65,536 over the bottom one, or memory is refused
abbrev pub Pushes : ContextId → State → Reply → State → Type 0
Pushes c old reply.Done new = Alters (Relevels (λ ls ms. (length ls < 65537) × (ms ≡ ls ++ [] ∷ []))) c old.contexts new.contexts × TableStays old new
Pushes c old (reply.Refused e) new = (e ≡ error.TooDeep) × Finds (λ x. length x.levels ≡ 65537) c old.contexts × (new ≡ old)
Pushes c old reply.NoMemory new = new ≡ old
Pushes c old _ new = ⊥

-- the newest level is gone; or there is none over the bottom one
abbrev pub Drops : ContextId → State → Reply → State → Type 0
Drops c old reply.Done new = Alters (Relevels Pops) c old.contexts new.contexts × TableStays old new
Drops c old (reply.Refused e) new = (e ≡ error.BottomLevel) × Finds (λ x. length x.levels ≡ 1) c old.contexts × (new ≡ old)
Drops c old _ new = ⊥

-- why a live term is no formula
abbrev pub IsNoFormula : World → Term → CallError → Type 0
IsNoFormula w t (error.NotBool place) = (place ≡ 1) × (HasSort w t boolean → ⊥)
IsNoFormula w t (error.HasVariable v) = HasSort w t boolean × IsVariable w v × IsBelow w v t
IsNoFormula w t _ = ⊥

-- a formula more on the newest level; or the term is none, or memory is refused
abbrev pub AssertsIn : ContextId → Term → State → Reply → State → Type 0
AssertsIn c t old reply.Done new = IsFormula old.table t × Alters (Relevels (λ ls ms. Asserts ls ms t)) c old.contexts new.contexts × TableStays old new
AssertsIn c t old (reply.Refused e) new = IsNoFormula old.table t e × (new ≡ old)
AssertsIn c t old reply.NoMemory new = new ≡ old
AssertsIn c t old _ new = ⊥

-- what is known of the formulas is replied
abbrev pub TellsStatus : ContextId → State → Reply → State → Type 0
TellsStatus c old r new = Finds (λ x. r ≡ reply.Status x.status) c old.contexts × (new ≡ old)

-- the formulas now on the levels of a context are checked, with assumptions or without, under a limit of turns: the verdict is of these, and is the status from then on; or a term below them is no truth value, or memory is refused, and no status is left
pub record ChecksIn (c : ContextId) (assumed : Option (List Term)) (turns : Turns) (old : State) (r : Reply) (new : State) : Type 0 where
  pub found : Checked
  pub told : r ≡ told_check found
  pub alters : Alters (Checks old.table assumed turns found) c old.contexts new.contexts
  pub table : TableStays old new

-- why live terms aren't all formulas: the first that is no truth value, or else a variable below the first that has one
abbrev pub AreNoFormulas : World → List Term → CallError → Type 0
AreNoFormulas w ts (error.NotBool place) = IsFirstOther w ts place
AreNoFormulas w ts (error.HasVariable v) = AreTruthValues w ts × HasFirstVariable w ts v
AreNoFormulas w ts _ = ⊥

-- an assumption is no formula, which is told, and nothing changes
pub record RefusesAssumptions (ts : List Term) (old : State) (r : Reply) (new : State) : Type 0 where
  pub why : CallError
  pub refuses : AreNoFormulas old.table ts why
  pub told : r ≡ reply.Refused why
  pub same : new ≡ old

-- a check with assumptions
abbrev pub ChecksAssuming : ContextId → List Term → Turns → State → Reply → State → Type 0
ChecksAssuming c ts turns old r new = RefusesAssumptions ts old r new ⊎ ChecksIn c (Some ts) turns old r new

-- the core of the newest check is replied; or there is none, or memory is refused
abbrev pub TellsCore : ContextId → State → Reply → State → Type 0
TellsCore c old (reply.Terms ts) new = Finds (λ x. x.core ≡ Some ts) c old.contexts × (new ≡ old)
TellsCore c old (reply.Refused e) new = (e ≡ error.NoCore) × Finds (λ x. x.core ≡ None) c old.contexts × (new ≡ old)
TellsCore c old reply.NoMemory new = Finds (λ x. IsSome x.core) c old.contexts × (new ≡ old)
TellsCore c old _ new = ⊥

-- what a call does that is no constructor, where its handles are live
abbrev pub DoesOther : Call → State → Reply → State → Type 0
DoesOther call.BoolType old r new = (t : TypeId) × HasTypeShape old.table t type.Bool × Tells (reply.TypeId t) old r new
DoesOther call.True old r new = (t : Term) × HasShape old.table t shape.True × Tells (reply.Term t) old r new
DoesOther call.False old r new = (t : Term) × HasShape old.table t shape.False × Tells (reply.Term t) old r new
DoesOther (call.NewUninterpretedTerm of) old r new = Makes (λ w x t. MakesConstant w x of t) old r new
DoesOther (call.NewVariable of) old r new = Makes (λ w x t. MakesVariable w x of t) old r new
DoesOther (call.TypeOfTerm t) old r new = (of : TypeId) × HasType old.table t of × Tells (reply.TypeId of) old r new
DoesOther (call.PpTerm t) old r new = Prints t old r new
DoesOther (call.IncrefTerm t) old r new = Counts (λ w x. CountsUp w x t) error.CountFull (count_at old.table t ≡ 4294967295) old r new
DoesOther (call.DecrefTerm t) old r new = Counts (λ w x. CountsDown w x t) error.CountZero (count_at old.table t ≡ 0) old r new
DoesOther (call.IncrefType t) old r new = Counts (λ w x. CountsTypeUp w x t) error.CountFull (type_count_at old.table t ≡ 4294967295) old r new
DoesOther (call.DecrefType t) old r new = Counts (λ w x. CountsTypeDown w x t) error.CountZero (type_count_at old.table t ≡ 0) old r new
DoesOther call.NumTerms old r new = Tells (reply.Number (live old.table.terms)) old r new
DoesOther call.NumTypes old r new = Tells (reply.Number (live old.table.types)) old r new
DoesOther (call.GarbageCollect keep_named roots) old r new = Frees keep_named roots old r new
DoesOther (call.SetTermName name t) old r new = Becomes (term_named old.table name t) old r new
DoesOther (call.SetTypeName name t) old r new = Becomes (type_named old.table name t) old r new
DoesOther (call.GetTermByName name) old r new = Tells (term_or_nothing (newest name old.table.term_names)) old r new
DoesOther (call.GetTypeByName name) old r new = Tells (type_or_nothing (newest name old.table.type_names)) old r new
DoesOther (call.GetTermName t) old r new = TellsIfRoom (text_or_nothing (term_name old.table t)) old r new
DoesOther (call.GetTypeName t) old r new = TellsIfRoom (text_or_nothing (type_name old.table t)) old r new
DoesOther (call.RemoveTermName name) old r new = (r ≡ reply.Flag (is_some (newest name old.table.term_names))) × (new ≡ record old { table = term_unnamed old.table name })
DoesOther (call.RemoveTypeName name) old r new = (r ≡ reply.Flag (is_some (newest name old.table.type_names))) × (new ≡ record old { table = type_unnamed old.table name })
DoesOther call.NewContext old r new = Opens old r new
DoesOther (call.FreeContext c) old r new = Closes c old r new
DoesOther (call.ResetContext c) old r new = Resets c old r new
DoesOther (call.Push c) old r new = Pushes c old r new
DoesOther (call.Pop c) old r new = Drops c old r new
DoesOther (call.ContextStatus c) old r new = TellsStatus c old r new
DoesOther (call.AssertFormula c t) old r new = AssertsIn c t old r new
DoesOther (call.CheckContext c turns) old r new = ChecksIn c None turns old r new
DoesOther (call.CheckContextWithAssumptions c turns ts) old r new = ChecksAssuming c ts turns old r new
DoesOther (call.GetUnsatCore c) old r new = TellsCore c old r new
DoesOther _ old r new = ⊥

-- what a call does where its handles are live
abbrev pub DoesBy : Option (Operator × List Term) → Call → State → Reply → State → Type 0
DoesBy (Some p) c old r new = Builds p.0 p.1 old r new
DoesBy None c old r new = DoesOther c old r new

abbrev pub Does : Call → State → Reply → State → Type 0
Does c old r new = DoesBy (made_by c) c old r new

-- the first dead handle is told, and nothing changes
pub record RefusesDead (hs : List (ℕ × Handle)) (old : State) (r : Reply) (new : State) : Type 0 where
  pub place : ℕ
  pub handle : Handle
  pub first : IsFirstDead old hs place handle
  pub told : r ≡ reply.Refused (dead_at place handle)
  pub same : new ≡ old

-- a call with these handles is refused by the first dead one, or they are live and it does that
abbrev pub StepsBy : List (ℕ × Handle) → (State → Reply → State → Type 0) → State → Reply → State → Type 0
StepsBy hs does old r new = RefusesDead hs old r new ⊎ (AllLive old hs × does old r new)

-- the step of the interface
abbrev pub Api : State → Call → Reply → State → Type 0
Api old c r new = StepsBy (handles_of c) (Does c) old r new
