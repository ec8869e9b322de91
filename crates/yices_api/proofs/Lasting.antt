-- What a handle stood for it stands for after a call, or it was freed; and so it is after lists of calls.
use Rattle.std.proofs.Common.{◌≡◌, ◌∙◌, ◌+◌, ◌-◌, ◌++◌, ◌⊎◌, ℕ, length, List, [], ◌∷◌, Option, Some, None, is_some, refl, sym, ap, subst, inl, inr, ⊎_elim, arith}
use Rattle.std.specs.Prelude.{slice_get, IsSome}
use Rattle.y_tree.specs.Sorts.{Sort, boolean, real, bit_vector, uninterpreted, function}
use Rattle.y_tree.specs.Tree.{Tree, node}
use Rattle.term_shapes.specs.declared.handles.Term.{Term}
use Rattle.term_shapes.specs.declared.handles.TypeId.{TypeId}
use Rattle.term_shapes.specs.declared.shapes.Node.{Node}
use Rattle.term_shapes.specs.declared.shapes.TypeShape.{TypeShape}
use Rattle.term_shapes.specs.declared.shapes.TypeShape.TheVariants as type
use Rattle.term_table.specs.World.{World, node_at, type_shape_at, HasNode, HasTypeShape, Keeps, KeepsType, IsFreedTerm, IsFreedType, IsAfter}
use Rattle.term_table.proofs.Adding.{some_node}
use Rattle.term_table.proofs.Lasting.{freed_dead}
use Rattle.term_table.specs.declared.table.Marked.TheVariants as handle
use Rattle.term_collect.specs.Reach.{Handle as Root, Leaves}
use Rattle.term_table.specs.Changes.{CountsUp, CountsDown, CountsTypeUp, CountsTypeDown, count_at, type_count_at, term_counted, type_counted}
use Rattle.term_sketches.specs.declared.items.Operator.{Operator}
use Rattle.yices_api.specs.declared.calls.Call.{Call}
use Rattle.yices_api.specs.declared.calls.Call.TheVariants as call
use Rattle.yices_api.specs.declared.handles.ContextId.{ContextId}
use Rattle.yices_api.specs.declared.replies.CallError.{CallError}
use Rattle.yices_api.specs.declared.replies.Reply.{Reply}
use Rattle.yices_api.specs.declared.replies.Reply.TheVariants as reply
use Rattle.clause_search.specs.declared.Turns.{Turns}
use Rattle.context_stack.specs.States.{ContextState}
use Rattle.yices_api.specs.State.{State, ContextsStay, IsFreedContext, Loses, context_in}
use Rattle.yices_api.specs.Calls.{Handle, IsLive, of_term, of_type, of_context, handles_of}
use Rattle.yices_api.specs.Steps.{Alters, AddsContext, Builds, Makes, Counts, Becomes, Prints, Opens, Pushes, Drops, AssertsIn, ChecksIn, ChecksAssuming, TellsCore, Does, RefusesDead, Api}
use Rattle.yices_api.specs.Runs.{IsWorld, Lasts, Reaches, Runs}
use Rattle.yices_api.proofs.Stamps.{context_cases}
use Rattle.yices_api.proofs.Tables.{Extends, extends_self, extends_as, tree_on, sort_on, constant_extends, variable_extends, most_extend, count_extends, type_count_extends, slots_extend}

-- a term that stands for a tree has a node, and a type that stands for a sort a shape
pub tree_node : (w : World) (a : Tree) (t : Term) → Keeps w t a → (n : Node) × HasNode w t n
unfolding Keeps
tree_node w (node op trees) t (s, k, has, names, is, args) = let n = some_node (node_at w t) s has in (n.0, n.1)

pub sort_shape : (w : World) (k : Sort) (t : TypeId) → KeepsType w t k → (s : TypeShape) × HasTypeShape w t s
unfolding KeepsType
sort_shape w boolean t h = (type.Bool, h)
sort_shape w real t h = (type.Real, h)
sort_shape w (bit_vector n) t h = (type.Bv n, h)
sort_shape w (uninterpreted n) t h = (type.Free n, h)
sort_shape w (function domain result) t (ts, r, has, ks, kr) = (type.Fun ts r, has)

pub extends_last : (old new : World) → Extends old new → Lasts old new
extends_last old new ext = record { terms = λ t a h. inl (tree_on old new ext t a h); types = λ t k h. inl (sort_on old new ext t k h); after = ext.after }

-- after a collection a handle is live, and then it was reached; or it is dead, and then it wasn't
module _ (old new : World) (R : Root → Type 0) (leaves : Leaves old new R) where
  term_lasts : (t : Term) (a : Tree) → Keeps old t a → Keeps new t a ⊎ IsFreedTerm new t
  term_lasts t a h = by (node_at new t) refl
    where
      was : IsSome (node_at old t)
      was = let n = tree_node old a t h in ap is_some n.1

      by : (o : Option Node) → node_at new t ≡ o → Keeps new t a ⊎ IsFreedTerm new t
      by (Some n) e = inl (leaves.tree t a h (leaves.only (handle.Term t) (ap is_some e)).1)
      by None e = let n = tree_node old a t h in inr (leaves.freed_term t was (λ r. cc (sym e ∙ leaves.term t n.0 n.1 r)))

  type_lasts : (t : TypeId) (k : Sort) → KeepsType old t k → KeepsType new t k ⊎ IsFreedType new t
  type_lasts t k h = by (type_shape_at new t) refl
    where
      was : IsSome (type_shape_at old t)
      was = let s = sort_shape old k t h in ap is_some s.1

      by : (o : Option TypeShape) → type_shape_at new t ≡ o → KeepsType new t k ⊎ IsFreedType new t
      by (Some s) e = inl (leaves.sort t k h (leaves.only (handle.TypeId t) (ap is_some e)).1)
      by None e = let s = sort_shape old k t h in inr (leaves.freed_type t was (λ r. cc (sym e ∙ leaves.type_shape t s.0 s.1 r)))

  pub leaves_last : Lasts old new
  leaves_last = record { terms = term_lasts; types = type_lasts; after = leaves.after }

  pub node_lasts : (t : Term) (n : Node) → HasNode old t n → HasNode new t n ⊎ IsFreedTerm new t
  node_lasts t n h = by (node_at new t) refl
    where
      by : (o : Option Node) → node_at new t ≡ o → HasNode new t n ⊎ IsFreedTerm new t
      by (Some m) e = inl (leaves.term t n h (leaves.only (handle.Term t) (ap is_some e)).1)
      by None e = inr (leaves.freed_term t (ap is_some h) (λ r. cc (sym e ∙ leaves.term t n h r)))

pub lasts_on : (a b c : World) → Lasts a b → Lasts b c → Lasts a c
lasts_on a b c g h = record {
  terms = λ t x k. ⊎_elim (λ kept. h.terms t x kept) (λ freed. inr (omega (arith, freed, h.after.terms t.slot))) (g.terms t x k);
  types = λ t x k. ⊎_elim (λ kept. h.types t x kept) (λ freed. inr (omega (arith, freed, h.after.types t.slot))) (g.types t x k);
  after = record { terms = λ i. omega (arith, g.after.terms i, h.after.terms i); types = λ i. omega (arith, g.after.types i, h.after.types i) };
}

-- each live term has its node still, or it was freed
abbrev pub NodesLast : World → World → Type 0
NodesLast old new = (t : Term) (n : Node) → HasNode old t n → HasNode new t n ⊎ IsFreedTerm new t

pub extends_nodes : (old new : World) → Extends old new → NodesLast old new
extends_nodes old new ext t n h = inl (ext.nodes t n h)

pub nodes_on : (a b c : World) → NodesLast a b → NodesLast b c → IsAfter b c → NodesLast a c
nodes_on a b c g h after t n has = ⊎_elim (λ kept. h t n kept) (λ freed. inr (omega (arith, freed, after.terms t.slot))) (g t n has)

-- what handles stood for lasts, and freed contexts stay freed
pub record Moves (old new : State) : Type 0 where
  pub lasts : Lasts old.table new.table
  pub nodes : NodesLast old.table new.table
  pub freed : (h : ContextId) → IsFreedContext old h → IsFreedContext new h

pub same_moves : (old new : State) → new ≡ old → Moves old new
same_moves old new e = subst (Moves old) (sym e) (record { lasts = extends_last old.table old.table (extends_self old.table); nodes = extends_nodes old.table old.table (extends_self old.table); freed = λ h f. f })

stay_freed : (old new : State) → ContextsStay old new → (h : ContextId) → IsFreedContext old h → IsFreedContext new h
stay_freed old new stay h f = record { given = omega (arith, f.given, stay.made); gone = ap (λ cs. context_in cs h) stay.contexts ∙ f.gone }

pub table_moves : (old new : State) → Extends old.table new.table → ContextsStay old new → Moves old new
table_moves old new ext stay = record { lasts = extends_last old.table new.table ext; nodes = extends_nodes old.table new.table ext; freed = stay_freed old new stay }

-- the contexts change, and the table doesn't
module _ (old new : State) (same : new.table ≡ old.table) where
  same_lasts : Lasts old.table new.table
  same_lasts = subst (Lasts old.table) (sym same) (extends_last old.table old.table (extends_self old.table))

  same_nodes : NodesLast old.table new.table
  same_nodes = subst (NodesLast old.table) (sym same) (extends_nodes old.table old.table (extends_self old.table))

  alters_moves : (how : ContextState → ContextState → Type 0) (c : ContextId) → Alters how c old.contexts new.contexts → new.made ≡ old.made → Moves old new
  alters_moves how c alters made = record { lasts = same_lasts; nodes = same_nodes; freed = freed }
    where
      freed : (h : ContextId) → IsFreedContext old h → IsFreedContext new h
      freed h f = ⊎_elim
          (λ (e : h ≡ c). absurd (cc (sym f.gone ∙ ap (context_in old.contexts) e ∙ alters.was)))
          (λ d. record { given = omega (arith, f.given, made); gone = alters.puts.others h d ∙ f.gone })
          (context_cases h c)

  loses_moves : (c : ContextId) → Loses old.contexts new.contexts c → new.made ≡ old.made → Moves old new
  loses_moves c loses made = record { lasts = same_lasts; nodes = same_nodes; freed = freed }
    where
      freed : (h : ContextId) → IsFreedContext old h → IsFreedContext new h
      freed h f = ⊎_elim
          (λ (e : h ≡ c). record { given = omega (arith, f.given, made); gone = ap (context_in new.contexts) e ∙ loses.gone })
          (λ d. record { given = omega (arith, f.given, made); gone = loses.others h d ∙ f.gone })
          (context_cases h c)

adds_moves : (old new : State) (c : ContextId) → AddsContext c old new → Moves old new
adds_moves old new c adds = record { lasts = same_lasts old new adds.table; nodes = same_nodes old new adds.table; freed = freed }
  where
    freed : (h : ContextId) → IsFreedContext old h → IsFreedContext new h
    freed h f = record {
      given = omega (arith, f.given, adds.made);
      gone = adds.puts.others h (λ (e : h ≡ c). absurd (omega (arith, f.given, adds.stamp, ap (λ (z : ContextId). z.stamp) e))) ∙ f.gone;
    }

-- each kind of call
builds_move : (o : Operator) (ts : List Term) (old new : State) (r : Reply) → Builds o ts old r new → Moves old new
builds_move o ts old new (reply.Term t) d = table_moves old new (most_extend (4 + length ts) old.table new.table d.1.terms) d.1.contexts
builds_move o ts old new _ d = table_moves old new (most_extend (4 + length ts) old.table new.table d.grown.terms) d.grown.contexts

makes_move : (makes : World → World → Term → Type 0) → ((w x : World) (t : Term) → makes w x t → Extends w x) → (old new : State) (r : Reply) → Makes makes old r new → Moves old new
makes_move makes ext old new (reply.Term t) d = table_moves old new (ext old.table new.table t d.0) d.1
makes_move makes ext old new (reply.Refused e) d = same_moves old new d.2
makes_move makes ext old new reply.NoMemory d = same_moves old new d
makes_move makes ext old new _ d = absurd d

counts_move : (changes : World → World → Type 0) (told : CallError) (bound : Type 0) → ((w x : World) → changes w x → Extends w x) → (old new : State) (r : Reply) → Counts changes told bound old r new → Moves old new
counts_move changes told bound ext old new reply.Done d = table_moves old new (ext old.table new.table d.0) d.1
counts_move changes told bound ext old new (reply.Refused e) d = same_moves old new d.2
counts_move changes told bound ext old new _ d = absurd d

table_set : (old new : State) (w : World) → new ≡ record old { table = w } → Extends old.table w → Moves old new
table_set old new w e ext = subst (Moves old) (sym e) (table_moves old (record old { table = w }) ext (record { contexts = refl; made = refl }))

becomes_move : (w : World) (old new : State) (r : Reply) → Extends old.table w → Becomes w old r new → Moves old new
becomes_move w old new reply.Done ext d = table_set old new w d ext
becomes_move w old new reply.NoMemory ext d = same_moves old new d
becomes_move w old new _ ext d = absurd d

prints_move : (t : Term) (old new : State) (r : Reply) → Prints t old r new → Moves old new
prints_move t old new (reply.Text text) d = same_moves old new d.2
prints_move t old new (reply.Refused e) d = same_moves old new d.2
prints_move t old new reply.NoMemory d = same_moves old new d
prints_move t old new _ d = absurd d

opens_move : (old new : State) (r : Reply) → Opens old r new → Moves old new
opens_move old new (reply.Context c) d = adds_moves old new c d
opens_move old new (reply.Refused e) d = same_moves old new d.2
opens_move old new reply.NoMemory d = same_moves old new d
opens_move old new _ d = absurd d

pushes_move : (c : ContextId) (old new : State) (r : Reply) → Pushes c old r new → Moves old new
pushes_move c old new reply.Done d = alters_moves old new d.1.table _ c d.0 d.1.made
pushes_move c old new (reply.Refused e) d = same_moves old new d.2
pushes_move c old new reply.NoMemory d = same_moves old new d
pushes_move c old new _ d = absurd d

drops_move : (c : ContextId) (old new : State) (r : Reply) → Drops c old r new → Moves old new
drops_move c old new reply.Done d = alters_moves old new d.1.table _ c d.0 d.1.made
drops_move c old new (reply.Refused e) d = same_moves old new d.2
drops_move c old new _ d = absurd d

asserts_move : (c : ContextId) (t : Term) (old new : State) (r : Reply) → AssertsIn c t old r new → Moves old new
asserts_move c t old new reply.Done d = alters_moves old new d.2.table _ c d.1 d.2.made
asserts_move c t old new (reply.Refused e) d = same_moves old new d.1
asserts_move c t old new reply.NoMemory d = same_moves old new d
asserts_move c t old new _ d = absurd d

checks_move : (c : ContextId) (assumed : Option (List Term)) (turns : Turns) (old new : State) (r : Reply) → ChecksIn c assumed turns old r new → Moves old new
checks_move c assumed turns old new r d = alters_moves old new d.table.table _ c d.alters d.table.made

assuming_moves : (c : ContextId) (ts : List Term) (turns : Turns) (old new : State) (r : Reply) → ChecksAssuming c ts turns old r new → Moves old new
assuming_moves c ts turns old new r (inl refuses) = same_moves old new refuses.same
assuming_moves c ts turns old new r (inr checks) = checks_move c (Some ts) turns old new r checks

core_moves : (c : ContextId) (old new : State) (r : Reply) → TellsCore c old r new → Moves old new
core_moves c old new (reply.Terms ts) d = same_moves old new d.1
core_moves c old new (reply.Refused e) d = same_moves old new d.2
core_moves c old new reply.NoMemory d = same_moves old new d.1
core_moves c old new _ d = absurd d

pub up_extends : (t : Term) (w x : World) → CountsUp w x t → Extends w x
up_extends t w x h = extends_as w (term_counted w t (count_at w t + 1)) x (sym h.new_count) (count_extends w t (count_at w t + 1))

pub down_extends : (t : Term) (w x : World) → CountsDown w x t → Extends w x
down_extends t w x h = extends_as w (term_counted w t (count_at w t - 1)) x (sym h.new_count) (count_extends w t (count_at w t - 1))

pub type_up_extends : (t : TypeId) (w x : World) → CountsTypeUp w x t → Extends w x
type_up_extends t w x h = extends_as w (type_counted w t (type_count_at w t + 1)) x (sym h.new_count) (type_count_extends w t (type_count_at w t + 1))

pub type_down_extends : (t : TypeId) (w x : World) → CountsTypeDown w x t → Extends w x
type_down_extends t w x h = extends_as w (type_counted w t (type_count_at w t - 1)) x (sym h.new_count) (type_count_extends w t (type_count_at w t - 1))

-- what a call does
does_move : (c : Call) (old new : State) (r : Reply) → Does c old r new → Moves old new
does_move call.BoolType old new r d = same_moves old new d.2.same
does_move call.True old new r d = same_moves old new d.2.same
does_move call.False old new r d = same_moves old new d.2.same
does_move (call.NewUninterpretedTerm of) old new r d = makes_move _ (λ w x t. constant_extends w x of t) old new r d
does_move (call.NewVariable of) old new r d = makes_move _ (λ w x t. variable_extends w x of t) old new r d
does_move (call.Not a) old new r d = builds_move _ _ old new r d
does_move (call.And ts) old new r d = builds_move _ _ old new r d
does_move (call.Or ts) old new r d = builds_move _ _ old new r d
does_move (call.Xor ts) old new r d = builds_move _ _ old new r d
does_move (call.Implies a b) old new r d = builds_move _ _ old new r d
does_move (call.Iff a b) old new r d = builds_move _ _ old new r d
does_move (call.Ite t a b) old new r d = builds_move _ _ old new r d
does_move (call.Eq a b) old new r d = builds_move _ _ old new r d
does_move (call.Neq a b) old new r d = builds_move _ _ old new r d
does_move (call.Distinct ts) old new r d = builds_move _ _ old new r d
does_move (call.TypeOfTerm t) old new r d = same_moves old new d.2.same
does_move (call.PpTerm t) old new r d = prints_move t old new r d
does_move (call.IncrefTerm t) old new r d = counts_move _ _ _ (up_extends t) old new r d
does_move (call.DecrefTerm t) old new r d = counts_move _ _ _ (down_extends t) old new r d
does_move (call.IncrefType t) old new r d = counts_move _ _ _ (type_up_extends t) old new r d
does_move (call.DecrefType t) old new r d = counts_move _ _ _ (type_down_extends t) old new r d
does_move call.NumTerms old new r d = same_moves old new d.same
does_move call.NumTypes old new r d = same_moves old new d.same
does_move (call.GarbageCollect b ms) old new r d = record { lasts = leaves_last old.table new.table _ d.1; nodes = node_lasts old.table new.table _ d.1; freed = stay_freed old new d.2 }
does_move (call.SetTermName name t) old new r d = becomes_move _ old new r (slots_extend _ _ refl refl) d
does_move (call.SetTypeName name t) old new r d = becomes_move _ old new r (slots_extend _ _ refl refl) d
does_move (call.GetTermByName name) old new r d = same_moves old new d.same
does_move (call.GetTypeByName name) old new r d = same_moves old new d.same
does_move (call.GetTermName t) old new r d = same_moves old new d.same
does_move (call.GetTypeName t) old new r d = same_moves old new d.same
does_move (call.RemoveTermName name) old new r d = table_set old new _ d.1 (slots_extend _ _ refl refl)
does_move (call.RemoveTypeName name) old new r d = table_set old new _ d.1 (slots_extend _ _ refl refl)
does_move call.NewContext old new r d = opens_move old new r d
does_move (call.FreeContext c) old new r d = loses_moves old new d.2.table c d.1 d.2.made
does_move (call.ResetContext c) old new r d = alters_moves old new d.2.table _ c d.1 d.2.made
does_move (call.Push c) old new r d = pushes_move c old new r d
does_move (call.Pop c) old new r d = drops_move c old new r d
does_move (call.ContextStatus c) old new r d = same_moves old new d.1
does_move (call.AssertFormula c t) old new r d = asserts_move c t old new r d
does_move (call.CheckContext c turns) old new r d = checks_move c None turns old new r d
does_move (call.CheckContextWithAssumptions c turns ts) old new r d = assuming_moves c ts turns old new r d
does_move (call.GetUnsatCore c) old new r d = core_moves c old new r d

pub step_moves : (old new : State) (c : Call) (r : Reply) → Api old c r new → Moves old new
step_moves old new c r (inl refuses) = same_moves old new refuses.same
step_moves old new c r (inr (live, does)) = does_move c old new r does

pub step_lasts : (old new : State) (c : Call) (r : Reply) → IsWorld old → Api old c r new → Lasts old.table new.table
step_lasts old new c r world step = (step_moves old new c r step).lasts

pub step_freed : (old new : State) (c : Call) (r : Reply) (h : ContextId) → Api old c r new → IsFreedContext old h → IsFreedContext new h
step_freed old new c r h step freed = (step_moves old new c r step).freed h freed

-- a call with a dead handle is refused
dead_refused : (old new : State) (c : Call) (r : Reply) (h : Handle) (i place : ℕ) → (IsLive old h → ⊥) → slice_get (handles_of c) i ≡ Some (place, h) → Api old c r new → RefusesDead (handles_of c) old r new
dead_refused old new c r h i place dead at (inl refuses) = refuses
dead_refused old new c r h i place dead at (inr (live, does)) = absurd (dead (live i (place, h) at))

none_not : {X : Type 0} (o : Option X) → o ≡ None → IsSome o → ⊥
none_not o e h = cc (sym h ∙ ap is_some e)

pub freed_term_refused : (old new : State) (c : Call) (r : Reply) (t : Term) (i place : ℕ) → IsFreedTerm old.table t → slice_get (handles_of c) i ≡ Some (place, of_term t) → Api old c r new → RefusesDead (handles_of c) old r new
freed_term_refused old new c r t i place freed at step =
    dead_refused old new c r (of_term t) i place (none_not (node_at old.table t) (freed_dead old.table.terms t.slot t.stamp freed)) at step

pub freed_type_refused : (old new : State) (c : Call) (r : Reply) (t : TypeId) (i place : ℕ) → IsFreedType old.table t → slice_get (handles_of c) i ≡ Some (place, of_type t) → Api old c r new → RefusesDead (handles_of c) old r new
freed_type_refused old new c r t i place freed at step =
    dead_refused old new c r (of_type t) i place (none_not (type_shape_at old.table t) (freed_dead old.table.types t.slot t.stamp freed)) at step

pub freed_context_refused : (old new : State) (c : Call) (r : Reply) (h : ContextId) (i place : ℕ) → IsFreedContext old h → slice_get (handles_of c) i ≡ Some (place, of_context h) → Api old c r new → RefusesDead (handles_of c) old r new
freed_context_refused old new c r h i place freed at step =
    dead_refused old new c r (of_context h) i place (none_not (context_in old.contexts h) freed.gone) at step

-- lists of calls
pub runs_move : (cs : List Call) (rs : List Reply) (first last : State) → Runs first cs rs last → Moves first last
runs_move [] [] first last e = same_moves first last e
runs_move [] (r ∷ rs) first last h = absurd h
runs_move (c ∷ cs) [] first last h = absurd h
runs_move (c ∷ cs) (r ∷ rs) first last (mid, reaches, runs) =
    let one = step_moves first mid c r reaches.step in
    let more = runs_move cs rs mid last runs in
    record { lasts = lasts_on first.table mid.table last.table one.lasts more.lasts; nodes = nodes_on first.table mid.table last.table one.nodes more.nodes more.lasts.after; freed = λ h f. more.freed h (one.freed h f) }

pub runs_last_tables : (first last : State) (cs : List Call) (rs : List Reply) → IsWorld first → Runs first cs rs last → Lasts first.table last.table
runs_last_tables first last cs rs world runs = (runs_move cs rs first last runs).lasts

pub runs_freed : (first last : State) (cs : List Call) (rs : List Reply) (h : ContextId) → Runs first cs rs last → IsFreedContext first h → IsFreedContext last h
runs_freed first last cs rs h runs freed = (runs_move cs rs first last runs).freed h freed

pub one_more : (first mid last : State) (cs : List Call) (rs : List Reply) (c : Call) (r : Reply) → Runs first cs rs mid → Reaches mid c r last → Runs first (cs ++ c ∷ []) (rs ++ r ∷ []) last
one_more first mid last [] [] c r e reaches = (last, subst (λ z. Reaches z c r last) e reaches, refl)
one_more first mid last [] (s ∷ rs) c r h reaches = absurd h
one_more first mid last (d ∷ cs) [] c r h reaches = absurd h
one_more first mid last (d ∷ cs) (s ∷ rs) c r (next, reached, runs) reaches = (next, reached, one_more next mid last cs rs c r runs reaches)
