-- The types and the variables that a reply names are live, whatever the call is.
use Rattle.std.proofs.Common.{◌≡◌, ◌∙◌, ◌⊎◌, ◌+◌, ℕ, suc, length, List, [], ◌∷◌, Option, Some, None, is_some, refl, sym, ap, subst, inl, inr, ⊎_elim}
use Rattle.std.specs.Prelude.{slice_get, IsSome, if◌then◌else◌}
use Rattle.std.specs.Option.{option_map}
use Rattle.std.specs.Str.{bytes_eq}
use Rattle.term_texts.specs.TermTexts.{term_name}
use Rattle.term_texts.specs.TypeTexts.{type_name}
use Rattle.std.proofs.lemmas.Option.{same_Some, cond_some}
use Rattle.y_tree.specs.Sorts.{Sort}
use Rattle.shape_rules.specs.declared.errors.Wanted.{Wanted}
use Rattle.shape_rules.specs.declared.errors.Wanted.TheVariants as wanted
use Rattle.y_tree.specs.Misfits as misfit
use Rattle.name_stacks.specs.Names.{newest, or_else}
use Rattle.term_shapes.specs.declared.handles.Term.{Term}
use Rattle.term_shapes.specs.declared.handles.TypeId.{TypeId}
use Rattle.term_shapes.specs.declared.shapes.Node.{Node}
use Rattle.term_shapes.specs.declared.shapes.TypeShape.{TypeShape}
use Rattle.term_table.specs.World.{World, node_at, type_shape_at, type_at, IsTable, HasType, HasShape, HasTypeShape, KeepsType}
use Rattle.term_table.specs.Changes.{MakesConstant, MakesVariable, CountsUp, CountsDown, CountsTypeUp, CountsTypeDown, count_at, type_count_at}
use Rattle.term_table.specs.Checking.{Wants}
use Rattle.term_table.proofs.Adding.{some_node}
use Rattle.term_orders.specs.Orders.{IsVariable}
use Rattle.term_sketches.specs.declared.items.Operator.{Operator}
use Rattle.term_build.specs.declared.errors.BuildError.{BuildError}
use Rattle.term_build.specs.declared.errors.BuildError.TheVariants as build_error
use Rattle.term_sketches.specs.Sketches.{operator_of}
use Rattle.term_build.specs.Building.{RefusesCall}
use Rattle.yices_api.specs.declared.calls.Call.{Call}
use Rattle.yices_api.specs.declared.calls.Call.TheVariants as call
use Rattle.yices_api.specs.declared.handles.ContextId.{ContextId}
use Rattle.yices_api.specs.declared.replies.CallError.{CallError}
use Rattle.yices_api.specs.declared.replies.CallError.TheVariants as error
use Rattle.yices_api.specs.declared.replies.Reply.{Reply}
use Rattle.yices_api.specs.declared.replies.Reply.TheVariants as reply
use Rattle.yices_api.specs.State.{State}
use Rattle.yices_api.specs.Calls.{Handle, of_term, of_type, of_context}
use Rattle.clause_search.specs.declared.Turns.{Turns}
use Rattle.context_stack.specs.declared.checks.Checked.{Checked}
use Rattle.context_stack.specs.declared.checks.Checked.TheVariants as checked
use Rattle.yices_api.specs.Told.{dead_at, told_build, told_check, term_or_nothing, type_or_nothing, text_or_nothing}
use Rattle.yices_api.specs.Printing.{IsPrintable, IsRefusalLive, IsWantedLive}
use Rattle.yices_api.specs.Steps.{Tells, TellsIfRoom, RefusesBuild, Builds, Makes, Counts, Becomes, Prints, Opens, Pushes, Drops, AssertsIn, IsNoFormula, AreNoFormulas, ChecksIn, ChecksAssuming, TellsCore, Does, Api}
use Rattle.yices_api.specs.Runs.{IsWorld}
use Rattle.yices_api.proofs.Lasting.{sort_shape}
use Rattle.yices_api.proofs.Tables.{Extends, most_extend}

-- what stands for a sort is live
sort_live : (w : World) (k : Sort) (t : TypeId) → KeepsType w t k → IsSome (type_shape_at w t)
sort_live w k t h = ap is_some (sort_shape w k t h).1

-- live types stay live
type_live : (old new : World) → Extends old new → (t : TypeId) → IsSome (type_shape_at old t) → IsSome (type_shape_at new t)
type_live old new ext t = by (type_shape_at old t) refl
  where
    by : (o : Option TypeShape) → type_shape_at old t ≡ o → IsSome o → IsSome (type_shape_at new t)
    by None e h = absurd (cc h)
    by (Some s) e h = ap is_some (ext.types t s e)

wanted_live : (w : World) (want : Wanted) (v : misfit.Wanted) → Wants w want v → IsWantedLive w want
wanted_live w (wanted.Same t) v (k, keeps, is) = sort_live w k t keeps
wanted_live w wanted.Bool v h = tt
wanted_live w wanted.Real v h = tt
wanted_live w wanted.AnyBv v h = tt
wanted_live w wanted.AnyFun v h = tt

wanted_on : (old new : World) → Extends old new → (want : Wanted) → IsWantedLive old want → IsWantedLive new want
wanted_on old new ext (wanted.Same t) h = type_live old new ext t h
wanted_on old new ext wanted.Bool h = tt
wanted_on old new ext wanted.Real h = tt
wanted_on old new ext wanted.AnyBv h = tt
wanted_on old new ext wanted.AnyFun h = tt

-- the refusal of a constructor
build_printable : (old new : State) (o : Operator) (ts : List Term) (e : BuildError) → RefusesCall old.table new.table (operator_of o) ts e → Extends old.table new.table → IsPrintable new (told_build e)
build_printable old new o ts (build_error.WrongType place want found) refuses ext =
    let t = refuses.tells in
    (wanted_on old.table new.table ext want (wanted_live old.table want t.0 t.2), type_live old.table new.table ext found (sort_live old.table t.1 found t.3))
build_printable old new o ts (build_error.DeadTerm place) refuses ext = tt
build_printable old new o ts (build_error.BadArity n) refuses ext = tt
build_printable old new o ts (build_error.WidthsDiffer place left right) refuses ext = tt
build_printable old new o ts (build_error.BadWidth n) refuses ext = tt
build_printable old new o ts build_error.BadRange refuses ext = tt
build_printable old new o ts build_error.TableFull refuses ext = tt
build_printable old new o ts build_error.NoMemory refuses ext = tt

-- a reply that is another
as_reply : (s : State) (a r : Reply) → r ≡ a → IsPrintable s a → IsPrintable s r
as_reply s a r e h = subst (IsPrintable s) (sym e) h

refused_build : (o : Operator) (ts : List Term) (old new : State) (r : Reply) → RefusesBuild old o ts r new → IsPrintable new r
refused_build o ts old new r d = as_reply new (told_build d.why) r d.told (build_printable old new o ts d.why d.refuses (most_extend (4 + length ts) old.table new.table d.grown.terms))

builds_printable : (o : Operator) (ts : List Term) (old new : State) (r : Reply) → Builds o ts old r new → IsPrintable new r
builds_printable o ts old new (reply.Term t) d = tt
builds_printable o ts old new _ d = refused_build o ts old new _ d

-- a refusal that names nothing
plain : (s : State) (e told : CallError) → e ≡ told → IsRefusalLive s.table told → IsRefusalLive s.table e
plain s e told is h = subst (IsRefusalLive s.table) (sym is) h

makes_printable : (makes : World → World → Term → Type 0) (old new : State) (r : Reply) → Makes makes old r new → IsPrintable new r
makes_printable makes old new (reply.Term t) d = tt
makes_printable makes old new (reply.Refused e) d = plain new e error.TableFull d.0 tt
makes_printable makes old new reply.NoMemory d = tt
makes_printable makes old new _ d = absurd d

counts_printable : (changes : World → World → Type 0) (told : CallError) (bound : Type 0) (old new : State) (r : Reply) → IsRefusalLive new.table told → Counts changes told bound old r new → IsPrintable new r
counts_printable changes told bound old new reply.Done h d = tt
counts_printable changes told bound old new (reply.Refused e) h d = plain new e told d.0 h
counts_printable changes told bound old new _ h d = absurd d

becomes_printable : (w : World) (old new : State) (r : Reply) → Becomes w old r new → IsPrintable new r
becomes_printable w old new reply.Done d = tt
becomes_printable w old new reply.NoMemory d = tt
becomes_printable w old new _ d = absurd d

prints_printable : (t : Term) (old new : State) (r : Reply) → Prints t old r new → IsPrintable new r
prints_printable t old new (reply.Text text) d = tt
prints_printable t old new (reply.Refused e) d = plain new e error.TooLong d.0 tt
prints_printable t old new reply.NoMemory d = tt
prints_printable t old new _ d = absurd d

opens_printable : (old new : State) (r : Reply) → Opens old r new → IsPrintable new r
opens_printable old new (reply.Context c) d = tt
opens_printable old new (reply.Refused e) d = plain new e error.TooMany d.0 tt
opens_printable old new reply.NoMemory d = tt
opens_printable old new _ d = absurd d

pushes_printable : (c : ContextId) (old new : State) (r : Reply) → Pushes c old r new → IsPrintable new r
pushes_printable c old new reply.Done d = tt
pushes_printable c old new (reply.Refused e) d = plain new e error.TooDeep d.0 tt
pushes_printable c old new reply.NoMemory d = tt
pushes_printable c old new _ d = absurd d

drops_printable : (c : ContextId) (old new : State) (r : Reply) → Drops c old r new → IsPrintable new r
drops_printable c old new reply.Done d = tt
drops_printable c old new (reply.Refused e) d = plain new e error.BottomLevel d.0 tt
drops_printable c old new _ d = absurd d

-- the variable below what is no formula
no_formula : (w : World) (t : Term) (e : CallError) → IsNoFormula w t e → IsRefusalLive w e
no_formula w t (error.NotBool place) d = tt
no_formula w t (error.HasVariable v) (sort, is, below) = let n = some_node (node_at w v) _ is.has in ap is_some n.1
no_formula w t _ d = absurd d

asserts_printable : (c : ContextId) (t : Term) (old new : State) (r : Reply) → AssertsIn c t old r new → IsPrintable new r
asserts_printable c t old new reply.Done d = tt
asserts_printable c t old new (reply.Refused e) d = subst (λ (s : State). IsRefusalLive s.table e) (sym d.1) (no_formula old.table t e d.0)
asserts_printable c t old new reply.NoMemory d = tt
asserts_printable c t old new _ d = absurd d

-- the verdict of a check
check_printable : (s : State) (found : Checked) → IsPrintable s (told_check found)
check_printable s (checked.Sat values) = tt
check_printable s checked.Unsat = tt
check_printable s (checked.Unknown learned) = tt
check_printable s checked.NotBuilt = tt
check_printable s checked.NoMemory = tt

checks_printable : (c : ContextId) (assumed : Option (List Term)) (turns : Turns) (old new : State) (r : Reply) → ChecksIn c assumed turns old r new → IsPrintable new r
checks_printable c assumed turns old new r d = as_reply new (told_check d.found) r d.told (check_printable new d.found)

-- the variable below an assumption that is no formula
no_formulas : (w : World) (ts : List Term) (e : CallError) → AreNoFormulas w ts e → IsRefusalLive w e
no_formulas w ts (error.NotBool place) d = tt
no_formulas w ts (error.HasVariable v) (truths, first) = let n = some_node (node_at w v) _ first.variable.has in ap is_some n.1
no_formulas w ts _ d = absurd d

assuming_printable : (c : ContextId) (ts : List Term) (turns : Turns) (old new : State) (r : Reply) → ChecksAssuming c ts turns old r new → IsPrintable new r
assuming_printable c ts turns old new r (inl d) =
    as_reply new (reply.Refused d.why) r d.told (subst (λ (s : State). IsRefusalLive s.table d.why) (sym d.same) (no_formulas old.table ts d.why d.refuses))
assuming_printable c ts turns old new r (inr d) = checks_printable c (Some ts) turns old new r d

core_printable : (c : ContextId) (old new : State) (r : Reply) → TellsCore c old r new → IsPrintable new r
core_printable c old new (reply.Terms ts) d = tt
core_printable c old new (reply.Refused e) d = plain new e error.NoCore d.0 tt
core_printable c old new reply.NoMemory d = tt
core_printable c old new _ d = absurd d

-- the type of a term, and the newest meaning of a name
pub typed_live : (w : World) → IsTable w → (t : Term) (of : TypeId) → HasType w t of → IsSome (type_shape_at w of)
typed_live w table t of has = by (node_at w t) refl has
  where
    by : (o : Option Node) → node_at w t ≡ o → option_map (λ (n : Node). n.of) o ≡ Some of → IsSome (type_shape_at w of)
    by None e h = absurd (cc h)
    by (Some n) e h =
        let g = table.grounded t n e in
        subst (λ (z : TypeId). IsSome (type_shape_at w z)) (same_Some n.of of h) (sort_live w g.1 n.of g.3)

newest_listed : (name : List ℕ) (ps : List (List ℕ × TypeId)) (t : TypeId) → newest name ps ≡ Some t → (i : ℕ) × (p : List ℕ × TypeId) × (slice_get ps i ≡ Some p) × (p.1 ≡ t)
newest_listed name [] t e = absurd (cc e)
newest_listed name (p ∷ ps) t e = by (newest name ps) (newest_listed name ps t) e
  where
    by : (o : Option TypeId) → (o ≡ Some t → (i : ℕ) × (q : List ℕ × TypeId) × (slice_get ps i ≡ Some q) × (q.1 ≡ t)) → or_else o (if bytes_eq p.0 name then Some p.1 else None) ≡ Some t → (i : ℕ) × (q : List ℕ × TypeId) × (slice_get (p ∷ ps) i ≡ Some q) × (q.1 ≡ t)
    by None later h = (0, p, refl, (cond_some (bytes_eq p.0 name) p.1 t h).1)
    by (Some u) later h = let r = later h in (suc r.0, r.1, r.2, r.3)

named_printable : (s : State) → IsTable s.table → (name : List ℕ) (o : Option TypeId) → newest name s.table.type_names ≡ o → IsPrintable s (type_or_nothing o)
named_printable s table name None e = tt
named_printable s table name (Some t) e =
    let r = newest_listed name s.table.type_names t e in
    subst (λ (z : TypeId). IsSome (type_shape_at s.table z)) r.3 (table.names.types r.0 r.1 r.2)

term_printable : (s : State) (o : Option Term) → IsPrintable s (term_or_nothing o)
term_printable s None = tt
term_printable s (Some t) = tt

text_printable : (s : State) (o : Option (List ℕ)) → IsPrintable s (text_or_nothing o)
text_printable s None = tt
text_printable s (Some text) = tt

-- what is told while nothing changes
told_same : (a : Reply) (old new : State) (r : Reply) → Tells a old r new → IsPrintable new a → IsPrintable new r
told_same a old new r d h = as_reply new a r d.told h

told_room : (a : Reply) (old new : State) (r : Reply) → TellsIfRoom a old r new → IsPrintable new a → IsPrintable new r
told_room a old new r d h = ⊎_elim (λ e. as_reply new a r e h) (λ e. as_reply new reply.NoMemory r e tt) d.told

-- a state in which nothing changed
before : (old new : State) → new ≡ old → IsTable new.table → IsTable old.table
before old new e table = subst (λ (s : State). IsTable s.table) e table

dead_printable : (s : State) (place : ℕ) (h : Handle) → IsPrintable s (reply.Refused (dead_at place h))
dead_printable s place (of_term t) = tt
dead_printable s place (of_type t) = tt
dead_printable s place (of_context c) = tt

does_printable : (c : Call) (old new : State) (r : Reply) → IsTable new.table → Does c old r new → IsPrintable new r
does_printable call.BoolType old new r table (t, has, d) = told_same (reply.TypeId t) old new r d (subst (λ (s : State). IsSome (type_shape_at s.table t)) (sym d.same) (ap is_some has))
does_printable call.True old new r table (t, has, d) = told_same (reply.Term t) old new r d tt
does_printable call.False old new r table (t, has, d) = told_same (reply.Term t) old new r d tt
does_printable (call.NewUninterpretedTerm of) old new r table d = makes_printable (λ w x t. MakesConstant w x of t) old new r d
does_printable (call.NewVariable of) old new r table d = makes_printable (λ w x t. MakesVariable w x of t) old new r d
does_printable (call.Not a) old new r table d = builds_printable _ _ old new r d
does_printable (call.And ts) old new r table d = builds_printable _ _ old new r d
does_printable (call.Or ts) old new r table d = builds_printable _ _ old new r d
does_printable (call.Xor ts) old new r table d = builds_printable _ _ old new r d
does_printable (call.Implies a b) old new r table d = builds_printable _ _ old new r d
does_printable (call.Iff a b) old new r table d = builds_printable _ _ old new r d
does_printable (call.Ite t a b) old new r table d = builds_printable _ _ old new r d
does_printable (call.Eq a b) old new r table d = builds_printable _ _ old new r d
does_printable (call.Neq a b) old new r table d = builds_printable _ _ old new r d
does_printable (call.Distinct ts) old new r table d = builds_printable _ _ old new r d
does_printable (call.TypeOfTerm t) old new r table (of, has, d) =
    told_same (reply.TypeId of) old new r d
    (subst (λ (s : State). IsSome (type_shape_at s.table of)) (sym d.same) (typed_live old.table (before old new d.same table) t of has))
does_printable (call.PpTerm t) old new r table d = prints_printable t old new r d
does_printable (call.IncrefTerm t) old new r table d = counts_printable (λ w x. CountsUp w x t) error.CountFull (count_at old.table t ≡ 4294967295) old new r tt d
does_printable (call.DecrefTerm t) old new r table d = counts_printable (λ w x. CountsDown w x t) error.CountZero (count_at old.table t ≡ 0) old new r tt d
does_printable (call.IncrefType t) old new r table d = counts_printable (λ w x. CountsTypeUp w x t) error.CountFull (type_count_at old.table t ≡ 4294967295) old new r tt d
does_printable (call.DecrefType t) old new r table d = counts_printable (λ w x. CountsTypeDown w x t) error.CountZero (type_count_at old.table t ≡ 0) old new r tt d
does_printable call.NumTerms old new r table d = told_same _ old new r d tt
does_printable call.NumTypes old new r table d = told_same _ old new r d tt
does_printable (call.GarbageCollect b ms) old new r table d = as_reply new reply.Done r d.0 tt
does_printable (call.SetTermName name t) old new r table d = becomes_printable _ old new r d
does_printable (call.SetTypeName name t) old new r table d = becomes_printable _ old new r d
does_printable (call.GetTermByName name) old new r table d = told_same _ old new r d (term_printable new (newest name old.table.term_names))
does_printable (call.GetTypeByName name) old new r table d =
    told_same _ old new r d
    (subst (λ (s : State). IsPrintable s (type_or_nothing (newest name old.table.type_names))) (sym d.same) (named_printable old (before old new d.same table) name (newest name old.table.type_names) refl))
does_printable (call.GetTermName t) old new r table d = told_room _ old new r d (text_printable new (term_name old.table t))
does_printable (call.GetTypeName t) old new r table d = told_room _ old new r d (text_printable new (type_name old.table t))
does_printable (call.RemoveTermName name) old new r table d = as_reply new _ r d.0 tt
does_printable (call.RemoveTypeName name) old new r table d = as_reply new _ r d.0 tt
does_printable call.NewContext old new r table d = opens_printable old new r d
does_printable (call.FreeContext c) old new r table d = as_reply new reply.Done r d.0 tt
does_printable (call.ResetContext c) old new r table d = as_reply new reply.Done r d.0 tt
does_printable (call.Push c) old new r table d = pushes_printable c old new r d
does_printable (call.Pop c) old new r table d = drops_printable c old new r d
does_printable (call.ContextStatus c) old new r table d = as_reply new (reply.Status d.0.context.status) r d.0.so tt
does_printable (call.AssertFormula c t) old new r table d = asserts_printable c t old new r d
does_printable (call.CheckContext c turns) old new r table d = checks_printable c None turns old new r d
does_printable (call.CheckContextWithAssumptions c turns ts) old new r table d = assuming_printable c ts turns old new r d
does_printable (call.GetUnsatCore c) old new r table d = core_printable c old new r d

-- whatever the call is
pub step_printable : (old new : State) (c : Call) (r : Reply) → Api old c r new → IsWorld new → IsPrintable new r
step_printable old new c r (inl refuses) world = as_reply new _ r refuses.told (dead_printable new refuses.place refuses.handle)
step_printable old new c r (inr (live, does)) world = does_printable c old new r world.table does
