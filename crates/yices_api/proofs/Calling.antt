-- What the calls below say, as steps of the interface.
use Rattle.std.proofs.Common.{◌≡◌, ◌∙◌, ◌+◌, ◌++◌, ◌<◌, ◌≤◌, ◌==◌, ℕ, List, [], ◌∷◌, length, Option, Some, None, map, refl, sym, ap, subst, inl, inr, ◌⊎◌, arith}
use Rattle.std.specs.Prelude.{IsSome, IsNone, is_some}
use Rattle.std.specs.Option.{option_map}
use Rattle.std.proofs.lemmas.Bool.{eqb-true}
use Rattle.std.proofs.lemmas.Option.{cond_some}
use Rattle.slab.specs.Slab.{Slab, Updates, get}
use Rattle.term_shapes.specs.declared.handles.Term.{Term}
use Rattle.term_shapes.specs.declared.handles.TypeId.{TypeId}
use Rattle.term_shapes.specs.declared.shapes.Node.{Node}
use Rattle.term_shapes.specs.declared.shapes.Shape.{Shape}
use Rattle.term_shapes.specs.declared.shapes.TypeShape.{TypeShape}
use Rattle.term_texts.specs.TermTexts.{Writes, IsLong, text_limit}
use Rattle.y_tree.specs.Sorts.{Sort, boolean}
use Rattle.term_table.specs.World.{World, node_at, type_at, type_shape_at, HasShape, HasType, HasTypeShape}
use Rattle.term_table.specs.Changes.{RefusesAtom, RefusesUp, RefusesDown, RefusesTypeUp, RefusesTypeDown, count_at, type_count_at}
use Rattle.term_table.specs.Naming.{RefusesName, RefusesTypeName}
use Rattle.term_table.specs.Checking.{AreLive, HasSort}
use Rattle.shape_rules.specs.declared.errors.TableError.{TableError}
use Rattle.shape_rules.specs.declared.errors.TableError.TheVariants as table_error
use Rattle.term_sketches.specs.declared.items.Operator.{Operator}
use Rattle.term_sketches.specs.Sketches.{operator_of}
use Rattle.term_build.specs.Building.{AddsAtMost, IsBuilt, MayAdd, RefusesCall}
use Rattle.term_build.specs.declared.errors.BuildError.{BuildError}
use Rattle.term_build.specs.declared.errors.BuildError.TheVariants as build_error
use Rattle.clause_search.specs.declared.Turns.{Turns}
use Rattle.term_checks.specs.Formulas.{IsFormula}
use Rattle.context_stack.specs.States.{ContextState, IsUnchecked}
use Rattle.context_stack.specs.Steps.{Asserts, Pops, RefusesFormula, RefusesPush}
use Rattle.context_stack.specs.Checks.{Checks, RefusesAssumptions}
use Rattle.context_stack.specs.declared.checks.Checked.{Checked}
use Rattle.context_stack.specs.declared.errors.ContextError.{ContextError}
use Rattle.context_stack.specs.declared.errors.ContextError.TheVariants as context_error
use Rattle.yices_api.specs.declared.handles.ContextId.{ContextId}
use Rattle.yices_api.specs.declared.held.Held.{Held}
use Rattle.yices_api.specs.declared.replies.CallError.{CallError}
use Rattle.yices_api.specs.declared.replies.CallError.TheVariants as error
use Rattle.yices_api.specs.declared.replies.Reply.{Reply}
use Rattle.yices_api.specs.declared.replies.Reply.TheVariants as reply
use Rattle.yices_api.specs.State.{State, Contexts, ContextsStay, HasContext, context_in, context_under, IsEnvironment, Puts, Loses}
use Rattle.yices_api.specs.Calls.{Handle, of_term, of_type, of_context, IsLive, AllLive, placed}
use Rattle.yices_api.specs.Told.{told_build, told_table, told_check, told_context}
use Rattle.yices_api.specs.Steps.{Tells, TellsIfRoom, Grows, RefusesBuild, Builds, Makes, Counts, Becomes, Prints, TableStays, Alters, Finds, Relevels, AddsContext, Opens, Closes, Resets, Pushes, Drops, AssertsIn, TellsStatus, ChecksIn, ChecksAssuming, TellsCore, RefusesDead, StepsBy}
use Rattle.yices_api.proofs.Stamps.{state, others_stay, put_environment, under_own, under_other}
use Rattle.yices_api.proofs.Holding.{empty_formulas, no_core}
use Rattle.yices_api.proofs.Staying.{node_of, sort_live}
use Rattle.yices_api.proofs.Dead.{none_live, live_one, live_two, live_assumed, refuses_assumed, refuses_head, refuses_second, terms_live}

-- a step is one for equal states and replies
pub arrive : (P : State → Reply → State → Type 0) (old new : State) (r : Reply) (before after : State) (told : Reply) → P old r new → old ≡ before → r ≡ told → new ≡ after → P before told after
arrive P old new r before after told h e f g = subst (λ s. P s told after) e (subst (λ q. P old q after) f (subst (P old r) g h))

-- the table changes, and no context does
module _ (w x : World) (cs : Contexts) (m : ℕ) where
  pub stay : ContextsStay (state w cs m) (state x cs m)
  stay = record { contexts = refl; made = refl }

  pub grows : (n : ℕ) → AddsAtMost n w x → Grows n (state w cs m) (state x cs m)
  grows n adds = record { terms = adds; contexts = stay }

  -- a constructor
  module _ (o : Operator) (ts : List Term) (live : AreLive w ts) where
    pub built : (t : Term) → IsBuilt w x o ts t → AddsAtMost (4 + length ts) w x → StepsBy (placed 1 (map of_term ts)) (Builds o ts) (state w cs m) (reply.Term t) (state x cs m)
    built t is adds = inr (terms_live (state w cs m) ts live, (is, grows (4 + length ts) adds))

    pub unbuilt : (e : BuildError) → RefusesCall w x (operator_of o) ts e → AddsAtMost (4 + length ts) w x → ((MayAdd e → ⊥) → x ≡ w) → StepsBy (placed 1 (map of_term ts)) (Builds o ts) (state w cs m) (told_build e) (state x cs m)
    unbuilt e refuses adds same = inr (terms_live (state w cs m) ts live, by e refused)
      where
        refused : RefusesBuild (state w cs m) o ts (told_build e) (state x cs m)
        refused = record { why = e; refuses = refuses; told = refl; grown = grows (4 + length ts) adds; same = λ d. ap (λ z. state z cs m) (same d) }

        by : (f : BuildError) → RefusesBuild (state w cs m) o ts (told_build f) (state x cs m) → Builds o ts (state w cs m) (told_build f) (state x cs m)
        by (build_error.DeadTerm place) r = r
        by (build_error.BadArity n) r = r
        by (build_error.WrongType place want found) r = r
        by (build_error.WidthsDiffer place left right) r = r
        by (build_error.BadWidth n) r = r
        by build_error.BadRange r = r
        by build_error.TableFull r = r
        by build_error.NoMemory r = r

  -- a new constant or variable
  pub made : (makes : World → World → Term → Type 0) (of : TypeId) (t : Term) → IsSome (type_shape_at w of) → makes w x t → StepsBy (placed 1 (of_type of ∷ [])) (Makes makes) (state w cs m) (reply.Term t) (state x cs m)
  made makes of t live h = inr (live_one (state w cs m) 1 (of_type of) live, (h, stay))

  -- a count
  pub counted : (changes : World → World → Type 0) (told : CallError) (bound : Type 0) (h : Handle) → IsLive (state w cs m) h → changes w x → StepsBy (placed 1 (h ∷ [])) (Counts changes told bound) (state w cs m) reply.Done (state x cs m)
  counted changes told bound h live changed = inr (live_one (state w cs m) 1 h live, (changed, stay))

  -- a name
  pub named : (h : Handle) (z : World) → IsLive (state w cs m) h → x ≡ z → StepsBy (placed 2 (h ∷ [])) (Becomes z) (state w cs m) reply.Done (state x cs m)
  named h z live e = inr (live_one (state w cs m) 2 h live, ap (λ y. state y cs m) e)

no_node_of : (o : Option Node) → None ≡ option_map (λ (n : Node). n.of) o → IsNone o
no_node_of None h = refl
no_node_of (Some n) h = absurd (cc h)

pub no_node : (w : World) (t : Term) → None ≡ type_at w t → IsNone (node_at w t)
no_node w t h = no_node_of (node_at w t) h

-- nothing changes
module _ (s : State) where
  pub tells : (a : Reply) (hs : List (ℕ × Handle)) → AllLive s hs → StepsBy hs (Tells a) s a s
  tells a hs live = inr (live, record { told = refl; same = refl })

  pub tells_if_room : (a r : Reply) (hs : List (ℕ × Handle)) → AllLive s hs → (r ≡ a) ⊎ (r ≡ reply.NoMemory) → StepsBy hs (TellsIfRoom a) s r s
  tells_if_room a r hs live told = inr (live, record { told = told; same = refl })

  -- a live type or term of a shape, and the type of a term
  pub shown_type : (of : TypeId) (form : TypeShape) → HasTypeShape s.table of form → StepsBy [] (λ old r new. (t : TypeId) × HasTypeShape old.table t form × Tells (reply.TypeId t) old r new) s (reply.TypeId of) s
  shown_type of form has = inr (none_live s, (of, has, record { told = refl; same = refl }))

  pub shown_term : (t : Term) (form : Shape) → HasShape s.table t form → StepsBy [] (λ old r new. (u : Term) × HasShape old.table u form × Tells (reply.Term u) old r new) s (reply.Term t) s
  shown_term t form has = inr (none_live s, (t, has, record { told = refl; same = refl }))

  pub typed : (t : Term) (of : TypeId) → HasType s.table t of → StepsBy (placed 1 (of_term t ∷ [])) (λ old r new. (u : TypeId) × HasType old.table t u × Tells (reply.TypeId u) old r new) s (reply.TypeId of) s
  typed t of has = inr (live_one s 1 (of_term t) (node_of (node_at s.table t) of has), (of, has, record { told = refl; same = refl }))

  -- the text of a term
  module _ (t : Term) (live : IsSome (node_at s.table t)) where
    pub printed : (text : List ℕ) → Writes s.table t text → length text ≤ text_limit → StepsBy (placed 1 (of_term t ∷ [])) (Prints t) s (reply.Text text) s
    printed text writes fits = inr (live_one s 1 (of_term t) live, (writes, fits, refl))

    pub too_long : IsLong s.table t → StepsBy (placed 1 (of_term t ∷ [])) (Prints t) s (reply.Refused error.TooLong) s
    too_long long = inr (live_one s 1 (of_term t) live, (refl, long, refl))

    pub unprinted : StepsBy (placed 1 (of_term t ∷ [])) (Prints t) s reply.NoMemory s
    unprinted = inr (live_one s 1 (of_term t) live, refl)

  -- what is known of a context, and its core
  module _ (c : ContextId) (x : ContextState) (has : HasContext s.contexts c x) where
    live_here : AllLive s (placed 1 (of_context c ∷ []))
    live_here = live_one s 1 (of_context c) (ap is_some has)

    pub known : StepsBy (placed 1 (of_context c ∷ [])) (TellsStatus c) s (reply.Status x.status) s
    known = inr (live_here, (record { context = x; has = has; so = refl }, refl))

    pub blamed : (ts : List Term) → x.core ≡ Some ts → StepsBy (placed 1 (of_context c ∷ [])) (TellsCore c) s (reply.Terms ts) s
    blamed ts e = inr (live_here, (record { context = x; has = has; so = e }, refl))

    pub unblamed : x.core ≡ None → StepsBy (placed 1 (of_context c ∷ [])) (TellsCore c) s (reply.Refused error.NoCore) s
    unblamed e = inr (live_here, (refl, record { context = x; has = has; so = e }, refl))

    pub not_told : (ts : List Term) → x.core ≡ Some ts → StepsBy (placed 1 (of_context c ∷ [])) (TellsCore c) s reply.NoMemory s
    not_told ts e = inr (live_here, (record { context = x; has = has; so = ap is_some e }, refl))

  pub unmade : (makes : World → World → Term → Type 0) (of : TypeId) (e : TableError) → RefusesAtom s.table of e → StepsBy (placed 1 (of_type of ∷ [])) (Makes makes) s (told_table 1 e) s
  unmade makes of (table_error.DeadType n) h = inl (refuses_head s 1 (of_type of) [] h.1)
  unmade makes of table_error.TableFull h = inr (live_one s 1 (of_type of) h.0, (refl, h.1, refl))
  unmade makes of table_error.NoMemory h = inr (live_one s 1 (of_type of) h.0, refl)
  unmade makes of _ h = absurd h.1

  pub up_refused : (changes : World → World → Type 0) (t : Term) (e : TableError) → RefusesUp s.table t e → StepsBy (placed 1 (of_term t ∷ [])) (Counts changes error.CountFull (count_at s.table t ≡ 4294967295)) s (told_table 1 e) s
  up_refused changes t table_error.DeadTerm h = inl (refuses_head s 1 (of_term t) [] h)
  up_refused changes t table_error.CountFull h = inr (live_one s 1 (of_term t) h.0, (refl, h.1, refl))
  up_refused changes t _ h = absurd h

  pub down_refused : (changes : World → World → Type 0) (t : Term) (e : TableError) → RefusesDown s.table t e → StepsBy (placed 1 (of_term t ∷ [])) (Counts changes error.CountZero (count_at s.table t ≡ 0)) s (told_table 1 e) s
  down_refused changes t table_error.DeadTerm h = inl (refuses_head s 1 (of_term t) [] h)
  down_refused changes t table_error.CountZero h = inr (live_one s 1 (of_term t) h.0, (refl, h.1, refl))
  down_refused changes t _ h = absurd h

  pub type_up_refused : (changes : World → World → Type 0) (t : TypeId) (e : TableError) → RefusesTypeUp s.table t e → StepsBy (placed 1 (of_type t ∷ [])) (Counts changes error.CountFull (type_count_at s.table t ≡ 4294967295)) s (told_table 1 e) s
  type_up_refused changes t (table_error.DeadType n) h = inl (refuses_head s 1 (of_type t) [] h.1)
  type_up_refused changes t table_error.CountFull h = inr (live_one s 1 (of_type t) h.0, (refl, h.1, refl))
  type_up_refused changes t _ h = absurd h

  pub type_down_refused : (changes : World → World → Type 0) (t : TypeId) (e : TableError) → RefusesTypeDown s.table t e → StepsBy (placed 1 (of_type t ∷ [])) (Counts changes error.CountZero (type_count_at s.table t ≡ 0)) s (told_table 1 e) s
  type_down_refused changes t (table_error.DeadType n) h = inl (refuses_head s 1 (of_type t) [] h.1)
  type_down_refused changes t table_error.CountZero h = inr (live_one s 1 (of_type t) h.0, (refl, h.1, refl))
  type_down_refused changes t _ h = absurd h

  pub unnamed : (z : World) (t : Term) (e : TableError) → RefusesName s.table t e → StepsBy (placed 2 (of_term t ∷ [])) (Becomes z) s (told_table 2 e) s
  unnamed z t table_error.DeadTerm h = inl (refuses_head s 2 (of_term t) [] h)
  unnamed z t table_error.NoMemory h = inr (live_one s 2 (of_term t) h, refl)
  unnamed z t _ h = absurd h

  pub type_unnamed : (z : World) (t : TypeId) (e : TableError) → RefusesTypeName s.table t e → StepsBy (placed 2 (of_type t ∷ [])) (Becomes z) s (told_table 2 e) s
  type_unnamed z t (table_error.DeadType n) h = inl (refuses_head s 2 (of_type t) [] h.1)
  type_unnamed z t table_error.NoMemory h = inr (live_one s 2 (of_type t) h, refl)
  type_unnamed z t _ h = absurd h

-- a refusal whose new state is the old one
pub refuses_later : {hs : List (ℕ × Handle)} {s t : State} {r : Reply} → RefusesDead hs s r s → t ≡ s → RefusesDead hs s r t
refuses_later {hs} {s} {t} {r} refuses e = subst (RefusesDead hs s r) (sym e) refuses

-- a context changes, and the table doesn't
module _ (w : World) (cs ds : Contexts) (m : ℕ) where
  pub table_stays : TableStays (state w cs m) (state w ds m)
  table_stays = record { table = refl; made = refl }

  module _ (c : ContextId) (live : IsSome (context_in cs c)) where
    pub reset : Alters (Relevels (λ ls ms. ms ≡ [] ∷ [])) c cs ds → StepsBy (placed 1 (of_context c ∷ [])) (Resets c) (state w cs m) reply.Done (state w ds m)
    reset alters = inr (live_one (state w cs m) 1 (of_context c) live, (refl, alters, table_stays))

    pub pushed : Alters (Relevels (λ ls ms. (length ls < 65537) × (ms ≡ ls ++ [] ∷ []))) c cs ds → StepsBy (placed 1 (of_context c ∷ [])) (Pushes c) (state w cs m) reply.Done (state w ds m)
    pushed alters = inr (live_one (state w cs m) 1 (of_context c) live, (alters, table_stays))

    pub unpushed : (e : ContextError) → Finds (λ x. RefusesPush x.levels e) c cs → ds ≡ cs → StepsBy (placed 1 (of_context c ∷ [])) (Pushes c) (state w cs m) (told_context 1 e) (state w ds m)
    unpushed context_error.TooDeep found e = inr (live_one (state w cs m) 1 (of_context c) live, (refl, record { context = found.context; has = found.has; so = found.so }, ap (λ z. state w z m) e))
    unpushed context_error.NoMemory found e = inr (live_one (state w cs m) 1 (of_context c) live, ap (λ z. state w z m) e)
    unpushed _ found e = absurd found.so

    pub popped : Alters (Relevels Pops) c cs ds → StepsBy (placed 1 (of_context c ∷ [])) (Drops c) (state w cs m) reply.Done (state w ds m)
    popped alters = inr (live_one (state w cs m) 1 (of_context c) live, (alters, table_stays))

    pub unpopped : (e : ContextError) → e ≡ context_error.BottomLevel → Finds (λ x. length x.levels ≡ 1) c cs → ds ≡ cs → StepsBy (placed 1 (of_context c ∷ [])) (Drops c) (state w cs m) (told_context 1 e) (state w ds m)
    unpopped e is found same =
        subst (λ z. StepsBy (placed 1 (of_context c ∷ [])) (Drops c) (state w cs m) (told_context 1 z) (state w ds m)) (sym is)
        (inr (live_one (state w cs m) 1 (of_context c) live, (refl, found, ap (λ z. state w z m) same)))

    pub asserted : (t : Term) → IsSome (node_at w t) → IsFormula w t → Alters (Relevels (λ ls ms. Asserts ls ms t)) c cs ds → StepsBy (placed 1 (of_context c ∷ of_term t ∷ [])) (AssertsIn c t) (state w cs m) reply.Done (state w ds m)
    asserted t lives formula alters = inr (live_two (state w cs m) 1 (of_context c) (of_term t) live lives, (formula, alters, table_stays))

    pub checked_in : (turns : Turns) (found : Checked) → Alters (Checks w None turns found) c cs ds → StepsBy (placed 1 (of_context c ∷ [])) (ChecksIn c None turns) (state w cs m) (told_check found) (state w ds m)
    checked_in turns found alters = inr (live_one (state w cs m) 1 (of_context c) live, record { found = found; told = refl; alters = alters; table = table_stays })

    -- with assumptions, each of which is live
    module _ (turns : Turns) (ts : List Term) (lives : AreLive w ts) where
      pub checked_assuming : (found : Checked) → Alters (Checks w (Some ts) turns found) c cs ds → StepsBy ((1, of_context c) ∷ placed 3 (map of_term ts)) (ChecksAssuming c ts turns) (state w cs m) (told_check found) (state w ds m)
      checked_assuming found alters = inr (live_assumed (state w cs m) c live ts lives, inr (record { found = found; told = refl; alters = alters; table = table_stays }))

      pub unchecked : (e : ContextError) → RefusesAssumptions w ts e → ds ≡ cs → StepsBy ((1, of_context c) ∷ placed 3 (map of_term ts)) (ChecksAssuming c ts turns) (state w cs m) (told_context 1 e) (state w ds m)
      unchecked (context_error.DeadTerm place) h same = absurd (cc (sym (lives h.others h.term h.there) ∙ ap is_some h.dead))
      unchecked (context_error.NotBool place) h same =
          inr (live_assumed (state w cs m) c live ts lives, inl (record { why = error.NotBool place; refuses = h.1; told = refl; same = ap (λ z. state w z m) same }))
      unchecked (context_error.HasVariable v) h same =
          inr (live_assumed (state w cs m) c live ts lives, inl (record { why = error.HasVariable v; refuses = h; told = refl; same = ap (λ z. state w z m) same }))
      unchecked _ h same = absurd h

    pub closed : Loses cs ds c → StepsBy (placed 1 (of_context c ∷ [])) (Closes c) (state w cs m) reply.Done (state w ds m)
    closed loses = inr (live_one (state w cs m) 1 (of_context c) live, (refl, loses, table_stays))

    pub unasserted : (t : Term) (e : ContextError) → RefusesFormula w t e → ds ≡ cs → StepsBy (placed 1 (of_context c ∷ of_term t ∷ [])) (AssertsIn c t) (state w cs m) (told_context 2 e) (state w ds m)
    unasserted t (context_error.DeadTerm place) h e =
        inl (refuses_later (refuses_second (state w cs m) 1 (of_context c) (of_term t) live h.1) (ap (λ z. state w z m) e))
    unasserted t (context_error.NotBool place) h e =
        inr (live_two (state w cs m) 1 (of_context c) (of_term t) live h.1, ((h.0, h.2), ap (λ z. state w z m) e))
    unasserted t (context_error.HasVariable v) h e =
        inr (live_two (state w cs m) 1 (of_context c) (of_term t) live (sort_live w t boolean h.0), (h, ap (λ z. state w z m) e))
    unasserted t context_error.NoMemory h e =
        inr (live_two (state w cs m) 1 (of_context c) (of_term t) live (sort_live w t boolean h), ap (λ z. state w z m) e)
    unasserted t _ h e = absurd h

-- a new context is put under a vacant key
module _ (w : World) (old new : Slab Held) (m key : ℕ) (h : Held) (vacant : get old key ≡ None) (updates : Updates old new key (Some h)) (stamp : h.stamp ≡ m) where
  abbrev pub handle : ContextId
  handle = record { key = key; stamp = m }

  pub put : Puts old.slots new.slots handle h.context
  put = record {
    here = ap (context_under m) updates.changed ∙ under_own m h stamp;
    others = others_stay old.slots new.slots handle updates.others
        (λ n d. ap (context_under n) vacant)
        (λ n d. ap (context_under n) updates.changed ∙ under_other n h (λ e. d (e ∙ stamp)));
  }

  pub opened : h.context.levels ≡ [] ∷ [] → IsUnchecked h.context → m < 4294967296 → StepsBy [] Opens (state w old.slots m) (reply.Context (record { key = key; stamp = m })) (state w new.slots (m + 1))
  opened e unchecked below = inr (
    none_live (state w old.slots m),
    record {
      below = below;
      stamp = refl;
      context = h.context;
      levels = e;
      unchecked = unchecked;
      puts = put;
      table = refl;
      made = refl;
    },
  )

  pub opened_environment : IsEnvironment (state w old.slots m) → h.context.levels ≡ [] ∷ [] → IsUnchecked h.context → m < 4294967296 → IsEnvironment (state w new.slots (m + 1))
  opened_environment env e unchecked below =
      put_environment w old.slots new.slots m (m + 1) env handle h.context put (no_core w h.context unchecked (empty_formulas w h.context.levels e)) (omega arith) (omega arith) (omega (arith, below))

-- what a key held is taken away
module _ (old new : Slab Held) (c : ContextId) (live : IsSome (context_in old.slots c)) (updates : Updates old new c.key None) where
  stamps : (o : Option Held) → get old c.key ≡ o → IsSome (context_under c.stamp o) → (n : ℕ) → (n ≡ c.stamp → ⊥) → context_under n o ≡ None
  stamps None e k n d = refl
  stamps (Some h) e k n d = under_other n h (λ q. d (q ∙ own (context_under c.stamp (Some h)) refl k))
    where
      own : (l : Option ContextState) → context_under c.stamp (Some h) ≡ l → IsSome l → h.stamp ≡ c.stamp
      own None f g = absurd (cc g)
      own (Some l) f g = eqb-true h.stamp c.stamp (cond_some (h.stamp == c.stamp) h.context l f).0

  pub lost : Loses old.slots new.slots c
  lost = record {
    gone = ap (context_under c.stamp) updates.changed;
    others = others_stay old.slots new.slots c updates.others
        (λ n d. stamps (get old c.key) refl live n d)
        (λ n d. ap (context_under n) updates.changed);
  }
