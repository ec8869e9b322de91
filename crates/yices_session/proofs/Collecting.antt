-- What a session stands for after a collection of what nothing reaches.
use Rattle.std.proofs.Common.{◌≡◌, ◌∙◌, ℕ, zero, suc, ◌+◌, true, inl, inr, ⊎_elim, List, [], ◌∷◌, ◌++◌, map, reverse, Option, Some, None, is_some, refl, sym, ap, subst, append-nil, append_assoc}
use Rattle.std.specs.Prelude.{IsSome, slice_get, string_bytes}
use Rattle.std.specs.Option.{option_map}
use Rattle.std.proofs.lemmas.List.{map-append}
use Rattle.std.proofs.lemmas.Option.{same_Some, slice_get-map}
use Rattle.stamped_slots.proofs.Lists.{map_some}
use Rattle.y_tree.specs.Sorts.{boolean}
use Rattle.y_tree.specs.Values.{Value}
use Rattle.term_shapes.specs.declared.handles.Term.{Term}
use Rattle.term_shapes.specs.declared.shapes.Shape.TheVariants as shape
use Rattle.term_table.specs.declared.table.Marked.{Marked}
use Rattle.term_table.specs.declared.table.Marked.TheVariants as handle
use Rattle.term_table.specs.World.{World, node_at, IsTable}
use Rattle.term_table.specs.Checking.{AreLive}
use Rattle.term_table.proofs.Adding.{some_node}
use Rattle.term_orders.specs.Orders.{IsIn}
use Rattle.term_orders.specs.Orders.IsBelow.{itself}
use Rattle.term_collect.specs.Reach.{IsMeant, IsReached, IsKept, Leaves}
use Rattle.term_collect.specs.Reach.Reaches.{itself as self_reached}
use Rattle.term_build.proofs.Growing.{sorted_lives}
use Rattle.yices_api.specs.State.{State as Environment, terms_of_contexts}
use Rattle.yices_api.specs.Calls.{Handle, of_term, placed, listed as root, listed_terms, listed_types, IsDead, IsFirstDead}
use Rattle.yices_api.specs.declared.calls.Call.TheVariants as call
use Rattle.yices_api.specs.declared.replies.Reply.{Reply}
use Rattle.yices_api.specs.Steps.{Api}
use Rattle.expression_terms.specs.Building.{AreNamed}
use Rattle.expression_terms.proofs.Collected.{stands_left, within_left, named_left}
use Rattle.yices_session.specs.declared.session.Core.{Core as CodeCore}
use Rattle.yices_session.specs.State.{Formula, Named, Kept, Core, State, scope_of, model_terms, core_terms, stacked_terms}
use Rattle.yices_session.specs.Steps.{Collects, Resets, kept_terms, with_lists}
use Rattle.yices_session.specs.Held.{Held, Blamed, Stands, IsKeptModel, IsKeptCore, name_terms}
use Rattle.yices_session.specs.Roots.{FreesBeside, model_roots, core_roots}
use Rattle.yices_session.specs.Answers.{Moves}
use Rattle.yices_session.proofs.Freeing.{there, all_pass, truths_left, kept_model_left}
use Rattle.yices_session.proofs.Levels.{in_front, in_back, in_either, relisted, stands_cleared, formulas_are}
use Rattle.yices_session.proofs.Scoping.{scope_within}

-- the constants of a kept model are live
model_live : (w : World) (m : Option (List (Term × Value))) (k : Option Kept) (t : Term) → IsKeptModel w m k → IsIn (model_terms k) t → IsSome (node_at w t)
model_live w None None t h is = absurd (cc is.at)
model_live w None (Some k) t h is = absurd h
model_live w (Some m) None t h is = absurd h
model_live w (Some m) (Some k) t h is =
    let x = map_some (λ (e : Term × Value). e.0) m is.place t (ap (λ ts. slice_get ts is.place) (sym h.2) ∙ is.at) in
    let e = h.0.each is.place x.0 x.1 in
    let n = some_node (node_at w x.0.0) (shape.Const e.number e.of) e.has in subst (λ u. IsSome (node_at w u)) x.2 (ap is_some n.1)

-- a formula of a list is one of all
in_list : (fs : List Formula) (j : ℕ) (f : Formula) → slice_get fs j ≡ Some f → IsIn (map (λ (g : Formula). g.term) fs) f.term
in_list fs j f at = record { place = j; at = slice_get-map (λ (g : Formula). g.term) fs j ∙ ap (option_map (λ (g : Formula). g.term)) at }

in_stacked : (lists : List (List Formula)) (i j : ℕ) (fs : List Formula) (f : Formula) → slice_get lists i ≡ Some fs → slice_get fs j ≡ Some f → IsIn (stacked_terms lists) f.term
in_stacked [] i j fs f at here = absurd (cc at)
in_stacked (gs ∷ lists) zero j fs f at here =
    in_back (stacked_terms lists) (map (λ (g : Formula). g.term) gs) f.term (in_list gs j f (ap (λ xs. slice_get xs j) (same_Some gs fs at) ∙ here))
in_stacked (gs ∷ lists) (suc i) j fs f at here = in_front (stacked_terms lists) (map (λ (g : Formula). g.term) gs) f.term (in_stacked lists i j fs f at here)

-- a session whose kept terms, and what names mean, are kept
module _ (h : Held) (s : State) (st : Stands h s) (table : IsTable s.table) (env : Environment) (leaves : Leaves s.table env.table (IsReached s.table (IsKept s.table (kept_terms s) [] true))) where
  abbrev Kept_by : Marked → Type 0
  Kept_by = IsKept s.table (kept_terms s) [] true

  abbrev Reached : Term → Type 0
  Reached t = IsReached s.table Kept_by (handle.Term t)

  abbrev rest : List Term
  rest = stacked_terms s.lists ++ core_terms s.core

  -- what is kept is live, and reached
  truth_live : (t : Term) → IsIn (name_terms s.names ++ rest) t → IsSome (node_at s.table t)
  truth_live t is = sorted_lives s.table t boolean (st.truths.sorts t (record { root = t; listed = is; below = itself }))

  listed : (t : Term) → IsIn (kept_terms s) t → IsSome (node_at s.table t) → Reached t
  listed t is live = (handle.Term t, live, inr (inl (inl (is.place, (t, is.at, refl)))), self_reached)

  part_kept : (t : Term) → IsIn s.parts t → IsIn (kept_terms s) t
  part_kept t is = in_front s.parts (stacked_terms s.lists ++ (model_terms s.model ++ core_terms s.core)) t is

  formula_reached : (t : Term) → IsIn (stacked_terms s.lists) t → Reached t
  formula_reached t is =
      listed t (in_back s.parts (stacked_terms s.lists ++ (model_terms s.model ++ core_terms s.core)) t (in_front (stacked_terms s.lists) (model_terms s.model ++ core_terms s.core) t is))
      (truth_live t (in_back (name_terms s.names) rest t (in_front (stacked_terms s.lists) (core_terms s.core) t is)))

  model_reached : (t : Term) → IsIn (model_terms s.model) t → Reached t
  model_reached t is =
      listed t (in_back s.parts (stacked_terms s.lists ++ (model_terms s.model ++ core_terms s.core)) t (in_back (stacked_terms s.lists) (model_terms s.model ++ core_terms s.core) t (in_front (model_terms s.model) (core_terms s.core) t is)))
      (model_live s.table h.model s.model t st.model is)

  core_reached : (t : Term) → IsIn (core_terms s.core) t → Reached t
  core_reached t is =
      listed t (in_back s.parts (stacked_terms s.lists ++ (model_terms s.model ++ core_terms s.core)) t (in_back (stacked_terms s.lists) (model_terms s.model ++ core_terms s.core) t (in_back (model_terms s.model) (core_terms s.core) t is)))
      (truth_live t (in_back (name_terms s.names) rest t (in_back (stacked_terms s.lists) (core_terms s.core) t is)))

  -- what a name means is reached
  name_meant : (t : Term) → IsIn (name_terms s.names) t → IsMeant s.table (handle.Term t)
  name_meant t is = let n = map_some (λ (x : Named). x.term) s.names is.place t is.at in subst (λ u. IsMeant s.table (handle.Term u)) n.2 (st.meant is.place n.0 n.1)

  name_reached : (t : Term) → IsIn (name_terms s.names) t → Reached t
  name_reached t is = (handle.Term t, truth_live t (in_front (name_terms s.names) rest t is), inr (inr (refl, name_meant t is)), self_reached)

  truth_reached : (t : Term) → IsIn (name_terms s.names ++ rest) t → Reached t
  truth_reached t is =
      ⊎_elim (λ (n : IsIn (name_terms s.names) t). name_reached t n) (λ r. ⊎_elim (λ (f : IsIn (stacked_terms s.lists) t). formula_reached t f) (λ c. core_reached t c) (in_either (stacked_terms s.lists) (core_terms s.core) t r))
      (in_either (name_terms s.names) rest t is)

  -- what names were built of is kept
  within_kept : (t : Term) → IsIn (name_terms s.names ++ s.parts) t → Kept_by (handle.Term t)
  within_kept t is =
      ⊎_elim (λ (n : IsIn (name_terms s.names) t). inr (refl, name_meant t n)) (λ p. let k = part_kept t p in inl (inl (k.place, (t, k.at, refl)))) (in_either (name_terms s.names) s.parts t is)

  -- what is reached is live still, and so the table's names are the same
  live_after : (t : Term) → IsSome (node_at s.table t) → Reached t → IsSome (node_at env.table t)
  live_after t live r = let n = there (node_at s.table t) live in ap is_some (leaves.term t n.0 n.1 r)

  names_same : env.table.term_names ≡ s.table.term_names
  names_same = leaves.term_names ∙ all_pass (λ (p : List ℕ × Term). is_some (node_at env.table p.1)) s.table.term_names
      (λ i p at. live_after p.1 (table.names.terms i p at) (handle.Term p.1, table.names.terms i p at, inr (inr (refl, (i, p, at, refl))), self_reached))

  abbrev pub left : State
  left = record s { table = env.table }

  pub left_stands : env.contexts ≡ h.env.contexts → Stands (record h { env = env }) left
  left_stands contexts = record {
    table = refl;
    contexts = contexts ∙ st.contexts;
    declared = st.declared;
    parts = st.parts;
    lists = st.lists;
    marks = st.marks;
    model = kept_model_left s.table env.table table Kept_by leaves h.model s.model model_reached st.model;
    core = st.core;
    named = subst (λ ps. AreNamed env.table (scope_of s.names) (record { bound = []; defined = ps })) (sym names_same)
        (named_left s.table env.table table Kept_by leaves (name_terms s.names ++ s.parts) within_kept (scope_of s.names) (record { bound = []; defined = s.table.term_names }) st.named
        (scope_within s.table table (name_terms s.names ++ s.parts) s.names st.names st.named));
    trees = st.trees;
    names = λ i n at. within_left s.table env.table table Kept_by leaves (name_terms s.names ++ s.parts) within_kept n.tree n.term (st.names i n at);
    meant = λ i n at. let x = st.meant i n at in (x.0, x.1, ap (λ ps. slice_get ps x.0) names_same ∙ x.2, x.3);
    live = λ i t at. live_after t (st.live i t at) (listed t (part_kept t (record { place = i; at = at })) (st.live i t at));
    formulas = λ i j fs f at here. stands_left s.table env.table table Kept_by leaves f.tree f.term (formula_reached f.term (in_stacked s.lists i j fs f at here)) (st.formulas i j fs f at here);
    truths = truths_left s.table env.table table Kept_by leaves (name_terms s.names ++ rest) truth_reached st.truths;
  }

  -- all that a collection is to keep is live
  either_live : (ts us : List Term) → ((t : Term) → IsIn ts t → IsSome (node_at s.table t)) → ((t : Term) → IsIn us t → IsSome (node_at s.table t)) → (t : Term) → IsIn (ts ++ us) t → IsSome (node_at s.table t)
  either_live ts us f g t is = ⊎_elim (λ (x : IsIn ts t). f t x) (λ y. g t y) (in_either ts us t is)

pub kept_live : (h : Held) (s : State) → Stands h s → AreLive s.table (kept_terms s)
kept_live h s st i t at = by (record { place = i; at = at })
  where
    truth : (u : Term) → IsIn (name_terms s.names ++ (stacked_terms s.lists ++ core_terms s.core)) u → IsSome (node_at s.table u)
    truth u is = sorted_lives s.table u boolean (st.truths.sorts u (record { root = u; listed = is; below = itself }))

    by : IsIn (kept_terms s) t → IsSome (node_at s.table t)
    by is =
        ⊎_elim (λ (p : IsIn s.parts t). st.live p.place t p.at)
        (λ r. ⊎_elim (λ (f : IsIn (stacked_terms s.lists) t). truth t (in_back (name_terms s.names) (stacked_terms s.lists ++ core_terms s.core) t (in_front (stacked_terms s.lists) (core_terms s.core) t f)))
        (λ z. ⊎_elim (λ (m : IsIn (model_terms s.model) t). model_live s.table h.model s.model t st.model m)
        (λ c. truth t (in_back (name_terms s.names) (stacked_terms s.lists ++ core_terms s.core) t (in_back (stacked_terms s.lists) (core_terms s.core) t c)))
        (in_either (model_terms s.model) (core_terms s.core) t z))
        (in_either (stacked_terms s.lists) (model_terms s.model ++ core_terms s.core) t r))
        (in_either s.parts (stacked_terms s.lists ++ (model_terms s.model ++ core_terms s.core)) t is)

-- a collection that keeps what the session keeps
module _ (h : Held) (env : Environment) (roots : List Marked) (table : IsTable h.env.table) (frees : FreesBeside roots h.env env) (contexts : env.contexts ≡ h.env.contexts) where
  leaves_of : (s : State) → Stands h s → roots ≡ map handle.Term (kept_terms s) → Leaves s.table env.table (IsReached s.table (IsKept s.table (kept_terms s) [] true))
  leaves_of s st are = subst (λ w. Leaves w env.table (IsReached w (IsKept w (kept_terms s) [] true))) (sym st.table) (frees.frees (kept_terms s) are (subst (λ w. AreLive w (kept_terms s)) st.table (kept_live h s st)) st.contexts)

  collected : (s : State) → Stands h s → roots ≡ map handle.Term (kept_terms s) → (next : State) × Collects s next × Stands (record h { env = env }) next
  collected s st are = (
    record s { table = env.table },
    record { leaves = leaves_of s st are; after = refl },
    left_stands h s st (subst IsTable (sym st.table) table) env (leaves_of s st are) contexts,
  )

  pub collects : ((s : State) → Stands h s → roots ≡ map handle.Term (kept_terms s)) → (new : Held) → new ≡ record h { env = env } → Moves (λ s says next. Collects s next) h [] new
  collects are new is = subst (Moves (λ s says next. Collects s next) h []) (sym is) (record { turns = refl; each = λ s st. collected s st (are s st) })

-- the handles that are listed are those of the terms that a state keeps
model_same : (w : World) (m : Option (List (Term × Value))) (k : Option Kept) → IsKeptModel w m k → model_terms k ≡ model_roots m
model_same w None None h = refl
model_same w None (Some k) h = absurd h
model_same w (Some m) None h = absurd h
model_same w (Some m) (Some k) h = h.2

core_same : (c : Option CodeCore) (b : Option Blamed) (k : Option Core) → option_map (λ (x : CodeCore). x.terms) c ≡ option_map (λ (x : Blamed). x.terms) b → IsKeptCore b k → core_terms k ≡ core_roots c
core_same None None None e h = refl
core_same None None (Some k) e h = absurd h
core_same None (Some b) k e h = absurd (cc e)
core_same (Some c) None k e h = absurd (cc e)
core_same (Some c) (Some b) None e h = absurd h
core_same (Some c) (Some b) (Some k) e h = sym h.0 ∙ sym (same_Some c.terms b.terms e)

-- the core as contracts see it
pub same_blame : (c : Option CodeCore) → option_map (λ (x : CodeCore). x.terms) c ≡ option_map (λ (x : Blamed). x.terms) (option_map (λ (x : CodeCore). record { terms = x.terms; line = string_bytes x.line }) c)
same_blame None = refl
same_blame (Some c) = refl

pub gathered : (r0 r1 r2 r3 r4 : List Marked) (ps fs ms cs : List Term) → r0 ≡ [] → r1 ≡ r0 ++ map handle.Term ps → r2 ≡ r1 ++ map handle.Term fs → r3 ≡ r2 ++ map handle.Term ms → r4 ≡ r3 ++ map handle.Term cs → r4 ≡ map handle.Term (ps ++ (fs ++ (ms ++ cs)))
gathered r0 r1 r2 r3 r4 ps fs ms cs a b c d e =
    e ∙ ap (λ z. z ++ map handle.Term cs) (d ∙ ap (λ z. z ++ map handle.Term ms) (c ∙ ap (λ z. z ++ map handle.Term fs) (b ∙ ap (λ z. z ++ map handle.Term ps) a)))
    ∙ append_assoc (map handle.Term ps ++ map handle.Term fs) (map handle.Term ms) (map handle.Term cs)
    ∙ append_assoc (map handle.Term ps) (map handle.Term fs) (map handle.Term ms ++ map handle.Term cs)
    ∙ ap (λ z. map handle.Term ps ++ (map handle.Term fs ++ z)) (sym (map-append handle.Term ms cs))
    ∙ ap (λ z. map handle.Term ps ++ z) (sym (map-append handle.Term fs (ms ++ cs)))
    ∙ sym (map-append handle.Term ps (fs ++ (ms ++ cs)))

-- a slice of what is listed is that list
pub slice_listed : (r q : List Marked) (xs ts : List Term) → q ≡ r ++ map handle.Term xs → xs ≡ ts → q ≡ r ++ map handle.Term ts
slice_listed r q xs ts is same = is ∙ ap (λ z. r ++ map handle.Term z) same

pub parts_listed : (r q : List Marked) (xs ts : List Term) → r ≡ [] → q ≡ r ++ map handle.Term xs → xs ≡ ts → q ≡ map handle.Term ts
parts_listed r q xs ts none is same = slice_listed r q xs ts is same ∙ ap (λ z. z ++ map handle.Term ts) none

pub roots_kept : (h : Held) (c : Option CodeCore) (roots : List Marked) → option_map (λ (x : CodeCore). x.terms) c ≡ option_map (λ (x : Blamed). x.terms) h.core → roots ≡ map handle.Term (h.parts ++ (h.formulas ++ (model_roots h.model ++ core_roots c))) → (s : State) → Stands h s → roots ≡ map handle.Term (kept_terms s)
roots_kept h c roots same are s st =
    are ∙ ap (λ ps. map handle.Term (ps ++ (h.formulas ++ (model_roots h.model ++ core_roots c)))) (sym st.parts)
    ∙ ap (λ fs. map handle.Term (s.parts ++ (fs ++ (model_roots h.model ++ core_roots c)))) (sym (formulas_are h s st))
    ∙ ap (λ ms. map handle.Term (s.parts ++ (stacked_terms s.lists ++ (ms ++ core_roots c)))) (sym (model_same s.table h.model s.model st.model))
    ∙ ap (λ cs. map handle.Term (s.parts ++ (stacked_terms s.lists ++ (model_terms s.model ++ cs)))) (sym (core_same c h.core s.core same st.core))

-- all levels and formulas are taken away, and then what nothing reaches is freed
abbrev pub emptied : Held → Environment → List Term → List ℕ → Held
emptied h env ts ms = record h { env = env; formulas = ts; marks = ms; model = None; core = None }

pub emptied_is : (h : Held) (env : Environment) (ts : List Term) (ms : List ℕ) → ts ≡ [] → ms ≡ [] → emptied h env ts (reverse ms) ≡ emptied h env [] []
emptied_is h env ts ms a c = ap (λ z. emptied h env z (reverse ms)) a ∙ ap (λ z. emptied h env [] (reverse z)) c

pub resets : (h : Held) (env : Environment) (roots : List Marked) → IsTable h.env.table → FreesBeside roots h.env env → env.contexts ≡ h.env.contexts → roots ≡ map handle.Term h.parts → (new : Held) → new ≡ emptied h env [] [] → Moves (λ s says next. Resets s says next) h [] new
resets h env roots table frees contexts are new is = subst (Moves (λ s says next. Resets s says next) h []) (sym is) (record {
  turns = refl;
  each = λ s st.
      let x = collected (relisted h [] []) env roots table frees contexts (with_lists s s.table ([] ∷ [])) (stands_cleared h s st) (are ∙ ap (map handle.Term) (sym st.parts ∙ sym (append-nil s.parts))) in
      (x.0, record { silent = refl; collects = x.1 }, x.2);
})

-- the call that collects frees so
placed_at : (n : ℕ) (ts : List Term) (i : ℕ) (p : ℕ × Handle) → slice_get (placed n (map root (map handle.Term ts))) i ≡ Some p → (t : Term) × (slice_get ts i ≡ Some t) × (of_term t ≡ p.1)
placed_at n [] i p at = absurd (cc at)
placed_at n (t ∷ ts) zero p at = (t, refl, ap (λ (x : ℕ × Handle). x.1) (same_Some (n, of_term t) p at))
placed_at n (t ∷ ts) (suc i) p at = placed_at (n + 1) ts i p at

terms_listed : (ts : List Term) → listed_terms (map handle.Term ts) ≡ ts
terms_listed [] = refl
terms_listed (t ∷ ts) = ap (λ z. t ∷ z) (terms_listed ts)

types_listed : (ts : List Term) → listed_types (map handle.Term ts) ≡ []
types_listed [] = refl
types_listed (t ∷ ts) = types_listed ts

none_dead : (env : Environment) (ts : List Term) → AreLive env.table ts → (place : ℕ) (h : Handle) → IsFirstDead env (placed 2 (map root (map handle.Term ts))) place h → ⊥
none_dead env ts live place h dead =
    let x = placed_at 2 ts dead.index (place, h) dead.there in
    let gone : IsDead env (of_term x.0) = subst (IsDead env) (sym x.2) dead.dead in absurd (cc (sym (live dead.index x.0 x.1) ∙ gone))

pub frees_beside : (old new : Environment) (roots : List Marked) (r : Reply) → Api old (call.GarbageCollect true roots) r new → FreesBeside roots old new
frees_beside old new roots r step = record { frees = λ ts are live none. by ts are live none step }
  where
    by : (ts : List Term) → roots ≡ map handle.Term ts → AreLive old.table ts → old.contexts ≡ [] → Api old (call.GarbageCollect true roots) r new → Leaves old.table new.table (IsReached old.table (IsKept old.table ts [] true))
    by ts are live none (inl x) = absurd (none_dead old ts live x.place x.handle (subst (λ ms. IsFirstDead old (placed 2 (map root ms)) x.place x.handle) are x.first))
    by ts are live none (inr x) =
        let terms : listed_terms roots ++ terms_of_contexts old.contexts ≡ ts = ap (λ ms. listed_terms ms ++ terms_of_contexts old.contexts) are ∙ ap (λ z. z ++ terms_of_contexts old.contexts) (terms_listed ts) ∙ ap (λ cs. ts ++ terms_of_contexts cs) none ∙ append-nil ts in
        let types : listed_types roots ≡ [] = ap listed_types are ∙ types_listed ts in
        subst (λ us. Leaves old.table new.table (IsReached old.table (IsKept old.table ts us true))) types
        (subst (λ us. Leaves old.table new.table (IsReached old.table (IsKept old.table us (listed_types roots) true))) terms x.1.1)
