-- A collection from the listed handles and the formulas of all contexts.
use Rattle.std.proofs.Common.{◌≡◌, ◌∙◌, ◌+◌, ◌<◌, ◌++◌, ℕ, zero, suc, Bool, List, [], ◌∷◌, length, take, Option, Some, None, is_some, get_or, refl, sym, ap, subst, inl, inr, append_assoc, append-nil, arith}
use Rattle.std.specs.Prelude.{slice_get, slice_index_or, IsSome}
use Rattle.std.proofs.lemmas.Option.{same_Some}
use Rattle.slab.specs.Slab.{Slab, entries_from}
use Rattle.slab.proofs.SlabLemmas.{Contains-entries}
use Rattle.term_shapes.specs.declared.handles.Term.{Term}
use Rattle.term_shapes.specs.declared.handles.TypeId.{TypeId}
use Rattle.term_shapes.specs.declared.shapes.Node.{Node}
use Rattle.term_table.specs.World.{World, node_at, type_shape_at, IsTable}
use Rattle.term_collect.proofs.Listed.{kept_live, kept_live_types}
use Rattle.y_tree.specs.Sorts.{boolean}
use Rattle.term_table.specs.Checking.{AreLive}
use Rattle.term_table.specs.declared.table.Marked.{Marked}
use Rattle.term_table.specs.declared.table.Marked.TheVariants as marked
use Rattle.term_collect.specs.Reach.{AreLiveTypes, IsKept, IsListed, IsReached, Leaves}
use Rattle.term_collect.specs.Reach.{IsLive as IsLiveRoot}
use Rattle.term_collect.specs.Reach.Reaches.{itself}
use Rattle.term_collect.specs.Marking.{Keeping}
use Rattle.yices_api.specs.declared.handles.ContextId.{ContextId}
use Rattle.yices_api.specs.declared.held.Held.{Held}
use Rattle.term_checks.specs.Formulas.{IsFormula, AreFormulas}
use Rattle.context_stack.specs.Levels.{formulas}
use Rattle.context_stack.specs.States.{ContextState, core_terms, held_terms}
use Rattle.yices_api.specs.State.{Contexts, HasContext, IsEnvironment, terms_of_contexts, terms_of, context_under}
use Rattle.yices_api.specs.Calls.{AllLiveRoots, listed_terms, listed_types}
use Rattle.yices_api.proofs.Stamps.{state, held_under, under_own}
use Rattle.yices_api.proofs.Staying.{formula_left, formulas_live, sort_live}
use Rattle.yices_api.proofs.Lists.{in_front, in_back, live_append, live_front, live_back, live_none, live_alone, formulas_last}

-- the listed terms are live, and the listed types
pub roots_terms : (w : World) (ms : List Marked) → AllLiveRoots w ms → AreLive w (listed_terms ms)
roots_terms w [] h i t at = absurd (cc at)
roots_terms w (marked.Term t ∷ ms) h zero u at = subst (λ v. IsSome (node_at w v)) (same_Some t u at) (h 0 (marked.Term t) refl)
roots_terms w (marked.Term t ∷ ms) h (suc i) u at = roots_terms w ms (λ j. h (suc j)) i u at
roots_terms w (marked.TypeId t ∷ ms) h i u at = roots_terms w ms (λ j. h (suc j)) i u at

-- what is held at an index is among what all contexts hold
module _ (w : World) where
  -- all that keys hold is live, where what each key holds is
  pub held_live : (es : List (ℕ × Held)) → ((i : ℕ) (e : ℕ × Held) → slice_get es i ≡ Some e → AreLive w (held_terms e.1.context)) → AreLive w (terms_of es)
  held_live [] h = live_none w
  held_live (e ∷ es) h = live_append w (held_terms e.1.context) (terms_of es) (h 0 e refl) (held_live es (λ i. h (suc i)))

-- a term of what one key holds is one of all
pub in_terms : (es : List (ℕ × Held)) (i : ℕ) (e : ℕ × Held) (j : ℕ) (t : Term) → slice_get es i ≡ Some e → slice_get (held_terms e.1.context) j ≡ Some t → (k : ℕ) × (slice_get (terms_of es) k ≡ Some t)
in_terms [] i e j t at there = absurd (cc at)
in_terms (d ∷ es) zero e j t at there =
    let is : slice_get (held_terms d.1.context) j ≡ Some t = ap (λ (z : ℕ × Held). slice_get (held_terms z.1.context) j) (same_Some {A = ℕ × Held} d e at) ∙ there in
    (j, in_front (held_terms d.1.context) (terms_of es) j t is)
in_terms (d ∷ es) (suc i) e j t at there =
    let r = in_terms es i e j t at there in
    in_back (held_terms d.1.context) (terms_of es) r.0 t r.1

-- an item that a list contains has an index
get_from : {X : Type 0} (xs : List X) (i : ℕ) (x : X) → i < length xs → get_or xs i x ≡ x → slice_get xs i ≡ Some x
get_from [] i x low e = absurd (omega (arith, low))
get_from (y ∷ xs) zero x low e = ap Some e
get_from (y ∷ xs) (suc i) x low e = get_from xs i x (omega (arith, low)) e

pub get_to : {X : Type 0} (xs : List X) (i : ℕ) (x : X) → slice_get xs i ≡ Some x → (i < length xs) × (get_or xs i x ≡ x)
get_to [] i x at = absurd (cc at)
get_to (y ∷ xs) zero x at = (omega arith, same_Some y x at)
get_to (y ∷ xs) (suc i) x at = let r = get_to xs i x at in (omega (arith, r.0), r.1)

-- the slab of these slots
abbrev slab_of : Contexts → Slab Held
slab_of cs = record { slots = cs; vacant_key = 0; capacity = 0 }

-- what all contexts hold is live
pub all_live_terms : (w : World) (cs : Contexts) (m : ℕ) → IsEnvironment (state w cs m) → AreLive w (terms_of_contexts cs)
all_live_terms w cs m env = held_live w (entries_from 0 cs) by
  where
    by : (i : ℕ) (e : ℕ × Held) → slice_get (entries_from 0 cs) i ≡ Some e → AreLive w (held_terms e.1.context)
    by i e at =
        let r = get_to (entries_from 0 cs) i e at in
        let here : slice_index_or cs e.0 None ≡ Some e.1 = (Contains-entries (slab_of cs) e.0 e.1).0 (i, r.0, r.1) in
        let c : ContextId = record { key = e.0; stamp = e.1.stamp } in
        let has : HasContext cs c e.1.context = ap (context_under e.1.stamp) here ∙ under_own e.1.stamp e.1 refl in
        formulas_live w (held_terms e.1.context) (env.formulas c e.1.context has)

-- a term that a live context holds is among what all contexts hold
held_listed : (cs : Contexts) (c : ContextId) (x : ContextState) → HasContext cs c x → (i : ℕ) (t : Term) → slice_get (held_terms x) i ≡ Some t → (k : ℕ) × (slice_get (terms_of_contexts cs) k ≡ Some t)
held_listed cs c x has i t at =
    let h = held_under c.stamp (slice_index_or cs c.key None) x has in
    let there = (Contains-entries (slab_of cs) c.key h.0).1 h.1 in
    let entry : slice_get (entries_from 0 cs) there.0 ≡ Some (c.key, h.0) = get_from (entries_from 0 cs) there.0 (c.key, h.0) there.1 there.2 in
    let same : slice_get (held_terms h.0.context) i ≡ Some t = ap (λ (z : ContextState). slice_get (held_terms z) i) h.3 ∙ at in
    in_terms (entries_from 0 cs) there.0 (c.key, h.0) i t entry same

-- a collection from them keeps what always holds
pub collected_environment : (w x : World) (cs : Contexts) (m : ℕ) (ts : List Term) (us : List TypeId) (b : Bool) → IsTable w → IsEnvironment (state w cs m) → Leaves w x (IsReached w (IsKept w (ts ++ terms_of_contexts cs) us b)) → IsEnvironment (state x cs m)
collected_environment w x cs m ts us b table env leaves = record { formulas = stay; given = env.given; few = env.few }
  where
    stay : (c : ContextId) (y : ContextState) → HasContext cs c y → AreFormulas x (held_terms y)
    stay c y has t here =
        let is : IsFormula w t = env.formulas c y has t here in
        let k = held_listed cs c y has here.place t here.at in
        let r = in_back ts (terms_of_contexts cs) k.0 t k.1 in
        let listed : IsListed (ts ++ terms_of_contexts cs) us (marked.Term t) = inl (r.0, (t, r.1, refl)) in
        formula_left w x table (IsKept w (ts ++ terms_of_contexts cs) us b) leaves t (marked.Term t, sort_live w t boolean is.sort, inr (inl listed), itself) is

-- the terms and types among listed handles, one more at a time
pub listed_terms_append : (ms ns : List Marked) → listed_terms (ms ++ ns) ≡ listed_terms ms ++ listed_terms ns
listed_terms_append [] ns = refl
listed_terms_append (marked.Term t ∷ ms) ns = ap (λ z. t ∷ z) (listed_terms_append ms ns)
listed_terms_append (marked.TypeId t ∷ ms) ns = listed_terms_append ms ns

pub listed_types_append : (ms ns : List Marked) → listed_types (ms ++ ns) ≡ listed_types ms ++ listed_types ns
listed_types_append [] ns = refl
listed_types_append (marked.Term t ∷ ms) ns = listed_types_append ms ns
listed_types_append (marked.TypeId t ∷ ms) ns = ap (λ z. t ∷ z) (listed_types_append ms ns)

-- what is kept, as equal lists
pub keeping_as : (old now : World) (ts vs : List Term) (us ws : List TypeId) → Keeping old now ts us → ts ≡ vs → us ≡ ws → Keeping old now vs ws
keeping_as old now ts vs us ws h e f = subst (λ z. Keeping old now vs z) f (subst (λ z. Keeping old now z us) e h)

module _ (old now : World) (ts : List Term) (us : List TypeId) (ms : List Marked) (i : ℕ) (m : Marked) (more : take (i + 1) ms ≡ take i ms ++ m ∷ []) where
  pub one_more_root : Keeping old now ((ts ++ listed_terms (take i ms)) ++ listed_terms (m ∷ [])) ((us ++ listed_types (take i ms)) ++ listed_types (m ∷ [])) → Keeping old now (ts ++ listed_terms (take (i + 1) ms)) (us ++ listed_types (take (i + 1) ms))
  one_more_root h = keeping_as old now _ _ _ _ h
      (append_assoc ts (listed_terms (take i ms)) (listed_terms (m ∷ [])) ∙ ap (λ z. ts ++ z) (sym (listed_terms_append (take i ms) (m ∷ [])) ∙ ap listed_terms (sym more)))
      (append_assoc us (listed_types (take i ms)) (listed_types (m ∷ [])) ∙ ap (λ z. us ++ z) (sym (listed_types_append (take i ms) (m ∷ [])) ∙ ap listed_types (sym more)))

-- the first levels, and one more
pub take_at : {X : Type 0} (xs : List X) (i : ℕ) (x : X) → slice_get xs i ≡ Some x → take (suc i) xs ≡ take i xs ++ x ∷ []
take_at [] i x at = absurd (cc at)
take_at (y ∷ xs) zero x at = ap (λ z. z ∷ []) (same_Some y x at)
take_at (y ∷ xs) (suc i) x at = ap (λ z. y ∷ z) (take_at xs i x at)

module _ (old now : World) (ts : List Term) (us : List TypeId) (ls : List (List Term)) (i : ℕ) (roots : List Term) (at : slice_get ls i ≡ Some roots) where
  pub one_more_level : Keeping old now ((ts ++ formulas (take i ls)) ++ roots) us → Keeping old now (ts ++ formulas (take (suc i) ls)) us
  one_more_level h = keeping_as old now _ _ _ _ h
      (append_assoc ts (formulas (take i ls)) roots ∙ ap (λ z. ts ++ z) (sym (formulas_last (take i ls) roots) ∙ ap formulas (sym (take_at ls i roots at))))
      refl

-- one level of live ones is live
pub level_live : (w : World) (ls : List (List Term)) (i : ℕ) (roots : List Term) → AreLive w (formulas ls) → slice_get ls i ≡ Some roots → AreLive w roots
level_live w [] i roots live at = absurd (cc at)
level_live w (ts ∷ ls) zero roots live at = subst (AreLive w) (same_Some ts roots at) (live_front w ts (formulas ls) live)
level_live w (ts ∷ ls) (suc i) roots live at = level_live w ls i roots (live_back w ts (formulas ls) live) at

-- what was live stays so while handles are kept
type_alone : (w : World) (t : TypeId) → IsSome (type_shape_at w t) → AreLiveTypes w (t ∷ [])
type_alone w t h zero u at = subst (λ v. IsSome (type_shape_at w v)) (same_Some t u at) h
type_alone w t h (suc i) u at = absurd (cc at)

pub root_kept : (old now : World) (ts : List Term) (us : List TypeId) → Keeping old now ts us → (m : Marked) → IsLiveRoot old m → IsLiveRoot now m
root_kept old now ts us kept (marked.Term t) h = kept_live old now ts us kept (t ∷ []) (live_alone old t h) 0 t refl
root_kept old now ts us kept (marked.TypeId t) h = kept_live_types old now ts us kept (t ∷ []) (type_alone old t h) 0 t refl

-- an item at an index
pub got : {X : Type 0} (xs : List X) (i : ℕ) (d : X) → i < length xs → slice_get xs i ≡ Some (get_or xs i d)
got [] i d low = absurd (omega (arith, low))
got (x ∷ xs) zero d low = refl
got (x ∷ xs) (suc i) d low = got xs i d (omega (arith, low))

-- what the contexts that were gone through hold is kept, and what the rest holds is left
pub record KeptSome (first now : World) (rest : List (ℕ × Held)) (all : List Term) : Type 0 where
  pub done : List Term
  pub split : done ++ terms_of rest ≡ all
  pub keeps : (old : World) (ts : List Term) (us : List TypeId) → Keeping old first ts us → Keeping old now (ts ++ done) us

-- what the next key holds is live
pub some_live : (w : World) (done all : List Term) (it rest : List (ℕ × Held)) (e : ℕ × Held) → AreLive w all → done ++ terms_of it ≡ all → it ≡ e ∷ rest → AreLive w (held_terms e.1.context)
some_live w done all it rest e live split step =
    live_front w (held_terms e.1.context) (terms_of rest) (live_back w done (held_terms e.1.context ++ terms_of rest) (subst (AreLive w) (sym split ∙ ap (λ z. done ++ terms_of z) step) live))

-- one context more
pub some_more : (first now new : World) (it rest : List (ℕ × Held)) (all : List Term) (e : ℕ × Held) → KeptSome first now it all → it ≡ e ∷ rest → ((old : World) (ts : List Term) (us : List TypeId) → Keeping old now ts us → Keeping old new (ts ++ held_terms e.1.context) us) → KeptSome first new rest all
some_more first now new it rest all e some step more = record {
  done = some.done ++ held_terms e.1.context;
  split = append_assoc some.done (held_terms e.1.context) (terms_of rest) ∙ sym (ap (λ z. some.done ++ terms_of z) step) ∙ some.split;
  keeps = λ old ts us kept. keeping_as old new _ _ _ _ (more old (ts ++ some.done) us (some.keeps old ts us kept)) (append_assoc ts some.done (held_terms e.1.context)) refl;
}

-- none is left
pub some_all : (first now : World) (it : List (ℕ × Held)) (all : List Term) → KeptSome first now it all → it ≡ [] → (old : World) (ts : List Term) (us : List TypeId) → Keeping old first ts us → Keeping old now (ts ++ all) us
some_all first now it all some none old ts us kept =
    keeping_as old now _ _ _ _ (some.keeps old ts us kept) (ap (λ z. ts ++ z) (sym (append-nil some.done) ∙ sym (ap (λ z. some.done ++ terms_of z) none) ∙ some.split)) refl

-- the terms of a core are live, where all that the context holds is
pub core_live : (w : World) (x : ContextState) (core : List Term) → x.core ≡ Some core → AreLive w (held_terms x) → AreLive w core
core_live w x core e live = subst (λ (z : Option (List Term)). AreLive w (core_terms z)) e (live_back w (formulas x.levels) (core_terms x.core) live)

-- the formulas of a context, and the terms of its core where it has one
module _ (old now : World) (ts : List Term) (us : List TypeId) (x : ContextState) where
  pub core_kept : (core : List Term) → x.core ≡ Some core → Keeping old now ((ts ++ formulas x.levels) ++ core) us → Keeping old now (ts ++ held_terms x) us
  core_kept core e h = keeping_as old now _ _ _ _ h (append_assoc ts (formulas x.levels) core ∙ ap (λ z. ts ++ (formulas x.levels ++ core_terms z)) (sym e)) refl

  pub no_core_kept : x.core ≡ None → Keeping old now (ts ++ formulas x.levels) us → Keeping old now (ts ++ held_terms x) us
  no_core_kept e h = keeping_as old now _ _ _ _ h (ap (λ z. ts ++ z) (sym (append-nil (formulas x.levels)) ∙ ap (λ z. formulas x.levels ++ core_terms z) (sym e))) refl
