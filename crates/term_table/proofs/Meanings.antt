-- Names whose meanings are live.
use Rattle.std.proofs.Common.{◌≡◌, ◌∙◌, ◌++◌, ℕ, zero, suc, Bool, true, false, if◌then◌else◌, List, [], ◌∷◌, Option, Some, None, is_some, Result, Ok, Err, ◌⊎◌, inl, inr, refl, sym, ap, subst, ⊎_elim}
use Rattle.std.specs.Prelude.{slice_get, IsSome, OnOk, OnErr}
use Rattle.std.specs.List.{filter}
use Rattle.std.specs.Str.{bytes_eq}
use Rattle.std.proofs.lemmas.Option.{same_Some}
use Rattle.stamped_slots.proofs.Lists.{push_cases}
use Rattle.name_stacks.specs.Names.{newest, without_newest}
use Rattle.term_shapes.specs.declared.handles.Term.{Term}
use Rattle.term_shapes.specs.declared.handles.TypeId.{TypeId}
use Rattle.term_shapes.specs.Shapes.{args_of, types_of, parts_of}
use Rattle.term_table.proofs.Keeping.{all_in}
use Rattle.term_table.proofs.Sweeping.{table_stays}
use Rattle.term_table.specs.World.{World, HasLiveNames, IsTable}

abbrev Any : {X : Type 0} → X → Type 0
Any x = Unit {0}

-- what a filter leaves passes
pub filter_passes : {X : Type 0} (f : X → Bool) (xs : List X) (i : ℕ) (x : X) → slice_get (filter f xs) i ≡ Some x → f x ≡ true
filter_passes f [] i x h = absurd (cc h)
filter_passes {X} f (y ∷ xs) i x h = by (f y) refl i (λ k. filter_passes f xs k x) h
  where
    by : (b : Bool) → f y ≡ b → (i : ℕ) → ((k : ℕ) → slice_get (filter f xs) k ≡ Some x → f x ≡ true) → slice_get (if b then y ∷ filter f xs else filter f xs) i ≡ Some x → f x ≡ true
    by true e zero deeper g = ap f (sym (same_Some y x g)) ∙ e
    by true e (suc i) deeper g = deeper i g
    by false e i deeper g = deeper i g

-- what is left was there
pub left_was : {H : Type 0} (name : List ℕ) (ps : List (List ℕ × H)) (i : ℕ) (p : List ℕ × H) → slice_get (without_newest name ps) i ≡ Some p → (j : ℕ) × (slice_get ps j ≡ Some p)
left_was name [] i p h = absurd (cc h)
left_was {H} name (q ∷ ps) i p h = by (is_some (newest name ps)) (bytes_eq q.0 name) i (λ k. left_was name ps k p) h
  where
    by : (b c : Bool) (i : ℕ) → ((k : ℕ) → slice_get (without_newest name ps) k ≡ Some p → (j : ℕ) × (slice_get ps j ≡ Some p)) → slice_get (if b then q ∷ without_newest name ps else (if c then ps else q ∷ ps)) i ≡ Some p → (j : ℕ) × (slice_get (q ∷ ps) j ≡ Some p)
    by true c zero deeper g = (zero, g)
    by true c (suc i) deeper g = let r = deeper i g in (suc r.0, r.1)
    by false true i deeper g = (suc i, g)
    by false false i deeper g = (i, g)

some_live : {X : Type 0} (o : Option X) → is_some o ≡ true → IsSome o
some_live None h = absurd (cc h)
some_live (Some x) h = refl

-- a filter by what is live leaves live meanings
pub filtered_live : {X : Type 0} {H : Type 0} (look : H → Option X) (old new : List (List ℕ × H)) → new ≡ filter (λ (p : List ℕ × H). is_some (look p.1)) old → (i : ℕ) (p : List ℕ × H) → slice_get new i ≡ Some p → IsSome (look p.1)
filtered_live {X} {H} look old new e i p h =
    some_live (look p.1) (filter_passes (λ (q : List ℕ × H). is_some (look q.1)) old i p (sym (ap (λ z. slice_get z i) e) ∙ h))

module _ {X : Type 0} {H : Type 0} (look : H → Option X) (old new : List (List ℕ × H)) (live : (i : ℕ) (p : List ℕ × H) → slice_get old i ≡ Some p → IsSome (look p.1)) where
  pub pushed_live : (name : List ℕ) (t : H) → new ≡ old ++ (name, t) ∷ [] → IsSome (look t) → (i : ℕ) (p : List ℕ × H) → slice_get new i ≡ Some p → IsSome (look p.1)
  pushed_live name t e there i p h = ⊎_elim
      (λ k. subst (λ (z : List ℕ × H). IsSome (look z.1)) k.1 there)
      (λ g. live i p g)
      (push_cases old (name, t) p i (sym (ap (λ z. slice_get z i) e) ∙ h))

  pub left_live : (name : List ℕ) → new ≡ without_newest name old → (i : ℕ) (p : List ℕ × H) → slice_get new i ≡ Some p → IsSome (look p.1)
  left_live name e i p h = let r = left_was name old i p (sym (ap (λ z. slice_get z i) e) ∙ h) in live r.0 p r.1

-- what was done, or nothing
pub either : {E : Type 0} {A B : Type 0} (r : Result (Unit {0}) E) → OnOk r A → OnErr r B → A ⊎ B
either (Ok x) a b = inl a
either (Err e) a b = inr b

-- names after one was given, or none
pub given_live : {X : Type 0} {H : Type 0} {E : Type 0} (look : H → Option X) (old new : List (List ℕ × H)) (r : Result (Unit {0}) E) (name : List ℕ) (t : H) → ((i : ℕ) (p : List ℕ × H) → slice_get old i ≡ Some p → IsSome (look p.1)) → OnOk r (new ≡ old ++ (name, t) ∷ []) → OnErr r (new ≡ old) → IsSome (look t) → (i : ℕ) (p : List ℕ × H) → slice_get new i ≡ Some p → IsSome (look p.1)
given_live look old new r name t live ok err there i p h = ⊎_elim
    (λ e. pushed_live look old new live name t e there i p h)
    (λ e. live i p (sym (ap (λ z. slice_get z i) e) ∙ h))
    (either r ok err)

-- a table with other names
pub renamed : (w : World) (ps : List (List ℕ × Term)) (qs : List (List ℕ × TypeId)) → IsTable w → HasLiveNames (record w { term_names = ps; type_names = qs }) → IsTable (record w { term_names = ps; type_names = qs })
renamed w ps qs table names =
    table_stays w (record w { term_names = ps; type_names = qs }) table Any Any
    (λ t n p h. (h, all_in Any (λ z. tt) (args_of n.shape), all_in Any (λ z. tt) (types_of n.shape)))
    (λ t s q h. (h, all_in Any (λ z. tt) (parts_of s)))
    (λ t n p h. tt)
    (λ t n h. (h, tt))
    (λ t s h. (h, tt))
    table.terms table.types refl refl refl
    (record { bool = table.permanents.bool; real = table.permanents.real; vectors = table.permanents.vectors; truth = table.permanents.truth; falsity = table.permanents.falsity })
    refl refl names
