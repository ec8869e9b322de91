-- A collection from listed handles, in words of the table before its marks were cleared.
use Rattle.std.proofs.Common.{◌≡◌, ◌∙◌, ℕ, List, Option, Some, None, map, refl, sym, ap, subst, inl, inr, ◌⊎◌, ⊎_elim, arith, Bool}
use Rattle.std.specs.Prelude.{slice_get}
use Rattle.std.specs.Option.{option_map}
use Rattle.y_tree.specs.Sorts.{Sort}
use Rattle.y_tree.specs.Tree.{Tree}
use Rattle.stamped_slots.specs.Slots.{Slot, unmarked}
use Rattle.stamped_slots.proofs.Lists.{map_get, map_some}
use Rattle.term_shapes.specs.declared.handles.Term.{Term}
use Rattle.term_shapes.specs.declared.handles.TypeId.{TypeId}
use Rattle.term_shapes.specs.declared.shapes.Shape.{Shape}
use Rattle.term_shapes.specs.declared.shapes.TypeShape.{TypeShape}
use Rattle.term_shapes.specs.declared.shapes.Node.{Node}
use Rattle.term_shapes.specs.Shapes.{args_of, types_of, parts_of}
use Rattle.term_table.specs.declared.table.Marked.TheVariants as handle
use Rattle.term_table.specs.World.{World, HasShape, HasTypeShape, Keeps, KeepsType}
use Rattle.term_table.specs.Changes.{IsMarkedAt, cleared, FreedCounts}
use Rattle.term_table.specs.Naming.{live_names, live_type_names}
use Rattle.term_table.proofs.Keeping.{AllIn, all_in, type_on, keeps_on}
use Rattle.term_table.specs.Checking.{AreLive}
use Rattle.term_collect.specs.Reach.{Handle, IsReached, IsListed, IsNamed, IsKept, Leaves, Frees, AreLiveTypes}
use Rattle.term_collect.specs.Marking.{HasMark, AllWait, SameSlots, SameButMarks, Marks, Keeping}
use Rattle.term_collect.proofs.Slots.{same_count, same_stamp, same_live}
use Rattle.term_collect.proofs.Handles.{same_on, same_back, same_node, same_shape, same_lives, same_holds, same_reaches, same_meant, marks_both, marks_as}

-- the table without marks
module _ {S : Type 0} (w : List (Slot S)) where
  clear_same : SameSlots w (map unmarked w)
  clear_same i = ap (option_map unmarked) (map_get unmarked w i) ∙ by (slice_get w i)
    where
      by : (o : Option (Slot S)) → option_map unmarked (option_map unmarked o) ≡ option_map unmarked o
      by None = refl
      by (Some s) = refl

  clear_none : (i n : ℕ) → IsMarkedAt (map unmarked w) i n → ⊥
  clear_none i n (s, at, stamp, marked) =
      let r = map_some unmarked w i s at in
      cc (sym marked ∙ sym (ap (λ (z : Slot S). z.marked) r.2))

pub cleared_same : (w : World) → SameButMarks w (cleared w)
cleared_same w = record {
  terms = clear_same w.terms;
  types = clear_same w.types;
  term_names = refl;
  type_names = refl;
  constants = refl;
  variables = refl;
  kinds = refl;
}

pub cleared_is : (w new : World) → new ≡ cleared w → SameButMarks w new
cleared_is w new e = subst (SameButMarks w) (sym e) (cleared_same w)

pub cleared_none : (w : World) (h : Handle) → HasMark (cleared w) h → ⊥
cleared_none w (handle.Term t) m = clear_none w.terms t.slot t.stamp m
cleared_none w (handle.TypeId t) m = clear_none w.types t.slot t.stamp m

-- live lists stay live
pub live_on : (a b : World) → SameButMarks a b → (ts : List Term) → AreLive a ts → AreLive b ts
live_on a b same ts lives i t at = same_lives a b same (handle.Term t) (lives i t at)

pub live_types_on : (a b : World) → SameButMarks a b → (ts : List TypeId) → AreLiveTypes a ts → AreLiveTypes b ts
live_types_on a b same ts lives i t at = same_lives a b same (handle.TypeId t) (lives i t at)

-- trees and sorts are the same where tables differ in marks alone
module _ (a b : World) (same : SameButMarks a b) where
  abbrev Any : {X : Type 0} → X → Type 0
  Any x = Unit {0}

  types_on : (t : TypeId) (s : TypeShape) → Any t → HasTypeShape a t s → HasTypeShape b t s × AllIn Any (parts_of s)
  types_on t s q has = (same_shape a b same t ∙ has, all_in Any (λ z. tt) (parts_of s))

  terms_on : (t : Term) (s : Shape) → Any t → HasShape a t s → HasShape b t s × AllIn Any (args_of s) × AllIn Any (types_of s)
  terms_on t s p has =
      (ap (option_map (λ (z : Node). z.shape)) (same_node a b same t) ∙ has, all_in Any (λ z. tt) (args_of s), all_in Any (λ z. tt) (types_of s))

  same_tree : (t : Term) (x : Tree) → Keeps a t x → Keeps b t x
  same_tree t x keeps = keeps_on a b Any Any types_on terms_on x t tt keeps

  same_sort : (t : TypeId) (k : Sort) → KeepsType a t k → KeepsType b t k
  same_sort t k keeps = type_on a b Any Any types_on terms_on k t tt keeps

-- a collection that keeps what has K
module _ (old c : World) (K : Handle → Type 0) (kept : Marks (cleared old) c K) where
  pub kept_same : SameButMarks old c
  kept_same = same_on old (cleared old) c (cleared_same old) kept.same

  pub kept_wait : AllWait c
  kept_wait h m = ⊎_elim (λ n. absurd (cleared_none old h n)) (λ p. p.1) (kept.only h m)

  pub kept_counts : (new : World) (x y : ℕ) → FreedCounts c new x y → Frees old new x y
  kept_counts new x y counts = record { terms_freed = counts.0 ∙ same_live old.terms c.terms kept_same.terms; types_freed = counts.1 ∙ same_live old.types c.types kept_same.types }

  to : (h : Handle) → IsReached old K h → IsReached c (HasMark c) h
  to h (g, lives, why, path) =
      (g, same_lives old c kept_same g lives, ⊎_elim (λ holds. inl (same_holds old c kept_same g holds)) (λ p. inr (kept.each g p)) why, same_reaches old c kept_same g h path)

  from : (h : Handle) → IsReached c (HasMark c) h → IsReached old K h
  from h (g, lives, why, path) =
      let back = same_back old c kept_same in
      (g, same_lives c old back g lives, ⊎_elim (λ holds. inl (same_holds c old back g holds)) (λ m. ⊎_elim (λ n. absurd (cleared_none old g n)) (λ p. inr p.0) (kept.only g m)) why, same_reaches c old back g h path)

  pub leaves_kept : (new : World) → Leaves c new (IsReached c (HasMark c)) → Leaves old new (IsReached old K)
  leaves_kept new leaves = record {
    term = λ t n has r. leaves.term t n (same_node old c kept_same t ∙ has) (to (handle.Term t) r);
    count = λ t r. leaves.count t (to (handle.Term t) r) ∙ same_count old.terms c.terms kept_same.terms t.slot;
    tree = λ t x keeps r. leaves.tree t x (same_tree old c kept_same t x keeps) (to (handle.Term t) r);
    type_shape = λ t s has r. leaves.type_shape t s (same_shape old c kept_same t ∙ has) (to (handle.TypeId t) r);
    type_count = λ t r. leaves.type_count t (to (handle.TypeId t) r) ∙ same_count old.types c.types kept_same.types t.slot;
    sort = λ t k keeps r. leaves.sort t k (same_sort old c kept_same t k keeps) (to (handle.TypeId t) r);
    only = λ h lives. let o = leaves.only h lives in (same_lives c old (same_back old c kept_same) h o.0, from h o.1);
    freed_term = λ t lives free. leaves.freed_term t (same_lives old c kept_same (handle.Term t) lives) (λ r. free (from (handle.Term t) r));
    freed_type = λ t lives free. leaves.freed_type t (same_lives old c kept_same (handle.TypeId t) lives) (λ r. free (from (handle.TypeId t) r));
    after = record { terms = λ i. omega (arith, same_stamp old.terms c.terms kept_same.terms i, leaves.after.terms i); types = λ i. omega (arith, same_stamp old.types c.types kept_same.types i, leaves.after.types i) };
    term_names = leaves.term_names ∙ ap (live_names new) kept_same.term_names;
    type_names = leaves.type_names ∙ ap (live_type_names new) kept_same.type_names;
    constants = leaves.constants ∙ kept_same.constants;
    variables = leaves.variables ∙ kept_same.variables;
    kinds = leaves.kinds ∙ kept_same.kinds;
  }

-- live lists stay live while handles are kept
pub kept_live : (old now : World) (ts : List Term) (us : List TypeId) → Keeping old now ts us → (xs : List Term) → AreLive old xs → AreLive now xs
kept_live old now ts us keeping xs lives =
    live_on old now (kept_same old now (IsListed ts us) keeping.marks) xs lives

pub kept_live_types : (old now : World) (ts : List Term) (us : List TypeId) → Keeping old now ts us → (xs : List TypeId) → AreLiveTypes old xs → AreLiveTypes now xs
kept_live_types old now ts us keeping xs lives =
    live_types_on old now (kept_same old now (IsListed ts us) keeping.marks) xs lives

-- the names are kept too, where that is asked
pub named_too : (old now new : World) (ts : List Term) (us : List TypeId) (keep_named : Bool) → Keeping old now ts us → Marks now new (IsNamed now keep_named) → Marks (cleared old) new (IsKept old ts us keep_named)
named_too old now new ts us keep_named keeping marks = marks_as (cleared old) new (λ h. IsListed ts us h ⊎ IsNamed now keep_named h) (IsKept old ts us keep_named) (marks_both (cleared old) now new (IsListed ts us) (IsNamed now keep_named) keeping.marks marks) to_old from_old
  where
    same : SameButMarks old now
    same = kept_same old now (IsListed ts us) keeping.marks

    to_old : (h : Handle) → IsListed ts us h ⊎ IsNamed now keep_named h → IsKept old ts us keep_named h
    to_old h (inl p) = inl p
    to_old h (inr p) = inr (p.0, same_meant now old (same_back old now same) h p.1)

    from_old : (h : Handle) → IsKept old ts us keep_named h → IsListed ts us h ⊎ IsNamed now keep_named h
    from_old h (inl p) = inl p
    from_old h (inr p) = inr (p.0, same_meant old now same h p.1)
