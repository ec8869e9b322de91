-- Changes of a table after which each live handle stands for what it stood for.
use Rattle.std.proofs.Common.{◌≡◌, ◌∙◌, ℕ, List, Option, Some, None, is_some, refl, sym, ap, subst, ⊎_elim, arith}
use Rattle.std.specs.Prelude.{IsSome, slice_get}
use Rattle.std.specs.Option.{option_map}
use Rattle.std.proofs.lemmas.Bool.{cases_eq}
use Rattle.y_tree.specs.Sorts.{Sort}
use Rattle.y_tree.specs.Tree.{Tree}
use Rattle.stamped_slots.specs.Slots.{Slot, Adds, held_at, stamp_at, stamp_under, changed, counted}
use Rattle.stamped_slots.proofs.Lists.{changed_here, changed_other}
use Rattle.term_shapes.specs.declared.handles.Term.{Term}
use Rattle.term_shapes.specs.declared.handles.TypeId.{TypeId}
use Rattle.term_shapes.specs.declared.shapes.Shape.{Shape}
use Rattle.term_shapes.specs.declared.shapes.TypeShape.{TypeShape}
use Rattle.term_shapes.specs.declared.shapes.Node.{Node}
use Rattle.term_shapes.specs.Shapes.{args_of, types_of, parts_of}
use Rattle.term_table.specs.World.{World, node_at, HasNode, HasShape, HasTypeShape, Keeps, KeepsType, IsAfter}
use Rattle.term_table.specs.Changes.{AddsNode, MakesConstant, MakesVariable, term_counted, type_counted}
use Rattle.term_table.proofs.Adding.{adds_older, some_node}
use Rattle.term_table.proofs.Keeping.{AllIn, all_in, type_on, keeps_on}
use Rattle.term_table.proofs.Lasting.{later_adds}
use Rattle.term_table.proofs.Sweeping.{held_changed, stays_counted}
use Rattle.term_build.specs.Building.{AddsAtMost}
use Rattle.term_build.specs.Building.AddsAtMost.{no_more, one_more}

-- each live handle has its node or its shape still, and no freed one comes back
pub record Extends (old new : World) : Type 0 where
  pub nodes : (t : Term) (n : Node) → HasNode old t n → HasNode new t n
  pub types : (t : TypeId) (s : TypeShape) → HasTypeShape old t s → HasTypeShape new t s
  pub after : IsAfter old new

pub extends_self : (w : World) → Extends w w
extends_self w = record { nodes = λ t n h. h; types = λ t s h. h; after = record { terms = λ i. omega arith; types = λ i. omega arith } }

pub extends_on : (a b c : World) → Extends a b → Extends b c → Extends a c
extends_on a b c g h = record {
  nodes = λ t n k. h.nodes t n (g.nodes t n k);
  types = λ t s k. h.types t s (g.types t s k);
  after = record { terms = λ i. omega (arith, g.after.terms i, h.after.terms i); types = λ i. omega (arith, g.after.types i, h.after.types i) };
}

pub extends_as : (a b c : World) → b ≡ c → Extends a b → Extends a c
extends_as a b c e h = subst (Extends a) e h

-- what is live stays live
pub node_live : (old new : World) → Extends old new → (t : Term) → IsSome (node_at old t) → IsSome (node_at new t)
node_live old new ext t = by (node_at old t) refl
  where
    by : (o : Option Node) → node_at old t ≡ o → IsSome o → IsSome (node_at new t)
    by None e h = absurd (cc h)
    by (Some n) e h = ap is_some (ext.nodes t n e)

-- trees and sorts stay
module _ (old new : World) (ext : Extends old new) where
  abbrev Any : {X : Type 0} → X → Type 0
  Any x = Unit {0}

  shape_on : (t : Term) (s : Shape) → HasShape old t s → HasShape new t s
  shape_on t s h = let n = some_node (node_at old t) s h in ap (option_map (λ (z : Node). z.shape)) (ext.nodes t n.0 n.1) ∙ ap Some n.2

  types_on : (t : TypeId) (s : TypeShape) → Any t → HasTypeShape old t s → HasTypeShape new t s × AllIn Any (parts_of s)
  types_on t s q has = (ext.types t s has, all_in Any (λ z. tt) (parts_of s))

  terms_on : (t : Term) (s : Shape) → Any t → HasShape old t s → HasShape new t s × AllIn Any (args_of s) × AllIn Any (types_of s)
  terms_on t s p has = (shape_on t s has, all_in Any (λ z. tt) (args_of s), all_in Any (λ z. tt) (types_of s))

  pub tree_on : (t : Term) (a : Tree) → Keeps old t a → Keeps new t a
  tree_on t a keeps = keeps_on old new Any Any types_on terms_on a t tt keeps

  pub sort_on : (t : TypeId) (k : Sort) → KeepsType old t k → KeepsType new t k
  sort_on t k keeps = type_on old new Any Any types_on terms_on k t tt keeps

-- a term is put into a slot
pub adds_extend : (old new : World) (t : Term) (n : Node) → Adds old.terms new.terms t.slot t.stamp n → new.types ≡ old.types → Extends old new
adds_extend old new t n adds same = record {
  nodes = λ u m h. adds_older old.terms new.terms t.slot t.stamp n adds u.slot u.stamp m h;
  types = λ u s h. ap (λ z. held_at z u.slot u.stamp) same ∙ h;
  after = record { terms = later_adds old.terms new.terms t.slot t.stamp n adds; types = λ i. omega (arith, ap (λ z. stamp_at z i) same) };
}

pub node_extends : (old new : World) (t : Term) (n : Node) → AddsNode old new t n → Extends old new
node_extends old new t n adds = adds_extend old new t n adds.added (ap (λ (w : World). w.types) adds.rest)

pub constant_extends : (old new : World) (of : TypeId) (t : Term) → MakesConstant old new of t → Extends old new
constant_extends old new of t makes = adds_extend old new t _ makes.added (ap (λ (w : World). w.types) makes.rest)

pub variable_extends : (old new : World) (of : TypeId) (t : Term) → MakesVariable old new of t → Extends old new
variable_extends old new of t makes = adds_extend old new t _ makes.added (ap (λ (w : World). w.types) makes.rest)

pub most_extend : (n : ℕ) (old new : World) → AddsAtMost n old new → Extends old new
most_extend n old new (no_more m w) = extends_self old
most_extend n old new (one_more m first mid last t x adds rest) =
    extends_on first mid last (node_extends first mid t x adds) (most_extend m mid last rest)

-- a count changes
module _ {S : Type 0} (w : List (Slot S)) (i n : ℕ) where
  stamp_counted : (j : ℕ) → stamp_at (changed (counted n) w i) j ≡ stamp_at w j
  stamp_counted j = ⊎_elim
      (λ (e : j ≡ i). ap (stamp_at (changed (counted n) w i)) e ∙ ap stamp_under (changed_here (counted n) w i) ∙ by (slice_get w i) ∙ ap (stamp_at w) (sym e))
      (λ d. ap stamp_under (changed_other (counted n) w i j d))
      (cases_eq j i)
    where
      by : (o : Option (Slot S)) → stamp_under (option_map (counted n) o) ≡ stamp_under o
      by None = refl
      by (Some s) = refl

pub count_extends : (w : World) (t : Term) (n : ℕ) → Extends w (term_counted w t n)
count_extends w t n = record {
  nodes = λ u m h. held_changed (counted n) (stays_counted n) w.terms t.slot u.slot u.stamp ∙ h;
  types = λ u s h. h;
  after = record { terms = λ i. omega (arith, stamp_counted w.terms t.slot n i); types = λ i. omega arith };
}

pub type_count_extends : (w : World) (t : TypeId) (n : ℕ) → Extends w (type_counted w t n)
type_count_extends w t n = record {
  nodes = λ u m h. h;
  types = λ u s h. held_changed (counted n) (stays_counted n) w.types t.slot u.slot u.stamp ∙ h;
  after = record { terms = λ i. omega arith; types = λ i. omega (arith, stamp_counted w.types t.slot n i) };
}

-- the slots stay
pub slots_extend : (old new : World) → new.terms ≡ old.terms → new.types ≡ old.types → Extends old new
slots_extend old new e f = record {
  nodes = λ u m h. ap (λ z. held_at z u.slot u.stamp) e ∙ h;
  types = λ u s h. ap (λ z. held_at z u.slot u.stamp) f ∙ h;
  after = record { terms = λ i. omega (arith, ap (λ z. stamp_at z i) e); types = λ i. omega (arith, ap (λ z. stamp_at z i) f) };
}

pub replaced_extends : (old mid new : World) → new ≡ mid → mid.terms ≡ old.terms → mid.types ≡ old.types → Extends old new
replaced_extends old mid new is e f = extends_as old mid new (sym is) (slots_extend old mid e f)
