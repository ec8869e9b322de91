-- What is new in a table that was built on is below the answer.
use Rattle.std.proofs.Common.{◌≡◌, ◌∙◌, ℕ, inl, inr, ⊎_elim, ◌++◌, List, [], ◌∷◌, length, Option, Some, None, refl, sym, ap, subst}
use Rattle.std.specs.Prelude.{IsSome, is_some}
use Rattle.stamped_slots.proofs.Lists.{push_old, push_here}
use Rattle.term_shapes.specs.declared.handles.Term.{Term}
use Rattle.term_shapes.specs.declared.shapes.Shape.{Shape}
use Rattle.term_shapes.specs.declared.shapes.Node.{Node}
use Rattle.term_shapes.specs.Shapes.{args_of}
use Rattle.term_table.specs.World.{World, node_at, HasNode, HasShape}
use Rattle.term_table.specs.Changes.{AddsNode}
use Rattle.term_table.specs.Checking.{AddsShape}
use Rattle.term_table.proofs.Adding.{adds_only}
use Rattle.term_orders.specs.Orders.{IsIn, IsBelow, IsUnder}
use Rattle.term_orders.specs.Orders.IsBelow.{itself, argument}
use Rattle.term_orders.proofs.Arguments.{some_is, below_on}
use Rattle.term_build.specs.Building.{AddsBelow, AddsUnder}
use Rattle.term_build.proofs.Growing.{IsWider, shape_stays}

pub live_and_dead : {R : Type 0} (w : World) (u : Term) → IsSome (node_at w u) → node_at w u ≡ None → R
live_and_dead w u live dead = absurd (cc (sym (ap is_some dead) ∙ live))

-- what is below a term stays below it
module _ (old new : World) (m : IsWider old new) where
  below_stays : (u t : Term) → IsBelow old u t → IsBelow new u t
  below_stays u t itself = itself
  below_stays u t (argument v r b a) = argument v t (below_stays u v b) (record { form = a.form; has = shape_stays old new m t a.form a.has; place = a.place; at = a.at })

  under_stays : (u : Term) (ts : List Term) → IsUnder old ts u → IsUnder new ts u
  under_stays u ts h = record { root = h.root; listed = h.listed; below = below_stays u h.root h.below }

-- the arguments of a term are below it
pub args_below : (w : World) (t : Term) (s : Shape) → HasShape w t s → (u : Term) → IsIn (args_of s) u → IsBelow w u t
args_below w t s has u is = argument u t itself (record { form = s; has = has; place = is.place; at = is.at })

-- where nothing changes, nothing is new
pub nothing_below : (old new : World) (t : Term) → new ≡ old → AddsBelow old new t
nothing_below old new t e = record { each = λ u live dead. live_and_dead new u live (ap (λ w. node_at w u) e ∙ dead) }

pub nothing_under : (w : World) (ts : List Term) → AddsUnder w w ts
nothing_under w ts = record { each = λ u live dead. live_and_dead w u live dead }

-- a handle by its parts
same_handle : (u t : Term) → u.slot ≡ t.slot → u.stamp ≡ t.stamp → u ≡ t
same_handle u t e f = ap (λ (p : ℕ × ℕ). let z : Term = record { slot = p.0; stamp = p.1 } in z) (ap (λ a. (a, u.stamp)) e ∙ ap (λ b. (t.slot, b)) f)

node_below : (old new : World) (t u : Term) (x y : Node) → AddsNode old new t x → HasNode new u y → node_at old u ≡ None → IsBelow new u t
node_below old new t u x y adds has dead = ⊎_elim
    (λ (e : (u.slot ≡ t.slot) × (u.stamp ≡ t.stamp) × (y ≡ x)). subst (λ z. IsBelow new z t) (sym (same_handle u t e.0 e.1)) itself)
    (λ h. absurd (cc (sym dead ∙ h)))
    (adds_only old.terms new.terms t.slot t.stamp x adds.added u.slot u.stamp y has)

-- one call of the table adds the term alone
pub added_below : (old new : World) (t : Term) (s : Shape) → AddsShape old new s t → AddsBelow old new t
added_below old new t s (of, is, inl e) = nothing_below old new t e.0
added_below old new t s (of, is, inr adds) = record {
  each = λ u live dead.
      let y = some_is (node_at new u) live in
      node_below old new t u (record { shape = s; of = of }) y.0 adds y.1 dead;
}

pub one_under : (old new : World) (t : Term) → AddsBelow old new t → AddsUnder old new (t ∷ [])
one_under old new t h = record { each = λ u live dead. record { root = t; listed = record { place = 0; at = refl }; below = h.each u live dead } }

-- first what is below some terms is added, then what is below one that holds them
pub then_below : (old mid new : World) → IsWider mid new → (ts : List Term) (t : Term) → AddsUnder old mid ts → AddsBelow mid new t → ((u : Term) → IsIn ts u → IsBelow new u t) → AddsBelow old new t
then_below old mid new m ts t under next inside = record { each = λ u live dead. by u live dead (node_at mid u) refl }
  where
    by : (u : Term) → IsSome (node_at new u) → node_at old u ≡ None → (o : Option Node) → node_at mid u ≡ o → IsBelow new u t
    by u live dead None e = next.each u live e
    by u live dead (Some x) e =
        let r = under.each u (ap is_some e) dead in
        below_on new u r.root t (below_stays mid new m u r.root r.below) (inside r.root r.listed)

-- then what is below one more
pub then_under : (old mid new : World) → IsWider mid new → (ts us : List Term) (t : Term) → AddsUnder old mid ts → AddsBelow mid new t → us ≡ ts ++ t ∷ [] → AddsUnder old new us
then_under old mid new m ts us t under next is = record { each = λ u live dead. subst (λ (z : List Term). IsUnder new z u) (sym is) (by u live dead (node_at mid u) refl) }
  where
    by : (u : Term) → IsSome (node_at new u) → node_at old u ≡ None → (o : Option Node) → node_at mid u ≡ o → IsUnder new (ts ++ t ∷ []) u
    by u live dead None e = record { root = t; listed = record { place = length ts; at = push_here ts t }; below = next.each u live e }
    by u live dead (Some x) e =
        let r = under_stays mid new m u ts (under.each u (ap is_some e) dead) in
        record { root = r.root; listed = record { place = r.listed.place; at = push_old ts t r.root r.listed.place r.listed.at }; below = r.below }
