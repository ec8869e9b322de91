-- Which terms stand in an order, and lists that are chosen from one.
use Rattle.std.proofs.Common.{◌≡◌, ◌∙◌, ◌+◌, ◌<◌, ◌++◌, ℕ, Bool, true, false, List, [], ◌∷◌, Option, Some, None, zero, suc, refl, sym, ap, subst, inl, inr, ◌⊎◌, ⊎_elim, length, arith}
use Rattle.std.specs.Prelude.{slice_get, IsSome, filter}
use Rattle.std.proofs.lemmas.Option.{same_Some, slice_get_within}
use Rattle.stamped_slots.proofs.Lists.{push_cases, push_old, push_here}
use Rattle.term_shapes.specs.declared.handles.Term.{Term}
use Rattle.term_shapes.specs.declared.shapes.Shape.{Shape}
use Rattle.term_table.specs.World.{World, node_at, shape_at}
use Rattle.term_orders.specs.Orders.IsBelow.{itself, argument}
use Rattle.term_orders.specs.Orders.{IsIn, IsArgument, IsBelow, IsUnder, IsOrder, StandsBefore}
use Rattle.term_orders.specs.Walk.{Inserts}

below_stands : (w : World) (roots ts : List Term) → IsOrder w roots ts → (u t : Term) → IsBelow w u t → IsIn ts t → IsIn ts u
below_stands w roots ts o u t itself h = h
below_stands w roots ts o u t (argument v r b a) h =
    let s = o.arguments h.place r v h.at a in
    below_stands w roots ts o u v b (record { place = s.place; at = s.at })

pub under_stands : (w : World) (roots ts : List Term) → IsOrder w roots ts → (t : Term) → IsUnder w roots t → IsIn ts t
under_stands w roots ts o t h =
    below_stands w roots ts o t h.root h.below (o.holds h.root h.listed)

-- a term that is put into a list
module _ (ts us : List Term) (t : Term) (put : Inserts ts t us) where
  pub grows : (u : Term) → IsIn ts u → IsIn us u
  grows u h = by put
    where
      by : Inserts ts t us → IsIn us u
      by (inl s) = subst (λ x. IsIn x u) (sym s.1) h
      by (inr s) = subst (λ x. IsIn x u) (sym s.1) (record { place = h.place; at = push_old ts t u h.place h.at })

  pub put_there : IsIn us t
  put_there = by put
    where
      by : Inserts ts t us → IsIn us t
      by (inl s) = subst (λ x. IsIn x t) (sym s.1) s.0
      by (inr s) = subst (λ x. IsIn x t) (sym s.1) (record { place = length ts; at = push_here ts t })

  -- each place is an old one, or that of the term, at the end
  pub place_cases : (i : ℕ) (u : Term) → slice_get us i ≡ Some u → (slice_get ts i ≡ Some u) ⊎ ((i ≡ length ts) × (t ≡ u) × (IsIn ts t → ⊥))
  place_cases i u at = by put
    where
      by : Inserts ts t us → (slice_get ts i ≡ Some u) ⊎ ((i ≡ length ts) × (t ≡ u) × (IsIn ts t → ⊥))
      by (inl s) = inl (subst (λ x. slice_get x i ≡ Some u) s.1 at)
      by (inr s) = ⊎_elim
          (λ (e : (i ≡ length ts) × (t ≡ u)). inr (e.0, e.1, s.0))
          inl
          (push_cases ts t u i (subst (λ x. slice_get x i ≡ Some u) s.1 at))

  pub place_stays : (i : ℕ) (u : Term) → slice_get ts i ≡ Some u → slice_get us i ≡ Some u
  place_stays i u at = by put
    where
      by : Inserts ts t us → slice_get us i ≡ Some u
      by (inl s) = subst (λ x. slice_get x i ≡ Some u) (sym s.1) at
      by (inr s) = subst (λ x. slice_get x i ≡ Some u) (sym s.1) (push_old ts t u i at)
