-- Orders of subterms, and the constants among them, in two tables.
use Rattle.std.proofs.Common.{◌≡◌, ◌∙◌, ℕ, List, Some, ap, subst}
use Rattle.std.specs.Prelude.{slice_get, filter}
use Rattle.term_shapes.specs.declared.handles.Term.{Term}
use Rattle.term_table.specs.World.{World, shape_at, IsTable}
use Rattle.term_orders.specs.Orders.{IsIn, IsArgument, IsUnder, IsOrder, AreConstants, StandsBefore, is_constant_shape}
use Rattle.term_orders.proofs.Chosen.{chosen_are}
use Rattle.term_checks.proofs.Twins.{Twin, Twins, turned, twin_at, twin_back, twin_list, argument_twin, under_twin, live_twin, same_twin, same_twins, filter_twins}

module _ (v w : World) (table : IsTable v) (other : IsTable w) (roots others : List Term) (alike : Twins v w roots others) (order : List Term) (is : IsOrder v roots order) where
  -- each subterm of the ones has a twin among those of the others
  pub order_twins : (us : List Term) × Twins v w order us
  order_twins =
      twin_list v w order (λ i t at. let p = under_twin v w roots others t alike (is.reached t (record { place = i; at = at })) in (p.0, p.2))

  module _ (us : List Term) (twins : Twins v w order us) where
    -- the twin of a listed term is listed in its place
    twin_there : (i : ℕ) (t u : Term) → slice_get order i ≡ Some t → Twin v w t u → slice_get us i ≡ Some u
    twin_there i t u at h =
        let r = twin_at v w order us i t twins at in
        r.1 ∙ ap Some (same_twin v w other t r.0 u r.2 h)

    same_term : (t x u : Term) → Twin v w t u → Twin v w x u → t ≡ x
    same_term t x u h g = same_twin w v table u t x (turned v w t u h) (turned v w x u g)

    once : (i j : ℕ) (u : Term) → slice_get us i ≡ Some u → slice_get us j ≡ Some u → i ≡ j
    once i j u at there =
        let r = twin_back v w order us i u twins at in
        let l = twin_back v w order us j u twins there in
        is.once i j r.0 r.1 (l.1 ∙ ap Some (same_term l.0 r.0 u l.2 r.2))

    holds : (u : Term) → IsIn others u → IsIn us u
    holds u h =
        let r = twin_back v w roots others h.place u alike h.at in
        let k = is.holds r.0 (record { place = h.place; at = r.1 }) in
        record { place = k.place; at = twin_there k.place r.0 u k.at r.2 }

    arguments : (i : ℕ) (u x : Term) → slice_get us i ≡ Some u → IsArgument w x u → StandsBefore us i x
    arguments i u x at arg =
        let r = twin_back v w order us i u twins at in
        let p = argument_twin w v u r.0 x (turned v w r.0 u r.2) arg in
        let e = is.arguments i r.0 p.0 r.1 p.1 in
        record { place = e.place; earlier = e.earlier; at = twin_there e.place p.0 x e.at (turned w v x p.0 p.2) }

    reached : (u : Term) → IsIn us u → IsUnder w others u
    reached u h =
        let r = twin_back v w order us h.place u twins h.at in
        let p = under_twin v w roots others r.0 alike (is.reached r.0 (record { place = h.place; at = r.1 })) in
        subst (IsUnder w others) (same_twin v w other r.0 p.0 u p.2 r.2) p.1

    pub order_is : IsOrder w others us
    order_is = record {
      once = once;
      holds = holds;
      arguments = arguments;
      reached = reached;
      live = λ u h. let r = twin_back v w order us h.place u twins h.at in live_twin v w r.0 u r.2;
    }

-- the twins of the constants below the ones are the constants below the others
pub constants_twin : (v w : World) → IsTable v → IsTable w → (roots others : List Term) → Twins v w roots others → (cs ds : List Term) → Twins v w cs ds → AreConstants v roots cs → AreConstants w others ds
constants_twin v w table other roots others alike cs ds twins are =
    let us = order_twins v w table other roots others alike are.order are.is_order in
    let is = order_is v w table other roots others alike are.order are.is_order us.0 us.1 in
    let left = filter_twins v w are.order us.0 us.1 in
    let here = subst (λ z. Twins v w z ds) are.chosen twins in
    chosen_are w others us.0 ds is (same_twins v w other (filter (λ t. is_constant_shape (shape_at v t)) are.order) ds (filter (λ u. is_constant_shape (shape_at w u)) us.0) here left)
