-- Formulas stay formulas where the live terms stay, and where a collection leaves them.
use Rattle.std.proofs.Common.{◌≡◌, ◌∙◌, ℕ, List, [], ◌∷◌, Option, Some, None, is_some, refl, sym, ap, subst, inl, inr}
use Rattle.std.specs.Prelude.{slice_get, IsSome}
use Rattle.std.specs.Option.{option_map}
use Rattle.std.proofs.lemmas.Option.{same_Some}
use Rattle.y_tree.specs.Sorts.{Sort, boolean}
use Rattle.term_shapes.specs.declared.handles.Term.{Term}
use Rattle.term_shapes.specs.declared.handles.TypeId.{TypeId}
use Rattle.term_shapes.specs.declared.shapes.Node.{Node}
use Rattle.term_shapes.specs.declared.shapes.Shape.{Shape}
use Rattle.term_shapes.specs.Shapes.{args_of}
use Rattle.term_table.specs.World.{World, node_at, HasNode, HasShape, HasType, KeepsType, IsTable}
use Rattle.term_table.specs.Checking.{AreLive, HasSort}
use Rattle.term_table.specs.declared.table.Marked.TheVariants as handle
use Rattle.term_table.proofs.Adding.{some_node}
use Rattle.term_collect.specs.Reach.{Handle as Root, IsReached, Leaves, Reaches}
use Rattle.term_collect.specs.Reach.Reaches.{needed}
use Rattle.term_orders.specs.Orders.{IsIn, IsArgument, IsBelow, IsVariable}
use Rattle.term_orders.specs.Orders.IsBelow.{itself, argument}
use Rattle.term_orders.proofs.Arguments.{argument_live}
use Rattle.term_checks.specs.Formulas.{IsFormula, AreFormulas}
use Rattle.yices_api.proofs.Tables.{Extends, sort_on}

-- a term with a sort is live
pub node_of : (o : Option Node) (of : TypeId) → option_map (λ (n : Node). n.of) o ≡ Some of → IsSome o
node_of None of h = absurd (cc h)
node_of (Some n) of h = refl

pub sort_live : (w : World) (t : Term) (k : Sort) → HasSort w t k → IsSome (node_at w t)
sort_live w t k h = node_of (node_at w t) h.0 h.1

pub formulas_live : (w : World) (ts : List Term) → AreFormulas w ts → AreLive w ts
formulas_live w ts h i t at = sort_live w t boolean (h t (record { place = i; at = at })).sort

-- the node of a live term, and of one with a type
some_is : (o : Option Node) → IsSome o → (n : Node) × (o ≡ Some n)
some_is None h = absurd (cc h)
some_is (Some n) h = (n, refl)

typed_node : (o : Option Node) (of : TypeId) → option_map (λ (n : Node). n.of) o ≡ Some of → (n : Node) × (o ≡ Some n) × (n.of ≡ of)
typed_node None of h = absurd (cc h)
typed_node (Some n) of h = (n, refl, same_Some n.of of h)

-- what has P had its shape before, and so have its arguments: then it has below it what it had
module _ (v w : World) (P : Term → Type 0) (shapes : (t : Term) (s : Shape) → P t → HasShape w t s → HasShape v t s) (arguments : (t u : Term) → P t → IsArgument v u t → P u) where
  argument_back : (u t : Term) → P t → IsArgument w u t → IsArgument v u t
  argument_back u t p a = record { form = a.form; has = shapes t a.form p a.has; place = a.place; at = a.at }

  below_back : (u t : Term) → P t → IsBelow w u t → IsBelow v u t × P u
  below_back u t p itself = (itself, p)
  below_back u t p (argument z r b a) =
      let q = argument_back z t p a in
      let rest = below_back u z (arguments t z p q) b in
      (argument z t rest.0 q, rest.1)

  pub formula_stays : (t : Term) → P t → HasSort w t boolean → IsFormula v t → IsFormula w t
  formula_stays t p sort f = record {
    sort = sort;
    closed = λ u below is.
        let b = below_back u t p below in
        f.closed u b.0 (record { number = is.number; of = is.of; has = shapes u _ b.1 is.has });
  }

-- a node that is still there is the one of before
shape_before : (v w : World) (t : Term) (n : Node) (s : Shape) → HasNode v t n → HasNode w t n → HasShape w t s → HasShape v t s
shape_before v w t n s was is has = ap (option_map (λ (z : Node). z.shape)) (was ∙ sym is) ∙ has

-- where the live terms stay
module _ (v w : World) (table : IsTable v) (ext : Extends v w) where
  formula_extends : (t : Term) → IsFormula v t → IsFormula w t
  formula_extends t f =
      let of = typed_node (node_at v t) f.sort.0 f.sort.1 in
      formula_stays v w (λ (u : Term). IsSome (node_at v u))
      (λ u s live has. let n = some_is (node_at v u) live in shape_before v w u n.0 s n.1 (ext.nodes u n.0 n.1) has)
      (λ u x live a. argument_live v table u x a)
      t (sort_live v t boolean f.sort)
      (f.sort.0, ap (option_map (λ (n : Node). n.of)) (ext.nodes t of.0 of.1) ∙ ap Some of.2, sort_on v w ext f.sort.0 boolean f.sort.2)
      f

  pub formulas_extend : (ts : List Term) → AreFormulas v ts → AreFormulas w ts
  formulas_extend ts h t here = formula_extends t (h t here)

-- a live term that is reached
record Stands (w : World) (K : Root → Type 0) (t : Term) : Type 0 where
  live : IsSome (node_at w t)
  reached : IsReached w K (handle.Term t)

-- where a collection leaves what is reached
module _ (v w : World) (table : IsTable v) (K : Root → Type 0) (leaves : Leaves v w (IsReached v K)) where
  -- an argument of what is reached is reached, and so is its type
  argument_reached : (t u : Term) → IsReached v K (handle.Term t) → IsArgument v u t → IsReached v K (handle.Term u)
  argument_reached t u (g, live, kept, reaches) a =
      let n = some_node (node_at v t) a.form a.has in
      (g, live, kept, needed (handle.Term t) (handle.Term u) reaches (n.0, n.1, inl (a.place, (u, ap (λ z. slice_get (args_of z) a.place) n.2 ∙ a.at, refl))))

  type_reached : (t : Term) (n : Node) → HasNode v t n → IsReached v K (handle.Term t) → IsReached v K (handle.TypeId n.of)
  type_reached t n has (g, live, kept, reaches) =
      (g, live, kept, needed (handle.Term t) (handle.TypeId n.of) reaches (n, has, inr (0, (n.of, refl, refl))))

  pub formula_left : (t : Term) → IsReached v K (handle.Term t) → IsFormula v t → IsFormula w t
  formula_left t reached f =
      let of = typed_node (node_at v t) f.sort.0 f.sort.1 in
      let type = subst (λ (z : TypeId). IsReached v K (handle.TypeId z)) of.2 (type_reached t of.0 of.1 reached) in
      formula_stays v w (Stands v K)
      (λ u s p has. let n = some_is (node_at v u) p.live in shape_before v w u n.0 s n.1 (leaves.term u n.0 n.1 p.reached) has)
      (λ u x p a. record { live = argument_live v table u x a; reached = argument_reached u x p.reached a })
      t (record { live = sort_live v t boolean f.sort; reached = reached })
      (f.sort.0, ap (option_map (λ (n : Node). n.of)) (leaves.term t of.0 of.1 reached) ∙ ap Some of.2, leaves.sort f.sort.0 boolean f.sort.2 type)
      f
