-- What stands after a collection that keeps what the session keeps.
use Rattle.std.proofs.Common.{◌≡◌, ◌∙◌, ℕ, zero, suc, Bool, true, inl, inr, List, [], ◌∷◌, ◌++◌, map, Option, Some, None, refl, sym, ap, if◌then◌else◌}
use Rattle.std.specs.Prelude.{IsSome, is_some, slice_get}
use Rattle.std.specs.List.{filter}
use Rattle.std.specs.Option.{option_map}
use Rattle.y_tree.specs.Sorts.{boolean, sorts, function}
use Rattle.y_tree.specs.Values.{Value}
use Rattle.term_shapes.specs.declared.handles.Term.{Term}
use Rattle.term_shapes.specs.declared.handles.TypeId.{TypeId}
use Rattle.term_shapes.specs.declared.shapes.Shape.{Shape}
use Rattle.term_shapes.specs.declared.shapes.Shape.TheVariants as shape
use Rattle.term_shapes.specs.declared.shapes.TypeShape.{TypeShape}
use Rattle.term_shapes.specs.declared.shapes.TypeShape.TheVariants as type
use Rattle.term_shapes.specs.declared.shapes.Node.{Node}
use Rattle.term_shapes.specs.Shapes.{args_of, types_of, parts_of}
use Rattle.term_table.specs.declared.table.Marked.TheVariants as handle
use Rattle.term_table.specs.World.{World, node_at, shape_at, type_shape_at, HasShape, HasTypeShape, IsTable}
use Rattle.term_table.proofs.Adding.{some_node}
use Rattle.term_orders.specs.Orders.{IsIn, IsBelow}
use Rattle.term_orders.specs.Orders.IsBelow.{itself, argument}
use Rattle.term_collect.specs.Reach.{Handle, IsReached, Leaves}
use Rattle.term_collect.specs.Reach.Reaches.{needed}
use Rattle.model_eval.specs.Models.{IsEntry, IsModel, assignment_of, number_of, numbered, part_in, shown, simple_under, sort_in, sort_under, terms_of}
use Rattle.expression_terms.proofs.Collected.{IsReachedTerm, sort_left}
use Rattle.yices_session.specs.State.{Kept, model_terms}
use Rattle.yices_session.specs.Held.{AreTruths, IsKeptModel}

-- an option that holds something
pub there : {X : Type 0} (o : Option X) → IsSome o → (x : X) × (o ≡ Some x)
there None h = absurd (cc h)
there (Some x) h = (x, refl)

-- where each name means what passes the test, all of them stay
pub all_pass : {X : Type 0} (p : X → Bool) (xs : List X) → ((i : ℕ) (x : X) → slice_get xs i ≡ Some x → p x ≡ true) → filter p xs ≡ xs
all_pass p [] h = refl
all_pass p (x ∷ xs) h = ap (λ b. if b then x ∷ filter p xs else filter p xs) (h 0 x refl) ∙ ap (λ ys. x ∷ ys) (all_pass p xs (λ i. h (suc i)))

-- what the handles that are kept and the held ones reach, and the table that a collection leaves
module _ (old new : World) (table : IsTable old) (K : Handle → Type 0) (leaves : Leaves old new (IsReached old K)) where
  abbrev Reached : Term → Type 0
  Reached t = IsReachedTerm old new table K leaves t

  abbrev ReachedType : TypeId → Type 0
  ReachedType t = IsReached old K (handle.TypeId t)

  -- arguments of what is reached are reached, and so is what stands below it
  argument_reached : (t u : Term) (s : Shape) (i : ℕ) → HasShape old t s → slice_get (args_of s) i ≡ Some u → Reached t → Reached u
  argument_reached t u s i has at (g, live, why, way) =
      let n = some_node (node_at old t) s has in
      (g, live, why, needed (handle.Term t) (handle.Term u) way (n.0, n.1, inl (i, (u, ap (λ z. slice_get (args_of z) i) n.2 ∙ at, refl))))

  below_reached : (u t : Term) → IsBelow old u t → Reached t → Reached u
  below_reached u t itself r = r
  below_reached u t (argument v x below a) r = below_reached u v below (argument_reached t v a.form a.place a.has a.at r)

  -- what has a shape afterwards had it before
  shape_before : (t : Term) (s : Shape) → HasShape new t s → HasShape old t s
  shape_before t s h =
      let m = some_node (node_at new t) s h in
      let was = leaves.only (handle.Term t) (ap is_some m.1) in
      let n = there (node_at old t) was.0 in
      ap (option_map (λ (z : Node). z.shape)) (n.1 ∙ sym (leaves.term t n.0 n.1 was.1)) ∙ h

  below_before : (u t : Term) → IsBelow new u t → IsBelow old u t
  below_before u t itself = itself
  below_before u t (argument v x below a) = argument v x (below_before u v below) (record { form = a.form; has = shape_before x a.form a.has; place = a.place; at = a.at })

  shape_after : (t : Term) (s : Shape) → Reached t → HasShape old t s → HasShape new t s
  shape_after t s r h = let n = some_node (node_at old t) s h in ap (option_map (λ (z : Node). z.shape)) (leaves.term t n.0 n.1 r) ∙ ap Some n.2

  -- terms below which all are truth values, and none is a variable
  pub truths_left : (ts : List Term) → ((t : Term) → IsIn ts t → Reached t) → AreTruths old ts → AreTruths new ts
  truths_left ts reached h = record {
    sorts = λ t u. let below = below_before t u.root u.below in sort_left old new table K leaves t boolean (below_reached t u.root below (reached u.root u.listed)) (h.sorts t (record { root = u.root; listed = u.listed; below = below }));
    closed = λ t u v. h.closed t (record { root = u.root; listed = u.listed; below = below_before t u.root u.below }) (record { number = v.number; of = v.of; has = shape_before t (shape.Var v.number v.of) v.has });
  }

  -- a type that is reached has its shape still, and so have its parts
  type_by : (t : TypeId) (o p : Option TypeShape) → type_shape_at old t ≡ o → type_shape_at new t ≡ p → ReachedType t → type_shape_at new t ≡ type_shape_at old t
  type_by t (Some s) p e f r = leaves.type_shape t s e r ∙ sym e
  type_by t None None e f r = f ∙ sym e
  type_by t None (Some s) e f r = let was = leaves.only (handle.TypeId t) (ap is_some f) in absurd (cc (ap is_some (sym e) ∙ was.0))

  type_same : (t : TypeId) → ReachedType t → type_shape_at new t ≡ type_shape_at old t
  type_same t r = type_by t (type_shape_at old t) (type_shape_at new t) refl refl r

  part_reached : (t u : TypeId) (s : TypeShape) (i : ℕ) → HasTypeShape old t s → slice_get (parts_of s) i ≡ Some u → ReachedType t → ReachedType u
  part_reached t u s i has at (g, live, why, way) = (g, live, why, needed (handle.TypeId t) (handle.TypeId u) way (s, has, (i, (u, at, refl))))

  parts_same : (ts : List TypeId) → ((i : ℕ) (u : TypeId) → slice_get ts i ≡ Some u → ReachedType u) → map (part_in new) ts ≡ map (part_in old) ts
  parts_same [] r = refl
  parts_same (t ∷ ts) r = ap (λ o. simple_under o ∷ map (part_in new) ts) (type_same t (r 0 t refl)) ∙ ap (λ z. part_in old t ∷ z) (parts_same ts (λ i. r (suc i)))

  front_type : (ts : List TypeId) (r : TypeId) (i : ℕ) (u : TypeId) → slice_get ts i ≡ Some u → slice_get (ts ++ r ∷ []) i ≡ Some u
  front_type [] r i u e = absurd (cc e)
  front_type (t ∷ ts) r zero u e = e
  front_type (t ∷ ts) r (suc i) u e = front_type ts r i u e

  last_type : (ts : List TypeId) (r : TypeId) → (i : ℕ) × (slice_get (ts ++ r ∷ []) i ≡ Some r)
  last_type [] r = (0, refl)
  last_type (t ∷ ts) r = let p = last_type ts r in (suc p.0, p.1)

  under_same : (t : TypeId) (o : Option TypeShape) → type_shape_at old t ≡ o → ReachedType t → sort_under new o ≡ sort_under old o
  under_same t None e r = refl
  under_same t (Some type.Bool) e r = refl
  under_same t (Some type.Real) e r = refl
  under_same t (Some (type.Bv n)) e r = refl
  under_same t (Some (type.Free k)) e r = refl
  under_same t (Some (type.Fun ts x)) e r =
      let p = last_type ts x in
      ap (λ ks. function (sorts ks) (part_in new x)) (parts_same ts (λ i u at. part_reached t u (type.Fun ts x) i e (front_type ts x i u at) r))
      ∙ ap (λ o. function (sorts (map (part_in old) ts)) (simple_under o)) (type_same x (part_reached t x (type.Fun ts x) p.0 e p.1 r))

  sort_same : (t : TypeId) → ReachedType t → sort_in new t ≡ sort_in old t
  unfolding sort_in
  sort_same t r = ap (sort_under new) (type_same t r) ∙ under_same t (type_shape_at old t) refl r

  -- the type that a constant names is reached
  named_reached : (t : Term) (number : ℕ) (of : TypeId) → HasShape old t (shape.Const number of) → Reached t → ReachedType of
  named_reached t number of has (g, live, why, way) =
      let n = some_node (node_at old t) (shape.Const number of) has in
      (g, live, why, needed (handle.Term t) (handle.TypeId of) way (n.0, n.1, inr (1, (of, ap (λ z. slice_get (types_of z) 0) n.2, refl))))

  -- values of constants that are reached stay such values, and make the assignment that they made
  entry_left : (e : Term × Value) → Reached e.0 → IsEntry old e → IsEntry new e
  entry_left e r h = record {
    number = h.number;
    of = h.of;
    has = shape_after e.0 (shape.Const h.number h.of) r h.has;
    sort = h.sort;
    keeps = leaves.sort h.of h.sort h.keeps (named_reached e.0 h.number h.of h.has r);
    value = h.value;
  }

  abbrev AreReached : List (Term × Value) → Type 0
  AreReached m = (i : ℕ) (e : Term × Value) → slice_get m i ≡ Some e → Reached e.0

  model_left : (m : List (Term × Value)) → AreReached m → IsModel old m → IsModel new m
  model_left m r h = record { each = λ i e at. entry_left e (r i e at) (h.each i e at); once = h.once }

  entry_same : (e : Term × Value) → Reached e.0 → IsEntry old e → number_of new (shape_at new e.0) e.1 ≡ number_of old (shape_at old e.0) e.1
  entry_same e r h =
      ap (λ o. number_of new o e.1) (shape_after e.0 (shape.Const h.number h.of) r h.has)
      ∙ ap (λ k. (h.number, shown k e.1) ∷ []) (sort_same h.of (named_reached e.0 h.number h.of h.has r))
      ∙ sym (ap (λ o. number_of old o e.1) h.has)

  numbered_same : (m : List (Term × Value)) → AreReached m → ((i : ℕ) (e : Term × Value) → slice_get m i ≡ Some e → IsEntry old e) → numbered new m ≡ numbered old m
  unfolding numbered
  numbered_same [] r h = refl
  numbered_same (e ∷ es) r h =
      ap (λ z. z ++ numbered new es) (entry_same e (r 0 e refl) (h 0 e refl)) ∙ ap (λ z. number_of old (shape_at old e.0) e.1 ++ z) (numbered_same es (λ i. r (suc i)) (λ i. h (suc i)))

  assignment_same : (m : List (Term × Value)) → AreReached m → IsModel old m → assignment_of new m ≡ assignment_of old m
  unfolding assignment_of
  assignment_same m r h = ap (λ z. record { constants = z; variables = [] }) (numbered_same m r h.each)

  -- so the model that is kept stays
  value_in : (m : List (Term × Value)) (i : ℕ) (e : Term × Value) → slice_get m i ≡ Some e → slice_get (terms_of m) i ≡ Some e.0
  value_in [] i e at = absurd (cc at)
  value_in (x ∷ m) zero e at = ap (option_map (λ (z : Term × Value). z.0)) at
  value_in (x ∷ m) (suc i) e at = value_in m i e at

  pub kept_model_left : (m : Option (List (Term × Value))) (k : Option Kept) → ((t : Term) → IsIn (model_terms k) t → Reached t) → IsKeptModel old m k → IsKeptModel new m k
  kept_model_left None None r h = tt
  kept_model_left None (Some k) r h = absurd h
  kept_model_left (Some m) None r h = absurd h
  kept_model_left (Some m) (Some k) r h =
      let each : AreReached m = λ i e at. r e.0 (record { place = i; at = ap (λ ts. slice_get ts i) h.2 ∙ value_in m i e at }) in
      (model_left m each h.0, h.1 ∙ sym (assignment_same m each h.0), h.2)
