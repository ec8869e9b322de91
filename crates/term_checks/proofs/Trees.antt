-- Nodes of terms, one more at a time, and their trees: those that the terms stand for.
use Rattle.std.proofs.Common.{◌≡◌, ◌∙◌, ◌<◌, ◌+◌, ◌++◌, ℕ, zero, suc, List, [], ◌∷◌, Some, length, map, take, get_or, All, refl, sym, ap, subst, arith, ⊎_elim}
use Rattle.std.specs.Prelude.{slice_get}
use Rattle.std.proofs.lemmas.Option.{same_Some, slice_get_within}
use Rattle.std.proofs.lemmas.Bool.{cases_lt}
use Rattle.std.proofs.lemmas.List.{take_more}
use Rattle.stamped_slots.proofs.Lists.{push_here, push_old}
use Rattle.y_tree.specs.Sorts.{boolean}
use Rattle.y_tree.specs.Tree.{trees}
use Rattle.term_shapes.specs.declared.handles.Term.{Term}
use Rattle.term_shapes.specs.declared.shapes.Shape.{Shape}
use Rattle.term_shapes.specs.Shapes.{args_of, types_of}
use Rattle.term_table.specs.World.{World, HasShape, AllKeep, Keeps, KeepsAll, IsTable}
use Rattle.term_orders.specs.Orders.{IsIn, StandsBefore}
use Rattle.node_encoding.specs.declared.Node.{Node}
use Rattle.node_encoding.specs.Nodes.{arguments_of, Fits, tree_at}
use Rattle.node_encoding.proofs.Gets.{length_pushed, length_front}
use Rattle.node_encoding.proofs.TreeLaws.{tree_at_node, formed_push}
use Rattle.term_checks.specs.Formulas.{AreReady, IsTruthShape}
use Rattle.term_checks.specs.Listing.{no_term}
use Rattle.term_checks.specs.Building.{AreAt, AreNodes, IsNodeAt, IsNodeOf}
use Rattle.term_checks.proofs.Truths.{shape_of_truth}

-- one number more behind the others
pub at_more : (order ts : List Term) (ks : List ℕ) (t : Term) (k : ℕ) → AreAt order ts ks → slice_get order k ≡ Some t → AreAt order (ts ++ t ∷ []) (ks ++ k ∷ [])
at_more order [] [] t k h e = (e, tt)
at_more order [] (j ∷ ks) t k h e = absurd h
at_more order (u ∷ ts) [] t k h e = absurd h
at_more order (u ∷ ts) (j ∷ ks) t k h e = (h.0, at_more order ts ks t k h.1 e)

pub at_length : (order ts : List Term) (ks : List ℕ) → AreAt order ts ks → length ks ≡ length ts
at_length order [] [] h = refl
at_length order [] (j ∷ ks) h = absurd h
at_length order (u ∷ ts) [] h = absurd h
at_length order (u ∷ ts) (j ∷ ks) h = ap suc (at_length order ts ks h.1)

-- the place of one more of the list
pub at_next : (order ts : List Term) (i : ℕ) (ks vs : List ℕ) (k : ℕ) → i < length ts → AreAt order (take i ts) ks → slice_get order k ≡ Some (get_or ts i no_term) → vs ≡ ks ++ k ∷ [] → AreAt order (take (i + 1) ts) vs
at_next order ts i ks vs k small h at e =
    subst (AreAt order (take (i + 1) ts)) (sym e) (subst (λ z. AreAt order z (ks ++ k ∷ [])) (sym (take_more ts i no_term small)) (at_more order (take i ts) ks (get_or ts i no_term) k h at))

-- an argument of a shape stands in the order
pub arg_there : (order : List Term) (s r : Shape) → s ≡ r → ((t : Term) → IsIn (args_of s) t → IsIn order t) → (i : ℕ) (t : Term) → slice_get (args_of r) i ≡ Some t → IsIn order t
arg_there order s r e placed i t at = placed t (record { place = i; at = ap (λ z. slice_get (args_of z) i) e ∙ at })

-- some arguments are some places
pub at_some : (order ts : List Term) (ks : List ℕ) → AreAt order ts ks → 0 < length ts → 0 < length ks
at_some order ts ks h small = omega (arith, small, at_length order ts ks h)

module _ (w : World) (order : List Term) (ready : AreReady w order) where
  -- the arguments of a term stand in the order
  pub argument_there : (t u : Term) (s : Shape) → IsIn order t → HasShape w t s → IsIn (args_of s) u → IsIn order u
  argument_there t u s there has h =
      let e = ready.arguments there.place t u there.at (record { form = s; has = has; place = h.place; at = h.at }) in
      record { place = e.place; at = e.at }

  module _ (table : IsTable w) where
    -- each has the shape of a truth value, and names no type but theirs
    pub ready_shape : (t : Term) (s : Shape) → IsIn order t → HasShape w t s → IsTruthShape s × AllKeep w (types_of s) boolean
    ready_shape t s there has =
        shape_of_truth w table t s has (ready.sorts t there) (λ u h. ready.sorts u (argument_there t u s there has h)) (ready.closed t there)

    pub node_by : (t : Term) (s : Shape) (n : Node) → IsIn order t → HasShape w t s → IsNodeOf order s n → IsNodeAt w order t n
    node_by t s n there has is = record { form = s; has = has; names = (ready_shape t s there has).1; is = is }

  before : (i : ℕ) (ts : List Term) (ks : List ℕ) → AreAt order ts ks → ((u : Term) → IsIn ts u → StandsBefore order i u) → All (λ a. a < i) ks
  before i [] [] h early j d small = absurd (omega (arith, small))
  before i [] (k ∷ ks) h early j d small = absurd h
  before i (u ∷ ts) [] h early j d small = absurd h
  before i (u ∷ ts) (k ∷ ks) h early zero d small =
      let e = early u (record { place = 0; at = refl }) in
      let same : k ≡ e.place = ready.once k e.place u h.0 e.at in
      omega (arith, e.earlier, same)
  before i (u ∷ ts) (k ∷ ks) h early (suc j) d small =
      before i ts ks h.1 (λ v g. early v (record { place = suc g.place; at = g.at })) j d (omega (arith, small))

  module _ (i : ℕ) (t : Term) (n : Node) (ns : List Node) (at : slice_get order i ≡ Some t) (are : AreNodes w order i ns) (here : IsNodeAt w order t n) where
    -- the next node fits
    pub fits_next : Fits ns n
    fits_next =
        let small = before i (args_of here.form) (arguments_of n) here.is.arguments (λ u h. ready.arguments i t u at (record { form = here.form; has = here.has; place = h.place; at = h.at })) in
        record { earlier = λ j d lt. let below = small j d lt in omega (arith, below, are.count); arity = here.is.arity }

    each_more : (k : ℕ) (u : Term) → k < i + 1 → slice_get order k ≡ Some u → (m : Node) × (slice_get (ns ++ n ∷ []) k ≡ Some m) × IsNodeAt w order u m
    each_more k u small e = ⊎_elim
        (λ h. let r = are.each k u h e in (r.0, push_old ns n r.0 k r.1, r.2))
        (λ h. let same : k ≡ length ns = omega (arith, h, small, are.count) in
        let term : t ≡ u = same_Some t u (sym at ∙ ap (λ z. slice_get order z) (sym are.count ∙ sym same) ∙ e) in
        (n, ap (λ z. slice_get (ns ++ n ∷ []) z) same ∙ push_here ns n, subst (λ z. IsNodeAt w order z n) term here))
        (cases_lt k i)

    pub nodes_more : (vs : List Node) → vs ≡ ns ++ n ∷ [] → AreNodes w order (i + 1) vs
    nodes_more vs e = subst (AreNodes w order (i + 1)) (sym e) (record {
      count = length_pushed ns n ∙ ap (λ z. z + 1) are.count;
      formed = formed_push ns n are.formed fits_next;
      each = each_more;
    })

pub nodes_none : (w : World) (order : List Term) (ns : List Node) → ns ≡ [] → AreNodes w order 0 ns
nodes_none w order ns e = record {
  count = ap length e;
  formed = record { fits = λ k n h. absurd (cc (sym (ap (λ z. slice_get z k) e) ∙ h)) };
  each = λ k t small h. absurd (omega (arith, small));
}

module _ (w : World) (order : List Term) (ns : List Node) (are : AreNodes w order (length order) ns) where
  args_kept : (k : ℕ) → ((a : ℕ) (u : Term) → a < k → slice_get order a ≡ Some u → Keeps w u (tree_at ns a)) → (ts : List Term) (ks : List ℕ) → AreAt order ts ks → All (λ a. a < k) ks
      → KeepsAll w ts (trees (map (tree_at ns) ks))
  unfolding KeepsAll
  args_kept k below [] [] h small = tt
  args_kept k below [] (j ∷ ks) h small = absurd h
  args_kept k below (u ∷ ts) [] h small = absurd h
  args_kept k below (u ∷ ts) (j ∷ ks) h small = (below j u (small 0 0 (omega arith)) h.0, args_kept k below ts ks h.1 (λ i d lt. small (suc i) d (omega (arith, lt))))

  kept_below : (bound k : ℕ) (t : Term) → k < bound → slice_get order k ≡ Some t → Keeps w t (tree_at ns k)
  unfolding Keeps
  kept_below zero k t lt at = absurd (omega (arith, lt))
  kept_below (suc bound) k t lt at =
      let r = are.each k t (slice_get_within order k t at) at in
      let n = r.0 in
      let i : IsNodeAt w order t n = r.2 in
      let small : All (λ a. a < k) (arguments_of n) = λ j d within. let below = (are.formed.fits k n r.1).earlier j d within in omega (arith, below, length_front ns k n r.1) in
      let args = args_kept k (λ a u less there. kept_below bound a u (omega (arith, less, lt)) there) (args_of i.form) (arguments_of n) i.is.arguments small in
      subst (Keeps w t) (sym (tree_at_node ns are.formed k n r.1)) (i.form, boolean, i.has, i.names, i.is.op, args)

  -- a node's tree is the one that its term stands for
  pub kept_at : (k : ℕ) (t : Term) → slice_get order k ≡ Some t → Keeps w t (tree_at ns k)
  kept_at k t = kept_below (suc k) k t (omega arith)
