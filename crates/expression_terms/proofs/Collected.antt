-- What was built within kept terms outlasts a collection that keeps these.
use Rattle.std.proofs.Common.{◌≡◌, ◌∙◌, ℕ, zero, suc, ◌<◌, inl, inr, Bool, true, false, List, [], ◌∷◌, map, Option, Some, None, refl, sym, ap, subst, arith}
use Rattle.std.specs.Prelude.{IsSome, is_some, slice_get}
use Rattle.std.specs.Option.{option_map}
use Rattle.std.proofs.lemmas.Option.{same_Some}
use Rattle.y_tree.specs.Sorts.{Sort}
use Rattle.y_tree.specs.Tree.{Op, truth, falsity, constant, Tree, Trees, node}
use Rattle.y_tree.specs.Tree as tree
use Rattle.term_shapes.specs.declared.handles.Term.{Term}
use Rattle.term_shapes.specs.declared.handles.TypeId.{TypeId}
use Rattle.term_shapes.specs.declared.shapes.Shape.{Shape}
use Rattle.term_shapes.specs.declared.shapes.Shape.TheVariants as shape
use Rattle.term_shapes.specs.declared.shapes.Node.{Node}
use Rattle.term_shapes.specs.Shapes.{args_of}
use Rattle.term_table.specs.declared.table.Marked.TheVariants as handle
use Rattle.term_table.specs.World.{World, node_at, HasNode, HasShape, IsTable}
use Rattle.term_table.specs.Checking.{HasSort, HaveSorts}
use Rattle.term_table.proofs.Adding.{some_node}
use Rattle.term_orders.specs.Orders.{IsIn}
use Rattle.term_collect.specs.Reach.{Handle, IsReached, IsKept, Leaves}
use Rattle.term_collect.specs.Reach.Reaches.{itself, needed}
use Rattle.term_sketches.specs.declared.items.Literal.{Literal}
use Rattle.term_sketches.specs.declared.items.Sketch.{Sketch}
use Rattle.term_sketches.specs.declared.items.Sketch.TheVariants as sketch
use Rattle.term_sketches.specs.Sketches.{the_truth, same_term, sketch_of}
use Rattle.term_sketches.specs.Valuing.{are_truths}
use Rattle.term_build.specs.Building.{the_falsity, literal_of, literal_at, IsSigned, IsLiteral, AreLiterals, IsFlagged, IsMade}
use Rattle.expression_terms.specs.Trees.{Scope}
use Rattle.expression_terms.specs.Standing.{StandsFor, IsMadeOf}
use Rattle.expression_terms.specs.Building.{Named, AreNamed}
use Rattle.expression_terms.specs.Keeping.{IsBuiltWithin, AreBuiltWithin, AllKept, AreNamedWithin}
use Rattle.expression_terms.proofs.Live.{built_live}
use Rattle.expression_terms.proofs.Keeping.{within_built, within_on, all_within_on}

-- the handles that the kept ones and the held ones reach, and the table that a collection leaves
module _ (old new : World) (table : IsTable old) (K : Handle → Type 0) (leaves : Leaves old new (IsReached old K)) where
  -- the term is reached
  abbrev pub IsReachedTerm : Term → Type 0
  IsReachedTerm t = IsReached old K (handle.Term t)

  -- so is each term of the list
  abbrev AreReached : List Term → Type 0
  AreReached ts = (i : ℕ) (u : Term) → slice_get ts i ≡ Some u → IsReachedTerm u

  -- the arguments of what is reached are, and its type
  arguments_reached : (t : Term) (s : Shape) → IsReachedTerm t → HasShape old t s → AreReached (args_of s)
  arguments_reached t s (g, live, why, path) has i u at =
      let n = some_node (node_at old t) s has in
      (g, live, why, needed (handle.Term t) (handle.Term u) path (n.0, n.1, inl (i, (u, ap (λ z. slice_get (args_of z) i) n.2 ∙ at, refl))))

  type_reached : (t : Term) (n : Node) → HasNode old t n → IsReachedTerm t → IsReached old K (handle.TypeId n.of)
  type_reached t n has (g, live, why, path) = (g, live, why, needed (handle.Term t) (handle.TypeId n.of) path (n, has, inr (0, (n.of, refl, refl))))

  -- the permanent terms are reached
  permanent_reached : (t : Term) → t.slot < 2 → IsSome (node_at old t) → IsReachedTerm t
  permanent_reached t low live = (handle.Term t, live, inl (inl low), itself)

  shape_live : (t : Term) (s : Shape) → HasShape old t s → IsSome (node_at old t)
  shape_live t s h = let n = some_node (node_at old t) s h in ap is_some n.1

  truth_reached : (t : Term) → HasShape old t shape.True → IsReachedTerm t
  truth_reached t h = permanent_reached t (omega (arith, ap (λ (z : Term). z.slot) (table.one_term t the_truth shape.True h table.permanents.truth))) (shape_live t shape.True h)

  falsity_reached : (t : Term) → HasShape old t shape.False → IsReachedTerm t
  falsity_reached t h = permanent_reached t (omega (arith, ap (λ (z : Term). z.slot) (table.one_term t the_falsity shape.False h table.permanents.falsity))) (shape_live t shape.False h)

  -- a reached term stays as it was
  shape_left : (t : Term) (s : Shape) → IsReachedTerm t → HasShape old t s → HasShape new t s
  shape_left t s r h = let n = some_node (node_at old t) s h in ap (option_map (λ (z : Node). z.shape)) (leaves.term t n.0 n.1 r) ∙ ap Some n.2

  live_under : (t : Term) (o : Option Node) → node_at old t ≡ o → IsSome o → IsReachedTerm t → IsSome (node_at new t)
  live_under t None e h r = absurd (cc h)
  live_under t (Some n) e h r = ap is_some (leaves.term t n e r)

  typed_node : (o : Option Node) (of : TypeId) → option_map (λ (n : Node). n.of) o ≡ Some of → (n : Node) × (o ≡ Some n) × (n.of ≡ of)
  typed_node None of h = absurd (cc h)
  typed_node (Some n) of h = (n, refl, same_Some n.of of h)

  pub sort_left : (t : Term) (k : Sort) → IsReachedTerm t → HasSort old t k → HasSort new t k
  sort_left t k r (of, has, keeps) =
      let n = typed_node (node_at old t) of has in
      (of, ap (option_map (λ (z : Node). z.of)) (leaves.term t n.0 n.1 r) ∙ ap Some n.2, leaves.sort of k keeps (subst (λ (z : TypeId). IsReached old K (handle.TypeId z)) n.2 (type_reached t n.0 n.1 r)))

  sorts_left : (ts : List Term) (ks : List Sort) → AreReached ts → HaveSorts old ts ks → HaveSorts new ts ks
  sorts_left [] [] all h = tt
  sorts_left [] (k ∷ ks) all h = absurd h
  sorts_left (t ∷ ts) [] all h = absurd h
  sorts_left (t ∷ ts) (k ∷ ks) all h = (sort_left t k (all 0 t refl) h.0, sorts_left ts ks (λ i. all (suc i)) h.1)

  -- and one literal
  literal_same : (t : Term) (k : Sort) → IsReachedTerm t → HasSort old t k → literal_at old t ≡ literal_at new t
  literal_same t k r (of, has, keeps) =
      let n = typed_node (node_at old t) of has in ap (λ o. literal_of t (option_map (λ (z : Node). z.shape) o)) (n.1 ∙ sym (leaves.term t n.0 n.1 r))

  literals_same : (ts : List Term) (ks : List Sort) → AreReached ts → HaveSorts old ts ks → map (literal_at old) ts ≡ map (literal_at new) ts
  literals_same [] [] all h = refl
  literals_same [] (k ∷ ks) all h = absurd h
  literals_same (t ∷ ts) [] all h = absurd h
  literals_same (t ∷ ts) (k ∷ ks) all h =
      ap (λ l. l ∷ map (literal_at old) ts) (literal_same t k (all 0 t refl) h.0) ∙ ap (λ ls. literal_at new t ∷ ls) (literals_same ts ks (λ i. all (suc i)) h.1)

  -- what a sketch says of it stays
  signed_left : (t u : Term) (n c : Bool) → IsReachedTerm t → IsSigned old t u n c → IsSigned new t u n c
  signed_left t u false c r h = h
  signed_left t u true true r h = h
  signed_left t u true false r h = shape_left t (shape.Not u) r h

  literal_left : (t : Term) (l : Literal) → IsReachedTerm t → IsLiteral old t l → IsLiteral new t l
  literal_left t l r h = (live_under t (node_at old t) refl h.0 r, signed_left t l.atom l.negated (same_term l.atom the_truth) r h.1)

  literals_left : (ts : List Term) (ls : List Literal) → AreReached ts → AreLiterals old ts ls → AreLiterals new ts ls
  literals_left [] [] all h = tt
  literals_left [] (l ∷ ls) all h = absurd h
  literals_left (t ∷ ts) [] all h = absurd h
  literals_left (t ∷ ts) (l ∷ ls) all h = (literal_left t l (all 0 t refl) h.0, literals_left ts ls (λ i. all (suc i)) h.1)

  flagged_left : (t : Term) (b : Bool) (s : Shape) → IsReachedTerm t → IsFlagged old t b s → IsFlagged new t b s
  flagged_left t false s r h = shape_left t s r h
  flagged_left t true s r (u, inner, outer) = (u, shape_left u s (arguments_reached t (shape.Not u) r outer 0 u refl) inner, shape_left t (shape.Not u) r outer)

  made_left : (t : Term) (sk : Sketch) → IsReachedTerm t → IsMade old t sk → IsMade new t sk
  made_left t (sketch.OneLiteral l) r h = literal_left t l r h
  made_left t (sketch.AllOf ls) r (ts, has, are) = (ts, shape_left t (shape.And ts) r has, literals_left ts ls (arguments_reached t (shape.And ts) r has) are)
  made_left t (sketch.AnyOf ls) r (ts, has, are) = (ts, shape_left t (shape.Or ts) r has, literals_left ts ls (arguments_reached t (shape.Or ts) r has) are)
  made_left t (sketch.OddOf b ts) r h = flagged_left t b (shape.Xor ts) r h
  made_left t (sketch.OneOf x a b) r (u, v, has, ua, vb) = (
    u,
    v,
    shape_left t (shape.Ite x u v) r has,
    literal_left u a (arguments_reached t (shape.Ite x u v) r has 1 u refl) ua,
    literal_left v b (arguments_reached t (shape.Ite x u v) r has 2 v refl) vb,
  )
  made_left t (sketch.Equal b x y) r h = flagged_left t b (shape.Eq x y) r h
  made_left t (sketch.Apart ts) r h = shape_left t (shape.Distinct ts) r h

  -- what a constructor made of reached terms stays
  made_of_left : (op : Op) (us : List Term) (t : Term) → IsReachedTerm t → AreReached us → IsMadeOf old op us t → IsMadeOf new op us t
  made_of_left op us t r all p = record {
    constructor = p.constructor;
    is = p.is;
    sorts = p.sorts;
    have = sorts_left us p.sorts all p.have;
    made = subst (λ ls. IsMade new t (sketch_of p.constructor (are_truths p.sorts) ls)) (literals_same us p.sorts all p.have)
        (made_left t (sketch_of p.constructor (are_truths p.sorts) (map (literal_at old) us)) r p.made);
  }

  -- and so does what a reached term stands for
  pub stands_left : (d : Tree) (t : Term) → IsReachedTerm t → StandsFor old d t → StandsFor new d t
  stands_left d t r h = record { kept = h.kept; keeps = leaves.tree t h.kept h.keeps r; same = h.same }

  -- where what is kept beside it is kept by the collection
  module _ (ks : List Term) (kept : (t : Term) → IsIn ks t → K (handle.Term t)) where
    listed_reached : (t : Term) → IsIn ks t → IsSome (node_at old t) → IsReachedTerm t
    listed_reached t is live = (handle.Term t, live, inr (kept t is), itself)

    node_reached : (op : Op) (ds : Trees) (t : Term) → IsSome (node_at old t) → IsBuiltWithin old ks (node op ds) t → IsReachedTerm t
    unfolding IsBuiltWithin
    node_reached truth ds t live h = truth_reached t h
    node_reached falsity ds t live h = falsity_reached t h
    node_reached (constant n k) ds t live h = listed_reached t h.0 live
    node_reached op ds t live h = listed_reached t h.0 live

    -- what was built within what is kept is reached
    pub within_reached : (d : Tree) (t : Term) → IsBuiltWithin old ks d t → IsReachedTerm t
    within_reached (node op ds) t h = node_reached op ds t (built_live old (node op ds) t (within_built old ks (node op ds) t h)) h

    all_reached : (ds : Trees) (ts : List Term) → AreBuiltWithin old ks ds ts → AreReached ts
    unfolding AreBuiltWithin
    all_reached tree.none [] h i u at = absurd (cc at)
    all_reached tree.none (t ∷ ts) h i u at = absurd h
    all_reached (tree.more d ds) [] h i u at = absurd h
    all_reached (tree.more d ds) (t ∷ ts) h zero u at = subst IsReachedTerm (same_Some t u at) (within_reached d t h.0)
    all_reached (tree.more d ds) (t ∷ ts) h (suc i) u at = all_reached ds ts h.1 i u at

    -- it stays so
    pub within_left : (d : Tree) (t : Term) → IsBuiltWithin old ks d t → IsBuiltWithin new ks d t
    within_left = within_on old new ks ks (λ t is. is) (λ t h. shape_left t shape.True (truth_reached t h) h) (λ t h. shape_left t shape.False (falsity_reached t h) h)
        (λ d t is live h. leaves.tree t d h (listed_reached t is live)) (λ op ds us t is live are h. made_of_left op us t (listed_reached t is live) (all_reached ds us are) h)

    pub all_within_left : (ds : Trees) (ts : List Term) → AreBuiltWithin old ks ds ts → AreBuiltWithin new ks ds ts
    all_within_left = all_within_on old new ks ks (λ t is. is) (λ t h. shape_left t shape.True (truth_reached t h) h) (λ t h. shape_left t shape.False (falsity_reached t h) h)
        (λ d t is live h. leaves.tree t d h (listed_reached t is live)) (λ op ds us t is live are h. made_of_left op us t (listed_reached t is live) (all_reached ds us are) h)

    -- and stands for what it stood for, with the type that it had
    pub within_stands : (d : Tree) (t : Term) → IsBuiltWithin old ks d t → StandsFor old d t → StandsFor new d t
    within_stands d t h = stands_left d t (within_reached d t h)

    pub within_sort : (d : Tree) (t : Term) (k : Sort) → IsBuiltWithin old ks d t → HasSort old t k → HasSort new t k
    within_sort d t k h = sort_left t k (within_reached d t h)

    -- names stand for what they stood for
    pub named_within_left : (s : Scope) (ns : Named) → AreNamedWithin old ks s ns → AreNamedWithin new ks s ns
    named_within_left s ns h name d e = let k = h name d e in (k.0, k.1, within_left d k.0 k.2)

    pub named_left : (s : Scope) (ns : Named) → AreNamed old s ns → AreNamedWithin old ks s ns → AreNamed new s ns
    named_left s ns named h = record {
      known = λ name d e. let k = h name d e in (k.0, k.1, within_built new ks d k.0 (within_left d k.0 k.2));
      truths = named.truths;
      unknown = named.unknown;
    }

-- where the collection keeps these terms among others
module _ (old new : World) (table : IsTable old) (roots : List Term) (types : List TypeId) (keep_named : Bool) (leaves : Leaves old new (IsReached old (IsKept old roots types keep_named))) (ks : List Term) (kept : AllKept ks roots) where
  root_kept : (t : Term) → IsIn ks t → IsKept old roots types keep_named (handle.Term t)
  root_kept t is = let r = kept t is in inl (inl (r.place, (t, r.at, refl)))

  pub within_collected : (d : Tree) (t : Term) → IsBuiltWithin old ks d t → IsBuiltWithin new ks d t
  within_collected = within_left old new table (IsKept old roots types keep_named) leaves ks root_kept

  pub all_within_collected : (ds : Trees) (ts : List Term) → AreBuiltWithin old ks ds ts → AreBuiltWithin new ks ds ts
  all_within_collected = all_within_left old new table (IsKept old roots types keep_named) leaves ks root_kept

  pub stands_collected : (d : Tree) (t : Term) → IsBuiltWithin old ks d t → StandsFor old d t → StandsFor new d t
  stands_collected = within_stands old new table (IsKept old roots types keep_named) leaves ks root_kept

  pub sort_collected : (d : Tree) (t : Term) (k : Sort) → IsBuiltWithin old ks d t → HasSort old t k → HasSort new t k
  sort_collected = within_sort old new table (IsKept old roots types keep_named) leaves ks root_kept

  pub named_within_collected : (s : Scope) (ns : Named) → AreNamedWithin old ks s ns → AreNamedWithin new ks s ns
  named_within_collected = named_within_left old new table (IsKept old roots types keep_named) leaves ks root_kept

  pub named_collected : (s : Scope) (ns : Named) → AreNamed old s ns → AreNamedWithin old ks s ns → AreNamed new s ns
  named_collected = named_left old new table (IsKept old roots types keep_named) leaves ks root_kept
