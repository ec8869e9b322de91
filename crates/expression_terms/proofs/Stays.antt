-- What was built for a tree stays so while the table grows.
use Rattle.std.proofs.Common.{◌≡◌, ◌∙◌, ℕ, Bool, true, false, List, [], ◌∷◌, map, Option, Some, None, refl, sym, ap, subst}
use Rattle.std.specs.Option.{option_map}
use Rattle.y_tree.specs.Sorts.{Sort}
use Rattle.y_tree.specs.Tree.{Op, truth, falsity, constant, Tree, Trees, node}
use Rattle.y_tree.specs.Tree as tree
use Rattle.stamped_slots.specs.Slots.{held_at}
use Rattle.term_shapes.specs.declared.handles.Term.{Term}
use Rattle.term_shapes.specs.declared.handles.TypeId.{TypeId}
use Rattle.term_shapes.specs.declared.shapes.Shape.{Shape}
use Rattle.term_shapes.specs.declared.shapes.Shape.TheVariants as shape
use Rattle.term_shapes.specs.declared.shapes.Node.{Node}
use Rattle.term_table.specs.World.{World, node_at}
use Rattle.term_table.specs.Checking.{HasSort, HaveSorts}
use Rattle.term_sketches.specs.declared.items.Sketch.{Sketch}
use Rattle.term_sketches.specs.declared.items.Sketch.TheVariants as sketch
use Rattle.term_sketches.specs.Sketches.{sketch_of}
use Rattle.term_sketches.specs.Valuing.{are_truths}
use Rattle.term_build.specs.Building.{AddsAtMost, literal_of, literal_at, IsFlagged, IsMade}
use Rattle.term_build.specs.Lasting.{LastsWith}
use Rattle.term_build.proofs.Growing.{IsWider, wider, shape_stays, sort_stays, tree_stays, literal_stays, literals_stay}
use Rattle.expression_terms.specs.Standing.{IsMadeOf, IsBuiltFor, AreBuiltFor}

module _ (old new : World) (m : IsWider old new) where
  flagged_stays : (t : Term) (b : Bool) (s : Shape) → IsFlagged old t b s → IsFlagged new t b s
  flagged_stays t false s h = shape_stays old new m t s h
  flagged_stays t true s (u, inner, outer) = (u, shape_stays old new m u s inner, shape_stays old new m t (shape.Not u) outer)

  -- what a sketch says stays
  pub made_stays : (t : Term) (sk : Sketch) → IsMade old t sk → IsMade new t sk
  made_stays t (sketch.OneLiteral l) h = literal_stays old new m t l h
  made_stays t (sketch.AllOf ls) (ts, has, are) = (ts, shape_stays old new m t (shape.And ts) has, literals_stay old new m ts ls are)
  made_stays t (sketch.AnyOf ls) (ts, has, are) = (ts, shape_stays old new m t (shape.Or ts) has, literals_stay old new m ts ls are)
  made_stays t (sketch.OddOf b ts) h = flagged_stays t b (shape.Xor ts) h
  made_stays t (sketch.OneOf x a b) (u, v, has, ua, vb) = (u, v, shape_stays old new m t (shape.Ite x u v) has, literal_stays old new m u a ua, literal_stays old new m v b vb)
  made_stays t (sketch.Equal b x y) h = flagged_stays t b (shape.Eq x y) h
  made_stays t (sketch.Apart ts) h = shape_stays old new m t (shape.Distinct ts) h

  literal_under : (t : Term) (o : Option Node) → node_at old t ≡ o → (of : TypeId) → option_map (λ (n : Node). n.of) o ≡ Some of → literal_at old t ≡ literal_at new t
  literal_under t None e of h = absurd (cc h)
  literal_under t (Some x) e of h = ap (λ o. literal_of t (option_map (λ (n : Node). n.shape) o)) (e ∙ sym (m.nodes t x e))

  -- a live term is one literal
  literal_same : (t : Term) (k : Sort) → HasSort old t k → literal_at old t ≡ literal_at new t
  literal_same t k (of, has, keeps) = literal_under t (node_at old t) refl of has

  pub literals_same : (ts : List Term) (ks : List Sort) → HaveSorts old ts ks → map (literal_at old) ts ≡ map (literal_at new) ts
  literals_same [] [] h = refl
  literals_same [] (k ∷ ks) h = absurd h
  literals_same (t ∷ ts) [] h = absurd h
  literals_same (t ∷ ts) (k ∷ ks) h = ap (λ l. l ∷ map (literal_at old) ts) (literal_same t k h.0) ∙ ap (λ ls. literal_at new t ∷ ls) (literals_same ts ks h.1)

  pub all_sorts_stay : (ts : List Term) (ks : List Sort) → HaveSorts old ts ks → HaveSorts new ts ks
  all_sorts_stay [] [] h = tt
  all_sorts_stay [] (k ∷ ks) h = absurd h
  all_sorts_stay (t ∷ ts) [] h = absurd h
  all_sorts_stay (t ∷ ts) (k ∷ ks) h = (sort_stays old new m t k h.0, all_sorts_stay ts ks h.1)

  -- what a constructor made stays
  pub made_of_stays : (op : Op) (ts : List Term) (t : Term) → IsMadeOf old op ts t → IsMadeOf new op ts t
  made_of_stays op ts t p = record {
    constructor = p.constructor;
    is = p.is;
    sorts = p.sorts;
    have = all_sorts_stay ts p.sorts p.have;
    made = subst (λ ls. IsMade new t (sketch_of p.constructor (are_truths p.sorts) ls)) (literals_same ts p.sorts p.have)
        (made_stays t (sketch_of p.constructor (are_truths p.sorts) (map (literal_at old) ts)) p.made);
  }

  node_stays : (op : Op) (ds : Trees) (t : Term) → ((ts : List Term) → AreBuiltFor old ds ts → AreBuiltFor new ds ts) → IsBuiltFor old (node op ds) t → IsBuiltFor new (node op ds) t
  unfolding IsBuiltFor
  node_stays truth ds t all h = shape_stays old new m t shape.True h
  node_stays falsity ds t all h = shape_stays old new m t shape.False h
  node_stays (constant n k) ds t all h = tree_stays old new m (node (constant n k) tree.none) t h
  node_stays op ds t all h = (h.0, all h.0 h.1, made_of_stays op h.0 t h.2)

  mutual
    unfolding IsBuiltFor

    -- what was built for a tree stays so
    pub built_stays : (d : Tree) (t : Term) → IsBuiltFor old d t → IsBuiltFor new d t
    built_stays (node op ds) t h = node_stays op ds t (λ ts are. all_stay ds ts are) h

    pub all_stay : (ds : Trees) (ts : List Term) → AreBuiltFor old ds ts → AreBuiltFor new ds ts
    all_stay tree.none [] h = tt
    all_stay tree.none (t ∷ ts) h = absurd h
    all_stay (tree.more d ds) [] h = absurd h
    all_stay (tree.more d ds) (t ∷ ts) h = (built_stays d t h.0, all_stay ds ts h.1)

-- where all that was said of live terms is still so, live terms and types are
pub lasting_wider : (n : ℕ) (old new : World) → LastsWith n old new → IsWider old new
lasting_wider n old new m = record { nodes = m.nodes; types = λ u s h. ap (λ (w : World). held_at w.types u.slot u.stamp) m.rest ∙ h }

pub built_lasts : (n : ℕ) (old new : World) → LastsWith n old new → (d : Tree) (t : Term) → IsBuiltFor old d t → IsBuiltFor new d t
built_lasts n old new m = built_stays old new (lasting_wider n old new m)

pub all_last : (n : ℕ) (old new : World) → LastsWith n old new → (ds : Trees) (ts : List Term) → AreBuiltFor old ds ts → AreBuiltFor new ds ts
all_last n old new m = all_stay old new (lasting_wider n old new m)

-- so it is where terms were added
pub built_grows : (n : ℕ) (old new : World) → AddsAtMost n old new → (d : Tree) (t : Term) → IsBuiltFor old d t → IsBuiltFor new d t
built_grows n old new adds = built_stays old new (wider n old new adds)

pub all_grow : (n : ℕ) (old new : World) → AddsAtMost n old new → (ds : Trees) (ts : List Term) → AreBuiltFor old ds ts → AreBuiltFor new ds ts
all_grow n old new adds = all_stay old new (wider n old new adds)
