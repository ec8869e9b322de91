-- What a live handle needs is live.
use Rattle.std.proofs.Common.{◌≡◌, ◌∙◌, ℕ, List, [], ◌∷◌, Option, Some, None, zero, suc, refl, sym, ap, subst, ⊎_elim}
use Rattle.std.specs.Prelude.{slice_get, IsSome}
use Rattle.std.specs.Option.{option_map}
use Rattle.std.proofs.lemmas.Option.{same_Some}
use Rattle.y_tree.specs.Sorts.{Sort, Sorts, boolean, real, bit_vector, uninterpreted, function}
use Rattle.y_tree.specs.Sorts as sort
use Rattle.y_tree.specs.Tree.{Tree, Trees, node, none, more}
use Rattle.stamped_slots.proofs.Lists.{push_cases}
use Rattle.term_shapes.specs.declared.handles.Term.{Term}
use Rattle.term_shapes.specs.declared.handles.TypeId.{TypeId}
use Rattle.term_shapes.specs.declared.shapes.Shape.{Shape}
use Rattle.term_shapes.specs.declared.shapes.TypeShape.{TypeShape}
use Rattle.term_shapes.specs.declared.shapes.TypeShape.TheVariants as type
use Rattle.term_shapes.specs.declared.shapes.Node.{Node}
use Rattle.term_shapes.specs.Shapes.{args_of, types_of, parts_of}
use Rattle.term_table.specs.World.{World, node_at, shape_at, type_at, type_shape_at, HasNode, HasShape, HasTypeShape, KeepsType, KeepsTypes, AllKeep, Keeps, KeepsAll, IsTable}
use Rattle.term_table.proofs.Adding.{some_node}
use Rattle.term_collect.proofs.Handles.{is_some_of}

module _ (w : World) where
  type_lives : (k : Sort) (t : TypeId) → KeepsType w t k → IsSome (type_shape_at w t)
  unfolding KeepsType
  type_lives boolean t h = is_some_of (type_shape_at w t) type.Bool h
  type_lives real t h = is_some_of (type_shape_at w t) type.Real h
  type_lives (bit_vector n) t h = is_some_of (type_shape_at w t) (type.Bv n) h
  type_lives (uninterpreted n) t h = is_some_of (type_shape_at w t) (type.Free n) h
  type_lives (function domain result) t (ts, r, has, ks, kr) = is_some_of (type_shape_at w t) (type.Fun ts r) has

  types_live : (ks : Sorts) (ts : List TypeId) → KeepsTypes w ts ks → (i : ℕ) (u : TypeId) → slice_get ts i ≡ Some u → IsSome (type_shape_at w u)
  unfolding KeepsTypes
  types_live sort.none [] h i u at = absurd (cc at)
  types_live sort.none (t ∷ ts) h i u at = absurd h
  types_live (sort.more k ks) [] h i u at = absurd h
  types_live (sort.more k ks) (t ∷ ts) h zero u at =
      subst (λ z. IsSome (type_shape_at w z)) (same_Some t u at) (type_lives k t h.0)
  types_live (sort.more k ks) (t ∷ ts) h (suc i) u at = types_live ks ts h.1 i u at

  all_live : (k : Sort) (ts : List TypeId) → AllKeep w ts k → (i : ℕ) (u : TypeId) → slice_get ts i ≡ Some u → IsSome (type_shape_at w u)
  all_live k [] h i u at = absurd (cc at)
  all_live k (t ∷ ts) h zero u at =
      subst (λ z. IsSome (type_shape_at w z)) (same_Some t u at) (type_lives k t h.0)
  all_live k (t ∷ ts) h (suc i) u at = all_live k ts h.1 i u at

  tree_lives : (a : Tree) (t : Term) → Keeps w t a → IsSome (node_at w t)
  unfolding Keeps
  tree_lives (node op trees) t (s, k, has, names, is, args) =
      let n = some_node (node_at w t) s has in
      is_some_of (node_at w t) n.0 n.1

  trees_live : (rest : Trees) (ts : List Term) → KeepsAll w ts rest → (i : ℕ) (u : Term) → slice_get ts i ≡ Some u → IsSome (node_at w u)
  unfolding KeepsAll
  trees_live none [] h i u at = absurd (cc at)
  trees_live none (t ∷ ts) h i u at = absurd h
  trees_live (more a rest) [] h i u at = absurd h
  trees_live (more a rest) (t ∷ ts) h zero u at =
      subst (λ z. IsSome (node_at w z)) (same_Some t u at) (tree_lives a t h.0)
  trees_live (more a rest) (t ∷ ts) h (suc i) u at = trees_live rest ts h.1 i u at

  -- the shape of a node is the one that its tree is made by
  one_shape : (t : Term) (n : Node) (s : Shape) → HasNode w t n → HasShape w t s → n.shape ≡ s
  one_shape t n s has is =
      same_Some n.shape s (sym (ap (option_map (λ (z : Node). z.shape)) has) ∙ is)

  args_live : (a : Tree) (t : Term) (n : Node) → HasNode w t n → Keeps w t a → (i : ℕ) (u : Term) → slice_get (args_of n.shape) i ≡ Some u → IsSome (node_at w u)
  unfolding Keeps
  args_live (node op trees) t n has (s, k, shaped, names, is, args) i u at =
      trees_live trees (args_of s) args i u (ap (λ z. slice_get (args_of z) i) (sym (one_shape t n s has shaped)) ∙ at)

  names_live : (a : Tree) (t : Term) (n : Node) → HasNode w t n → Keeps w t a → (i : ℕ) (u : TypeId) → slice_get (types_of n.shape) i ≡ Some u → IsSome (type_shape_at w u)
  unfolding Keeps
  names_live (node op trees) t n has (s, k, shaped, names, is, args) i u at =
      all_live k (types_of s) names i u (ap (λ z. slice_get (types_of z) i) (sym (one_shape t n s has shaped)) ∙ at)

  no_parts : (s r : TypeShape) (i : ℕ) → s ≡ r → parts_of r ≡ [] → (v : TypeId) → slice_get (parts_of s) i ≡ Some v → ⊥
  no_parts s r i e empty v at = cc (sym at ∙ ap (λ z. slice_get (parts_of z) i) e ∙ ap (λ z. slice_get z i) empty)

  parts_live : (k : Sort) (t : TypeId) (s : TypeShape) → HasTypeShape w t s → KeepsType w t k → (i : ℕ) (u : TypeId) → slice_get (parts_of s) i ≡ Some u → IsSome (type_shape_at w u)
  unfolding KeepsType
  parts_live boolean t s has h i u at =
      absurd (no_parts s type.Bool i (same_Some s type.Bool (sym has ∙ h)) refl u at)
  parts_live real t s has h i u at =
      absurd (no_parts s type.Real i (same_Some s type.Real (sym has ∙ h)) refl u at)
  parts_live (bit_vector n) t s has h i u at =
      absurd (no_parts s (type.Bv n) i (same_Some s (type.Bv n) (sym has ∙ h)) refl u at)
  parts_live (uninterpreted n) t s has h i u at =
      absurd (no_parts s (type.Free n) i (same_Some s (type.Free n) (sym has ∙ h)) refl u at)
  parts_live (function domain result) t s has (ts, r, shaped, ks, kr) i u at =
      let is : s ≡ type.Fun ts r = same_Some s (type.Fun ts r) (sym has ∙ shaped) in
      ⊎_elim
      (λ e. subst (λ z. IsSome (type_shape_at w z)) e.1 (type_lives result r kr))
      (λ e. types_live domain ts ks i u e)
      (push_cases ts r u i (sym (ap (λ z. slice_get (parts_of z) i) is) ∙ at))

  module _ (table : IsTable w) where
    pub argument_live : (t : Term) (n : Node) → HasNode w t n → (i : ℕ) (u : Term) → slice_get (args_of n.shape) i ≡ Some u → IsSome (node_at w u)
    argument_live t n has = let g = table.grounded t n has in args_live g.0 t n has g.2

    pub named_live : (t : Term) (n : Node) → HasNode w t n → (i : ℕ) (u : TypeId) → slice_get (types_of n.shape) i ≡ Some u → IsSome (type_shape_at w u)
    named_live t n has = let g = table.grounded t n has in names_live g.0 t n has g.2

    pub own_live : (t : Term) (n : Node) → HasNode w t n → IsSome (type_shape_at w n.of)
    own_live t n has = let g = table.grounded t n has in type_lives g.1 n.of g.3

    pub part_live : (t : TypeId) (s : TypeShape) → HasTypeShape w t s → (i : ℕ) (u : TypeId) → slice_get (parts_of s) i ≡ Some u → IsSome (type_shape_at w u)
    part_live t s has = let g = table.sorted t s has in parts_live g.0 t s has g.1

    -- the same by what a call answers
    pub argument_found : (t : Term) (s : Shape) → Some s ≡ shape_at w t → (i : ℕ) (u : Term) → Some u ≡ slice_get (args_of s) i → IsSome (node_at w u)
    argument_found t s has i u at =
        let n = some_node (node_at w t) s (sym has) in
        argument_live t n.0 n.1 i u (ap (λ z. slice_get (args_of z) i) n.2 ∙ sym at)

    pub named_found : (t : Term) (s : Shape) → Some s ≡ shape_at w t → (u : TypeId) → Some u ≡ slice_get (types_of s) 0 → IsSome (type_shape_at w u)
    named_found t s has u at =
        let n = some_node (node_at w t) s (sym has) in
        named_live t n.0 n.1 0 u (ap (λ z. slice_get (types_of z) 0) n.2 ∙ sym at)

    pub own_found : (t : Term) (k : TypeId) → Some k ≡ type_at w t → IsSome (type_shape_at w k)
    own_found t k has = by (node_at w t) refl
      where
        by : (o : Option Node) → node_at w t ≡ o → IsSome (type_shape_at w k)
        by None e = absurd (cc (has ∙ ap (option_map (λ (z : Node). z.of)) e))
        by (Some n) e =
            subst (λ z. IsSome (type_shape_at w z)) (sym (same_Some k n.of (has ∙ ap (option_map (λ (z : Node). z.of)) e))) (own_live t n e)

    pub part_found : (t : TypeId) (s : TypeShape) → Some s ≡ type_shape_at w t → (i : ℕ) (u : TypeId) → Some u ≡ slice_get (parts_of s) i → IsSome (type_shape_at w u)
    part_found t s has i u at = part_live t s (sym has) i u (sym at)
