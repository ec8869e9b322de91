-- A handle stands for one tree, and a tree is that of one handle; the sort of a kept tree.
use Rattle.std.proofs.Common.{◌≡◌, ◌∙◌, List, [], ◌∷◌, Option, Some, None, refl, sym, ap, subst}
use Rattle.std.specs.Option.{option_map}
use Rattle.std.proofs.lemmas.Option.{same_Some}
use Rattle.y_tree.specs.Sorts.{Sort}
use Rattle.y_tree.specs.Tree.{Tree, Trees, node, none, more, constant, variable}
use Rattle.y_tree.specs.Typing.{sort_of}
use Rattle.term_shapes.specs.declared.handles.Term.{Term}
use Rattle.term_shapes.specs.declared.handles.TypeId.{TypeId}
use Rattle.term_shapes.specs.declared.shapes.Shape.{Shape}
use Rattle.term_shapes.specs.declared.shapes.Shape.TheVariants as shape
use Rattle.term_shapes.specs.declared.shapes.Node.{Node}
use Rattle.term_shapes.specs.Shapes.{op_of, args_of, types_of}
use Rattle.term_table.specs.World.{World, node_at, KeepsType, AllKeep, Keeps, KeepsAll, IsTable}
use Rattle.term_table.specs.Checking.{HasSort}
use Rattle.term_table.proofs.Adding.{some_node}
use Rattle.term_table.proofs.Sorting.{one_kept}

module _ (w : World) where
  op_same : (s : Shape) (k l : Sort) → AllKeep w (types_of s) k → AllKeep w (types_of s) l → op_of s k ≡ op_of s l
  op_same shape.True k l h g = refl
  op_same shape.False k l h g = refl
  op_same (shape.Const n of) k l h g = ap (constant n) (one_kept w k l of h.0 g.0)
  op_same (shape.Var n of) k l h g = ap (variable n) (one_kept w k l of h.0 g.0)
  op_same (shape.Number q) k l h g = refl
  op_same (shape.Bits n a) k l h g = refl
  op_same (shape.Not t) k l h g = refl
  op_same (shape.And ts) k l h g = refl
  op_same (shape.Or ts) k l h g = refl
  op_same (shape.Xor ts) k l h g = refl
  op_same (shape.Ite c t u) k l h g = refl
  op_same (shape.Eq t u) k l h g = refl
  op_same (shape.Distinct ts) k l h g = refl
  op_same (shape.App f ts) k l h g = refl
  op_same (shape.Update f ts v) k l h g = refl
  op_same (shape.Sum ms q) k l h g = refl
  op_same (shape.NonNeg t) k l h g = refl
  op_same (shape.Bv op ts) k l h g = refl
  op_same (shape.BvAt op i j t) k l h g = refl

  mutual
    unfolding Keeps

    pub same_kept : (a b : Tree) (t : Term) → Keeps w t a → Keeps w t b → a ≡ b
    same_kept (node op as_) (node oq bs) t (s, k, has, names, is, args) (r, l, has', names', is', args') =
        let e : s ≡ r = same_Some s r (sym has ∙ has') in
        let o : op ≡ oq = sym is ∙ op_same s k l names (subst (λ z. AllKeep w (types_of z) l) (sym e) names') ∙ ap (λ z. op_of z l) e ∙ is' in
        ap (λ z. node z as_) o ∙ ap (node oq) (same_all as_ bs (args_of s) args (subst (λ z. KeepsAll w (args_of z) bs) (sym e) args'))

    pub same_all : (as_ bs : Trees) (ts : List Term) → KeepsAll w ts as_ → KeepsAll w ts bs → as_ ≡ bs
    same_all none none ts h g = refl
    same_all none (more b bs) [] h g = absurd g
    same_all none (more b bs) (t ∷ ts) h g = absurd h
    same_all (more a as_) none [] h g = absurd h
    same_all (more a as_) none (t ∷ ts) h g = absurd g
    same_all (more a as_) (more b bs) [] h g = absurd h
    same_all (more a as_) (more b bs) (t ∷ ts) h g = ap (λ z. more z as_) (same_kept a b t h.0 g.0) ∙ ap (more b) (same_all as_ bs ts h.1 g.1)

  node_of_type : (o : Option Node) (of : TypeId) → option_map (λ (n : Node). n.of) o ≡ Some of → (n : Node) × (o ≡ Some n) × (n.of ≡ of)
  node_of_type None of h = absurd (cc h)
  node_of_type (Some n) of h = (n, refl, same_Some n.of of h)

  module _ (table : IsTable w) where
    -- a term whose tree has a sort has that sort
    pub sort_of_kept : (t : Term) (a : Tree) (k : Sort) → Keeps w t a → sort_of a ≡ Some k → HasSort w t k
    unfolding Keeps
    sort_of_kept t (node op args) k (s, l, has, names, is, kept) e =
        let n = some_node (node_at w t) s has in
        let g = table.grounded t n.0 n.1 in
        let same : g.0 ≡ node op args = same_kept g.0 (node op args) t g.2 (s, l, has, names, is, kept) in
        let sort : g.1 ≡ k = same_Some g.1 k (sym g.4 ∙ ap sort_of same ∙ e) in
        (n.0.of, ap (option_map (λ (z : Node). z.of)) n.1, subst (KeepsType w n.0.of) sort g.3)
