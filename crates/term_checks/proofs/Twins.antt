-- Terms of two tables that stand for one tree, and their arguments.
use Rattle.std.proofs.Common.{◌≡◌, ◌∙◌, ℕ, Bool, true, false, zero, suc, List, [], ◌∷◌, Option, Some, None, length, refl, sym, ap, subst, if◌then◌else◌, is_some}
use Rattle.std.specs.Prelude.{slice_get, filter, IsSome}
use Rattle.std.proofs.lemmas.Option.{same_Some}
use Rattle.y_tree.specs.Sorts.{Sort, boolean}
use Rattle.y_tree.specs.Tree.{Op, Tree, Trees, node, none, more}
use Rattle.y_tree.specs.Tree as tree
use Rattle.term_shapes.specs.declared.handles.Term.{Term}
use Rattle.term_shapes.specs.declared.handles.TypeId.{TypeId}
use Rattle.term_shapes.specs.declared.shapes.Shape.{Shape}
use Rattle.term_shapes.specs.declared.shapes.Shape.TheVariants as shape
use Rattle.term_shapes.specs.Shapes.{op_of, args_of}
use Rattle.term_table.specs.World.{World, node_at, shape_at, HasShape, Keeps, KeepsAll, IsTable}
use Rattle.term_table.proofs.Adding.{some_node}
use Rattle.term_table.proofs.Keeping.{one_tree}
use Rattle.term_orders.specs.Orders.{IsArgument, IsBelow, IsUnder, IsVariable, is_constant_shape}
use Rattle.term_orders.specs.Orders.IsBelow.{itself, argument}
use Rattle.term_checks.specs.Formulas.{IsFormula, HasOtherSort}
use Rattle.term_checks.proofs.Kept.{same_kept, kept_sorted, sort_of_kept}

-- the number of a constant's operator, and of a variable's
abbrev pub constant_in : Op → Option ℕ
constant_in (tree.constant n k) = Some n
constant_in op = None

abbrev pub variable_in : Op → Option ℕ
variable_in (tree.variable n k) = Some n
variable_in op = None

abbrev is_variable_shape : Shape → Bool
is_variable_shape (shape.Var n of) = true
is_variable_shape s = false

-- a shape's operator tells whether it is a constant
pub constant_by : (s : Shape) (k : Sort) → is_constant_shape (Some s) ≡ is_some (constant_in (op_of s k))
constant_by shape.True k = refl
constant_by shape.False k = refl
constant_by (shape.Const n of) k = refl
constant_by (shape.Var n of) k = refl
constant_by (shape.Number q) k = refl
constant_by (shape.Bits n a) k = refl
constant_by (shape.Not t) k = refl
constant_by (shape.And ts) k = refl
constant_by (shape.Or ts) k = refl
constant_by (shape.Xor ts) k = refl
constant_by (shape.Ite c t u) k = refl
constant_by (shape.Eq t u) k = refl
constant_by (shape.Distinct ts) k = refl
constant_by (shape.App f ts) k = refl
constant_by (shape.Update f ts v) k = refl
constant_by (shape.Sum ms q) k = refl
constant_by (shape.NonNeg t) k = refl
constant_by (shape.Bv op ts) k = refl
constant_by (shape.BvAt op i j t) k = refl

-- or a variable
variable_by : (s : Shape) (k : Sort) → is_variable_shape s ≡ is_some (variable_in (op_of s k))
variable_by shape.True k = refl
variable_by shape.False k = refl
variable_by (shape.Const n of) k = refl
variable_by (shape.Var n of) k = refl
variable_by (shape.Number q) k = refl
variable_by (shape.Bits n a) k = refl
variable_by (shape.Not t) k = refl
variable_by (shape.And ts) k = refl
variable_by (shape.Or ts) k = refl
variable_by (shape.Xor ts) k = refl
variable_by (shape.Ite c t u) k = refl
variable_by (shape.Eq t u) k = refl
variable_by (shape.Distinct ts) k = refl
variable_by (shape.App f ts) k = refl
variable_by (shape.Update f ts v) k = refl
variable_by (shape.Sum ms q) k = refl
variable_by (shape.NonNeg t) k = refl
variable_by (shape.Bv op ts) k = refl
variable_by (shape.BvAt op i j t) k = refl

variable_form : (s : Shape) → is_variable_shape s ≡ true → (n : ℕ) × (of : TypeId) × (s ≡ shape.Var n of)
variable_form shape.True h = absurd (cc h)
variable_form shape.False h = absurd (cc h)
variable_form (shape.Const n of) h = absurd (cc h)
variable_form (shape.Var n of) h = (n, of, refl)
variable_form (shape.Number q) h = absurd (cc h)
variable_form (shape.Bits n a) h = absurd (cc h)
variable_form (shape.Not t) h = absurd (cc h)
variable_form (shape.And ts) h = absurd (cc h)
variable_form (shape.Or ts) h = absurd (cc h)
variable_form (shape.Xor ts) h = absurd (cc h)
variable_form (shape.Ite c t u) h = absurd (cc h)
variable_form (shape.Eq t u) h = absurd (cc h)
variable_form (shape.Distinct ts) h = absurd (cc h)
variable_form (shape.App f ts) h = absurd (cc h)
variable_form (shape.Update f ts v) h = absurd (cc h)
variable_form (shape.Sum ms q) h = absurd (cc h)
variable_form (shape.NonNeg t) h = absurd (cc h)
variable_form (shape.Bv op ts) h = absurd (cc h)
variable_form (shape.BvAt op i j t) h = absurd (cc h)

-- a shape with the operator of a variable is one
variable_same : (s r : Shape) (k l : Sort) (n : ℕ) (of : TypeId) → s ≡ shape.Var n of → op_of s k ≡ op_of r l → is_variable_shape r ≡ true
variable_same s r k l n of e o =
    variable_by r l ∙ ap (λ z. is_some (variable_in z)) (sym o) ∙ sym (variable_by s k) ∙ ap is_variable_shape e

-- both terms stand for one tree
pub record Twin (v w : World) (t u : Term) : Type 0 where
  pub tree : Tree
  pub left : Keeps v t tree
  pub right : Keeps w u tree

pub turned : (v w : World) (t u : Term) → Twin v w t u → Twin w v u t
turned v w t u h = record { tree = h.tree; left = h.right; right = h.left }

-- place by place both do
abbrev pub Twins : World → World → List Term → List Term → Type 0
Twins v w [] [] = Unit {0}
Twins v w (t ∷ ts) (u ∷ us) = Twin v w t u × Twins v w ts us
Twins v w [] (u ∷ us) = ⊥
Twins v w (t ∷ ts) [] = ⊥

module _ (v w : World) where
  pub twins_of : (ts us : List Term) (trees : Trees) → KeepsAll v ts trees → KeepsAll w us trees → Twins v w ts us
  unfolding KeepsAll
  twins_of [] [] none h g = tt
  twins_of [] (u ∷ us) none h g = absurd g
  twins_of (t ∷ ts) us none h g = absurd h
  twins_of [] us (more a rest) h g = absurd h
  twins_of (t ∷ ts) [] (more a rest) h g = absurd g
  twins_of (t ∷ ts) (u ∷ us) (more a rest) h g = (record { tree = a; left = h.0; right = g.0 }, twins_of ts us rest h.1 g.1)

  pub twin_at : (ts us : List Term) (i : ℕ) (t : Term) → Twins v w ts us → slice_get ts i ≡ Some t → (u : Term) × (slice_get us i ≡ Some u) × Twin v w t u
  twin_at [] [] i t h at = absurd (cc at)
  twin_at [] (u ∷ us) i t h at = absurd h
  twin_at (x ∷ ts) [] i t h at = absurd h
  twin_at (x ∷ ts) (u ∷ us) zero t h at = (u, refl, subst (λ z. Twin v w z u) (same_Some x t at) h.0)
  twin_at (x ∷ ts) (u ∷ us) (suc i) t h at = twin_at ts us i t h.1 at

  pub twin_back : (ts us : List Term) (i : ℕ) (u : Term) → Twins v w ts us → slice_get us i ≡ Some u → (t : Term) × (slice_get ts i ≡ Some t) × Twin v w t u
  twin_back [] [] i u h at = absurd (cc at)
  twin_back [] (x ∷ us) i u h at = absurd h
  twin_back (t ∷ ts) [] i u h at = absurd h
  twin_back (t ∷ ts) (x ∷ us) zero u h at = (t, refl, subst (Twin v w t) (same_Some x u at) h.0)
  twin_back (t ∷ ts) (x ∷ us) (suc i) u h at = twin_back ts us i u h.1 at

  pub twins_length : (ts us : List Term) → Twins v w ts us → length us ≡ length ts
  twins_length [] [] h = refl
  twins_length [] (u ∷ us) h = absurd h
  twins_length (t ∷ ts) [] h = absurd h
  twins_length (t ∷ ts) (u ∷ us) h = ap suc (twins_length ts us h.1)

  -- a list of terms with twins has a list of these
  pub twin_list : (ts : List Term) → ((i : ℕ) (t : Term) → slice_get ts i ≡ Some t → (u : Term) × Twin v w t u) → (us : List Term) × Twins v w ts us
  twin_list [] each = ([], tt)
  twin_list (t ∷ ts) each =
      let u = each 0 t refl in
      let rest = twin_list ts (λ i. each (suc i)) in
      (u.0 ∷ rest.0, (u.1, rest.1))

  kept_place : (ts us : List Term) (trees : Trees) (i : ℕ) (t : Term) → KeepsAll v ts trees → KeepsAll w us trees → slice_get ts i ≡ Some t → (u : Term) × (slice_get us i ≡ Some u) × Twin v w t u
  kept_place ts us trees i t h g at = twin_at ts us i t (twins_of ts us trees h g) at

  -- the arguments of twins are twins
  argument_by : (a : Tree) (t u x : Term) → Keeps v t a → Keeps w u a → IsArgument v x t → (y : Term) × IsArgument w y u × Twin v w x y
  unfolding Keeps
  argument_by (node op trees) t u x (s, k, has, names, is, args) (r, l, had, called, was, arms) arg =
      let same : arg.form ≡ s = same_Some arg.form s (sym arg.has ∙ has) in
      let p = kept_place (args_of s) (args_of r) trees arg.place x args arms (ap (λ z. slice_get (args_of z) arg.place) (sym same) ∙ arg.at) in
      (p.0, record { form = r; has = had; place = arg.place; at = p.1 }, p.2)

  pub argument_twin : (t u x : Term) → Twin v w t u → IsArgument v x t → (y : Term) × IsArgument w y u × Twin v w x y
  argument_twin t u x h = argument_by h.tree t u x h.left h.right

  -- and so is what is below them
  pub below_twin : (x t u : Term) → Twin v w t u → IsBelow v x t → (y : Term) × IsBelow w y u × Twin v w x y
  below_twin x t u h itself = (u, itself, h)
  below_twin x t u h (argument z r b a) =
      let p = argument_twin t u z h a in
      let q = below_twin x z p.0 p.2 b in
      (q.0, argument p.0 u q.1 p.1, q.2)

  pub under_twin : (ts us : List Term) (x : Term) → Twins v w ts us → IsUnder v ts x → (y : Term) × IsUnder w us y × Twin v w x y
  under_twin ts us x h under =
      let r = twin_at ts us under.listed.place under.root h under.listed.at in
      let b = below_twin x under.root r.0 r.2 under.below in
      (b.0, record { root = r.0; listed = record { place = under.listed.place; at = r.1 }; below = b.1 }, b.2)

  -- twins have one operator
  pub same_op : (a : Tree) (t u : Term) → Keeps v t a → Keeps w u a → (s : Shape) × (r : Shape) × (k : Sort) × (l : Sort) × HasShape v t s × HasShape w u r × (op_of s k ≡ op_of r l)
  unfolding Keeps
  same_op (node op trees) t u (s, k, has, names, is, args) (r, l, had, called, was, arms) = (s, r, k, l, has, had, is ∙ sym was)

  pub constant_twin : (t u : Term) → Twin v w t u → is_constant_shape (shape_at v t) ≡ is_constant_shape (shape_at w u)
  constant_twin t u h =
      let o = same_op h.tree t u h.left h.right in
      ap is_constant_shape o.4 ∙ constant_by o.0 o.2 ∙ ap (λ z. is_some (constant_in z)) o.6 ∙ sym (constant_by o.1 o.3) ∙ ap is_constant_shape (sym o.5)

  pub variable_twin : (t u : Term) → Twin v w t u → IsVariable v t → IsVariable w u
  variable_twin t u h is =
      let o = same_op h.tree t u h.left h.right in
      let same : o.0 ≡ shape.Var is.number is.of = same_Some o.0 (shape.Var is.number is.of) (sym o.4 ∙ is.has) in
      let found = variable_same o.0 o.1 o.2 o.3 is.number is.of same o.6 in
      let f = variable_form o.1 found in
      record { number = f.0; of = f.1; has = o.5 ∙ ap Some f.2 }

  pub live_twin : (t u : Term) → Twin v w t u → IsSome (node_at w u)
  live_twin t u h =
      let o = same_op h.tree t u h.left h.right in
      let n = some_node (node_at w u) o.1 o.5 in
      subst IsSome (sym n.1) refl

  pub same_twin : IsTable w → (t u x : Term) → Twin v w t u → Twin v w t x → u ≡ x
  same_twin table t u x h g =
      let same : g.tree ≡ h.tree = same_kept v g.tree h.tree t g.left h.left in
      one_handle table u x h.tree h.right (subst (Keeps w x) same g.right)
    where
      one_handle : IsTable w → (u x : Term) (a : Tree) → Keeps w u a → Keeps w x a → u ≡ x
      one_handle table u x a = one_tree w table.one_type table.one_term a u x

  pub same_twins : IsTable w → (ts us xs : List Term) → Twins v w ts us → Twins v w ts xs → us ≡ xs
  same_twins table [] [] [] h g = refl
  same_twins table [] [] (x ∷ xs) h g = absurd g
  same_twins table [] (u ∷ us) xs h g = absurd h
  same_twins table (t ∷ ts) [] xs h g = absurd h
  same_twins table (t ∷ ts) (u ∷ us) [] h g = absurd g
  same_twins table (t ∷ ts) (u ∷ us) (x ∷ xs) h g = ap (λ z. z ∷ us) (same_twin table t u x h.0 g.0) ∙ ap (λ z. x ∷ z) (same_twins table ts us xs h.1 g.1)

  -- the twins of what a filter leaves
  pub filter_twins : (ts us : List Term) → Twins v w ts us → Twins v w (filter (λ t. is_constant_shape (shape_at v t)) ts) (filter (λ u. is_constant_shape (shape_at w u)) us)
  filter_twins [] [] h = tt
  filter_twins [] (u ∷ us) h = absurd h
  filter_twins (t ∷ ts) [] h = absurd h
  filter_twins (t ∷ ts) (u ∷ us) h = by (is_constant_shape (shape_at v t)) (is_constant_shape (shape_at w u)) (constant_twin t u h.0) (filter_twins ts us h.1)
    where
      by : (b c : Bool) → b ≡ c → Twins v w (filter (λ t. is_constant_shape (shape_at v t)) ts) (filter (λ u. is_constant_shape (shape_at w u)) us)
          → Twins v w (if b then t ∷ filter (λ t. is_constant_shape (shape_at v t)) ts else filter (λ t. is_constant_shape (shape_at v t)) ts) (if c then u ∷ filter (λ u. is_constant_shape (shape_at w u)) us else filter (λ u. is_constant_shape (shape_at w u)) us)
      by true true e rest = (h.0, rest)
      by false false e rest = rest
      by true false e rest = absurd (cc e)
      by false true e rest = absurd (cc e)

-- what stands for a formula's tree is a formula
pub formula_twin : (v w : World) → IsTable v → IsTable w → (t u : Term) → Twin v w t u → IsFormula v t → IsFormula w u
formula_twin v w table other t u h f = record {
  sort = sort_of_kept w other u h.tree boolean h.right (kept_sorted v table t h.tree boolean h.left f.sort);
  closed = λ y b is. let p = below_twin w v y u t (turned v w t u h) b in f.closed p.0 p.1 (variable_twin w v y p.0 p.2 is);
}

-- and another sort below the ones is below the others
pub other_twin : (v w : World) → IsTable v → IsTable w → (ts us : List Term) → Twins v w ts us → HasOtherSort v ts → HasOtherSort w us
other_twin v w table other ts us h o =
    let p = under_twin v w ts us o.term h o.under in
    record {
      term = p.0;
      under = p.1;
      sort = o.sort;
      has = sort_of_kept w other p.0 p.2.tree o.sort p.2.right (kept_sorted v table o.term p.2.tree o.sort p.2.left o.has);
      other = o.other;
    }
