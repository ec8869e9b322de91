-- The shapes of truth values over truth values.
use Rattle.std.proofs.Common.{◌≡◌, ◌∙◌, ◌&&◌, ℕ, Bool, true, false, List, [], ◌∷◌, Some, length, map, suc, refl, sym, ap, subst, arith}
use Rattle.std.specs.Prelude.{◌^◌, ◌==◌, nat_lt}
use Rattle.std.specs.List.{list_all}
use Rattle.std.proofs.lemmas.Option.{same_Some}
use Rattle.y_tree.specs.Sorts.{Sort, boolean, real, bit_vector, same_sort, is_sort, is_width}
use Rattle.y_tree.specs.Tree.{Tree, Trees, node, none, more}
use Rattle.y_tree.specs.Typing.{BvForm, only_if, are, typed, typed_over, typed_form, form_of, sort_of, sorts_of, both}
use Rattle.y_tree.specs.Typing.BvForm.{one, two, test, some, joined}
use Rattle.term_shapes.specs.declared.handles.Term.{Term}
use Rattle.term_shapes.specs.declared.handles.TypeId.{TypeId}
use Rattle.term_shapes.specs.declared.lists.Monomial.{Monomial}
use Rattle.term_shapes.specs.declared.shapes.Shape.{Shape}
use Rattle.term_shapes.specs.declared.shapes.Shape.TheVariants as shape
use Rattle.term_shapes.specs.Shapes.{op_of, args_of, types_of}
use Rattle.term_table.specs.World.{World, HasShape, AllKeep, Keeps, KeepsAll, IsTable}
use Rattle.term_table.specs.Checking.{HasSort}
use Rattle.term_table.proofs.Giving.{only_if_some}
use Rattle.term_orders.specs.Orders.{IsIn, IsVariable}
use Rattle.term_checks.specs.Formulas.{IsTruthShape}
use Rattle.term_checks.proofs.Kept.{kept_with_sort, kept_sorted}

-- the sort of truth values for each argument
abbrev pub all_boolean : List Term → List Sort
all_boolean ts = map (λ (t : Term). boolean) ts

no_form : (f : BvForm) (k : Sort) → typed_form f [] ≡ Some k → ⊥
no_form one k h = cc h
no_form two k h = cc h
no_form test k h = cc h
no_form some k h = cc h
no_form joined k h = cc h

-- a sort that is given is that of truth values
given : (b : Bool) (s : Sort) → only_if b s ≡ Some boolean → s ≡ boolean
given b s h = (only_if_some b s boolean h).1

no_real : (b : Bool) → only_if b real ≡ Some boolean → ⊥
no_real true h = cc h
no_real false h = cc h

no_vector : (b : Bool) (n : ℕ) → only_if b (bit_vector n) ≡ Some boolean → ⊥
no_vector true n h = cc h
no_vector false n h = cc h

-- an operator that takes truth values and gives one, and is no variable
truth_shape : (s : Shape) (k : Sort) → ((n : ℕ) (of : TypeId) → s ≡ shape.Var n of → ⊥) → typed (op_of s k) (all_boolean (args_of s)) ≡ Some boolean → IsTruthShape s
unfolding same_sort
truth_shape shape.True k v h = tt
truth_shape shape.False k v h = tt
truth_shape (shape.Const n of) k v h = tt
truth_shape (shape.Var n of) k v h = absurd (v n of refl)
truth_shape (shape.Number q) k v h = absurd (no_real (are [] []) h)
truth_shape (shape.Bits n a) k v h = absurd (no_vector (are [] [] && is_width n && nat_lt a (2 ^ n)) n h)
truth_shape (shape.Not t) k v h = tt
truth_shape (shape.And []) k v h = absurd (cc h)
truth_shape (shape.And (t ∷ ts)) k v h = omega arith
truth_shape (shape.Or []) k v h = absurd (cc h)
truth_shape (shape.Or (t ∷ ts)) k v h = omega arith
truth_shape (shape.Xor []) k v h = absurd (cc h)
truth_shape (shape.Xor (t ∷ ts)) k v h = omega arith
truth_shape (shape.Ite c t u) k v h = tt
truth_shape (shape.Eq t u) k v h = tt
truth_shape (shape.Distinct []) k v h = absurd (cc h)
truth_shape (shape.Distinct (t ∷ ts)) k v h = omega arith
truth_shape (shape.App f ts) k v h = absurd (cc h)
truth_shape (shape.Update f ts x) k v h = absurd (cc h)
truth_shape (shape.Sum ms q) k v h = absurd (no_real ((length (map (λ (m : Monomial). m.factor) ms) == length (all_boolean (map (λ (m : Monomial). m.of) ms))) && list_all (same_sort real) (all_boolean (map (λ (m : Monomial). m.of) ms))) h)
truth_shape (shape.NonNeg t) k v h = absurd (cc h)
truth_shape (shape.Bv op []) k v h = absurd (no_form (form_of op) boolean h)
truth_shape (shape.Bv op (t ∷ ts)) k v h = absurd (cc h)
truth_shape (shape.BvAt op i j t) k v h = absurd (cc h)

-- such a shape names no type but that of truth values
names_boolean : (w : World) (s : Shape) (k : Sort) → IsTruthShape s → typed (op_of s k) (all_boolean (args_of s)) ≡ Some boolean → AllKeep w (types_of s) k → AllKeep w (types_of s) boolean
names_boolean w shape.True k i h g = tt
names_boolean w shape.False k i h g = tt
names_boolean w (shape.Const n of) k i h g = subst (λ z. AllKeep w (of ∷ []) z) (given (are [] [] && is_sort k) k h) g
names_boolean w (shape.Var n of) k i h g = absurd i
names_boolean w (shape.Number q) k i h g = tt
names_boolean w (shape.Bits n a) k i h g = tt
names_boolean w (shape.Not t) k i h g = tt
names_boolean w (shape.And ts) k i h g = tt
names_boolean w (shape.Or ts) k i h g = tt
names_boolean w (shape.Xor ts) k i h g = tt
names_boolean w (shape.Ite c t u) k i h g = tt
names_boolean w (shape.Eq t u) k i h g = tt
names_boolean w (shape.Distinct ts) k i h g = tt
names_boolean w (shape.App f ts) k i h g = tt
names_boolean w (shape.Update f ts x) k i h g = tt
names_boolean w (shape.Sum ms q) k i h g = tt
names_boolean w (shape.NonNeg t) k i h g = tt
names_boolean w (shape.Bv op ts) k i h g = tt
names_boolean w (shape.BvAt op m n t) k i h g = tt

module _ (w : World) (table : IsTable w) where
  sorts_boolean : (ts : List Term) (trees : Trees) → KeepsAll w ts trees → ((u : Term) → IsIn ts u → HasSort w u boolean) → sorts_of trees ≡ Some (all_boolean ts)
  unfolding KeepsAll sorts_of
  sorts_boolean [] none h g = refl
  sorts_boolean [] (more a rest) h g = absurd h
  sorts_boolean (t ∷ ts) none h g = absurd h
  sorts_boolean (t ∷ ts) (more a rest) h g =
      let one = kept_sorted w table t a boolean h.0 (g t (record { place = 0; at = refl })) in
      let others = sorts_boolean ts rest h.1 (λ u i. g u (record { place = suc i.place; at = i.at })) in
      ap (λ o. both o (sorts_of rest)) one ∙ ap (both (Some boolean)) others

  shape_by : (t : Term) (s : Shape) (a : Tree) → HasShape w t s → Keeps w t a → sort_of a ≡ Some boolean → ((u : Term) → IsIn (args_of s) u → HasSort w u boolean)
      → (IsVariable w t → ⊥) → IsTruthShape s × AllKeep w (types_of s) boolean
  unfolding Keeps sort_of
  shape_by t s (node op args) has (r, k, had, names, is, kept) sort booleans closed =
      let e : r ≡ s = same_Some r s (sym had ∙ has) in
      let kept_here : KeepsAll w (args_of s) args = subst (λ z. KeepsAll w (args_of z) args) e kept in
      let names_here : AllKeep w (types_of s) k = subst (λ z. AllKeep w (types_of z) k) e names in
      let op_here : op_of s k ≡ op = ap (λ z. op_of z k) (sym e) ∙ is in
      let gives : typed (op_of s k) (all_boolean (args_of s)) ≡ Some boolean = ap (λ z. typed z (all_boolean (args_of s))) op_here ∙ ap (typed_over op) (sym (sorts_boolean (args_of s) args kept_here booleans)) ∙ sort in
      let truths = truth_shape s k (λ n of v. closed (record { number = n; of = of; has = has ∙ ap Some v })) gives in
      (truths, names_boolean w s k truths gives names_here)

  -- a truth value over truth values that is no variable has such a shape
  pub shape_of_truth : (t : Term) (s : Shape) → HasShape w t s → HasSort w t boolean → ((u : Term) → IsIn (args_of s) u → HasSort w u boolean)
      → (IsVariable w t → ⊥) → IsTruthShape s × AllKeep w (types_of s) boolean
  shape_of_truth t s has sort =
      let g = kept_with_sort w table t boolean sort in shape_by t s g.0 has g.1 g.2
