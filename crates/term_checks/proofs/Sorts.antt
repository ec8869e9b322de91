-- Terms whose type is that of truth values, and formulas.
use Rattle.std.proofs.Common.{◌≡◌, ◌∙◌, ◌↔◌, ◌<◌, ◌+◌, ℕ, Bool, Option, Some, None, List, IsTrue, refl, sym, ap, subst, length, arith, is_none, get_or, ◌≤◌, ⊎_elim}
use Rattle.std.specs.Prelude.{slice_get, IfNone, IfSome}
use Rattle.std.specs.Option.{option_map}
use Rattle.std.proofs.lemmas.Option.{same_Some, slice_get_within, slice_get-get_or, get_or_from_slice_get}
use Rattle.std.proofs.lemmas.Bool.{cases_lt}
use Rattle.y_tree.specs.Sorts.{Sort, boolean}
use Rattle.term_shapes.specs.declared.handles.Term.{Term}
use Rattle.term_shapes.specs.declared.handles.TypeId.{TypeId}
use Rattle.term_shapes.specs.declared.shapes.TypeShape.TheVariants as type
use Rattle.term_shapes.specs.declared.shapes.Node.{Node}
use Rattle.term_table.specs.World.{World, type_at, shape_at, node_at, HasTypeShape, KeepsType}
use Rattle.term_table.specs.Checking.{HasSort}
use Rattle.term_orders.specs.Orders.{IsBelow, IsVariable}
use Rattle.term_checks.specs.Formulas.{IsFormula, AreFormulas}

pub sort_by : (w : World) (t : Term) (of : TypeId) (b : Bool) → type_at w t ≡ Some of → (IsTrue b ↔ HasTypeShape w of type.Bool) → IsTrue b ↔ HasSort w t boolean
unfolding KeepsType
sort_by w t of b e h = (
  λ y. (of, e, h.0 y),
  λ s. h.1 (subst (λ x. HasTypeShape w x type.Bool) (same_Some s.0 of (sym s.1 ∙ e)) s.2),
)

-- a formula is a truth value with no variable found below it
pub formula_by : (w : World) (t : Term) (found : Option Term) (b : Bool) → b ≡ is_none found → HasSort w t boolean
    → IfSome found (λ v. IsVariable w v) → IfSome found (λ v. IsBelow w v t) → IfNone found ((v : Term) → IsBelow w v t → IsVariable w v → ⊥) → IsTrue b ↔ IsFormula w t
formula_by w t None b e s v u n = (λ y. record { sort = s; closed = n }, λ f. subst IsTrue (sym e) refl)
formula_by w t (Some x) b e s v u n = (λ y. absurd (cc (sym e ∙ y)), λ f. absurd (f.closed x u v))

pub no_formula : (w : World) (t : Term) → (HasSort w t boolean → ⊥) → IsFormula w t → ⊥
no_formula w t h f = h f.sort

-- each of the first terms is a formula, and one more
pub formulas_more : (w : World) (ts : List Term) (i : ℕ) (d : Term) → i < length ts → ((j : ℕ) (t : Term) → j < i → slice_get ts j ≡ Some t → IsFormula w t) → IsFormula w (get_or ts i d)
    → (j : ℕ) (t : Term) → j < i + 1 → slice_get ts j ≡ Some t → IsFormula w t
formulas_more w ts i d small before here j t below at = ⊎_elim
    (λ h. before j t h at)
    (λ h. let same : j ≡ i = omega (arith, h, below) in subst (IsFormula w) (ap (λ z. get_or ts z d) (sym same) ∙ get_or_from_slice_get ts j t d at) here)
    (cases_lt j i)

pub formulas_all : (w : World) (ts : List Term) (i : ℕ) → length ts ≤ i → ((j : ℕ) (t : Term) → j < i → slice_get ts j ≡ Some t → IsFormula w t) → AreFormulas w ts
formulas_all w ts i done each t h = let far = slice_get_within ts h.place t h.at in each h.place t (omega (arith, far, done)) h.at

-- some term of the list is none
pub no_formulas : (w : World) (ts : List Term) (i : ℕ) (d : Term) → i < length ts → (IsFormula w (get_or ts i d) → ⊥) → AreFormulas w ts → ⊥
no_formulas w ts i d small none all = none (all (get_or ts i d) (record { place = i; at = slice_get-get_or ts i d small }))

-- a term without a shape has no sort
pub no_shape : (w : World) (t : Term) (k : Sort) → None ≡ shape_at w t → HasSort w t k → ⊥
no_shape w t k e h = by (node_at w t) e h.1
  where
    by : (o : Option Node) → None ≡ option_map (λ (n : Node). n.shape) o → option_map (λ (n : Node). n.of) o ≡ Some h.0 → ⊥
    by None e g = cc g
    by (Some n) e g = cc e
