-- Values of terms, as they are looked up.
use Rattle.std.specs.Prelude.{◌≡◌, ◌==◌, ◌&&◌, Bool, true, false, List, [], ◌∷◌, Option, Some, None, IsSome}
use Rattle.std.specs.Map.{lookup}
use Rattle.y_tree.specs.Sorts.{Sort}
use Rattle.y_tree.specs.Values.{Value, truth, has_sort}
use Rattle.y_tree.specs.Order.{is_formed}
use Rattle.y_tree.specs.Plain.{plain_value}
use Rattle.y_tree.specs.declared.values.Value as code
use Rattle.term_shapes.specs.declared.handles.Term.{Term}
use Rattle.term_orders.specs.Orders.{IsIn}

-- the handles are one
abbrev pub same_term : Term → Term → Bool
same_term t u = (t.slot == u.slot) && (t.stamp == u.stamp)

-- what was found, and false where nothing was
abbrev pub or_false : Option code.Value → Value
or_false None = truth false
or_false (Some v) = plain_value v

-- the value of the term
unfoldable pub found : List (Term × code.Value) → Term → Value
found es t = or_false (lookup (same_term t) es)

-- the term got that value, and all others have theirs
pub record Enters (es : List (Term × code.Value)) (t : Term) (v : code.Value) (fs : List (Term × code.Value)) : Type 0 where
  pub here : lookup (same_term t) fs ≡ Some v
  pub others : (u : Term) → same_term t u ≡ false → lookup (same_term u) fs ≡ lookup (same_term u) es

-- the term has a value of that sort
pub record IsKnown (es : List (Term × code.Value)) (t : Term) (k : Sort) : Type 0 where
  pub there : IsSome (lookup (same_term t) es)
  pub has : has_sort (found es t) k ≡ true
  pub formed : is_formed (found es t) ≡ true

-- the terms have values of these sorts, in order
abbrev pub AreKnown : List (Term × code.Value) → List Term → List Sort → Type 0
AreKnown es [] [] = Unit {0}
AreKnown es (t ∷ ts) (k ∷ ks) = IsKnown es t k × AreKnown es ts ks
AreKnown es [] (k ∷ ks) = ⊥
AreKnown es (t ∷ ts) [] = ⊥

-- each of the terms has a value of that sort
abbrev pub AllKnown : List (Term × code.Value) → List Term → Sort → Type 0
AllKnown es ts k = (t : Term) → IsIn ts t → IsKnown es t k
