-- What the subterms of formulas and assumptions are: ready for nodes, or one of them has another sort.
use Rattle.std.proofs.Common.{◌≡◌, ◌++◌, ℕ, true, zero, suc, List, [], ◌∷◌, Option, Some, None, refl, ap, subst, inl, inr, ◌⊎◌, ⊎_elim, length, false, is_some}
use Rattle.std.specs.Prelude.{slice_get, IsSome, IfSome, IfNone}
use Rattle.std.specs.Option.{option_map}
use Rattle.y_tree.specs.Sorts.{Sort, boolean}
use Rattle.term_shapes.specs.declared.handles.Term.{Term}
use Rattle.term_shapes.specs.declared.handles.TypeId.{TypeId}
use Rattle.term_shapes.specs.declared.shapes.Node.{Node}
use Rattle.term_table.specs.World.{World, node_at, IsTable}
use Rattle.term_table.specs.Checking.{HasSort, AreLive}
use Rattle.term_orders.specs.Orders.{IsIn, IsOrder}
use Rattle.term_orders.proofs.Standing.{under_stands}
use Rattle.term_checks.specs.Listing.{AreOnce}
use Rattle.term_checks.specs.Formulas.{IsFormula, AreFormulas, HasOtherSort, AreBoolean, AreReady}

-- a term of two lists is in one of them
pub in_either : (xs ys : List Term) (t : Term) → IsIn (xs ++ ys) t → IsIn xs t ⊎ IsIn ys t
in_either [] ys t h = inr h
in_either (x ∷ xs) ys t h = by h.place h.at (λ i at. in_either xs ys t (record { place = i; at = at }))
  where
    by : (i : ℕ) → slice_get (x ∷ (xs ++ ys)) i ≡ Some t → ((j : ℕ) → slice_get (xs ++ ys) j ≡ Some t → IsIn xs t ⊎ IsIn ys t) → IsIn (x ∷ xs) t ⊎ IsIn ys t
    by zero at rest = inl (record { place = 0; at = at })
    by (suc i) at rest = ⊎_elim (λ k. inl (record { place = suc k.place; at = k.at })) inr (rest i at)

-- a term of the second list is one of both
in_behind : (xs ys : List Term) (i : ℕ) (t : Term) → slice_get ys i ≡ Some t → IsIn (xs ++ ys) t
in_behind [] ys i t at = record { place = i; at = at }
in_behind (x ∷ xs) ys i t at = let r = in_behind xs ys i t at in record { place = suc r.place; at = r.at }

-- each assumption stands in the order
pub once_there : (w : World) (formulas assumed once order : List Term) → IsOrder w (formulas ++ assumed) order → AreOnce assumed (length assumed) once → (t : Term) → IsIn once t → IsIn order t
once_there w formulas assumed once order is o t h =
    let r = o.only h.place t h.at in is.holds t (in_behind formulas assumed r.0 t r.2.at)

some_node : (o : Option Node) (of : TypeId) → option_map (λ (n : Node). n.of) o ≡ Some of → IsSome o
some_node None of h = absurd (cc h)
some_node (Some n) of h = refl

module _ (w : World) (formulas assumed : List Term) (held : AreFormulas w formulas) (supposed : AreFormulas w assumed) where
  formula_of : (t : Term) → IsIn (formulas ++ assumed) t → IsFormula w t
  formula_of t h = ⊎_elim (held t) (supposed t) (in_either formulas assumed t h)

  pub roots_live : AreLive w (formulas ++ assumed)
  roots_live i t at = let f = formula_of t (record { place = i; at = at }) in some_node (node_at w t) f.sort.0 f.sort.1

  pub ready_of : (order : List Term) → IsOrder w (formulas ++ assumed) order → ((i : ℕ) (t : Term) → slice_get order i ≡ Some t → HasSort w t boolean) → AreReady w order
  ready_of order is sorts = record {
    once = is.once;
    arguments = is.arguments;
    sorts = λ t h. sorts h.place t h.at;
    closed = λ t h v. let r = is.reached t h in (formula_of r.root r.listed).closed t r.below v;
  }

module _ (w : World) (roots order : List Term) (is : IsOrder w roots order) where
  pub boolean_of : ((i : ℕ) (t : Term) → slice_get order i ≡ Some t → HasSort w t boolean) → AreBoolean w roots
  boolean_of sorts t h = let there = under_stands w roots order is t h in sorts there.place t there.at

  module _ (table : IsTable w) where
    sort_of_live : (t : Term) (o : Option Node) → node_at w t ≡ o → IsSome o → (k : Sort) × HasSort w t k
    sort_of_live t None e h = absurd (cc h)
    sort_of_live t (Some n) e h = let r = table.grounded t n e in (r.1, (n.of, ap (option_map (λ (z : Node). z.of)) e, r.3))

    pub other_of : (t : Term) → IsIn order t → (HasSort w t boolean → ⊥) → HasOtherSort w roots
    other_of t h fails =
        let k = sort_of_live t (node_at w t) refl (is.live t h) in
        record { term = t; under = is.reached t h; sort = k.0; has = k.1; other = λ e. fails (subst (HasSort w t) e k.1) }

    pub other_found : (r : Option Term) → is_some r ≡ true → IfSome r (λ t. IsIn order t × (HasSort w t boolean → ⊥)) → HasOtherSort w roots
    other_found None e h = absurd (cc e)
    other_found (Some t) e h = other_of t h.0 h.1

pub none_found : (r : Option Term) (A : Type 0) → is_some r ≡ false → IfNone r A → A
none_found None A e h = h
none_found (Some t) A e h = absurd (cc e)
