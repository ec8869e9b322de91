-- Lists of live terms, and of formulas; the formulas of levels.
use Rattle.std.proofs.Common.{◌≡◌, ◌∙◌, ℕ, zero, suc, List, [], ◌∷◌, ◌++◌, Some, refl, sym, ap, subst, append_assoc, append-nil}
use Rattle.std.specs.Prelude.{slice_get, IsSome}
use Rattle.std.proofs.lemmas.Option.{same_Some}
use Rattle.term_shapes.specs.declared.handles.Term.{Term}
use Rattle.term_table.specs.World.{World, node_at}
use Rattle.term_table.specs.Checking.{AreLive}
use Rattle.term_orders.specs.Orders.{IsIn}
use Rattle.term_checks.specs.Formulas.{IsFormula, AreFormulas}
use Rattle.context_stack.specs.Levels.{formulas}

module _ (w : World) where
  pub live_append : (xs ys : List Term) → AreLive w xs → AreLive w ys → AreLive w (xs ++ ys)
  live_append [] ys h k i t at = k i t at
  live_append (x ∷ xs) ys h k zero t at = h zero t at
  live_append (x ∷ xs) ys h k (suc i) t at = live_append xs ys (λ j. h (suc j)) k i t at

  pub live_front : (xs ys : List Term) → AreLive w (xs ++ ys) → AreLive w xs
  live_front [] ys h i t at = absurd (cc at)
  live_front (x ∷ xs) ys h zero t at = h zero t at
  live_front (x ∷ xs) ys h (suc i) t at = live_front xs ys (λ j. h (suc j)) i t at

  pub live_back : (xs ys : List Term) → AreLive w (xs ++ ys) → AreLive w ys
  live_back [] ys h = h
  live_back (x ∷ xs) ys h = live_back xs ys (λ j. h (suc j))

  pub live_none : AreLive w []
  live_none i t at = absurd (cc at)

  pub live_alone : (t : Term) → IsSome (node_at w t) → AreLive w (t ∷ [])
  live_alone t h zero u at = subst (λ v. IsSome (node_at w v)) (same_Some t u at) h
  live_alone t h (suc i) u at = absurd (cc at)

-- an item of the front, and one of the back
pub in_front : {X : Type 0} (xs ys : List X) (i : ℕ) (x : X) → slice_get xs i ≡ Some x → slice_get (xs ++ ys) i ≡ Some x
in_front [] ys i x at = absurd (cc at)
in_front (y ∷ xs) ys zero x at = at
in_front (y ∷ xs) ys (suc i) x at = in_front xs ys i x at

pub in_back : {X : Type 0} (xs ys : List X) (i : ℕ) (x : X) → slice_get ys i ≡ Some x → (j : ℕ) × (slice_get (xs ++ ys) j ≡ Some x)
in_back [] ys i x at = (i, at)
in_back (y ∷ xs) ys i x at = let r = in_back xs ys i x at in (suc r.0, r.1)

-- formulas of the front and of the back are formulas of all
module _ (w : World) where
  pub formulas_none : AreFormulas w []
  formulas_none t here = absurd (cc here.at)

  pub formulas_alone : (t : Term) → IsFormula w t → AreFormulas w (t ∷ [])
  formulas_alone t h u here = by here.place here.at
    where
      by : (i : ℕ) → slice_get (t ∷ []) i ≡ Some u → IsFormula w u
      by zero at = subst (IsFormula w) (same_Some t u at) h
      by (suc i) at = absurd (cc at)

  pub formulas_both : (xs ys : List Term) → AreFormulas w xs → AreFormulas w ys → AreFormulas w (xs ++ ys)
  formulas_both [] ys h k u here = k u here
  formulas_both (x ∷ xs) ys h k u here = by (formulas_both xs ys (λ t there. h t (record { place = suc there.place; at = there.at })) k) here.place here.at
    where
      by : AreFormulas w (xs ++ ys) → (i : ℕ) → slice_get ((x ∷ xs) ++ ys) i ≡ Some u → IsFormula w u
      by rest zero at = h u (record { place = 0; at = at })
      by rest (suc i) at = rest u (record { place = i; at = at })

  pub formulas_front : (xs ys : List Term) → AreFormulas w (xs ++ ys) → AreFormulas w xs
  formulas_front xs ys h t here = h t (record { place = here.place; at = in_front xs ys here.place t here.at })

  pub formulas_back : (xs ys : List Term) → AreFormulas w (xs ++ ys) → AreFormulas w ys
  formulas_back xs ys h t here = let r = in_back xs ys here.place t here.at in h t (record { place = r.0; at = r.1 })

pub formulas_append : (ls ms : List (List Term)) → formulas (ls ++ ms) ≡ formulas ls ++ formulas ms
formulas_append [] ms = refl
formulas_append (ts ∷ ls) ms = ap (λ z. ts ++ z) (formulas_append ls ms) ∙ sym (append_assoc ts (formulas ls) (formulas ms))

pub formulas_last : (ls : List (List Term)) (ts : List Term) → formulas (ls ++ ts ∷ []) ≡ formulas ls ++ ts
formulas_last ls ts = formulas_append ls (ts ∷ []) ∙ ap (λ z. formulas ls ++ z) (append-nil ts)
