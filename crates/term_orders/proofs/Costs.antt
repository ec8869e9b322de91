-- What a walk has left to look at, counted as if no subterm were shared.
use Rattle.std.proofs.Common.{◌≡◌, ◌∙◌, ◌+◌, ◌<◌, ℕ, List, [], ◌∷◌, ◌++◌, Some, zero, suc, refl, sym, ap, inl, inr, arith, add-one, reverse}
use Rattle.std.specs.Prelude.{slice_get}
use Rattle.std.proofs.lemmas.List.{reverse-append}
use Rattle.std.proofs.lemmas.Option.{same_Some}
use mathlib.Core.WellFounded.{Acc, Acc-prop}
use Rattle.term_shapes.specs.declared.handles.Term.{Term}
use Rattle.term_table.specs.World.{World}
use Rattle.term_orders.specs.declared.walk.Frame.{Frame}
use Rattle.term_orders.specs.Orders.{IsArgument}
use Rattle.term_orders.specs.Ending.{Ends}
use Rattle.term_orders.specs.Walk.{args_at, behind, fresh, Places, Skips, Enters, Advances, IsNext}
use Rattle.term_orders.proofs.Arguments.{argument_at}

-- the sum over a list whose items' values may depend on where they stand
totals : (us : List Term) → ((i : ℕ) (u : Term) → slice_get us i ≡ Some u → ℕ) → ℕ
totals [] f = 0
totals (u ∷ us) f = f zero u refl + totals us (λ i v at. f (suc i) v at)

-- the sum over a list from a place on
pub from_place : (Term → ℕ) → ℕ → List Term → ℕ
from_place C i [] = 0
from_place C zero (u ∷ us) = C u + from_place C zero us
from_place C (suc i) (u ∷ us) = from_place C i us

module _ (w : World) where
  -- two for the term, and what its arguments cost
  cost : (t : Term) → Acc (IsArgument w) t → ℕ
  cost t (Acc.intro x next) = totals (args_at w x) (λ i u at. cost u (next u (argument_at w x u i at))) + 2

  module _ (ends : Ends w) where
    pub cost_of : Term → ℕ
    cost_of t = cost t (ends t)

    pub left_at : Frame → ℕ
    left_at f = from_place cost_of f.next (args_at w f.term) + 1

    pub load : List Frame → ℕ
    load [] = 0
    load (f ∷ fs) = left_at f + load fs

    -- what the stack has left, where the top stands last
    pub left_on : List Frame → ℕ
    left_on stack = load (reverse stack)

    totals_are : (us : List Term) (f : (i : ℕ) (u : Term) → slice_get us i ≡ Some u → ℕ) → ((i : ℕ) (u : Term) (at : slice_get us i ≡ Some u) → f i u at ≡ cost_of u) → totals us f ≡ from_place cost_of zero us
    unfolding totals from_place
    totals_are [] f h = refl
    totals_are (u ∷ us) f h =
        let first = h zero u refl in
        let rest = totals_are us (λ i v at. f (suc i) v at) (λ i v at. h (suc i) v at) in
        omega (arith, first, rest)

    cost_by : (t : Term) (a : Acc (IsArgument w) t) → cost t a ≡ from_place cost_of zero (args_at w t) + 2
    unfolding cost cost_of
    cost_by t (Acc.intro x next) =
        ap (λ n. n + 2) (totals_are (args_at w x) (λ i u at. cost u (next u (argument_at w x u i at))) (λ i u at. ap (cost u) (Acc-prop (next u (argument_at w x u i at)) (ends u))))

    cost_is : (t : Term) → cost_of t ≡ from_place cost_of zero (args_at w t) + 2
    unfolding cost_of
    cost_is t = cost_by t (ends t)

    next_is : (us : List Term) (i : ℕ) (u : Term) → slice_get us i ≡ Some u → from_place cost_of i us ≡ cost_of u + from_place cost_of (suc i) us
    unfolding from_place
    next_is [] i u at = absurd (cc at)
    next_is (v ∷ us) zero u at = ap (λ z. cost_of z + from_place cost_of zero us) (same_Some v u at)
    next_is (v ∷ us) (suc i) u at = next_is us i u at

    behind_is : (f : Frame) (u : Term) → IsNext w f u → left_at f ≡ cost_of u + left_at (behind f)
    unfolding left_at
    behind_is f u next =
        let e = next_is (args_at w f.term) f.next u next in
        let s = ap (λ i. from_place cost_of i (args_at w f.term)) (add-one f.next) in
        omega (arith, e, s)

    fresh_is : (u : Term) → left_at (fresh u) + 1 ≡ cost_of u
    unfolding left_at
    fresh_is u = omega (arith, cost_is u)

    push_left : (stack : List Frame) (f : Frame) → left_on (stack ++ f ∷ []) ≡ left_at f + left_on stack
    unfolding left_on load
    push_left stack f = ap load (reverse-append stack (f ∷ []))

    left_some : (f : Frame) → 0 < left_at f
    unfolding left_at
    left_some f = omega arith

    less_left : (f : Frame) (stack new : List Frame) (ts us : List Term) → Advances w f stack new ts us → left_on new < left_on (stack ++ f ∷ [])
    less_left f stack new ts us (inl p) =
        omega (arith, push_left stack f, left_some f, ap left_on p.stack_stays)
    less_left f stack new ts us (inr (inl s)) =
        let e = ap left_on s.stack_behind ∙ push_left stack (behind f) in
        omega (arith, push_left stack f, e, behind_is f s.of s.next, fresh_is s.of)
    less_left f stack new ts us (inr (inr s)) =
        let e = ap left_on s.stack_above ∙ push_left (stack ++ behind f ∷ []) (fresh s.of) in
        omega (arith, push_left stack f, e, push_left stack (behind f), behind_is f s.of s.next, fresh_is s.of)

    -- the same, where the frame was taken off
    pub less_after : (f : Frame) (old stack new : List Frame) (ts us : List Term) → old ≡ stack ++ f ∷ [] → Advances w f stack new ts us → left_on new < left_on old
    less_after f old stack new ts us e a = rw e (less_left f stack new ts us a)
