-- The step that makes the infinitesimal concrete: found bound by bound, and what its parts are.
use Rattle.std.proofs.Common.{◌≡◌, ◌≢◌, ℕ, zero, suc, ◌<◌, List, [], ◌∷◌, length, take, inl, inr, pos, sym, ap, ◌∙◌, subst, arith}
use Rattle.rationals.specs.Rational.{ℚ, zero_ℚ, ◌+ℚ◌, ◌*ℚ◌, ◌-ℚ◌, inv_ℚ, ◌≤ℚ◌, ◌<ℚ◌}
use Rattle.rationals.proofs.Ring.{var, con, ◌⊗◌, ◌⊕◌, ◌⊝◌}
use Rattle.rationals.proofs.RingQ as Q
use Rattle.rationals.proofs.RingQ.{coef, ring-ℚ}
use Rattle.rationals.proofs.FieldQ.{mul-inv}
use Rattle.rationals.proofs.Linear.{◌≼◌, ◌≺◌, ◌≈◌}
use Rattle.rationals.proofs.OrderQ as O
use Rattle.rationals.proofs.OrderQ.{signs_ℚ}
use Rattle.rationals.proofs.Finder.{lin_false, lin_le}
use Rattle.rationals.specs.Delta.{Delta, ◌≤Δ◌}
use Rattle.simplex_logic.specs.Concretes.{Allows, quotient, at_step}
use Rattle.simplex_logic.specs.Vectors.{dot, at}

-- ---- sums over the columns, one more at a time
pub dot-take : (xs ys : List ℚ) (k : ℕ) → k < length xs → k < length ys → dot (take (suc k) xs) ys ≡ dot (take k xs) ys +ℚ at xs k *ℚ at ys k
dot-take [] ys k h l = absurd (omega arith)
dot-take (x ∷ xs) [] k h l = absurd (omega arith)
dot-take (x ∷ xs) (y ∷ ys) zero h l = Q.add_comm (x *ℚ y) zero_ℚ
dot-take (x ∷ xs) (y ∷ ys) (suc k) h l = ap (λ v. x *ℚ y +ℚ v) (dot-take xs ys k (omega arith) (omega arith)) ∙ sym (Q.add_assoc (x *ℚ y) (dot (take k xs) ys) (at xs k *ℚ at ys k))

-- ---- a step that is allowed
step_le : (e a b c d : ℚ) → a ≤ℚ c → b ≤ℚ d → zero_ℚ ≤ℚ e → (a +ℚ e *ℚ b) ≤ℚ (c +ℚ e *ℚ d)
step_le e a b c d h k p =
    let m : zero_ℚ ≤ℚ e *ℚ (d -ℚ b) = O.mul_le e (d -ℚ b) p (O.sub_of_le b d k) in
    lin_le signs_ℚ (e ∷ a ∷ b ∷ c ∷ d ∷ []) (var 1 ⊕ var 0 ⊗ var 2) (var 3 ⊕ var 0 ⊗ var 4)
    ((var 1 ≼ var 3) ∷ (con (coef (pos 0) 0) ≼ var 0 ⊗ (var 4 ⊝ var 2)) ∷ []) tt (h, (m, tt))

step_across : (e a b c d : ℚ) → (e *ℚ (b -ℚ d)) ≤ℚ (c -ℚ a) → (a +ℚ e *ℚ b) ≤ℚ (c +ℚ e *ℚ d)
step_across e a b c d h =
    lin_le signs_ℚ (e ∷ a ∷ b ∷ c ∷ d ∷ []) (var 1 ⊕ var 0 ⊗ var 2) (var 3 ⊕ var 0 ⊗ var 4)
    ((var 0 ⊗ (var 2 ⊝ var 4) ≼ var 3 ⊝ var 1) ∷ []) tt (h, tt)

le_of_lt : (a b : ℚ) → a <ℚ b → a ≤ℚ b
le_of_lt a b h = lin_le signs_ℚ (a ∷ b ∷ []) (var 0) (var 1) ((var 0 ≺ var 1) ∷ []) tt (h, tt)

pub concrete_le : (e : ℚ) (l u : Delta) → zero_ℚ ≤ℚ e → Allows e l u → l ≤Δ u → at_step e l ≤ℚ at_step e u
unfolding at_step
concrete_le e l u p a h =
    elim (O.either l.inf u.inf) [
      | inr k ↦ step_across e l.real l.inf u.real u.inf (a.allows k)
      | inl k ↦ elim h.le [
        | inl r ↦ step_le e l.real l.inf u.real u.inf (le_of_lt l.real u.real r) k p
        | inr r ↦ step_le e l.real l.inf u.real u.inf (subst (λ x. l.real ≤ℚ x) r.0 (le_self l.real)) k p
      ]
    ]
  where
    le_self : (x : ℚ) → x ≤ℚ x
    le_self x = lin_le signs_ℚ (x ∷ []) (var 0) (var 0) [] tt tt

-- a step that is at most the quotient is allowed
pub quotient_allows : (e q : ℚ) (l u : Delta) → (u.inf <ℚ l.inf → q *ℚ (l.inf -ℚ u.inf) ≡ u.real -ℚ l.real) → e ≤ℚ q → Allows e l u
quotient_allows e q l u h k = record {
  allows = λ s.
      let m : zero_ℚ ≤ℚ (q -ℚ e) *ℚ (l.inf -ℚ u.inf) = O.mul_le (q -ℚ e) (l.inf -ℚ u.inf) (O.sub_of_le e q k) (O.le_of_lt (l.inf -ℚ u.inf) (O.sub_of_lt u.inf l.inf s)) in
      lin_le signs_ℚ (e ∷ q ∷ l.real ∷ l.inf ∷ u.real ∷ u.inf ∷ []) (var 0 ⊗ (var 3 ⊝ var 5)) (var 4 ⊝ var 2)
      ((con (coef (pos 0) 0) ≼ (var 1 ⊝ var 0) ⊗ (var 3 ⊝ var 5)) ∷ (var 1 ⊗ (var 3 ⊝ var 5) ≈ var 4 ⊝ var 2) ∷ []) tt (m, (h s, tt));
}

-- ---- the step
not_zero : (d : ℚ) → zero_ℚ <ℚ d → d ≢ zero_ℚ
not_zero d h e = O.lt_irrefl zero_ℚ (subst (λ x. zero_ℚ <ℚ x) e h)

quotient_is : (a d : ℚ) → zero_ℚ <ℚ d → (a *ℚ inv_ℚ d) *ℚ d ≡ a
quotient_is a d h = Q.mul_assoc a (inv_ℚ d) d ∙ ap (λ x. a *ℚ x) (Q.mul_comm_ℚ (inv_ℚ d) d ∙ mul-inv d (not_zero d h)) ∙ Q.mul-one a

pub inv_positive : (d : ℚ) → zero_ℚ <ℚ d → zero_ℚ <ℚ inv_ℚ d
inv_positive d h = elim (O.either (inv_ℚ d) zero_ℚ) [
  | inr p ↦ p
  | inl n ↦ absurd (
      let m : zero_ℚ ≤ℚ d *ℚ (zero_ℚ -ℚ inv_ℚ d) = O.mul_le d (zero_ℚ -ℚ inv_ℚ d) (O.le_of_lt d h) (O.sub_of_le (inv_ℚ d) zero_ℚ n) in
      lin_false signs_ℚ (d ∷ inv_ℚ d ∷ []) ((con (coef (pos 0) 0) ≼ var 0 ⊗ (con (coef (pos 0) 0) ⊝ var 1)) ∷ (var 0 ⊗ var 1 ≈ con (coef (pos 1) 0)) ∷ []) tt (m, (mul-inv d (not_zero d h), tt)))
]

-- with l ≤ u, where the infinitesimal parts stand the other way the real parts are apart
pub real_apart : (l u : Delta) → l ≤Δ u → u.inf <ℚ l.inf → l.real <ℚ u.real
real_apart l u h k = elim h.le [
  | inl p ↦ p
  | inr p ↦ absurd (lin_false signs_ℚ (l.inf ∷ u.inf ∷ []) ((var 1 ≺ var 0) ∷ (var 0 ≼ var 1) ∷ []) tt (k, (p.1, tt)))
]

pub quotient_positive : (l u : Delta) → l ≤Δ u → u.inf <ℚ l.inf → zero_ℚ <ℚ quotient l u
quotient_positive l u h k = O.mul_lt (u.real -ℚ l.real) (inv_ℚ (l.inf -ℚ u.inf)) (O.sub_of_lt l.real u.real (real_apart l u h k)) (inv_positive (l.inf -ℚ u.inf) (O.sub_of_lt u.inf l.inf k))

-- a smaller step is allowed too
pub smaller_allows : (e f : ℚ) (l u : Delta) → Allows e l u → f ≤ℚ e → Allows f l u
smaller_allows e f l u a h = record {
  allows = λ s.
      let m : zero_ℚ ≤ℚ (e -ℚ f) *ℚ (l.inf -ℚ u.inf) = O.mul_le (e -ℚ f) (l.inf -ℚ u.inf) (O.sub_of_le f e h) (O.le_of_lt (l.inf -ℚ u.inf) (O.sub_of_lt u.inf l.inf s)) in
      lin_le signs_ℚ (e ∷ f ∷ l.real ∷ l.inf ∷ u.real ∷ u.inf ∷ []) (var 1 ⊗ (var 3 ⊝ var 5)) (var 4 ⊝ var 2)
      ((con (coef (pos 0) 0) ≼ (var 0 ⊝ var 1) ⊗ (var 3 ⊝ var 5)) ∷ (var 0 ⊗ (var 3 ⊝ var 5) ≼ var 4 ⊝ var 2) ∷ []) tt (m, (a.allows s, tt));
}

-- and one that is at most the quotient is
pub within_quotient : (e : ℚ) (l u : Delta) → e ≤ℚ quotient l u → Allows e l u
within_quotient e l u h = quotient_allows e (quotient l u) l u (λ s. quotient_is (u.real -ℚ l.real) (l.inf -ℚ u.inf) (O.sub_of_lt u.inf l.inf s)) h

-- where the infinitesimal parts stand right, any step is
pub any_allows : (e : ℚ) (l u : Delta) → l.inf ≤ℚ u.inf → Allows e l u
any_allows e l u h = record { allows = λ s. absurd (lin_false signs_ℚ (l.inf ∷ u.inf ∷ []) ((var 1 ≺ var 0) ∷ (var 0 ≼ var 1) ∷ []) tt (s, (h, tt))) }
