-- The step that takes the place of the infinitesimal, bound by bound.
use Rattle.std.proofs.Common.{◌≡◌, ◌≢◌, ℕ, zero, suc, ◌+◌, ◌<◌, Bool, true, false, cond, List, [], ◌∷◌, ◌++◌, ◌⊎◌, inl, inr, length, get_or, take, Option, Some, None, Result, Ok, Err, pos, refl, sym, ap, ◌∙◌, subst, arith}
use Rattle.std.specs.Prelude.{Contains, IfOk}
use Rattle.std.proofs.lemmas.List.{take_more}
use Rattle.std.proofs.lemmas.List.Elements.{Contains-append_cases, Contains-append_left, Contains-append_right}
use Rattle.rationals.specs.Rational.{ℚ, zero_ℚ, one_ℚ, ◌+ℚ◌, ◌*ℚ◌, ◌-ℚ◌, neg_ℚ, ◌<ℚ◌, ◌≤ℚ◌}
use Rattle.rationals.specs.Delta.{Delta, ◌≤Δ◌}
use Rattle.rationals.proofs.Ring.{var, con, ◌⊝◌, minus}
use Rattle.rationals.proofs.RingQ.{coef, ring-ℚ}
use Rattle.rationals.proofs.Linear.{◌≺◌}
use Rattle.rationals.proofs.OrderQ as O
use Rattle.rationals.proofs.OrderQ.{signs_ℚ}
use Rattle.rationals.proofs.Finder.{lin_le, lin_lt}
use Rattle.fraction128.specs.declared.infinitesimal.Delta.{Delta as Fractions}
use Rattle.fraction128.specs.declared.errors.Wide.{Wide}
use Rattle.simplex_logic.specs.Concretes.{Allows, at_step}
use Rattle.simplex_logic.proofs.Concrete.{quotient_positive, smaller_allows, within_quotient, any_allows}
use Rattle.simplex_table.specs.View.{delta_of, delta_at}
use Rattle.simplex_bounds.specs.declared.Bound.{Bound}
use Rattle.simplex_bounds.specs.Ranges.{OnSide, Holds}
use Rattle.simplex_core.specs.Concrete.{IsLargest, low_of, high_of, IsLeast, alone, is_other, is_step, low_at, high_at, IsStepOf, is_one, is_largest, IsCommonStep}

-- ---- differences
pub minus_zero : (a b : ℚ) → b ≡ zero_ℚ → a ≡ a -ℚ b
minus_zero a b e = sym (ap (λ z. a -ℚ z) e ∙ ring-ℚ (a ∷ []) (var 0 ⊝ con (coef (pos 0) 0)) (var 0) tt)

pub zero_minus : (a b n : ℚ) → a ≡ zero_ℚ → n ≡ neg_ℚ b → n ≡ a -ℚ b
zero_minus a b n e f = f ∙ sym (ap (λ z. z -ℚ b) e ∙ ring-ℚ (b ∷ []) (con (coef (pos 0) 0) ⊝ var 0) (minus (var 0)) tt)

pub apart_not_zero : (l u d : ℚ) → u <ℚ l → d ≡ l -ℚ u → d ≢ zero_ℚ
apart_not_zero l u d h e f = O.lt_irrefl zero_ℚ (subst (λ x. zero_ℚ <ℚ x) (sym e ∙ f) (O.sub_of_lt u l h))

-- ---- what an operation answers
pub ok_is : {A E : Type 0} (b : Bool) (r : Result A E) (x v : A) (w : E) → r ≡ cond b (Ok x) (Err w) → r ≡ Ok v → v ≡ x
ok_is true r x v w e f = let g = sym f ∙ e in cc
ok_is false r x v w e f = let g = sym f ∙ e in absurd (clash v w g)
  where
    clash : {A E : Type 0} (v : A) (w : E) → Ok v ≡ Err w → ⊥
    clash v w g = cc

pub concrete_sum : (b : Bool) (r : Result ℚ Wide) (e p : ℚ) (d : Delta) (w : Wide) → r ≡ cond b (Ok (d.real +ℚ p)) (Err w) → p ≡ e *ℚ d.inf → IfOk r (λ q. q ≡ at_step e d)
unfolding at_step
concrete_sum true r e p d w f g = subst (λ z. IfOk z (λ q. q ≡ d.real +ℚ e *ℚ d.inf)) (sym f) (ap (λ z. d.real +ℚ z) g)
concrete_sum false r e p d w f g = subst (λ z. IfOk z (λ q. q ≡ d.real +ℚ e *ℚ d.inf)) (sym f) tt

-- ---- the step
pub le_of_lt : (a b : ℚ) → a <ℚ b → a ≤ℚ b
le_of_lt a b h = lin_le signs_ℚ (a ∷ b ∷ []) (var 0) (var 1) ((var 0 ≺ var 1) ∷ []) tt (h, tt)

le_self : (a : ℚ) → a ≤ℚ a
le_self a = lin_le signs_ℚ (a ∷ []) (var 0) (var 0) [] tt tt

one_pos : zero_ℚ <ℚ one_ℚ
one_pos = lin_lt signs_ℚ [] (con (coef (pos 0) 0)) (con (coef (pos 1) 0)) [] tt tt

pub side_le : (u : Bool) (limit x : Delta) → OnSide u limit x → low_of u limit x ≤Δ high_of u limit x
side_le true limit x h = h
side_le false limit x h = h

pub first_step : (values : List Fractions) (e : ℚ) → e ≡ one_ℚ → IsCommonStep [] values e
first_step values e f = record {
  positive = subst (λ z. zero_ℚ <ℚ z) (sym f) one_pos;
  allowed = λ b i. absurd (nothing b i);
  of_bound = is_one f;
}
  where
    nothing : (b : Bound) → Contains [] b → ⊥
    nothing b (k, h, q) = omega arith

only_one : (b d : Bound) → Contains (b ∷ []) d → b ≡ d
only_one b d (zero, h, e) = e
only_one b d (suc k, h, e) = absurd (omega arith)

lower : (step e : ℚ) (other : Option ℚ) → IsLeast step other e → e ≤ℚ step
lower step e other (alone p f) = subst (λ z. z ≤ℚ step) (sym f) (le_self step)
lower step e other (is_other q p h f) = subst (λ z. z ≤ℚ step) (sym f) h
lower step e other (is_step q p h f) = subst (λ z. z ≤ℚ step) (sym f) (le_self step)

none_or : (step e q : ℚ) (other : Option ℚ) → IsLeast step other e → other ≡ Some q → e ≤ℚ q
none_or step e q other (alone p f) g = absurd (clash (sym p ∙ g))
  where
    clash : None ≡ Some q → ⊥
    clash k = cc
none_or step e q other (is_other r p h f) g = let same : r ≡ q = cc in subst (λ z. e ≤ℚ z) same (subst (λ z. z ≤ℚ r) (sym f) (le_self r))
none_or step e q other (is_step r p h f) g = let same : r ≡ q = cc in subst (λ z. e ≤ℚ z) same (subst (λ z. z ≤ℚ r) (sym f) h)

allowed_here : (e : ℚ) (l u : Delta) (other : Option ℚ) → IsLargest l u other → ((q : ℚ) → other ≡ Some q → e ≤ℚ q) → Allows e l u
allowed_here e l u None h f = any_allows e l u h
allowed_here e l u (Some q) h f = within_quotient e l u (subst (λ z. e ≤ℚ z) h.1 (f q refl))

module _ (old : List Bound) (b : Bound) (values : List Fractions) (step e : ℚ) (other : Option ℚ) (g : IsCommonStep old values step) (met : Holds (delta_at values) b) (large : IsLargest (low_at b values) (high_at b values) other)
    (small : IsLeast step other e) where
  pos_at : (l u : Delta) (q : ℚ) → l ≤Δ u → IsLargest l u (Some q) → zero_ℚ <ℚ q
  pos_at l u q h k = subst (λ z. zero_ℚ <ℚ z) (sym k.1) (quotient_positive l u h k.0)

  positive_by : IsLeast step other e → zero_ℚ <ℚ e
  positive_by (alone p f) = subst (λ z. zero_ℚ <ℚ z) (sym f) g.positive
  positive_by (is_other q p h f) =
      subst (λ z. zero_ℚ <ℚ z) (sym f)
      (pos_at (low_at b values) (high_at b values) q (side_le b.upper (delta_of b.value) (delta_at values b.variable) met) (subst (λ o. IsLargest (low_at b values) (high_at b values) o) p large))
  positive_by (is_step q p h f) = subst (λ z. zero_ℚ <ℚ z) (sym f) g.positive

  kept_step : e ≡ step → IsStepOf old values step → IsStepOf (old ++ b ∷ []) values e
  kept_step f (is_one h) = is_one (f ∙ h)
  kept_step f (is_largest d i h) = is_largest d (Contains-append_left old (b ∷ []) d i) (subst (λ z. IsLargest (low_at d values) (high_at d values) (Some z)) (sym f) h)

  step_by : IsLeast step other e → IsStepOf (old ++ b ∷ []) values e
  step_by (alone p f) = kept_step f g.of_bound
  step_by (is_other q p h f) =
      is_largest b (Contains-append_right old (b ∷ []) b (0, omega arith, refl))
      (subst (λ z. IsLargest (low_at b values) (high_at b values) (Some z)) (sym f) (subst (λ o. IsLargest (low_at b values) (high_at b values) o) p large))
  step_by (is_step q p h f) = kept_step f g.of_bound

  allowed_by : (d : Bound) → (Contains old d) ⊎ (Contains (b ∷ []) d) → Allows e (low_at d values) (high_at d values)
  allowed_by d (inl i) = smaller_allows step e (low_at d values) (high_at d values) (g.allowed d i) (lower step e other small)
  allowed_by d (inr i) = subst (λ (z : Bound). Allows e (low_at z values) (high_at z values)) (only_one b d i) (allowed_here e (low_at b values) (high_at b values) other large (λ q p. none_or step e q other small p))

  pub step_more : IsCommonStep (old ++ b ∷ []) values e
  step_more = record {
    positive = positive_by small;
    allowed = λ d i. allowed_by d (Contains-append_cases old (b ∷ []) d i);
    of_bound = step_by small;
  }

pub step_next : (i : ℕ) (bounds : List Bound) (b : Bound) (values : List Fractions) (d : Fractions) (step e : ℚ) (other : Option ℚ) → i < length bounds → b ≡ get_or bounds i b → delta_of d ≡ delta_at values b.variable
    → ((c : Bound) → Contains bounds c → Holds (delta_at values) c) → IsCommonStep (take i bounds) values step → IsLargest (low_of b.upper (delta_of b.value) (delta_of d)) (high_of b.upper (delta_of b.value) (delta_of d)) other → IsLeast step other e
    → IsCommonStep (take (i + 1) bounds) values e
step_next i bounds b values d step e other h f v m g l s =
    subst (λ bs. IsCommonStep bs values e) (ap (λ x. take i bounds ++ x ∷ []) f ∙ sym (take_more bounds i b h))
    (step_more (take i bounds) b values step e other g (m b (i, h, sym f)) (subst (λ z. IsLargest (low_of b.upper (delta_of b.value) z) (high_of b.upper (delta_of b.value) z) other) v l) s)
