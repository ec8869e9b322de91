-- Sums of products, and where one of their operations is too wide.
use Rattle.std.specs.Prelude.{◌≡◌, ◌⊎◌, ℕ, false, List, [], ◌∷◌, Some, map, slice_get, take}
use Rattle.rationals.specs.Rational.{ℚ, ◌*ℚ◌}
use Rattle.fraction128.specs.Exact.{fits, sum_fits}
use Rattle.fraction128.specs.declared.errors.Wide.{Wide}
use Rattle.fraction128.specs.declared.errors.Op.TheVariants as wide_op
use Rattle.y_tree.specs.Meaning.{number_of, add_all}
use Rattle.y_tree.specs.declared.values.Value as code
use Rattle.term_shapes.specs.declared.handles.Term.{Term}
use Rattle.term_shapes.specs.declared.lists.Monomial.{Monomial}
use Rattle.model_eval.specs.declared.errors.EvalError.{EvalError}
use Rattle.model_eval.specs.declared.errors.EvalError.TheVariants as eval_error
use Rattle.model_eval.specs.Known.{found}

-- the numbers of the terms
abbrev pub numbers : List (Term × code.Value) → List Monomial → List ℚ
numbers es ms = map (λ (m : Monomial). number_of (found es m.of)) ms

-- the parts of a sum: each factor times its term's value, in order, and the constant behind them
abbrev pub parts : List Monomial → ℚ → List ℚ → List ℚ
parts [] c qs = c ∷ []
parts (m ∷ ms) c [] = c ∷ []
parts (m ∷ ms) c (q ∷ qs) = m.factor *ℚ q ∷ parts ms c qs

-- the product of a factor and its term's value is too wide
pub record IsWideProduct (ms : List Monomial) (qs : List ℚ) (wide : Wide) : Type 0 where
  pub place : ℕ
  pub of : Monomial
  pub value : ℚ
  pub at : slice_get ms place ≡ Some of
  pub valued : slice_get qs place ≡ Some value
  pub is : wide ≡ record { op = wide_op.Mul; left = of.factor; right = value }
  pub past : fits (of.factor *ℚ value) ≡ false

-- the sum of the first parts and the next one is too wide
pub record IsWideSum (ms : List Monomial) (c : ℚ) (qs : List ℚ) (wide : Wide) : Type 0 where
  pub place : ℕ
  pub next : ℚ
  pub at : slice_get (parts ms c qs) place ≡ Some next
  pub is : wide ≡ record { op = wide_op.Add; left = add_all (take place (parts ms c qs)); right = next }
  pub past : sum_fits (add_all (take place (parts ms c qs))) next ≡ false

-- why a sum has no value: an operation is too wide
abbrev pub RefusesSum : List Monomial → ℚ → List ℚ → EvalError → Type 0
RefusesSum ms c qs (eval_error.Wide wide) = IsWideProduct ms qs wide ⊎ IsWideSum ms c qs wide
RefusesSum ms c qs _ = ⊥
