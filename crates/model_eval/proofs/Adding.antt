-- Sums, part by part.
use Rattle.std.proofs.Common.{◌≡◌, ◌∙◌, ◌+◌, ◌<◌, ◌++◌, ◌⊎◌, inr, ℕ, zero, suc, Bool, true, false, List, [], ◌∷◌, Some, Result, Ok, Err, length, map, take, get_or, refl, sym, ap, subst, arith, add-one, if◌then◌else◌}
use Rattle.std.specs.Prelude.{slice_get, ◌==◌, ◌&&◌, pos, IfOk, IfErr}
use Rattle.std.specs.List.{list_all}
use Rattle.std.proofs.lemmas.List.{take_all}
use Rattle.std.proofs.lemmas.Option.{slice_get-get_or, same_Some}
use Rattle.std.proofs.lemmas.Bool.{and_parts}
use Rattle.rationals.specs.Rational.{ℚ, zero_ℚ, ◌+ℚ◌, ◌*ℚ◌}
use Rattle.rationals.proofs.Ring.{var, con, ◌⊕◌}
use Rattle.rationals.proofs.RingQ.{ring-ℚ, coef}
use Rattle.fraction128.specs.Exact.{fits, sum_fits}
use Rattle.fraction128.specs.declared.errors.Wide.{Wide}
use Rattle.fraction128.specs.declared.errors.Op.TheVariants as wide_op
use Rattle.y_tree.specs.Sorts.{Sort, real, same_sort}
use Rattle.y_tree.specs.Values.{Value, number, truth, bits, element, function, has_sort}
use Rattle.y_tree.specs.Meaning.{Assignment, add_all, linear_value, number_of}
use Rattle.y_tree.specs.declared.values.Value as code
use Rattle.y_tree.proofs.Sorted.{sort_same, only_if_parts}
use Rattle.term_shapes.specs.declared.handles.Term.{Term}
use Rattle.term_shapes.specs.declared.lists.Monomial.{Monomial}
use Rattle.term_shapes.specs.declared.shapes.Shape.{Shape}
use Rattle.term_shapes.specs.declared.shapes.Shape.TheVariants as shape
use Rattle.term_shapes.specs.Shapes.{args_of}
use Rattle.term_table.specs.World.{World, HasShape}
use Rattle.term_orders.specs.Orders.{IsIn}
use Rattle.model_eval.specs.Known.{found, AreKnown}
use Rattle.model_eval.specs.Sums.{numbers, parts, IsWideProduct, IsWideSum}
use Rattle.model_eval.specs.Evaluating.{IsReady, IsApplied, IsValueOf, IsEvaluated, IsWideShape, IsWideIn, AreNumbers}
use Rattle.model_eval.proofs.Made.{exact}
use Rattle.model_eval.proofs.Arms.{for}

abbrev factors : List Monomial → List ℚ
factors ms = map (λ (m : Monomial). m.factor) ms

plus_none : (q : ℚ) → q ≡ q +ℚ zero_ℚ
plus_none q = ring-ℚ (q ∷ []) (var 0) (var 0 ⊕ con (coef (pos 0) 0)) tt

none_plus : (q : ℚ) → q ≡ zero_ℚ +ℚ q
none_plus q = ring-ℚ (q ∷ []) (var 0) (con (coef (pos 0) 0) ⊕ var 0) tt

regroup : (p q r : ℚ) → p +ℚ (q +ℚ r) ≡ (p +ℚ q) +ℚ r
regroup p q r = ring-ℚ (p ∷ q ∷ r ∷ []) (var 0 ⊕ (var 1 ⊕ var 2)) ((var 0 ⊕ var 1) ⊕ var 2) tt

-- one number more
add_behind : (qs : List ℚ) (q : ℚ) → add_all (qs ++ q ∷ []) ≡ add_all qs +ℚ q
add_behind [] q = sym (plus_none q) ∙ none_plus q
add_behind (p ∷ qs) q = ap (λ z. p +ℚ z) (add_behind qs q) ∙ regroup p (add_all qs) q

-- the value of a sum is that of all its parts
pub sum_parts : (es : List (Term × code.Value)) (ms : List Monomial) (c : ℚ) → linear_value (map (λ (m : Monomial). m.factor) ms) c (numbers es ms) ≡ add_all (parts ms c (numbers es ms))
sum_parts es [] c = plus_none c
sum_parts es (m ∷ ms) c = ap (λ z. m.factor *ℚ number_of (found es m.of) +ℚ z) (sum_parts es ms c)

parts_length : (es : List (Term × code.Value)) (ms : List Monomial) (c : ℚ) → length (parts ms c (numbers es ms)) ≡ length ms + 1
parts_length es [] c = refl
parts_length es (m ∷ ms) c = omega (arith, parts_length es ms c)

product_at : (es : List (Term × code.Value)) (ms : List Monomial) (c : ℚ) (i : ℕ) (n : Monomial) → slice_get ms i ≡ Some n → slice_get (parts ms c (numbers es ms)) i ≡ Some (n.factor *ℚ number_of (found es n.of))
product_at es [] c i n at = absurd (cc at)
product_at es (m ∷ ms) c zero n at = ap (λ (z : Monomial). Some (z.factor *ℚ number_of (found es z.of))) (same_Some m n at)
product_at es (m ∷ ms) c (suc i) n at = product_at es ms c i n at

constant_at : (es : List (Term × code.Value)) (ms : List Monomial) (c : ℚ) → slice_get (parts ms c (numbers es ms)) (length ms) ≡ Some c
constant_at es [] c = refl
constant_at es (m ∷ ms) c = constant_at es ms c

number_there : (es : List (Term × code.Value)) (ms : List Monomial) (i : ℕ) (m : Monomial) → slice_get ms i ≡ Some m → slice_get (numbers es ms) i ≡ Some (number_of (found es m.of))
number_there es [] i m at = absurd (cc at)
number_there es (n ∷ ms) zero m at = ap (λ (z : Monomial). Some (number_of (found es z.of))) (same_Some n m at)
number_there es (n ∷ ms) (suc i) m at = number_there es ms i m at

next_part : (ps : List ℚ) (i : ℕ) (p : ℚ) → slice_get ps i ≡ Some p → add_all (take (suc i) ps) ≡ add_all (take i ps) +ℚ p
next_part [] i p at = absurd (cc at)
next_part (q ∷ ps) zero p at = sym (plus_none q) ∙ same_Some q p at ∙ none_plus p
next_part (q ∷ ps) (suc i) p at = ap (λ z. q +ℚ z) (next_part ps i p at) ∙ regroup q (add_all (take i ps)) p

-- the first parts and the next one
first_more : (ps : List ℚ) (i : ℕ) (p : ℚ) → slice_get ps i ≡ Some p → add_all (take (i + 1) ps) ≡ add_all (take i ps) +ℚ p
first_more ps i p at = ap (λ z. add_all (take z ps)) (add-one i) ∙ next_part ps i p at

module _ (es : List (Term × code.Value)) (ms : List Monomial) (c : ℚ) where
  abbrev all_parts : List ℚ
  all_parts = parts ms c (numbers es ms)

  module _ (i : ℕ) (d m : Monomial) (within : i < length ms) (taken : m ≡ get_or ms i d) (sum x : ℚ) (known : sum ≡ add_all (take i all_parts)) (is : x ≡ number_of (found es m.of)) where
    there : slice_get ms i ≡ Some m
    there = slice_get-get_or ms i d within ∙ ap Some (sym taken)

    pub sum_more : (part new : ℚ) → part ≡ m.factor *ℚ x → new ≡ sum +ℚ part → new ≡ add_all (take (i + 1) all_parts)
    sum_more part new p n =
        n ∙ ap (λ z. z +ℚ part) known ∙ ap (λ z. add_all (take i all_parts) +ℚ z) (p ∙ ap (λ z. m.factor *ℚ z) is)
        ∙ sym (first_more all_parts i (m.factor *ℚ number_of (found es m.of)) (product_at es ms c i m there))

    pub wide_product : (wide : Wide) → wide ≡ record { op = wide_op.Mul; left = m.factor; right = x } → fits (m.factor *ℚ x) ≡ false → IsWideProduct ms (numbers es ms) wide
    wide_product wide e past = record {
      place = i;
      of = m;
      value = x;
      at = there;
      valued = number_there es ms i m there ∙ ap Some (sym is);
      is = e;
      past = past;
    }

    pub wide_sum : (part : ℚ) (wide : Wide) → part ≡ m.factor *ℚ x → wide ≡ record { op = wide_op.Add; left = sum; right = part } → sum_fits sum part ≡ false → IsWideSum ms c (numbers es ms) wide
    wide_sum part wide p e past = record {
      place = i;
      next = part;
      at = product_at es ms c i m there ∙ ap Some (sym (p ∙ ap (λ z. m.factor *ℚ z) is));
      is = subst (λ z. let u : Wide = record { op = wide_op.Add; left = z; right = part } in wide ≡ u) known e;
      past = subst (λ z. sum_fits z part ≡ false) known past;
    }

  module _ (n : ℕ) (done : n ≡ length ms) (sum : ℚ) (known : sum ≡ add_all (take n all_parts)) where
    last_at : slice_get all_parts n ≡ Some c
    last_at = ap (slice_get all_parts) done ∙ constant_at es ms c

    pub sum_done : (q : ℚ) → q ≡ sum +ℚ c → q ≡ linear_value (map (λ (m : Monomial). m.factor) ms) c (numbers es ms)
    sum_done q e =
        e ∙ ap (λ z. z +ℚ c) known ∙ sym (first_more all_parts n c last_at)
        ∙ ap add_all (take_all (n + 1) all_parts (omega (arith, parts_length es ms c, done)))
        ∙ sym (sum_parts es ms c)

    pub wide_last : (wide : Wide) → wide ≡ record { op = wide_op.Add; left = sum; right = c } → sum_fits sum c ≡ false → IsWideSum ms c (numbers es ms) wide
    wide_last wide e past = record {
      place = n;
      next = c;
      at = last_at;
      is = subst (λ z. let u : Wide = record { op = wide_op.Add; left = z; right = c } in wide ≡ u) known e;
      past = subst (λ z. sum_fits z c ≡ false) known past;
    }

pub answered : (b : Bool) (v q : ℚ) (e : Wide) → Ok q ≡ (if b then Ok v else Err e) → q ≡ v
answered true v q e h = cc h
answered false v q e h = absurd (cc h)

pub refused_by : (b : Bool) (v : ℚ) (e f : Wide) → Err f ≡ (if b then Ok v else Err e) → (f ≡ e) × (b ≡ false)
refused_by true v e f h = absurd (cc h)
refused_by false v e f h = (cc h, refl)

-- the sum with its constant
module _ (es : List (Term × code.Value)) (ms : List Monomial) (c : ℚ) (n : ℕ) (done : n ≡ length ms) (sum : ℚ) (known : sum ≡ add_all (take n (parts ms c (numbers es ms)))) where
  pub last_ok : (r : Result ℚ Wide) → r ≡ (if sum_fits sum c then Ok (sum +ℚ c) else Err (record { op = wide_op.Add; left = sum; right = c })) → IfOk r (λ q. q ≡ linear_value (map (λ (m : Monomial). m.factor) ms) c (numbers es ms))
  last_ok (Ok q) h = sum_done es ms c n done sum known q (answered _ _ q _ h)
  last_ok (Err e) h = tt

  pub last_err : (r : Result ℚ Wide) → r ≡ (if sum_fits sum c then Ok (sum +ℚ c) else Err (record { op = wide_op.Add; left = sum; right = c })) → IfErr r (λ wide. IsWideProduct ms (numbers es ms) wide ⊎ IsWideSum ms c (numbers es ms) wide)
  last_err (Ok q) h = tt
  last_err (Err e) h = let p = refused_by _ _ _ e h in inr (wide_last es ms c n done sum known e p.0 p.1)

numbers_are : (es : List (Term × code.Value)) (ms : List Monomial) → numbers es ms ≡ map number_of (map (found es) (map (λ (m : Monomial). m.of) ms))
numbers_are es [] = refl
numbers_are es (m ∷ ms) = ap (λ z. number_of (found es m.of) ∷ z) (numbers_are es ms)

-- the value of a sum
pub sum_made : (w : World) (a : Assignment) (es : List (Term × code.Value)) (s : Shape) (ms : List Monomial) (c q : ℚ) → s ≡ shape.Sum ms c → q ≡ linear_value (map (λ (m : Monomial). m.factor) ms) c (numbers es ms) → IsApplied w a es s (number q)
sum_made w a es s ms c q e h = for w a es s (shape.Sum ms c) (number q) e (exact w a es (shape.Sum ms c) (number q) (λ r. refl)
    (λ r. ap number (h ∙ ap (linear_value (map (λ (m : Monomial). m.factor) ms) c) (numbers_are es ms))))

-- a real is its number
real_is : (v : Value) → has_sort v real ≡ true → v ≡ number (number_of v)
unfolding has_sort
real_is (number q) h = refl
real_is (truth b) h = absurd (cc h)
real_is (bits n k) h = absurd (cc h)
real_is (element n k) h = absurd (cc h)
real_is (function fs v) h = absurd (cc h)

reals_at : (es : List (Term × code.Value)) (ms : List Monomial) (ks : List Sort) → AreKnown es (map (λ (m : Monomial). m.of) ms) ks → list_all (same_sort real) ks ≡ true → (i : ℕ) (m : Monomial) → slice_get ms i ≡ Some m → has_sort (found es m.of) real ≡ true
reals_at es [] ks known all i m at = absurd (cc at)
reals_at es (n ∷ ms) [] known all i m at = absurd known
reals_at es (n ∷ ms) (k ∷ ks) known all zero m at =
    let same : real ≡ k = sort_same real k (and_parts (same_sort real k) (list_all (same_sort real) ks) all).0 in
    subst (λ (z : Monomial). has_sort (found es z.of) real ≡ true) (same_Some n m at) (subst (λ z. has_sort (found es n.of) z ≡ true) (sym same) known.0.has)
reals_at es (n ∷ ms) (k ∷ ks) known all (suc i) m at = reals_at es ms ks known.1 (and_parts (same_sort real k) (list_all (same_sort real) ks) all).1 i m at

of_at : (ms : List Monomial) (i : ℕ) (m : Monomial) → slice_get ms i ≡ Some m → slice_get (map (λ (z : Monomial). z.of) ms) i ≡ Some m.of
of_at [] i m at = absurd (cc at)
of_at (n ∷ ms) zero m at = ap (λ (z : Monomial). Some z.of) (same_Some n m at)
of_at (n ∷ ms) (suc i) m at = of_at ms i m at

module _ (w : World) (a : Assignment) (es : List (Term × code.Value)) (t : Term) (s : Shape) (has : HasShape w t s) (each : (u : Term) → IsIn (args_of s) u → IsEvaluated w a es u) (r : IsReady w es s) where
  valued : (ms : List Monomial) (c : ℚ) → s ≡ shape.Sum ms c → AreNumbers w a ms (numbers es ms)
  valued ms c e i m at =
      let q = subst (IsReady w es) e r in
      let parts_of = only_if_parts ((length (factors ms) == length q.sorts) && list_all (same_sort real) q.sorts) real q.result q.takes in
      let all : list_all (same_sort real) q.sorts ≡ true = (and_parts (length (factors ms) == length q.sorts) (list_all (same_sort real) q.sorts) parts_of.0).1 in
      let is_real : has_sort (found es m.of) real ≡ true = reals_at es ms q.sorts q.known all i m at in
      let there : IsIn (args_of s) m.of = subst (λ z. IsIn (args_of z) m.of) (sym e) (record { place = i; at = of_at ms i m at }) in
      (number_of (found es m.of), number_there es ms i m at, subst (IsValueOf w a m.of) (real_is (found es m.of) is_real) (each m.of there).of)

  -- what is too wide in a shape is too wide in its term
  pub wide_here : (wide : Wide) → IsWideShape es s wide → IsWideIn w a t wide
  wide_here wide h = record {
    monomials = h.monomials;
    constant = h.constant;
    has = has ∙ ap Some h.is;
    values = numbers es h.monomials;
    valued = valued h.monomials h.constant h.is;
    operation = h.operation;
  }
