-- How many arguments the operator of a shape takes.
use Rattle.std.proofs.Common.{◌≡◌, ◌∙◌, ◌+◌, ◌==◌, ◌++◌, ℕ, Bool, true, false, List, [], ◌∷◌, length, map, refl, sym, ap, subst, arith}
use Rattle.std.specs.Prelude.{nat_le}
use Rattle.std.proofs.lemmas.Bool.{eq-eqb, eqb-true}
use Rattle.stamped_slots.proofs.Lists.{map_length}
use Rattle.y_tree.specs.Sorts.{Sort}
use Rattle.y_tree.specs.declared.BvOp.{BvOp}
use Rattle.y_tree.specs.Typing.{BvForm, one, two, test, some, joined, form_of}
use Rattle.y_tree.specs.Misfits.{bv_row, row_of, function_row, count_fits, a_real}
use Rattle.rationals.specs.Rational.{ℚ}
use Rattle.term_shapes.specs.declared.handles.Term.{Term}
use Rattle.term_shapes.specs.declared.lists.Monomial.{Monomial}
use Rattle.term_shapes.specs.declared.shapes.Shape.{Shape}
use Rattle.term_shapes.specs.declared.shapes.Shape.TheVariants as shape
use Rattle.term_shapes.specs.Shapes.{args_of}
use Rattle.term_table.specs.World.{World}
use Rattle.shape_rules.specs.Rules.{operator}
use Rattle.term_table.specs.Checking.{HasSort, HaveSorts, takes_number}
use Rattle.term_table.proofs.Sorting.{have_length}
use Rattle.term_table.proofs.Rows.{call_count, update_count}

eq_back : (a b : ℕ) → (a == b) ≡ (b == a)
eq_back a b = by (a == b) (b == a) refl refl
  where
    by : (c d : Bool) → (a == b) ≡ c → (b == a) ≡ d → (a == b) ≡ (b == a)
    by true d e f = e ∙ sym (eq-eqb b a (sym (eqb-true a b e)))
    by false true e f = eq-eqb a b (sym (eqb-true b a f)) ∙ sym f
    by false false e f = e ∙ sym f

-- operators on bit-vectors
abbrev pub bits_count : BvForm → ℕ → Bool
bits_count one n = n == 1
bits_count two n = n == 2
bits_count test n = n == 2
bits_count some n = nat_le 1 n
bits_count joined n = nat_le 1 n

bits_count_is : (f : BvForm) (n : ℕ) → bits_count f n ≡ count_fits (bv_row f) n
bits_count_is one n = eq_back n 1
bits_count_is two n = eq_back n 2
bits_count_is test n = eq_back n 2
bits_count_is some n = refl
bits_count_is joined n = refl

module _ (w : World) (s : Shape) (ks : List Sort) (have : HaveSorts w (args_of s) ks) where
  pub count_bits : (op : BvOp) (all : List Term) (f : BvForm) (n : ℕ) → s ≡ shape.Bv op all → f ≡ form_of op → n ≡ length all → bits_count f n ≡ count_fits (row_of (operator s) ks) (length ks)
  count_bits op all f n e g m =
      bits_count_is f n ∙ ap (λ z. count_fits (bv_row z) n) g
      ∙ ap (count_fits (bv_row (form_of op))) (m ∙ sym (have_length w all ks (subst (λ z. HaveSorts w (args_of z) ks) e have)))
      ∙ ap (λ z. count_fits (row_of (operator z) ks) (length ks)) (sym e)

  pub count_call : (f : Term) (all : List Term) (n : ℕ) (b : Bool) → s ≡ shape.App f all → n ≡ length all → ((k : Sort) → HasSort w f k → b ≡ takes_number k n) → b ≡ count_fits (row_of (operator s) ks) (length ks)
  count_call f all n b e m takes = by ks (subst (λ z. HaveSorts w (args_of z) ks) e have) ∙ ap (λ z. count_fits (row_of (operator z) ks) (length ks)) (sym e)
    where
      by : (ls : List Sort) → HaveSorts w (f ∷ all) ls → b ≡ count_fits (function_row false ls) (length ls)
      by [] h = absurd h
      by (k ∷ ls) h = takes k h.0 ∙ call_count k ls n (have_length w all ls h.1 ∙ sym m)

  pub count_update : (f : Term) (all : List Term) (v : Term) (n : ℕ) (b : Bool) → s ≡ shape.Update f all v → n ≡ length all → ((k : Sort) → HasSort w f k → b ≡ takes_number k n) → b ≡ count_fits (row_of (operator s) ks) (length ks)
  count_update f all v n b e m takes = by ks (subst (λ z. HaveSorts w (args_of z) ks) e have) ∙ ap (λ z. count_fits (row_of (operator z) ks) (length ks)) (sym e)
    where
      one_more : (ts : List Term) → length (ts ++ v ∷ []) ≡ length ts + 1
      one_more [] = refl
      one_more (t ∷ ts) = omega (arith, one_more ts)

      by : (ls : List Sort) → HaveSorts w (f ∷ (all ++ v ∷ [])) ls → b ≡ count_fits (function_row true ls) (length ls)
      by [] h = absurd h
      by (k ∷ ls) h = takes k h.0 ∙ update_count k ls n (omega (arith, have_length w (all ++ v ∷ []) ls h.1, one_more all, m))

  pub count_some : (ts : List Term) (n : ℕ) → args_of s ≡ ts → n ≡ length ts → nat_le 1 n ≡ nat_le 1 (length ks)
  count_some ts n e m = ap (nat_le 1) (m ∙ ap length (sym e) ∙ sym (have_length w (args_of s) ks have))

-- shapes with as many arguments as their operators take
pub count_fixed : (w : World) (s : Shape) (ks : List Sort)
    → ((ts : List Term) → s ≡ shape.And ts → ⊥) → ((ts : List Term) → s ≡ shape.Or ts → ⊥) → ((ts : List Term) → s ≡ shape.Xor ts → ⊥) → ((ts : List Term) → s ≡ shape.Distinct ts → ⊥)
    → ((f : Term) (ts : List Term) → s ≡ shape.App f ts → ⊥) → ((f : Term) (ts : List Term) (v : Term) → s ≡ shape.Update f ts v → ⊥) → ((op : BvOp) (ts : List Term) → s ≡ shape.Bv op ts → ⊥)
    → HaveSorts w (args_of s) ks → true ≡ count_fits (row_of (operator s) ks) (length ks)
count_fixed w shape.True ks a o x d f u v have = sym (eq-eqb 0 (length ks) (sym (have_length w [] ks have)))
count_fixed w shape.False ks a o x d f u v have = sym (eq-eqb 0 (length ks) (sym (have_length w [] ks have)))
count_fixed w (shape.Const n of) ks a o x d f u v have = sym (eq-eqb 0 (length ks) (sym (have_length w [] ks have)))
count_fixed w (shape.Var n of) ks a o x d f u v have = sym (eq-eqb 0 (length ks) (sym (have_length w [] ks have)))
count_fixed w (shape.Number q) ks a o x d f u v have = sym (eq-eqb 0 (length ks) (sym (have_length w [] ks have)))
count_fixed w (shape.Bits n b) ks a o x d f u v have = sym (eq-eqb 0 (length ks) (sym (have_length w [] ks have)))
count_fixed w (shape.Not t) ks a o x d f u v have = sym (eq-eqb 1 (length ks) (sym (have_length w (t ∷ []) ks have)))
count_fixed w (shape.And ts) ks a o x d f u v have = absurd (a ts refl)
count_fixed w (shape.Or ts) ks a o x d f u v have = absurd (o ts refl)
count_fixed w (shape.Xor ts) ks a o x d f u v have = absurd (x ts refl)
count_fixed w (shape.Ite c t e) ks a o x d f u v have = sym (eq-eqb 3 (length ks) (sym (have_length w (c ∷ t ∷ e ∷ []) ks have)))
count_fixed w (shape.Eq t e) ks a o x d f u v have = sym (eq-eqb 2 (length ks) (sym (have_length w (t ∷ e ∷ []) ks have)))
count_fixed w (shape.Distinct ts) ks a o x d f u v have = absurd (d ts refl)
count_fixed w (shape.App t ts) ks a o x d f u v have = absurd (f t ts refl)
count_fixed w (shape.Update t ts y) ks a o x d f u v have = absurd (u t ts y refl)
count_fixed w (shape.Sum ms q) ks a o x d f u v have =
    sym (eq-eqb (length (map (λ (c : ℚ). a_real) (map (λ (m : Monomial). m.factor) ms))) (length ks) (omega (arith, map_length (λ (c : ℚ). a_real) (map (λ (m : Monomial). m.factor) ms), map_length (λ (m : Monomial). m.factor) ms, map_length (λ (m : Monomial). m.of) ms, have_length w (map (λ (m : Monomial). m.of) ms) ks have)))
count_fixed w (shape.NonNeg t) ks a o x d f u v have = sym (eq-eqb 1 (length ks) (sym (have_length w (t ∷ []) ks have)))
count_fixed w (shape.Bv op ts) ks a o x d f u v have = absurd (v op ts refl)
count_fixed w (shape.BvAt op i j t) ks a o x d f u v have = sym (eq-eqb 1 (length ks) (sym (have_length w (t ∷ []) ks have)))
