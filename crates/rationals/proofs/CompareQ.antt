-- The order of the rational numbers as `Ord::cmp` answers it: a total order, which finds equal exactly what is the same number.
use Rattle.std.proofs.Common.{◌≡◌, Bool, true, false, ◌&&◌, [], ◌∷◌, refl, sym, ap, subst, pos}
use Rattle.std.specs.Prelude.{◌==◌}
use Rattle.std.specs.declared.cmp.Ordering.{Ordering}
use Rattle.std.specs.declared.cmp.Ordering.TheVariants.{Less, Equal, Greater}
use Rattle.std.specs.Ordering.{int_eq, eq_by_cmp, MatchOrdering, as_partial_cmp}
use Rattle.std.specs.Cmp.{IsTotalOrder, IsEquivalence, IsPartialOrder, strict, one_rank, int_ranks, decided, Equal-is, partial_order_from_agreeing_total, signed_Decides, unsigned_Decides}
use Rattle.std.specs.Bool.{Decides, one_answer}
use lib.IntN.{◌*ℤ◌}
use lib.Signed.{◌<ℤ◌}
use Rattle.rationals.specs.Rational.{ℚ, cmp_ℚ, same_ℚ, ◌<ℚ◌}
use Rattle.rationals.proofs.Ring.{var}
use Rattle.rationals.proofs.Rationals.{eq_of_cross, ℚ_ext}
use Rattle.rationals.proofs.Linear.{◌≺◌}
use Rattle.rationals.proofs.OrderQ.{signs_ℚ, lt_irrefl}
use Rattle.rationals.proofs.Finder.{lin_lt}

pub lt_trans : (q r s : ℚ) → q <ℚ r → r <ℚ s → q <ℚ s
lt_trans q r s h k = lin_lt signs_ℚ (q ∷ r ∷ s ∷ []) (var 0) (var 2) ((var 0 ≺ var 1) ∷ (var 1 ≺ var 2) ∷ []) tt (h, (k, tt))

of_ranks : (q r : ℚ) (o : Ordering) → MatchOrdering o ((q.num *ℤ pos r.den) <ℤ (r.num *ℤ pos q.den)) (q.num *ℤ pos r.den ≡ r.num *ℤ pos q.den) ((r.num *ℤ pos q.den) <ℤ (q.num *ℤ pos r.den)) → MatchOrdering o (q <ℚ r) (q ≡ r) (r <ℚ q)
of_ranks q r Less h = record { lt = h }
of_ranks q r Equal h = eq_of_cross q r h
of_ranks q r Greater h = record { lt = h }

-- what each answer says
pub ranks_ℚ : (q r : ℚ) → MatchOrdering (cmp_ℚ q r) (q <ℚ r) (q ≡ r) (r <ℚ q)
ranks_ℚ q r = of_ranks q r (cmp_ℚ q r) (int_ranks (q.num *ℤ pos r.den) (r.num *ℤ pos q.den))

-- the answer from what holds
pub cmp_is : (q r : ℚ) (o : Ordering) → MatchOrdering o (q <ℚ r) (q ≡ r) (r <ℚ q) → o ≡ cmp_ℚ q r
cmp_is q r o h = one_rank (λ (a b : ℚ). a <ℚ b) lt_irrefl lt_trans q r o (cmp_ℚ q r) h (ranks_ℚ q r)

pub cmp_total : IsTotalOrder cmp_ℚ
cmp_total = strict (λ (a b : ℚ). a <ℚ b) lt_irrefl lt_trans cmp_ℚ ranks_ℚ

equal_means : (q r : ℚ) (o : Ordering) → cmp_ℚ q r ≡ o → MatchOrdering o (q <ℚ r) (q ≡ r) (r <ℚ q)
equal_means q r o e = subst (λ k. MatchOrdering k (q <ℚ r) (q ≡ r) (r <ℚ q)) e (ranks_ℚ q r)

-- the test by the parts decides equality
pub same_decides : (q r : ℚ) → Decides (same_ℚ q r) (q ≡ r)
same_decides q r = (λ e. let p = both (int_eq q.num r.num) (q.den == r.den) e in ℚ_ext q r ((signed_Decides q.num r.num).0 p.0) ((unsigned_Decides q.den r.den).0 p.1), λ e. joined (int_eq q.num r.num) (q.den == r.den) ((signed_Decides q.num r.num).1 (ap (λ (x : ℚ). x.num) e)) ((unsigned_Decides q.den r.den).1 (ap (λ (x : ℚ). x.den) e)))
  where
    both : (a b : Bool) → (a && b) ≡ true → (a ≡ true) × (b ≡ true)
    both true b e = (refl, e)
    both false b e = absurd cc

    joined : (a b : Bool) → a ≡ true → b ≡ true → (a && b) ≡ true
    joined true b e f = f
    joined false b e f = e

pub same_equiv : IsEquivalence same_ℚ
same_equiv = decided same_ℚ same_decides

-- equal by the parts and equal by the order are one
pub same_ties : (q r : ℚ) → same_ℚ q r ≡ eq_by_cmp cmp_ℚ q r
same_ties q r = one_answer (same_ℚ q r) (eq_by_cmp cmp_ℚ q r) (same_decides q r)
    (λ e. equal_means q r Equal ((Equal-is (cmp_ℚ q r)).0 e), λ e. (Equal-is (cmp_ℚ q r)).1 (sym (cmp_is q r Equal e)))

pub cmp_partial : IsPartialOrder same_ℚ (as_partial_cmp cmp_ℚ)
cmp_partial = partial_order_from_agreeing_total cmp_ℚ cmp_total (λ q r. refl) same_ties
