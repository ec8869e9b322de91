-- At most 3 ^ n different clauses over n variables.
use Rattle.std.proofs.Common.{ℕ, zero, suc, ◌<◌, ◌≤◌, ◌+◌, ◌-◌, ◌*◌, ◌^◌, Bool, true, false, not, ◌&&◌, ◌||◌, ◌==◌, List, [], ◌∷◌, ◌≡◌, ◌∙◌, ◌⊎◌, inl, inr, ⊎_elim, refl, sym, ap, Some, length, arith, map}
use Rattle.std.specs.Prelude.{slice_get}
use Rattle.std.specs.List.{IsDistinct, AllByRecursion, list_any}
use Rattle.std.proofs.lemmas.List.{length-map}
use Rattle.std.proofs.lemmas.Bool.{cases_eq, cases_order, eq-eqb, ne_eqb, eqb-true}
use Rattle.std.proofs.lemmas.Nat.{mul-add-lt}
use Rattle.std.proofs.lemmas.Map.Steps.{length-le_from_distinct_below}
use Rattle.std.proofs.Math.Nat.{mul_comm, pow-suc, pow-zero}
use mathlib.Core.Bool.{beq}
use lib.Dec.{eqb}
use Rattle.clause_logic.specs.declared.Lit.{Lit}
use Rattle.clause_logic.specs.Clauses.{opposite, In, Same}
use Rattle.clause_logic.specs.Bound.{in_test, digit_of, digit, code, Apart, search_weight}
use Rattle.clause_logic.proofs.Lits.{same_lit}

beq_same : (a b : Bool) → beq a b ≡ true → a ≡ b
beq_same true true e = refl
beq_same true false e = absurd (cc e)
beq_same false true e = absurd (cc e)
beq_same false false e = refl

beq_self : (a : Bool) → beq a a ≡ true
beq_self true = refl
beq_self false = refl

both_true : (a b : Bool) → (a && b) ≡ true → (a ≡ true) × (b ≡ true)
both_true true b e = (refl, e)
both_true false b e = absurd (cc e)

either_true : (a b : Bool) → (a || b) ≡ true → (a ≡ true) ⊎ (b ≡ true)
either_true true b e = inl refl
either_true false b e = inr e

or_left : (a b : Bool) → a ≡ true → (a || b) ≡ true
or_left true b e = refl
or_left false b e = absurd (cc e)

or_right : (a b : Bool) → b ≡ true → (a || b) ≡ true
or_right true b e = refl
or_right false b e = e

and_true : (a b : Bool) → a ≡ true → b ≡ true → (a && b) ≡ true
and_true true b e f = f
and_true false b e f = absurd (cc e)

test_in : (c : List Lit) (l : Lit) → in_test l.var l.positive c ≡ true → In l c
test_in [] l h = absurd (cc h)
test_in (x ∷ xs) l h =
    ⊎_elim
    (λ e. let t = both_true (x.var == l.var) (beq x.positive l.positive) e in inl (same_lit x l (eqb-true x.var l.var t.0) (beq_same x.positive l.positive t.1)))
    (λ k. inr (test_in xs l k))
    (either_true (x.var == l.var && beq x.positive l.positive) (in_test l.var l.positive xs) h)

in_tests : (c : List Lit) (l : Lit) → In l c → in_test l.var l.positive c ≡ true
in_tests [] l h = absurd h
in_tests (x ∷ xs) l h =
    ⊎_elim
    (λ e. or_left (x.var == l.var && beq x.positive l.positive) (in_test l.var l.positive xs)
    (and_true (x.var == l.var) (beq x.positive l.positive) (eq-eqb x.var l.var (ap (λ (y : Lit). y.var) e)) (ap (λ (y : Lit). beq y.positive l.positive) e ∙ beq_self l.positive)))
    (λ k. or_right (x.var == l.var && beq x.positive l.positive) (in_test l.var l.positive xs) (in_tests xs l k))
    h

digits_small : (a b : Bool) → digit_of a b < 3
digits_small true b = omega arith
digits_small false true = omega arith
digits_small false false = omega arith

digit_small : (c : List Lit) (v : ℕ) → digit c v < 3
digit_small c v = digits_small (in_test v true c) (in_test v false c)

chosen : Bool → Bool → Bool → Bool
chosen true a b = a
chosen false a b = b

pick : (a b x y p : Bool) → digit_of a b ≡ digit_of x y → chosen p a b ≡ true → (chosen p b a ≡ true → ⊥) → chosen p x y ≡ true
unfolding chosen
pick true b true y true e h n = refl
pick true b false true true e h n = absurd (omega (arith, e))
pick true b false false true e h n = absurd (omega (arith, e))
pick false b x y true e h n = absurd (cc h)
pick true true x y false e h n = absurd (n refl)
pick true false x y false e h n = absurd (cc h)
pick false true true y false e h n = absurd (omega (arith, e))
pick false true false true false e h n = refl
pick false true false false false e h n = absurd (omega (arith, e))
pick false false x y false e h n = absurd (cc h)

same_tests : (c d : List Lit) (v : ℕ) (p : Bool) → digit c v ≡ digit d v → in_test v p c ≡ true → (in_test v (not p) c ≡ true → ⊥) → in_test v p d ≡ true
unfolding chosen
same_tests c d v true e h n = pick (in_test v true c) (in_test v false c) (in_test v true d) (in_test v false d) true e h n
same_tests c d v false e h n = pick (in_test v true c) (in_test v false c) (in_test v true d) (in_test v false d) false e h n

-- digits that are equal tell the same literals
digit_in : (c d : List Lit) → ((l : Lit) → In l c → In (opposite l) c → ⊥) → (l : Lit) → digit c l.var ≡ digit d l.var → In l c → In l d
digit_in c d plain_c l e h =
    test_in d l (same_tests c d l.var l.positive e (in_tests c l h) (λ t. plain_c l h (test_in c (opposite l) t)))

code_below : (n : ℕ) (c : List Lit) → code n c < 3 ^ n
unfolding code
code_below zero c = rw (pow-zero 3) (omega arith)
code_below (suc n) c =
    rw (pow-suc 3 n) (omega (arith, mul-add-lt (digit c n) (3 ^ n) (code n c) 3 (digit_small c n) (code_below n c)))

-- one digit in front
front_less : (w a b x y : ℕ) → x < w → a < b → a * w + x ≡ b * w + y → ⊥
front_less w a b x y small less e = omega (arith, mul-add-lt a w x b less small, mul_comm w b, e)

front_same : (w a b x y : ℕ) → x < w → y < w → a * w + x ≡ b * w + y → (a ≡ b) × (x ≡ y)
front_same w a b x y small_x small_y e =
    ⊎_elim
    (λ f. (f, omega (arith, e, ap (λ (z : ℕ). z * w) f)))
    (λ s. ⊎_elim (λ less. absurd (front_less w a b x y small_x less e)) (λ less. absurd (front_less w b a y x small_y less (sym e))) s)
    (cases_order a b)

code_digits : (n : ℕ) (c d : List Lit) → code n c ≡ code n d → (v : ℕ) → v < n → digit c v ≡ digit d v
unfolding code
code_digits zero c d e v small = absurd (omega (arith, small))
code_digits (suc n) c d e v small =
    let both = front_same (3 ^ n) (digit c n) (digit d n) (code n c) (code n d) (code_below n c) (code_below n d) e in
    ⊎_elim
    (λ f. ap (digit c) f ∙ both.0 ∙ ap (digit d) (sym f))
    (λ f. code_digits n c d both.1 v (omega (arith, f, small)))
    (cases_eq v n)

codes_apart : (n : ℕ) (c d : List Lit) → ((l : Lit) → In l c → l.var < n) → ((l : Lit) → In l d → l.var < n) → ((l : Lit) → In l c → In (opposite l) c → ⊥) → ((l : Lit) → In l d → In (opposite l) d → ⊥)
    → (Same c d → ⊥) → code n c ≡ code n d → ⊥
codes_apart n c d below_c below_d plain_c plain_d different e =
    different (λ l. (
      (λ h. digit_in c d plain_c l (code_digits n c d e l.var (below_c l h)) h),
      (λ h. digit_in d c plain_d l (code_digits n d c (sym e) l.var (below_d l h)) h),
    ))

rest : (n : ℕ) (c : List Lit) (cs : List (List Lit)) → Apart n (c ∷ cs) → Apart n cs
rest n c cs all = record {
  below = λ i d l h k. all.below (suc i) d l h k;
  plain = λ i d l h k m. all.plain (suc i) d l h k m;
  different = λ i j d f r h k s. all.different (suc i) (suc j) d f (omega (arith, r)) h k s;
}

none_like : (n : ℕ) (c : List Lit) (cs : List (List Lit)) → ((i : ℕ) (d : List Lit) → slice_get cs i ≡ Some d → code n c ≡ code n d → ⊥) → AllByRecursion (λ y. eqb (code n c) y ≡ false) (map (code n) cs)
none_like n c [] h = tt
none_like n c (d ∷ ds) h = (ne_eqb (code n c) (code n d) (h zero d refl), none_like n c ds (λ i f k. h (suc i) f k))

distinct_codes : (n : ℕ) (cs : List (List Lit)) → Apart n cs → IsDistinct eqb (map (code n) cs)
unfolding IsDistinct
distinct_codes n [] all = tt
distinct_codes n (c ∷ cs) all = (
  none_like n c cs (λ i d h. codes_apart n c d (λ l k. all.below zero c l refl k) (λ l k. all.below (suc i) d l h k) (λ l k. all.plain zero c l refl k) (λ l k. all.plain (suc i) d l h k) (all.different zero (suc i) c d (omega arith) refl h)),
  distinct_codes n cs (rest n c cs all),
)

codes_small : (n : ℕ) (cs : List (List Lit)) (q : ℕ) → list_any (eqb q) (map (code n) cs) ≡ true → q < 3 ^ n
codes_small n [] q h = absurd (cc h)
codes_small n (c ∷ cs) q h =
    ⊎_elim
    (λ e. let f = eqb-true q (code n c) e in omega (arith, f, code_below n c))
    (λ k. codes_small n cs q k)
    (either_true (eqb q (code n c)) (list_any (eqb q) (map (code n) cs)) h)

-- the bound
pub few_clauses : (n : ℕ) (cs : List (List Lit)) → Apart n cs → length cs ≤ 3 ^ n
few_clauses n cs all =
    omega (arith, length-map cs (code n), length-le_from_distinct_below (map (code n) cs) (3 ^ n) (distinct_codes n cs all) (codes_small n cs))

-- the measure falls where a clause is learned, whatever becomes of the variables
pub learning_falls : (n k u t : ℕ) → k + 1 ≤ 3 ^ n → t ≤ n → search_weight n (k + 1) t < search_weight n k u
unfolding search_weight
learning_falls n k u t room short =
    let w : ℕ = 3 ^ n - (k + 1) in
    let e : 3 ^ n - k ≡ w + 1 = omega (arith, room) in
    rw e (omega (arith, short, mul-add-lt w (n + 1) t (w + 1) (omega arith) (omega (arith, short)), mul_comm (n + 1) (w + 1)))

-- and where a variable gets a value
pub deciding_falls : (n k u t : ℕ) → t < u → search_weight n k t < search_weight n k u
unfolding search_weight
deciding_falls n k u t h = omega (arith, h)
