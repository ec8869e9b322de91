-- Comparisons, one more bit.
use Rattle.std.proofs.Common.{◌≡◌, ◌∙◌, ℕ, ◌+◌, ◌-◌, ◌*◌, ◌^◌, ◌<◌, ◌≤◌, Bool, true, false, not, ◌&&◌, ◌||◌, leb, eqb, List, [], ◌∷◌, ◌++◌, length, take, get_or, refl, sym, ap, ap₂, subst, ⊎_elim, arith}
use Rattle.std.proofs.lemmas.Bool.{cases_lt, cases_eq, le-leb, lt-leb, eq-eqb, ne_eqb}
use Rattle.std.proofs.lemmas.List.{length-take-le, take_all, length_push}
use Rattle.std.proofs.lemmas.Nat.{pow_pos}
use Rattle.std.proofs.Math.Nat.{pow-suc}
use Rattle.clause_logic.specs.declared.Lit.{Lit}
use Rattle.clause_logic.specs.Clauses.{opposite}
use Rattle.clause_gates.specs.Built.{Built}
use Rattle.y_tree.specs.BitVectors.{differ, wrap, is_negative}
use Rattle.clause_gates.specs.Bits.{value_under, majority}
use Rattle.bit_blast.specs.Bits.{bit, number_under}
use Rattle.clause_gates.specs.Circuits.{Grows, Computes, AllBelow}
use Rattle.clause_gates.proofs.Growth.{satisfies_old}
use Rattle.clause_gates.proofs.Switches.{is_not}
use Rattle.clause_gates.proofs.Truths.{value_opposite}
use Rattle.bit_blast.proofs.Numbers.{wrap_from}
use Rattle.bit_blast.proofs.Lists.{under_push, under_more, below_push, below_take, below_at}
use Rattle.bit_blast.proofs.Rows.{under_below}

leb_same : (a b c d : ℕ) → (a ≤ b → c ≤ d) → (c ≤ d → a ≤ b) → leb a b ≡ leb c d
leb_same a b c d f g =
    ⊎_elim
    (λ (h : b < a). lt-leb a b h ∙ sym (lt-leb c d (⊎_elim (λ k. k) (λ k. absurd (let e = g k in omega (arith, e, h))) (cases_lt d c))))
    (λ h. le-leb a b h ∙ sym (le-leb c d (f h)))
    (cases_lt b a)

eqb_same : (a b c d : ℕ) → (a ≡ b → c ≡ d) → (c ≡ d → a ≡ b) → eqb a b ≡ eqb c d
eqb_same a b c d f g =
    ⊎_elim
    (λ e. eq-eqb a b e ∙ sym (eq-eqb c d (f e)))
    (λ n. ne_eqb a b n ∙ sym (ne_eqb c d (λ e. n (g e))))
    (cases_eq a b)

and_true : (b : Bool) → (b && true) ≡ b
and_true true = refl
and_true false = refl

and_false : (b : Bool) → (b && false) ≡ false
and_false true = refl
and_false false = refl

or_true : (b : Bool) → (b || true) ≡ true
or_true true = refl
or_true false = refl

or_false : (b : Bool) → (b || false) ≡ b
or_false true = refl
or_false false = refl

le_step : (p x y : ℕ) (a b : Bool) → x < p → y < p → leb (y + p * bit b) (x + p * bit a) ≡ majority a (not b) (leb y x)
le_step p x y true true h k = leb_same (y + p * 1) (x + p * 1) y x (λ e. omega (arith, e)) (λ e. omega (arith, e))
le_step p x y true false h k = le-leb (y + p * 0) (x + p * 1) (omega (arith, h, k))
le_step p x y false true h k = lt-leb (y + p * 1) (x + p * 0) (omega (arith, h, k))
le_step p x y false false h k = leb_same (y + p * 0) (x + p * 0) y x (λ e. omega (arith, e)) (λ e. omega (arith, e))

eq_step : (p x y : ℕ) (a b : Bool) → x < p → y < p → eqb (x + p * bit a) (y + p * bit b) ≡ (eqb x y && not (differ a b))
eq_step p x y true true h k = eqb_same (x + p * 1) (y + p * 1) x y (λ e. omega (arith, e)) (λ e. omega (arith, e)) ∙ sym (and_true (eqb x y))
eq_step p x y true false h k = ne_eqb (x + p * 1) (y + p * 0) (λ e. omega (arith, e, h, k)) ∙ sym (and_false (eqb x y))
eq_step p x y false true h k = ne_eqb (x + p * 0) (y + p * 1) (λ e. omega (arith, e, h, k)) ∙ sym (and_false (eqb x y))
eq_step p x y false false h k = eqb_same (x + p * 0) (y + p * 0) x y (λ e. omega (arith, e)) (λ e. omega (arith, e)) ∙ sym (and_true (eqb x y))

some_step : (p x : ℕ) (a : Bool) → 0 < p → not (eqb (x + p * bit a) 0) ≡ (not (eqb x 0) || a)
some_step p x true h = ap not (ne_eqb (x + p * 1) 0 (λ e. omega (arith, e, h))) ∙ sym (or_true (not (eqb x 0)))
some_step p x false h = ap not (eqb_same (x + p * 0) 0 x 0 (λ e. omega (arith, e)) (λ e. omega (arith, e))) ∙ sym (or_false (not (eqb x 0)))

take_below : (s : ℕ → Bool) (ls : List Lit) (i : ℕ) → i ≤ length ls → number_under s (take i ls) < 2 ^ i
take_below s ls i h = subst (λ n. number_under s (take i ls) < 2 ^ n) (length-take-le i ls h) (under_below s (take i ls))

module _ {old new : Built} {m : ℕ} (a b : List Lit) (i : ℕ) (d carry : Lit) (grows : Grows old new m) (ha : i < length a) (hb : i < length b) where
  pub least_more : (n next : Lit) → Computes old.content carry (λ s. leb (number_under s (take i b)) (number_under s (take i a)))
      → n ≡ opposite (get_or b i d) → Computes new.content next (λ s. majority (value_under s (get_or a i d)) (value_under s n) (value_under s carry))
      → Computes new.content next (λ s. leb (number_under s (take (i + 1) b)) (number_under s (take (i + 1) a)))
  least_more n next before e gate = record {
    known = gate.known;
    is = λ s h.
        gate.is s h
        ∙ rw (is_not (get_or b i d) n e s, before.is s (satisfies_old grows s h), under_more s a i d ha, under_more s b i d hb)
        (sym (le_step (2 ^ i) (number_under s (take i a)) (number_under s (take i b)) (value_under s (get_or a i d)) (value_under s (get_or b i d)) (take_below s a i (omega arith)) (take_below s b i (omega arith))));
  }

  pub equal_more : {mid : Built} {k : ℕ} → (x n next : Lit) → Grows mid new k → Computes old.content carry (λ s. eqb (number_under s (take i a)) (number_under s (take i b)))
      → Computes mid.content x (λ s. differ (value_under s (get_or a i d)) (value_under s (get_or b i d))) → n ≡ opposite x
      → Computes new.content next (λ s. value_under s carry && value_under s n)
      → Computes new.content next (λ s. eqb (number_under s (take (i + 1) a)) (number_under s (take (i + 1) b)))
  equal_more x n next last before one e gate = record {
    known = gate.known;
    is = λ s h.
        gate.is s h
        ∙ rw (is_not x n e s, before.is s (satisfies_old grows s h), one.is s (satisfies_old last s h), under_more s a i d ha, under_more s b i d hb)
        (sym (eq_step (2 ^ i) (number_under s (take i a)) (number_under s (take i b)) (value_under s (get_or a i d)) (value_under s (get_or b i d)) (take_below s a i (omega arith)) (take_below s b i (omega arith))));
  }

pub some_more : {old new : Built} {m : ℕ} (a : List Lit) (i : ℕ) (d some next : Lit) → Grows old new m → i < length a
    → Computes old.content some (λ s. not (eqb (number_under s (take i a)) 0))
    → Computes new.content next (λ s. value_under s some || value_under s (get_or a i d))
    → Computes new.content next (λ s. not (eqb (number_under s (take (i + 1) a)) 0))
some_more a i d some next grows ha before gate = record {
  known = gate.known;
  is = λ s h.
      gate.is s h
      ∙ rw (before.is s (satisfies_old grows s h), under_more s a i d ha) (sym (some_step (2 ^ i) (number_under s (take i a)) (value_under s (get_or a i d)) (pow_pos i)));
}

-- the sign bit, and the word with it inverted
whole : (s : ℕ → Bool) (a : List Lit) (last : ℕ) (d : Lit) → length a ≡ last + 1 → number_under s a ≡ number_under s (take last a) + 2 ^ last * bit (value_under s (get_or a last d))
whole s a last d h = sym (ap (number_under s) (take_all (last + 1) a (omega arith))) ∙ under_more s a last d (omega arith)

flip_high : (p x : ℕ) (b : Bool) → x + p * bit (not b) + p * 2 * bit b ≡ x + p * bit b + p
flip_high p x true = omega arith
flip_high p x false = omega arith

pub flipped_is : (s : ℕ → Bool) (a r : List Lit) (last : ℕ) (d : Lit) → length a ≡ last + 1 → r ≡ take last a ++ opposite (get_or a last d) ∷ []
    → number_under s r ≡ wrap (length a) (number_under s a + 2 ^ (length a - 1))
flipped_is s a r last d h e =
    let long : length r ≡ length a = ap length e ∙ length_push (take last a) (opposite (get_or a last d)) ∙ omega (arith, length-take-le last a (omega arith)) in
    let lastly : length a - 1 ≡ last = omega arith in
    let pow : 2 ^ length a ≡ 2 ^ last * 2 = ap (λ n. 2 ^ n) (h ∙ omega arith) ∙ pow-suc 2 last in
    let here : number_under s r ≡ number_under s (take last a) + 2 ^ last * bit (not (value_under s (get_or a last d))) =
    ap (number_under s) e ∙ under_push s (take last a) (opposite (get_or a last d)) ∙ ap₂ (λ n x. number_under s (take last a) + 2 ^ n * bit x) (length-take-le last a (omega arith)) (value_opposite s (get_or a last d)) in
    let more = flip_high (2 ^ last) (number_under s (take last a)) (value_under s (get_or a last d)) in
    wrap_from (length a) (number_under s r) (bit (value_under s (get_or a last d))) (number_under s a + 2 ^ (length a - 1)) (subst (λ n. number_under s r < 2 ^ n) long (under_below s r))
    (rw (here, pow, lastly, whole s a last d h) more)

sign_step : (p x : ℕ) (b : Bool) → 0 < p → x < p → leb p (x + p * bit b) ≡ b
sign_step p x true h k = le-leb p (x + p * 1) (omega arith)
sign_step p x false h k = lt-leb p (x + p * 0) (omega (arith, k))

pub sign_is : (s : ℕ → Bool) (a : List Lit) (d : Lit) → 0 < length a → is_negative (length a) (number_under s a) ≡ value_under s (get_or a (length a - 1) d)
sign_is s a d h =
    ap (leb (2 ^ (length a - 1))) (whole s a (length a - 1) d (omega arith))
    ∙ sign_step (2 ^ (length a - 1)) (number_under s (take (length a - 1) a)) (value_under s (get_or a (length a - 1) d)) (pow_pos (length a - 1)) (take_below s a (length a - 1) (omega arith))

pub flipped_known : (vars : ℕ) (a r : List Lit) (d : Lit) → 0 < length a → AllBelow vars a → r ≡ take (length a - 1) a ++ opposite (get_or a (length a - 1) d) ∷ [] → AllBelow vars r
flipped_known vars a r d h k e = rw e (below_push vars (take (length a - 1) a) (opposite (get_or a (length a - 1) d)) (below_take vars (length a - 1) a k) (below_at vars a (length a - 1) d k (omega arith)))

pub flipped_count : (a r : List Lit) (d : Lit) → 0 < length a → r ≡ take (length a - 1) a ++ opposite (get_or a (length a - 1) d) ∷ [] → length r ≡ length a
flipped_count a r d h e = ap length e ∙ length_push (take (length a - 1) a) (opposite (get_or a (length a - 1) d)) ∙ omega (arith, length-take-le (length a - 1) a (omega arith))
