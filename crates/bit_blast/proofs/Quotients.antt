-- Division, one more bit.
use Rattle.std.proofs.Common.{◌≡◌, ◌∙◌, ℕ, zero, suc, ◌+◌, ◌-◌, ◌*◌, ◌/◌, ◌%◌, ◌^◌, ◌<◌, ◌≤◌, Bool, true, false, not, ◌&&◌, ◌||◌, cond, leb, eqb, List, [], ◌∷◌, ◌++◌, length, map, take, drop, get_or, refl, sym, ap, ap₂, subst, ⊎_elim, arith}
use Rattle.std.proofs.lemmas.Bool.{cases_lt, le-leb, lt-leb, ne_eqb}
use Rattle.std.proofs.lemmas.List.{length-take-le, drop_more, drop_all, length-map, take-append-drop, map-append, get_or_push, get_or_append_left}
use Rattle.std.proofs.lemmas.Nat.{pow_pos, div-mul-add, mod-mul-add, div-add-mod'}
use Rattle.std.proofs.Math.Nat.{pow-suc, mod-lt, zero-mod, zero-div, mul-le-mul_right}
use Rattle.clause_logic.specs.declared.Lit.{Lit}
use Rattle.clause_logic.specs.Clauses.{opposite}
use Rattle.clause_search.specs.Content.{Content}
use Rattle.clause_gates.specs.Built.{Built}
use Rattle.y_tree.specs.BitVectors.{divide, remainder}
use Rattle.clause_gates.specs.Bits.{value_under}
use Rattle.bit_blast.specs.Bits.{values_under, bit, number, number_under}
use Rattle.bit_blast.specs.Bitwise.{pairwise}
use Rattle.clause_gates.specs.Circuits.{Satisfies, Grows, Computes, IsTruth}
use Rattle.bit_blast.specs.Circuits.{IsBits, IsWord, IsSum}
use Rattle.clause_gates.proofs.Growth.{satisfies_old, computes_on}
use Rattle.clause_gates.proofs.Switches.{is_not}
use Rattle.bit_blast.proofs.Numbers.{bit_small, number_append}
use Rattle.bit_blast.proofs.Lists.{below_cons, below_on, below_nil}
use Rattle.bit_blast.proofs.Rows.{under_below, under_inverted}

apart : (n : ℕ) → eqb (suc n) 0 ≡ false
apart n = ne_eqb (suc n) 0 (λ e. omega (arith, e))

-- a bit above
top_step : (n : ℕ) (x : Bool) → not (eqb (bit x + 2 * n) 0) ≡ (not (eqb n 0) || x)
top_step zero true = refl
top_step zero false = refl
top_step (suc n) true = rw (apart n) (ap not (ne_eqb (1 + 2 * suc n) 0 (λ e. omega (arith, e))))
top_step (suc n) false = rw (apart n) (ap not (ne_eqb (0 + 2 * suc n) 0 (λ e. omega (arith, e))))

pub top_none : (c : Content) (b : List Lit) (t l : Lit) → IsTruth c t → l ≡ opposite t → Computes c l (λ s. not (eqb (number_under s (drop (length b - 0) b)) 0))
top_none c b t l truth e = record {
  known = omega (arith, ap (λ (x : Lit). x.var) e, truth.known);
  is = λ s h.
      is_not t l e s ∙ ap not (truth.is s h)
      ∙ sym (ap (λ (ls : List Lit). not (eqb (number_under s ls) 0)) (drop_all (length b - 0) b (omega arith)));
}

pub top_more : {old new : Built} {m : ℕ} (b : List Lit) (t : ℕ) (d some next : Lit) → Grows old new m → t < length b
    → Computes old.content some (λ s. not (eqb (number_under s (drop (length b - t) b)) 0))
    → Computes new.content next (λ s. value_under s some || value_under s (get_or b (length b - 1 - t) d))
    → Computes new.content next (λ s. not (eqb (number_under s (drop (length b - (t + 1)) b)) 0))
top_more b t d some next grows below before gate =
    let at : length b - (t + 1) ≡ length b - 1 - t = omega arith in
    let up : length b - 1 - t + 1 ≡ length b - t = omega arith in
    record {
      known = gate.known;
      is = λ s h.
          let split : number_under s (drop (length b - (t + 1)) b) ≡ bit (value_under s (get_or b (length b - 1 - t) d)) + 2 * number_under s (drop (length b - t) b) =
          ap (λ j. number_under s (drop j b)) at ∙ ap (number_under s) (drop_more b (length b - 1 - t) d (omega arith)) ∙ ap (λ j. bit (value_under s (get_or b (length b - 1 - t) d)) + 2 * number_under s (drop j b)) up in
          gate.is s h
          ∙ ap (λ x. x || value_under s (get_or b (length b - 1 - t) d)) (before.is s (satisfies_old grows s h))
          ∙ sym (ap (λ n. not (eqb n 0)) split ∙ top_step (number_under s (drop (length b - t) b)) (value_under s (get_or b (length b - 1 - t) d)));
    }

-- whether a divisor fits, by the last carry of the difference and the bits above
pub fits_is : (p r low high d : ℕ) (c : Bool) → r < p → d < p → d + p * bit c + low ≡ r + p → (c && not (not (eqb high 0))) ≡ leb (low + p * high) r
fits_is p r low zero d true h k e = sym (le-leb (low + p * 0) r (omega (arith, e)))
fits_is p r low (suc q) d true h k e = rw (apart q) (sym (lt-leb (low + p * suc q) r (omega (arith, h))))
fits_is p r low zero d false h k e = sym (lt-leb (low + p * 0) r (omega (arith, e, k)))
fits_is p r low (suc q) d false h k e = sym (lt-leb (low + p * suc q) r (omega (arith, h)))

-- what is left
pub left_is : (p r low high d : ℕ) (c : Bool) → r < p → d < p → d + p * bit c + low ≡ r + p
    → cond (leb (low + p * high) r) d r ≡ cond (leb (low + p * high) r) (r - (low + p * high)) r
left_is p r low zero d true h k e = rw (le-leb (low + p * 0) r (omega (arith, e))) (omega (arith, e))
left_is p r low (suc q) d true h k e = rw (lt-leb (low + p * suc q) r (omega (arith, h))) refl
left_is p r low zero d false h k e = rw (lt-leb (low + p * 0) r (omega (arith, e, k))) refl
left_is p r low (suc q) d false h k e = rw (lt-leb (low + p * suc q) r (omega (arith, h))) refl

divide_some : (n a c : ℕ) → divide n a (suc c) ≡ a / suc c
divide_some n a c = rw (apart c) refl

remainder_some : (a c : ℕ) → remainder a (suc c) ≡ a % suc c
remainder_some a c = rw (apart c) refl

small : (c a : ℕ) → a % suc c < suc c
small c a = mod-lt a (omega arith)

-- the next bit of a quotient, and the next remainder
module _ (x a c : ℕ) (h : x ≤ 1) where
  abbrev next : ℕ
  next = x + 2 * (a % suc c)

  below_case : next < suc c → x + 2 * a ≡ 2 * (a / suc c) * suc c + next
  below_case g = omega (arith, div-add-mod' a (suc c))

  above_case : suc c ≤ next → x + 2 * a ≡ (1 + 2 * (a / suc c)) * suc c + (next - suc c)
  above_case g = omega (arith, div-add-mod' a (suc c), g)

  quotient_some : (x + 2 * a) / suc c ≡ bit (leb (suc c) next) + 2 * (a / suc c)
  quotient_some =
      ⊎_elim
      (λ (g : next < suc c). rw (lt-leb (suc c) next g) (ap (λ n. n / suc c) (below_case g) ∙ div-mul-add (2 * (a / suc c)) (suc c) next g ∙ omega arith))
      (λ (g : suc c ≤ next). rw (le-leb (suc c) next g) (ap (λ n. n / suc c) (above_case g) ∙ div-mul-add (1 + 2 * (a / suc c)) (suc c) (next - suc c) (omega (arith, small c a))))
      (cases_lt next (suc c))

  remainder_next : (x + 2 * a) % suc c ≡ cond (leb (suc c) next) (next - suc c) next
  remainder_next =
      ⊎_elim
      (λ (g : next < suc c). rw (lt-leb (suc c) next g) (ap (λ n. n % suc c) (below_case g) ∙ mod-mul-add (2 * (a / suc c)) (suc c) next g))
      (λ (g : suc c ≤ next). rw (le-leb (suc c) next g) (ap (λ n. n % suc c) (above_case g) ∙ mod-mul-add (1 + 2 * (a / suc c)) (suc c) (next - suc c) (omega (arith, small c a))))
      (cases_lt next (suc c))

pub next_quotient : (k x a b : ℕ) → x ≤ 1 → divide (suc k) (x + 2 * a) b ≡ bit (leb b (x + 2 * remainder a b)) + 2 * divide k a b
next_quotient k x a zero h = rw (le-leb 0 (x + 2 * a) (omega arith), pow-suc 2 k) (omega (arith, pow_pos k))
next_quotient k x a (suc c) h = rw (divide_some (suc k) (x + 2 * a) c, divide_some k a c, remainder_some a c) (quotient_some x a c h)

pub next_remainder : (x a b : ℕ) → x ≤ 1 → remainder (x + 2 * a) b ≡ cond (leb b (x + 2 * remainder a b)) (x + 2 * remainder a b - b) (x + 2 * remainder a b)
next_remainder x a zero h = rw (le-leb 0 (x + 2 * a) (omega arith)) (omega arith)
next_remainder x a (suc c) h = rw (remainder_some (x + 2 * a) c, remainder_some a c) (remainder_next x a c h)

pub each_more : {old new : Built} {m : ℕ} (b : List Lit) (n : ℕ) (all longer : List Lit) (some : Lit) → Grows old new m → length all ≡ n
    → Computes old.content some (λ s. not (eqb (number_under s (drop (length b - n) b)) 0))
    → ((t : ℕ) (d : Lit) → t < n → Computes old.content (get_or all t d) (λ s. not (eqb (number_under s (drop (length b - t) b)) 0)))
    → longer ≡ all ++ some ∷ []
    → (t : ℕ) (d : Lit) → t < n + 1 → Computes new.content (get_or longer t d) (λ s. not (eqb (number_under s (drop (length b - t) b)) 0))
each_more {old} {new} b n all longer some grows count here before e t d h =
    ⊎_elim
    (λ (k : t < n).
    computes_on (get_or longer t d) (λ s. not (eqb (number_under s (drop (length b - t) b)) 0)) grows
    (subst (λ (l : Lit). Computes old.content l (λ s. not (eqb (number_under s (drop (length b - t) b)) 0))) (sym (ap (λ xs. get_or xs t d) e ∙ get_or_append_left all (some ∷ []) d t (omega (arith, count)))) (before t d k)))
    (λ (k : n ≤ t).
    let is : n ≡ t = omega (arith, h, k) in
    computes_on (get_or longer t d) (λ s. not (eqb (number_under s (drop (length b - t) b)) 0)) grows
    (subst (λ (l : Lit). Computes old.content l (λ s. not (eqb (number_under s (drop (length b - t) b)) 0))) (sym (ap (λ xs. get_or xs t d) e ∙ get_or_push all some d t (count ∙ is)))
    (subst (λ (j : ℕ). Computes old.content some (λ s. not (eqb (number_under s (drop (length b - j) b)) 0))) is here)))
    (cases_lt t n)

pub choose_bits : (c : Bool) (xs ys : List Bool) → length xs ≡ length ys → pairwise (λ x y. cond c x y) xs ys ≡ cond c xs ys
choose_bits true [] [] h = refl
choose_bits false [] [] h = refl
choose_bits c [] (y ∷ ys) h = absurd (omega (arith, h))
choose_bits c (x ∷ xs) [] h = absurd (omega (arith, h))
choose_bits true (x ∷ xs) (y ∷ ys) h = ap (λ r. x ∷ r) (choose_bits true xs ys (omega (arith, h)))
choose_bits false (x ∷ xs) (y ∷ ys) h = ap (λ r. y ∷ r) (choose_bits false xs ys (omega (arith, h)))

pub choose_number : (s : ℕ → Bool) (c : Bool) (xs ys : List Lit) → length xs ≡ length ys → number (pairwise (λ x y. cond c x y) (values_under s xs) (values_under s ys)) ≡ cond c (number_under s xs) (number_under s ys)
choose_number s c xs ys h =
    ap number (choose_bits c (values_under s xs) (values_under s ys) (length-map xs (value_under s) ∙ h ∙ sym (length-map ys (value_under s))))
    ∙ elim c as (λ b. number (cond b (values_under s xs) (values_under s ys)) ≡ cond b (number_under s xs) (number_under s ys)) [ true ↦ refl | false ↦ refl ]

-- a word's low bits, and the others
pub under_split : (s : ℕ → Bool) (k : ℕ) (ls : List Lit) → k ≤ length ls → number_under s ls ≡ number_under s (take k ls) + 2 ^ k * number_under s (drop k ls)
under_split s k ls h =
    ap (number_under s) (sym (take-append-drop k ls)) ∙ ap number (map-append (value_under s) (take k ls) (drop k ls))
    ∙ number_append (values_under s (take k ls)) (values_under s (drop k ls))
    ∙ ap (λ n. number_under s (take k ls) + 2 ^ n * number_under s (drop k ls)) (length-map (take k ls) (value_under s) ∙ length-take-le k ls h)

module _ {old one two : Built} {m k : ℕ} (truth next top fits : Lit) (rest b longer not_b bits : List Lit) (carry not_top : Lit) (f : Grows old one m) (g : Grows one two k)
    (always : IsTruth old.content truth) (narrow : length rest < length b)
    (top_is : Computes old.content top (λ s. not (eqb (number_under s (drop (length rest + 1) b)) 0)))
    (el : longer ≡ next ∷ rest) (en : not_b ≡ map opposite (take (length rest + 1) b)) (et : not_top ≡ opposite top)
    (sum : IsSum one.content longer not_b truth bits carry)
    (gate : Computes two.content fits (λ s. value_under s carry && value_under s not_top)) where
  width : length longer ≡ length rest + 1
  width = ap length el ∙ omega arith

  -- what the difference says
  module _ (s : ℕ → Bool) (h : Satisfies s two.content) where
    abbrev w : ℕ
    w = length rest + 1

    abbrev r : ℕ
    r = bit (value_under s next) + 2 * number_under s rest

    r_is : number_under s longer ≡ r
    r_is = ap (number_under s) el

    r_small : r < 2 ^ w
    r_small = subst (λ n. n < 2 ^ w) r_is (subst (λ n. number_under s longer < 2 ^ n) width (under_below s longer))

    d_small : number_under s bits < 2 ^ w
    d_small = subst (λ n. number_under s bits < 2 ^ n) (sum.count ∙ width) (under_below s bits)

    low : number_under s not_b + number_under s (take w b) + 1 ≡ 2 ^ w
    low = under_inverted s (take w b) not_b en ∙ ap (λ n. 2 ^ n) (length-take-le w b (omega arith))

    difference : number_under s bits + 2 ^ w * bit (value_under s carry) + number_under s (take w b) ≡ r + 2 ^ w
    difference =
        let is : number_under s bits + 2 ^ length longer * bit (value_under s carry) ≡ number_under s longer + number_under s not_b + bit (value_under s truth) = sum.is s (satisfies_old g s h) in
        let on : number_under s bits + 2 ^ w * bit (value_under s carry) ≡ r + number_under s not_b + 1 =
        ap (λ n. number_under s bits + 2 ^ n * bit (value_under s carry)) (sym width) ∙ is ∙ ap₂ (λ x t. x + number_under s not_b + bit t) r_is (always.is s (satisfies_old f s (satisfies_old g s h))) in
        omega (arith, on, low)

    high_is : value_under s not_top ≡ not (not (eqb (number_under s (drop w b)) 0))
    high_is = is_not top not_top et s ∙ ap not (top_is.is s (satisfies_old f s (satisfies_old g s h)))

    whole : number_under s b ≡ number_under s (take w b) + 2 ^ w * number_under s (drop w b)
    whole = under_split s w b (omega arith)

    fits_value : value_under s fits ≡ leb (number_under s b) r
    fits_value =
        gate.is s h ∙ ap (λ x. value_under s carry && x) high_is
        ∙ fits_is (2 ^ w) r (number_under s (take w b)) (number_under s (drop w b)) (number_under s bits) (value_under s carry) r_small d_small difference
        ∙ ap (λ x. leb x r) (sym whole)

    left_value : cond (leb (number_under s b) r) (number_under s bits) r ≡ cond (leb (number_under s b) r) (r - number_under s b) r
    left_value =
        ap (λ x. cond (leb x r) (number_under s bits) r) whole
        ∙ left_is (2 ^ w) r (number_under s (take w b)) (number_under s (drop w b)) (number_under s bits) (value_under s carry) r_small d_small difference
        ∙ ap (λ x. cond (leb x r) (r - x) r) (sym whole)

  pub step_bit : {three : Built} {n : ℕ} → Grows two three n → Computes three.content fits (λ s. leb (number_under s b) (bit (value_under s next) + 2 * number_under s rest))
  step_bit last = record { known = omega (arith, gate.known, last.vars); is = λ s h. fits_value s (satisfies_old last s h) }

  pub step_rest : {three : Built} {n : ℕ} (left : List Lit) → Grows two three n → IsBits three.content (length bits) left (λ s. pairwise (λ x y. cond (value_under s fits) x y) (values_under s bits) (values_under s longer))
      → IsWord three.content (length rest + 1) left (λ s. cond (leb (number_under s b) (bit (value_under s next) + 2 * number_under s rest)) (bit (value_under s next) + 2 * number_under s rest - number_under s b) (bit (value_under s next) + 2 * number_under s rest))
  step_rest left last is = record {
    count = is.count ∙ sum.count ∙ width;
    known = is.known;
    is = λ s h.
        let here = satisfies_old last s h in
        ap number (is.is s h) ∙ choose_number s (value_under s fits) bits longer sum.count
        ∙ ap₂ (λ c x. cond c (number_under s bits) x) (fits_value s here) (r_is s here) ∙ left_value s here;
  }

pub word_length : {word rest : List Lit} {next : Lit} → word ≡ next ∷ rest → length word ≡ length rest + 1
word_length e = ap length e ∙ omega arith

module _ {old new : Built} {m : ℕ} (a b : List Lit) (k : ℕ) (d : Lit) (grows : Grows old new m) (below : k < length a) (rest : List Lit)
    (rest_is : IsWord old.content k rest (λ s. remainder (number_under s (drop (length a - k) a)) (number_under s b))) where
  next_at : (s : ℕ → Bool) → number_under s (drop (length a - (k + 1)) a) ≡ bit (value_under s (get_or a (length a - 1 - k) d)) + 2 * number_under s (drop (length a - k) a)
  next_at s =
      let at : length a - (k + 1) ≡ length a - 1 - k = omega arith in
      let up : length a - 1 - k + 1 ≡ length a - k = omega arith in
      ap (λ j. number_under s (drop j a)) at ∙ ap (number_under s) (drop_more a (length a - 1 - k) d (omega arith)) ∙ ap (λ j. bit (value_under s (get_or a (length a - 1 - k) d)) + 2 * number_under s (drop j a)) up

  pub quotient_more : (q longer : List Lit) (bit_lit : Lit) → IsWord old.content k q (λ s. divide k (number_under s (drop (length a - k) a)) (number_under s b))
      → Computes new.content bit_lit (λ s. leb (number_under s b) (bit (value_under s (get_or a (length a - 1 - k) d)) + 2 * number_under s rest))
      → longer ≡ bit_lit ∷ q
      → IsWord new.content (k + 1) longer (λ s. divide (k + 1) (number_under s (drop (length a - (k + 1)) a)) (number_under s b))
  quotient_more q longer bit_lit q_is gate e = record {
    count = ap length e ∙ omega (arith, q_is.count);
    known = rw e (below_cons new.content.vars bit_lit q gate.known (below_on q grows q_is.known));
    is = λ s h.
        let before = satisfies_old grows s h in
        let x : ℕ = bit (value_under s (get_or a (length a - 1 - k) d)) in
        let up : suc k ≡ k + 1 = omega arith in
        ap (number_under s) e
        ∙ ap₂ (λ c n. bit c + 2 * n) (gate.is s h ∙ ap (λ n. leb (number_under s b) (bit (value_under s (get_or a (length a - 1 - k) d)) + 2 * n)) (rest_is.is s before)) (q_is.is s before)
        ∙ sym (next_quotient k (bit (value_under s (get_or a (length a - 1 - k) d))) (number_under s (drop (length a - k) a)) (number_under s b) (bit_small (value_under s (get_or a (length a - 1 - k) d))))
        ∙ ap₂ (λ j n. divide j n (number_under s b)) up (sym (next_at s));
  }

  pub remainder_more : (left : List Lit)
      → IsWord new.content (length rest + 1) left (λ s. cond (leb (number_under s b) (bit (value_under s (get_or a (length a - 1 - k) d)) + 2 * number_under s rest)) (bit (value_under s (get_or a (length a - 1 - k) d)) + 2 * number_under s rest - number_under s b) (bit (value_under s (get_or a (length a - 1 - k) d)) + 2 * number_under s rest))
      → IsWord new.content (k + 1) left (λ s. remainder (number_under s (drop (length a - (k + 1)) a)) (number_under s b))
  remainder_more left is = record {
    count = is.count ∙ omega (arith, rest_is.count);
    known = is.known;
    is = λ s h.
        is.is s h
        ∙ ap (λ n. cond (leb (number_under s b) (bit (value_under s (get_or a (length a - 1 - k) d)) + 2 * n)) (bit (value_under s (get_or a (length a - 1 - k) d)) + 2 * n - number_under s b) (bit (value_under s (get_or a (length a - 1 - k) d)) + 2 * n)) (rest_is.is s (satisfies_old grows s h))
        ∙ sym (next_remainder (bit (value_under s (get_or a (length a - 1 - k) d))) (number_under s (drop (length a - k) a)) (number_under s b) (bit_small (value_under s (get_or a (length a - 1 - k) d))))
        ∙ ap (λ n. remainder n (number_under s b)) (sym (next_at s));
  }

pub division_none : (c : Content) (a b : List Lit) (n : ℕ) → length a ≤ n → IsWord c 0 [] (λ s. remainder (number_under s (drop n a)) (number_under s b))
division_none c a b n h = record { count = refl; known = below_nil c.vars; is = λ s m. rw (drop_all n a h) (none_left (number_under s b)) }
  where
    none_left : (b : ℕ) → 0 ≡ remainder 0 b
    none_left zero = refl
    none_left (suc b) = sym (remainder_some 0 b ∙ zero-mod (suc b))

-- the room for one more step
pub step_room : (n k w : ℕ) → k < n → w ≡ k → k * (3 * n + 1) + (3 * w + 4) ≤ (k + 1) * (3 * n + 1)
step_room n k w h e = omega (arith, h, e)

pub steps_room : (n k : ℕ) → k ≤ n → k * (3 * n + 1) ≤ n * (3 * n + 1)
steps_room n k h = mul-le-mul_right (3 * n + 1) h

pub quotient_none : (c : Content) (a b q : List Lit) (n : ℕ) → length a ≤ n → q ≡ [] → IsWord c 0 q (λ s. divide 0 (number_under s (drop n a)) (number_under s b))
quotient_none c a b q n h e = subst (λ (x : List Lit). IsWord c 0 x (λ s. divide 0 (number_under s (drop n a)) (number_under s b))) (sym e) (record { count = refl; known = below_nil c.vars; is = λ s m. rw (drop_all n a h) (none_yet (number_under s b)) })
  where
    none_yet : (b : ℕ) → 0 ≡ divide 0 0 b
    none_yet zero = refl
    none_yet (suc b) = sym (divide_some 0 0 b ∙ zero-div (suc b))

pub rest_none : (c : Content) (a b r : List Lit) (n : ℕ) → length a ≤ n → r ≡ [] → IsWord c 0 r (λ s. remainder (number_under s (drop n a)) (number_under s b))
rest_none c a b r n h e = subst (λ (x : List Lit). IsWord c 0 x (λ s. remainder (number_under s (drop n a)) (number_under s b))) (sym e) (division_none c a b n h)
