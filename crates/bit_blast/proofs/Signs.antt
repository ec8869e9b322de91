-- Division in two's complement.
use Rattle.std.proofs.Common.{◌≡◌, ◌∙◌, ℕ, zero, suc, ◌+◌, ◌-◌, ◌*◌, ◌%◌, ◌^◌, ◌<◌, ◌≤◌, Bool, true, false, not, ◌&&◌, eqb, List, Result, length, get_or, refl, sym, ap, ap₂, subst, arith}
use Rattle.std.specs.Prelude.{IfOk, ◌==◌, if◌then◌else◌}
use Rattle.std.proofs.lemmas.Bool.{ne_eqb}
use Rattle.std.proofs.lemmas.Result.{IfOk-weaker}
use Rattle.std.proofs.lemmas.List.{length-map}
use Rattle.std.proofs.Math.Nat.{mod-eq_of_lt, mod_self, mod-mod, zero-mod}
use Rattle.clause_logic.specs.declared.Lit.{Lit}
use Rattle.clause_search.specs.Content.{Content}
use Rattle.clause_gates.specs.Built.{Built}
use Rattle.y_tree.specs.BitVectors.{differ, wrap, negate, negate_if, is_negative, magnitude, remainder, signed_modulo}
use Rattle.clause_gates.specs.Bits.{value_under}
use Rattle.bit_blast.specs.Bits.{values_under, bit, number, number_under}
use Rattle.bit_blast.specs.Bitwise.{pairwise}
use Rattle.clause_gates.specs.Circuits.{Satisfies, Grows, Computes}
use Rattle.bit_blast.specs.Circuits.{IsBits, IsWord}
use Rattle.clause_gates.proofs.Growth.{satisfies_old}
use Rattle.bit_blast.proofs.Orders.{sign_is}
use Rattle.bit_blast.proofs.Rows.{under_below, keep_number}

-- what a word stands for, later
pub word_value : {old new : Built} {m : ℕ} (n : ℕ) (ls ms : List Lit) (f : (ℕ → Bool) → ℕ) → IsWord old.content n ls f → Grows old new m → ms ≡ ls → (s : ℕ → Bool) → Satisfies s new.content → number_under s ms ≡ f s
word_value n ls ms f w g e s h = ap (number_under s) e ∙ w.is s (satisfies_old g s h)

-- an operator on words of an equal length with equal values
pub word_on : (c : Content) (m n : ℕ) (q : List Lit) (f : ℕ → ℕ → ℕ → ℕ) (x y x' y' : (ℕ → Bool) → ℕ) → m ≡ n → ((s : ℕ → Bool) → Satisfies s c → x s ≡ x' s) → ((s : ℕ → Bool) → Satisfies s c → y s ≡ y' s)
    → IsWord c m q (λ s. f m (x s) (y s)) → IsWord c n q (λ s. f n (x' s) (y' s))
word_on c m n q f x y x' y' e ex ey w = record {
  count = w.count ∙ e;
  known = w.known;
  is = λ s h. w.is s h ∙ ap₂ (f m) (ex s h) (ey s h) ∙ ap (λ k. f k (x' s) (y' s)) e;
}

-- a negation of words of an equal length with equal values
pub negated_on : (c : Content) (m n : ℕ) (r : List Lit) (flag flag' : (ℕ → Bool) → Bool) (x x' : (ℕ → Bool) → ℕ) → m ≡ n → ((s : ℕ → Bool) → Satisfies s c → flag s ≡ flag' s) → ((s : ℕ → Bool) → Satisfies s c → x s ≡ x' s)
    → IsWord c m r (λ s. negate_if (flag s) m (x s)) → IsWord c n r (λ s. negate_if (flag' s) n (x' s))
negated_on c m n r flag flag' x x' e ef ex w = record {
  count = w.count ∙ e;
  known = w.known;
  is = λ s h. w.is s h ∙ ap₂ (λ b z. negate_if b m z) (ef s h) (ex s h) ∙ ap (λ k. negate_if (flag' s) k (x' s)) e;
}

pub magnitude_is : (s : ℕ → Bool) (a : List Lit) (n : ℕ) (d : Lit) → length a ≡ n → 0 < n → negate_if (value_under s (get_or a (n - 1) d)) (length a) (number_under s a) ≡ magnitude n (number_under s a)
magnitude_is s a n d e h =
    ap₂ (λ (b : Bool) (k : ℕ). negate_if b k (number_under s a)) (sym (sign_at s a n d e h)) e
  where
    sign_at : (s : ℕ → Bool) (a : List Lit) (n : ℕ) (d : Lit) → length a ≡ n → 0 < n → is_negative n (number_under s a) ≡ value_under s (get_or a (n - 1) d)
    sign_at s a n d e h = subst (λ (k : ℕ). is_negative k (number_under s a) ≡ value_under s (get_or a (k - 1) d)) e (sign_is s a d (omega (arith, e, h)))

pub sign_of : (s : ℕ → Bool) (a : List Lit) (n : ℕ) (d : Lit) → length a ≡ n → 0 < n → value_under s (get_or a (n - 1) d) ≡ is_negative n (number_under s a)
sign_of s a n d e h = sym (subst (λ (k : ℕ). is_negative k (number_under s a) ≡ value_under s (get_or a (k - 1) d)) e (sign_is s a d (omega (arith, e, h))))

pub sizes_room : (n m : ℕ) → m ≡ n → 3 * n + 3 * n + (m + m * (3 * m + 1)) ≤ 3 * (n * n) + 8 * n
sizes_room n m e = rw e (omega arith)

-- the cases of a remainder with the sign of the divisor
modulo_cases : ℕ → ℕ → ℕ → Bool → Bool → ℕ
modulo_cases n b u false false = u
modulo_cases n b u true false = if◌then◌else◌ (u == 0) 0 (wrap n (negate n u + b))
modulo_cases n b u false true = if◌then◌else◌ (u == 0) 0 (wrap n (u + b))
modulo_cases n b u true true = negate n u

cases_are : (n a b : ℕ) → signed_modulo n a b ≡ modulo_cases n b (remainder (magnitude n a) (magnitude n b)) (is_negative n a) (is_negative n b)
unfolding modulo_cases
cases_are n a b = refl

negate_small : (n u : ℕ) → negate n u % 2 ^ n ≡ negate n u
negate_small n u = mod-mod (2 ^ n - u) (2 ^ n)

negate_none : (n : ℕ) → negate n 0 ≡ 0
negate_none n = let e : 2 ^ n - 0 ≡ 2 ^ n = omega arith in ap (λ m. m % 2 ^ n) e ∙ mod_self (2 ^ n)

modulo_step : (n b u : ℕ) (x y : Bool) → u < 2 ^ n → wrap n (negate_if x n u + bit (differ x y && not (eqb u 0)) * b + 0) ≡ modulo_cases n b u x y
unfolding modulo_cases
modulo_step n b u false false h = let e : u + 0 * b + 0 ≡ u = omega arith in ap (wrap n) e ∙ mod-eq_of_lt h
modulo_step n b zero true false h =
    let e : negate n 0 + 0 * b + 0 ≡ 0 = omega (arith, negate_none n) in ap (wrap n) e ∙ zero-mod (2 ^ n)
modulo_step n b (suc u) true false h =
    let e : negate n (suc u) + 1 * b + 0 ≡ negate n (suc u) + b = omega arith in
    rw (ne_eqb (suc u) 0 (λ e. omega (arith, e))) (ap (wrap n) e)
modulo_step n b zero false true h = let e : 0 + 0 * b + 0 ≡ 0 = omega arith in ap (wrap n) e ∙ zero-mod (2 ^ n)
modulo_step n b (suc u) false true h =
    let e : suc u + 1 * b + 0 ≡ suc u + b = omega arith in
    rw (ne_eqb (suc u) 0 (λ e. omega (arith, e))) (ap (wrap n) e)
modulo_step n b u true true h = let e : negate n u + 0 * b + 0 ≡ negate n u = omega arith in ap (wrap n) e ∙ negate_small n u

-- the remainder with the sign of the divisor
pub modulo_is : {one two three four five : Built} {k l m o : ℕ} (a b rest signed addend r : List Lit) (some apart flag zero_lit : Lit) (n : ℕ) (d : Lit)
    → length a ≡ n → length b ≡ n → 0 < n
    → Grows one two k → Grows two three l → Grows three four m → Grows four five o
    → IsWord one.content n rest (λ s. remainder (magnitude n (number_under s a)) (magnitude n (number_under s b)))
    → IsWord two.content n signed (λ s. negate_if (value_under s (get_or a (n - 1) d)) n (number_under s rest))
    → Computes three.content flag (λ s. value_under s apart && value_under s some)
    → ((s : ℕ → Bool) → Satisfies s three.content → value_under s some ≡ not (eqb (number_under s rest) 0))
    → ((s : ℕ → Bool) → Satisfies s three.content → value_under s apart ≡ differ (value_under s (get_or a (n - 1) d)) (value_under s (get_or b (n - 1) d)))
    → IsBits four.content (length b) addend (λ s. pairwise (λ x y. value_under s flag && x) (values_under s b) (values_under s b))
    → ((s : ℕ → Bool) → Satisfies s five.content → value_under s zero_lit ≡ false)
    → IsWord five.content n r (λ s. wrap n (number_under s signed + number_under s addend + bit (value_under s zero_lit)))
    → IsWord five.content n r (λ s. signed_modulo n (number_under s a) (number_under s b))
modulo_is a b rest signed addend r some apart flag zero_lit n d ea eb pos f g h i rest_is signed_is flag_is some_is apart_is addend_is zero_is word = record {
  count = word.count;
  known = word.known;
  is = λ s five.
      let four = satisfies_old i s five in
      let three = satisfies_old h s four in
      let two = satisfies_old g s three in
      let one = satisfies_old f s two in
      let x : Bool = is_negative n (number_under s a) in
      let y : Bool = is_negative n (number_under s b) in
      let sx : value_under s (get_or a (n - 1) d) ≡ is_negative n (number_under s a) = sign_of s a n d ea pos in
      let sy : value_under s (get_or b (n - 1) d) ≡ is_negative n (number_under s b) = sign_of s b n d eb pos in
      let u : number_under s rest ≡ remainder (magnitude n (number_under s a)) (magnitude n (number_under s b)) = rest_is.is s one in
      let small : number_under s rest < 2 ^ n = subst (λ j. number_under s rest < 2 ^ j) rest_is.count (under_below s rest) in
      let flagged : value_under s flag ≡ differ (is_negative n (number_under s a)) (is_negative n (number_under s b)) && not (eqb (number_under s rest) 0) =
      flag_is.is s three ∙ ap₂ (λ p q. p && q) (apart_is s three ∙ ap₂ differ sx sy) (some_is s three) in
      let added : number_under s addend ≡ bit (differ (is_negative n (number_under s a)) (is_negative n (number_under s b)) && not (eqb (number_under s rest) 0)) * number_under s b =
      ap number (addend_is.is s four) ∙ keep_number (value_under s flag) (values_under s b) ∙ ap (λ p. bit p * number_under s b) flagged in
      word.is s five
      ∙ ap₂ (λ p q. wrap n (p + q + bit (value_under s zero_lit))) (signed_is.is s two ∙ ap (λ p. negate_if p n (number_under s rest)) sx) added
      ∙ ap (λ p. wrap n (negate_if (is_negative n (number_under s a)) n (number_under s rest) + bit (differ (is_negative n (number_under s a)) (is_negative n (number_under s b)) && not (eqb (number_under s rest) 0)) * number_under s b + bit p)) (zero_is s five)
      ∙ modulo_step n (number_under s b) (number_under s rest) (is_negative n (number_under s a)) (is_negative n (number_under s b)) small
      ∙ ap (λ v. modulo_cases n (number_under s b) v (is_negative n (number_under s a)) (is_negative n (number_under s b))) u
      ∙ sym (cases_are n (number_under s a) (number_under s b));
}

-- bits as a word
pub word_of_bits : {E : Type 0} (r : Result (List Lit) E) (c : Content) (n : ℕ) (f : (ℕ → Bool) → List Bool) (g : (ℕ → Bool) → ℕ) → IfOk r (λ ls. IsBits c n ls f) → ((s : ℕ → Bool) → number (f s) ≡ g s) → IfOk r (λ ls. IsWord c n ls g)
word_of_bits r c n f g h e = IfOk-weaker r (λ ls. IsBits c n ls f) (λ ls. IsWord c n ls g) (λ ls k. record { count = k.count; known = k.known; is = λ s m. ap number (k.is s m) ∙ e s }) h

pub same_lengths : (s : ℕ → Bool) (a b : List Lit) → length a ≡ length b → length (values_under s a) ≡ length (values_under s b)
same_lengths s a b e = length-map a (value_under s) ∙ e ∙ sym (length-map b (value_under s))

pub no_carry : (n a b : ℕ) (f : Bool) → f ≡ false → wrap n (a + b + bit f) ≡ wrap n (a + b)
no_carry n a b f e = ap (λ x. wrap n (a + b + bit x)) e ∙ (let z : a + b + 0 ≡ a + b = omega arith in ap (wrap n) z)
