-- Words, bit by bit.
use Rattle.std.proofs.Common.{◌≡◌, ◌∙◌, ℕ, zero, suc, ◌+◌, ◌-◌, ◌*◌, ◌^◌, ◌<◌, ◌≤◌, Bool, true, false, not, ◌&&◌, Result, List, [], ◌∷◌, ◌++◌, length, map, take, drop, replicate, get_or, refl, sym, ap, ap₂, subst, arith}
use Rattle.std.proofs.lemmas.List.{length-take-le, length_push, map_more, map-append, length-map, take_all, drop_more, length-drop, take-map}
use Rattle.std.proofs.lemmas.Result.{IfOk-weaker}
use Rattle.std.specs.Prelude.{IfOk}
use Rattle.clause_logic.specs.Clauses.{opposite}
use Rattle.clause_logic.specs.declared.Lit.{Lit}
use Rattle.clause_search.specs.Content.{Content}
use Rattle.clause_gates.specs.Built.{Built}
use Rattle.y_tree.specs.BitVectors.{differ, wrap, subtract, negate_if}
use Rattle.clause_gates.specs.Bits.{value_under, majority}
use Rattle.bit_blast.specs.Bits.{values_under, bit, number, number_under}
use Rattle.bit_blast.specs.Bitwise.{pairwise}
use Rattle.clause_gates.specs.Circuits.{Satisfies, Grows, Computes}
use Rattle.bit_blast.specs.Circuits.{IsBits, IsWord, IsSum}
use Rattle.clause_gates.proofs.Growth.{satisfies_old}
use Rattle.bit_blast.proofs.Numbers.{wrap_from, number_below, number_not, wrap_double, bit_small, number_take}
use Rattle.bit_blast.proofs.Lists.{below_push, below_on, below_cons, below_at, under_push, under_more, under_opposite}
use Rattle.bit_blast.proofs.Sums.{adder_step}
use Rattle.std.proofs.Math.Nat.{pow-suc, mod-eq_of_lt, mod-add-mod, add-mod-mod, mod-mod, mul-le-mul_left}

pairwise_push : (f : Bool → Bool → Bool) (xs ys : List Bool) (x y : Bool) → length xs ≡ length ys → pairwise f (xs ++ x ∷ []) (ys ++ y ∷ []) ≡ pairwise f xs ys ++ f x y ∷ []
pairwise_push f [] [] x y h = refl
pairwise_push f [] (w ∷ ys) x y h = absurd (omega (arith, h))
pairwise_push f (v ∷ xs) [] x y h = absurd (omega (arith, h))
pairwise_push f (v ∷ xs) (w ∷ ys) x y h = ap (λ r. f v w ∷ r) (pairwise_push f xs ys x y (omega (arith, h)))

pub bits_more : {old new : Built} {m : ℕ} (f : (ℕ → Bool) → Bool → Bool → Bool) (a b : List Lit) (i : ℕ) (d g : Lit) (bits longer : List Lit) → Grows old new m
    → IsBits old.content i bits (λ s. pairwise (f s) (values_under s (take i a)) (values_under s (take i b)))
    → Computes new.content g (λ s. f s (value_under s (get_or a i d)) (value_under s (get_or b i d)))
    → i < length a → i < length b → longer ≡ bits ++ g ∷ []
    → IsBits new.content (i + 1) longer (λ s. pairwise (f s) (values_under s (take (i + 1) a)) (values_under s (take (i + 1) b)))
bits_more {old} {new} f a b i d g bits longer grows is gate ha hb e = record {
  count = ap length e ∙ length_push bits g ∙ omega (arith, is.count);
  known = rw e (below_push new.content.vars bits g (below_on bits grows is.known) gate.known);
  is = λ s m.
      let na : length (values_under s (take i a)) ≡ length (values_under s (take i b)) =
      length-map (take i a) (value_under s) ∙ length-take-le i a (omega arith) ∙ sym (length-map (take i b) (value_under s) ∙ length-take-le i b (omega arith)) in
      ap (values_under s) e ∙ map-append (value_under s) bits (g ∷ [])
      ∙ ap₂ (λ xs x. xs ++ x ∷ []) (is.is s (satisfies_old grows s m)) (gate.is s m)
      ∙ sym (ap₂ (pairwise (f s)) (map_more (value_under s) a i d ha) (map_more (value_under s) b i d hb)
      ∙ pairwise_push (f s) (values_under s (take i a)) (values_under s (take i b)) (value_under s (get_or a i d)) (value_under s (get_or b i d)) na);
}

pub under_below : (s : ℕ → Bool) (ls : List Lit) → number_under s ls < 2 ^ length ls
under_below s ls = subst (λ n. number_under s ls < 2 ^ n) (length-map ls (value_under s)) (number_below (values_under s ls))

-- the sum of two words, with its last bit
pub sum_last : {old new : Built} {m : ℕ} (a b : List Lit) (last : ℕ) (d first carry high : Lit) (bits longer : List Lit) → Grows old new m
    → IsSum old.content (take last a) (take last b) first bits carry
    → Computes new.content high (λ s. differ (differ (value_under s (get_or a last d)) (value_under s (get_or b last d))) (value_under s carry))
    → length a ≡ last + 1 → length b ≡ last + 1 → longer ≡ bits ++ high ∷ []
    → IsWord new.content (length a) longer (λ s. wrap (length a) (number_under s a + number_under s b + bit (value_under s first)))
sum_last {old} {new} a b last d first carry high bits longer grows is gate ha hb e =
    let na : length (take last a) ≡ last = length-take-le last a (omega arith) in
    let long : length longer ≡ length a = ap length e ∙ length_push bits high ∙ omega (arith, is.count, na) in
    record {
      count = long;
      known = rw e (below_push new.content.vars bits high (below_on bits grows is.bits_known) gate.known);
      is = λ s m.
          let before = is.is s (satisfies_old grows s m) in
          let small : number_under s longer < 2 ^ length a = subst (λ n. number_under s longer < 2 ^ n) long (under_below s longer) in
          let whole_a : number_under s a ≡ number_under s (take last a) + 2 ^ last * bit (value_under s (get_or a last d)) = sym (ap (number_under s) (take_all (last + 1) a (omega arith))) ∙ under_more s a last d (omega arith) in
          let whole_b : number_under s b ≡ number_under s (take last b) + 2 ^ last * bit (value_under s (get_or b last d)) = sym (ap (number_under s) (take_all (last + 1) b (omega arith))) ∙ under_more s b last d (omega arith) in
          let pow : 2 ^ length a ≡ 2 ^ last * 2 = ap (λ n. 2 ^ n) (ha ∙ omega arith) ∙ pow-suc 2 last in
          let here : number_under s longer ≡ number_under s bits + 2 ^ last * bit (differ (differ (value_under s (get_or a last d)) (value_under s (get_or b last d))) (value_under s carry)) =
          ap (number_under s) e ∙ under_push s bits high ∙ ap₂ (λ n x. number_under s bits + 2 ^ n * bit x) (is.count ∙ na) (gate.is s m) in
          let before' : number_under s bits + 2 ^ last * bit (value_under s carry) ≡ number_under s (take last a) + number_under s (take last b) + bit (value_under s first) = ap (λ n. number_under s bits + 2 ^ n * bit (value_under s carry)) (sym na) ∙ before in
          let step = adder_step (2 ^ last) (number_under s bits) (number_under s (take last a)) (number_under s (take last b)) (bit (value_under s first)) (value_under s (get_or a last d)) (value_under s (get_or b last d)) (value_under s carry) before' in
          wrap_from (length a) (number_under s longer) (bit (majority (value_under s (get_or a last d)) (value_under s (get_or b last d)) (value_under s carry))) _ small
          (rw (here, pow, whole_a, whole_b) step);
    }

pub last_room : (a : List Lit) → 0 < length a → 2 * length (take (length a - 1) a) + 1 ≤ 2 * length a
last_room a h = omega (arith, length-take-le (length a - 1) a (omega arith))

pub bits_as : (c : Content) (n : ℕ) (ls ms : List Lit) (f : (ℕ → Bool) → List Bool) → IsBits c n ls f → ms ≡ ls → IsBits c n ms f
bits_as c n ls ms f h e = subst (λ (x : List Lit). IsBits c n x f) (sym e) h

pub sum_as : (c : Content) (a b : List Lit) (first : Lit) (bits ms : List Lit) (last : Lit) → IsSum c a b first bits last → ms ≡ bits → IsSum c a b first ms last
sum_as c a b first bits ms last h e = subst (λ (x : List Lit). IsSum c a b first x last) (sym e) h

pub word_is : (c : Content) (n : ℕ) (ls ms : List Lit) (f : (ℕ → Bool) → ℕ) → IsWord c n ls f → ms ≡ ls → IsWord c n ms f
word_is c n ls ms f h e = subst (λ (x : List Lit). IsWord c n x f) (sym e) h

pub word_as : (c : Content) (n : ℕ) (ls : List Lit) (f g : (ℕ → Bool) → ℕ) → IsWord c n ls f → ((s : ℕ → Bool) → Satisfies s c → f s ≡ g s) → IsWord c n ls g
word_as c n ls f g w e = record { count = w.count; known = w.known; is = λ s h. w.is s h ∙ e s h }

pub ok_word : {E : Type 0} (r : Result (List Lit) E) (c : Content) (n : ℕ) (f g : (ℕ → Bool) → ℕ) → IfOk r (λ ls. IsWord c n ls f) → ((s : ℕ → Bool) → Satisfies s c → f s ≡ g s) → IfOk r (λ ls. IsWord c n ls g)
ok_word r c n f g h e = IfOk-weaker r (λ ls. IsWord c n ls f) (λ ls. IsWord c n ls g) (λ ls k. word_as c n ls f g k e) h

-- the number of inverted literals
pub under_inverted : (s : ℕ → Bool) (ls inv : List Lit) → inv ≡ map opposite ls → number_under s inv + number_under s ls + 1 ≡ 2 ^ length ls
under_inverted s ls inv e =
    rw (e, under_opposite s ls) (number_not (values_under s ls) ∙ ap (λ n. 2 ^ n) (length-map ls (value_under s)))

pub difference_is : (n a b m : ℕ) → m + b + 1 ≡ 2 ^ n → wrap n (a + m + 1) ≡ subtract n a b
difference_is n a b m e = let f : a + m + 1 ≡ a + (2 ^ n - b) = omega (arith, e) in ap (wrap n) f

flip_true : (xs : List Bool) → pairwise (λ x y. differ true x) xs xs ≡ map not xs
flip_true [] = refl
flip_true (x ∷ xs) = ap (λ r. not x ∷ r) (flip_true xs)

flip_false : (xs : List Bool) → pairwise (λ x y. differ false x) xs xs ≡ xs
flip_false [] = refl
flip_false (x ∷ xs) = ap (λ r. x ∷ r) (flip_false xs)

-- each bit inverted where a flag is true, and the flag added
pub negated_is : (flag : Bool) (xs : List Bool) (z : ℕ) → z ≡ 0 → wrap (length xs) (number (pairwise (λ x y. differ flag x) xs xs) + z + bit flag) ≡ negate_if flag (length xs) (number xs)
negated_is true xs z e =
    let f : number (map not xs) + z + 1 ≡ 2 ^ length xs - number xs = omega (arith, number_not xs) in
    ap (λ r. wrap (length xs) (number r + z + 1)) (flip_true xs) ∙ ap (wrap (length xs)) f
negated_is false xs z e =
    let f : number xs + z + 0 ≡ number xs = omega arith in
    ap (λ r. wrap (length xs) (number r + z + 0)) (flip_false xs) ∙ ap (wrap (length xs)) f ∙ mod-eq_of_lt (number_below xs)

-- each bit kept where a flag is true
pub keep_number : (flag : Bool) (xs : List Bool) → number (pairwise (λ x y. flag && x) xs xs) ≡ bit flag * number xs
keep_number true [] = refl
keep_number false [] = refl
keep_number true (x ∷ xs) = omega (arith, keep_number true xs)
keep_number false (x ∷ xs) = omega (arith, keep_number false xs)

pub under_zeros : (s : ℕ → Bool) (n : ℕ) (l : Lit) → value_under s l ≡ false → number_under s (replicate n l) ≡ 0
under_zeros s zero l e = refl
under_zeros s (suc n) l e = rw (e, under_zeros s n l e) refl

-- a row of a product
pub row_is : {mid new : Built} {m : ℕ} (flag zero_lit : Lit) (a row high rest r : List Lit) (d : Lit) → Grows mid new m → 0 < length a
    → IsBits mid.content (length a) row (λ s. pairwise (λ x y. value_under s flag && x) (values_under s a) (values_under s a))
    → IsWord new.content (length (drop 1 row)) rest (λ s. wrap (length (drop 1 row)) (number_under s (drop 1 row) + number_under s high + bit (value_under s zero_lit)))
    → ((s : ℕ → Bool) → Satisfies s new.content → value_under s zero_lit ≡ false)
    → r ≡ get_or row 0 d ∷ rest
    → IsWord new.content (length a) r (λ s. wrap (length a) (bit (value_under s flag) * number_under s a + 2 * number_under s high))
row_is {mid} {new} flag zero_lit a row high rest r d grows some bits word zeros e =
    let split : row ≡ get_or row 0 d ∷ drop 1 row = drop_more row 0 d (omega (arith, bits.count)) in
    let n : length (drop 1 row) + 1 ≡ length a = omega (arith, length-drop 1 row, bits.count) in
    record {
      count = ap length e ∙ omega (arith, word.count, n);
      known = rw e (below_cons new.content.vars (get_or row 0 d) rest (omega (arith, below_at mid.content.vars row 0 d bits.known (omega (arith, bits.count)), grows.vars)) word.known);
      is = λ s h.
          let k : ℕ = length (drop 1 row) in
          let len : suc (length (drop 1 row)) ≡ length a = omega (arith, n) in
          let product : number_under s row ≡ bit (value_under s flag) * number_under s a = ap number (bits.is s (satisfies_old grows s h)) ∙ keep_number (value_under s flag) (values_under s a) in
          let parts : number_under s row ≡ bit (value_under s (get_or row 0 d)) + 2 * number_under s (drop 1 row) = ap (number_under s) split in
          let whole : bit (value_under s (get_or row 0 d)) + 2 * (number_under s (drop 1 row) + number_under s high) ≡ bit (value_under s flag) * number_under s a + 2 * number_under s high = omega (arith, product, parts) in
          let z : number_under s (drop 1 row) + number_under s high + bit (value_under s zero_lit) ≡ number_under s (drop 1 row) + number_under s high = ap (λ b. number_under s (drop 1 row) + number_under s high + bit b) (zeros s h) ∙ omega arith in
          ap (number_under s) e
          ∙ ap (λ x. bit (value_under s (get_or row 0 d)) + 2 * x) (word.is s h ∙ ap (wrap (length (drop 1 row))) z)
          ∙ sym (wrap_double (length (drop 1 row)) (number_under s (drop 1 row) + number_under s high) (bit (value_under s (get_or row 0 d))) (bit_small (value_under s (get_or row 0 d))))
          ∙ ap (wrap (suc (length (drop 1 row)))) whole
          ∙ ap (λ j. wrap j (bit (value_under s flag) * number_under s a + 2 * number_under s high)) len;
    }

wrap_twice : (k n : ℕ) → wrap (suc k) (2 * n) ≡ 2 * wrap k n
wrap_twice k n = let z : 2 * n ≡ 0 + 2 * n = omega arith in ap (wrap (suc k)) z ∙ wrap_double k n 0 (omega arith) ∙ omega arith

-- one more row
row_step : (k a y : ℕ) (b : Bool) → wrap (suc k) (bit b * wrap (suc k) a + 2 * wrap k (a * y)) ≡ wrap (suc k) (a * (bit b + 2 * y))
row_step k a y true =
    let e : wrap (suc k) (2 * (a * y)) ≡ 2 * wrap k (a * y) = wrap_twice k (a * y) in
    let f : 1 * wrap (suc k) a + 2 * wrap k (a * y) ≡ wrap (suc k) a + wrap (suc k) (2 * (a * y)) = omega (arith, e) in
    let g : a + 2 * (a * y) ≡ a * (1 + 2 * y) = omega arith in
    ap (wrap (suc k)) f ∙ mod-add-mod a (2 ^ suc k) (wrap (suc k) (2 * (a * y))) ∙ add-mod-mod a (2 * (a * y)) (2 ^ suc k) ∙ ap (wrap (suc k)) g
row_step k a y false =
    let e : wrap (suc k) (2 * (a * y)) ≡ 2 * wrap k (a * y) = wrap_twice k (a * y) in
    let f : 0 * wrap (suc k) a + 2 * wrap k (a * y) ≡ wrap (suc k) (2 * (a * y)) = omega (arith, e) in
    let g : 2 * (a * y) ≡ a * (0 + 2 * y) = omega arith in
    ap (wrap (suc k)) f ∙ mod-mod (2 * (a * y)) (2 ^ suc k) ∙ ap (wrap (suc k)) g

pub product_more : {old new : Built} {m : ℕ} (a b high r : List Lit) (k : ℕ) (d : Lit) → Grows old new m → k < length a → length a ≡ length b
    → IsWord old.content k high (λ s. wrap k (number_under s a * number_under s (drop (length a - k) b)))
    → IsWord new.content (length (take (k + 1) a)) r (λ s. wrap (length (take (k + 1) a)) (bit (value_under s (get_or b (length a - 1 - k) d)) * number_under s (take (k + 1) a) + 2 * number_under s high))
    → IsWord new.content (k + 1) r (λ s. wrap (k + 1) (number_under s a * number_under s (drop (length a - (k + 1)) b)))
product_more {old} {new} a b high r k d grows below same before row =
    let len : length (take (k + 1) a) ≡ k + 1 = length-take-le (k + 1) a (omega arith) in
    let up : k + 1 ≡ suc k = omega arith in
    let at : length a - (k + 1) ≡ length a - 1 - k = omega arith in
    let next : length a - 1 - k + 1 ≡ length a - k = omega arith in
    record {
      count = row.count ∙ len;
      known = row.known;
      is = λ s h.
          let bit_k = value_under s (get_or b (length a - 1 - k) d) in
          let y = number_under s (drop (length a - k) b) in
          let low : number_under s (take (k + 1) a) ≡ wrap (suc k) (number_under s a) =
          ap number (sym (take-map (value_under s) (k + 1) a)) ∙ number_take (k + 1) (values_under s a) ∙ ap (λ j. wrap j (number_under s a)) up in
          let split : number_under s (drop (length a - (k + 1)) b) ≡ bit bit_k + 2 * y =
          ap (λ j. number_under s (drop j b)) at ∙ ap (number_under s) (drop_more b (length a - 1 - k) d (omega arith)) ∙ ap (λ j. bit bit_k + 2 * number_under s (drop j b)) next in
          row.is s h
          ∙ ap (λ j. wrap j (bit bit_k * number_under s (take (k + 1) a) + 2 * number_under s high)) (len ∙ up)
          ∙ ap₂ (λ x z. wrap (suc k) (bit bit_k * x + 2 * z)) low (before.is s (satisfies_old grows s h))
          ∙ row_step k (number_under s a) y bit_k
          ∙ ap (λ x. wrap (suc k) (number_under s a * x)) (sym split)
          ∙ ap (λ j. wrap j (number_under s a * number_under s (drop (length a - (k + 1)) b))) (sym up);
    }

-- a word negated where a flag is true
pub negation_is : {mid new : Built} {m : ℕ} (flag : Lit) (a flipped zeros : List Lit) (zero_lit : Lit) → Grows mid new m
    → IsBits mid.content (length a) flipped (λ s. pairwise (λ x y. differ (value_under s flag) x) (values_under s a) (values_under s a)) → zeros ≡ replicate (length a) zero_lit
    → ((s : ℕ → Bool) → Satisfies s new.content → value_under s zero_lit ≡ false)
    → (s : ℕ → Bool) → Satisfies s new.content → wrap (length flipped) (number_under s flipped + number_under s zeros + bit (value_under s flag)) ≡ negate_if (value_under s flag) (length a) (number_under s a)
negation_is flag a flipped zeros zero_lit grows bits e zero_is s h =
    let n : length (values_under s a) ≡ length a = length-map a (value_under s) in
    ap₂ (λ j x. wrap j (number x + number_under s zeros + bit (value_under s flag))) (bits.count ∙ sym n) (bits.is s (satisfies_old grows s h))
    ∙ negated_is (value_under s flag) (values_under s a) (number_under s zeros) (ap (number_under s) e ∙ under_zeros s (length a) zero_lit (zero_is s h))
    ∙ ap (λ j. negate_if (value_under s flag) j (number_under s a)) n

pub row_from : {mid new : Built} {m : ℕ} (flag zero_lit : Lit) (a row tail high rest r : List Lit) (d : Lit) → Grows mid new m → 0 < length a → tail ≡ drop 1 row
    → IsBits mid.content (length a) row (λ s. pairwise (λ x y. value_under s flag && x) (values_under s a) (values_under s a))
    → IsWord new.content (length tail) rest (λ s. wrap (length tail) (number_under s tail + number_under s high + bit (value_under s zero_lit)))
    → ((s : ℕ → Bool) → Satisfies s new.content → value_under s zero_lit ≡ false)
    → r ≡ get_or row 0 d ∷ rest
    → IsWord new.content (length a) r (λ s. wrap (length a) (bit (value_under s flag) * number_under s a + 2 * number_under s high))
row_from {mid} {new} flag zero_lit a row tail high rest r d grows some et bits word zeros e =
    row_is flag zero_lit a row high rest r d grows some bits (subst (λ (t : List Lit). IsWord new.content (length t) rest (λ s. wrap (length t) (number_under s t + number_under s high + bit (value_under s zero_lit)))) et word) zeros e

more_rows : (n k : ℕ) → k ≤ n → n * k ≤ n * n
more_rows n k h = mul-le-mul_left n h

pub row_room_next : (a : List Lit) (k : ℕ) → k < length a → 3 * (length a * k) + 3 * length (take (k + 1) a) ≤ 3 * (length a * (k + 1))
row_room_next a k h =
    omega (arith, length-take-le (k + 1) a (omega arith))

pub row_room : (a : List Lit) (k : ℕ) → k < length a → 3 * (length a * k) + 3 * length (take (k + 1) a) ≤ 3 * (length a * length a)
row_room a k h = omega (arith, row_room_next a k h, more_rows (length a) (k + 1) (omega arith))
