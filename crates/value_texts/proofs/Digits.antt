-- Binary digits read as a number.
use Rattle.std.proofs.Common.{◌≡◌, ◌≢◌, ◌∙◌, ℕ, zero, suc, ◌+◌, ◌-◌, ◌*◌, ◌/◌, ◌%◌, ◌^◌, ◌<◌, ◌≤◌, true, false, List, [], ◌∷◌, ◌++◌, length, take, get_or, refl, sym, ap, subst, arith, codes, ne_eqb}
use Rattle.std.specs.Prelude.{not}
use Rattle.std.proofs.lemmas.Bool.{and_from}
use Rattle.std.proofs.lemmas.Nat.{mod_below}
use Rattle.std.proofs.lemmas.List.{take_more, append_cancel_left}
use Rattle.std.proofs.Math.Nat.{pow-le-pow_right, div-div-eq-div-mul, pow-succ'}
use Rattle.value_texts.specs.Texts.{binary}
use Rattle.value_texts.specs.Pieces.{is_free, is_mark}
use Rattle.value_texts.proofs.Splitting.{heads, tails}

halved : (a d m : ℕ) → d < 2 → (a * 2 + d) / 2 ^ suc m ≡ a / 2 ^ m
halved a d m l =
    let half : (a * 2 + d) / 2 ≡ a = omega (arith, l) in
    ap (λ x. (a * 2 + d) / x) (pow-succ' 2 m) ∙ sym (div-div-eq-div-mul (a * 2 + d) 2 (2 ^ m)) ∙ ap (λ x. x / 2 ^ m) half

-- one digit more at the end
pub binary_more : (n a d : ℕ) → d < 2 → binary (suc n) (a * 2 + d) ≡ binary n a ++ (48 + d) ∷ []
unfolding binary
binary_more zero a d l = (λ i. (let e : 48 + (a * 2 + d) / 2 ^ 0 % 2 ≡ 48 + d = omega (arith, l) in e) i ∷ [])
binary_more (suc m) a d l = (λ i. (48 + halved a d m l i % 2) ∷ binary_more m a d l i)

pub binary_length : (n a : ℕ) → length (binary n a) ≡ n
unfolding binary
binary_length zero a = refl
binary_length (suc n) a = ap suc (binary_length n a)

record IsBit (c : ℕ) : Type 0 where
  pub low : 48 ≤ c
  pub high : c ≤ 49

binary_bits : (n a i : ℕ) → i < length (binary n a) → IsBit (get_or (binary n a) i 0)
unfolding binary
binary_bits zero a i l = absurd (omega (arith, l))
binary_bits (suc n) a zero l = record { low = omega arith; high = omega (arith, mod_below (a / 2 ^ n) 2 (omega arith)) }
binary_bits (suc n) a (suc i) l = binary_bits n a i (omega (arith, l))

pub binary_free : (n a : ℕ) → is_free is_mark (binary n a) ≡ true
unfolding binary
binary_free zero a = refl
binary_free (suc n) a = and_from _ _ (ap not (no_mark (48 + a / 2 ^ n % 2) (omega arith))) (binary_free n a)
  where
    no_mark : (c : ℕ) → 48 ≤ c → is_mark c ≡ false
    no_mark c l = rw (ne_eqb c 32 (λ e. omega (arith, l, e)), ne_eqb c 40 (λ e. omega (arith, l, e)), ne_eqb c 41 (λ e. omega (arith, l, e))) refl

pub no_binary : (text : List ℕ) (i : ℕ) → i < length text → (48 ≤ get_or text i 0 → get_or text i 0 ≤ 49 → ⊥) → (n a : ℕ) → text ≢ binary n a
no_binary text i l g n a e =
    let bit = binary_bits n a i (subst (λ x. i < length x) e l) in
    let same : get_or text i 0 ≡ get_or (binary n a) i 0 = ap (λ x. get_or x i 0) e in
    g (omega (arith, bit.low, same)) (omega (arith, bit.high, same))

-- the loop over digits
pub no_digits : (text : List ℕ) → take 0 text ≡ binary 0 0
unfolding binary
no_digits text = refl

pub digit_more : (text : List ℕ) (i a : ℕ) → i < length text → take i text ≡ binary i a → 48 ≤ get_or text i 0 → get_or text i 0 ≤ 49 → take (i + 1) text ≡ binary (i + 1) (a * 2 + (get_or text i 0 - 48))
digit_more text i a l e low high =
    let back : 48 + (get_or text i 0 - 48) ≡ get_or text i 0 = omega (arith, low) in
    take_more text i 0 l ∙ (λ j. e j ++ sym back j ∷ []) ∙ sym (binary_more i a (get_or text i 0 - 48) (omega (arith, high))) ∙ ap (λ n. binary n (a * 2 + (get_or text i 0 - 48))) (omega arith)

pub bound_more : (i a d : ℕ) → a < 2 ^ i → d < 2 → a * 2 + d < 2 ^ (i + 1)
bound_more i a d l h =
    let e : 2 ^ (i + 1) ≡ 2 * 2 ^ i = ap (λ n. 2 ^ n) (omega arith) ∙ pow-succ' 2 i in
    omega (arith, l, h, e)

pub room : (i n a d : ℕ) → i < n → n ≤ 128 → a < 2 ^ i → d < 2 → a * 2 + d < 2 ^ 128
room i n a d l m h k =
    let up : 2 ^ (i + 1) ≤ 2 ^ 128 = pow-le-pow_right (omega arith) {i = i + 1} {j = 128} (omega (arith, l, m)) in
    omega (arith, bound_more i a d h k, up)

-- one number alone has these digits
last_split : (xs ys : List ℕ) (x y : ℕ) → length xs ≡ length ys → xs ++ x ∷ [] ≡ ys ++ y ∷ [] → (xs ≡ ys) × (x ≡ y)
last_split [] [] x y l e = (refl, heads x y [] [] e)
last_split (c ∷ xs) (d ∷ ys) x y l e =
    let same = last_split xs ys x y (omega (arith, l)) (tails c d (xs ++ x ∷ []) (ys ++ y ∷ []) e) in
    (λ i. heads c d (xs ++ x ∷ []) (ys ++ y ∷ []) e i ∷ same.0 i, same.1)
last_split [] (d ∷ ys) x y l e = absurd (omega (arith, l))
last_split (c ∷ xs) [] x y l e = absurd (omega (arith, l))

pub binary_injective : (n a c : ℕ) → a < 2 ^ n → c < 2 ^ n → binary n a ≡ binary n c → a ≡ c
binary_injective zero a c l h e = omega (arith, l, h)
binary_injective (suc n) a c l h e =
    let two : 2 ^ suc n ≡ 2 * 2 ^ n = pow-succ' 2 n in
    let parts = last_split (binary n (a / 2)) (binary n (c / 2)) (48 + a % 2) (48 + c % 2) (binary_length n (a / 2) ∙ sym (binary_length n (c / 2))) (sym (apart a) ∙ e ∙ apart c) in
    let high : a / 2 ≡ c / 2 = binary_injective n (a / 2) (c / 2) (omega (arith, l, two)) (omega (arith, h, two)) parts.0 in
    omega (arith, high, parts.1)
  where
    apart : (b : ℕ) → binary (suc n) b ≡ binary n (b / 2) ++ (48 + b % 2) ∷ []
    apart b = ap (binary (suc n)) (omega arith) ∙ binary_more n (b / 2) (b % 2) (omega arith)

-- the front and the number of digits
pub bits_length : (text digits : List ℕ) (n : ℕ) → text ≡ codes "0b" ++ digits → length digits ≢ n → (a : ℕ) → text ≢ codes "0b" ++ binary n a
bits_length text digits n e h a f = h (ap length (append_cancel_left (codes "0b") digits (binary n a) (sym e ∙ f)) ∙ binary_length n a)
