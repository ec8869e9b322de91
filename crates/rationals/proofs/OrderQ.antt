-- The order of the rational numbers, and its linear arithmetic.
use Rattle.std.proofs.Common.{◌≡◌, ℕ, zero, suc, ◌*◌, ◌<◌, Bool, true, false, T, ◌⊎◌, inl, inr, refl, sym, ap, ◌∙◌, subst, arith, ℤ, pos, negsuc}
use Rattle.std.proofs.lemmas.Int.{ints, by_lt_z}
use lib.IntN.{neg_ℤ, ◌+ℤ◌, ◌*ℤ◌, zero-*ℤ}
use lib.Signed.{◌≤ℤ◌, ◌<ℤ◌}
use Rattle.rationals.specs.Gcd.{gcd}
use Rattle.rationals.specs.Rational.{ℚ, frac, zero_ℚ, ◌+ℚ◌, ◌*ℚ◌, ◌-ℚ◌, neg_ℚ, ◌≤ℚ◌, ◌<ℚ◌}
use Rattle.rationals.proofs.RingZ.{neg-mul, mul-one}
use Rattle.rationals.proofs.Rationals
use Rattle.rationals.proofs.Rationals.{den_pos, frac_cross, frac_is, frac_self, frac_eq}
use Rattle.rationals.proofs.RingQ
use Rattle.rationals.proofs.RingQ.{pos_mul, ring_ℚ, coefs_ℚ, Coef, coef, of_coef}
use Rattle.rationals.proofs.Linear.{Ordered, Signs}

-- ---- signs
mul_le_ℤ : (x y : ℤ) → pos 0 ≤ℤ x → pos 0 ≤ℤ y → pos 0 ≤ℤ (x *ℤ y)
mul_le_ℤ (pos a) (pos b) h k = omega (arith, ints)
mul_le_ℤ (pos a) (negsuc b) h k = absurd k.le
mul_le_ℤ (negsuc a) y h k = absurd h.le

mul_lt_ℤ : (x y : ℤ) → pos 0 <ℤ x → pos 0 <ℤ y → pos 0 <ℤ (x *ℤ y)
mul_lt_ℤ (pos a) (pos b) h k = let p : 0 < a * b = pos_mul a b (omega (arith, ints)) (omega (arith, ints)) in omega (arith, ints)
mul_lt_ℤ (pos a) (negsuc b) h k = absurd k.lt
mul_lt_ℤ (negsuc a) y h k = absurd h.lt

sign_le : (n m : ℤ) (k d : ℕ) → 0 < d → n *ℤ pos k ≡ m *ℤ pos d → pos 0 ≤ℤ n → pos 0 ≤ℤ m
sign_le (pos a) (pos b) k d hd e h = omega (arith, ints)
sign_le (pos a) (negsuc b) k d hd e h = absurd (omega (arith, ints, pos_mul (suc b) d (omega arith) hd))
sign_le (negsuc a) m k d hd e h = absurd h.le

sign_lt : (n m : ℤ) (k d : ℕ) → 0 < k → 0 < d → n *ℤ pos k ≡ m *ℤ pos d → pos 0 <ℤ n → pos 0 <ℤ m
sign_lt (pos a) (pos zero) k d hk hd e h = absurd (omega (arith, ints, pos_mul a k (omega (arith, ints)) hk))
sign_lt (pos a) (pos (suc b)) k d hk hd e h = omega (arith, ints)
sign_lt (pos a) (negsuc b) k d hk hd e h = absurd (omega (arith, ints, pos_mul (suc b) d (omega arith) hd))
sign_lt (negsuc a) m k d hk hd e h = absurd h.lt

-- ---- n / d has n's sign
pub frac_le : (n : ℤ) (d : ℕ) → 0 < d → pos 0 ≤ℤ n → pos 0 ≤ℤ (frac n d).num
frac_le n d h k = sign_le n (frac n d).num (frac n d).den d h (frac_cross n d h) k

pub le_frac : (n : ℤ) (d : ℕ) → 0 < d → pos 0 ≤ℤ (frac n d).num → pos 0 ≤ℤ n
le_frac n d h k = sign_le (frac n d).num n d (frac n d).den (den_pos (frac n d)) (sym (frac_cross n d h)) k

pub frac_lt : (n : ℤ) (d : ℕ) → 0 < d → pos 0 <ℤ n → pos 0 <ℤ (frac n d).num
frac_lt n d h k = sign_lt n (frac n d).num (frac n d).den d (den_pos (frac n d)) h (frac_cross n d h) k

pub lt_frac : (n : ℤ) (d : ℕ) → 0 < d → pos 0 <ℤ (frac n d).num → pos 0 <ℤ n
lt_frac n d h k = sign_lt (frac n d).num n d (frac n d).den h (den_pos (frac n d)) (sym (frac_cross n d h)) k

-- ---- not negative, and positive, by the numerator
pub zero_num : (frac (pos 0) 1).num ≡ pos 0
unfolding frac gcd
zero_num = refl

pub zero_den : (frac (pos 0) 1).den ≡ 1
unfolding frac gcd
zero_den = refl

pub num_le : (q : ℚ) → zero_ℚ ≤ℚ q → pos 0 ≤ℤ q.num
num_le q h =
    let a : (frac (pos 0) 1).num *ℤ pos q.den ≡ pos 0 = ap (λ x. x *ℤ pos q.den) zero_num ∙ zero-*ℤ (pos q.den) in
    let b : q.num *ℤ pos (frac (pos 0) 1).den ≡ q.num = ap (λ (d : ℕ). q.num *ℤ pos d) zero_den ∙ mul-one q.num in
    simp (a, b) at h.le

pub le_num : (q : ℚ) → pos 0 ≤ℤ q.num → zero_ℚ ≤ℚ q
le_num q h =
    let a : (frac (pos 0) 1).num *ℤ pos q.den ≡ pos 0 = ap (λ x. x *ℤ pos q.den) zero_num ∙ zero-*ℤ (pos q.den) in
    let b : q.num *ℤ pos (frac (pos 0) 1).den ≡ q.num = ap (λ (d : ℕ). q.num *ℤ pos d) zero_den ∙ mul-one q.num in
    record { le = simp (a, b) h }

pub num_lt : (q : ℚ) → zero_ℚ <ℚ q → pos 0 <ℤ q.num
num_lt q h =
    let a : (frac (pos 0) 1).num *ℤ pos q.den ≡ pos 0 = ap (λ x. x *ℤ pos q.den) zero_num ∙ zero-*ℤ (pos q.den) in
    let b : q.num *ℤ pos (frac (pos 0) 1).den ≡ q.num = ap (λ (d : ℕ). q.num *ℤ pos d) zero_den ∙ mul-one q.num in
    simp (a, b) at h.lt

pub lt_num : (q : ℚ) → pos 0 <ℤ q.num → zero_ℚ <ℚ q
lt_num q h =
    let a : (frac (pos 0) 1).num *ℤ pos q.den ≡ pos 0 = ap (λ x. x *ℤ pos q.den) zero_num ∙ zero-*ℤ (pos q.den) in
    let b : q.num *ℤ pos (frac (pos 0) 1).den ≡ q.num = ap (λ (d : ℕ). q.num *ℤ pos d) zero_den ∙ mul-one q.num in
    record { lt = simp (a, b) h }

-- ---- the order by the difference
sub_is : (q r : ℚ) → r -ℚ q ≡ frac (r.num *ℤ pos q.den +ℤ neg_ℤ q.num *ℤ pos r.den) (r.den * q.den)
sub_is q r =
    ap (λ x. r +ℚ neg_ℚ x) (sym (frac_self q)) ∙ ap (λ x. r +ℚ x) (RingQ.neg_frac q.num q.den (den_pos q))
    ∙ ap (λ x. x +ℚ frac (neg_ℤ q.num) q.den) (sym (frac_self r)) ∙ RingQ.add_frac r.num (neg_ℤ q.num) r.den q.den (den_pos r) (den_pos q)

diff_le : (x y a b : ℤ) → (x *ℤ b) ≤ℤ (y *ℤ a) → pos 0 ≤ℤ (y *ℤ a +ℤ neg_ℤ x *ℤ b)
diff_le x y a b h = let e = neg-mul x b in omega (arith, ints)

le_diff : (x y a b : ℤ) → pos 0 ≤ℤ (y *ℤ a +ℤ neg_ℤ x *ℤ b) → (x *ℤ b) ≤ℤ (y *ℤ a)
le_diff x y a b h = let e = neg-mul x b in omega (arith, ints)

diff_lt : (x y a b : ℤ) → (x *ℤ b) <ℤ (y *ℤ a) → pos 0 <ℤ (y *ℤ a +ℤ neg_ℤ x *ℤ b)
diff_lt x y a b h = let e = neg-mul x b in omega (arith, ints)

lt_diff : (x y a b : ℤ) → pos 0 <ℤ (y *ℤ a +ℤ neg_ℤ x *ℤ b) → (x *ℤ b) <ℤ (y *ℤ a)
lt_diff x y a b h = let e = neg-mul x b in omega (arith, ints)

den_mul : (q r : ℚ) → 0 < r.den * q.den
den_mul q r = pos_mul r.den q.den (den_pos r) (den_pos q)

pub sub_of_le : (q r : ℚ) → q ≤ℚ r → zero_ℚ ≤ℚ r -ℚ q
sub_of_le q r h = subst (λ x. zero_ℚ ≤ℚ x) (sym (sub_is q r))
    (le_num _ (frac_le _ (r.den * q.den) (den_mul q r) (diff_le q.num r.num (pos q.den) (pos r.den) h.le)))

pub le_of_sub : (q r : ℚ) → zero_ℚ ≤ℚ r -ℚ q → q ≤ℚ r
le_of_sub q r h = record {
  le = le_diff q.num r.num (pos q.den) (pos r.den)
      (le_frac _ (r.den * q.den) (den_mul q r) (num_le _ (subst (λ x. zero_ℚ ≤ℚ x) (sub_is q r) h)));
}

pub sub_of_lt : (q r : ℚ) → q <ℚ r → zero_ℚ <ℚ r -ℚ q
sub_of_lt q r h = subst (λ x. zero_ℚ <ℚ x) (sym (sub_is q r))
    (lt_num _ (frac_lt _ (r.den * q.den) (den_mul q r) (diff_lt q.num r.num (pos q.den) (pos r.den) h.lt)))

pub lt_of_sub : (q r : ℚ) → zero_ℚ <ℚ r -ℚ q → q <ℚ r
lt_of_sub q r h = record {
  lt = lt_diff q.num r.num (pos q.den) (pos r.den)
      (lt_frac _ (r.den * q.den) (den_mul q r) (num_lt _ (subst (λ x. zero_ℚ <ℚ x) (sub_is q r) h)));
}

add_le_ℤ : (x y a b : ℤ) → pos 0 ≤ℤ (x *ℤ b) → pos 0 ≤ℤ (y *ℤ a) → pos 0 ≤ℤ (x *ℤ b +ℤ y *ℤ a)
add_le_ℤ x y a b h k = omega (arith, ints)

add_lt_ℤ : (x y a b : ℤ) → pos 0 <ℤ (x *ℤ b) → pos 0 ≤ℤ (y *ℤ a) → pos 0 <ℤ (x *ℤ b +ℤ y *ℤ a)
add_lt_ℤ x y a b h k = omega (arith, ints)

pos_le : (d : ℕ) → pos 0 ≤ℤ pos d
pos_le d = omega (arith, ints)

pos_lt : (d : ℕ) → 0 < d → pos 0 <ℤ pos d
pos_lt d h = omega (arith, ints)

le_of_lt_ℤ : (x : ℤ) → pos 0 <ℤ x → pos 0 ≤ℤ x
le_of_lt_ℤ x h = omega (arith, ints)

pub add_le : (q r : ℚ) → zero_ℚ ≤ℚ q → zero_ℚ ≤ℚ r → zero_ℚ ≤ℚ q +ℚ r
unfolding ◌+ℚ◌
add_le q r h k = le_num _ (frac_le _ (q.den * r.den) (den_mul r q) (add_le_ℤ q.num r.num (pos q.den) (pos r.den)
    (mul_le_ℤ q.num (pos r.den) (num_le q h) (pos_le r.den)) (mul_le_ℤ r.num (pos q.den) (num_le r k) (pos_le q.den))))

pub add_lt : (q r : ℚ) → zero_ℚ <ℚ q → zero_ℚ ≤ℚ r → zero_ℚ <ℚ q +ℚ r
unfolding ◌+ℚ◌
add_lt q r h k = lt_num _ (frac_lt _ (q.den * r.den) (den_mul r q) (add_lt_ℤ q.num r.num (pos q.den) (pos r.den)
    (mul_lt_ℤ q.num (pos r.den) (num_lt q h) (pos_lt r.den (den_pos r))) (mul_le_ℤ r.num (pos q.den) (num_le r k) (pos_le q.den))))

pub mul_le : (q r : ℚ) → zero_ℚ ≤ℚ q → zero_ℚ ≤ℚ r → zero_ℚ ≤ℚ q *ℚ r
unfolding ◌*ℚ◌
mul_le q r h k = le_num _ (frac_le _ (q.den * r.den) (den_mul r q) (mul_le_ℤ q.num r.num (num_le q h) (num_le r k)))

pub mul_lt : (q r : ℚ) → zero_ℚ <ℚ q → zero_ℚ <ℚ r → zero_ℚ <ℚ q *ℚ r
unfolding ◌*ℚ◌
mul_lt q r h k = lt_num _ (frac_lt _ (q.den * r.den) (den_mul r q) (mul_lt_ℤ q.num r.num (num_lt q h) (num_lt r k)))

pub le_of_lt : (q : ℚ) → zero_ℚ <ℚ q → zero_ℚ ≤ℚ q
le_of_lt q h = le_num q (le_of_lt_ℤ q.num (num_lt q h))

pub zero_le : zero_ℚ ≤ℚ zero_ℚ
zero_le = le_num zero_ℚ (frac_le (pos 0) 1 (omega arith) (pos_le 0))

pub not-lt : zero_ℚ <ℚ zero_ℚ → ⊥
not-lt h = let k = lt_frac (pos 0) 1 (omega arith) (num_lt zero_ℚ h) in k.lt

pub either : (q r : ℚ) → (q ≤ℚ r) ⊎ (r <ℚ q)
either q r = by_lt_z (r.num *ℤ pos q.den) (q.num *ℤ pos r.den) (λ h. inr (record { lt = h })) (λ h. inl (record { le = h }))

-- the rational numbers as an ordered ring
abbrev pub order_ℚ : Ordered ring_ℚ
order_ℚ = record {
  ◌≤◌ = ◌≤ℚ◌;
  ◌<◌ = ◌<ℚ◌;
  sub_of_le = sub_of_le;
  le_of_sub = le_of_sub;
  sub_of_lt = sub_of_lt;
  lt_of_sub = lt_of_sub;
  zero_le = zero_le;
  not-lt = not-lt;
  le_of_lt = le_of_lt;
  add_le = add_le;
  add_lt = add_lt;
  either = either;
}

-- the test of a sign that is not negative
abbrev pub not_negative : ℤ → Bool
not_negative (pos n) = true
not_negative (negsuc n) = false

-- the test of a positive sign
abbrev pub positive : ℤ → Bool
positive (pos zero) = false
positive (pos (suc n)) = true
positive (negsuc n) = false

not_negative_is : (z : ℤ) → T (not_negative z) → pos 0 ≤ℤ z
not_negative_is (pos n) h = pos_le n
not_negative_is (negsuc n) h = absurd h

positive_is : (z : ℤ) → T (positive z) → pos 0 <ℤ z
positive_is (pos zero) h = absurd h
positive_is (pos (suc n)) h = pos_lt (suc n) (omega arith)
positive_is (negsuc n) h = absurd h

pub coef_le : (c : Coef) → T (not_negative c.top) → zero_ℚ ≤ℚ of_coef c
coef_le c h = le_num _ (frac_le c.top (suc c.below) (omega arith) (not_negative_is c.top h))

pub coef_lt : (c : Coef) → T (positive c.top) → zero_ℚ <ℚ of_coef c
coef_lt c h = lt_num _ (frac_lt c.top (suc c.below) (omega arith) (positive_is c.top h))

-- the signs of coefficients, for linear arithmetic
abbrev pub signs_ℚ : Signs order_ℚ coefs_ℚ
signs_ℚ = record {
  at_least_zero = λ c. not_negative c.top;
  above_zero = λ c. positive c.top;
  at_least_zero_is = coef_le;
  above_zero_is = coef_lt;
  scale_le = λ c a h. mul_le (of_coef c) a (coef_le c h);
  scale_lt = λ c a h. mul_lt (of_coef c) a (coef_lt c h);
}

antisym_ℤ : (x y : ℤ) → x ≤ℤ y → y ≤ℤ x → x ≡ y
antisym_ℤ x y h k = omega (arith, ints)

pub antisym : (q r : ℚ) → q ≤ℚ r → r ≤ℚ q → q ≡ r
antisym q r h k = Rationals.eq_of_cross q r (antisym_ℤ (q.num *ℤ pos r.den) (r.num *ℤ pos q.den) h.le k.le)

pub lt_or_eq : (q r : ℚ) → q ≤ℚ r → (q <ℚ r) ⊎ (q ≡ r)
lt_or_eq q r h = elim (either r q) [ inl k ↦ inr (antisym q r h k) | inr k ↦ inl k ]

pub lt_irrefl : (q : ℚ) → q <ℚ q → ⊥
lt_irrefl q h = not-lt (subst (λ x. zero_ℚ <ℚ x) (RingQ.add-neg q) (sub_of_lt q q h))
