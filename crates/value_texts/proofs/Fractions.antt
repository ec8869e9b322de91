-- Fractions in a text.
use Rattle.std.proofs.Common.{◌≡◌, ◌∙◌, ℕ, zero, suc, ◌^◌, ◌<◌, ◌≤◌, Bool, true, false, cond, List, [], ◌∷◌, ◌++◌, take, drop, refl, sym, ap, subst, arith, append_assoc, append-nil, inl, inr, ◌⊎◌, ⊎_elim, ℤ, pos, codes, eq-eqb, ne_eqb, eqb-true, lt-ltb, ltb-true, Option, MatchOption, to_z, of_z}
use Rattle.std.specs.Prelude.{◌==◌, negsuc, unsigned_abs, Some, None, Ok, Err, Result, if◌then◌else◌}
use Rattle.std.specs.Int.{w128}
use Rattle.std.proofs.lemmas.Int.{to_z-of_z, fits_signed_from_abs}
use Rattle.std.specs.Fmt.{decimal, signed_decimal}
use Rattle.std.proofs.lemmas.Bool.{and_parts, and_from}
use Rattle.std.proofs.lemmas.Str.Parse.{digit_from_value}
use Rattle.rationals.specs.Rational.{ℚ, frac}
use Rattle.rationals.proofs.Rationals.{ℚ_ext, den_pos, frac_self}
use Rattle.fraction128.specs.declared.errors.FracError.{FracError}
use Rattle.fraction128.specs.Exact.{with_sign, fits, ratio, is_zero_ℤ}
use Rattle.value_texts.specs.declared.numbers.Size.{Size}
use Rattle.value_texts.specs.declared.numbers.Size.TheVariants as size
use Rattle.y_tree.specs.Values.{number}
use Rattle.value_texts.specs.Texts.{value_text}
use Rattle.value_texts.specs.Reading.{IsWhole, IsWideFraction, Word}
use Rattle.value_texts.specs.Pieces.{is_slash, is_zero, Stops, IsEnd, IsSize, IsWholeOf, NoWhole, IsBottom, IsBottomOf, NoBottom, IsUnsigned, IsFraction, IsNumber, NoNumber}
use Rattle.value_texts.specs.declared.numbers.Number.TheVariants as read
use Rattle.value_texts.specs.declared.numbers.Parts.{Parts}
use Rattle.value_texts.proofs.Splitting.{heads, tails, split_once, split_at_end}
use Rattle.value_texts.proofs.Wholes.{whole_is_decimal, decimal_whole, one_whole, free_digits}

no_slash : (c : ℕ) → 48 ≤ c → c ≤ 57 → is_slash c ≡ false
no_slash c l h = ne_eqb c 47 (λ e. omega (arith, l, e))

bottom_stops : (text : List ℕ) (n : ℕ) → IsBottom text n → Stops is_slash text
bottom_stops text n (inl h) = subst (Stops is_slash) (sym h.0) tt
bottom_stops text n (inr h) = subst (Stops is_slash) (sym h.1) refl

pub one_bottom : (text : List ℕ) (m n : ℕ) → IsBottom text m → IsBottom text n → m ≡ n
one_bottom text m n (inl g) (inl h) = g.1 ∙ sym h.1
one_bottom text m n (inl g) (inr h) = absurd (cc (sym g.0 ∙ h.1))
one_bottom text m n (inr g) (inl h) = absurd (cc (sym h.0 ∙ g.1))
one_bottom text m n (inr g) (inr h) = one_whole h.0 m n (subst (λ d. IsWhole d m) (tails 47 47 g.0 h.0 (sym g.1 ∙ h.1)) g.2) h.2

-- the parts of a fraction without its sign
unsigned_at : (text : List ℕ) (at : ℕ) (negative : Bool) (top bottom : ℕ) → IsEnd is_slash text at → IsUnsigned negative top bottom text → IsWhole (take at text) top × IsBottom (drop at text) bottom
unsigned_at text at negative top bottom end u =
    let same = split_at_end is_slash text at u.top_text u.bottom_text end (free_digits is_slash no_slash u.top_text u.top_is.digits.1) (bottom_stops u.bottom_text bottom u.bottom_is) u.parts in
    (subst (λ x. IsWhole x top) same.0 u.top_is, subst (λ x. IsBottom x bottom) same.1 u.bottom_is)

pub no_top : (text : List ℕ) (at : ℕ) (negative : Bool) → IsEnd is_slash text at → NoWhole (take at text) → (top bottom : ℕ) → IsUnsigned negative top bottom text → ⊥
no_top text at negative end h top bottom u = h top (unsigned_at text at negative top bottom end u).0

pub no_rest : (text : List ℕ) (at : ℕ) (negative : Bool) → IsEnd is_slash text at → NoBottom (drop at text) → (top bottom : ℕ) → IsUnsigned negative top bottom text → ⊥
no_rest text at negative end h top bottom u = h bottom (unsigned_at text at negative top bottom end u).1

size_zero : (s : Size) (n : ℕ) → is_zero s ≡ true → IsSize s n → n ≡ 0
size_zero (size.Small m) n e h = h.0 ∙ eqb-true m 0 e
size_zero size.Past n e h = absurd (cc e)

pub no_minus_zero : (text : List ℕ) (at : ℕ) (negative : Bool) (s : Size) → IsEnd is_slash text at → IsWholeOf (take at text) s → negative ≡ true → is_zero s ≡ true → (top bottom : ℕ) → IsUnsigned negative top bottom text → ⊥
no_minus_zero text at negative s end w n z top bottom u =
    let pos_top : 0 < top = u.signed n in
    let same : top ≡ w.0 = one_whole (take at text) top w.0 (unsigned_at text at negative top bottom end u).0 w.1 in
    omega (arith, pos_top, same, size_zero s w.0 z w.2)

one_unsigned : (text : List ℕ) (m n : Bool) (t b u c : ℕ) → IsUnsigned m t b text → IsUnsigned n u c text → (t ≡ u) × (b ≡ c)
one_unsigned text m n t b u c g h =
    let same =
    split_once is_slash g.top_text h.top_text g.bottom_text h.bottom_text (free_digits is_slash no_slash g.top_text g.top_is.digits.1) (free_digits is_slash no_slash h.top_text h.top_is.digits.1)
    (bottom_stops g.bottom_text b g.bottom_is) (bottom_stops h.bottom_text c h.bottom_is) (sym g.parts ∙ h.parts) in
    (one_whole h.top_text t u (subst (λ x. IsWhole x t) same.0 g.top_is) h.top_is, one_bottom h.bottom_text b c (subst (λ x. IsBottom x b) same.1 g.bottom_is) h.bottom_is)

digit_first : (top rest ds : List ℕ) (n : ℕ) → IsWhole top n → top ++ rest ≡ 45 ∷ ds → ⊥
digit_first [] rest ds n w e = omega (arith, w.digits.0)
digit_first (c ∷ cs) rest ds n w e = omega (arith, digit_from_value c w.digits.1.0, heads c 45 (cs ++ rest) ds e)

pub no_minus : (text ds : List ℕ) (n : Bool) (t b : ℕ) → IsUnsigned n t b text → text ≡ 45 ∷ ds → ⊥
no_minus text ds n t b u e = digit_first u.top_text u.bottom_text ds t u.top_is (sym u.parts ∙ e)

-- the sign
pub signed_text : (text digits : List ℕ) → text ≡ codes "-" ++ digits → ((top bottom : ℕ) → IsUnsigned true top bottom digits → ⊥) → (n : Bool) (top bottom : ℕ) → IsFraction n top bottom text → ⊥
signed_text text digits e h true top bottom f = h top bottom (subst (IsUnsigned true top bottom) (tails 45 45 f.0 digits (sym f.1 ∙ e)) f.2)
signed_text text digits e h false top bottom f = no_minus f.0 digits false top bottom f.2 (sym f.1 ∙ e)

pub unsigned_text : (text : List ℕ) → ((rest : List ℕ) → text ≡ codes "-" ++ rest → ⊥) → ((top bottom : ℕ) → IsUnsigned false top bottom text → ⊥) → (n : Bool) (top bottom : ℕ) → IsFraction n top bottom text → ⊥
unsigned_text text e h true top bottom f = e f.0 f.1
unsigned_text text e h false top bottom f = h top bottom (subst (IsUnsigned false top bottom) (sym f.1) f.2)

record Same (m n : Bool) (t u b c : ℕ) : Type 0 where
  pub sign : m ≡ n
  pub top : t ≡ u
  pub bottom : b ≡ c

one_fraction : (text : List ℕ) (m n : Bool) (t b u c : ℕ) → IsFraction m t b text → IsFraction n u c text → Same m n t u b c
one_fraction text true true t b u c g h =
    let same = one_unsigned h.0 true true t b u c (subst (IsUnsigned true t b) (tails 45 45 g.0 h.0 (sym g.1 ∙ h.1)) g.2) h.2 in
    record { sign = refl; top = same.0; bottom = same.1 }
one_fraction text false false t b u c g h =
    let same = one_unsigned h.0 false false t b u c (subst (IsUnsigned false t b) (sym g.1 ∙ h.1) g.2) h.2 in
    record { sign = refl; top = same.0; bottom = same.1 }
one_fraction text true false t b u c g h = absurd (no_minus h.0 g.0 false u c h.2 (sym h.1 ∙ g.1))
one_fraction text false true t b u c g h = absurd (no_minus g.0 h.0 false t b g.2 (sym g.1 ∙ h.1))

-- fractions within the bounds
abbrev pub negative_of : ℤ → Bool
negative_of (pos n) = false
negative_of (negsuc n) = true

sign_and_size : (z : ℤ) → z ≡ with_sign (negative_of z) (unsigned_abs z)
sign_and_size (pos n) = refl
sign_and_size (negsuc n) = refl

bottom_written : (d : ℕ) (b : Bool) → (d == 1) ≡ b → 0 < d → d < 2 ^ 127 → IsBottom (cond b [] (codes "/" ++ decimal d)) d
bottom_written d true e l s = inl (refl, eqb-true d 1 e)
bottom_written d false e l s = inr (decimal d, refl, decimal_whole d s, by_size d e l)
  where
    by_size : (d : ℕ) → (d == 1) ≡ false → 0 < d → 1 < d
    by_size zero e l = absurd (omega (arith, l))
    by_size (suc zero) e l = absurd (cc e)
    by_size (suc (suc d)) e l = omega arith

behind_sign : (b : Bool) (a r : List ℕ) → cond b a ((a ++ codes "/") ++ r) ≡ a ++ cond b [] (codes "/" ++ r)
behind_sign true a r = sym (append-nil a)
behind_sign false a r = append_assoc a (codes "/") r

digits_written : (z : ℤ) (d : ℕ) → unsigned_abs z < 2 ^ 127 → 0 < d → d < 2 ^ 127 → IsUnsigned (negative_of z) (unsigned_abs z) d (decimal (unsigned_abs z) ++ cond (d == 1) [] (codes "/" ++ decimal d))
digits_written z d s l t = record {
  top_text = decimal (unsigned_abs z);
  bottom_text = cond (d == 1) [] (codes "/" ++ decimal d);
  top_is = decimal_whole (unsigned_abs z) s;
  bottom_is = bottom_written d (d == 1) refl l t;
  signed = by_sign z;
  parts = refl;
}
  where
    by_sign : (z : ℤ) → negative_of z ≡ true → 0 < unsigned_abs z
    by_sign (pos n) e = absurd (cc e)
    by_sign (negsuc n) e = omega arith

sign_written : (z : ℤ) (r : List ℕ) → signed_decimal z ++ r ≡ (cond (negative_of z) (codes "-") []) ++ (decimal (unsigned_abs z) ++ r)
sign_written (pos n) r = refl
sign_written (negsuc n) r = refl

pub exact_fraction : (q : ℚ) (text : List ℕ) → Word false (number q) text → IsFraction (negative_of q.num) (unsigned_abs q.num) q.den text
unfolding value_text
exact_fraction q text w =
    let bounds = and_parts _ _ w.0 in (
      decimal (unsigned_abs q.num) ++ cond (q.den == 1) [] (codes "/" ++ decimal q.den),
      w.1 ∙ behind_sign (q.den == 1) (signed_decimal q.num) (decimal q.den) ∙ sign_written q.num (cond (q.den == 1) [] (codes "/" ++ decimal q.den)),
      digits_written q.num q.den (ltb-true _ _ bounds.0) (den_pos q) (ltb-true _ _ bounds.1),
    )

sign_read : (n : Bool) (t : ℕ) → (n ≡ true → 0 < t) → signed_decimal (with_sign n t) ≡ (cond n (codes "-") []) ++ decimal t
sign_read false t h = refl
sign_read true zero h = absurd (omega (arith, h refl))
sign_read true (suc t) h = refl

size_read : (n : Bool) (t : ℕ) → unsigned_abs (with_sign n t) ≡ t
size_read false t = refl
size_read true zero = refl
size_read true (suc t) = refl

bottom_read : (text : List ℕ) (d : ℕ) → IsBottom text d → d < 2 ^ 127 → text ≡ cond (d == 1) [] (codes "/" ++ decimal d)
bottom_read text d (inl h) s = h.0 ∙ ap (λ b. cond b [] (codes "/" ++ decimal d)) (sym (eq-eqb d 1 h.1))
bottom_read text d (inr h) s =
    h.1 ∙ ap (λ x. codes "/" ++ x) (whole_is_decimal h.0 d h.2 s) ∙ ap (λ b. cond b [] (codes "/" ++ decimal d)) (sym (ne_eqb d 1 (λ e. omega (arith, e, h.3))))

fraction_text : (n : Bool) (t b : ℕ) (q : ℚ) (text : List ℕ) → IsFraction n t b text → t < 2 ^ 127 → b < 2 ^ 127 → q.num ≡ with_sign n t → q.den ≡ b → Word false (number q) text
unfolding value_text
fraction_text n t b q text f s l num den =
    let top = whole_is_decimal f.2.top_text t f.2.top_is s in
    let rest = cond (b == 1) [] (codes "/" ++ decimal b) in
    let sign = cond n (codes "-") [] in (
      and_from _ _ (lt-ltb _ _ (subst (λ x. x < 2 ^ 127) (sym (ap unsigned_abs num ∙ size_read n t)) s)) (lt-ltb _ _ (subst (λ x. x < 2 ^ 127) (sym den) l)),
      f.1 ∙ ap (λ x. sign ++ x) (f.2.parts ∙ (λ i. top i ++ bottom_read f.2.bottom_text b f.2.bottom_is l i))
          ∙ sym (append_assoc sign (decimal t) rest) ∙ ap (λ x. x ++ rest) (sym (sign_read n t f.2.signed))
          ∙ sym (behind_sign (b == 1) (signed_decimal (with_sign n t)) (decimal b))
          ∙ (λ i. cond (sym den i == 1) (signed_decimal (sym num i)) ((signed_decimal (sym num i) ++ codes "/") ++ decimal (sym den i))),
    )

-- fractions past the bounds
wide_fraction : (n : Bool) (t b : ℕ) (text : List ℕ) → IsFraction n t b text → (2 ^ 127 ≤ t) ⊎ (2 ^ 127 ≤ b) → IsWideFraction text
wide_fraction n t b text f past = go f.2.bottom_is
  where
    sign : List ℕ
    sign = cond n (codes "-") []

    go : IsBottom f.2.bottom_text b → IsWideFraction text
    go (inl h) = record {
      negative = n;
      top = t;
      top_text = f.2.top_text;
      bottom = b;
      bottom_text = decimal 1;
      top_is = f.2.top_is;
      bottom_is = subst (IsWhole (decimal 1)) (sym h.1) (decimal_whole 1 (omega arith));
      positive = omega (arith, h.1);
      signed = f.2.signed;
      past = past;
      parts = f.1 ∙ ap (λ x. cond n (codes "-") [] ++ x) (f.2.parts ∙ ap (λ x. f.2.top_text ++ x) (h.0 ∙ ap (λ c. cond c [] (codes "/" ++ decimal 1)) (sym (eq-eqb b 1 h.1)))) ∙ sym (append_assoc (cond n (codes "-") []) f.2.top_text (cond (b == 1) [] (codes "/" ++ decimal 1)));
    }
    go (inr h) = record {
      negative = n;
      top = t;
      top_text = f.2.top_text;
      bottom = b;
      bottom_text = h.0;
      top_is = f.2.top_is;
      bottom_is = h.2;
      positive = omega (arith, h.3);
      signed = f.2.signed;
      past = past;
      parts = f.1 ∙ ap (λ x. cond n (codes "-") [] ++ x) (f.2.parts ∙ ap (λ x. f.2.top_text ++ x) (h.1 ∙ ap (λ c. cond c [] (codes "/" ++ h.0)) (sym (ne_eqb b 1 (λ e. omega (arith, e, h.3)))))) ∙ sym (append_assoc (cond n (codes "-") []) f.2.top_text (cond (b == 1) [] (codes "/" ++ h.0)));
    }

pub fraction_of_wide : (text : List ℕ) (w : IsWideFraction text) → IsFraction w.negative w.top w.bottom text
fraction_of_wide text w = (
  w.top_text ++ cond (w.bottom == 1) [] (codes "/" ++ w.bottom_text),
  w.parts ∙ append_assoc (cond w.negative (codes "-") []) w.top_text (cond (w.bottom == 1) [] (codes "/" ++ w.bottom_text)),
  record {
    top_text = w.top_text;
    bottom_text = cond (w.bottom == 1) [] (codes "/" ++ w.bottom_text);
    top_is = w.top_is;
    bottom_is = by_one (w.bottom == 1) refl;
    signed = w.signed;
    parts = refl;
  },
)
  where
    larger : (d : ℕ) → (d == 1) ≡ false → 0 < d → 1 < d
    larger zero e l = absurd (omega (arith, l))
    larger (suc zero) e l = absurd (cc e)
    larger (suc (suc d)) e l = omega arith

    by_one : (b : Bool) → (w.bottom == 1) ≡ b → IsBottom (cond b [] (codes "/" ++ w.bottom_text)) w.bottom
    by_one true e = inl (refl, eqb-true w.bottom 1 e)
    by_one false e = inr (w.bottom_text, refl, w.bottom_is, larger w.bottom e w.positive)

-- what a fraction as written is as a number
pub no_number : (text : List ℕ) → ((n : Bool) (t b : ℕ) → IsFraction n t b text → ⊥) → NoNumber text
no_number text h = (λ p w. h (negative_of p.num) (unsigned_abs p.num) p.den (exact_fraction p text w), λ w. h w.negative w.top w.bottom (fraction_of_wide text w))

not_wide : (n : Bool) (t b : ℕ) (text : List ℕ) → IsFraction n t b text → t < 2 ^ 127 → b < 2 ^ 127 → IsWideFraction text → ⊥
not_wide n t b text f s l w =
    let same = one_fraction text w.negative n w.top w.bottom t b (fraction_of_wide text w) f in
    ⊎_elim (λ p. omega (arith, p, s, same.top)) (λ p. omega (arith, p, l, same.bottom)) w.past

parts_of : (n : Bool) (t b : ℕ) (p : ℚ) (text : List ℕ) → IsFraction n t b text → Word false (number p) text → (p.num ≡ with_sign n t) × (p.den ≡ b)
parts_of n t b p text f w =
    let same = one_fraction text (negative_of p.num) n (unsigned_abs p.num) p.den t b (exact_fraction p text w) f in
    (sign_and_size p.num ∙ (λ i. with_sign (same.sign i) (same.top i)), same.bottom)

abbrev pub IsPartsOf : Bool → Size → Size → List ℕ → Type 0
IsPartsOf n top bottom text = (t : ℕ) × (b : ℕ) × IsFraction n t b text × IsSize top t × IsSize bottom b

-- a number's bits read back
abbrev cast : ℤ → ℤ
cast z = to_z w128 (of_z w128 z)

back : (z : ℤ) → unsigned_abs z < 2 ^ 127 → cast z ≡ z
back z h = to_z-of_z w128 z (fits_signed_from_abs w128 z h)

top_back : (n : Bool) (top : ℕ) (x : ℤ) → x ≡ with_sign n top → top < 2 ^ 127 → cast x ≡ with_sign n top
top_back n top x e s = back x (subst (λ y. unsigned_abs y < 2 ^ 127) (sym e) (subst (λ y. y < 2 ^ 127) (sym (size_read n top)) s)) ∙ e

pub no_lowest : (n : Bool) (top bottom : ℕ) (x y : ℤ) (text : List ℕ) → IsPartsOf n (size.Small top) (size.Small bottom) text → x ≡ with_sign n top → y ≡ with_sign false bottom
    → ((q : ℚ) → q.num ≡ cast x → pos q.den ≡ cast y → ⊥) → NoNumber text
no_lowest n top bottom x y text h is_x is_y none = (
  λ p w.
      let same = parts_of n h.0 h.1 p text h.2 w in
      none p (same.0 ∙ ap (with_sign n) h.3.0 ∙ sym (top_back n top x is_x h.3.1)) (ap pos (same.1 ∙ h.4.0) ∙ sym (top_back false bottom y is_y h.4.1)),
  not_wide n h.0 h.1 text h.2 (omega (arith, h.3.0, h.3.1)) (omega (arith, h.4.0, h.4.1)),
)

pub is_lowest_number : (n : Bool) (top bottom : ℕ) (x y : ℤ) (text : List ℕ) (q : ℚ) → IsPartsOf n (size.Small top) (size.Small bottom) text → x ≡ with_sign n top → y ≡ with_sign false bottom
    → q.num ≡ cast x → pos q.den ≡ cast y → IsNumber text (read.Exact q)
is_lowest_number n top bottom x y text q h is_x is_y num den =
    let num_is : q.num ≡ with_sign n top = num ∙ top_back n top x is_x h.3.1 in
    let den_is : q.den ≡ bottom = ap unsigned_abs (den ∙ top_back false bottom y is_y h.4.1) in (
      fraction_text n h.0 h.1 q text h.2 (omega (arith, h.3.0, h.3.1)) (omega (arith, h.4.0, h.4.1)) (num_is ∙ ap (with_sign n) (sym h.3.0)) (den_is ∙ sym h.4.0),
      λ p w. let same = parts_of n h.0 h.1 p text h.2 w in ℚ_ext p q (same.0 ∙ ap (with_sign n) h.3.0 ∙ sym num_is) (same.1 ∙ h.4.0 ∙ sym den_is),
      not_wide n h.0 h.1 text h.2 (omega (arith, h.3.0, h.3.1)) (omega (arith, h.4.0, h.4.1)),
    )

pub is_wide_number : (n : Bool) (top bottom : Size) (text : List ℕ) → IsPartsOf n top bottom text → (top ≡ size.Past) ⊎ (bottom ≡ size.Past) → IsNumber text read.Wide
is_wide_number n top bottom text h past =
    let far = far_of past in
    (wide_fraction n h.0 h.1 text h.2 far, λ p w. narrow p w far)
  where
    far_of : (top ≡ size.Past) ⊎ (bottom ≡ size.Past) → (2 ^ 127 ≤ h.0) ⊎ (2 ^ 127 ≤ h.1)
    far_of (inl e) = inl (subst (λ s. IsSize s h.0) e h.3)
    far_of (inr e) = inr (subst (λ s. IsSize s h.1) e h.4)

    narrow : (p : ℚ) → Word false (number p) text → (2 ^ 127 ≤ h.0) ⊎ (2 ^ 127 ≤ h.1) → ⊥
    narrow p w far =
        let same = one_fraction text (negative_of p.num) n (unsigned_abs p.num) p.den h.0 h.1 (exact_fraction p text w) h.2 in
        let bounds = and_parts _ _ w.0 in
        let top_small : unsigned_abs p.num < 2 ^ 127 = ltb-true _ _ bounds.0 in
        let bottom_small : p.den < 2 ^ 127 = ltb-true _ _ bounds.1 in
        ⊎_elim (λ l. omega (arith, l, same.top, top_small)) (λ l. omega (arith, l, same.bottom, bottom_small)) far

-- the lowest terms
made : (n : ℤ) (d : ℕ) (q : ℚ) → frac n d ≡ q → 0 < d → fits q ≡ true
    → (if is_zero_ℤ (pos d) then Err FracError.ZeroDen else (if fits (ratio n (pos d)) then Ok (ratio n (pos d)) else Err FracError.Wide)) ≡ Ok q
made n zero q e l f = absurd (omega (arith, l))
made n (suc d) q e l f = ap (λ r. if fits r then Ok r else Err FracError.Wide) e ∙ ap (λ b. if b then Ok q else Err FracError.Wide) f

pub made_of_terms : (num den : ℤ) (q : ℚ) (r : Result ℚ FracError) → r ≡ (if is_zero_ℤ den then Err FracError.ZeroDen else (if fits (ratio num den) then Ok (ratio num den) else Err FracError.Wide))
    → unsigned_abs num < 2 ^ 127 → unsigned_abs den < 2 ^ 127 → q.num ≡ num → pos q.den ≡ den → r ≡ Ok q
made_of_terms num den q r e s l n d =
    let fit : fits q ≡ true = and_from _ _ (lt-ltb _ _ (subst (λ x. unsigned_abs x < 2 ^ 127) (sym n) s)) (lt-ltb _ _ (subst (λ x. unsigned_abs x < 2 ^ 127) (sym d) l)) in
    e ∙ (λ i. if is_zero_ℤ (sym d i) then Err FracError.ZeroDen else (if fits (ratio (sym n i) (sym d i)) then Ok (ratio (sym n i) (sym d i)) else Err FracError.Wide))
    ∙ made q.num q.den q (frac_self q) (den_pos q) fit

pub made_cast : (num den : ℤ) (q : ℚ) (r : Result ℚ FracError) → r ≡ (if is_zero_ℤ (cast den) then Err FracError.ZeroDen else (if fits (ratio (cast num) (cast den)) then Ok (ratio (cast num) (cast den)) else Err FracError.Wide))
    → unsigned_abs num < 2 ^ 127 → unsigned_abs den < 2 ^ 127 → q.num ≡ num → pos q.den ≡ den → r ≡ Ok q
made_cast num den q r e s l n d =
    made_of_terms num den q r
    (e ∙ (λ i. if is_zero_ℤ (back den l i) then Err FracError.ZeroDen else (if fits (ratio (back num s i) (back den l i)) then Ok (ratio (back num s i) (back den l i)) else Err FracError.Wide)))
    s l n d

abbrev ok_or : Result ℚ FracError → ℚ → ℚ
ok_or (Ok q) p = q
ok_or (Err e) p = p

pub same_made : (r : Result ℚ FracError) (p q : ℚ) → r ≡ Ok p → r ≡ Ok q → p ≡ q
same_made r p q e f = ap (λ x. ok_or x p) (sym e ∙ f)

-- parts with their sign
pub signed_parts : (text digits : List ℕ) (r : Option Parts) → text ≡ codes "-" ++ digits
    → MatchOption r ((top bottom : ℕ) → IsUnsigned true top bottom digits → ⊥) (λ p. (p.negative ≡ true) × ((t : ℕ) × (b : ℕ) × IsUnsigned true t b digits × IsSize p.top t × IsSize p.bottom b))
    → MatchOption r ((n : Bool) (top bottom : ℕ) → IsFraction n top bottom text → ⊥) (λ p. IsPartsOf p.negative p.top p.bottom text)
signed_parts text digits None e h = signed_text text digits e h
signed_parts text digits (Some p) e h = (h.1.0, h.1.1, subst (λ n. IsFraction n h.1.0 h.1.1 text) (sym h.0) (digits, e, h.1.2), h.1.3, h.1.4)

pub unsigned_parts : (text : List ℕ) (r : Option Parts) → ((rest : List ℕ) → text ≡ codes "-" ++ rest → ⊥)
    → MatchOption r ((top bottom : ℕ) → IsUnsigned false top bottom text → ⊥) (λ p. (p.negative ≡ false) × ((t : ℕ) × (b : ℕ) × IsUnsigned false t b text × IsSize p.top t × IsSize p.bottom b))
    → MatchOption r ((n : Bool) (top bottom : ℕ) → IsFraction n top bottom text → ⊥) (λ p. IsPartsOf p.negative p.top p.bottom text)
unsigned_parts text None e h = unsigned_text text e h
unsigned_parts text (Some p) e h = (h.1.0, h.1.1, subst (λ n. IsFraction n h.1.0 h.1.1 text) (sym h.0) (text, refl, h.1.2), h.1.3, h.1.4)

pub small_parts : (n : Bool) (top bottom : Size) (a b : ℕ) (text : List ℕ) → IsPartsOf n top bottom text → top ≡ size.Small a → bottom ≡ size.Small b → IsPartsOf n (size.Small a) (size.Small b) text
small_parts n top bottom a b text h e f = (h.0, h.1, h.2, subst (λ s. IsSize s h.0) e h.3, subst (λ s. IsSize s h.1) f h.4)
