-- The laws of the numbers with an infinitesimal part: they are an ordered ring, and linear arithmetic holds of them.
use Rattle.std.proofs.Common.{◌≡◌, [], ◌∷◌, ◌⊎◌, inl, inr, refl, sym, ap, ◌∙◌, subst}
use Rattle.rationals.specs.Rational.{ℚ, zero_ℚ, one_ℚ, ◌+ℚ◌, ◌*ℚ◌, ◌-ℚ◌, neg_ℚ, ◌≤ℚ◌, ◌<ℚ◌, cmp_ℚ}
pub use Rattle.rationals.specs.Delta.{Delta, delta, d_add, d_mul, d_neg, of_ℚ, ◌≤Δ◌, ◌<Δ◌, cmp_Δ}
use Rattle.rationals.proofs.Ring as Ring
use Rattle.rationals.proofs.Ring.{CommRing, Coefs, Ex, var, con, ◌⊕◌, ◌⊗◌, ◌⊝◌, minus}
use Rattle.rationals.proofs.RingQ as Q
use Rattle.rationals.proofs.RingQ.{ring_ℚ, coefs_ℚ, ring-ℚ, coef, Coef, of_coef}
use Rattle.rationals.proofs.Linear.{Ordered, Signs, ◌≼◌, ◌≺◌}
use Rattle.rationals.proofs.OrderQ as O
use Rattle.rationals.proofs.OrderQ.{order_ℚ, signs_ℚ}
use Rattle.rationals.proofs.Finder.{lin_le, lin_lt, lin_false}
use Rattle.rationals.proofs.CompareQ.{ranks_ℚ}
use Rattle.std.specs.declared.cmp.Ordering.{Ordering}
use Rattle.std.specs.declared.cmp.Ordering.TheVariants.{Less, Equal, Greater}
use Rattle.std.specs.Ordering.{MatchOrdering, ordering_then}
use Rattle.std.specs.Cmp.{IsTotalOrder, strict}
use Rattle.rationals.proofs.LawsQ.{ring_laws}

pub ext : {a b c d : ℚ} → a ≡ c → b ≡ d → delta a b ≡ delta c d
ext p q = λ i. record { real = p i; inf = q i }

pub mul-zero : (a : ℚ) → a *ℚ zero_ℚ ≡ zero_ℚ
mul-zero = Ring.mul-zero ring_ℚ

pub zero-mul : (a : ℚ) → zero_ℚ *ℚ a ≡ zero_ℚ
zero-mul = Ring.zero-mul ring_ℚ

pub d_assoc : (a b c : Delta) → d_mul (d_mul a b) c ≡ d_mul a (d_mul b c)
d_assoc a b c = ext (simp ring_laws) (simp ring_laws)

pub d_comm : (a b : Delta) → d_mul a b ≡ d_mul b a
d_comm a b = ext (simp ring_laws) (simp ring_laws)

pub d_one : (a : Delta) → d_mul a (of_ℚ one_ℚ) ≡ a
d_one a = ext (simp ring_laws) (simp (ring_laws, mul-zero))

pub d_mul_add : (a b c : Delta) → d_mul a (d_add b c) ≡ d_add (d_mul a b) (d_mul a c)
d_mul_add a b c = ext (simp ring_laws) (simp ring_laws)

-- these numbers as a commutative ring
abbrev pub ring_Δ : CommRing Delta
ring_Δ = record {
  𝟘 = of_ℚ zero_ℚ;
  𝟙 = of_ℚ one_ℚ;
  ◌+◌ = d_add;
  ◌*◌ = d_mul;
  neg = d_neg;
  add_comm = λ a b. ext (Q.add_comm a.real b.real) (Q.add_comm a.inf b.inf);
  add_assoc = λ a b c. ext (Q.add_assoc a.real b.real c.real) (Q.add_assoc a.inf b.inf c.inf);
  add-zero = λ a. ext (Q.add-zero a.real) (Q.add-zero a.inf);
  add-neg = λ a. ext (Q.add-neg a.real) (Q.add-neg a.inf);
  mul_comm = d_comm;
  mul_assoc = d_assoc;
  mul-one = d_one;
  mul-add = d_mul_add;
}

-- the number 0
abbrev zero_Δ : Delta
zero_Δ = of_ℚ zero_ℚ

zero_sub : (a b : ℚ) → a ≡ b → zero_ℚ ≡ b -ℚ a
zero_sub a b e = sym (Ring.sub_of_eq ring_ℚ b a (sym e))

sub_zero : (a b : ℚ) → zero_ℚ ≡ b -ℚ a → a ≡ b
sub_zero a b e = sym (Ring.eq_of_sub ring_ℚ b a (sym e))

pub sub_of_le : (a b : Delta) → a ≤Δ b → zero_Δ ≤Δ d_add b (d_neg a)
sub_of_le a b h = record {
  le = elim h.le [
    | inl k ↦ inl (O.sub_of_lt a.real b.real k)
    | inr k ↦ inr (zero_sub a.real b.real k.0, O.sub_of_le a.inf b.inf k.1)
  ];
}

pub le_of_sub : (a b : Delta) → zero_Δ ≤Δ d_add b (d_neg a) → a ≤Δ b
le_of_sub a b h = record {
  le = elim h.le [
    | inl k ↦ inl (O.lt_of_sub a.real b.real k)
    | inr k ↦ inr (sub_zero a.real b.real k.0, O.le_of_sub a.inf b.inf k.1)
  ];
}

pub sub_of_lt : (a b : Delta) → a <Δ b → zero_Δ <Δ d_add b (d_neg a)
sub_of_lt a b h = record {
  lt = elim h.lt [
    | inl k ↦ inl (O.sub_of_lt a.real b.real k)
    | inr k ↦ inr (zero_sub a.real b.real k.0, O.sub_of_lt a.inf b.inf k.1)
  ];
}

pub lt_of_sub : (a b : Delta) → zero_Δ <Δ d_add b (d_neg a) → a <Δ b
lt_of_sub a b h = record {
  lt = elim h.lt [
    | inl k ↦ inl (O.lt_of_sub a.real b.real k)
    | inr k ↦ inr (sub_zero a.real b.real k.0, O.lt_of_sub a.inf b.inf k.1)
  ];
}

add_eq : (a b : ℚ) → zero_ℚ ≡ a → b ≡ a +ℚ b
add_eq a b e = sym (Ring.zero-add ring_ℚ b) ∙ ap (λ x. x +ℚ b) e

lt_add : (a b : ℚ) → zero_ℚ <ℚ a → zero_ℚ <ℚ b → zero_ℚ <ℚ a +ℚ b
lt_add a b h k = O.add_lt a b h (O.le_of_lt b k)

lt_right : (a b : ℚ) → zero_ℚ ≡ a → zero_ℚ <ℚ b → zero_ℚ <ℚ a +ℚ b
lt_right a b e h = subst (λ x. zero_ℚ <ℚ x) (add_eq a b e) h

lt_left : (a b : ℚ) → zero_ℚ <ℚ a → zero_ℚ ≡ b → zero_ℚ <ℚ a +ℚ b
lt_left a b h e = subst (λ x. zero_ℚ <ℚ x) (add_eq b a e ∙ Q.add_comm b a) h

zero_sum : (a b : ℚ) → zero_ℚ ≡ a → zero_ℚ ≡ b → zero_ℚ ≡ a +ℚ b
zero_sum a b e f = f ∙ add_eq a b e

pub add_le : (a b : Delta) → zero_Δ ≤Δ a → zero_Δ ≤Δ b → zero_Δ ≤Δ d_add a b
add_le a b h k = record {
  le = elim h.le [
    | inl p ↦ elim k.le [
      | inl q ↦ inl (lt_add a.real b.real p q)
      | inr q ↦ inl (lt_left a.real b.real p q.0)
    ]
    | inr p ↦ elim k.le [
      | inl q ↦ inl (lt_right a.real b.real p.0 q)
      | inr q ↦ inr (zero_sum a.real b.real p.0 q.0, O.add_le a.inf b.inf p.1 q.1)
    ]
  ];
}

pub add_lt : (a b : Delta) → zero_Δ <Δ a → zero_Δ ≤Δ b → zero_Δ <Δ d_add a b
add_lt a b h k = record {
  lt = elim h.lt [
    | inl p ↦ elim k.le [
      | inl q ↦ inl (lt_add a.real b.real p q)
      | inr q ↦ inl (lt_left a.real b.real p q.0)
    ]
    | inr p ↦ elim k.le [
      | inl q ↦ inl (lt_right a.real b.real p.0 q)
      | inr q ↦ inr (zero_sum a.real b.real p.0 q.0, O.add_lt a.inf b.inf p.1 q.1)
    ]
  ];
}

pub le_of_lt : (a : Delta) → zero_Δ <Δ a → zero_Δ ≤Δ a
le_of_lt a h = record { le = elim h.lt [ inl p ↦ inl p | inr p ↦ inr (p.0, O.le_of_lt a.inf p.1) ] }

pub zero_le : zero_Δ ≤Δ zero_Δ
zero_le = record { le = inr (refl, O.zero_le) }

pub not-lt : zero_Δ <Δ zero_Δ → ⊥
not-lt h = elim h.lt [ inl p ↦ O.not-lt p | inr p ↦ O.not-lt p.1 ]

pub either : (a b : Delta) → (a ≤Δ b) ⊎ (b <Δ a)
either a b = elim (O.either a.real b.real) [
  | inr k ↦ inr (record { lt = inl k })
  | inl k ↦ elim (O.lt_or_eq a.real b.real k) [
    | inl p ↦ inl (record { le = inl p })
    | inr e ↦ elim (O.either a.inf b.inf) [
      | inl p ↦ inl (record { le = inr (e, p) })
      | inr p ↦ inr (record { lt = inr (sym e, p) })
    ]
  ]
]

-- these numbers as an ordered ring
abbrev pub order_Δ : Ordered ring_Δ
order_Δ = record {
  ◌≤◌ = ◌≤Δ◌;
  ◌<◌ = ◌<Δ◌;
  sub_of_le = sub_of_le;
  le_of_sub = le_of_sub;
  sub_of_lt = sub_of_lt;
  lt_of_sub = lt_of_sub;
  zero_le = zero_le;
  not-lt = not-lt;
  le_of_lt = le_of_lt;
  add_le = add_le;
  add_lt = add_lt;
  either = either;
}

pub neg-zero : zero_ℚ ≡ neg_ℚ zero_ℚ
neg-zero = sym (Ring.neg-zero ring_ℚ)

pub mul_ofs : (a b : ℚ) → zero_ℚ ≡ a *ℚ zero_ℚ +ℚ zero_ℚ *ℚ b
mul_ofs a b = simp (mul-zero, zero-mul, Q.add-zero)

-- numbers as multiples of a Delta
pub scale_is : (q : ℚ) (a : Delta) → d_mul (of_ℚ q) a ≡ delta (q *ℚ a.real) (q *ℚ a.inf)
scale_is q a = ext refl (simp (zero-mul, Q.add-zero))

-- coefficients as their numerals
abbrev pub coefs_Δ : Coefs ring_Δ Coef
coefs_Δ = record {
  hom = λ c. of_ℚ (of_coef c);
  cone = coefs_ℚ.cone;
  cadd = coefs_ℚ.cadd;
  cmul = coefs_ℚ.cmul;
  cneg = coefs_ℚ.cneg;
  is_zero = coefs_ℚ.is_zero;
  hom-one = refl;
  hom-add = λ a b. ext (coefs_ℚ.hom-add a b) (sym (Q.add-zero zero_ℚ));
  hom-mul = λ a b. ext (coefs_ℚ.hom-mul a b) (mul_ofs (of_coef a) (of_coef b));
  hom-neg = λ a. ext (coefs_ℚ.hom-neg a) neg-zero;
  hom-zero = λ a h. ext (coefs_ℚ.hom-zero a h) refl;
}

pub of_le : (q : ℚ) → zero_ℚ ≤ℚ q → zero_Δ ≤Δ of_ℚ q
of_le q h = record { le = elim (O.lt_or_eq zero_ℚ q h) [ inl p ↦ inl p | inr e ↦ inr (e, O.zero_le) ] }

pub of_lt : (q : ℚ) → zero_ℚ <ℚ q → zero_Δ <Δ of_ℚ q
of_lt q h = record { lt = inl h }

pub mul_le : (q : ℚ) (a : Delta) → zero_ℚ ≤ℚ q → zero_Δ ≤Δ a → zero_Δ ≤Δ d_mul (of_ℚ q) a
mul_le q a h k = subst (λ x. zero_Δ ≤Δ x) (sym (scale_is q a)) (record {
  le = elim (O.lt_or_eq zero_ℚ q h) [
    | inl p ↦ elim k.le [
      | inl r ↦ inl (O.mul_lt q a.real p r)
      | inr r ↦ inr (sym (mul-zero q) ∙ ap (λ x. q *ℚ x) r.0, O.mul_le q a.inf h r.1)
    ]
    | inr e ↦ inr (sym (zero-mul a.real) ∙ ap (λ x. x *ℚ a.real) e, subst (λ x. zero_ℚ ≤ℚ x) (sym (zero-mul a.inf) ∙ ap (λ x. x *ℚ a.inf) e) O.zero_le)
  ];
})

pub mul_lt : (q : ℚ) (a : Delta) → zero_ℚ <ℚ q → zero_Δ <Δ a → zero_Δ <Δ d_mul (of_ℚ q) a
mul_lt q a h k = subst (λ x. zero_Δ <Δ x) (sym (scale_is q a)) (record {
  lt = elim k.lt [
    | inl r ↦ inl (O.mul_lt q a.real h r)
    | inr r ↦ inr (sym (mul-zero q) ∙ ap (λ x. q *ℚ x) r.0, O.mul_lt q a.inf h r.1)
  ];
})

-- the signs of coefficients, for linear arithmetic
abbrev pub signs_Δ : Signs order_Δ coefs_Δ
signs_Δ = record {
  at_least_zero = signs_ℚ.at_least_zero;
  above_zero = signs_ℚ.above_zero;
  at_least_zero_is = λ c h. of_le (of_coef c) (signs_ℚ.at_least_zero_is c h);
  above_zero_is = λ c h. of_lt (of_coef c) (signs_ℚ.above_zero_is c h);
  scale_le = λ c a h. mul_le (of_coef c) a (signs_ℚ.at_least_zero_is c h);
  scale_lt = λ c a h. mul_lt (of_coef c) a (signs_ℚ.above_zero_is c h);
}

pub le_trans : (a b c : Delta) → a ≤Δ b → b ≤Δ c → a ≤Δ c
le_trans a b c h k = lin_le signs_Δ (a ∷ b ∷ c ∷ []) (var 0) (var 2) ((var 0 ≼ var 1) ∷ (var 1 ≼ var 2) ∷ []) tt (h, (k, tt))

-- ---- the order as `Ord::cmp` answers it
by_parts : (a b : Delta) (o p : Ordering) → MatchOrdering o (a.real <ℚ b.real) (a.real ≡ b.real) (b.real <ℚ a.real) →
    MatchOrdering p (a.inf <ℚ b.inf) (a.inf ≡ b.inf) (b.inf <ℚ a.inf) → MatchOrdering (ordering_then o p) (a <Δ b) (a ≡ b) (b <Δ a)
by_parts a b Less p h k = record { lt = inl h }
by_parts a b Equal Less h k = record { lt = inr (h, k) }
by_parts a b Equal Equal h k = ext h k
by_parts a b Equal Greater h k = record { lt = inr (sym h, k) }
by_parts a b Greater p h k = record { lt = inl h }

-- what each answer says
pub ranks_Δ : (a b : Delta) → MatchOrdering (cmp_Δ a b) (a <Δ b) (a ≡ b) (b <Δ a)
ranks_Δ a b = by_parts a b (cmp_ℚ a.real b.real) (cmp_ℚ a.inf b.inf) (ranks_ℚ a.real b.real) (ranks_ℚ a.inf b.inf)

pub lt_trans : (a b c : Delta) → a <Δ b → b <Δ c → a <Δ c
lt_trans a b c h k = lin_lt signs_Δ (a ∷ b ∷ c ∷ []) (var 0) (var 2) ((var 0 ≺ var 1) ∷ (var 1 ≺ var 2) ∷ []) tt (h, (k, tt))

pub lt_irrefl : (a : Delta) → a <Δ a → ⊥
lt_irrefl a h = lin_false signs_Δ (a ∷ []) ((var 0 ≺ var 0) ∷ []) tt (h, tt)

pub cmp_Δ_total : IsTotalOrder cmp_Δ
cmp_Δ_total = strict (λ (a b : Delta). a <Δ b) lt_irrefl lt_trans cmp_Δ ranks_Δ
