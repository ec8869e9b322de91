-- Why least-index pivoting ends: a variable that left the basis does not enter again before a greater variable moves.
use Rattle.std.proofs.Common.{◌≡◌, ℕ, zero, suc, ◌<◌, List, [], ◌∷◌, Option, None, Some, inl, inr, refl, sym, ap, ◌∙◌, subst, arith, pos}
use Rattle.rationals.specs.Rational.{ℚ, zero_ℚ, neg_ℚ, ◌<ℚ◌}
use Rattle.rationals.proofs.Ring.{var, con, ◌⊕◌, ◌⊗◌, minus}
use Rattle.rationals.proofs.RingQ.{coef}
use Rattle.rationals.proofs.Linear.{◌≼◌, ◌≺◌}
use Rattle.rationals.proofs.OrderQ as O
use Rattle.rationals.proofs.Finder.{lin_false, lin_le, lin_lt}
use Rattle.rationals.proofs.Delta as D
use Rattle.rationals.specs.Delta.{Delta, d_add, d_mul, d_neg, of_ℚ, ◌≤Δ◌, ◌<Δ◌}
use Rattle.rationals.proofs.Delta.{signs_Δ}
use Rattle.simplex_logic.specs.Contradictions.{times}
use Rattle.simplex_logic.specs.Limits.{AtLeast, AtMost, Beyond, CanFall, CanRise, Empty, Full, Limits, Moves, Over, Stuck, Under, Within, falls, over, rises, under}
use Rattle.simplex_logic.specs.Pivoting.{Spent}

pub data Order3 (m n : ℕ) : Type 0 where
  less : m < n → Order3 m n
  same : m ≡ n → Order3 m n
  more : n < m → Order3 m n

pub compare : (m n : ℕ) → Order3 m n
compare zero zero = same refl
compare zero (suc n) = less (omega arith)
compare (suc m) zero = more (omega arith)
compare (suc m) (suc n) = elim (compare m n) [
  | less h ↦ less (omega arith)
  | same e ↦ same (ap suc e)
  | more h ↦ more (omega arith)
]

-- ---- one column
sub_le : (x y : Delta) → of_ℚ zero_ℚ ≤Δ d_add y (d_neg x) → x ≤Δ y
sub_le x y h = D.le_of_sub x y h

-- q y ≤ q x where q > 0 and y ≤ x, or q < 0 and x ≤ y
pub times_up : (q : ℚ) (x y : Delta) → zero_ℚ <ℚ q → y ≤Δ x → times q y ≤Δ times q x
times_up q x y h k =
    let m = D.mul_le q (d_add x (d_neg y)) (O.le_of_lt q h) (D.sub_of_le y x k) in
    lin_le signs_Δ (of_ℚ q ∷ x ∷ y ∷ []) (var 0 ⊗ var 2) (var 0 ⊗ var 1) ((con (coef (pos 0) 0) ≼ var 0 ⊗ (var 1 ⊕ minus (var 2))) ∷ []) tt (m, tt)

pub neg_pos : (q : ℚ) → q <ℚ zero_ℚ → zero_ℚ <ℚ neg_ℚ q
neg_pos q h = lin_lt O.signs_ℚ (q ∷ []) (con (coef (pos 0) 0)) (minus (var 0)) ((var 0 ≺ con (coef (pos 0) 0)) ∷ []) tt (h, tt)

pub of_neg : (q : ℚ) → of_ℚ (neg_ℚ q) ≡ d_neg (of_ℚ q)
of_neg q = D.ext refl D.neg-zero

pub times_down : (q : ℚ) (x y : Delta) → q <ℚ zero_ℚ → x ≤Δ y → times q y ≤Δ times q x
times_down q x y h k =
    let m : of_ℚ zero_ℚ ≤Δ d_mul (d_neg (of_ℚ q)) (d_add y (d_neg x)) =
    subst (λ z. of_ℚ zero_ℚ ≤Δ d_mul z (d_add y (d_neg x))) (of_neg q) (D.mul_le (neg_ℚ q) (d_add y (d_neg x)) (O.le_of_lt (neg_ℚ q) (neg_pos q h)) (D.sub_of_le x y k)) in
    lin_le signs_Δ (of_ℚ q ∷ x ∷ y ∷ []) (var 0 ⊗ var 2) (var 0 ⊗ var 1)
    ((con (coef (pos 0) 0) ≼ minus (var 0) ⊗ (var 2 ⊕ minus (var 1))) ∷ []) tt (m, tt)

pub le_self : (x : Delta) → x ≤Δ x
le_self x = lin_le signs_Δ (x ∷ []) (var 0) (var 0) [] tt tt

weak : (x y : Delta) → x <Δ y → x ≤Δ y
weak x y h = lin_le signs_Δ (x ∷ y ∷ []) (var 0) (var 1) ((var 0 ≺ var 1) ∷ []) tt (h, tt)

not_both : (x y : Delta) → x <Δ y → y ≤Δ x → ⊥
not_both x y h k = lin_false signs_Δ (x ∷ y ∷ []) ((var 0 ≺ var 1) ∷ (var 1 ≼ var 0) ∷ []) tt (h, (k, tt))

times_zero : (x y : Delta) → times zero_ℚ y ≤Δ times zero_ℚ x
times_zero x y = subst (λ z. z ≤Δ times zero_ℚ x) (D.scale_is zero_ℚ x ∙ D.ext (D.zero-mul x.real ∙ sym (D.zero-mul y.real)) (D.zero-mul x.inf ∙ sym (D.zero-mul y.inf)) ∙ sym (D.scale_is zero_ℚ y)) (le_self (times zero_ℚ x))

-- by the sign of q
by_sign : (q : ℚ) (x y : Delta) → (zero_ℚ <ℚ q → y ≤Δ x) → (q <ℚ zero_ℚ → x ≤Δ y) → times q y ≤Δ times q x
by_sign q x y f g = elim (O.either zero_ℚ q) [
  | inr n ↦ times_down q x y n (g n)
  | inl h ↦ elim (O.lt_or_eq zero_ℚ q h) [
    | inl p ↦ times_up q x y p (f p)
    | inr e ↦ subst (λ z. times z y ≤Δ times z x) e (times_zero x y)
  ]
]

full_most : (b : Option Delta) (x y : Delta) → Full b x → AtMost b y → y ≤Δ x
full_most None x y f h = absurd f
full_most (Some b) x y f h = D.le_trans y b x h f

empty_least : (b : Option Delta) (x y : Delta) → Empty b x → AtLeast b y → x ≤Δ y
empty_least None x y f h = absurd f
empty_least (Some b) x y f h = D.le_trans x b y f h

-- a column that is stuck: its term is no greater at any y within the limits
pub stuck_term : (q : ℚ) (low up : Option Delta) (x y : Delta) → Stuck q low up x → AtLeast low y → AtMost up y → times q y ≤Δ times q x
stuck_term q low up x y s h k = by_sign q x y (λ p. full_most up x y (s.rise p) k) (λ n. empty_least low x y (s.fall n) h)

can_rise : (b : Option Delta) (x : Delta) → b ≡ Some x → CanRise b x → ⊥
can_rise b x e c = not_both x x (subst (λ o. CanRise o x) e c) (le_self x)

can_fall : (b : Option Delta) (x : Delta) → b ≡ Some x → CanFall b x → ⊥
can_fall b x e c = not_both x x (subst (λ o. CanFall o x) e c) (le_self x)

-- a column that moves, from the limit that y was beyond
pub moves_term : (q : ℚ) (low up : Option Delta) (x y : Delta) → Moves q low up x → Beyond low up x y → times q y ≤Δ times q x
moves_term q low up x y (rises p c) (under e h) = times_up q x y p (weak y x h)
moves_term q low up x y (rises p c) (over e h) = absurd (can_rise up x e c)
moves_term q low up x y (falls n c) (under e h) = absurd (can_fall low x e c)
moves_term q low up x y (falls n c) (over e h) = times_down q x y n (weak x y h)

-- ---- a row
abbrev pub weighted : List ℚ → List ℕ → (ℕ → Delta) → Delta
weighted [] cols v = of_ℚ zero_ℚ
weighted (q ∷ qs) [] v = of_ℚ zero_ℚ
weighted (q ∷ qs) (c ∷ cols) v = d_add (times q (v c)) (weighted qs cols v)

-- what holds of each coefficient with its column
abbrev pub Each : (ℚ → ℕ → Type 0) → List ℚ → List ℕ → Type 0
Each P [] cols = Unit {0}
Each P (q ∷ qs) [] = Unit {0}
Each P (q ∷ qs) (c ∷ cols) = P q c × Each P qs cols

pub weighted_le : (v w : ℕ → Delta) (qs : List ℚ) (cols : List ℕ) → Each (λ q c. times q (w c) ≤Δ times q (v c)) qs cols → weighted qs cols w ≤Δ weighted qs cols v
weighted_le v w [] cols h = le_self (of_ℚ zero_ℚ)
weighted_le v w (q ∷ qs) [] h = le_self (of_ℚ zero_ℚ)
weighted_le v w (q ∷ qs) (c ∷ cols) h =
    lin_le signs_Δ (times q (w c) ∷ weighted qs cols w ∷ times q (v c) ∷ weighted qs cols v ∷ []) (var 0 ⊕ var 1) (var 2 ⊕ var 3)
    ((var 0 ≼ var 2) ∷ (var 1 ≼ var 3) ∷ []) tt (h.0, (weighted_le v w qs cols h.1, tt))

pub each_map : (P R : ℚ → ℕ → Type 0) (qs : List ℚ) (cols : List ℕ) → ((q : ℚ) (c : ℕ) → P q c → R q c) → Each P qs cols → Each R qs cols
each_map P R [] cols f h = tt
each_map P R (q ∷ qs) [] f h = tt
each_map P R (q ∷ qs) (c ∷ cols) f h = (f q c h.0, each_map P R qs cols f h.1)

-- ---- the limits of all variables
-- what least-index choice of r as the variable that enters says of one column
pub record Chosen (L : Limits) (v : ℕ → Delta) (r : ℕ) (q : ℚ) (c : ℕ) : Type 0 where
  pub earlier : c < r → Stuck q (L.low c) (L.up c) (v c)
  pub here : c ≡ r → Moves q (L.low c) (L.up c) (v c)

-- of one column, under a choice and a witness that r is spent
pub column_falls : (L : Limits) (v w : ℕ → Delta) (r : ℕ) (q : ℚ) (c : ℕ) → Spent L v w r → (r < c → w c ≡ v c) → Chosen L v r q c → times q (w c) ≤Δ times q (v c)
column_falls L v w r q c s a h = elim (compare c r) [
  | less p ↦ let i = s.within c p in stuck_term q (L.low c) (L.up c) (v c) (w c) (h.earlier p) i.least i.most
  | same e ↦ moves_term q (L.low c) (L.up c) (v c) (w c) (h.here e) (subst (λ z. Beyond (L.low z) (L.up z) (v z) (w z)) (sym e) s.left)
  | more p ↦ subst (λ z. times q z ≤Δ times q (v c)) (sym (a p)) (le_self (times q (v c)))
]

-- ---- the variable that enters was not spent: s leaves, r enters, s < r
pub under_least : (b : Option Delta) (x y : Delta) → Under b x → AtLeast b y → y ≤Δ x → ⊥
under_least None x y u h k = absurd u
under_least (Some b) x y u h k = not_both x b u (D.le_trans b y x h k)

pub over_most : (b : Option Delta) (x y : Delta) → Over b x → AtMost b y → x ≤Δ y → ⊥
over_most None x y u h k = absurd u
over_most (Some b) x y u h k = not_both b x u (D.le_trans x y b k h)

neg_flip : (x y : Delta) → d_neg y ≤Δ d_neg x → x ≤Δ y
neg_flip x y h = lin_le signs_Δ (x ∷ y ∷ []) (var 0) (var 1) ((minus (var 1) ≼ minus (var 0)) ∷ []) tt (h, tt)

abbrev pub Columns : Limits → (ℕ → Delta) → (ℕ → Delta) → ℕ → ℚ → ℕ → Type 0
Columns L v w r q c = (r < c → w c ≡ v c) × Chosen L v r q c

row_falls : (L : Limits) (v w : ℕ → Delta) (r : ℕ) (qs : List ℚ) (cols : List ℕ) → Spent L v w r → Each (Columns L v w r) qs cols → weighted qs cols w ≤Δ weighted qs cols v
row_falls L v w r qs cols p h =
    weighted_le v w qs cols (each_map (Columns L v w r) (λ q c. times q (w c) ≤Δ times q (v c)) qs cols (λ q c k. column_falls L v w r q c p k.0 k.1) h)

-- the row must rise
pub no_return_up : (L : Limits) (v w : ℕ → Delta) (s r : ℕ) (qs : List ℚ) (cols : List ℕ) → s < r → Under (L.low s) (v s) → v s ≡ weighted qs cols v → w s ≡ weighted qs cols w
    → Spent L v w r → Each (Columns L v w r) qs cols → ⊥
no_return_up L v w s r qs cols h u e f p k =
    let i = p.within s h in under_least (L.low s) (v s) (w s) u i.least (subst (λ x. w s ≤Δ x) (sym e) (subst (λ x. x ≤Δ weighted qs cols v) (sym f) (row_falls L v w r qs cols p k)))

-- the row must fall: its coefficients are turned round
pub no_return_down : (L : Limits) (v w : ℕ → Delta) (s r : ℕ) (qs : List ℚ) (cols : List ℕ) → s < r → Over (L.up s) (v s) → d_neg (v s) ≡ weighted qs cols v → d_neg (w s) ≡ weighted qs cols w
    → Spent L v w r → Each (Columns L v w r) qs cols → ⊥
no_return_down L v w s r qs cols h u e f p k =
    let i = p.within s h in over_most (L.up s) (v s) (w s) u i.most (neg_flip (v s) (w s) (subst (λ x. d_neg (w s) ≤Δ x) (sym e) (subst (λ x. x ≤Δ weighted qs cols v) (sym f) (row_falls L v w r qs cols p k))))

-- a row with no column that moves: no values within the limits repair it
abbrev pub All_stuck : Limits → (ℕ → Delta) → ℚ → ℕ → Type 0
All_stuck L v q c = Stuck q (L.low c) (L.up c) (v c)

stuck_columns : (L : Limits) (v w : ℕ → Delta) (qs : List ℚ) (cols : List ℕ) → ((x : ℕ) → Within L w x) → Each (All_stuck L v) qs cols → weighted qs cols w ≤Δ weighted qs cols v
stuck_columns L v w qs cols g h =
    weighted_le v w qs cols (each_map (All_stuck L v) (λ q c. times q (w c) ≤Δ times q (v c)) qs cols (λ q c k. stuck_term q (L.low c) (L.up c) (v c) (w c) k (g c).least (g c).most) h)

pub stuck_up : (L : Limits) (v w : ℕ → Delta) (s : ℕ) (qs : List ℚ) (cols : List ℕ) → Under (L.low s) (v s) → v s ≡ weighted qs cols v → Each (All_stuck L v) qs cols
    → w s ≡ weighted qs cols w → ((x : ℕ) → Within L w x) → ⊥
stuck_up L v w s qs cols u e k f g =
    under_least (L.low s) (v s) (w s) u (g s).least (subst (λ x. w s ≤Δ x) (sym e) (subst (λ x. x ≤Δ weighted qs cols v) (sym f) (stuck_columns L v w qs cols g k)))

pub stuck_down : (L : Limits) (v w : ℕ → Delta) (s : ℕ) (qs : List ℚ) (cols : List ℕ) → Over (L.up s) (v s) → d_neg (v s) ≡ weighted qs cols v → Each (All_stuck L v) qs cols
    → d_neg (w s) ≡ weighted qs cols w → ((x : ℕ) → Within L w x) → ⊥
stuck_down L v w s qs cols u e k f g =
    over_most (L.up s) (v s) (w s) u (g s).most (neg_flip (v s) (w s) (subst (λ x. d_neg (w s) ≤Δ x) (sym e) (subst (λ x. x ≤Δ weighted qs cols v) (sym f) (stuck_columns L v w qs cols g k))))
