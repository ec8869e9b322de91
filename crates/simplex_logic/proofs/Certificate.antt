-- The bounds of a row with no column that moves, with positive multipliers, add up to a contradiction.
use Rattle.std.proofs.Common.{◌≡◌, ℕ, ◌<◌, Bool, true, false, List, [], ◌∷◌, pos, refl, sym, ap, ◌∙◌, subst}
use Rattle.rationals.specs.Rational.{ℚ, zero_ℚ, one_ℚ, ◌+ℚ◌, ◌*ℚ◌, neg_ℚ, ◌<ℚ◌}
use Rattle.rationals.proofs.Ring.{var, con, ◌⊕◌, ◌⊗◌, minus}
use Rattle.rationals.proofs.RingQ.{coef, ring-ℚ}
use Rattle.rationals.proofs.Linear.{◌≼◌, ◌≺◌, ◌≈◌}
use Rattle.rationals.proofs.OrderQ as O
use Rattle.rationals.proofs.Finder.{lin_false, lin_le, lin_lt}
use Rattle.rationals.proofs.Delta as D
use Rattle.rationals.specs.Delta.{Delta, delta, d_add, d_mul, d_neg, of_ℚ, ◌≤Δ◌, ◌<Δ◌}
use Rattle.rationals.proofs.Delta.{signs_Δ, coefs_Δ}
use Rattle.simplex_logic.specs.Forms.{reals, infs, Rows, Solves_Δ}
use Rattle.simplex_logic.specs.Vectors.{dot, read}
use Rattle.simplex_logic.specs.Tables.{Tabled}
use Rattle.simplex_logic.specs.Limits.{Limits}
use Rattle.simplex_logic.specs.Contradictions.{times, Contradiction, Meets, Part, Positive, Stop, Stops, constant, first_part, side, side_Δ, stop_high, stop_low, stop_none, total}
use Rattle.simplex_logic.proofs.Bland.{weighted, of_neg, neg_pos, le_self, times_up, times_down}
use Rattle.simplex_logic.proofs.Step.{turned_row}

-- ---- it holds under no values
side_parts : (b : Bool) (d : Delta) → side_Δ b d ≡ delta (side b d.real) (side b d.inf)
side_parts true d = refl
side_parts false d = refl

abbrev total_Δ : (ℕ → Delta) → List Part → Delta
total_Δ w ps = delta (total (reals w) ps) (total (infs w) ps)

total_step : (w : ℕ → Delta) (p : Part) (ps : List Part) → total_Δ w (p ∷ ps) ≡ d_add (times p.by (side_Δ p.upper (w p.variable))) (total_Δ w ps)
total_step w p ps = sym (ap (λ z. d_add z (total_Δ w ps)) (ap (times p.by) (side_parts p.upper (w p.variable)) ∙ D.scale_is p.by (delta (side p.upper (w p.variable).real) (side p.upper (w p.variable).inf))))

one_more : (q : ℚ) (x c t k : Delta) → of_ℚ zero_ℚ ≤Δ d_mul (of_ℚ q) (d_add x (d_neg c)) → of_ℚ zero_ℚ ≤Δ d_add t k → of_ℚ zero_ℚ ≤Δ d_add (d_add (times q x) t) (d_add (times q (d_neg c)) k)
one_more q x c t k h g =
    lin_le signs_Δ (of_ℚ q ∷ x ∷ c ∷ t ∷ k ∷ []) (con (coef (pos 0) 0)) ((var 0 ⊗ var 1 ⊕ var 3) ⊕ (var 0 ⊗ minus (var 2) ⊕ var 4))
    ((con (coef (pos 0) 0) ≼ var 0 ⊗ (var 1 ⊕ minus (var 2))) ∷ (con (coef (pos 0) 0) ≼ var 3 ⊕ var 4) ∷ []) tt (h, (g, tt))

sum_holds : (w : ℕ → Delta) (ps : List Part) → Positive ps → Meets w ps → of_ℚ zero_ℚ ≤Δ d_add (total_Δ w ps) (constant ps)
sum_holds w [] h g = subst (λ x. of_ℚ zero_ℚ ≤Δ x) (sym (D.ring_Δ.add-zero (of_ℚ zero_ℚ))) D.zero_le
sum_holds w (p ∷ ps) h g =
    subst (λ x. of_ℚ zero_ℚ ≤Δ d_add x (constant (p ∷ ps))) (sym (total_step w p ps))
    (one_more p.by (side_Δ p.upper (w p.variable)) (side_Δ p.upper p.bound) (total_Δ w ps) (constant ps)
    (D.mul_le p.by (d_add (side_Δ p.upper (w p.variable)) (d_neg (side_Δ p.upper p.bound))) (O.le_of_lt p.by h.0) g.0) (sum_holds w ps h.1 g.1))

pub refuted : (rows : Rows) (ps : List Part) (w : ℕ → Delta) → Contradiction rows ps → Solves_Δ rows w → Meets w ps → ⊥
refuted rows ps w c g m =
    let z : total_Δ w ps ≡ of_ℚ zero_ℚ = D.ext (c.cancels (reals w) g.0) (c.cancels (infs w) g.1) in
    lin_false signs_Δ (total_Δ w ps ∷ constant ps ∷ [])
    ((con (coef (pos 0) 0) ≼ var 0 ⊕ var 1) ∷ (var 0 ≈ con (coef (pos 0) 0)) ∷ (var 1 ≺ con (coef (pos 0) 0)) ∷ []) tt
    (sum_holds w ps c.positive m, (z, (c.negative, tt)))

-- ---- the certificate of a row: for each column the limit that stops it, times the size of its coefficient
-- the part of one column: the sum of the variables turns round, the constant is no greater than the column's term, and its multiplier is positive
skip_total : (q x d : ℚ) → q ≡ zero_ℚ → neg_ℚ d ≡ neg_ℚ (q *ℚ x +ℚ d)
skip_total q x d e = sym (ap (λ z. neg_ℚ (z *ℚ x +ℚ d)) e ∙ ring-ℚ (x ∷ d ∷ []) (minus (con (coef (pos 0) 0) ⊗ var 0 ⊕ var 1)) (minus (var 1)) tt)

stop_total : (L : Limits) (v : ℕ → Delta) (σ : ℕ → ℚ) (q : ℚ) (c : ℕ) (ps rest : List Part) (d : ℚ) → Stop L v q c ps rest → total σ rest ≡ neg_ℚ d → total σ ps ≡ neg_ℚ (q *ℚ σ c +ℚ d)
stop_total L v σ q c ps rest d (stop_none e f) h = ap (total σ) f ∙ h ∙ skip_total q (σ c) d e
stop_total L v σ q c ps rest d (stop_high b p e k f) h =
    ap (total σ) f ∙ ap (λ z. q *ℚ neg_ℚ (σ c) +ℚ z) h ∙ ring-ℚ (q ∷ σ c ∷ d ∷ []) (var 0 ⊗ minus (var 1) ⊕ minus (var 2)) (minus (var 0 ⊗ var 1 ⊕ var 2)) tt
stop_total L v σ q c ps rest d (stop_low b p e k f) h =
    ap (total σ) f ∙ ap (λ z. neg_ℚ q *ℚ σ c +ℚ z) h ∙ ring-ℚ (q ∷ σ c ∷ d ∷ []) (minus (var 0) ⊗ var 1 ⊕ minus (var 2)) (minus (var 0 ⊗ var 1 ⊕ var 2)) tt

pub stops_total : (L : Limits) (v : ℕ → Delta) (σ : ℕ → ℚ) (qs : List ℚ) (cols : List ℕ) (ps : List Part) → Stops L v qs cols ps → total σ ps ≡ neg_ℚ (dot qs (read σ cols))
stops_total L v σ [] cols ps s = ap (total σ) s ∙ D.neg-zero
stops_total L v σ (q ∷ qs) [] ps s = ap (total σ) s ∙ D.neg-zero
stops_total L v σ (q ∷ qs) (c ∷ cols) ps s = stop_total L v σ q c ps s.0 (dot qs (read σ cols)) s.1 (stops_total L v σ qs cols s.0 s.2)

zero_term : (x y z : Delta) (q : ℚ) → q ≡ zero_ℚ → z ≤Δ y → z ≤Δ d_add (times q x) y
zero_term x y z q e h =
    subst (λ t. z ≤Δ d_add t y) (sym (ap (λ r. times r x) e ∙ D.scale_is zero_ℚ x ∙ D.ext (D.zero-mul x.real) (D.zero-mul x.inf)))
    (lin_le signs_Δ (y ∷ z ∷ []) (var 1) (con (coef (pos 0) 0) ⊕ var 0) ((var 1 ≼ var 0) ∷ []) tt (h, tt))

up_term : (q : ℚ) (b x y z : Delta) → zero_ℚ <ℚ q → b ≤Δ x → z ≤Δ y → d_add (times q (d_neg (d_neg b))) z ≤Δ d_add (times q x) y
up_term q b x y z p h k =
    let m = times_up q x b p h in
    lin_le signs_Δ (of_ℚ q ∷ b ∷ x ∷ y ∷ z ∷ []) (var 0 ⊗ minus (minus (var 1)) ⊕ var 4) (var 0 ⊗ var 2 ⊕ var 3) ((var 0 ⊗ var 1 ≼ var 0 ⊗ var 2) ∷ (var 4 ≼ var 3) ∷ []) tt (m, (k, tt))

down_term : (q : ℚ) (b x y z : Delta) → q <ℚ zero_ℚ → x ≤Δ b → z ≤Δ y → d_add (times (neg_ℚ q) (d_neg b)) z ≤Δ d_add (times q x) y
down_term q b x y z p h k =
    let m = times_down q x b p h in
    subst (λ t. d_add (d_mul t (d_neg b)) z ≤Δ d_add (times q x) y) (sym (of_neg q))
    (lin_le signs_Δ (of_ℚ q ∷ b ∷ x ∷ y ∷ z ∷ []) (minus (var 0) ⊗ minus (var 1) ⊕ var 4) (var 0 ⊗ var 2 ⊕ var 3) ((var 0 ⊗ var 1 ≼ var 0 ⊗ var 2) ∷ (var 4 ≼ var 3) ∷ []) tt (m, (k, tt)))

stop_constant : (L : Limits) (v : ℕ → Delta) (q : ℚ) (c : ℕ) (ps rest : List Part) (y : Delta) → Stop L v q c ps rest → constant rest ≤Δ y → constant ps ≤Δ d_add (times q (v c)) y
stop_constant L v q c ps rest y (stop_none e f) h = subst (λ l. constant l ≤Δ d_add (times q (v c)) y) (sym f) (zero_term (v c) y (constant rest) q e h)
stop_constant L v q c ps rest y (stop_high b p e k f) h = subst (λ l. constant l ≤Δ d_add (times q (v c)) y) (sym f) (up_term q b (v c) y (constant rest) p k h)
stop_constant L v q c ps rest y (stop_low b p e k f) h = subst (λ l. constant l ≤Δ d_add (times q (v c)) y) (sym f) (down_term q b (v c) y (constant rest) p k h)

pub stops_constant : (L : Limits) (v : ℕ → Delta) (qs : List ℚ) (cols : List ℕ) (ps : List Part) → Stops L v qs cols ps → constant ps ≤Δ weighted qs cols v
stops_constant L v [] cols ps s = subst (λ l. constant l ≤Δ of_ℚ zero_ℚ) (sym s) (le_self (of_ℚ zero_ℚ))
stops_constant L v (q ∷ qs) [] ps s = subst (λ l. constant l ≤Δ of_ℚ zero_ℚ) (sym s) (le_self (of_ℚ zero_ℚ))
stops_constant L v (q ∷ qs) (c ∷ cols) ps s = stop_constant L v q c ps s.0 (weighted qs cols v) s.1 (stops_constant L v qs cols s.0 s.2)

stop_positive : (L : Limits) (v : ℕ → Delta) (q : ℚ) (c : ℕ) (ps rest : List Part) → Stop L v q c ps rest → Positive rest → Positive ps
stop_positive L v q c ps rest (stop_none e f) h = subst (λ l. Positive l) (sym f) h
stop_positive L v q c ps rest (stop_high b p e k f) h = subst (λ l. Positive l) (sym f) (p, h)
stop_positive L v q c ps rest (stop_low b p e k f) h = subst (λ l. Positive l) (sym f) (neg_pos q p, h)

pub stops_positive : (L : Limits) (v : ℕ → Delta) (qs : List ℚ) (cols : List ℕ) (ps : List Part) → Stops L v qs cols ps → Positive ps
stops_positive L v [] cols ps s = subst (λ l. Positive l) (sym s) tt
stops_positive L v (q ∷ qs) [] ps s = subst (λ l. Positive l) (sym s) tt
stops_positive L v (q ∷ qs) (c ∷ cols) ps s = stop_positive L v q c ps s.0 s.1 (stops_positive L v qs cols s.0 s.2)

one_pos : zero_ℚ <ℚ one_ℚ
one_pos = lin_lt O.signs_ℚ [] (con (coef (pos 0) 0)) (con (coef (pos 1) 0)) [] tt tt

cancel_up : (x : ℚ) → one_ℚ *ℚ x +ℚ neg_ℚ x ≡ zero_ℚ
cancel_up x = ring-ℚ (x ∷ []) (con (coef (pos 1) 0) ⊗ var 0 ⊕ minus (var 0)) (con (coef (pos 0) 0)) tt

pub contradiction_up : (rows : Rows) (n : ℕ) (cols : List ℕ) (tab : ℕ → List ℚ) (L : Limits) (v : ℕ → Delta) (s : ℕ) (b : Delta) (ps : List Part) → Tabled rows n cols tab → s < n
    → v s ≡ weighted (tab s) cols v → v s <Δ b → Stops L v (tab s) cols ps → Contradiction rows (first_part true s b ∷ ps)
contradiction_up rows n cols tab L v s b ps t hs e u k = record {
  positive = (one_pos, stops_positive L v (tab s) cols ps k);
  cancels = λ σ g.
      ap (λ z. one_ℚ *ℚ σ s +ℚ z) (stops_total L v σ (tab s) cols ps k ∙ ap neg_ℚ (sym (t.expressed σ g s hs))) ∙ cancel_up (σ s);
  negative =
      lin_lt signs_Δ (b ∷ constant ps ∷ weighted (tab s) cols v ∷ v s ∷ []) (con (coef (pos 1) 0) ⊗ minus (var 0) ⊕ var 1) (con (coef (pos 0) 0))
      ((var 1 ≼ var 2) ∷ (var 3 ≈ var 2) ∷ (var 3 ≺ var 0) ∷ []) tt (stops_constant L v (tab s) cols ps k, (e, (u, tt)));
}

dot_turned : (qs ys : List ℚ) → dot (turned_row false qs) ys ≡ neg_ℚ (dot qs ys)
dot_turned [] ys = D.neg-zero
dot_turned (q ∷ qs) [] = D.neg-zero
dot_turned (q ∷ qs) (y ∷ ys) = ap (λ z. neg_ℚ q *ℚ y +ℚ z) (dot_turned qs ys) ∙ ring-ℚ (q ∷ y ∷ dot qs ys ∷ []) (minus (var 0) ⊗ var 1 ⊕ minus (var 2)) (minus (var 0 ⊗ var 1 ⊕ var 2)) tt

cancel_down : (x : ℚ) → one_ℚ *ℚ neg_ℚ x +ℚ neg_ℚ (neg_ℚ x) ≡ zero_ℚ
cancel_down x = ring-ℚ (x ∷ []) (con (coef (pos 1) 0) ⊗ minus (var 0) ⊕ minus (minus (var 0))) (con (coef (pos 0) 0)) tt

pub contradiction_down : (rows : Rows) (n : ℕ) (cols : List ℕ) (tab : ℕ → List ℚ) (L : Limits) (v : ℕ → Delta) (s : ℕ) (b : Delta) (ps : List Part) → Tabled rows n cols tab → s < n
    → d_neg (v s) ≡ weighted (turned_row false (tab s)) cols v → b <Δ v s → Stops L v (turned_row false (tab s)) cols ps → Contradiction rows (first_part false s b ∷ ps)
contradiction_down rows n cols tab L v s b ps t hs e u k = record {
  positive = (one_pos, stops_positive L v (turned_row false (tab s)) cols ps k);
  cancels = λ σ g.
      ap (λ z. one_ℚ *ℚ neg_ℚ (σ s) +ℚ z)
      (stops_total L v σ (turned_row false (tab s)) cols ps k ∙ ap neg_ℚ (dot_turned (tab s) (read σ cols) ∙ ap neg_ℚ (sym (t.expressed σ g s hs)))) ∙ cancel_down (σ s);
  negative =
      lin_lt signs_Δ (b ∷ constant ps ∷ weighted (turned_row false (tab s)) cols v ∷ v s ∷ []) (con (coef (pos 1) 0) ⊗ minus (minus (var 0)) ⊕ var 1) (con (coef (pos 0) 0))
      ((var 1 ≼ var 2) ∷ (minus (var 3) ≈ var 2) ∷ (var 0 ≺ var 3) ∷ []) tt (stops_constant L v (turned_row false (tab s)) cols ps k, (e, (u, tt)));
}
