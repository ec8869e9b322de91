-- A whole step of the check's loop: what the loop keeps, and that its measure falls.
use Rattle.std.proofs.Common.{◌≡◌, ℕ, zero, suc, ◌<◌, ◌⊎◌, inl, inr, Bool, true, false, T, eqb, List, [], ◌∷◌, length, get_or, set, refl, sym, ap, ◌∙◌, subst, arith}
use lib.Dec.{eqb→eq, eqb_refl}
use native.Mathlib.Decide.{ℕ_discrete}
use Rattle.rationals.specs.Rational.{ℚ, zero_ℚ}
use Rattle.rationals.proofs.Delta as D
use Rattle.rationals.specs.Delta.{Delta, of_ℚ}
use Rattle.simplex_logic.specs.Forms.{reals, infs, Rows, Solves_Δ}
use Rattle.simplex_logic.specs.Vectors.{dot, at, parts, value_at}
use Rattle.simplex_logic.proofs.Table.{at-read, length_set_ℕ}
use Rattle.simplex_logic.specs.Tables.{Tabled, is_column}
use Rattle.simplex_logic.proofs.Pivot.{value_same, get_here_ℕ, get_set_ℕ}
use Rattle.simplex_logic.specs.Limits.{Limits, Within, Beyond, Violates, Found}
use Rattle.simplex_logic.proofs.Bland.{under_least, over_most, Order3, less, same, more, compare, le_self}
use Rattle.simplex_logic.proofs.Ends.{Moved, measure_falls}
use Rattle.simplex_logic.specs.Pivoting.{measure, Remembered, Going, Marked}
use Rattle.simplex_logic.proofs.Witness.{Pivoted, remembered}
use Rattle.simplex_logic.proofs.Step.{fresh}
use Rattle.simplex_logic.proofs.Quantity.{columns_different}

-- ---- membership in the columns
is_true : (b : Bool) → b ≡ true → T b
is_true b e = subst (λ b. T b) (sym e) tt

true_of : (b : Bool) → T b → b ≡ true
true_of true h = refl
true_of false h = absurd h

here_step : (c x : ℕ) (cs : List ℕ) → x ≡ c → is_column (c ∷ cs) x ≡ true
here_step c x cs e = ap (λ b. elim b [ true ↦ true | false ↦ is_column cs x ]) (true_of (eqb x c) (subst (λ z. T (eqb x z)) e (eqb_refl x)))

there_step : (c x : ℕ) (cs : List ℕ) (b : Bool) → eqb x c ≡ b → is_column cs x ≡ true → is_column (c ∷ cs) x ≡ true
there_step c x cs true e h = ap (λ b. elim b [ true ↦ true | false ↦ is_column cs x ]) e
there_step c x cs false e h = ap (λ b. elim b [ true ↦ true | false ↦ is_column cs x ]) e ∙ h

pub in_column : (cs : List ℕ) (k x : ℕ) → k < length cs → get_or cs k 0 ≡ x → is_column cs x ≡ true
in_column [] k x h e = absurd (omega arith)
in_column (c ∷ cs) zero x h e = here_step c x cs (sym e)
in_column (c ∷ cs) (suc k) x h e = there_step c x cs (eqb x c) refl (in_column cs k x (omega arith) e)

place_step : (c x : ℕ) (cs : List ℕ) (b : Bool) → eqb x c ≡ b → is_column (c ∷ cs) x ≡ true → (is_column cs x ≡ true → (k : ℕ) × (k < length cs) × (get_or cs k 0 ≡ x))
    → (k : ℕ) × (k < suc (length cs)) × (get_or (c ∷ cs) k 0 ≡ x)
place_step c x cs true e h f = (0, omega arith, sym (eqb→eq x c (is_true (eqb x c) e)))
place_step c x cs false e h f = let p = f (sym (ap (λ b. elim b [ true ↦ true | false ↦ is_column cs x ]) e) ∙ h) in let q = p.1 in (suc p.0, omega arith, p.2)

no_false : false ≡ true → ⊥
no_false e = subst (λ b. T b) (sym e) tt

pub column_place : (cs : List ℕ) (x : ℕ) → is_column cs x ≡ true → (k : ℕ) × (k < length cs) × (get_or cs k 0 ≡ x)
column_place [] x h = absurd (no_false h)
column_place (c ∷ cs) x h = place_step c x cs (eqb x c) refl h (column_place cs x)

both_ways : (a b : Bool) → (a ≡ true → b ≡ true) → (b ≡ true → a ≡ true) → a ≡ b
both_ways true true f g = refl
both_ways true false f g = sym (f refl)
both_ways false true f g = g refl
both_ways false false f g = refl

never : (b : Bool) → (b ≡ true → ⊥) → b ≡ false
never true h = absurd (h refl)
never false h = refl

-- ---- values computed anew from those of the columns
length-parts : (b : Bool) (y : List Delta) → length (parts b y) ≡ length y
length-parts b [] = refl
length-parts b (d ∷ y) = ap suc (length-parts b y)

at-parts_true : (y : List Delta) (k : ℕ) → at (parts true y) k ≡ (get_or y k (of_ℚ zero_ℚ)).real
at-parts_true [] k = refl
at-parts_true (d ∷ y) zero = refl
at-parts_true (d ∷ y) (suc k) = at-parts_true y k

at-parts_false : (y : List Delta) (k : ℕ) → at (parts false y) k ≡ (get_or y k (of_ℚ zero_ℚ)).inf
at-parts_false [] k = refl
at-parts_false (d ∷ y) zero = refl
at-parts_false (d ∷ y) (suc k) = at-parts_false y k

module _ (rows : Rows) (n : ℕ) (cols : List ℕ) (tab : ℕ → List ℚ) (t : Tabled rows n cols tab) (y : List Delta) (l : length y ≡ length cols) (v : ℕ → Delta) (made : (x : ℕ) → x < n → v x ≡ value_at tab y x) where
  pub anew_solves : Solves_Δ rows v
  anew_solves = (
    λ x f e.
        let b = t.known x f e in
        ap (λ (d : Delta). d.real) (made x b.0) ∙ t.linear (parts true y) (length-parts true y ∙ l) x f e
        ∙ value_same (λ z. dot (tab z) (parts true y)) (reals v) n f b.1 (λ z h. sym (ap (λ (d : Delta). d.real) (made z h))),
    λ x f e.
        let b = t.known x f e in
        ap (λ (d : Delta). d.inf) (made x b.0) ∙ t.linear (parts false y) (length-parts false y ∙ l) x f e
        ∙ value_same (λ z. dot (tab z) (parts false y)) (infs v) n f b.1 (λ z h. sym (ap (λ (d : Delta). d.inf) (made z h))),
  )

  pub anew_column : (k : ℕ) → k < length cols → v (get_or cols k 0) ≡ get_or y k (of_ℚ zero_ℚ)
  anew_column k h =
      made (get_or cols k 0) (t.named k h)
      ∙ D.ext
      (sym (at-read (λ c. dot (tab c) (parts true y)) cols k h) ∙ ap (λ z. at z k) (t.own (parts true y) (length-parts true y ∙ l)) ∙ at-parts_true y k)
      (sym (at-read (λ c. dot (tab c) (parts false y)) cols k h) ∙ ap (λ z. at z k) (t.own (parts false y) (length-parts false y ∙ l)) ∙ at-parts_false y k)

-- ---- the loop
not_within : (L : Limits) (v : ℕ → Delta) (s : ℕ) (up : Bool) → Violates L v s up → Within L v s → ⊥
not_within L v s true u w = under_least (L.low s) (v s) (v s) u w.least (le_self (v s))
not_within L v s false u w = over_most (L.up s) (v s) (v s) u w.most (le_self (v s))

module _ (rows : Rows) (n : ℕ) (L : Limits) (cols : List ℕ) (tab : ℕ → List ℚ) (spent : ℕ → Bool) (v : ℕ → Delta) (g : Going rows n L cols tab spent v)
    (s : ℕ) (up : Bool) (b : Delta) (j : ℕ) (f : Found n L cols tab v s up b j)
    (cols' : List ℕ) (spent' : ℕ → Bool) (v' : ℕ → Delta) (members : (x : ℕ) → is_column cols' x ≡ is_column (set cols j s) x) (marked : Marked spent spent' s (get_or cols j 0))
    (kept : (k : ℕ) → k < length cols → (j ≡ k → ⊥) → v' (get_or cols k 0) ≡ v (get_or cols k 0)) (put : v' s ≡ b) where
  abbrev r : ℕ
  r = get_or cols j 0

  hj : j < length cols
  hj = f.first.is_column

  outs : (k : ℕ) → k < length cols → is_column cols (get_or cols k 0) ≡ true
  outs k h = in_column cols k (get_or cols k 0) h refl

  inside : is_column cols s ≡ false
  inside = never (is_column cols s) (λ e. let p = column_place cols s e in not_within L v s up f.violates (subst (λ x. Within L v x) p.2 (g.held p.0 p.1)))

  s_not_r : s ≡ r → ⊥
  s_not_r e = no_false (sym inside ∙ ap (is_column cols) e ∙ outs j hj)

  one_place : (k : ℕ) → k < length cols → get_or cols k 0 ≡ r → j ≡ k
  one_place k h e = elim (compare j k) [
    | less p ↦ absurd (columns_different rows n cols tab g.tabled j k p h (sym e))
    | same q ↦ q
    | more p ↦ absurd (columns_different rows n cols tab g.tabled k j p hj e)
  ]

  set_place : (k x : ℕ) → Dec (j ≡ k) → k < length cols → get_or (set cols j s) k 0 ≡ x → (x ≡ s) ⊎ ((get_or cols k 0 ≡ x) × (j ≡ k → ⊥))
  set_place k x (yes q) h e = inl (sym e ∙ ap (λ i. get_or (set cols j s) i 0) (sym q) ∙ get_here_ℕ cols j s hj)
  set_place k x (no d) h e = inr (sym (get_set_ℕ cols j k s d) ∙ e, d)

  now_in_set : (x : ℕ) → is_column (set cols j s) x ≡ true → (x ≡ s) ⊎ ((k : ℕ) × (k < length cols) × (get_or cols k 0 ≡ x) × (j ≡ k → ⊥))
  now_in_set x e =
      let p = column_place (set cols j s) x e in
      let h : p.0 < length cols = subst (λ m. p.0 < m) (length_set_ℕ cols j s) p.1 in
      elim (set_place p.0 x (ℕ_discrete j p.0) h p.2) [ inl q ↦ inl q | inr q ↦ inr (p.0, h, q.0, q.1) ]

  others : (x : ℕ) → (x ≡ s → ⊥) → (x ≡ r → ⊥) → is_column cols' x ≡ is_column cols x
  others x a c = members x ∙ both_ways (is_column (set cols j s) x) (is_column cols x)
      (λ e. elim (now_in_set x e) [ inl q ↦ absurd (a q) | inr q ↦ in_column cols q.0 x q.1 q.2 ])
      (λ e.
      let p = column_place cols x e in
      let d : j ≡ p.0 → ⊥ = λ q. c (sym p.2 ∙ ap (λ i. get_or cols i 0) (sym q)) in
      in_column (set cols j s) p.0 x (subst (λ m. p.0 < m) (sym (length_set_ℕ cols j s)) p.1) (get_set_ℕ cols j p.0 s d ∙ p.2))

  moved : Moved (is_column cols) spent (is_column cols') spent' s r
  moved = record {
    was_in = inside;
    was_out = outs j hj;
    now_out = members s ∙ in_column (set cols j s) j s (subst (λ m. j < m) (sym (length_set_ℕ cols j s)) hj) (get_here_ℕ cols j s hj);
    now_in = members r ∙ never (is_column (set cols j s) r) (λ e. elim (now_in_set r e) [ inl q ↦ s_not_r (sym q) | inr q ↦ q.3 (one_place q.0 q.1 q.2) ]);
    others = others;
    above = marked.above;
    left_last = marked.leaving;
    fresh = fresh rows n cols tab g.tabled L v g.solves (is_column cols) spent s j up f.is_variable g.sorted outs f.violates f.first g.spent_are;
  }

  marks : (x : ℕ) → spent' x ≡ true → Order3 x s → Order3 x r → ((s < x) × (r < x) × (spent x ≡ true)) ⊎ ((x ≡ s) × (r < s))
  marks x e (less p) o = absurd (no_false (sym (marked.below x (inl p)) ∙ e))
  marks x e o (less p) = absurd (no_false (sym (marked.below x (inr p)) ∙ e))
  marks x e (same p) (same q) = absurd (s_not_r (sym p ∙ q))
  marks x e (same p) (more q) = inr (p, subst (λ z. r < z) p q)
  marks x e (more p) (same q) = absurd (no_false (sym (marked.entering (subst (λ z. s < z) q p)) ∙ ap spent' (sym q) ∙ e))
  marks x e (more p) (more q) = inl (p, q, sym (marked.above x p q) ∙ e)

  pivoted_is : Pivoted L (is_column cols) spent spent' v v' s r
  pivoted_is = record {
    keeps = λ c e d.
        let p = column_place cols c e in
        subst (λ z. v' z ≡ v z) p.2 (kept p.0 p.1 (λ q. d (sym p.2 ∙ ap (λ i. get_or cols i 0) (sym q))));
    jumped = subst (λ z. Beyond (L.low s) (L.up s) z (v s)) (sym put) f.left;
    within = f.least;
    marked = λ x e. marks x e (compare x s) (compare x r);
  }

  -- the two facts that a turn of the loop needs beside the table's
  pub spent_on : Remembered (Solves_Δ rows) L (is_column cols') spent' v'
  spent_on = remembered (Solves_Δ rows) (Solves_Δ rows) L (is_column cols) spent (is_column cols') spent' v v' s r moved pivoted_is g.solves (λ w h. h) g.spent_are

  pub falls : measure n (is_column cols') spent' < measure n (is_column cols) spent
  falls = measure_falls n (is_column cols) spent (is_column cols') spent' s r f.is_variable (g.tabled.named j hj) moved
