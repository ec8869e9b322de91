-- One step of the check: the variable that enters was not spent, so the measure falls; with no such variable the bounds contradict.
use Rattle.std.proofs.Common.{◌≡◌, ℕ, suc, ◌<◌, Bool, true, false, List, [], ◌∷◌, length, get_or, refl, sym, ap, ◌∙◌, subst, arith}
use Rattle.rationals.specs.Rational.{ℚ, zero_ℚ, ◌*ℚ◌, neg_ℚ}
use Rattle.rationals.proofs.Ring.{ring, var, ◌⊕◌, ◌⊗◌, minus}
use Rattle.rationals.proofs.Delta as D
use Rattle.rationals.specs.Delta.{Delta, delta, d_add, d_mul, d_neg, of_ℚ}
use Rattle.rationals.proofs.Delta.{coefs_Δ}
use Rattle.simplex_logic.specs.Forms.{reals, infs, Rows, Solves_Δ}
use Rattle.simplex_logic.specs.Vectors.{dot, at, read}
use Rattle.simplex_logic.specs.Tables.{Tabled, Sorted}
use Rattle.simplex_logic.specs.Limits.{Limits, Within, Moves, First, Violates, turned}
use Rattle.simplex_logic.specs.Pivoting.{Spent, Remembered}
use Rattle.simplex_logic.proofs.Bland.{Chosen, Columns, Each, weighted, of_neg, no_return_up, no_return_down, stuck_up, stuck_down, All_stuck, Order3, less, same, more, compare}
use Rattle.simplex_logic.specs.Contradictions.{times}

weighted_parts : (qs : List ℚ) (cols : List ℕ) (v : ℕ → Delta) → weighted qs cols v ≡ delta (dot qs (read (reals v) cols)) (dot qs (read (infs v) cols))
weighted_parts [] cols v = refl
weighted_parts (q ∷ qs) [] v = refl
weighted_parts (q ∷ qs) (c ∷ cols) v = ap (λ z. d_add z (weighted qs cols v)) (D.scale_is q (v c)) ∙ ap (λ z. d_add (delta (q *ℚ (v c).real) (q *ℚ (v c).inf)) z) (weighted_parts qs cols v)

-- a variable is its row, over Delta
pub row_value : (rows : Rows) (n : ℕ) (cols : List ℕ) (tab : ℕ → List ℚ) (w : ℕ → Delta) (s : ℕ) → Tabled rows n cols tab → s < n → Solves_Δ rows w → w s ≡ weighted (tab s) cols w
row_value rows n cols tab w s t h g = D.ext (t.expressed (reals w) g.0 s h) (t.expressed (infs w) g.1 s h) ∙ sym (weighted_parts (tab s) cols w)

-- ---- rows turned round where the value must fall
abbrev pub turned_row : Bool → List ℚ → List ℚ
turned_row up [] = []
turned_row up (q ∷ qs) = turned up q ∷ turned_row up qs

abbrev signed : Bool → Delta → Delta
signed true x = x
signed false x = d_neg x

turned_same : (qs : List ℚ) → turned_row true qs ≡ qs
turned_same [] = refl
turned_same (q ∷ qs) = ap (λ l. q ∷ l) (turned_same qs)

neg_step : (q : ℚ) (x y : Delta) → d_add (times (neg_ℚ q) x) (d_neg y) ≡ d_neg (d_add (times q x) y)
neg_step q x y = ap (λ z. d_add (d_mul z x) (d_neg y)) (of_neg q) ∙ ring coefs_Δ (of_ℚ q ∷ x ∷ y ∷ []) (minus (var 0) ⊗ var 1 ⊕ minus (var 2)) (minus (var 0 ⊗ var 1 ⊕ var 2)) tt

neg_none : of_ℚ zero_ℚ ≡ d_neg (of_ℚ zero_ℚ)
neg_none = D.ext D.neg-zero D.neg-zero

weighted_turned : (up : Bool) (qs : List ℚ) (cols : List ℕ) (v : ℕ → Delta) → weighted (turned_row up qs) cols v ≡ signed up (weighted qs cols v)
weighted_turned true qs cols v = ap (λ l. weighted l cols v) (turned_same qs)
weighted_turned false [] cols v = neg_none
weighted_turned false (q ∷ qs) [] v = neg_none
weighted_turned false (q ∷ qs) (c ∷ cols) v = ap (λ z. d_add (times (neg_ℚ q) (v c)) z) (weighted_turned false qs cols v) ∙ neg_step q (v c) (weighted qs cols v)

each_turned : (P : ℚ → ℕ → Type 0) (up : Bool) (qs : List ℚ) (cols : List ℕ) → Each (λ q c. P (turned up q) c) qs cols → Each P (turned_row up qs) cols
each_turned P up [] cols h = tt
each_turned P up (q ∷ qs) [] h = tt
each_turned P up (q ∷ qs) (c ∷ cols) h = (h.0, each_turned P up qs cols h.1)

each_index : (P : ℚ → ℕ → Type 0) (qs : List ℚ) (cols : List ℕ) → ((k : ℕ) → k < length cols → P (at qs k) (get_or cols k 0)) → Each P qs cols
each_index P [] cols h = tt
each_index P (q ∷ qs) [] h = tt
each_index P (q ∷ qs) (c ∷ cols) h = (h 0 (omega arith), each_index P qs cols (λ k p. h (suc k) (omega arith)))

-- ---- what the code finds
apart : (m n : ℕ) → m < n → m ≡ n → ⊥
apart m n h e = omega arith

not_above : (m n : ℕ) → m < n → n < m → ⊥
not_above m n h k = omega arith

-- sorted columns: the first one is the least variable
chosen_at : (L : Limits) (v : ℕ → Delta) (up : Bool) (qs : List ℚ) (cols : List ℕ) (j k : ℕ) → Sorted cols → First L v up qs cols j → k < length cols → Order3 k j → Chosen L v (get_or cols j 0) (turned up (at qs k)) (get_or cols k 0)
chosen_at L v up qs cols j k o f h (less p) = record { earlier = λ _. f.earlier k p; here = λ e. absurd (apart _ _ (o k j p f.is_column) e) }
chosen_at L v up qs cols j k o f h (same e) = record {
  earlier = λ g. absurd (apart _ _ g (ap (λ i. get_or cols i 0) e));
  here = λ _. subst (λ i. let c = get_or cols i 0 in Moves (turned up (at qs i)) (L.low c) (L.up c) (v c)) (sym e) f.moves;
}
chosen_at L v up qs cols j k o f h (more p) = let b = o j k p h in record { earlier = λ g. absurd (not_above _ _ b g); here = λ e. absurd (apart _ _ b (sym e)) }

module _ (rows : Rows) (n : ℕ) (cols : List ℕ) (tab : ℕ → List ℚ) (t : Tabled rows n cols tab) (L : Limits) (v : ℕ → Delta) (now : Solves_Δ rows v) where
  signed_row : (up : Bool) (w : ℕ → Delta) (s : ℕ) → s < n → Solves_Δ rows w → signed up (w s) ≡ weighted (turned_row up (tab s)) cols w
  signed_row up w s h g = ap (signed up) (row_value rows n cols tab w s t h g) ∙ sym (weighted_turned up (tab s) cols w)

  no_return : (w : ℕ → Delta) (s r : ℕ) (up : Bool) → s < n → s < r → Violates L v s up → Solves_Δ rows w → Spent L v w r → Each (Columns L v w r) (turned_row up (tab s)) cols → ⊥
  no_return w s r true hs h u g p k = no_return_up L v w s r (turned_row true (tab s)) cols h u (signed_row true v s hs now) (signed_row true w s hs g) p k
  no_return w s r false hs h u g p k = no_return_down L v w s r (turned_row false (tab s)) cols h u (signed_row false v s hs now) (signed_row false w s hs g) p k

  is_false : (b : Bool) → (b ≡ true → ⊥) → b ≡ false
  is_false true h = absurd (h refl)
  is_false false h = refl

  -- the variable that enters was not spent
  pub fresh : (out spent : ℕ → Bool) (s j : ℕ) (up : Bool) → s < n → Sorted cols → ((k : ℕ) → k < length cols → out (get_or cols k 0) ≡ true) → Violates L v s up → First L v up (tab s) cols j
      → Remembered (Solves_Δ rows) L out spent v → s < get_or cols j 0 → spent (get_or cols j 0) ≡ false
  fresh out spent s j up hs o outs u f m h = is_false (spent (get_or cols j 0)) (λ e.
      let g = m (get_or cols j 0) e in
      no_return g.0 s (get_or cols j 0) up hs h u g.1.solves g.1.is_spent
      (each_turned (Columns L v g.0 (get_or cols j 0)) up (tab s) cols
      (each_index (λ q c. Columns L v g.0 (get_or cols j 0) (turned up q) c) (tab s) cols
      (λ k p. (λ a. g.1.kept (get_or cols k 0) a (outs k p), chosen_at L v up (tab s) cols j k o f p (compare k j))))))

  -- no column moves: nothing meets the rows and the limits
  pub conflict : (s : ℕ) (up : Bool) → s < n → Violates L v s up → ((k : ℕ) → k < length cols → All_stuck L v (turned up (at (tab s) k)) (get_or cols k 0))
      → (w : ℕ → Delta) → Solves_Δ rows w → ((x : ℕ) → Within L w x) → ⊥
  conflict s true hs u k w g i = stuck_up L v w s (turned_row true (tab s)) cols u (signed_row true v s hs now)
      (each_turned (All_stuck L v) true (tab s) cols (each_index (λ q c. All_stuck L v (turned true q) c) (tab s) cols k)) (signed_row true w s hs g) i
  conflict s false hs u k w g i = stuck_down L v w s (turned_row false (tab s)) cols u (signed_row false v s hs now)
      (each_turned (All_stuck L v) false (tab s) cols (each_index (λ q c. All_stuck L v (turned false q) c) (tab s) cols k)) (signed_row false w s hs g) i
