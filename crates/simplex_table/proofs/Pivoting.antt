-- The steps of a pivot, over a tableau's state.
use Rattle.std.proofs.Common.{◌≡◌, ◌≢◌, ℕ, ◌<◌, List, [], length, get_or, set, map, sym, ap, ◌∙◌, subst}
use Rattle.rationals.specs.Rational.{ℚ, zero_ℚ}
use Rattle.rationals.specs.Delta.{Delta}
use Rattle.fraction128.specs.declared.errors.Wide.{Wide}
use Rattle.simplex_logic.specs.Tables.{Sorted}
use Rattle.simplex_logic.specs.Vectors.{at, replaced, pivot_row}
use Rattle.simplex_logic.proofs.Pivot.{length_pivot}
use Rattle.simplex_logic.proofs.Table.{length_replaced, length_set_ℕ}
use Rattle.simplex_table.specs.Causes.{WideAlong, Solving}
use Rattle.simplex_table.specs.Columns.{HaveLength, Reordered, WideInRow}
use Rattle.simplex_table.specs.View.{State, Sound, row_at, WideIn, Known}
use Rattle.simplex_table.proofs.Firsts.{any_default, HaveLength-map}
use Rattle.simplex_table.proofs.Settling.{reordered_both}
use Rattle.simplex_table.proofs.Soundness.{same_lengths, sound_pivot}
use Rattle.simplex_table.proofs.Widths.{wide_solved, wide_replaced}

-- a row that was read by index is the variable's
pub read_row : (s : State) (v : ℕ) (row : List ℚ) → Sound s → v < length s.rows → row ≡ get_or s.table v row → row ≡ row_at s.table v
read_row s v row h p e = e ∙ any_default s.table v row [] (subst (λ n. v < n) (sym h.long) p)

module _ (s : State) (h : Sound s) (v j : ℕ) (row solved : List ℚ) (hv : v < length s.rows) (hj : j < length s.columns) (nz : at (row_at s.table v) j ≢ zero_ℚ) (e : row ≡ get_or s.table v row) (f : solved ≡ pivot_row j row) where
  row_is : row ≡ row_at s.table v
  row_is = read_row s v row h hv e

  solved_is : solved ≡ pivot_row j (row_at s.table v)
  solved_is = f ∙ ap (pivot_row j) row_is

  pub solved_long : length solved ≡ length s.columns
  solved_long = ap length solved_is ∙ length_pivot j (row_at s.table v) ∙ h.tabled.width v hv

  pub solved_in_row : j < length solved
  solved_in_row = subst (λ n. j < n) (sym solved_long) hj

  pub solved_lengths : HaveLength (length solved) s.table
  solved_lengths = subst (λ n. HaveLength n s.table) (sym solved_long) (same_lengths s h)

  pub wide_table : (C : List Delta) (w : Wide) → WideInRow j solved s.table w → WideIn s (Known s) C w
  wide_table C w a = wide_replaced s h C v j w hv hj nz (subst (λ p. WideInRow j p s.table w) solved_is a)

  pub table_lengths : HaveLength (length (set s.columns j v)) (map (replaced j solved) s.table)
  table_lengths =
      HaveLength-map (replaced j solved) (length s.columns) (length (set s.columns j v)) s.table (same_lengths s h)
      (λ b l. length_replaced j solved b (solved_long ∙ sym l) ∙ l ∙ sym (length_set_ℕ s.columns j v))

  pub sound_after : (cols cols' : List ℕ) (bs bs' : List (List ℚ)) → Reordered (set s.columns j v) (map (replaced j solved) s.table) cols bs → Reordered cols bs cols' bs' → Sorted cols' → Sound (record { rows = s.rows; columns = cols'; table = bs' })
  sound_after cols cols' bs bs' r q o =
      sound_pivot s v j cols' bs' h hv hj nz (subst (λ p. Reordered (set s.columns j v) (map (replaced j p) s.table) cols' bs') solved_is (reordered_both (set s.columns j v) cols cols' (map (replaced j solved) s.table) bs bs' r q)) o

-- the row that is solved
pub wide_row : (s : State) (v j : ℕ) (row : List ℚ) (C : List Delta) (w : Wide) → Sound s → v < length s.rows → j < length s.columns → at (row_at s.table v) j ≢ zero_ℚ → row ≡ get_or s.table v row → WideAlong (length row) (Solving row j) w → WideIn s (Known s) C w
wide_row s v j row C w h hv hj nz e a = wide_solved s h C v j w hv hj nz (subst (λ r. WideAlong (length r) (Solving r j) w) (read_row s v row h hv e) a)
