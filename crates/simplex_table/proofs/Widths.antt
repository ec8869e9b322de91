-- The operands of what is too wide are numbers of the tableau.
use Rattle.std.proofs.Common.{◌≡◌, ◌≢◌, ℕ, ◌<◌, ◌⊎◌, inl, inr, List, length, set, take, sym, ap, ◌∙◌, subst}
use native.Mathlib.Decide.{ℕ_discrete}
use Rattle.rationals.specs.Rational.{ℚ, zero_ℚ, one_ℚ, ◌*ℚ◌}
use Rattle.rationals.specs.Delta.{Delta}
use Rattle.fraction128.specs.declared.errors.Wide.{Wide}
use Rattle.simplex_logic.specs.Forms.{Form, row_of}
use Rattle.simplex_logic.specs.Vectors.{at, dot, parts, pivot_row}
use Rattle.simplex_logic.specs.Quantities.{Quantity, zero_is, one_is, Vertex}
use Rattle.simplex_logic.proofs.Dense.{at-set}
use Rattle.simplex_logic.proofs.Operands.{value_times_left, value_times_right, value_plus_left, value_plus_right}
use Rattle.simplex_logic.proofs.Pivot.{length_pivot}
use Rattle.simplex_logic.proofs.Quantity.{tabled_basis, divide_left, divide_right, times_left, times_right, plus_left, plus_right}
use Rattle.simplex_table.specs.View.{State, Sound, row_at, WideIn, Known}
use Rattle.simplex_table.specs.Causes.{OnWide, WideBy, WideAlong, multiplied, added, Solving, Replacing, Multiplying}
use Rattle.simplex_table.specs.Columns.{WideInRow}
use Rattle.simplex_table.specs.Values.{WideInPart}
use Rattle.simplex_table.specs.declared.error.TableauError.{TableauError}
use Rattle.simplex_table.specs.declared.error.TableauError.TheVariants.{Wide as TooWide, NoMemory}
use Rattle.simplex_table.proofs.Entries.{at_other}

-- what holds of the operation that is too wide, put in other words
pub on_wide : (P Q : Wide → Type 0) (e : TableauError) → ((w : Wide) → P w → Q w) → OnWide P e → OnWide Q e
on_wide P Q (TooWide w) f p = f w p
on_wide P Q NoMemory f p = tt

-- both operands are numbers of the tableau
pub wide_in : (s : State) (handed : Form → Type 0) (C : List Delta) (w : Wide) (P : ℚ → ℚ → Type 0) → Sound s → WideBy P w
    → ((l r : ℚ) → P l r → Quantity (row_of s.rows) (length s.rows) handed s.columns C l × Quantity (row_of s.rows) (length s.rows) handed s.columns C r) → WideIn s handed C w
wide_in s handed C w P h b f = let q = f w.left w.right b.operands in record {
  basis = tabled_basis (row_of s.rows) (length s.rows) s.columns (row_at s.table) h.tabled h.many;
  left = q.0;
  right = q.1;
  wide = b.wide;
}

module _ (s : State) (h : Sound s) (C : List Delta) where
  abbrev Counts : ℚ → Type 0
  Counts = Quantity (row_of s.rows) (length s.rows) (Known s) s.columns C

  put : (q r : ℚ) → q ≡ r → Counts r → Counts q
  put q r e c = subst Counts (sym e) c

  -- a row that is solved
  pub wide_solved : (v j : ℕ) (w : Wide) → v < length s.rows → j < length s.columns → at (row_at s.table v) j ≢ zero_ℚ → WideAlong (length (row_at s.table v)) (Solving (row_at s.table v) j) w → WideIn s (Known s) C w
  wide_solved v j w hv hj nz a =
      wide_in s (Known s) C w (Solving (row_at s.table v) j a.column) h a.by (λ l r o. (left l o.0, put r (at (row_at s.table v) j) o.1 (divide_right (row_of s.rows) (length s.rows) (Known s) s.columns (row_at s.table) C h.tabled h.many v j hv hj nz)))
    where
      left : (l : ℚ) → (l ≡ one_ℚ) ⊎ (l ≡ at (row_at s.table v) a.column) → Counts l
      left l (inl e) = one_is e
      left l (inr e) =
          put l (at (row_at s.table v) a.column) e
          (divide_left (row_of s.rows) (length s.rows) (Known s) s.columns (row_at s.table) C h.tabled h.many v j hv hj nz a.column (subst (λ n. a.column < n) (h.tabled.width v hv) a.inside))

  -- a row in which a variable is replaced
  pub wide_replaced : (v j : ℕ) (w : Wide) → v < length s.rows → j < length s.columns → at (row_at s.table v) j ≢ zero_ℚ → WideInRow j (pivot_row j (row_at s.table v)) s.table w → WideIn s (Known s) C w
  wide_replaced v j w hv hj nz a =
      wide_in s (Known s) C w (Replacing j (pivot_row j (row_at s.table v)) a.entries a.along.column) h a.along.by both
    where
      known : a.row < length s.rows
      known = subst (λ n. a.row < n) h.long a.inside

      inside : a.along.column < length s.columns
      inside = subst (λ n. a.along.column < n) (length_pivot j (row_at s.table v) ∙ h.tabled.width v hv) a.along.inside

      long : length a.entries ≡ length s.columns
      long = ap length a.is ∙ h.tabled.width a.row known

      kept : (l : ℚ) → l ≡ at (set a.entries j zero_ℚ) a.along.column → Dec (a.along.column ≡ j) → Counts l
      kept l e (yes f) = zero_is (e ∙ ap (λ i. at (set a.entries j zero_ℚ) i) f ∙ at-set a.entries j zero_ℚ (subst (λ n. j < n) (sym long) hj))
      kept l e (no f) =
          put l (at (row_at s.table a.row) a.along.column) (e ∙ at_other a.entries j a.along.column zero_ℚ f ∙ ap (λ b. at b a.along.column) a.is)
          (plus_left (row_of s.rows) (length s.rows) (Known s) s.columns (row_at s.table) C h.tabled h.many v j hv hj nz a.row a.along.column known inside)

      both : (l r : ℚ) → Replacing j (pivot_row j (row_at s.table v)) a.entries a.along.column l r → Counts l × Counts r
      both l r (multiplied e f) = (
        put l (at (row_at s.table a.row) j) (e ∙ ap (λ b. at b j) a.is) (times_left (row_of s.rows) (length s.rows) (Known s) s.columns (row_at s.table) C h.tabled h.many v j hv hj nz a.row known),
        put r (at (pivot_row j (row_at s.table v)) a.along.column) f (times_right (row_of s.rows) (length s.rows) (Known s) s.columns (row_at s.table) C h.tabled h.many v j hv hj nz a.along.column inside),
      )
      both l r (added e f) = (
        kept l e (ℕ_discrete a.along.column j),
        put r (at (row_at s.table a.row) j *ℚ at (pivot_row j (row_at s.table v)) a.along.column) (f ∙ ap (λ b. at b j *ℚ at (pivot_row j (row_at s.table v)) a.along.column) a.is)
            (plus_right (row_of s.rows) (length s.rows) (Known s) s.columns (row_at s.table) C h.tabled h.many v j hv hj nz a.row a.along.column known inside),
      )

  -- a value
  pub wide_value : (y : List Delta) (x : ℕ) (row : List ℚ) (w : Wide) → Vertex s.columns C y → x < length s.rows → row ≡ row_at s.table x → WideInPart row y w → WideIn s (Known s) C w
  wide_value y x row w c hx e a =
      wide_in s (Known s) C w (Multiplying row (parts a.real y) a.along.column) h a.along.by both
    where
      inside : a.along.column < length s.columns
      inside = subst (λ n. a.along.column < n) (ap length e ∙ h.tabled.width x hx) a.along.inside

      both : (l r : ℚ) → Multiplying row (parts a.real y) a.along.column l r → Counts l × Counts r
      both l r (multiplied f g) = (
        put l (at (row_at s.table x) a.along.column) (f ∙ ap (λ b. at b a.along.column) e) (value_times_left (row_of s.rows) (length s.rows) (Known s) s.columns (row_at s.table) C h.tabled y c x hx a.along.column inside),
        put r (at (parts a.real y) a.along.column) g (value_times_right (row_of s.rows) (length s.rows) (Known s) s.columns (row_at s.table) C h.tabled y c x hx a.real a.along.column inside),
      )
      both l r (added f g) = (
        put l (dot (take a.along.column (row_at s.table x)) (parts a.real y)) (f ∙ ap (λ b. dot (take a.along.column b) (parts a.real y)) e) (value_plus_left (row_of s.rows) (length s.rows) (Known s) s.columns (row_at s.table) C h.tabled y c x hx a.real a.along.column h.sorted),
        put r (at (row_at s.table x) a.along.column *ℚ at (parts a.real y) a.along.column) (g ∙ ap (λ b. at b a.along.column *ℚ at (parts a.real y) a.along.column) e) (value_plus_right (row_of s.rows) (length s.rows) (Known s) s.columns (row_at s.table) C h.tabled y c x hx a.real a.along.column inside),
      )
