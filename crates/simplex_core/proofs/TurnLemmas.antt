-- A turn of the check: from what was found to what holds at the next turn.
use Rattle.std.proofs.Common.{◌≡◌, ◌≢◌, ℕ, zero, suc, ◌<◌, Bool, true, false, List, [], ◌∷◌, ◌⊎◌, inl, inr, length, get_or, set, Option, Some, None, refl, sym, ap, ◌∙◌, subst, arith}
use native.Mathlib.Decide.{ℕ_discrete}
use Rattle.std.specs.Prelude.{not, Contains}
use Rattle.std.proofs.lemmas.List.{length-map}
use Rattle.rationals.specs.Rational.{ℚ, zero_ℚ, neg_ℚ, ◌<ℚ◌}
use Rattle.rationals.specs.Delta.{Delta, of_ℚ}
use Rattle.rationals.proofs.OrderQ as O
use Rattle.rationals.proofs.Delta as D
use Rattle.fraction128.specs.declared.infinitesimal.Delta.{Delta as Fractions}
use Rattle.simplex_logic.specs.Forms.{Form, row_of}
use Rattle.simplex_logic.specs.Vectors.{value_at}
use Rattle.simplex_logic.specs.Tables.{Tabled, is_column}
use Rattle.simplex_logic.specs.Limits.{Limits, Within, AtLeast, AtMost, Under, Over, Beyond, under, over, Violates, Moves, rises, falls, First, Found, turned}
use Rattle.simplex_logic.specs.Pivoting.{Going, measure}
use Rattle.simplex_logic.specs.Quantities.{Vertex, In}
use Rattle.simplex_logic.proofs.Bland.{under_least, over_most, le_self}
use Rattle.simplex_logic.proofs.Pivot.{get_here_ℕ, get_set_ℕ}
use Rattle.simplex_logic.proofs.Table.{length_set_ℕ}
use Rattle.simplex_logic.proofs.Going.{in_column, column_place, anew_solves, anew_column}
use Rattle.simplex_logic.proofs.Going as Turns
use Rattle.simplex_table.specs.View.{State, Sound, Exchanged, AreValues, row_at, delta_of, delta_at, deltas}
use Rattle.simplex_bounds.specs.declared.Bound.{Bound}
use Rattle.simplex_bounds.specs.declared.Range.{Range}
use Rattle.simplex_bounds.specs.Ranges.{range_at, limit_of, limits_of, InRange, IsStraight, Stands, at_zero, at_low, at_up, Ranged}
use Rattle.simplex_core.specs.Choosing.{IsViolated, too_low, too_high, IsFirstViolated, AllStuck}
use Rattle.simplex_core.specs.Conflicts.{Certificate, Certifies}
use Rattle.simplex_core.specs.Wides.{values_of}
use Rattle.simplex_core.specs.Checking.{marks_after, mark_at, ArePoints, OwnBounds, Turning, turns_left, IsConflictIn}
use Rattle.simplex_core.proofs.ConflictLemmas.{Wrong, row_conflict}
use Rattle.simplex_core.proofs.PointLemmas.{at-set_same, at-set_other}
use Rattle.simplex_core.proofs.MarkLemmas.{marked_after, length-after}

pub no_false : false ≡ true → ⊥
no_false e = cc

never : (b : Bool) → (b ≡ true → ⊥) → b ≡ false
never true h = absurd (h refl)
never false h = refl

pub within_of : (ranges : List Range) (v : ℕ → Delta) (x : ℕ) → InRange (range_at ranges x) (v x) → Within (limits_of ranges) v x
within_of ranges v x h = record { least = h.least; most = h.most }

pub range_of : (ranges : List Range) (v : ℕ → Delta) (x : ℕ) → Within (limits_of ranges) v x → InRange (range_at ranges x) (v x)
range_of ranges v x h = record { least = h.least; most = h.most }

-- ---- the variable that leaves
-- what is known of the bound at a place that it is violated at
pub record Leaves (ranges : List Range) (v : ℕ → Delta) (b : Bound) (p : ℕ) (u : Bool) : Type 0 where
  pub violates : Violates (limits_of ranges) v p (not u)
  pub left : Beyond ((limits_of ranges).low p) ((limits_of ranges).up p) (delta_of b.value) (v p)
  pub wrong : Wrong u (delta_of b.value) (v p)
  pub stands : Stands (range_at ranges p) (delta_of b.value)
  pub in_range : InRange (range_at ranges p) (delta_of b.value)

most_at : (r : Range) (b : Bound) (o : Option Bound) → IsStraight r → r.low ≡ Some b → r.up ≡ o → AtMost (limit_of o) (delta_of b.value)
most_at r b None s e f = tt
most_at r b (Some u) s e f = s b u e f

least_at : (r : Range) (b : Bound) (o : Option Bound) → IsStraight r → r.up ≡ Some b → r.low ≡ o → AtLeast (limit_of o) (delta_of b.value)
least_at r b None s e f = tt
least_at r b (Some u) s e f = s u b f e

leaves_at : (ranges : List Range) (v : ℕ → Delta) (b : Bound) (p : ℕ) → OwnBounds ranges → IsStraight (range_at ranges p) → IsViolated (range_at ranges p) (v p) b → Leaves ranges v b p b.upper
leaves_at ranges v b p o s (too_low e h) =
    subst (λ u. Leaves ranges v b p u) (sym (o.low p b e).1) (record {
      violates = subst (λ z. Under (limit_of z) (v p)) (sym e) h;
      left = under (ap limit_of e) h;
      wrong = h;
      stands = at_low b e refl;
      in_range = record { least = subst (λ z. AtLeast (limit_of z) (delta_of b.value)) (sym e) (le_self (delta_of b.value)); most = most_at (range_at ranges p) b (range_at ranges p).up s e refl };
    })
leaves_at ranges v b p o s (too_high e h) =
    subst (λ u. Leaves ranges v b p u) (sym (o.up p b e).1) (record {
      violates = subst (λ z. Over (limit_of z) (v p)) (sym e) h;
      left = over (ap limit_of e) h;
      wrong = h;
      stands = at_up b e refl;
      in_range = record { least = least_at (range_at ranges p) b (range_at ranges p).low s e refl; most = subst (λ z. AtMost (limit_of z) (delta_of b.value)) (sym e) (le_self (delta_of b.value)) };
    })

variable_at : (ranges : List Range) (x : Delta) (b : Bound) (p : ℕ) → OwnBounds ranges → IsViolated (range_at ranges p) x b → b.variable ≡ p
variable_at ranges x b p o (too_low e h) = (o.low p b e).0
variable_at ranges x b p o (too_high e h) = (o.up p b e).0

module _ (ranges : List Range) (values : List Fractions) (b : Bound) (o : OwnBounds ranges) (f : IsFirstViolated ranges values b) where
  same_place : b.variable ≡ f.place
  same_place = variable_at ranges (delta_at values f.place) b f.place o f.violated

  pub leaving_below : b.variable < length ranges
  leaving_below = subst (λ p. p < length ranges) (sym same_place) f.inside

  pub leaving : ((v : ℕ) → IsStraight (range_at ranges v)) → Leaves ranges (delta_at values) b b.variable b.upper
  leaving s = subst (λ p. Leaves ranges (delta_at values) b p b.upper) (sym same_place) (leaves_at ranges (delta_at values) b f.place o (s f.place) f.violated)

  pub least_leaving : (x : ℕ) → x < b.variable → Within (limits_of ranges) (delta_at values) x
  least_leaving x h = within_of ranges (delta_at values) x (f.earlier x (subst (λ p. x < p) same_place h))

-- what a turn finds
pub found_is : (s : State) (ranges : List Range) (values : List Fractions) (spent : List Bool) (b : Bound) (j : ℕ) → Turning s ranges values spent → IsFirstViolated ranges values b
    → First (limits_of ranges) (delta_at values) (not b.upper) (row_at s.table b.variable) s.columns j
    → Found (length s.rows) (limits_of ranges) s.columns (row_at s.table) (delta_at values) b.variable (not b.upper) (delta_of b.value) j
found_is s ranges values spent b j t f k =
    let l = leaving ranges values b t.own f t.straight in
    record {
      is_variable = subst (λ n. b.variable < n) t.ranged (leaving_below ranges values b t.own f);
      violates = l.violates;
      left = l.left;
      least = least_leaving ranges values b t.own f;
      first = k;
    }

not_within : (L : Limits) (v : ℕ → Delta) (s : ℕ) (up : Bool) → Violates L v s up → Within L v s → ⊥
not_within L v s true u w = under_least (L.low s) (v s) (v s) u w.least (le_self (v s))
not_within L v s false u w = over_most (L.up s) (v s) (v s) u w.most (le_self (v s))

-- the variable that leaves is basic
pub is_basic : (s : State) (ranges : List Range) (values : List Fractions) (spent : List Bool) (x : ℕ) (up : Bool) → Turning s ranges values spent → Violates (limits_of ranges) (delta_at values) x up → is_column s.columns x ≡ false
is_basic s ranges values spent x up t h =
    never (is_column s.columns x) (λ e.
    let q = column_place s.columns x e in
    not_within (limits_of ranges) (delta_at values) x up h (subst (λ z. Within (limits_of ranges) (delta_at values) z) q.2 (t.going.held q.0 q.1)))

turned_zero : (up : Bool) (q : ℚ) → q ≡ zero_ℚ → turned up q ≡ zero_ℚ
turned_zero true q e = e
turned_zero false q e = ap neg_ℚ e ∙ sym D.neg-zero

-- the entry of a column that moves is not 0
pub entry_moves : (up : Bool) (q : ℚ) (low high : Option Delta) (x : Delta) → Moves (turned up q) low high x → q ≢ zero_ℚ
entry_moves up q low high x (rises p c) e = O.lt_irrefl zero_ℚ (subst (λ z. zero_ℚ <ℚ z) (turned_zero up q e) p)
entry_moves up q low high x (falls p c) e = O.lt_irrefl zero_ℚ (subst (λ z. z <ℚ zero_ℚ) (turned_zero up q e) p)

-- ---- the next turn
module _ (s s' : State) (ranges : List Range) (values values' found : List Fractions) (spent : List Bool) (b : Bound) (j : ℕ) (t : Turning s ranges values spent) (viol : IsFirstViolated ranges values b)
    (k : First (limits_of ranges) (delta_at values) (not b.upper) (row_at s.table b.variable) s.columns j) (o : Sound s') (e : Exchanged s s' b.variable j)
    (p : ArePoints s'.columns (set values b.variable b.value) found) where
  abbrev L : Limits
  L = limits_of ranges

  abbrev n : ℕ
  n = length s.rows

  abbrev put_in : List Fractions
  put_in = set values b.variable b.value

  fd : Found n L s.columns (row_at s.table) (delta_at values) b.variable (not b.upper) (delta_of b.value) j
  fd = found_is s ranges values spent b j t viol k

  lv : Leaves ranges (delta_at values) b b.variable b.upper
  lv = leaving ranges values b t.own viol t.straight

  hj : j < length s.columns
  hj = k.is_column

  long_set : (i : ℕ) → i < length s.columns → i < length (set s.columns j b.variable)
  long_set i h = subst (λ m. i < m) (sym (length_set_ℕ s.columns j b.variable)) h

  inside : is_column s.columns b.variable ≡ false
  inside = is_basic s ranges values spent b.variable (not b.upper) t fd.violates

  not_s : (i : ℕ) → i < length s.columns → get_or s.columns i 0 ≡ b.variable → ⊥
  not_s i h q = no_false (sym inside ∙ in_column s.columns i b.variable h q)

  s_new : is_column s'.columns b.variable ≡ true
  s_new = e.members b.variable ∙ in_column (set s.columns j b.variable) j b.variable (long_set j hj) (get_here_ℕ s.columns j b.variable hj)

  old_new : (i : ℕ) → i < length s.columns → (j ≡ i → ⊥) → is_column s'.columns (get_or s.columns i 0) ≡ true
  old_new i h d = e.members (get_or s.columns i 0) ∙ in_column (set s.columns j b.variable) i (get_or s.columns i 0) (long_set i h) (get_set_ℕ s.columns j i b.variable d)

  put_here : delta_at put_in b.variable ≡ delta_of b.value
  put_here = at-set_same values b.variable b.value (subst (λ m. b.variable < m) (sym t.long) fd.is_variable)

  put_there : (i : ℕ) → i < length s.columns → delta_at put_in (get_or s.columns i 0) ≡ delta_at values (get_or s.columns i 0)
  put_there i h = at-set_other values b.variable (get_or s.columns i 0) b.value (not_s i h)

  from_place : (x i : ℕ) → Dec (j ≡ i) → i < length s.columns → get_or (set s.columns j b.variable) i 0 ≡ x → (x ≡ b.variable) ⊎ ((m : ℕ) × (m < length s.columns) × (get_or s.columns m 0 ≡ x) × (j ≡ m → ⊥))
  from_place x i (yes q) h f = inl (sym f ∙ ap (λ z. get_or (set s.columns j b.variable) z 0) (sym q) ∙ get_here_ℕ s.columns j b.variable hj)
  from_place x i (no d) h f = inr (i, h, sym (get_set_ℕ s.columns j i b.variable d) ∙ f, d)

  -- a new column is the variable that left, or was one before
  whence : (x : ℕ) → is_column s'.columns x ≡ true → (x ≡ b.variable) ⊎ ((m : ℕ) × (m < length s.columns) × (get_or s.columns m 0 ≡ x) × (j ≡ m → ⊥))
  whence x h =
      let q = column_place (set s.columns j b.variable) x (sym (e.members x) ∙ h) in
      let l : q.0 < length s.columns = subst (λ m. q.0 < m) (length_set_ℕ s.columns j b.variable) q.1 in
      from_place x q.0 (ℕ_discrete j q.0) l q.2

  -- what holds of the bound at its variable, and of the old value of each column that stays, holds of each new column
  new_column : (P : ℕ → Delta → Type 0) → P b.variable (delta_of b.value) → ((m : ℕ) → m < length s.columns → P (get_or s.columns m 0) (delta_at values (get_or s.columns m 0))) → (x : ℕ) → is_column s'.columns x ≡ true → P x (delta_at put_in x)
  new_column P here there x h = elim (whence x h) [
    | inl q ↦ subst (λ z. P z (delta_at put_in z)) (sym q) (subst (λ d. P b.variable d) (sym put_here) here)
    | inr q ↦ subst (λ z. P z (delta_at put_in z)) q.2 (subst (λ d. P (get_or s.columns q.0 0) d) (sym (put_there q.0 q.1)) (there q.0 q.1))
  ]

  -- the points of the new columns stand at 0 or at limits
  pub points_stand : (i : ℕ) → i < length s'.columns → Stands (range_at ranges (get_or s'.columns i 0)) (delta_at found i)
  points_stand i h =
      subst (λ d. Stands (range_at ranges (get_or s'.columns i 0)) d) (sym (p.each i h))
      (new_column (λ x d. Stands (range_at ranges x) d) lv.stands t.stands (get_or s'.columns i 0) (in_column s'.columns i (get_or s'.columns i 0) h refl))

  module _ (vs : AreValues s' (deltas found) values') where
    tabled' : Tabled (row_of s.rows) n s'.columns (row_at s'.table)
    tabled' = subst (λ (rs : List (Option Form)). Tabled (row_of rs) (length rs) s'.columns (row_at s'.table)) e.rows o.tabled

    made : (x : ℕ) → x < n → delta_at values' x ≡ value_at (row_at s'.table) (deltas found) x
    made x h = vs.each x (subst (λ (rs : List (Option Form)). x < length rs) (sym e.rows) h)

    long_points : length (deltas found) ≡ length s'.columns
    long_points = length-map found delta_of ∙ p.long

    now : (i : ℕ) → i < length s'.columns → delta_at values' (get_or s'.columns i 0) ≡ delta_at put_in (get_or s'.columns i 0)
    now i h = anew_column (row_of s.rows) n s'.columns (row_at s'.table) tabled' (deltas found) long_points (delta_at values') made i h ∙ p.each i h

    at_column : (x : ℕ) → is_column s'.columns x ≡ true → delta_at values' x ≡ delta_at put_in x
    at_column x h = let q = column_place s'.columns x h in subst (λ z. delta_at values' z ≡ delta_at put_in z) q.2 (now q.0 q.1)

    put : delta_at values' b.variable ≡ delta_of b.value
    put = at_column b.variable s_new ∙ put_here

    kept : (i : ℕ) → i < length s.columns → (j ≡ i → ⊥) → delta_at values' (get_or s.columns i 0) ≡ delta_at values (get_or s.columns i 0)
    kept i h d = at_column (get_or s.columns i 0) (old_new i h d) ∙ put_there i h

    each_new : (P : ℕ → Delta → Type 0) → P b.variable (delta_of b.value) → ((m : ℕ) → m < length s.columns → P (get_or s.columns m 0) (delta_at values (get_or s.columns m 0))) → (i : ℕ) → i < length s'.columns → P (get_or s'.columns i 0) (delta_at values' (get_or s'.columns i 0))
    each_new P here there i h = subst (λ d. P (get_or s'.columns i 0) d) (sym (now i h)) (new_column P here there (get_or s'.columns i 0) (in_column s'.columns i (get_or s'.columns i 0) h refl))

    spent' : List Bool
    spent' = marks_after b.variable (get_or s.columns j 0) spent

    going' : Going (row_of s.rows) n L s'.columns (row_at s'.table) (mark_at (marks_after b.variable (get_or s.columns j 0) spent)) (delta_at values')
    going' = record {
      tabled = tabled';
      sorted = o.sorted;
      solves = anew_solves (row_of s.rows) n s'.columns (row_at s'.table) tabled' (deltas found) long_points (delta_at values') made;
      held = λ i h. within_of ranges (delta_at values') (get_or s'.columns i 0) (each_new (λ x d. InRange (range_at ranges x) d) lv.in_range (λ m l. range_of ranges (delta_at values) (get_or s.columns m 0) (t.going.held m l)) i h);
      spent_are = Turns.spent_on (row_of s.rows) n L s.columns (row_at s.table) (mark_at spent) (delta_at values) t.going b.variable (not b.upper) (delta_of b.value) j fd s'.columns
          (mark_at (marks_after b.variable (get_or s.columns j 0) spent)) (delta_at values') e.members (marked_after b.variable (get_or s.columns j 0) spent (subst (λ m. b.variable < m) (sym t.marks) fd.is_variable)) kept put;
    }

    pub turned_on : Turning s' ranges values' (marks_after b.variable (get_or s.columns j 0) spent)
    turned_on = record {
      long = vs.long;
      marks = length-after b.variable (get_or s.columns j 0) spent ∙ t.marks ∙ ap length (sym e.rows);
      ranged = t.ranged ∙ ap length (sym e.rows);
      own = t.own;
      straight = t.straight;
      stands = each_new (λ x d. Stands (range_at ranges x) d) lv.stands t.stands;
      going = subst (λ (rs : List (Option Form)). Going (row_of rs) (length rs) L s'.columns (row_at s'.table) (mark_at (marks_after b.variable (get_or s.columns j 0) spent)) (delta_at values')) (sym e.rows) going';
    }

    pub turn_falls : turns_left s' (marks_after b.variable (get_or s.columns j 0) spent) < turns_left s spent
    turn_falls =
        subst (λ (rs : List (Option Form)). measure (length rs) (is_column s'.columns) (mark_at (marks_after b.variable (get_or s.columns j 0) spent)) < turns_left s spent) (sym e.rows)
        (Turns.falls (row_of s.rows) n L s.columns (row_at s.table) (mark_at spent) (delta_at values) t.going b.variable (not b.upper) (delta_of b.value) j fd s'.columns
        (mark_at (marks_after b.variable (get_or s.columns j 0) spent)) (delta_at values') e.members (marked_after b.variable (get_or s.columns j 0) spent (subst (λ m. b.variable < m) (sym t.marks) fd.is_variable)) kept put)

-- ---- the points as a vertex of the bounds
listed_value : (bounds : List Bound) (b : Bound) (i : ℕ) → i < length bounds → get_or bounds i b ≡ b → In (delta_of b.value) (values_of bounds)
listed_value [] b i h e = absurd (omega arith)
listed_value (c ∷ cs) b zero h e = inl (ap (λ (z : Bound). delta_of z.value) (sym e))
listed_value (c ∷ cs) b (suc i) h e = inr (listed_value cs b i (omega arith) e)

pub value_listed : (bounds : List Bound) (b : Bound) → Contains bounds b → In (delta_of b.value) (values_of bounds)
value_listed bounds b (i, h, e) = listed_value bounds b i h e

pub stands_listed : (n : ℕ) (bounds : List Bound) (ranges : List Range) (c : ℕ) (x : Delta) → Ranged n bounds ranges → Stands (range_at ranges c) x → (x ≡ of_ℚ zero_ℚ) ⊎ In x (values_of bounds)
stands_listed n bounds ranges c x g (at_zero e) = inl e
stands_listed n bounds ranges c x g (at_low b e f) = inr (subst (λ z. In z (values_of bounds)) (sym f) (value_listed bounds b (g.low c b e).listed))
stands_listed n bounds ranges c x g (at_up b e f) = inr (subst (λ z. In z (values_of bounds)) (sym f) (value_listed bounds b (g.up c b e).listed))

pub vertex_of : (n : ℕ) (bounds : List Bound) (ranges : List Range) (columns : List ℕ) (found : List Fractions) → Ranged n bounds ranges → length found ≡ length columns
    → ((i : ℕ) → i < length columns → Stands (range_at ranges (get_or columns i 0)) (delta_at found i)) → Vertex columns (values_of bounds) (deltas found)
vertex_of n bounds ranges columns found g l h = record {
  long = length-map found delta_of ∙ l;
  stands = λ i p. stands_listed n bounds ranges (get_or columns i 0) (delta_at found i) g (h i p);
}

-- ---- a row that no column repairs
violated_listed : (n : ℕ) (bounds : List Bound) (ranges : List Range) (x : Delta) (b : Bound) (p : ℕ) → Ranged n bounds ranges → IsViolated (range_at ranges p) x b → Contains bounds b
violated_listed n bounds ranges x b p g (too_low e h) = (g.low p b e).listed
violated_listed n bounds ranges x b p g (too_high e h) = (g.up p b e).listed

pub turn_conflict : (s : State) (ranges : List Range) (values : List Fractions) (spent : List Bool) (b : Bound) (row : List ℚ) (columns : List ℕ) (ms : List (ℕ × ℚ)) → Turning s ranges values spent → IsFirstViolated ranges values b
    → row ≡ row_at s.table b.variable → columns ≡ s.columns → AllStuck (limits_of ranges) (delta_at values) (not b.upper) row columns → Certifies ranges b row columns ms → IsConflictIn s.rows ranges ms
turn_conflict s ranges values spent b row columns ms t f e q a k bounds g =
    let l = leaving ranges values b t.own f t.straight in
    let below : b.variable < length s.rows = subst (λ n. b.variable < n) t.ranged (leaving_below ranges values b t.own f) in
    row_conflict (row_of s.rows) (length s.rows) s.columns (row_at s.table) bounds (limits_of ranges) (delta_at values) b ms t.going.tabled t.going.solves below l.wrong
    (subst (λ cs. Certificate bounds (limits_of ranges) (delta_at values) b (row_at s.table b.variable) cs ms) q
    (subst (λ r. Certificate bounds (limits_of ranges) (delta_at values) b r columns ms) e
    (k (length s.rows) bounds (delta_at values) g (violated_listed (length s.rows) bounds ranges (delta_at values f.place) b f.place g f.violated) a)))

pub violated_below : (s : State) (ranges : List Range) (values : List Fractions) (spent : List Bool) (b : Bound) → Turning s ranges values spent → IsFirstViolated ranges values b → b.variable < length s.rows
violated_below s ranges values spent b t f = subst (λ n. b.variable < n) t.ranged (leaving_below ranges values b t.own f)
