-- The first turn of a check, and what the last one leaves.
use Rattle.std.proofs.Common.{◌≡◌, ℕ, ◌<◌, Bool, false, List, length, get_or, Option, Some, None, sym, ◌∙◌, subst, arith}
use Rattle.std.specs.Prelude.{replicate}
use Rattle.std.proofs.lemmas.List.{length-map, length-replicate}
use Rattle.rationals.specs.Rational.{ℚ}
use Rattle.fraction128.specs.declared.infinitesimal.Delta.{Delta as Fractions}
use Rattle.simplex_logic.specs.Forms.{row_of}
use Rattle.simplex_logic.proofs.Going.{anew_solves, anew_column}
use Rattle.simplex_table.specs.View.{State, Sound, AreValues, row_at, delta_of, delta_at, deltas}
use Rattle.simplex_bounds.specs.declared.Bound.{Bound}
use Rattle.simplex_bounds.specs.declared.Range.{Range}
use Rattle.simplex_core.specs.declared.wide.WideAt.{WideAt}
use Rattle.simplex_bounds.specs.Ranges.{range_at, InRange, IsStraight, Stands, Ranged}
use Rattle.simplex_core.specs.Wides.{IsWide, Known}
use Rattle.simplex_core.specs.Checking.{AreStarts, OwnBounds, Turning, IsEnd, IsWideAtVertex}
use Rattle.simplex_core.specs.Solving.{IsSolved}
use Rattle.simplex_core.proofs.MarkLemmas.{none_marked}
use Rattle.simplex_core.proofs.TurnLemmas.{no_false, within_of, stands_listed, vertex_of}

own_of : (n : ℕ) (bounds : List Bound) (ranges : List Range) → Ranged n bounds ranges → OwnBounds ranges
own_of n bounds ranges g = record {
  low = λ v b e. let i = g.low v b e in (i.variable, i.side);
  up = λ v b e. let i = g.up v b e in (i.variable, i.side);
}

module _ (s : State) (bounds : List Bound) (ranges : List Range) (found values : List Fractions) (o : Sound s) (g : Ranged (length s.rows) bounds ranges) (p : AreStarts s.columns ranges found)
    (vs : AreValues s (deltas found) values) where
  now : (k : ℕ) → k < length s.columns → delta_at values (get_or s.columns k 0) ≡ delta_at found k
  now k h = anew_column (row_of s.rows) (length s.rows) s.columns (row_at s.table) o.tabled (deltas found) (length-map found delta_of ∙ p.long) (delta_at values) vs.each k h

  pub start_turning : ((v : ℕ) → IsStraight (range_at ranges v)) → Turning s ranges values (replicate (length s.rows) false)
  start_turning str = record {
    long = vs.long;
    marks = length-replicate (length s.rows) false;
    ranged = g.long;
    own = own_of (length s.rows) bounds ranges g;
    straight = str;
    stands = λ k h. subst (λ d. Stands (range_at ranges (get_or s.columns k 0)) d) (sym (now k h)) (p.stands k h);
    going = record {
      tabled = o.tabled;
      sorted = o.sorted;
      solves = anew_solves (row_of s.rows) (length s.rows) s.columns (row_at s.table) o.tabled (deltas found) (length-map found delta_of ∙ p.long) (delta_at values) vs.each;
      held = λ k h. within_of ranges (delta_at values) (get_or s.columns k 0) (subst (λ d. InRange (range_at ranges (get_or s.columns k 0)) d) (sym (now k h)) (p.in_range k h));
      spent_are = λ x e. absurd (no_false (sym (none_marked (length s.rows) x) ∙ e));
    };
  }

pub solved_of : (s : State) (n : ℕ) (bounds : List Bound) (ranges : List Range) (values : List Fractions) (spent : List Bool) (r : Option (List (ℕ × ℚ))) → Ranged n bounds ranges → length s.rows ≡ n → IsEnd s ranges values spent r → IsSolved s bounds values r
solved_of s n bounds ranges values spent None g l h =
    let t = h.0 in
    record {
      long = omega (arith, t.long);
      known = t.going.tabled.known;
      solution = record { solves = t.going.solves; met = λ b i. g.met b i (delta_at values b.variable) (h.1 b.variable) };
      stands = λ k p. stands_listed n bounds ranges (get_or s.columns k 0) (delta_at values (get_or s.columns k 0)) g (t.stands k p);
    }
solved_of s n bounds ranges values spent (Some ms) g l h = h bounds (subst (λ m. Ranged m bounds ranges) (sym l) g)

pub start_wide : (s : State) (bounds : List Bound) (ranges : List Range) (found : List Fractions) (w : WideAt) → Ranged (length s.rows) bounds ranges → AreStarts s.columns ranges found → IsWideAtVertex s (deltas found) w → IsWide s.rows (Known s.rows) bounds w
start_wide s bounds ranges found w g p h = h bounds (vertex_of (length s.rows) bounds ranges s.columns found g p.long p.stands)
