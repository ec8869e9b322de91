-- A clause that watches another literal: what holds stays.
use Rattle.std.proofs.Common.{◌≡◌, ◌∙◌, ◌+◌, ◌<◌, ◌≤◌, ℕ, not, List, Some, length, sym, ap, subst, inl, inr, ⊎_elim, arith}
use Rattle.std.specs.Prelude.{slice_get, slice_set}
use Rattle.std.proofs.lemmas.Option.{same_Some, slice_get_within}
use Rattle.clause_logic.specs.declared.Lit.{Lit}
use Rattle.clause_trail.specs.declared.Pair.{Pair}
use Rattle.clause_logic.specs.Clauses.{opposite}
use Rattle.clause_trail.specs.Words.{code_of, True, False, Has, Before}
use Rattle.clause_trail.specs.View.{Lists, Base, Held, AllHeld, Watches, Listed}
use Rattle.clause_trail.specs.Steps.{Moves, Ways, row_of, rows_moved, moved, Waiting, Pending}
use Rattle.clause_logic.proofs.Gets.{length_set, set_cases}
use Rattle.clause_trail.proofs.Rows.{code_one, code_below, moved_row, moved_length, moved_here, moved_listed, removed_keeps, removed_length}

pub ways_distinct : (pair : Pair) (f other : Lit) → Ways pair f other → (other ≡ f → ⊥) → pair.first ≡ pair.second → ⊥
ways_distinct pair f other ways apart e =
    let one : (w : Lit) → Watches pair w → w ≡ pair.first = λ w h. ⊎_elim (λ x. x) (λ x. x ∙ sym e) h in
    apart (one other ways.watched ∙ sym (one f ways.falsified))

-- what is on the trail is true
pub trail_true : (t : Lists) (l : Lit) (n : ℕ) → Base t → Before t.order n l → True t.values l
trail_true t l n base b = base.true_there b.at l b.is

module _ (t : Lists) (f : Lit) (c at : ℕ) (other to : Lit) (base : Base t) (moves : Moves t f c other to) (f_false : False t.values f)
    (here : slice_get (row_of t.watches f) at ≡ Some c) where
  abbrev pair : Pair
  pair = record { first = other; second = to }

  f_known : f.var < length t.values
  f_known = slice_get_within t.values f.var (Some (not f.positive)) f_false

  to_known : to.var < length t.values
  to_known = base.known c moves.lits to moves.is moves.has

  apart : code_of to ≡ code_of f → ⊥
  apart e = moves.standing (subst (False t.values) (sym (code_one to f e)) f_false)

  f_in : code_of f < length t.watches
  f_in = omega (arith, base.rows, code_below f (length t.values) f_known)

  to_in : code_of to < length t.watches
  to_in = omega (arith, base.rows, code_below to (length t.values) to_known)

  -- the new pair, before any place
  held_new : (n m : ℕ) (lits : List Lit) → Held t.order n m lits moves.pair → Held t.order n m lits pair
  held_new n m lits held = record {
    watch = λ w h b. ⊎_elim
        (λ (e : w ≡ other). held.watch w (subst (Watches moves.pair) (sym e) moves.ways.watched) b)
        (λ (e : w ≡ to). absurd (moves.standing (subst (False t.values) e (trail_true t (opposite w) n base b))))
        h;
    same = λ e. absurd (moves.new (sym e));
  }

  pub moved_held : (n m : ℕ) → AllHeld t.order t.clauses t.pairs n m → AllHeld t.order t.clauses (slice_set t.pairs c pair) n m
  moved_held n m held d lits p is paired =
      ⊎_elim
      (λ e. subst (Held t.order n m lits) e.1 (held_new n m lits (held d lits moves.pair is (ap (slice_get t.pairs) (sym e.0) ∙ moves.paired))))
      (λ k. held d lits p is k.1)
      (set_cases t.pairs c d pair p paired)

  listed_moved : (w : Lit) (d : ℕ) → Listed t.watches w d → (d ≡ c → code_of f ≡ code_of w → ⊥) → Listed (rows_moved t.watches c at f to) w d
  listed_moved = moved_listed t.watches c at f to to_in f_in apart here

  moved_listed_all : (d : ℕ) (p : Pair) (w : Lit) → slice_get (slice_set t.pairs c pair) d ≡ Some p → (p.first ≡ p.second → ⊥) → Watches p w → Listed (rows_moved t.watches c at f to) w d
  moved_listed_all d p w paired distinct watch =
      ⊎_elim
      (λ e. subst (λ n. Listed (rows_moved t.watches c at f to) w n) e.0
      (⊎_elim
      (λ (g : w ≡ other).
      listed_moved w c
      (base.listed c moves.pair w moves.paired (ways_distinct moves.pair f other moves.ways moves.apart) (subst (Watches moves.pair) (sym g) moves.ways.watched))
      (λ _ same. moves.apart (sym g ∙ sym (code_one f w same))))
      (λ (g : w ≡ to). subst (λ (l : Lit). Listed (rows_moved t.watches c at f to) l c) (sym g) (moved_here t.watches c at f to to_in f_in apart here))
      (subst (λ (q : Pair). Watches q w) (sym e.1) watch)))
      (λ k. listed_moved w d (base.listed d p w k.1 distinct watch) (λ g _. k.0 (sym g)))
      (set_cases t.pairs c d pair p paired)

  pub moved_base : Base (moved t c at f other to)
  moved_base = record {
    reasons = base.reasons;
    rows = omega (arith, base.rows, moved_length t.watches c at f to to_in f_in apart here);
    places = base.places;
    pairs = omega (arith, base.pairs, length_set t.pairs c pair);
    done = base.done;
    true_there = base.true_there;
    placed = base.placed;
    once = base.once;
    found = base.found;
    starts_done = base.starts_done;
    starts_rise = base.starts_rise;
    known = base.known;
    member = λ d lits p w is paired watch. ⊎_elim
        (λ e.
        let same : moves.lits ≡ lits = same_Some moves.lits lits (sym moves.is ∙ ap (slice_get t.clauses) e.0 ∙ is) in
        ⊎_elim
        (λ (g : w ≡ other). base.member d lits moves.pair w is (ap (slice_get t.pairs) (sym e.0) ∙ moves.paired) (subst (Watches moves.pair) (sym g) moves.ways.watched))
        (λ (g : w ≡ to). subst (λ (l : Lit). Has lits l) (sym g) (subst (λ (ls : List Lit). Has ls to) same moves.has))
        (subst (λ (q : Pair). Watches q w) (sym e.1) watch))
        (λ k. base.member d lits p w is k.1 watch)
        (set_cases t.pairs c d pair p paired);
    listed = moved_listed_all;
    cuts = λ n s h. moved_held s s (base.cuts n s h);
    implied = base.implied;
    decided = base.decided;
  }

  waiting_moved : (i d : ℕ) → i ≤ at → (d ≡ c → ⊥) → Waiting t f i d → Waiting (moved t c at f other to) f i d
  waiting_moved i d below apart_d w =
      let kept = removed_keeps (row_of t.watches f) at w.0 d (slice_get_within (row_of t.watches f) at c here) w.2
      (λ g. apart_d (same_Some d c (sym w.2 ∙ ap (slice_get (row_of t.watches f)) (sym g) ∙ here))) in
      (kept.0, kept.2 i below w.1, ap (λ r. slice_get r kept.0) (moved_row t.watches c at f to to_in f_in apart here) ∙ kept.1)

  pub moved_pending : Pending t f at → Pending (moved t c at f other to) f at
  moved_pending pending d lits p is paired watch =
      ⊎_elim
      (λ e. absurd (⊎_elim
      (λ (g : f ≡ other). moves.apart (sym g))
      (λ (g : f ≡ to). moves.standing (subst (False t.values) g f_false))
      (subst (λ (q : Pair). Watches q f) (sym e.1) watch)))
      (λ k. ⊎_elim
      (λ h. inl h)
      (λ h. inr (waiting_moved at d (omega arith) (λ g. k.0 (sym g)) h))
      (pending d lits p is k.1 watch))
      (set_cases t.pairs c d pair p paired)

  pub moved_row_length : length (row_of (rows_moved t.watches c at f to) f) + 1 ≡ length (row_of t.watches f)
  moved_row_length = rw (moved_row t.watches c at f to to_in f_in apart here) (removed_length (row_of t.watches f) at (slice_get_within (row_of t.watches f) at c here))
