-- One step along a row.
use Rattle.std.proofs.Common.{◌≡◌, ◌∙◌, ◌+◌, ◌<◌, ◌++◌, ℕ, zero, suc, Bool, not, List, [], ◌∷◌, Option, Some, None, length, refl, sym, ap, subst, inl, inr, ⊎_elim, arith}
use Rattle.std.specs.Prelude.{slice_get, slice_set}
use Rattle.std.proofs.lemmas.Bool.{cases_eq}
use Rattle.std.proofs.lemmas.Option.{same_Some, slice_get_within}
use Rattle.clause_logic.specs.declared.Lit.{Lit}
use Rattle.clause_trail.specs.declared.Advance.TheVariants as advance
use Rattle.clause_logic.specs.Clauses.{opposite}
use Rattle.clause_trail.specs.Words.{code_of, False, Has, TrueBefore, open_count}
use Rattle.clause_trail.specs.View.{Lists, Base, Implied, assigned}
use Rattle.clause_trail.specs.Steps.{Stays, Implies, Moves, row_of, moved, Turn, Grown, Goes, Keeps}
use Rattle.clause_logic.proofs.Gets.{set_other, set_here, length_set, push_here, push_old, push_cases, length_push, get_in}
use Rattle.clause_trail.proofs.Trails.{true_more, true_push, on_trail, assigned_base, assigned_now}
use Rattle.clause_trail.proofs.Rows.{code_one}
use Rattle.clause_trail.proofs.Moving.{moved_base, moved_held, moved_pending, moved_row_length}

pub open_set : (values : List (Option Bool)) (v : ℕ) (b : Bool) → slice_get values v ≡ Some None → open_count (slice_set values v (Some b)) + 1 ≡ open_count values
unfolding open_count
open_set [] v b h = absurd (cc h)
open_set (x ∷ values) zero b h =
    let e : x ≡ None = same_Some x None h in
    rw e (omega arith)
open_set (x ∷ values) (suc v) b h = omega (arith, open_set values v b h)

pub grown_same : (t : Lists) → Grown t t
grown_same t = record { clauses = refl; starts = refl; vars = refl; order = λ i l h. h; values = λ v b h. h; reasons = λ v b h. refl; decisions = λ i l h k. (h, k); balance = refl }

pub grown_then : (r s t : Lists) → Grown r s → Grown s t → Grown r t
grown_then r s t a b = record {
  clauses = b.clauses ∙ a.clauses;
  starts = b.starts ∙ a.starts;
  vars = b.vars ∙ a.vars;
  order = λ i l h. b.order i l (a.order i l h);
  values = λ v x h. b.values v x (a.values v x h);
  reasons = λ v x h. b.reasons v x (a.values v x h) ∙ a.reasons v x h;
  decisions = λ i l h k. let d = b.decisions i l h k in a.decisions i l d.0 d.1;
  balance = b.balance ∙ a.balance;
}

pub f_false : (t : Lists) (f : Lit) (at : ℕ) → Turn t f at → False t.values f
f_false t f at turn = turn.base.true_there t.done (opposite f) turn.here

pub turn_known : (t : Lists) (f : Lit) (at : ℕ) → Turn t f at → f.var < length t.values
turn_known t f at turn = slice_get_within t.values f.var (Some (not f.positive)) (f_false t f at turn)

module _ (t : Lists) (f : Lit) (c at : ℕ) (turn : Turn t f at) (here : slice_get (row_of t.watches f) at ≡ Some c) where
  pub keeps_same : Keeps t t
  keeps_same = record { base = turn.base; now = turn.now; done = refl; grown = grown_same t }

  pub keep_goes : Stays t f c → Goes t t f at advance.Next
  keep_goes stays = (
    record {
      base = turn.base;
      now = turn.now;
      here = turn.here;
      pending = λ d lits pair is paired w. ⊎_elim
          (λ h. inl h)
          (λ h. ⊎_elim
          (λ (e : h.0 ≡ at).
          let same : d ≡ c = same_Some d c (sym h.2 ∙ ap (slice_get (row_of t.watches f)) e ∙ here) in
          inl (stays lits pair (ap (slice_get t.clauses) (sym same) ∙ is) (ap (slice_get t.pairs) (sym same) ∙ paired) w))
          (λ (n : h.0 ≡ at → ⊥). inr (h.0, omega (arith, h.1, n), h.2))
          (cases_eq h.0 at))
          (turn.pending d lits pair is paired w);
    },
    refl,
  )

  module _ (other : Lit) (implies : Implies t c other) where
    why : (d : ℕ) → Some c ≡ Some d → Implied t.clauses t.order (length t.order) other d
    why d e = record {
      lits = implies.lits;
      is = ap (slice_get t.clauses) (sym (same_Some c d e)) ∙ implies.is;
      has = implies.has;
      others = λ m h apart. on_trail t (opposite m) turn.base (implies.others m h apart);
    }

    no_level : Some c ≡ None → (n : ℕ) × (slice_get t.starts n ≡ Some (length t.order))
    no_level e = absurd (cc e)

    pub imply_base : Base (assigned t other (Some c))
    imply_base = assigned_base t other (Some c) turn.base implies.free why no_level

    other_one : (v : ℕ) (b : Bool) → slice_get t.values v ≡ Some (Some b) → other.var ≡ v → ⊥
    other_one v b h e = absurd (cc (sym implies.free ∙ ap (slice_get t.values) e ∙ h))

    reason_there : (x : Option ℕ) × (slice_get t.reasons other.var ≡ Some x)
    reason_there = get_in t.reasons other.var (omega (arith, turn.base.reasons, slice_get_within t.values other.var None implies.free))

    pub imply_keeps : Keeps t (assigned t other (Some c))
    imply_keeps = record {
      base = imply_base;
      now = assigned_now t other (Some c) turn.base implies.free why no_level t.done turn.base.done turn.now;
      done = refl;
      grown = record {
        clauses = refl;
        starts = refl;
        vars = length_set t.values other.var (Some other.positive);
        order = λ i l h. push_old t.order other l i h;
        values = λ v b h. set_other t.values other.var v (Some other.positive) (other_one v b h) ∙ h;
        reasons = λ v b h. set_other t.reasons other.var v (Some c) (other_one v b h);
        decisions = λ i l h k. ⊎_elim
            (λ e. absurd (cc (sym (set_here t.reasons other.var reason_there.0 (Some c) reason_there.1) ∙ ap (λ (x : Lit). slice_get (slice_set t.reasons other.var (Some c)) x.var) e.1 ∙ k)))
            (λ p. (p, sym (set_other t.reasons other.var l.var (Some c) (other_one l.var l.positive (turn.base.true_there i l p))) ∙ k))
            (push_cases t.order other l i h);
        balance = omega (arith, open_set t.values other.var other.positive implies.free, length_push t.order other);
      };
    }

    now_true : (lits : List Lit) → slice_get t.clauses c ≡ Some lits → TrueBefore (t.order ++ other ∷ []) (length (t.order ++ other ∷ [])) lits
    now_true lits is = record {
      lit = other;
      has = subst (λ (ls : List Lit). Has ls other) (same_Some implies.lits lits (sym implies.is ∙ is)) implies.has;
      on = record { at = length t.order; below = omega (arith, length_push t.order other); is = push_here t.order other };
    }

    pub imply_goes : Goes t (assigned t other (Some c)) f at advance.Next
    imply_goes = (
      record {
        base = imply_base;
        now = imply_keeps.now;
        here = push_old t.order other (opposite f) t.done turn.here;
        pending = λ d lits pair is paired w. ⊎_elim
            (λ h. inl (true_push t.order other _ lits (true_more t.order (length t.order) (length (t.order ++ other ∷ [])) lits (omega (arith, length_push t.order other)) h)))
            (λ h. ⊎_elim
            (λ (e : h.0 ≡ at).
            let same : d ≡ c = same_Some d c (sym h.2 ∙ ap (slice_get (row_of t.watches f)) e ∙ here) in
            inl (now_true lits (ap (slice_get t.clauses) (sym same) ∙ is)))
            (λ (n : h.0 ≡ at → ⊥). inr (h.0, omega (arith, h.1, n), h.2))
            (cases_eq h.0 at))
            (turn.pending d lits pair is paired w);
      },
      refl,
    )

  module _ (other to : Lit) (moves : Moves t f c other to) where
    pub moves_apart : code_of to ≡ code_of f → ⊥
    moves_apart e = moves.standing (subst (False t.values) (sym (code_one to f e)) (f_false t f at turn))

    pub move_base : Base (moved t c at f other to)
    move_base = moved_base t f c at other to turn.base moves (f_false t f at turn) here

    pub move_keeps : Keeps t (moved t c at f other to)
    move_keeps = record {
      base = move_base;
      now = moved_held t f c at other to turn.base moves (f_false t f at turn) here t.done (length t.order) turn.now;
      done = refl;
      grown = record { clauses = refl; starts = refl; vars = refl; order = λ i l h. h; values = λ v b h. h; reasons = λ v b h. refl; decisions = λ i l h k. (h, k); balance = refl };
    }

    pub move_goes : Goes t (moved t c at f other to) f at advance.Same
    move_goes = (
      record {
        base = move_base;
        now = move_keeps.now;
        here = turn.here;
        pending = moved_pending t f c at other to turn.base moves (f_false t f at turn) here turn.pending;
      },
      moved_row_length t f c at other to turn.base moves (f_false t f at turn) here,
    )
