-- The beginning and the end of a row, and the end of the trail.
use Rattle.std.proofs.Common.{◌≡◌, ◌∙◌, ◌+◌, ◌<◌, ◌≤◌, ℕ, Bool, true, false, not, List, [], ◌∷◌, ◌⊎◌, Option, Some, length, refl, sym, ap, subst, inl, inr, ⊎_elim, arith}
use Rattle.std.specs.Prelude.{slice_get}
use Rattle.std.proofs.lemmas.Bool.{cases_lt}
use Rattle.std.proofs.lemmas.Option.{same_Some, slice_get_within, get_or_from_slice_get}
use Rattle.clause_logic.specs.declared.Lit.{Lit}
use Rattle.clause_logic.specs.Clauses.{In, Quiet, Complete, Listed}
use Rattle.clause_logic.specs.Trails.{Prefix}
use Rattle.clause_logic.proofs.Members.{in_from_get}
use Rattle.clause_logic.proofs.Lits.{not_cases, prefix_cases}
use Rattle.clause_trail.specs.declared.Pair.{Pair}
use Rattle.clause_logic.specs.Clauses.{opposite}
use Rattle.clause_trail.specs.Words.{True, code_of, False, Open, Has, Before, TrueBefore, AllFalse, AllFalseBut, Propagated}
use Rattle.clause_trail.specs.View.{Lists, Base, Now, Sound, Held, Watches}
use Rattle.clause_trail.specs.Steps.{row_of, Turn, Keeps, Grown, Propagates}
use Rattle.clause_trail.specs.Changes.{Closed}
use Rattle.clause_logic.proofs.Gets.{get_in}
use Rattle.clause_trail.proofs.Trails.{on_trail, before_more}
use Rattle.clause_trail.proofs.Seeking.{lit_cases}
use Rattle.clause_trail.proofs.Turning.{grown_then}

pub turn_begins : (t : Lists) (f : Lit) → Sound t → slice_get t.order t.done ≡ Some (opposite f) → Turn t f 0
turn_begins t f sound here = record {
  base = sound.base;
  now = sound.now;
  here = here;
  pending = λ c lits pair is paired w. ⊎_elim
      (λ e. inl ((sound.now c lits pair is paired).same e))
      (λ d.
      let listed = sound.base.listed c pair f paired d w in
      inr (listed.at, omega arith, subst (λ r. slice_get r listed.at ≡ Some c) (sym (get_or_from_slice_get t.watches (code_of f) listed.row [] listed.is)) listed.there))
      (lit_cases pair.first pair.second);
}

not_not : (b : Bool) → not (not b) ≡ b
not_not true = refl
not_not false = refl

pub not_same : (b : Bool) → b ≡ not b → ⊥
not_same true e = absurd (cc e)
not_same false e = absurd (cc e)

same_opposite : (a b : Lit) → opposite a ≡ opposite b → a ≡ b
same_opposite a b e =
    let vars : a.var ≡ b.var = ap (λ (l : Lit). l.var) e in
    let signs : a.positive ≡ b.positive = sym (not_not a.positive) ∙ ap (λ (l : Lit). not l.positive) e ∙ not_not b.positive in
    ap (λ (n : ℕ). let l : Lit = record { var = n; positive = a.positive } in l) vars ∙ ap (λ (p : Bool). let l : Lit = record { var = b.var; positive = p } in l) signs

pub turn_ends : (t : Lists) (f : Lit) (i : ℕ) → Turn t f i → length (row_of t.watches f) ≤ i → Now t (t.done + 1)
turn_ends t f i turn h c lits pair is paired = record {
  watch = λ w is_w b. ⊎_elim
      (λ (e : b.at < t.done). (turn.now c lits pair is paired).watch w is_w (record { at = b.at; below = e; is = b.is }))
      (λ (e : t.done ≤ b.at).
      let at : b.at ≡ t.done = omega (arith, e, b.below) in
      let it : f ≡ w = same_opposite f w (same_Some (opposite f) (opposite w) (sym turn.here ∙ ap (slice_get t.order) (sym at) ∙ b.is)) in
      ⊎_elim
      (λ x. x)
      (λ k. absurd (omega (arith, h, k.1, slice_get_within (row_of t.watches f) k.0 c k.2)))
      (turn.pending c lits pair is paired (subst (Watches pair) (sym it) is_w)))
      (cases_lt b.at t.done);
  same = (turn.now c lits pair is paired).same;
}

pub keeps_then : (r s t : Lists) → Keeps r s → Keeps s t → Keeps r t
keeps_then r s t a b = record { base = b.base; now = b.now; done = b.done ∙ a.done; grown = grown_then r s t a.grown b.grown }

true_and_false : (t : Lists) (l : Lit) (n : ℕ) → Base t → Before t.order n l → False t.values l → ⊥
true_and_false t l n base b h =
    not_same l.positive (same_Some l.positive (not l.positive) (same_Some (Some l.positive) (Some (not l.positive)) (sym (base.true_there b.at l b.is) ∙ h)))

module _ (t : Lists) (sound : Sound t) (all : length t.order ≤ t.done) (c : ℕ) (lits : List Lit) (is : slice_get t.clauses c ≡ Some lits) where
  pair : (p : Pair) × (slice_get t.pairs c ≡ Some p)
  pair = get_in t.pairs c (omega (arith, sound.base.pairs, slice_get_within t.clauses c lits is))

  held : Held t.order t.done (length t.order) lits pair.0
  held = sound.now c lits pair.0 is pair.1

  left : (w : Lit) → Watches pair.0 w → False t.values w → TrueBefore t.order (length t.order) lits
  left w is_w h = held.watch w is_w (before_more t.order (length t.order) t.done (opposite w) all (on_trail t (opposite w) sound.base h))

  first_in : Has lits pair.0.first
  first_in = sound.base.member c lits pair.0 pair.0.first is pair.1 (inl refl)

  second_in : Has lits pair.0.second
  second_in = sound.base.member c lits pair.0 pair.0.second is pair.1 (inr refl)

  pub no_false_clause : AllFalse t.values lits → ⊥
  no_false_clause false_all =
      let true_one = left pair.0.first (inl refl) (false_all pair.0.first first_in) in
      true_and_false t true_one.lit (length t.order) sound.base true_one.on (false_all true_one.lit true_one.has)

  pub no_unit_clause : (l : Lit) → Has lits l → Open t.values l → AllFalseBut t.values lits l → ⊥
  no_unit_clause l has open_l others =
      let one : TrueBefore t.order (length t.order) lits =
      ⊎_elim
      (λ e. held.same e)
      (λ d. ⊎_elim
      (λ e. left pair.0.second (inr refl) (others pair.0.second second_in (λ g. d (e ∙ sym g))))
      (λ n. left pair.0.first (inl refl) (others pair.0.first first_in n))
      (lit_cases pair.0.first l))
      (lit_cases pair.0.first pair.0.second) in
      ⊎_elim
      (λ (e : one.lit ≡ l). absurd (cc (sym open_l ∙ ap (λ (x : Lit). slice_get t.values x.var) (sym e) ∙ sound.base.true_there one.on.at one.lit one.on.is)))
      (λ n. true_and_false t one.lit (length t.order) sound.base one.on (others one.lit one.has n))
      (lit_cases one.lit l)

pub completed : (t : Lists) → Sound t → length t.order ≤ t.done → Propagated t.values t.clauses
completed t sound all = record { no_false = no_false_clause t sound all; no_unit = λ c lits l is. no_unit_clause t sound all c lits is l }

-- no literal and its opposite stand on one trail
both_ways : (t : Lists) (l : Lit) (n : ℕ) → Base t → Before t.order n l → Before t.order n (opposite l) → ⊥
both_ways t l n base a b = true_and_false t l n base a (base.true_there b.at (opposite l) b.is)

same_before : (order : List Lit) (s : ℕ) (a b : Lit) → a ≡ b → Before order s a → Before order s b
same_before order s a b e h = subst (Before order s) e h

-- each level begins on a closed trail
pub closed_at : (t : Lists) (n s : ℕ) → Sound t → slice_get t.starts n ≡ Some s → Closed t s
closed_at t n s sound start c lits l is has others =
    let p = get_in t.pairs c (omega (arith, sound.base.pairs, slice_get_within t.clauses c lits is)) in
    let held : Held t.order s s lits p.0 = sound.base.cuts n s start c lits p.0 is p.1 in
    let first : Has lits p.0.first = sound.base.member c lits p.0 p.0.first is p.1 (inl refl) in
    let second : Has lits p.0.second = sound.base.member c lits p.0 p.0.second is p.1 (inr refl) in
    let one : TrueBefore t.order s lits =
    ⊎_elim
    (λ e. held.same e)
    (λ d. ⊎_elim
    (λ e. held.watch p.0.second (inr refl) (others p.0.second second (λ g. d (e ∙ sym g))))
    (λ k. held.watch p.0.first (inl refl) (others p.0.first first k))
    (lit_cases p.0.first l))
    (lit_cases p.0.first p.0.second) in
    ⊎_elim
    (λ (e : one.lit ≡ l). same_before t.order s one.lit l e one.on)
    (λ d. absurd (both_ways t one.lit s sound.base one.on (others one.lit one.has d)))
    (lit_cases one.lit l)

-- one literal of the trail more
pub propagates_more : (old t u : Lists) → Propagates old t → Keeps t u → t.done < length t.order → Now u (u.done + 1) → Propagates old (record u { done = u.done + 1 })
propagates_more old t u so keeps room now =
    let grown : Grown old u = grown_then old t u so.grown keeps.grown in
    let last = get_in t.order t.done room in
    let below : u.done < length u.order = omega (arith, keeps.done, slice_get_within u.order t.done last.0 (keeps.grown.order t.done last.0 last.1)) in
    record {
      sound = record {
        base = record {
          reasons = keeps.base.reasons;
          rows = keeps.base.rows;
          places = keeps.base.places;
          pairs = keeps.base.pairs;
          done = omega (arith, below);
          true_there = keeps.base.true_there;
          placed = keeps.base.placed;
          once = keeps.base.once;
          found = keeps.base.found;
          starts_done = λ n s h. omega (arith, keeps.base.starts_done n s h);
          starts_rise = keeps.base.starts_rise;
          known = keeps.base.known;
          member = keeps.base.member;
          listed = keeps.base.listed;
          cuts = keeps.base.cuts;
          implied = keeps.base.implied;
          decided = keeps.base.decided;
        };
        now = now;
      };
      grown = record {
        clauses = grown.clauses;
        starts = grown.starts;
        vars = grown.vars;
        order = grown.order;
        values = grown.values;
        reasons = grown.reasons;
        decisions = grown.decisions;
        balance = grown.balance;
      };
    }

-- before each level's start, unit propagation has nothing left to do
pub complete_at : (t : Lists) (n s : ℕ) → Sound t → slice_get t.starts n ≡ Some s → Complete (Prefix t.order s) (Listed t.clauses)
complete_at t n s sound start lits (c, is) =
    let p = get_in t.pairs c (omega (arith, sound.base.pairs, slice_get_within t.clauses c lits is)) in
    quiet_of t s lits p.0 (sound.base.cuts n s start c lits p.0 is p.1)
    (has_in lits p.0.first (sound.base.member c lits p.0 p.0.first is p.1 (inl refl)))
    (has_in lits p.0.second (sound.base.member c lits p.0 p.0.second is p.1 (inr refl)))
  where
    has_in : (xs : List Lit) (l : Lit) → Has xs l → In l xs
    has_in xs l h = in_from_get xs h.at l h.is

    from_true : (u : Lists) (r : ℕ) (xs : List Lit) → TrueBefore u.order r xs → Quiet (Prefix u.order r) xs
    from_true u r xs t = inl (t.lit, has_in xs t.lit t.has, (t.on.at, t.on.below, t.on.is))

    quiet_of : (u : Lists) (r : ℕ) (xs : List Lit) (pair : Pair) → Held u.order r r xs pair → In pair.first xs → In pair.second xs → Quiet (Prefix u.order r) xs
    quiet_of u r xs pair held i j =
        ⊎_elim
        (λ e. from_true u r xs (held.same e))
        (λ d. ⊎_elim
        (λ b. from_true u r xs (held.watch pair.first (inl refl) (record { at = b.0; below = b.1; is = b.2 })))
        (λ n. ⊎_elim
        (λ b. from_true u r xs (held.watch pair.second (inr refl) (record { at = b.0; below = b.1; is = b.2 })))
        (λ m. inr (pair.first, pair.second, i, j, d, n, m))
        (prefix_cases u.order r (opposite pair.second)))
        (prefix_cases u.order r (opposite pair.first)))
        (lit_cases pair.first pair.second)

-- a clause under values that leave no variable open
pub holds_or_false : (values : List (Option Bool)) (lits : List Lit) → ((m : Lit) → In m lits → (b : Bool) × (slice_get values m.var ≡ Some (Some b))) → ((l : Lit) × In l lits × True values l) ⊎ ((m : Lit) → In m lits → False values m)
holds_or_false values [] known = inr (λ m h. absurd h)
holds_or_false values (x ∷ xs) known =
    let b = known x (inl refl) in
    ⊎_elim
    (λ e. inl (x, inl refl, b.1 ∙ ap (λ (p : Bool). Some (Some p)) e))
    (λ e. ⊎_elim
    (λ h. inl (h.0, inr h.1, h.2))
    (λ all. inr (λ m h. ⊎_elim (λ f. subst (False values) f (b.1 ∙ ap (λ (p : Bool). Some (Some p)) e)) (λ k. all m k) h))
    (holds_or_false values xs (λ m h. known m (inr h))))
    (not_cases b.0 x.positive)

-- where no variable is open and no clause is false, each clause is true
pub all_hold : (values : List (Option Bool)) (clauses : List (List Lit)) → Propagated values clauses → ((c : ℕ) (lits : List Lit) (m : Lit) → slice_get clauses c ≡ Some lits → In m lits → (b : Bool) × (slice_get values m.var ≡ Some (Some b)))
    → (lits : List Lit) → Listed clauses lits → (l : Lit) × In l lits × True values l
all_hold values clauses done known lits (c, is) =
    ⊎_elim
    (λ h. h)
    (λ all. absurd (done.no_false c lits is (λ m h. all m (in_from_get lits h.at m h.is))))
    (holds_or_false values lits (λ m h. known c lits m is h))
