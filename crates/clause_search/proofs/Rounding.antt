-- What a round of the search keeps.
use Rattle.std.proofs.Common.{ℕ, zero, suc, ◌<◌, ◌≤◌, ◌+◌, ◌-◌, ◌^◌, ◌++◌, Bool, not, List, [], ◌∷◌, ◌≡◌, ◌∙◌, ◌⊎◌, Option, Some, None, inl, inr, ⊎_elim, refl, sym, ap, subst, length, arith, drop, ◌↔◌}
use Rattle.std.specs.Prelude.{slice_get, slice_set}
use Rattle.std.proofs.lemmas.Option.{same_Some, slice_get_within}
use Rattle.std.proofs.lemmas.Bool.{cases_lt, cases_eq}
use Rattle.clause_logic.specs.declared.Lit.{Lit}
use Rattle.clause_logic.specs.Clauses.{opposite, In, Follows, Both, Listed, IsDerived, IsRecord}
use Rattle.clause_logic.specs.Trails.{FalseBefore, Prefix, IsCore}
use Rattle.clause_logic.specs.Bound.{search_weight}
use Rattle.clause_logic.proofs.Gets.{get_in, push_cases, length_push, length_set}
use Rattle.clause_logic.proofs.Members.{get_from_in}
use Rattle.clause_logic.proofs.Learning.{all_false}
use Rattle.clause_logic.proofs.Turns.{turn_record, turn_derived, derived_short}
use Rattle.clause_logic.proofs.Bound.{learning_falls, deciding_falls}
use Rattle.clause_trail.specs.Words.{open_count, Open, Propagated}
use Rattle.clause_trail.specs.View.{Lists, Sound, assigned}
use Rattle.clause_trail.specs.Steps.{Grown, Clashes}
use Rattle.clause_trail.specs.Changes.{Chosen, Derives, Refuting}
use Rattle.clause_trail.proofs.Cores.{core_refutes}
use Rattle.clause_trail.proofs.Completing.{complete_at, all_hold}
use Rattle.clause_trail.proofs.Settling.{chosen_grown, chosen_decided, false_on_trail}
use Rattle.clause_trail.proofs.Turning.{open_set}
use Rattle.clause_search.specs.declared.Turns.{Turns}
use Rattle.clause_search.specs.declared.Turns.TheVariants as turns
use Rattle.clause_search.specs.declared.Answer.TheVariants as answer
use Rattle.clause_search.specs.declared.checker.Look.{Look}
use Rattle.clause_search.specs.declared.solving.Round.{Round}
use Rattle.clause_search.specs.declared.solving.Round.TheVariants as round
use Rattle.clause_search.specs.Answers.{IsSolution, IsUnsatCore, IsOverLimit}
use Rattle.clause_search.specs.Solving.{Going, Recorded, Rounds, Stretches, weight}
use Rattle.clause_search.proofs.Takes.{drop_front}

pub append_cases : (xs ys : List (List Lit)) (i : ℕ) (c : List Lit) → slice_get (xs ++ ys) i ≡ Some c → Listed xs c ⊎ ((j : ℕ) × (slice_get ys j ≡ Some c))
append_cases [] ys i c h = inr (i, h)
append_cases (x ∷ xs) ys zero c h = inl (zero, h)
append_cases (x ∷ xs) ys (suc i) c h = ⊎_elim (λ f. inl (suc f.0, f.1)) inr (append_cases xs ys i c h)

pub append_left : (xs ys : List (List Lit)) (c : List Lit) → Listed xs c → Listed (xs ++ ys) c
append_left [] ys c (i, h) = absurd (cc h)
append_left (x ∷ xs) ys c (zero, h) = (zero, h)
append_left (x ∷ xs) ys c (suc i, h) = let r = append_left xs ys c (i, h) in (suc r.0, r.1)

pub append_right : (xs ys : List (List Lit)) (c : List Lit) → Listed ys c → Listed (xs ++ ys) c
append_right [] ys c h = h
append_right (x ∷ xs) ys c h = let r = append_right xs ys c h in (suc r.0, r.1)

pub append_assoc_one : (xs ys : List (List Lit)) (c : List Lit) → (xs ++ ys) ++ c ∷ [] ≡ xs ++ (ys ++ c ∷ [])
append_assoc_one [] ys c = refl
append_assoc_one (x ∷ xs) ys c = ap (λ zs. x ∷ zs) (append_assoc_one xs ys c)

pub append_length : (xs ys : List (List Lit)) → length (xs ++ ys) ≡ length xs + length ys
append_length [] ys = omega arith
append_length (x ∷ xs) ys = omega (arith, append_length xs ys)

pub open_short : (values : List (Option Bool)) → open_count values ≤ length values
unfolding open_count
open_short [] = omega arith
open_short (None ∷ vs) = omega (arith, open_short vs)
open_short (Some b ∷ vs) = omega (arith, open_short vs)

module _ (t : Lists) (added : List (List Lit)) (stands : List Lit → Type 0) (assumed : List Lit) (going : Going t added stands assumed) where
  -- each clause of the state follows from the added ones and what the checker stands for
  pub lawful : (d : List Lit) → Listed t.clauses d → Follows (Both (Listed added) stands) d
  lawful d (i, h) s models =
      ⊎_elim
      (λ a. models d (inl a))
      (λ l. going.derived.follows l.0 d l.1 s models)
      (append_cases added going.learned i d (ap (λ (cs : List (List Lit)). slice_get cs i) (sym going.clauses) ∙ h))

  pub learned_count : length t.clauses - length added ≡ length going.learned
  learned_count = omega (arith, ap length going.clauses, append_length added going.learned)

  pub learned_drop : drop (length added) t.clauses ≡ going.learned
  learned_drop = ap (drop (length added)) going.clauses ∙ drop_front added going.learned

  -- a conflict at or below the assumptions
  pub core_round : (u : Lists) (lits core : List Lit) → u.clauses ≡ t.clauses → Follows (Both (Listed added) stands) lits → IsCore (Listed u.clauses) u.order assumed lits core → IsUnsatCore added stands assumed core
  core_round u lits core same follows is = record {
    assumptions = is.assumptions;
    once = is.once;
    refuted = λ s models all. core_refutes (Listed u.clauses) u.order assumed lits core is s
        (λ d there. lawful d (subst (λ (cs : List (List Lit)). Listed cs d) same there) s models) (follows s models) all;
  }

  -- an assumption that is false
  pub false_round : (core : List Lit) → Refuting t assumed core → IsUnsatCore added stands assumed core
  false_round core is = record {
    assumptions = is.assumptions;
    once = is.once;
    refuted = λ s models all. is.refuted s (λ d there. lawful d there s models) all;
  }

  -- a turn
  module _ (u : Lists) (lits c : List Lit) (sound : Sound u) (same : u.clauses ≡ t.clauses) (vars : length u.values ≡ length t.values) (follows : Follows (Both (Listed added) stands) lits) (derives : Derives u assumed lits c) where
    clauses_are : u.clauses ≡ added ++ going.learned
    clauses_are = same ∙ going.clauses

    kept : (d : List Lit) → Both (Listed added) (Listed going.learned) d → Listed u.clauses d
    kept d there = subst (λ (cs : List (List Lit)). Listed cs d) (sym clauses_are) (⊎_elim (append_left added going.learned d) (append_right added going.learned d) there)

    lawful_there : (d : List Lit) → Listed u.clauses d → Follows (Both (Listed added) stands) d
    lawful_there d there = lawful d (subst (λ (cs : List (List Lit)). Listed cs d) same there)

    longer_derived : IsDerived (Listed added) stands (going.learned ++ c ∷ [])
    longer_derived =
        turn_derived (Listed added) stands assumed going.learned u.clauses u.order u.places sound.base.found derives.start
        (complete_at u derives.last.0 derives.start sound derives.last.1) derives.assumed_there lawful_there lits c follows derives.learned
        (λ d there. kept d (inr there)) going.derived

    longer : IsRecord (Listed added) stands assumed going.learned → IsRecord (Listed added) stands assumed (going.learned ++ c ∷ [])
    longer =
        turn_record (Listed added) stands assumed going.learned u.clauses u.order u.places sound.base.found derives.start
        (complete_at u derives.last.0 derives.start sound derives.last.1) derives.assumed_there lawful_there lits c follows derives.learned
        kept

    longer_known : (i : ℕ) (d : List Lit) (l : Lit) → slice_get (going.learned ++ c ∷ []) i ≡ Some d → In l d → l.var < length t.values
    longer_known i d l at k =
        ⊎_elim
        (λ e.
        let f = all_false u.order u.places sound.base.found (Both (Listed u.clauses) (λ x. x ≡ lits)) derives.start c derives.learned l (subst (In l) (sym e.1) k) in
        omega (arith, vars, slice_get_within u.values l.var (Some (not l.positive)) (sound.base.true_there f.0 (opposite l) f.2)))
        (λ g.
        let r = append_right added going.learned d (i, g) in
        let h = get_from_in d l k in
        omega (arith, vars, sound.base.known r.0 d l (ap (λ (cs : List (List Lit)). slice_get cs r.0) clauses_are ∙ r.1) (record { at = h.0; is = h.1 })))
        (push_cases going.learned c d i at)

    longer_short : length going.learned + 1 ≤ 3 ^ length t.values
    longer_short = omega (arith, derived_short (Listed added) stands (going.learned ++ c ∷ []) (length t.values) longer_derived longer_known, length_push going.learned c)

    pub over_round : (limit : Turns) (n : ℕ) (cs : List (List Lit)) → Recorded t.clauses added stands assumed limit → limit ≡ turns.Counted n → n ≡ length u.clauses - length added → cs ≡ drop (length added) u.clauses ++ c ∷ [] → IsOverLimit (length t.values) added stands assumed limit cs
    over_round limit n cs recorded counted number is =
        let e : n ≡ length going.learned = number ∙ ap (λ (xs : List (List Lit)). length xs - length added) same ∙ learned_count in
        let f : cs ≡ going.learned ++ c ∷ [] = is ∙ ap (λ (xs : List (List Lit)). xs ++ c ∷ []) (ap (drop (length added)) same ∙ learned_drop) in
        record {
          number = n;
          counted = counted;
          count = ap length f ∙ length_push going.learned c ∙ ap (λ (m : ℕ). m + 1) (sym e);
          recorded = subst (IsRecord (Listed added) stands assumed) (sym f) (longer (subst (IsRecord (Listed added) stands assumed) learned_drop (recorded n counted)));
          known = λ i d l at k. longer_known i d l (ap (λ (xs : List (List Lit)). slice_get xs i) (sym f) ∙ at) k;
          small = omega (arith, e, longer_short);
        }

    pub turn_going : (v : Lists) → Sound v → v.clauses ≡ u.clauses ++ c ∷ [] → Chosen v assumed → Going v added stands assumed
    turn_going v sound_v is chosen = record {
      sound = sound_v;
      learned = going.learned ++ c ∷ [];
      clauses = is ∙ ap (λ (xs : List (List Lit)). xs ++ c ∷ []) clauses_are ∙ append_assoc_one added going.learned c;
      derived = longer_derived;
      chosen = chosen;
    }

    pub turn_recorded : (limit : Turns) (v : Lists) → v.clauses ≡ u.clauses ++ c ∷ [] → Recorded t.clauses added stands assumed limit → Recorded v.clauses added stands assumed limit
    turn_recorded limit v is recorded n counted =
        let e : drop (length added) v.clauses ≡ going.learned ++ c ∷ [] =
        ap (drop (length added)) (is ∙ ap (λ (xs : List (List Lit)). xs ++ c ∷ []) clauses_are ∙ append_assoc_one added going.learned c) ∙ drop_front added (going.learned ++ c ∷ []) in
        subst (IsRecord (Listed added) stands assumed) (sym e) (longer (subst (IsRecord (Listed added) stands assumed) learned_drop (recorded n counted)))

    pub turn_falls : (v : Lists) → v.clauses ≡ u.clauses ++ c ∷ [] → length v.values ≡ length u.values → weight v added < weight t added
    turn_falls v is count =
        let n : length v.values ≡ length t.values = count ∙ vars in
        let k : length v.clauses - length added ≡ length going.learned + 1 =
        omega (arith, ap length (is ∙ ap (λ (xs : List (List Lit)). xs ++ c ∷ []) clauses_are), length_push (added ++ going.learned) c, append_length added going.learned) in
        rw (n, k, learned_count) (learning_falls (length t.values) (length going.learned) (open_count t.values) (open_count v.values) longer_short (omega (arith, n, open_short v.values)))

  -- propagation
  pub grown_going : (u : Lists) → Sound u → Grown t u → Going u added stands assumed
  grown_going u sound grown = record {
    sound = sound;
    learned = going.learned;
    clauses = grown.clauses ∙ going.clauses;
    derived = going.derived;
    chosen = chosen_grown t u assumed grown.order grown.decisions going.chosen;
  }

  -- a decision
  pub decided_going : (u : Lists) (l : Lit) (starts : List ℕ) → Sound u → u ≡ assigned (record t { starts = starts }) l None → Open t.values l → In l assumed ⊎ ((a : Lit) → In a assumed → Prefix t.order (length t.order) a) → Going u added stands assumed
  decided_going u l starts sound is free why = record {
    sound = sound;
    learned = going.learned;
    clauses = ap (λ (x : Lists). x.clauses) is ∙ going.clauses;
    derived = going.derived;
    chosen = subst (λ (x : Lists). Chosen x assumed) (sym is) (chosen_decided t assumed l going.sound.base going.chosen free why);
  }

  pub decided_falls : (u : Lists) (l : Lit) (starts : List ℕ) → u ≡ assigned (record t { starts = starts }) l None → Open t.values l → (length u.values ≡ length t.values) × (weight u added < weight t added)
  decided_falls u l starts is free = subst (λ (x : Lists). (length x.values ≡ length t.values) × (weight x added < weight t added)) (sym is) (same, falls)
    where
      same : length (slice_set t.values l.var (Some l.positive)) ≡ length t.values
      same = length_set t.values l.var (Some l.positive)

      falls : weight (assigned (record t { starts = starts }) l None) added < weight t added
      falls = rw same (deciding_falls (length t.values) (length t.clauses - length added) (open_count t.values) (open_count (slice_set t.values l.var (Some l.positive))) (omega (arith, open_set t.values l.var l.positive free)))

  -- the clause that propagation found false
  pub clash_false : (c : ℕ) (lits : List Lit) → Clashes t.values t.clauses c → slice_get t.clauses c ≡ Some lits → (m : Lit) → In m lits → FalseBefore t.order (length t.order) m
  clash_false c lits clash is m i =
      let e : lits ≡ clash.lits = same_Some lits clash.lits (sym is ∙ clash.is) in
      let g = get_from_in clash.lits m (subst (In m) e i) in
      false_on_trail t going.sound.base m (clash.all m (record { at = g.0; is = g.1 }))

  -- a conflict of the checker
  pub look_false : (lits : List Lit) → ((l : Lit) → In l lits → slice_get t.values l.var ≡ Some (Some (not l.positive))) → (m : Lit) → In m lits → FalseBefore t.order (length t.order) m
  look_false lits all m i = false_on_trail t going.sound.base m (all m i)

  -- all variables have values
  pub solved : (values : List (Option Bool)) → values ≡ t.values → Propagated t.values t.clauses → ((v : ℕ) → v < length t.values → (b : Bool) × (slice_get t.values v ≡ Some (Some b))) → ((a : Lit) → In a assumed → Prefix t.order (length t.order) a)
      → IsSolution (length t.values) added assumed values
  solved values is done total there = subst (IsSolution (length t.values) added assumed) (sym is) (record {
    count = refl;
    total = total;
    clauses = λ d at. all_hold t.values t.clauses done
        (λ c lits m k i. let g = get_from_in lits m i in total m.var (going.sound.base.known c lits m k (record { at = g.0; is = g.1 })))
        d (subst (λ (cs : List (List Lit)). Listed cs d) (sym going.clauses) (append_left added going.learned d at));
    assumptions = λ a i. let f = there a i in going.sound.base.true_there f.0 a f.2;
  })

grown_longer : (t u : Lists) → Grown t u → length t.order ≤ length u.order
grown_longer t u grown =
    ⊎_elim
    (λ (h : length u.order < length t.order).
    let x = get_in t.order (length u.order) h in
    absurd (omega (arith, slice_get_within u.order (length u.order) x.0 (grown.order (length u.order) x.0 x.1))))
    (λ (h : length t.order ≤ length u.order). h)
    (cases_lt (length u.order) (length t.order))

less_open : (n k a b : ℕ) → a ≤ b → search_weight n k a ≤ search_weight n k b
less_open n k a b h =
    ⊎_elim
    (λ e. let f : search_weight n k a ≡ search_weight n k b = ap (search_weight n k) e in omega (arith, f))
    (λ d. let f : search_weight n k a < search_weight n k b = deciding_falls n k b a (omega (arith, h, d)) in omega (arith, f))
    (cases_eq a b)

-- propagation leaves no more to do
pub grown_weight : (t u : Lists) (added : List (List Lit)) → Grown t u → weight u added ≤ weight t added
grown_weight t u added grown =
    let less : open_count u.values ≤ open_count t.values = omega (arith, grown.balance, grown_longer t u grown) in
    rw (grown.vars, grown.clauses) (less_open (length t.values) (length t.clauses - length added) (open_count u.values) (open_count t.values) less)

pub weight_same : (t u : Lists) (added : List (List Lit)) → t ≡ u → weight t added ≤ weight u added
weight_same t u added e = let f : weight t added ≡ weight u added = ap (λ (x : Lists). weight x added) e in omega (arith, f)

-- what the checker stands for may be said in two ways
module _ (added : List (List Lit)) (stands others : List Lit → Type 0) (same : (c : List Lit) → others c ↔ stands c) where
  pub follows_same : (c : List Lit) → Follows (Both (Listed added) stands) c → Follows (Both (Listed added) others) c
  follows_same c follows s models = follows s (λ d there. models d (⊎_elim inl (λ h. inr ((same d).1 h)) there))

  record_same : (assumed : List Lit) (cs : List (List Lit)) → IsRecord (Listed added) stands assumed cs → IsRecord (Listed added) others assumed cs
  record_same assumed cs r = record {
    nonempty = r.nonempty;
    plain = r.plain;
    different = r.different;
    follows = λ i c at. follows_same c (r.follows i c at);
    new = r.new;
  }

  derived_same : (cs : List (List Lit)) → IsDerived (Listed added) stands cs → IsDerived (Listed added) others cs
  derived_same cs r = record { plain = r.plain; different = r.different; follows = λ i c at. follows_same c (r.follows i c at) }

  pub recorded_same : (clauses : List (List Lit)) (assumed : List Lit) (limit : Turns) → Recorded clauses added stands assumed limit → Recorded clauses added others assumed limit
  recorded_same clauses assumed limit recorded n counted = record_same assumed (drop (length added) clauses) (recorded n counted)

  pub going_same : (t : Lists) (assumed : List Lit) → Going t added stands assumed → Going t added others assumed
  going_same t assumed going = record {
    sound = going.sound;
    learned = going.learned;
    clauses = going.clauses;
    derived = derived_same going.learned going.derived;
    chosen = going.chosen;
  }

  -- a clause that follows from what the checker stands for
  pub follows_stands : (c : List Lit) → Follows stands c → Follows (Both (Listed added) others) c
  follows_stands c follows s models = follows s (λ d there. models d (inr ((same d).1 there)))

  pub core_same : (assumed core : List Lit) → IsUnsatCore added stands assumed core → IsUnsatCore added others assumed core
  core_same assumed core is = record {
    assumptions = is.assumptions;
    once = is.once;
    refuted = λ s models all. is.refuted s (λ d there. models d (⊎_elim inl (λ h. inr ((same d).1 h)) there)) all;
  }

  over_same : (n : ℕ) (assumed : List Lit) (limit : Turns) (cs : List (List Lit)) → IsOverLimit n added stands assumed limit cs → IsOverLimit n added others assumed limit cs
  over_same n assumed limit cs is = record {
    number = is.number;
    counted = is.counted;
    count = is.count;
    recorded = record_same assumed cs is.recorded;
    known = is.known;
    small = is.small;
  }

  rounds_stands : {S : Type 0} (n : ℕ) (assumed : List Lit) (limit : Turns) (newest : Option (List (Option Bool) × Look S)) (a b : ℕ) (u : Lists) (r : Round S) → a ≤ b → Rounds n added stands assumed limit newest a u r → Rounds n added others assumed limit newest b u r
  rounds_stands n assumed limit newest a b u round.Next h (going, vars, falls, recorded) = (going_same u assumed going, vars, omega (arith, h, falls), recorded_same u.clauses assumed limit recorded)
  rounds_stands n assumed limit newest a b u (round.Done (answer.Sat values)) h j = j
  rounds_stands n assumed limit newest a b u (round.Done (answer.Unsat core)) h j = core_same assumed core j
  rounds_stands n assumed limit newest a b u (round.Done (answer.Unknown cs)) h j = over_same n assumed limit cs j
  rounds_stands n assumed limit newest a b u (round.Done (answer.Stopped s)) h j = j
  rounds_stands n assumed limit newest a b u (round.Done answer.NoMemory) h j = j

  pub rounds_same : {S : Type 0} (n m : ℕ) (assumed : List Lit) (limit : Turns) (newest : Option (List (Option Bool) × Look S)) (a b : ℕ) (u : Lists) (r : Round S) → n ≡ m → a ≤ b → Rounds n added stands assumed limit newest a u r → Rounds m added others assumed limit newest b u r
  rounds_same n m assumed limit newest a b u r e h j = subst (λ (k : ℕ). Rounds k added others assumed limit newest b u r) e (rounds_stands n assumed limit newest a b u r h j)

  stretches_stands : {S : Type 0} (n : ℕ) (assumed : List Lit) (limit : Turns) (newest : Option (List (Option Bool) × Look S)) (may : Bool) (u : Lists) (r : Round S) → Stretches n added stands assumed limit newest may u r → Stretches n added others assumed limit newest may u r
  stretches_stands n assumed limit newest may u round.Next (going, vars, is) = (going_same u assumed going, vars, is)
  stretches_stands n assumed limit newest may u (round.Done a) j = rounds_stands n assumed limit newest 0 0 u (round.Done a) (omega arith) j

  pub stretches_same : {S : Type 0} (n m : ℕ) (assumed : List Lit) (limit : Turns) (newest : Option (List (Option Bool) × Look S)) (may : Bool) (u : Lists) (r : Round S) → n ≡ m → Stretches n added stands assumed limit newest may u r → Stretches m added others assumed limit newest may u r
  stretches_same n m assumed limit newest may u r e j = subst (λ (k : ℕ). Stretches k added others assumed limit newest may u r) e (stretches_stands n assumed limit newest may u r j)
