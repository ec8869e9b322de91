-- A clause searched for a literal to watch.
use Rattle.std.proofs.Common.{◌≡◌, ◌∙◌, ◌+◌, ◌<◌, ◌≤◌, ℕ, Bool, true, false, List, Option, Some, length, refl, sym, ap, subst, inl, inr, ◌⊎◌, ⊎_elim, arith, get_or}
use Rattle.std.specs.Prelude.{slice_get}
use Rattle.std.proofs.lemmas.Bool.{cases_lt, cases_eq}
use Rattle.std.proofs.lemmas.Option.{same_Some, slice_get_within, slice_get-get_or}
use Rattle.clause_logic.specs.declared.Lit.{Lit}
use Rattle.clause_trail.specs.declared.Pair.{Pair}
use Rattle.clause_trail.specs.Words.{True, False, Has, AllFalse, AllFalseBut}
use Rattle.clause_trail.specs.View.{Lists, Base, Now, Watches}
use Rattle.clause_trail.specs.Steps.{Stays, Ways}
use Rattle.clause_trail.proofs.Trails.{on_trail}

pub has_at : (lits : List Lit) (i : ℕ) (d : Lit) → i < length lits → Has lits (get_or lits i d)
has_at lits i d h = record { at = i; is = slice_get-get_or lits i d h }

pub one_more : (lits : List Lit) (values : List (Option Bool)) (other : Lit) (i : ℕ) (d : Lit) → i < length lits
    → ((k : ℕ) (m : Lit) → k < i → slice_get lits k ≡ Some m → (m ≡ other → ⊥) → False values m)
    → ((get_or lits i d ≡ other) ⊎ False values (get_or lits i d))
    → (k : ℕ) (m : Lit) → k < i + 1 → slice_get lits k ≡ Some m → (m ≡ other → ⊥) → False values m
one_more lits values other i d h before here k m below is apart =
    ⊎_elim
    (λ (e : k < i). before k m e is apart)
    (λ (e : i ≤ k).
    let same : k ≡ i = omega arith in
    let it : get_or lits i d ≡ m = same_Some (get_or lits i d) m (sym (slice_get-get_or lits i d h) ∙ ap (slice_get lits) (sym same) ∙ is) in
    ⊎_elim (λ f. absurd (apart (sym it ∙ f))) (λ f. subst (False values) it f) here)
    (cases_lt k i)

pub all_seen : (lits : List Lit) (values : List (Option Bool)) (other : Lit) (i : ℕ) → length lits ≤ i
    → ((k : ℕ) (m : Lit) → k < i → slice_get lits k ≡ Some m → (m ≡ other → ⊥) → False values m)
    → AllFalseBut values lits other
all_seen lits values other i h before m has apart = before has.at m (omega (arith, h, slice_get_within lits has.at m has.is)) has.is apart

module _ (t : Lists) (f : Lit) (c : ℕ) (base : Base t) (now : Now t t.done) where
  -- the pair that was read is the one there
  pub stays_past : length t.clauses ≤ c → Stays t f c
  stays_past h lits pair is paired w = absurd (omega (arith, h, slice_get_within t.clauses c lits is))

  pub stays_stale : (pair : Pair) → slice_get t.pairs c ≡ Some pair → (Watches pair f → ⊥) → Stays t f c
  stays_stale pair is none lits other has paired w = absurd (none (subst (λ p. Watches p f) (same_Some other pair (sym paired ∙ is)) w))

  pub stays_one : (pair : Pair) → slice_get t.pairs c ≡ Some pair → Ways pair f f → Stays t f c
  stays_one pair is ways lits other has paired w =
      let e : pair ≡ other = same_Some pair other (sym is ∙ paired) in
      let one : (v : Lit) → Watches pair v → v ≡ f = λ v h. ⊎_elim (λ x. x) (λ x. x) (ways.ways v h) in
      let both : pair.first ≡ pair.second = one pair.first (inl refl) ∙ sym (one pair.second (inr refl)) in
      (now c lits other has paired).same (subst (λ (p : Pair). p.first ≡ p.second) e both)

  pub stays_true : (pair : Pair) (other : Lit) → slice_get t.pairs c ≡ Some pair → Watches pair other → True t.values other → Stays t f c
  stays_true pair other is w h lits read has paired _ =
      record {
        lit = other;
        has = base.member c lits read other has paired (subst (λ p. Watches p other) (same_Some pair read (sym is ∙ paired)) w);
        on = on_trail t other base h;
      }

bool_cases : (a b : Bool) → (a ≡ b) ⊎ (a ≡ b → ⊥)
bool_cases true true = inl refl
bool_cases false false = inl refl
bool_cases true false = inr (λ e. absurd (cc e))
bool_cases false true = inr (λ e. absurd (cc e))

pub lit_cases : (a b : Lit) → (a ≡ b) ⊎ (a ≡ b → ⊥)
lit_cases a b =
    ⊎_elim
    (λ (e : a.var ≡ b.var). ⊎_elim
    (λ (g : a.positive ≡ b.positive). inl (ap (λ (n : ℕ). let l : Lit = record { var = n; positive = a.positive } in l) e ∙ ap (λ (p : Bool). let l : Lit = record { var = b.var; positive = p } in l) g))
    (λ d. inr (λ g. d (ap (λ (l : Lit). l.positive) g)))
    (bool_cases a.positive b.positive))
    (λ d. inr (λ g. d (ap (λ (l : Lit). l.var) g)))
    (cases_eq a.var b.var)

pub all_false : (lits : List Lit) (values : List (Option Bool)) (other : Lit) → AllFalseBut values lits other → False values other → AllFalse values lits
all_false lits values other but it m has = ⊎_elim (λ e. subst (False values) (sym e) it) (λ d. but m has d) (lit_cases m other)

pub one_more_false : (lits : List Lit) (values : List (Option Bool)) (i : ℕ) (d : Lit) → i < length lits
    → ((k : ℕ) (m : Lit) → k < i → slice_get lits k ≡ Some m → False values m) → False values (get_or lits i d)
    → (k : ℕ) (m : Lit) → k < i + 1 → slice_get lits k ≡ Some m → False values m
one_more_false lits values i d h before here k m below is =
    ⊎_elim
    (λ (e : k < i). before k m e is)
    (λ (e : i ≤ k).
    let same : k ≡ i = omega arith in
    subst (False values) (same_Some (get_or lits i d) m (sym (slice_get-get_or lits i d h) ∙ ap (slice_get lits) (sym same) ∙ is)) here)
    (cases_lt k i)

pub all_seen_false : (lits : List Lit) (values : List (Option Bool)) (i : ℕ) → length lits ≤ i
    → ((k : ℕ) (m : Lit) → k < i → slice_get lits k ≡ Some m → False values m) → AllFalse values lits
all_seen_false lits values i h before m has = before has.at m (omega (arith, h, slice_get_within lits has.at m has.is)) has.is
