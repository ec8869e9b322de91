-- Clauses as truth values.
use Rattle.std.proofs.Common.{◌≡◌, ℕ, zero, suc, Bool, true, false, not, ◌&&◌, ◌||◌, cond, List, [], ◌∷◌, ◌⊎◌, refl, sym, subst, inl, inr, ⊎_elim}
use Rattle.std.proofs.lemmas.Option.{same_Some}
use Rattle.clause_logic.specs.declared.Lit.{Lit}
use Rattle.clause_logic.specs.Clauses.{opposite, In, Makes, Holds, Models, Listed}
use Rattle.clause_gates.specs.Bits.{value_under}

-- the two are one
abbrev pub iff : Bool → Bool → Bool
iff true b = b
iff false b = not b

pub iff_true : (a b : Bool) → iff a b ≡ true → a ≡ b
iff_true true b h = sym h
iff_true false true h = absurd (cc h)
iff_true false false h = refl

pub iff_same : (a : Bool) → iff a a ≡ true
iff_same true = refl
iff_same false = refl

pub value_opposite : (s : ℕ → Bool) (l : Lit) → value_under s (opposite l) ≡ not (value_under s l)
value_opposite s l = of l.positive (s l.var)
  where
    of : (p x : Bool) → cond (not p) x (not x) ≡ not (cond p x (not x))
    of true x = refl
    of false true = refl
    of false false = refl

makes_from : (s : ℕ → Bool) (l : Lit) → value_under s l ≡ true → Makes s l
makes_from s l = of l.positive (s l.var)
  where
    of : (p x : Bool) → cond p x (not x) ≡ true → x ≡ p
    of true x h = h
    of false true h = absurd (cc h)
    of false false h = refl

makes_to : (s : ℕ → Bool) (l : Lit) → Makes s l → value_under s l ≡ true
makes_to s l = of l.positive (s l.var)
  where
    of : (p x : Bool) → x ≡ p → cond p x (not x) ≡ true
    of true x h = h
    of false true h = absurd (cc h)
    of false false h = refl

-- a literal of the clause is true
abbrev pub any_true : (ℕ → Bool) → List Lit → Bool
any_true s [] = false
any_true s (l ∷ ls) = value_under s l || any_true s ls

-- each clause is true
abbrev pub all_true : (ℕ → Bool) → List (List Lit) → Bool
all_true s [] = true
all_true s (c ∷ cs) = any_true s c && all_true s cs

or_cases : (a b : Bool) → (a || b) ≡ true → (a ≡ true) ⊎ (b ≡ true)
or_cases true b h = inl refl
or_cases false b h = inr h

or_right : (a : Bool) → (a || true) ≡ true
or_right true = refl
or_right false = refl

and_parts : (a b : Bool) → (a && b) ≡ true → (a ≡ true) × (b ≡ true)
and_parts true b h = (refl, h)
and_parts false b h = absurd (cc h)

holds_from : (s : ℕ → Bool) (c : List Lit) → any_true s c ≡ true → Holds s c
holds_from s [] h = absurd (cc h)
holds_from s (l ∷ ls) h =
    ⊎_elim
    (λ e. (l, inl refl, makes_from s l e))
    (λ e. let rest = holds_from s ls e in (rest.0, inr rest.1, rest.2))
    (or_cases (value_under s l) (any_true s ls) h)

holds_to : (s : ℕ → Bool) (c : List Lit) (l : Lit) → In l c → Makes s l → any_true s c ≡ true
holds_to s [] l i h = absurd i
holds_to s (x ∷ xs) l i h =
    ⊎_elim
    (λ (e : x ≡ l). rw (makes_to s x (subst (Makes s) (sym e) h)) refl)
    (λ e. rw (holds_to s xs l e h) (or_right (value_under s x)))
    i

pub models_from : (s : ℕ → Bool) (cs : List (List Lit)) → all_true s cs ≡ true → Models s (Listed cs)
models_from s [] h c (i, at) = absurd (cc at)
models_from s (d ∷ ds) h c (zero, at) = holds_from s c (subst (λ x. any_true s x ≡ true) (same_Some d c at) (and_parts (any_true s d) (all_true s ds) h).0)
models_from s (d ∷ ds) h c (suc i, at) = models_from s ds (and_parts (any_true s d) (all_true s ds) h).1 c (i, at)

pub models_to : (s : ℕ → Bool) (cs : List (List Lit)) → Models s (Listed cs) → all_true s cs ≡ true
models_to s [] h = refl
models_to s (d ∷ ds) h =
    let first = h d (zero, refl) in
    rw (holds_to s d first.0 first.1 first.2, models_to s ds (λ c l. h c (suc l.0, l.1))) refl

pub only_true : (s : ℕ → Bool) (l : Lit) → Holds s (l ∷ []) → value_under s l ≡ true
only_true s l (m, i, h) = ⊎_elim (λ (e : l ≡ m). makes_to s l (subst (Makes s) (sym e) h)) (λ k. absurd k) i
