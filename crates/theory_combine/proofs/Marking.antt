-- Marks of literals, one more at a time.
use Rattle.std.proofs.Common.{◌≡◌, ◌∙◌, ◌+◌, ◌++◌, cond, ℕ, Bool, true, false, List, [], ◌∷◌, Some, ◌⊎◌, inl, inr, ⊎_elim, take, refl, sym, ap, subst}
use Rattle.std.specs.Prelude.{slice_get, nat_eq, if◌then◌else◌}
use Rattle.std.specs.List.{list_any}
use Rattle.std.proofs.lemmas.Bool.{eq-eqb, eqb-true}
use Rattle.clause_logic.specs.declared.Lit.{Lit}
use Rattle.clause_logic.specs.Clauses.{In}
use Rattle.theory_combine.specs.Reading.{AreMarks}
use Rattle.clause_logic.proofs.Lits.{same_lit}
use Rattle.node_encoding.proofs.Combining.{take_next}

in_back : (xs : List Lit) (x l : Lit) → In l (xs ++ x ∷ []) → In l xs ⊎ (x ≡ l)
in_back [] x l h = ⊎_elim inr (λ z. absurd z) h
in_back (y ∷ xs) x l (inl e) = inl (inl e)
in_back (y ∷ xs) x l (inr k) = ⊎_elim (λ f. inl (inr f)) inr (in_back xs x l k)

in_front : (xs : List Lit) (x l : Lit) → In l xs → In l (xs ++ x ∷ [])
in_front [] x l h = absurd h
in_front (y ∷ xs) x l (inl e) = inl e
in_front (y ∷ xs) x l (inr k) = inr (in_front xs x l k)

in_end : (xs : List Lit) (x : Lit) → In x (xs ++ x ∷ [])
in_end [] x = inl refl
in_end (y ∷ xs) x = inr (in_end xs x)

-- the marks of a literal more: of its sign its variable comes in
module _ (core : List Lit) (i : ℕ) (x : Lit) (here : slice_get core i ≡ Some x) (old new : Bool → List ℕ)
    (grown : (q : ℕ) → list_any (nat_eq q) (new x.positive) ≡ cond {A = Bool} (nat_eq x.var q) true (list_any (nat_eq q) (old x.positive)))
    (kept : (p : Bool) → (p ≡ x.positive → ⊥) → new p ≡ old p)
    (marks : AreMarks (take i core) (λ l. list_any (nat_eq l.var) (old l.positive))) where
  at_sign : (p : Bool) (q : ℕ) → p ≡ x.positive → list_any (nat_eq q) (new p) ≡ cond {A = Bool} (nat_eq x.var q) true (list_any (nat_eq q) (old p))
  at_sign p q e = ap (λ s. list_any (nat_eq q) (new s)) e ∙ grown q ∙ ap (λ s. cond {A = Bool} (nat_eq x.var q) true (list_any (nat_eq q) (old s))) (sym e)

  sign_cases : (p : Bool) → (p ≡ x.positive) ⊎ (p ≡ x.positive → ⊥)
  sign_cases p = cases p x.positive
    where
      cases : (a b : Bool) → (a ≡ b) ⊎ (a ≡ b → ⊥)
      cases true true = inl refl
      cases true false = inr (λ e. absurd (cc e))
      cases false true = inr (λ e. absurd (cc e))
      cases false false = inl refl

  still : (t b : Bool) → b ≡ true → cond {A = Bool} t true b ≡ true
  still true b e = refl
  still false b e = e

  every_more : (l : Lit) → In l (take i core) ⊎ (x ≡ l) → list_any (nat_eq l.var) (new l.positive) ≡ true
  every_more l (inl k) =
      ⊎_elim
      (λ e. at_sign l.positive l.var e ∙ still (nat_eq x.var l.var) _ (marks.every l k))
      (λ d. ap (list_any (nat_eq l.var)) (kept l.positive d) ∙ marks.every l k)
      (sign_cases l.positive)
  every_more l (inr e) =
      at_sign l.positive l.var (ap (λ (m : Lit). m.positive) (sym e))
      ∙ ap (λ t. cond {A = Bool} t true (list_any (nat_eq l.var) (old l.positive))) (eq-eqb x.var l.var (ap (λ (m : Lit). m.var) e))

  split : (t b : Bool) → cond {A = Bool} t true b ≡ true → (t ≡ true) ⊎ (b ≡ true)
  split true b e = inl refl
  split false b e = inr e

  only_more : (l : Lit) → list_any (nat_eq l.var) (new l.positive) ≡ true → In l (take i core) ⊎ (x ≡ l)
  only_more l h =
      ⊎_elim
      (λ e. ⊎_elim (λ f. inr (same_lit x l (eqb-true x.var l.var f) (sym e))) (λ k. inl (marks.only l k)) (split (nat_eq x.var l.var) _ (sym (at_sign l.positive l.var e) ∙ h)))
      (λ d. inl (marks.only l (sym (ap (list_any (nat_eq l.var)) (kept l.positive d)) ∙ h)))
      (sign_cases l.positive)

  pub marks_more : AreMarks (take (i + 1) core) (λ l. list_any (nat_eq l.var) (new l.positive))
  marks_more = record {
    every = λ l k. every_more l (in_back (take i core) x l (subst (In l) (take_next core i x here) k));
    only = λ l h. subst (In l) (sym (take_next core i x here)) (⊎_elim (in_front (take i core) x l) (λ e. subst (λ m. In m (take i core ++ x ∷ [])) e (in_end (take i core) x)) (only_more l h));
  }

-- by the sign, one list or the other
abbrev pub by_sign : List ℕ → List ℕ → Bool → List ℕ
by_sign ps ns p = if p then ps else ns

pub positive_kept : (ps qs ns : List ℕ) (s : Bool) → s ≡ true → (p : Bool) → (p ≡ s → ⊥) → by_sign qs ns p ≡ by_sign ps ns p
positive_kept ps qs ns s e true d = absurd (d (sym e))
positive_kept ps qs ns s e false d = refl

pub negative_kept : (ps ns qs : List ℕ) (s : Bool) → s ≡ false → (p : Bool) → (p ≡ s → ⊥) → by_sign ps qs p ≡ by_sign ps ns p
negative_kept ps ns qs s e true d = refl
negative_kept ps ns qs s e false d = absurd (d (sym e))

pub marks_none : (core : List Lit) (sets : Bool → List ℕ) → ((p : Bool) → sets p ≡ []) → AreMarks (take 0 core) (λ l. list_any (nat_eq l.var) (sets l.positive))
marks_none core sets none = record {
  every = λ l k. absurd k;
  only = λ l h. absurd (cc (sym (ap (list_any (nat_eq l.var)) (none l.positive)) ∙ h));
}

pub signs_none : (ps ns : List ℕ) → ps ≡ [] → ns ≡ [] → (p : Bool) → by_sign ps ns p ≡ []
signs_none ps ns e f true = e
signs_none ps ns e f false = f

-- a number more in one of the lists
abbrev Grown : ℕ → List ℕ → List ℕ → Type 0
Grown v old new = (q : ℕ) → list_any (nat_eq q) new ≡ cond {A = Bool} (nat_eq v q) true (list_any (nat_eq q) old)

pub positive_grown : (v : ℕ) (ps qs ns : List ℕ) (s : Bool) → s ≡ true → Grown v ps qs → Grown v (by_sign ps ns s) (by_sign qs ns s)
positive_grown v ps qs ns true e grown = grown
positive_grown v ps qs ns false e grown = absurd (cc e)

pub negative_grown : (v : ℕ) (ps ns qs : List ℕ) (s : Bool) → s ≡ false → Grown v ns qs → Grown v (by_sign ps ns s) (by_sign ps qs s)
negative_grown v ps ns qs true e grown = absurd (cc e)
negative_grown v ps ns qs false e grown = grown
