-- Clauses of lists, and what makes literals true.
use Rattle.std.proofs.Common.{◌≡◌, ◌∙◌, ◌++◌, ℕ, zero, suc, Bool, true, false, not, List, [], ◌∷◌, ◌⊎◌, inl, inr, ⊎_elim, Some, refl, sym, ap, subst}
use Rattle.std.specs.Prelude.{slice_get}
use Rattle.std.proofs.lemmas.Option.{same_Some}
use Rattle.clause_logic.specs.declared.Lit.{Lit}
use Rattle.clause_logic.specs.Clauses.{opposite, Makes, Holds, Listed, Models}
use Rattle.node_encoding.specs.Shapes.{unless}
use Rattle.node_encoding.specs.Gates.{truth, signed, Has}
use Rattle.clause_logic.proofs.Lits.{not_not, opposite_twice}

get_front : (xs ys : List (List Lit)) (i : ℕ) (c : List Lit) → slice_get xs i ≡ Some c → slice_get (xs ++ ys) i ≡ Some c
get_front [] ys i c e = absurd (cc e)
get_front (x ∷ xs) ys zero c e = e
get_front (x ∷ xs) ys (suc i) c e = get_front xs ys i c e

pub listed_back : (xs ys : List (List Lit)) (c : List Lit) → Listed ys c → Listed (xs ++ ys) c
listed_back [] ys c h = h
listed_back (x ∷ xs) ys c h = let r = listed_back xs ys c h in (suc r.0, r.1)

pub listed_front : (xs ys : List (List Lit)) (c : List Lit) → Listed xs c → Listed (xs ++ ys) c
listed_front xs ys c h = (h.0, get_front xs ys h.0 c h.1)

pub listed_cases : (xs ys : List (List Lit)) (c : List Lit) → Listed (xs ++ ys) c → Listed xs c ⊎ Listed ys c
listed_cases [] ys c h = inr h
listed_cases (x ∷ xs) ys c (zero, e) = inl (zero, e)
listed_cases (x ∷ xs) ys c (suc i, e) = ⊎_elim (λ t. inl (suc t.0, t.1)) inr (listed_cases xs ys c (i, e))

pub has_back : (xs ys : List (List Lit)) → Has (xs ++ ys) ys
has_back xs ys c h = listed_back xs ys c h

pub has_front : (xs ys : List (List Lit)) → Has (xs ++ ys) xs
has_front xs ys c h = listed_front xs ys c h

-- true in both parts, true in all
pub models_append : (a : ℕ → Bool) (xs ys : List (List Lit)) → Models a (Listed xs) → Models a (Listed ys) → Models a (Listed (xs ++ ys))
models_append a xs ys m n c h = ⊎_elim (m c) (n c) (listed_cases xs ys c h)

pub models_none : (a : ℕ → Bool) → Models a (Listed [])
models_none a c (i, e) = absurd (cc e)

pub models_one : (a : ℕ → Bool) (c : List Lit) → Holds a c → Models a (Listed (c ∷ []))
models_one a c h d (zero, e) = subst (Holds a) (same_Some c d e) h
models_one a c h d (suc i, e) = absurd (cc e)

pub models_more : (a : ℕ → Bool) (c : List Lit) (cs : List (List Lit)) → Holds a c → Models a (Listed cs) → Models a (Listed (c ∷ cs))
models_more a c cs h m d (zero, e) = subst (Holds a) (same_Some c d e) h
models_more a c cs h m d (suc i, e) = m d (i, e)

-- truth values of literals
pub signed_true : (p b : Bool) → signed p b ≡ true → b ≡ p
signed_true true true e = refl
signed_true true false e = absurd (cc e)
signed_true false true e = absurd (cc e)
signed_true false false e = refl

pub true_signed : (p b : Bool) → b ≡ p → signed p b ≡ true
true_signed true true e = refl
true_signed true false e = absurd (cc e)
true_signed false true e = absurd (cc e)
true_signed false false e = refl

signed_not : (p b : Bool) → signed (not p) b ≡ not (signed p b)
signed_not true b = refl
signed_not false b = sym (not_not b)

pub truth_opposite : (a : ℕ → Bool) (l : Lit) → truth a (opposite l) ≡ not (truth a l)
truth_opposite a l = signed_not l.positive (a l.var)

pub makes_truth : (a : ℕ → Bool) (l : Lit) → truth a l ≡ true → Makes a l
makes_truth a l e = signed_true l.positive (a l.var) e

pub truth_makes : (a : ℕ → Bool) (l : Lit) → Makes a l → truth a l ≡ true
truth_makes a l e = true_signed l.positive (a l.var) e

pub makes_opposite : (a : ℕ → Bool) (l : Lit) → truth a l ≡ false → Makes a (opposite l)
makes_opposite a l e = makes_truth a (opposite l) (truth_opposite a l ∙ ap not e)

pub holds_first : (a : ℕ → Bool) (l : Lit) (c : List Lit) → truth a l ≡ true → Holds a (l ∷ c)
holds_first a l c e = (l, inl refl, makes_truth a l e)

pub holds_later : (a : ℕ → Bool) (l : Lit) (c : List Lit) → Holds a c → Holds a (l ∷ c)
holds_later a l c h = (h.0, inr h.1, h.2)

pub holds_front : (a : ℕ → Bool) (c d : List Lit) → Holds a c → Holds a (c ++ d)
holds_front a [] d (l, i, m) = absurd i
holds_front a (x ∷ c) d (l, inl e, m) = (l, inl e, m)
holds_front a (x ∷ c) d (l, inr i, m) = holds_later a x (c ++ d) (holds_front a c d (l, i, m))

pub holds_back : (a : ℕ → Bool) (c d : List Lit) → Holds a d → Holds a (c ++ d)
holds_back a [] d h = h
holds_back a (x ∷ c) d h = holds_later a x (c ++ d) (holds_back a c d h)

-- a clause that holds has a true literal
pub holds_cases : (a : ℕ → Bool) (l : Lit) (c : List Lit) → Holds a (l ∷ c) → (truth a l ≡ true) ⊎ Holds a c
holds_cases a l c (m, inl e, h) = inl (truth_makes a l (subst (Makes a) (sym e) h))
holds_cases a l c (m, inr i, h) = inr (m, i, h)

pub holds_empty : (a : ℕ → Bool) → Holds a [] → ⊥
holds_empty a (l, i, h) = i

pub unless_opposite : (b : Bool) (l : Lit) → opposite (unless b l) ≡ unless (not b) l
unless_opposite true l = opposite_twice l
unless_opposite false l = refl
