-- Literals: equal or not, and their opposites.
use Rattle.std.proofs.Common.{ℕ, zero, suc, ◌<◌, Bool, true, false, not, List, [], ◌∷◌, Some, ◌≡◌, ◌∙◌, ◌⊎◌, inl, inr, ⊎_elim, refl, sym, ap, arith}
use Rattle.std.specs.Prelude.{slice_get}
use Rattle.std.proofs.lemmas.Option.{same_Some}
use Rattle.std.proofs.lemmas.Bool.{cases_eq}
use Rattle.clause_logic.specs.declared.Lit.{Lit}
use Rattle.clause_logic.specs.Clauses.{opposite}
use Rattle.clause_logic.specs.Trails.{Prefix}

pub bool_cases : (a b : Bool) → (a ≡ b) ⊎ (a ≡ b → ⊥)
bool_cases true true = inl refl
bool_cases true false = inr (λ e. absurd (cc e))
bool_cases false true = inr (λ e. absurd (cc e))
bool_cases false false = inl refl

pub made : ℕ → Bool → Lit
made v p = record { var = v; positive = p }

pub same_lit : (a b : Lit) → a.var ≡ b.var → a.positive ≡ b.positive → a ≡ b
unfolding made
same_lit a b e f = ap (λ (v : ℕ). made v a.positive) e ∙ ap (λ (p : Bool). made b.var p) f

pub lit_cases : (a b : Lit) → (a ≡ b) ⊎ (a ≡ b → ⊥)
lit_cases a b =
    ⊎_elim
    (λ e. ⊎_elim (λ f. inl (same_lit a b e f)) (λ n. inr (λ g. n (ap (λ (l : Lit). l.positive) g))) (bool_cases a.positive b.positive))
    (λ n. inr (λ g. n (ap (λ (l : Lit). l.var) g)))
    (cases_eq a.var b.var)

pub not_not : (b : Bool) → not (not b) ≡ b
not_not true = refl
not_not false = refl

pub not_self : (b : Bool) → not b ≡ b → ⊥
not_self true e = absurd (cc e)
not_self false e = absurd (cc e)

pub not_cases : (a b : Bool) → (a ≡ b) ⊎ (a ≡ not b)
not_cases true true = inl refl
not_cases true false = inr refl
not_cases false true = inr refl
not_cases false false = inl refl

pub opposite_twice : (l : Lit) → opposite (opposite l) ≡ l
opposite_twice l = same_lit (opposite (opposite l)) l refl (not_not l.positive)

pub opposite_other : (l : Lit) → opposite l ≡ l → ⊥
opposite_other l e = not_self l.positive (ap (λ (x : Lit). x.positive) e)

-- from an equation of opposites
pub opposite_same : (a b : Lit) → opposite a ≡ opposite b → a ≡ b
opposite_same a b e = sym (opposite_twice a) ∙ ap opposite e ∙ opposite_twice b

-- whether a literal stands on a trail before a place
pub prefix_cases : (order : List Lit) (n : ℕ) (l : Lit) → Prefix order n l ⊎ (Prefix order n l → ⊥)
prefix_cases [] n l = inr (λ f. absurd (cc f.2))
prefix_cases (x ∷ xs) zero l = inr (λ f. absurd (omega (arith, f.1)))
prefix_cases (x ∷ xs) (suc n) l =
    ⊎_elim
    (λ e. inl (zero, omega arith, ap Some e))
    (λ d. ⊎_elim
    (λ f. inl (suc f.0, omega (arith, f.1), f.2))
    (λ k. inr (λ f. front d k f.0 f.1 f.2))
    (prefix_cases xs n l))
    (lit_cases x l)
  where
    front : (x ≡ l → ⊥) → (Prefix xs n l → ⊥) → (q : ℕ) → q < suc n → slice_get (x ∷ xs) q ≡ Some l → ⊥
    front d k zero small at = d (same_Some x l at)
    front d k (suc q) small at = k (q, omega (arith, small), at)
