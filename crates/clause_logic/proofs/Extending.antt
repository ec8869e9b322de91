-- Clauses that define one variable more change nothing for the older ones: what was new stays new.
--
-- A clause of the variable that has all other literals false makes the variable's literal true. Each clause
-- with the opposite literal then holds a literal that is true already, so propagation gets nothing from it.
use Rattle.std.proofs.Common.{◌≡◌, ◌∙◌, ℕ, List, ◌⊎◌, inl, inr, ⊎_elim, sym, ap, subst}
use Rattle.std.proofs.lemmas.Bool.{cases_eq}
use Rattle.clause_logic.specs.declared.Lit.{Lit}
use Rattle.clause_logic.specs.Clauses.{opposite, In, Reached, given, unit, Clash, Others, New}
use Rattle.clause_logic.specs.Strength.{AreDefining}
use Rattle.clause_logic.proofs.Lits.{lit_cases, opposite_twice}

module _ (old added : List Lit → Type 0) (g : ℕ) (older : (c : List Lit) (l : Lit) → old c → In l c → l.var ≡ g → ⊥) (defines : AreDefining g added) (c : List Lit) (over : (l : Lit) → In l c → l.var ≡ g → ⊥) (l : Lit) where
  abbrev more : List Lit → Type 0
  more d = old d ⊎ added d

  abbrev P : Lit → Type 0
  P = Reached old (Others c l)

  -- older literals as before, and a literal of the variable where a clause of it is unit
  abbrev Q : Lit → Type 0
  Q m = ((m.var ≡ g → ⊥) × P m) ⊎ ((d : List Lit) × (m.var ≡ g) × added d × In m d × ((x : Lit) → In x d → (x ≡ m → ⊥) → P (opposite x)))

  old_of : (m : Lit) → (m.var ≡ g → ⊥) → Q m → P m
  old_of m n (inl h) = h.1
  old_of m n (inr h) = absurd (n h.1)

  begun : (m : Lit) → Others c l m → Q m
  begun m o = inl ((λ e. over o.0 o.1 (sym (ap (λ (x : Lit). x.var) o.3) ∙ e)), given m o)

  module _ (calm : Clash old (Others c l) → ⊥) where
    apart : (m : Lit) → P m → P (opposite m) → ⊥
    apart m p q = calm (inl (m, p, q))

    -- a literal of the variable that is told, and a clause in which it is false
    meets : (m : Lit) (d : List Lit) → m.var ≡ g → Q m → added d → In (opposite m) d → (y : Lit) × P (opposite y) × In (opposite y) d × (y.var ≡ g → ⊥)
    meets m d e (inl h) there i = absurd (h.0 e)
    meets m d e (inr (k, e_, has, j, others)) there i =
        let one = defines.blocked k d m has there e j i in
        (one.0, others one.0 one.1 (λ f. one.3 (ap (λ (x : Lit). x.var) f ∙ e)), one.2, one.3)

    consistent : (m : Lit) → Q m → Q (opposite m) → ⊥
    consistent m (inl h) q = apart m h.1 (old_of (opposite m) h.0 q)
    consistent m (inr h) (inl k) = k.0 h.1
    consistent m (inr (d, e, has, i, others)) (inr (k, f, there, j, rest)) =
        let one = defines.blocked d k m has there e i j in
        apart (opposite one.0) (others one.0 one.1 (λ s. one.3 (ap (λ (x : Lit). x.var) s ∙ e)))
        (rest (opposite one.0) one.2 (λ s. one.3 (ap (λ (x : Lit). x.var) s ∙ e)))

    closed : (d : List Lit) (m : Lit) → more d → In m d → ((x : Lit) → In x d → (x ≡ m → ⊥) → Q (opposite x)) → Q m
    closed d m (inl h) i others =
        inl (older d m h i, unit d m h i (λ x k n. old_of (opposite x) (older d x h k) (others x k n)))
    closed d m (inr h) i others = ⊎_elim
        (λ e. inr (d, e, h, i, (λ x k n. old_of (opposite x) (λ f. n (defines.once d x m h k i f e)) (others x k n))))
        (λ n. let own = defines.some d h in
        let told = others own.0 own.1 (λ s. n (ap (λ (x : Lit). x.var) (sym s) ∙ own.2)) in
        let one = meets (opposite own.0) d own.2 told h (subst (λ x. In x d) (sym (opposite_twice own.0)) own.1) in
        ⊎_elim
        (λ s. inl (n, subst P s one.1))
        (λ f. absurd (apart (opposite one.0) one.1 (old_of (opposite (opposite one.0)) one.3 (others (opposite one.0) one.2 f))))
        (lit_cases (opposite one.0) m))
        (cases_eq m.var g)

    reached : (m : Lit) → Reached more (Others c l) m → Q m
    reached m (given m_ s) = begun m s
    reached m (unit d m_ h i others) = closed d m h i (λ x k n. reached (opposite x) (others x k n))

    no_clash_more : Clash more (Others c l) → ⊥
    no_clash_more (inl (m, p, q)) = consistent m (reached m p) (reached (opposite m) q)
    no_clash_more (inr (d, inl h, all)) = calm (inr (d, h, (λ x k. old_of (opposite x) (older d x h k) (reached (opposite x) (all x k)))))
    no_clash_more (inr (d, inr h, all)) =
        let own = defines.some d h in
        consistent own.0 (closed d own.0 (inr h) own.1 (λ x k n. reached (opposite x) (all x k))) (reached (opposite own.0) (all own.0 own.1))

-- what is new stays new where clauses define one variable more
pub new_stays : (old added : List Lit → Type 0) (g : ℕ) → ((c : List Lit) (l : Lit) → old c → In l c → l.var ≡ g → ⊥) → AreDefining g added → (c : List Lit) → ((l : Lit) → In l c → l.var ≡ g → ⊥) → New old c → New (λ d. old d ⊎ added d) c
new_stays old added g older defines c over (l, i, calm, reaches, misses) = (
  l,
  i,
  no_clash_more old added g older defines c over l calm,
  (λ r. reaches (old_of old added g older defines c over l l (over l i) (reached old added g older defines c over l calm l r))),
  (λ r. misses (old_of old added g older defines c over l (opposite l) (over l i) (reached old added g older defines c over l calm (opposite l) r))),
)
