-- A majority as an exclusive or and a choice: unit propagation over the clauses of these two reaches nothing that the six clauses of the majority don't.
use Rattle.std.proofs.Common.{◌≡◌, ◌∙◌, ℕ, zero, suc, ◌<◌, List, [], ◌∷◌, ◌++◌, ◌⊎◌, refl, sym, ap, subst, inl, inr, ⊎_elim, arith}
use Rattle.std.proofs.lemmas.Option.{same_Some}
use Rattle.clause_logic.specs.declared.Lit.{Lit}
use Rattle.clause_logic.specs.Clauses.{opposite, In, Listed, Reached, given, unit, Clash, Others, New, Known, Units}
use Rattle.clause_logic.proofs.Lits.{lit_cases, opposite_twice}
use Rattle.clause_search.specs.Content.{AllKnown}
use Rattle.clause_gates.specs.Built.{of_var}
use Rattle.clause_gates.specs.Circuits.{AllBelow}
use Rattle.clause_gates.specs.Defining.{xor_clauses, ite_clauses}
use Rattle.clause_gates.specs.Gates.{majority_clauses}
use Rattle.clause_gates.proofs.Growth.{get_after}

-- the clauses of the exclusive or of two operands, and of the choice by it
abbrev pub named_clauses : ℕ → Lit → Lit → Lit → Lit → List (List Lit)
named_clauses x g a b d = xor_clauses (of_var x) a b ++ ite_clauses g (of_var x) d a

module _ (clauses : List Lit → Type 0) (start : Lit → Type 0) (x : ℕ) (g a b d : Lit) (below : (k : List Lit) → clauses k → (m : Lit) → In m k → m.var < x) (first : (m : Lit) → start m → m.var < x)
    (there : (k : List Lit) → Listed (majority_clauses g a b d) k → clauses k) (calm : Clash clauses start → ⊥) where
  abbrev P : Lit → Type 0
  P m = Reached clauses start m

  low : (m : Lit) → P m → m.var < x
  low m (given n s) = first n s
  low m (unit k n h i others) = below k h n i

  apart : (m : Lit) → P m → P (opposite m) → ⊥
  apart m p q = calm (inl (m, p, q))

  up : (m : Lit) → P m → P (opposite (opposite m))
  up m p = subst P (sym (opposite_twice m)) p

  from3 : (p q r l : Lit) → clauses (p ∷ q ∷ r ∷ []) → In l (p ∷ q ∷ r ∷ []) → (p ≡ l) ⊎ P (opposite p) → (q ≡ l) ⊎ P (opposite q) → (r ≡ l) ⊎ P (opposite r) → P l
  from3 p q r l h i hp hq hr =
      unit (p ∷ q ∷ r ∷ []) l h i (λ m k n.
      ⊎_elim
      (λ (e : p ≡ m). ⊎_elim (λ f. absurd (n (sym e ∙ f))) (λ o. subst P (ap opposite e) o) hp)
      (λ k2. ⊎_elim
      (λ (e : q ≡ m). ⊎_elim (λ f. absurd (n (sym e ∙ f))) (λ o. subst P (ap opposite e) o) hq)
      (λ k3. ⊎_elim
      (λ (e : r ≡ m). ⊎_elim (λ f. absurd (n (sym e ∙ f))) (λ o. subst P (ap opposite e) o) hr)
      (λ f. absurd f) k3) k2) k)

  -- the six clauses
  c1 : clauses (g ∷ opposite a ∷ opposite b ∷ [])
  c1 = there (g ∷ opposite a ∷ opposite b ∷ []) (0, refl)

  c2 : clauses (g ∷ opposite a ∷ opposite d ∷ [])
  c2 = there (g ∷ opposite a ∷ opposite d ∷ []) (1, refl)

  c3 : clauses (g ∷ opposite b ∷ opposite d ∷ [])
  c3 = there (g ∷ opposite b ∷ opposite d ∷ []) (2, refl)

  c4 : clauses (opposite g ∷ a ∷ b ∷ [])
  c4 = there (opposite g ∷ a ∷ b ∷ []) (3, refl)

  c5 : clauses (opposite g ∷ a ∷ d ∷ [])
  c5 = there (opposite g ∷ a ∷ d ∷ []) (4, refl)

  c6 : clauses (opposite g ∷ b ∷ d ∷ [])
  c6 = there (opposite g ∷ b ∷ d ∷ []) (5, refl)

  -- what follows of the six clauses: two of the operands' values give the gate's, and its value with one operand's gives another's
  high_1 : P (opposite g) → P a → P (opposite b)
  high_1 p q = from3 g (opposite a) (opposite b) (opposite b) c1 (inr (inr (inl refl))) (inr p) (inr (up a q)) (inl refl)

  high_2 : P (opposite g) → P a → P (opposite d)
  high_2 p q = from3 g (opposite a) (opposite d) (opposite d) c2 (inr (inr (inl refl))) (inr p) (inr (up a q)) (inl refl)

  high_2' : P (opposite g) → P d → P (opposite a)
  high_2' p q = from3 g (opposite a) (opposite d) (opposite a) c2 (inr (inl refl)) (inr p) (inl refl) (inr (up d q))

  high_3 : P (opposite g) → P b → P (opposite d)
  high_3 p q = from3 g (opposite b) (opposite d) (opposite d) c3 (inr (inr (inl refl))) (inr p) (inr (up b q)) (inl refl)

  high_3' : P (opposite g) → P d → P (opposite b)
  high_3' p q = from3 g (opposite b) (opposite d) (opposite b) c3 (inr (inl refl)) (inr p) (inl refl) (inr (up d q))

  gate_1 : P a → P b → P g
  gate_1 p q = from3 g (opposite a) (opposite b) g c1 (inl refl) (inl refl) (inr (up a p)) (inr (up b q))

  gate_2 : P a → (opposite d ≡ g) ⊎ P d → P g
  gate_2 p q = from3 g (opposite a) (opposite d) g c2 (inl refl) (inl refl) (inr (up a p)) (⊎_elim inl (λ o. inr (up d o)) q)

  gate_3 : P b → (opposite d ≡ g) ⊎ P d → P g
  gate_3 p q = from3 g (opposite b) (opposite d) g c3 (inl refl) (inl refl) (inr (up b p)) (⊎_elim inl (λ o. inr (up d o)) q)

  low_4 : P g → P (opposite a) → P b
  low_4 p q = from3 (opposite g) a b b c4 (inr (inr (inl refl))) (inr (up g p)) (inr q) (inl refl)

  low_5 : P g → P (opposite a) → P d
  low_5 p q = from3 (opposite g) a d d c5 (inr (inr (inl refl))) (inr (up g p)) (inr q) (inl refl)

  low_5' : P g → P (opposite d) → P a
  low_5' p q = from3 (opposite g) a d a c5 (inr (inl refl)) (inr (up g p)) (inl refl) (inr q)

  low_6 : P g → P (opposite b) → P d
  low_6 p q = from3 (opposite g) b d d c6 (inr (inr (inl refl))) (inr (up g p)) (inr q) (inl refl)

  low_6' : P g → P (opposite d) → P b
  low_6' p q = from3 (opposite g) b d b c6 (inr (inl refl)) (inr (up g p)) (inl refl) (inr q)

  none_4 : P (opposite a) → P (opposite b) → P (opposite g)
  none_4 p q = from3 (opposite g) a b (opposite g) c4 (inl refl) (inl refl) (inr p) (inr q)

  none_5 : P (opposite a) → (d ≡ opposite g) ⊎ P (opposite d) → P (opposite g)
  none_5 p q = from3 (opposite g) a d (opposite g) c5 (inl refl) (inl refl) (inr p) q

  none_6 : P (opposite b) → (d ≡ opposite g) ⊎ P (opposite d) → P (opposite g)
  none_6 p q = from3 (opposite g) b d (opposite g) c6 (inl refl) (inl refl) (inr p) q

  -- what makes the exclusive or true, and what makes it false
  abbrev Apart : Type 0
  Apart = (P a × P (opposite b)) ⊎ ((P (opposite a) × P b) ⊎ ((P g × P (opposite a)) ⊎ (P (opposite g) × P a)))

  abbrev Alike : Type 0
  Alike = (P a × P b) ⊎ ((P (opposite a) × P (opposite b)) ⊎ ((P g × P (opposite d)) ⊎ (P (opposite g) × P d)))

  -- one literal of two is true as soon as the other is false
  abbrev One : Lit → Lit → Type 0
  One p q = (P (opposite p) → P q) × (P (opposite q) → P p) × (p ≡ q → P p)

  either : (p q : Lit) → P p ⊎ P q → One p q
  either p q h = (λ n. ⊎_elim (λ o. absurd (apart p o n)) (λ o. o) h, λ n. ⊎_elim (λ o. o) (λ o. absurd (apart q o n)) h, λ e. ⊎_elim (λ o. o) (λ o. subst P (sym e) o) h)

  four : {X : Type 0} {A B C D : Type 0} → (A → X) → (B → X) → (C → X) → (D → X) → A ⊎ (B ⊎ (C ⊎ D)) → X
  four f h k l c = ⊎_elim f (λ r. ⊎_elim h (λ s. ⊎_elim k l s) r) c

  apart_some : Apart → P a ⊎ P b
  apart_some c = four (λ o. inl o.0) (λ o. inr o.1) (λ o. inr (low_4 o.0 o.1)) (λ o. inl o.1) c

  apart_not : Apart → P (opposite a) ⊎ P (opposite b)
  apart_not c = four (λ o. inr o.1) (λ o. inl o.0) (λ o. inl o.1) (λ o. inr (high_1 o.0 o.1)) c

  apart_third : Apart → One (opposite g) d
  apart_third c = (
    λ n. let p : P g = subst P (opposite_twice g) n in four (λ o. low_6 p o.1) (λ o. low_5 p o.0) (λ o. low_5 p o.1) (λ o. absurd (apart g p o.0)) c,
    λ n. four (λ o. none_6 o.1 (inr n)) (λ o. none_5 o.0 (inr n)) (λ o. none_5 o.1 (inr n)) (λ o. o.0) c,
    λ e. four (λ o. none_6 o.1 (inl (sym e))) (λ o. none_5 o.0 (inl (sym e))) (λ o. none_5 o.1 (inl (sym e))) (λ o. o.0) c,
  )

  apart_not_third : Apart → One g (opposite d)
  apart_not_third c = (
    λ n. four (λ o. high_2 n o.0) (λ o. high_3 n o.1) (λ o. absurd (apart g o.0 n)) (λ o. high_2 n o.1) c,
    λ n. let p : P d = subst P (opposite_twice d) n in four (λ o. gate_2 o.0 (inr p)) (λ o. gate_3 o.1 (inr p)) (λ o. o.0) (λ o. gate_2 o.1 (inr p)) c,
    λ e. four (λ o. gate_2 o.0 (inl (sym e))) (λ o. gate_3 o.1 (inl (sym e))) (λ o. o.0) (λ o. gate_2 o.1 (inl (sym e))) c,
  )

  alike_up : Alike → P (opposite a) ⊎ P b
  alike_up c = four (λ o. inr o.1) (λ o. inl o.0) (λ o. inr (low_6' o.0 o.1)) (λ o. inl (high_2' o.0 o.1)) c

  alike_down : Alike → P a ⊎ P (opposite b)
  alike_down c = four (λ o. inl o.0) (λ o. inr o.1) (λ o. inl (low_5' o.0 o.1)) (λ o. inr (high_3' o.0 o.1)) c

  alike_first : Alike → P (opposite g) ⊎ P a
  alike_first c = four (λ o. inr o.0) (λ o. inl (none_4 o.0 o.1)) (λ o. inr (low_5' o.0 o.1)) (λ o. inl o.0) c

  alike_not_first : Alike → P g ⊎ P (opposite a)
  alike_not_first c = four (λ o. inl (gate_1 o.0 o.1)) (λ o. inr o.0) (λ o. inl o.0) (λ o. inr (high_2' o.0 o.1)) c

  not_both : Apart → Alike → ⊥
  not_both c k =
      four
      (λ o. ⊎_elim (apart_back a o.0) (λ q. apart b q o.1) (alike_up k))
      (λ o. ⊎_elim (λ q. apart a q o.0) (apart_back b o.1) (alike_down k))
      (λ o. ⊎_elim (apart_back g o.0) (λ q. apart a q o.1) (alike_first k))
      (λ o. ⊎_elim (λ q. apart g q o.0) (apart_back a o.1) (alike_not_first k))
      c
    where
      apart_back : (m : Lit) → P m → P (opposite m) → ⊥
      apart_back m p q = calm (inl (m, p, q))

  -- the literals that are true, with those of the exclusive or
  abbrev Told : Lit → Type 0
  Told m = P m ⊎ (((m ≡ of_var x) × Apart) ⊎ ((m ≡ opposite (of_var x)) × Alike))

  told_low : (m : Lit) → m.var < x → Told m → P m
  told_low m h t = ⊎_elim (λ p. p) (λ r. ⊎_elim (λ e. absurd (same m (of_var x) e.0 h)) (λ e. absurd (same m (opposite (of_var x)) e.0 h)) r) t
    where
      same : (m n : Lit) → m ≡ n → m.var < n.var → ⊥
      same m n e h = omega (arith, ap (λ (l : Lit). l.var) e, h)

  told_apart : Told (of_var x) → Apart
  told_apart t = ⊎_elim (λ p. absurd (omega (arith, low (of_var x) p))) (λ r. ⊎_elim (λ e. e.1) (λ e. absurd (cc (ap (λ (l : Lit). l.positive) e.0))) r) t

  told_alike : Told (opposite (of_var x)) → Alike
  told_alike t = ⊎_elim (λ p. absurd (omega (arith, low (opposite (of_var x)) p))) (λ r. ⊎_elim (λ e. absurd (cc (ap (λ (l : Lit). l.positive) e.0))) (λ e. e.1) r) t

  not_told : (m : Lit) → Told m → Told (opposite m) → ⊥
  not_told m t u =
      ⊎_elim
      (λ p. apart m p (told_low (opposite m) (low m p) u))
      (λ r. ⊎_elim
      (λ e. not_both e.1 (told_alike (subst (λ n. Told (opposite n)) e.0 u)))
      (λ e. not_both (told_apart (subst (λ n. Told (opposite n)) e.0 u)) e.1)
      r)
      t

  -- a clause of the new variable and two older literals
  abbrev Row : Lit → Lit → Lit → Type 0
  Row y p q = (y.var ≡ x) × (p.var < x) × (q.var < x) × (Told (opposite y) → One p q) × (P (opposite p) → P (opposite q) → Told y)

  row_lifts : (y p q m : Lit) → Row y p q → In m (y ∷ p ∷ q ∷ []) → ((n : Lit) → In n (y ∷ p ∷ q ∷ []) → (n ≡ m → ⊥) → Told (opposite n)) → Told m
  row_lifts y p q m (new, hp, hq, one, make) i h =
      ⊎_elim
      (λ (e : y ≡ m). subst Told e (make (of p hp (inr (inl refl)) (other p hp e)) (of q hq (inr (inr (inl refl))) (other q hq e))))
      (λ n. let r = one (h y (inl refl) n) in
      ⊎_elim
      (λ (ep : p ≡ m). inl (subst P ep (⊎_elim
      (λ (eq : q ≡ m). r.2 (ep ∙ sym eq))
      (λ nq. r.1 (of q hq (inr (inr (inl refl))) nq))
      (lit_cases q m))))
      (λ np. ⊎_elim
      (λ (eq : q ≡ m). inl (subst P eq (r.0 (of p hp (inr (inl refl)) np))))
      (λ nq. absurd (none np nq n))
      (lit_cases q m))
      (lit_cases p m))
      (lit_cases y m)
    where
      of : (n : Lit) → n.var < x → In n (y ∷ p ∷ q ∷ []) → (n ≡ m → ⊥) → P (opposite n)
      of n below k d = told_low (opposite n) below (h n k d)

      other : (n : Lit) → n.var < x → y ≡ m → n ≡ m → ⊥
      other n below e f = omega (arith, below, new, ap (λ (l : Lit). l.var) (e ∙ sym f))

      none : (p ≡ m → ⊥) → (q ≡ m → ⊥) → (y ≡ m → ⊥) → ⊥
      none np nq ny = ⊎_elim ny (λ j. ⊎_elim np (λ k. ⊎_elim nq (λ f. f) k) j) i

  row_calm : (y p q : Lit) → Row y p q → ((n : Lit) → In n (y ∷ p ∷ q ∷ []) → Told (opposite n)) → ⊥
  row_calm y p q (new, hp, hq, one, make) h =
      let no_p : P (opposite p) = told_low (opposite p) hp (h p (inr (inl refl))) in
      let no_q : P (opposite q) = told_low (opposite q) hq (h q (inr (inr (inl refl)))) in
      apart q ((one (h y (inl refl))).0 no_p) no_q

  va : a.var < x
  va = below (opposite g ∷ a ∷ b ∷ []) c4 a (inr (inl refl))

  vb : b.var < x
  vb = below (opposite g ∷ a ∷ b ∷ []) c4 b (inr (inr (inl refl)))

  vd : d.var < x
  vd = below (opposite g ∷ a ∷ d ∷ []) c5 d (inr (inr (inl refl)))

  vg : g.var < x
  vg = below (g ∷ opposite a ∷ opposite b ∷ []) c1 g (inl refl)

  down : (m : Lit) → P (opposite (opposite m)) → P m
  down m p = subst P (opposite_twice m) p

  -- each clause of the two nodes is such a row
  abbrev IsRow : List Lit → Type 0
  IsRow k = (y : Lit) × (p : Lit) × (q : Lit) × Row y p q × ((y ∷ p ∷ q ∷ []) ≡ k)

  rows : (k : List Lit) → Listed (named_clauses x g a b d) k → IsRow k
  rows k (zero, at) = (opposite (of_var x), a, b, (refl, va, vb, (λ t. either a b (apart_some (told_apart t))), (λ s t. inr (inr (refl, inr (inl (s, t)))))), same_Some (opposite (of_var x) ∷ a ∷ b ∷ []) k at)
  rows k (suc zero, at) = (opposite (of_var x), opposite a, opposite b, (refl, va, vb, (λ t. either (opposite a) (opposite b) (apart_not (told_apart t))), (λ s t. inr (inr (refl, inl (down a s, down b t))))), same_Some (opposite (of_var x) ∷ opposite a ∷ opposite b ∷ []) k at)
  rows k (suc (suc zero), at) = (of_var x, opposite a, b, (refl, va, vb, (λ t. either (opposite a) b (alike_up (told_alike t))), (λ s t. inr (inl (refl, inl (down a s, t))))), same_Some (of_var x ∷ opposite a ∷ b ∷ []) k at)
  rows k (suc (suc (suc zero)), at) = (of_var x, a, opposite b, (refl, va, vb, (λ t. either a (opposite b) (alike_down (told_alike t))), (λ s t. inr (inl (refl, inr (inl (s, down b t)))))), same_Some (of_var x ∷ a ∷ opposite b ∷ []) k at)
  rows k (suc (suc (suc (suc zero))), at) = (opposite (of_var x), opposite g, d, (refl, vg, vd, (λ t. apart_third (told_apart t)), (λ s t. inr (inr (refl, inr (inr (inl (down g s, t))))))), same_Some (opposite (of_var x) ∷ opposite g ∷ d ∷ []) k at)
  rows k (suc (suc (suc (suc (suc zero)))), at) = (opposite (of_var x), g, opposite d, (refl, vg, vd, (λ t. apart_not_third (told_apart t)), (λ s t. inr (inr (refl, inr (inr (inr (s, down d t))))))), same_Some (opposite (of_var x) ∷ g ∷ opposite d ∷ []) k at)
  rows k (suc (suc (suc (suc (suc (suc zero))))), at) = (of_var x, opposite g, a, (refl, vg, va, (λ t. either (opposite g) a (alike_first (told_alike t))), (λ s t. inr (inl (refl, inr (inr (inl (down g s, t))))))), same_Some (of_var x ∷ opposite g ∷ a ∷ []) k at)
  rows k (suc (suc (suc (suc (suc (suc (suc zero)))))), at) = (of_var x, g, opposite a, (refl, vg, va, (λ t. either g (opposite a) (alike_not_first (told_alike t))), (λ s t. inr (inl (refl, inr (inr (inr (s, down a t))))))), same_Some (of_var x ∷ g ∷ opposite a ∷ []) k at)
  rows k (suc (suc (suc (suc (suc (suc (suc (suc i))))))), at) = absurd (cc at)

  row_told : (k : List Lit) (m : Lit) → IsRow k → In m k → ((n : Lit) → In n k → (n ≡ m → ⊥) → Told (opposite n)) → Told m
  row_told k m (y, p, q, row, e) i h = row_lifts y p q m row (subst (In m) (sym e) i) (λ n j d. h n (subst (In n) e j) d)

  row_quiet : (k : List Lit) → IsRow k → ((n : Lit) → In n k → Told (opposite n)) → ⊥
  row_quiet k (y, p, q, row, e) h = row_calm y p q row (λ n j. h n (subst (In n) e j))

  abbrev Strong : List Lit → Type 0
  Strong k = clauses k ⊎ Listed (named_clauses x g a b d) k

  -- what is reached over all these clauses
  lifts : (m : Lit) → Reached Strong start m → Told m
  lifts m (given n s) = inl (given n s)
  lifts m (unit k n h i others) =
      ⊎_elim
      (λ old. inl (unit k n old i (λ o j e. told_low (opposite o) (below k old o j) (lifts (opposite o) (others o j e)))))
      (λ new. row_told k n (rows k new) i (λ o j e. lifts (opposite o) (others o j e)))
      h

  pub reached_low : (m : Lit) → m.var < x → Reached Strong start m → Reached clauses start m
  reached_low m h r = told_low m h (lifts m r)

  pub stays_calm : Clash Strong start → ⊥
  stays_calm clash =
      ⊎_elim
      (λ t. not_told t.0 (lifts t.0 t.1) (lifts (opposite t.0) t.2))
      (λ t. ⊎_elim
      (λ old. calm (inr (t.0, old, (λ o j. told_low (opposite o) (below t.0 old o j) (lifts (opposite o) (t.2 o j))))))
      (λ new. row_quiet t.0 (rows t.0 new) (λ o j. lifts (opposite o) (t.2 o j)))
      t.1)
      clash

-- more clauses reach more
reached_more : (strong weak : List Lit → Type 0) (start : Lit → Type 0) → ((k : List Lit) → weak k → strong k) → (m : Lit) → Reached weak start m → Reached strong start m
reached_more strong weak start inside m (given n s) = given n s
reached_more strong weak start inside m (unit k n h i others) = unit k n (inside k h) i (λ o j e. reached_more strong weak start inside (opposite o) (others o j e))

-- what is new over more clauses is new over fewer
new_fewer : (strong weak : List Lit → Type 0) (c : List Lit) → ((k : List Lit) → weak k → strong k) → New strong c → New weak c
new_fewer strong weak c inside (l, i, calm, reaches, misses) = (
  l,
  i,
  (λ clash. calm (⊎_elim
      (λ t. inl (t.0, reached_more strong weak (Others c l) inside t.0 t.1, reached_more strong weak (Others c l) inside (opposite t.0) t.2))
      (λ t. inr (t.0, inside t.0 t.1, (λ m j. reached_more strong weak (Others c l) inside (opposite m) (t.2 m j))))
      clash)),
  (λ r. reaches (reached_more strong weak (Others c l) inside l r)),
  (λ r. misses (reached_more strong weak (Others c l) inside (opposite l) r)),
)

-- a clause that is new over the six clauses is new over those of the two nodes as well
pub named_new : (clauses : List Lit → Type 0) (c : List Lit) (x : ℕ) (g a b d : Lit) → ((k : List Lit) → clauses k → (m : Lit) → In m k → m.var < x) → AllBelow x c
    → ((k : List Lit) → Listed (majority_clauses g a b d) k → clauses k) → New clauses c → New (λ k. clauses k ⊎ Listed (named_clauses x g a b d) k) c
named_new clauses c x g a b d below small there (l, i, calm, reaches, misses) =
    let first : (m : Lit) → Others c l m → m.var < x = λ m o. subst (λ (n : Lit). n.var < x) (sym o.3) (small o.0 o.1) in (
      l,
      i,
      stays_calm clauses (Others c l) x g a b d below first there calm,
      (λ r. reaches (reached_low clauses (Others c l) x g a b d below first there calm l (small l i) r)),
      (λ r. misses (reached_low clauses (Others c l) x g a b d below first there calm (opposite l) (small l i) r)),
    )

pub majority_named : (x : ℕ) (clauses earlier : List (List Lit)) (assumed c : List Lit) (g a b d : Lit) → AllKnown x clauses → AllKnown x earlier → AllBelow x assumed → AllBelow x c
    → ((k : List Lit) → Listed (majority_clauses g a b d) k → Listed clauses k) → New (Known (Listed clauses) assumed earlier) c
    → New (Known (Listed (clauses ++ named_clauses x g a b d)) assumed earlier) c
majority_named x clauses earlier assumed c g a b d known old small low there new =
    new_fewer (λ k. Known (Listed clauses) assumed earlier k ⊎ Listed (named_clauses x g a b d) k) (Known (Listed (clauses ++ named_clauses x g a b d)) assumed earlier) c
    (λ k h. ⊎_elim
    (λ t. ⊎_elim
    (λ j. ⊎_elim (λ o. inl (inl (inl o))) (λ o. inr o) (get_after clauses (named_clauses x g a b d) j.0 k j.1))
    (λ o. inl (inl (inr o)))
    t)
    (λ o. inl (inr o))
    h)
    (named_new (Known (Listed clauses) assumed earlier) c x g a b d
    (λ k h m i. ⊎_elim
    (λ t. ⊎_elim (λ j. known j.0 k m j.1 i) (λ u. unit_low k m u i) t)
    (λ j. old j.0 k m j.1 i)
    h)
    low (λ k j. inl (inl (there k j))) new)
  where
    unit_low : (k : List Lit) (m : Lit) → Units assumed k → In m k → m.var < x
    unit_low k m (u, inside, e) i = ⊎_elim (λ (f : u ≡ m). subst (λ (n : Lit). n.var < x) f (small u inside)) (λ j. absurd j) (subst (In m) e i)
