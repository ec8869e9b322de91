-- A column is brought to its place by exchanges with its neighbours.
use Rattle.std.proofs.Common.{◌≡◌, ℕ, zero, suc, ◌+◌, ◌<◌, ◌≤◌, true, false, List, [], ◌∷◌, length, get_or, set, map, refl, sym, ap, ◌∙◌, subst, arith}
use Rattle.std.specs.List.{swap}
use native.Mathlib.Decide.{ℕ_discrete}
use Rattle.rationals.specs.Rational.{ℚ}
use Rattle.simplex_logic.specs.Tables.{Tabled, Sorted, is_column}
use Rattle.simplex_logic.specs.Vectors.{flip}
use Rattle.simplex_logic.proofs.Bland.{less, same, more, compare}
use Rattle.simplex_logic.proofs.Grow.{length-flip, flip_tabled}
use Rattle.simplex_logic.proofs.Operands.{is_column-flip}
use Rattle.simplex_logic.proofs.Going.{in_column}
use Rattle.simplex_logic.proofs.Pivot.{tabled_alike, get_set_ℕ, get_here_ℕ}
use Rattle.simplex_logic.proofs.Table.{length_set_ℕ}
use Rattle.simplex_table.specs.View.{row_at}
use Rattle.simplex_table.specs.Columns.{Reordered, RisesBut, RisesFrom, HaveLength}
use Rattle.simplex_table.proofs.Entries.{flip-swap}
use Rattle.simplex_table.proofs.Firsts.{length-map, get_mapped, HaveLength-map}

-- ---- the columns after an exchange
flip_here : (k : ℕ) (cs : List ℕ) → suc k < length cs → get_or (flip k cs) k 0 ≡ get_or cs (suc k) 0
flip_here k [] h = absurd (omega arith)
flip_here zero (a ∷ []) h = absurd (omega arith)
flip_here zero (a ∷ b ∷ cs) h = refl
flip_here (suc k) (c ∷ cs) h = flip_here k cs (omega arith)

flip_next : (k : ℕ) (cs : List ℕ) → suc k < length cs → get_or (flip k cs) (suc k) 0 ≡ get_or cs k 0
flip_next k [] h = absurd (omega arith)
flip_next zero (a ∷ []) h = absurd (omega arith)
flip_next zero (a ∷ b ∷ cs) h = refl
flip_next (suc k) (c ∷ cs) h = flip_next k cs (omega arith)

flip_else : (k i : ℕ) (cs : List ℕ) → (i ≡ k → ⊥) → (i ≡ suc k → ⊥) → get_or (flip k cs) i 0 ≡ get_or cs i 0
flip_else zero i [] h g = refl
flip_else zero i (a ∷ []) h g = refl
flip_else zero zero (a ∷ b ∷ cs) h g = absurd (h refl)
flip_else zero (suc zero) (a ∷ b ∷ cs) h g = absurd (g refl)
flip_else zero (suc (suc i)) (a ∷ b ∷ cs) h g = refl
flip_else (suc k) i [] h g = refl
flip_else (suc k) zero (c ∷ cs) h g = refl
flip_else (suc k) (suc i) (c ∷ cs) h g = flip_else k i cs (λ e. h (ap suc e)) (λ e. g (ap suc e))

apart : (m n : ℕ) → m < n → m ≡ n → ⊥
apart m n h e = omega arith

not_next : (k : ℕ) → suc k ≡ k → ⊥
not_next k e = omega arith

not_same : (k : ℕ) → k ≡ suc k → ⊥
not_same k e = omega arith

lesser : (a b c d : ℕ) → c ≡ a → d ≡ b → a < b → c < d
lesser a b c d e f h = omega arith

-- the odd one goes one place up
module _ (k : ℕ) (cs : List ℕ) (h : suc k < length cs) where
  up_others : RisesBut k cs → (i l : ℕ) → i < l → l < length (flip k cs) → (i ≡ suc k → ⊥) → (l ≡ suc k → ⊥) → Dec (i ≡ k) → Dec (l ≡ k) → get_or (flip k cs) i 0 < get_or (flip k cs) l 0
  up_others r i l p q a b (yes e) (yes f) = absurd (omega arith)
  up_others r i l p q a b (yes e) (no f) =
      let n = length-flip k cs in
      lesser (get_or cs (suc k) 0) (get_or cs l 0) (get_or (flip k cs) i 0) (get_or (flip k cs) l 0) (ap (λ x. get_or (flip k cs) x 0) e ∙ flip_here k cs h) (flip_else k l cs f b)
      (r.others (suc k) l (above l (λ x. b x) (subst (λ x. x < l) e p)) (subst (λ x. l < x) n q) (not_next k) f)
    where
      above : (l : ℕ) → (l ≡ suc k → ⊥) → k < l → suc k < l
      above l b p = elim (compare (suc k) l) [ less x ↦ x | same x ↦ absurd (b (sym x)) | more x ↦ absurd (omega arith) ]
  up_others r i l p q a b (no e) (yes f) =
      lesser (get_or cs i 0) (get_or cs (suc k) 0) (get_or (flip k cs) i 0) (get_or (flip k cs) l 0) (flip_else k i cs e a) (ap (λ x. get_or (flip k cs) x 0) f ∙ flip_here k cs h)
      (r.others i (suc k) (under (subst (λ x. i < x) f p)) h e (not_next k))
    where
      under : i < k → i < suc k
      under p = omega arith
  up_others r i l p q a b (no e) (no f) =
      lesser (get_or cs i 0) (get_or cs l 0) (get_or (flip k cs) i 0) (get_or (flip k cs) l 0) (flip_else k i cs e a) (flip_else k l cs f b)
      (r.others i l p (subst (λ x. l < x) (length-flip k cs) q) e f)

  up_apart : RisesBut k cs → (i : ℕ) → i < length (flip k cs) → (i ≡ suc k → ⊥) → Dec (i ≡ k) → get_or (flip k cs) i 0 ≡ get_or (flip k cs) (suc k) 0 → ⊥
  up_apart r i q a (yes e) g = r.apart (suc k) h (not_next k) (sym (ap (λ x. get_or (flip k cs) x 0) e ∙ flip_here k cs h) ∙ g ∙ flip_next k cs h)
  up_apart r i q a (no e) g = r.apart i (subst (λ x. i < x) (length-flip k cs) q) e (sym (flip_else k i cs e a) ∙ g ∙ flip_next k cs h)

  pub rises_up : RisesBut k cs → RisesBut (suc k) (flip k cs)
  rises_up r = record {
    inside = subst (λ n. suc k < n) (sym (length-flip k cs)) h;
    others = λ i l p q a b. up_others r i l p q a b (ℕ_discrete i k) (ℕ_discrete l k);
    apart = λ i q a. up_apart r i q a (ℕ_discrete i k);
  }

  down_others : RisesBut (suc k) cs → (i l : ℕ) → i < l → l < length (flip k cs) → (i ≡ k → ⊥) → (l ≡ k → ⊥) → Dec (i ≡ suc k) → Dec (l ≡ suc k) → get_or (flip k cs) i 0 < get_or (flip k cs) l 0
  down_others r i l p q a b (yes e) (yes f) = absurd (omega arith)
  down_others r i l p q a b (yes e) (no f) =
      lesser (get_or cs k 0) (get_or cs l 0) (get_or (flip k cs) i 0) (get_or (flip k cs) l 0) (ap (λ x. get_or (flip k cs) x 0) e ∙ flip_next k cs h) (flip_else k l cs b f)
      (r.others k l (above (subst (λ x. x < l) e p)) (subst (λ x. l < x) (length-flip k cs) q) (not_same k) f)
    where
      above : suc k < l → k < l
      above p = omega arith
  down_others r i l p q a b (no e) (yes f) =
      lesser (get_or cs i 0) (get_or cs k 0) (get_or (flip k cs) i 0) (get_or (flip k cs) l 0) (flip_else k i cs a e) (ap (λ x. get_or (flip k cs) x 0) f ∙ flip_next k cs h)
      (r.others i k (under i a (subst (λ x. i < x) f p)) (omega arith) e (not_same k))
    where
      under : (i : ℕ) → (i ≡ k → ⊥) → i < suc k → i < k
      under i a p = elim (compare i k) [ less x ↦ x | same x ↦ absurd (a x) | more x ↦ absurd (omega arith) ]
  down_others r i l p q a b (no e) (no f) =
      lesser (get_or cs i 0) (get_or cs l 0) (get_or (flip k cs) i 0) (get_or (flip k cs) l 0) (flip_else k i cs a e) (flip_else k l cs b f)
      (r.others i l p (subst (λ x. l < x) (length-flip k cs) q) e f)

  down_apart : RisesBut (suc k) cs → (i : ℕ) → i < length (flip k cs) → (i ≡ k → ⊥) → Dec (i ≡ suc k) → get_or (flip k cs) i 0 ≡ get_or (flip k cs) k 0 → ⊥
  down_apart r i q a (yes e) g = r.apart k (omega arith) (not_same k) (sym (ap (λ x. get_or (flip k cs) x 0) e ∙ flip_next k cs h) ∙ g ∙ flip_here k cs h)
  down_apart r i q a (no e) g = r.apart i (subst (λ x. i < x) (length-flip k cs) q) e (sym (flip_else k i cs a e) ∙ g ∙ flip_here k cs h)

  down_above : RisesFrom (suc k) cs → get_or cs (suc k) 0 < get_or cs k 0 → (l : ℕ) → k < l → l < length (flip k cs) → Dec (l ≡ suc k) → get_or (flip k cs) k 0 < get_or (flip k cs) l 0
  down_above r t l p q (yes e) = lesser (get_or cs (suc k) 0) (get_or cs k 0) (get_or (flip k cs) k 0) (get_or (flip k cs) l 0) (flip_here k cs h) (ap (λ x. get_or (flip k cs) x 0) e ∙ flip_next k cs h) t
  down_above r t l p q (no e) =
      lesser (get_or cs (suc k) 0) (get_or cs l 0) (get_or (flip k cs) k 0) (get_or (flip k cs) l 0) (flip_here k cs h) (flip_else k l cs (λ x. apart k l p (sym x)) e)
      (r.above l (beyond l e p) (subst (λ x. l < x) (length-flip k cs) q))
    where
      beyond : (l : ℕ) → (l ≡ suc k → ⊥) → k < l → suc k < l
      beyond l b p = elim (compare (suc k) l) [ less x ↦ x | same x ↦ absurd (b (sym x)) | more x ↦ absurd (omega arith) ]

  pub rises_down : RisesFrom (suc k) cs → get_or cs (suc k) 0 < get_or cs k 0 → RisesFrom k (flip k cs)
  rises_down r t = record {
    but = record {
      inside = subst (λ n. k < n) (sym (length-flip k cs)) (omega arith);
      others = λ i l p q a b. down_others r.but i l p q a b (ℕ_discrete i (suc k)) (ℕ_discrete l (suc k));
      apart = λ i q a. down_apart r.but i q a (ℕ_discrete i (suc k));
    };
    above = λ l p q. down_above r t l p q (ℕ_discrete l (suc k));
  }

-- ---- where it stops
below : (a b : ℕ) → a ≤ b → (b ≡ a → ⊥) → a < b
below a b h d = elim (compare a b) [ less x ↦ x | same x ↦ absurd (d (sym x)) | more x ↦ absurd (omega arith) ]

-- it is below its next one, so below all that follow
pub rises_from : (k : ℕ) (cs : List ℕ) → RisesBut k cs → (k + 1 < length cs → get_or cs k 0 ≤ get_or cs (k + 1) 0) → RisesFrom k cs
rises_from k cs r h = record { but = r; above = λ l p q. over l p q (ℕ_discrete (k + 1) l) }
  where
    next : (l : ℕ) → k < l → l < length cs → get_or cs k 0 < get_or cs (k + 1) 0
    next l p q = below (get_or cs k 0) (get_or cs (k + 1) 0) (h (omega arith)) (r.apart (k + 1) (omega arith) (plus k))
      where
        plus : (k : ℕ) → k + 1 ≡ k → ⊥
        plus k e = omega arith

    over : (l : ℕ) → k < l → l < length cs → Dec (k + 1 ≡ l) → get_or cs k 0 < get_or cs l 0
    over l p q (yes e) = subst (λ x. get_or cs k 0 < get_or cs x 0) e (next l p q)
    over l p q (no d) = let a = next l p q in let b = r.others (k + 1) l (below (k + 1) l (omega arith) (λ e. d (sym e))) q (plus k) (λ e. apart k l p (sym e)) in omega arith
      where
        plus : (k : ℕ) → k + 1 ≡ k → ⊥
        plus k e = omega arith

-- and above the one before it, so above all that precede
pub rises_all : (k : ℕ) (cs : List ℕ) → RisesFrom k cs → ((m : ℕ) → k ≡ suc m → get_or cs m 0 ≤ get_or cs k 0) → Sorted cs
rises_all k cs r h i l p q = by_place (ℕ_discrete i k) (ℕ_discrete l k)
  where
    before : (m : ℕ) → k ≡ suc m → i < k → Dec (i ≡ m) → get_or cs i 0 < get_or cs k 0
    before m e u (yes f) = subst (λ x. get_or cs x 0 < get_or cs k 0) (sym f) (below (get_or cs m 0) (get_or cs k 0) (h m e) (λ g. r.but.apart m (inner m e) (outer m e) (sym g)))
      where
        inner : (m : ℕ) → k ≡ suc m → m < length cs
        inner m e = let z = r.but.inside in omega arith

        outer : (m : ℕ) → k ≡ suc m → m ≡ k → ⊥
        outer m e f = omega arith
    before m e u (no d) =
        let z = r.but.inside in
        let a = r.but.others i m (below i m (omega arith) (λ g. d (sym g))) (omega arith) (apart i k u) (outer m e) in let b = h m e in omega arith
      where
        outer : (m : ℕ) → k ≡ suc m → m ≡ k → ⊥
        outer m e f = omega arith

    under : (k : ℕ) → i < k → (m : ℕ) × (k ≡ suc m)
    under zero u = absurd (omega arith)
    under (suc m) u = (m, refl)

    by_place : Dec (i ≡ k) → Dec (l ≡ k) → get_or cs i 0 < get_or cs l 0
    by_place (yes e) d = subst (λ x. get_or cs x 0 < get_or cs l 0) (sym e) (r.above l (subst (λ x. x < l) e p) q)
    by_place (no d) (yes e) = let u = subst (λ x. i < x) e p in let m = under k u in subst (λ x. get_or cs i 0 < get_or cs x 0) (sym e) (before m.0 m.1 u (ℕ_discrete i m.0))
    by_place (no d) (no e) = r.but.others i l p q d e

-- ---- where it starts: a variable that is no column takes a place
pub rises_set : (cs : List ℕ) (j s : ℕ) → Sorted cs → is_column cs s ≡ false → j < length cs → RisesBut j (set cs j s)
rises_set cs j s o c h = let n = length_set_ℕ cs j s in record {
  inside = subst (λ x. j < x) (sym n) h;
  others = λ i l p q a b. lesser (get_or cs i 0) (get_or cs l 0) (get_or (set cs j s) i 0) (get_or (set cs j s) l 0) (get_set_ℕ cs j i s (λ e. a (sym e))) (get_set_ℕ cs j l s (λ e. b (sym e))) (o i l p (subst (λ x. l < x) n q));
  apart = λ i p a e. no_false (sym c ∙ in_column cs i s (subst (λ x. i < x) n p) (sym (get_set_ℕ cs j i s (λ e. a (sym e))) ∙ e ∙ get_here_ℕ cs j s h));
}
  where
    no_false : false ≡ true → ⊥
    no_false e = cc

-- ---- what stays
pub reordered_none : (cols : List ℕ) (bs : List (List ℚ)) → Reordered cols bs cols bs
reordered_none cols bs = record { tabled = λ rows t. t; members = λ x. refl; columns = refl; rows = refl }

pub reordered_both : (cols cols' cols'' : List ℕ) (bs bs' bs'' : List (List ℚ)) → Reordered cols bs cols' bs' → Reordered cols' bs' cols'' bs'' → Reordered cols bs cols'' bs''
reordered_both cols cols' cols'' bs bs' bs'' r q = record {
  tabled = λ rows t. subst (λ n. Tabled rows n cols'' (row_at bs'')) r.rows (q.tabled rows (subst (λ n. Tabled rows n cols' (row_at bs')) (sym r.rows) (r.tabled rows t)));
  members = λ x. q.members x ∙ r.members x;
  columns = q.columns ∙ r.columns;
  rows = q.rows ∙ r.rows;
}

pub reordered_flip : (k : ℕ) (cols cols' : List ℕ) (bs bs' : List (List ℚ)) → Reordered cols bs cols' bs' → Reordered cols bs (flip k cols') (map (flip k) bs')
reordered_flip k cols cols' bs bs' r = record {
  tabled = λ rows t.
      tabled_alike rows rows (length bs) (flip k cols') (λ v. flip k (row_at bs' v)) (row_at (map (flip k) bs')) (flip_tabled rows (length bs) cols' (row_at bs') (r.tabled rows t) k) (λ v. refl)
      (λ v h. get_mapped (flip k) bs' v (subst (λ n. v < n) (sym r.rows) h));
  members = λ x. is_column-flip k cols' x ∙ r.members x;
  columns = length-flip k cols' ∙ r.columns;
  rows = length-map (flip k) bs' ∙ r.rows;
}

pub HaveLength-flip : (k n : ℕ) (cols : List ℕ) (bs : List (List ℚ)) → HaveLength n bs → length cols ≡ n → HaveLength (length (flip k cols)) (map (flip k) bs)
HaveLength-flip k n cols bs h e = HaveLength-map (flip k) n (length (flip k cols)) bs h (λ b l. length-flip k b ∙ l ∙ sym e ∙ sym (length-flip k cols))

-- ---- one turn
swapped : (k : ℕ) (cols0 cols cols' : List ℕ) (bs0 bs bs' : List (List ℚ)) → k + 1 < length cols → cols' ≡ swap cols k (k + 1) → bs' ≡ map (flip k) bs → Reordered cols0 bs0 cols bs → HaveLength (length cols) bs
    → (cols' ≡ flip k cols) × Reordered cols0 bs0 cols' bs' × HaveLength (length cols') bs'
swapped k cols0 cols cols' bs0 bs bs' h e f r l =
    let g : cols' ≡ flip k cols = e ∙ flip-swap cols k h in (
      g,
      subst (λ x. Reordered cols0 bs0 x bs') (sym g) (subst (λ x. Reordered cols0 bs0 (flip k cols) x) (sym f) (reordered_flip k cols0 cols bs0 bs r)),
      subst (λ x. HaveLength (length x) bs') (sym g) (subst (λ x. HaveLength (length (flip k cols)) x) (sym f) (HaveLength-flip k (length cols) cols bs l refl)),
    )

suc_is : (k : ℕ) → suc k ≡ k + 1
suc_is k = omega arith

pub turn_up : (k : ℕ) (cols0 cols cols' : List ℕ) (bs0 bs bs' : List (List ℚ)) → k + 1 < length cols → cols' ≡ swap cols k (k + 1) → bs' ≡ map (flip k) bs → RisesBut k cols → Reordered cols0 bs0 cols bs → HaveLength (length cols) bs
    → RisesBut (k + 1) cols' × Reordered cols0 bs0 cols' bs' × HaveLength (length cols') bs'
turn_up k cols0 cols cols' bs0 bs bs' h e f a r l =
    let t = swapped k cols0 cols cols' bs0 bs bs' h e f r l in
    (subst (λ x. RisesBut (k + 1) x) (sym t.0) (subst (λ n. RisesBut n (flip k cols)) (suc_is k) (rises_up k cols (omega arith) a)), t.1, t.2)

pub turn_down : (p k : ℕ) (cols0 cols cols' : List ℕ) (bs0 bs bs' : List (List ℚ)) → p ≡ suc k → get_or cols p 0 < get_or cols k 0 → cols' ≡ swap cols k (k + 1) → bs' ≡ map (flip k) bs → RisesFrom p cols → Reordered cols0 bs0 cols bs
    → HaveLength (length cols) bs → RisesFrom k cols' × Reordered cols0 bs0 cols' bs' × HaveLength (length cols') bs'
turn_down p k cols0 cols cols' bs0 bs bs' q u e f a r l =
    let i = a.but.inside in
    let t = swapped k cols0 cols cols' bs0 bs bs' (omega arith) e f r l in
    (subst (λ x. RisesFrom k x) (sym t.0) (rises_down k cols (omega arith) (subst (λ n. RisesFrom n cols) q a) (subst (λ n. get_or cols n 0 < get_or cols k 0) q u)), t.1, t.2)
