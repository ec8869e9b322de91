-- Lists of values, by variable and by column.
use Rattle.std.proofs.Common.{◌≡◌, ℕ, zero, suc, ◌+◌, ◌<◌, List, [], ◌∷◌, ◌++◌, ◌⊎◌, inl, inr, length, get_or, set, take, refl, sym, ap, ◌∙◌, subst, arith}
use Rattle.std.proofs.lemmas.List.{take_more, length-append, get_or_append_left}
use Rattle.fraction128.specs.declared.infinitesimal.Delta.{Delta as Fractions}
use Rattle.simplex_table.specs.View.{delta_of, delta_at}
use Rattle.simplex_bounds.specs.declared.Range.{Range}
use Rattle.simplex_bounds.specs.Ranges.{range_at, InRange, Stands}
use Rattle.simplex_core.specs.Checking.{ArePoints, AreStarts}
use Rattle.simplex_core.proofs.ChoiceLemmas.{value_read, range_read}

-- ---- one value more
pub at-more : (vs : List Fractions) (d : Fractions) (k : ℕ) → k < length vs → delta_at (vs ++ d ∷ []) k ≡ delta_at vs k
at-more [] d k h = absurd (omega arith)
at-more (v ∷ vs) d zero h = refl
at-more (v ∷ vs) d (suc k) h = at-more vs d k (omega arith)

pub at-last : (vs : List Fractions) (d : Fractions) (k : ℕ) → k ≡ length vs → delta_at (vs ++ d ∷ []) k ≡ delta_of d
at-last [] d zero h = refl
at-last [] d (suc k) h = absurd (omega arith)
at-last (v ∷ vs) d zero h = absurd (omega arith)
at-last (v ∷ vs) d (suc k) h = at-last vs d k (omega arith)

-- ---- one value written
pub at-set_same : (vs : List Fractions) (i : ℕ) (d : Fractions) → i < length vs → delta_at (set vs i d) i ≡ delta_of d
at-set_same [] i d h = absurd (omega arith)
at-set_same (v ∷ vs) zero d h = refl
at-set_same (v ∷ vs) (suc i) d h = at-set_same vs i d (omega arith)

pub at-set_other : (vs : List Fractions) (i k : ℕ) (d : Fractions) → (k ≡ i → ⊥) → delta_at (set vs i d) k ≡ delta_at vs k
at-set_other [] i k d h = refl
at-set_other (v ∷ vs) zero zero d h = absurd (h refl)
at-set_other (v ∷ vs) zero (suc k) d h = refl
at-set_other (v ∷ vs) (suc i) zero d h = refl
at-set_other (v ∷ vs) (suc i) (suc k) d h = at-set_other vs i k d (λ e. h (ap suc e))

last_ℕ : (cs : List ℕ) (c k : ℕ) → k ≡ length cs → get_or (cs ++ c ∷ []) k 0 ≡ c
last_ℕ [] c zero h = refl
last_ℕ [] c (suc k) h = absurd (omega arith)
last_ℕ (d ∷ cs) c zero h = absurd (omega arith)
last_ℕ (d ∷ cs) c (suc k) h = last_ℕ cs c k (omega arith)

below_or_last : (k n : ℕ) → k < n + 1 → (k < n) ⊎ (k ≡ n)
below_or_last zero zero h = inr refl
below_or_last zero (suc n) h = inl (omega arith)
below_or_last (suc k) zero h = absurd (omega arith)
below_or_last (suc k) (suc n) h = elim (below_or_last k n (omega arith)) [ inl p ↦ inl (omega arith) | inr e ↦ inr (ap suc e) ]

longer : {A B : Type 0} (xs : List A) (a : A) (ys : List B) (b : B) → length xs ≡ length ys → length (xs ++ a ∷ []) ≡ length (ys ++ b ∷ [])
longer xs a ys b h = omega (arith, length-append xs (a ∷ []), length-append ys (b ∷ []))

-- ---- points
one_point : (cs : List ℕ) (values found : List Fractions) (c : ℕ) (d : Fractions) → delta_of d ≡ delta_at values c → ArePoints cs values found → ArePoints (cs ++ c ∷ []) values (found ++ d ∷ [])
one_point cs values found c d e h = record {
  long = longer found d cs c h.long;
  each = λ k p. elim (below_or_last k (length cs) (omega (arith, length-append cs (c ∷ [])))) [
    | inl q ↦ at-more found d k (omega (arith, h.long)) ∙ h.each k q ∙ ap (delta_at values) (sym (get_or_append_left cs (c ∷ []) 0 k q))
    | inr q ↦ at-last found d k (q ∙ sym h.long) ∙ e ∙ ap (delta_at values) (sym (last_ℕ cs c k q))
  ];
}

pub point_next : (i : ℕ) (cs : List ℕ) (values found found' : List Fractions) (d : Fractions) → i < length cs → get_or cs i 0 < length values → d ≡ get_or values (get_or cs i 0) d → found' ≡ found ++ d ∷ []
    → ArePoints (take i cs) values found → ArePoints (take (i + 1) cs) values found'
point_next i cs values found found' d h l e f g =
    subst (λ z. ArePoints (take (i + 1) cs) values z) (sym f)
    (subst (λ z. ArePoints z values (found ++ d ∷ [])) (sym (take_more cs i 0 h)) (one_point (take i cs) values found (get_or cs i 0) d (value_read values (get_or cs i 0) d l e) g))

-- ---- starts
one_start : (cs : List ℕ) (ranges : List Range) (found : List Fractions) (c : ℕ) (d : Fractions) → InRange (range_at ranges c) (delta_of d) → Stands (range_at ranges c) (delta_of d) → AreStarts cs ranges found
    → AreStarts (cs ++ c ∷ []) ranges (found ++ d ∷ [])
one_start cs ranges found c d r s h = record {
  long = longer found d cs c h.long;
  in_range = λ k p. elim (below_or_last k (length cs) (omega (arith, length-append cs (c ∷ [])))) [
    | inl q ↦ subst (λ x. InRange (range_at ranges x) (delta_at (found ++ d ∷ []) k)) (sym (get_or_append_left cs (c ∷ []) 0 k q)) (subst (λ v. InRange (range_at ranges (get_or cs k 0)) v) (sym (at-more found d k (omega (arith, h.long)))) (h.in_range k q))
    | inr q ↦ subst (λ x. InRange (range_at ranges x) (delta_at (found ++ d ∷ []) k)) (sym (last_ℕ cs c k q)) (subst (λ v. InRange (range_at ranges c) v) (sym (at-last found d k (q ∙ sym h.long))) r)
  ];
  stands = λ k p. elim (below_or_last k (length cs) (omega (arith, length-append cs (c ∷ [])))) [
    | inl q ↦ subst (λ x. Stands (range_at ranges x) (delta_at (found ++ d ∷ []) k)) (sym (get_or_append_left cs (c ∷ []) 0 k q)) (subst (λ v. Stands (range_at ranges (get_or cs k 0)) v) (sym (at-more found d k (omega (arith, h.long)))) (h.stands k q))
    | inr q ↦ subst (λ x. Stands (range_at ranges x) (delta_at (found ++ d ∷ []) k)) (sym (last_ℕ cs c k q)) (subst (λ v. Stands (range_at ranges c) v) (sym (at-last found d k (q ∙ sym h.long))) s)
  ];
}

pub start_next : (i : ℕ) (cs : List ℕ) (ranges : List Range) (found found' : List Fractions) (r : Range) (d : Fractions) → i < length cs → get_or cs i 0 < length ranges → r ≡ get_or ranges (get_or cs i 0) r → found' ≡ found ++ d ∷ []
    → InRange r (delta_of d) → Stands r (delta_of d) → AreStarts (take i cs) ranges found → AreStarts (take (i + 1) cs) ranges found'
start_next i cs ranges found found' r d h l e f a b g =
    let q = range_read ranges (get_or cs i 0) r l e in
    subst (λ z. AreStarts (take (i + 1) cs) ranges z) (sym f)
    (subst (λ z. AreStarts z ranges (found ++ d ∷ [])) (sym (take_more cs i 0 h))
    (one_start (take i cs) ranges found (get_or cs i 0) d (subst (λ z. InRange z (delta_of d)) q a) (subst (λ z. Stands z (delta_of d)) q b) g))
