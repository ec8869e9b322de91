-- Unit propagation along a chain of parities.
use Rattle.std.proofs.Common.{◌≡◌, ◌∙◌, Bool, true, false, not, List, [], ◌∷◌, ◌⊎◌, inl, inr, ⊎_elim, refl, sym, ap, subst}
use Rattle.y_tree.specs.Meaning.{is_odd}
use Rattle.clause_logic.specs.declared.Lit.{Lit}
use Rattle.clause_logic.specs.Clauses.{opposite, Listed}
use Rattle.node_encoding.specs.Shapes.{unless}
use Rattle.node_encoding.specs.Gates.{even_clauses, Has, IsChain, IsParity}
use Rattle.clause_logic.specs.Strength.{IsClosed}
use Rattle.clause_logic.proofs.Lits.{not_not}
use Rattle.node_encoding.proofs.Listing.{unless_opposite}
use Rattle.node_encoding.proofs.Parities.{odd_with, odd_cons, odd_listed}

-- the literal has the truth value
abbrev pub Valued : (Lit → Type 0) → Lit → Bool → Type 0
Valued P l b = P (unless (not b) l)

-- each literal has its truth value
abbrev pub AllValued : (Lit → Type 0) → List Lit → List Bool → Type 0
AllValued P [] [] = Unit {0}
AllValued P (l ∷ ls) (b ∷ bs) = Valued P l b × AllValued P ls bs
AllValued P [] (b ∷ bs) = ⊥
AllValued P (l ∷ ls) [] = ⊥

-- each has but one, whose other truth value is x
abbrev pub OneOpen : (Lit → Type 0) → Lit → List Lit → List Bool → Type 0
OneOpen P x [] bs = ⊥
OneOpen P x (l ∷ ls) [] = ⊥
OneOpen P x (l ∷ ls) (b ∷ bs) = ((unless b l ≡ x) × AllValued P ls bs) ⊎ (Valued P l b × OneOpen P x ls bs)

module _ (clauses : List (List Lit)) (P : Lit → Type 0) (closed : IsClosed (Listed clauses) P) where
  opposed : (b : Bool) (l : Lit) → Valued P l b → P (opposite (unless b l))
  opposed b l h = subst P (sym (unless_opposite b l)) h

  -- of three literals with an even number of true ones two tell the third
  module _ (r p a : Lit) (has : Has clauses (even_clauses (r ∷ p ∷ a ∷ []))) where
    clause : (x b c : Bool) → is_odd (x ∷ b ∷ c ∷ []) ≡ true → Listed clauses (unless x r ∷ unless b p ∷ unless c a ∷ [])
    clause x b c e = has _ (odd_listed [] (r ∷ p ∷ a ∷ []) false (x ∷ b ∷ c ∷ []) refl e)

    third : (x b c : Bool) → is_odd (x ∷ b ∷ c ∷ []) ≡ true → Valued P p b → Valued P a c → P (unless x r)
    third x b c e h k =
        closed.unit_of (unless x r ∷ unless b p ∷ unless c a ∷ []) (unless x r) (clause x b c e) (inl refl)
        (λ m i n. ⊎_elim (λ f. absurd (n (sym f))) (λ j. ⊎_elim (λ f. subst (λ z. P (opposite z)) f (opposed b p h)) (λ j. ⊎_elim (λ f. subst (λ z. P (opposite z)) f (opposed c a k)) (λ z. absurd z) j) j) i)

    second : (x b c : Bool) → is_odd (x ∷ b ∷ c ∷ []) ≡ true → Valued P r x → Valued P a c → P (unless b p)
    second x b c e h k =
        closed.unit_of (unless x r ∷ unless b p ∷ unless c a ∷ []) (unless b p) (clause x b c e) (inr (inl refl))
        (λ m i n. ⊎_elim (λ f. subst (λ z. P (opposite z)) f (opposed x r h)) (λ j. ⊎_elim (λ f. absurd (n (sym f))) (λ j. ⊎_elim (λ f. subst (λ z. P (opposite z)) f (opposed c a k)) (λ z. absurd z) j) j) i)

    first : (x b c : Bool) → is_odd (x ∷ b ∷ c ∷ []) ≡ true → Valued P r x → Valued P p b → P (unless c a)
    first x b c e h k =
        closed.unit_of (unless x r ∷ unless b p ∷ unless c a ∷ []) (unless c a) (clause x b c e) (inr (inr (inl refl)))
        (λ m i n. ⊎_elim (λ f. subst (λ z. P (opposite z)) f (opposed x r h)) (λ j. ⊎_elim (λ f. subst (λ z. P (opposite z)) f (opposed b p k)) (λ j. ⊎_elim (λ f. absurd (n (sym f))) (λ z. absurd z) j) j) i)

    sum_of : (b c : Bool) → Valued P p b → Valued P a c → Valued P r (odd_with b c)
    sum_of b c h k = third (not (odd_with b c)) b c (shown b c) h k
      where
        shown : (b c : Bool) → is_odd (not (odd_with b c) ∷ b ∷ c ∷ []) ≡ true
        shown true true = refl
        shown true false = refl
        shown false true = refl
        shown false false = refl

    before : (x c : Bool) → Valued P r x → Valued P a c → Valued P p (odd_with x c)
    before x c h k = second x (not (odd_with x c)) c (shown x c) h k
      where
        shown : (x c : Bool) → is_odd (x ∷ not (odd_with x c) ∷ c ∷ []) ≡ true
        shown true true = refl
        shown true false = refl
        shown false true = refl
        shown false false = refl

  -- the first and all arguments tell the last
  pub forward : (as_ : List Lit) (bs : List Bool) (p q : Lit) (b : Bool) → IsChain clauses p as_ q → Valued P p b → AllValued P as_ bs → Valued P q (odd_with b (is_odd bs))
  forward [] [] p q b e h all = subst (λ l. Valued P l (odd_with b false)) e (subst (Valued P p) (sym (alone b)) h)
    where
      alone : (b : Bool) → odd_with b false ≡ b
      alone true = refl
      alone false = refl
  forward [] (c ∷ bs) p q b e h all = absurd all
  forward (a ∷ as_) [] p q b e h all = absurd all
  forward (a ∷ as_) (c ∷ bs) p q b (r, has, rest) h all =
      subst (Valued P q) (shown b c bs) (forward as_ bs r q (odd_with b c) rest (sum_of r p a has b c h all.0) all.1)
    where
      shown : (b c : Bool) (bs : List Bool) → odd_with (odd_with b c) (is_odd bs) ≡ odd_with b (is_odd (c ∷ bs))
      shown true true bs = sym (not_not (is_odd bs))
      shown true false bs = refl
      shown false true bs = refl
      shown false false bs = refl

  -- the last and all arguments tell the first
  pub backward : (as_ : List Lit) (bs : List Bool) (p q : Lit) (d : Bool) → IsChain clauses p as_ q → Valued P q d → AllValued P as_ bs → Valued P p (odd_with d (is_odd bs))
  backward [] [] p q d e h all = subst (λ l. Valued P l (odd_with d false)) (sym e) (subst (Valued P q) (sym (alone d)) h)
    where
      alone : (b : Bool) → odd_with b false ≡ b
      alone true = refl
      alone false = refl
  backward [] (c ∷ bs) p q d e h all = absurd all
  backward (a ∷ as_) [] p q d e h all = absurd all
  backward (a ∷ as_) (c ∷ bs) p q d (r, has, rest) h all =
      subst (Valued P p) (shown d c (is_odd bs) ∙ ap (odd_with d) (sym (odd_cons c bs))) (before r p a has (odd_with d (is_odd bs)) c (backward as_ bs r q d rest h all.1) all.0)
    where
      shown : (d c s : Bool) → odd_with (odd_with d s) c ≡ odd_with d (odd_with c s)
      shown true true true = refl
      shown true true false = refl
      shown true false true = refl
      shown true false false = refl
      shown false true true = refl
      shown false true false = refl
      shown false false true = refl
      shown false false false = refl

  -- the first, the last and all arguments but one tell that one
  pub between : (x : Lit) (as_ : List Lit) (bs : List Bool) (p q : Lit) (b d : Bool) → IsChain clauses p as_ q → Valued P p b → Valued P q d → odd_with b (is_odd bs) ≡ not d → OneOpen P x as_ bs → P x
  between x [] bs p q b d e h k odd open_there = absurd open_there
  between x (a ∷ as_) [] p q b d e h k odd open_there = absurd open_there
  between x (a ∷ as_) (c ∷ bs) p q b d (r, has, rest) h k odd (inl (same, all)) =
      subst P same (first r p a has (odd_with d (is_odd bs)) b c (shown b c d (is_odd bs) (ap (odd_with b) (sym (odd_cons c bs)) ∙ odd)) (backward as_ bs r q d rest k all) h)
    where
      shown : (b c d s : Bool) → odd_with b (odd_with c s) ≡ not d → is_odd (odd_with d s ∷ b ∷ c ∷ []) ≡ true
      shown true true true true e = absurd (cc e)
      shown true true true false e = refl
      shown true true false true e = refl
      shown true true false false e = absurd (cc e)
      shown true false true true e = refl
      shown true false true false e = absurd (cc e)
      shown true false false true e = absurd (cc e)
      shown true false false false e = refl
      shown false true true true e = refl
      shown false true true false e = absurd (cc e)
      shown false true false true e = absurd (cc e)
      shown false true false false e = refl
      shown false false true true e = absurd (cc e)
      shown false false true false e = refl
      shown false false false true e = refl
      shown false false false false e = absurd (cc e)
  between x (a ∷ as_) (c ∷ bs) p q b d (r, has, rest) h k odd (inr (known, open_there)) =
      between x as_ bs r q (odd_with b c) d rest (sum_of r p a has b c h known) k (shown b c (is_odd bs) ∙ ap (odd_with b) (sym (odd_cons c bs)) ∙ odd) open_there
    where
      shown : (b c s : Bool) → odd_with (odd_with b c) s ≡ odd_with b (odd_with c s)
      shown true true true = refl
      shown true true false = refl
      shown true false true = refl
      shown true false false = refl
      shown false true true = refl
      shown false true false = refl
      shown false false true = refl
      shown false false false = refl

  -- a parity is told by all arguments
  pub parity_told : (as_ : List Lit) (bs : List Bool) (g : Lit) → IsParity clauses g as_ → AllValued P as_ bs → Valued P g (is_odd bs)
  parity_told [] bs g e all = absurd e
  parity_told (a ∷ as_) [] g e all = absurd all
  parity_told (a ∷ as_) (b ∷ bs) g e all = subst (Valued P g) (sym (odd_cons b bs)) (forward as_ bs a g b e all.0 all.1)

  -- and tells the argument that is open
  pub argument_told : (x : Lit) (as_ : List Lit) (bs : List Bool) (g : Lit) (d : Bool) → IsParity clauses g as_ → Valued P g d → is_odd bs ≡ not d → OneOpen P x as_ bs → P x
  argument_told x [] bs g d e h odd open_there = absurd e
  argument_told x (a ∷ as_) [] g d e h odd open_there = absurd open_there
  argument_told x (a ∷ as_) (b ∷ bs) g d e h odd (inl (same, all)) =
      subst P (ap (λ v. unless v a) (shown b d (is_odd bs) (sym (odd_cons b bs) ∙ odd)) ∙ same) (backward as_ bs a g d e h all)
    where
      shown : (b d s : Bool) → odd_with b s ≡ not d → not (odd_with d s) ≡ b
      shown true true true e = refl
      shown true true false e = absurd (cc e)
      shown true false true e = absurd (cc e)
      shown true false false e = refl
      shown false true true e = absurd (cc e)
      shown false true false e = refl
      shown false false true e = refl
      shown false false false e = absurd (cc e)
  argument_told x (a ∷ as_) (b ∷ bs) g d e h odd (inr (known, open_there)) =
      between x as_ bs a g b d e known h (sym (odd_cons b bs) ∙ odd) open_there
