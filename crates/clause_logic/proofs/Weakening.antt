-- What a new clause can't be, and that what is new over stronger propagation is new over weaker.
--
-- Propagation from a clause's other literals meets no contradiction, so what it reaches over the strong
-- clauses is consistent and closed. Each weak clause holds in it by its images: so all that propagation
-- reaches over the weak clauses has its image there.
use Rattle.std.proofs.Common.{List, [], ◌∷◌, ◌≡◌, ◌∙◌, inl, inr, ⊎_elim, refl, sym, ap, subst, map}
use Rattle.clause_logic.specs.declared.Lit.{Lit}
use Rattle.clause_logic.specs.Clauses.{opposite, In, Reached, given, unit, Clash, Others, New}
use Rattle.clause_logic.specs.Strength.{IsClosed, OtherImages, Imitates}
use Rattle.clause_logic.proofs.Lits.{lit_cases, opposite_twice, opposite_other}
use Rattle.clause_logic.proofs.Members.{in_cases, in_map, in_map_cases}

-- a new clause holds no clause that is there
pub new_holds_none : (clauses : List Lit → Type 0) (c d : List Lit) → New clauses c → clauses d → ((m : Lit) → In m d → In m c) → ⊥
new_holds_none clauses c d (l, i, calm, reaches, misses) there inside =
    ⊎_elim
    (λ h. reaches (unit d l there h (λ m k n. given (opposite m) (m, inside m k, n, refl))))
    (λ h. calm (inr (d, there, (λ m k. given (opposite m) (m, inside m k, (λ e. h (subst (λ x. In x d) e k)), refl)))))
    (in_cases l d)

-- it holds no literal together with the opposite
pub new_plain : (clauses : List Lit → Type 0) (c : List Lit) (m : Lit) → New clauses c → In m c → In (opposite m) c → ⊥
new_plain clauses c m (l, i, calm, reaches, misses) h k =
    ⊎_elim
    (λ e. reaches (subst (Reached clauses (Others c l)) e (given m (opposite m, k, (λ f. opposite_other m (f ∙ sym e)), sym (opposite_twice m)))))
    (λ d. ⊎_elim
    (λ e. reaches (given l (m, h, d, sym e)))
    (λ f. calm (inl (m, given m (opposite m, k, f, sym (opposite_twice m)), given (opposite m) (m, h, d, refl))))
    (lit_cases (opposite m) l))
    (lit_cases m l)

-- and it isn't empty
pub new_nonempty : (clauses : List Lit → Type 0) → New clauses [] → ⊥
new_nonempty clauses (l, i, calm, reaches, misses) = i

-- where propagation meets no contradiction, what it reaches is closed
reached_closed : (clauses : List Lit → Type 0) (start : Lit → Type 0) → (Clash clauses start → ⊥) → IsClosed clauses (Reached clauses start)
reached_closed clauses start calm = record {
  consistent = λ l p q. calm (inl (l, p, q));
  unit_of = unit;
}

-- where each weak clause holds by its images in all that is closed over the strong ones, propagation over the strong ones finds all that it finds over the weak ones
pub imitates_closed : (weak strong : List Lit → Type 0) (image : Lit → Lit)
    → ((P : Lit → Type 0) → IsClosed strong P → (c : List Lit) (l : Lit) → weak c → In l c → ((m : Lit) → In m c → (m ≡ l → ⊥) → P (image (opposite m))) → P (image l)) → Imitates weak strong image
imitates_closed weak strong image lifts c l d i calm =
    lifts (Reached strong (OtherImages image c l)) (reached_closed strong (OtherImages image c l) calm) c l d i (λ m k n. given (image (opposite m)) (m, k, n, refl))

-- propagation from what is reached reaches no more
module _ (clauses : List Lit → Type 0) (from start : Lit → Type 0) (inside : (l : Lit) → from l → Reached clauses start l) where
  reached_on : (l : Lit) → Reached clauses from l → Reached clauses start l
  reached_on x (given l s) = inside l s
  reached_on x (unit c l d i others) = unit c l d i (λ m k n. reached_on (opposite m) (others m k n))

  clash_on : Clash clauses from → Clash clauses start
  clash_on (inl (l, p, q)) = inl (l, reached_on l p, reached_on (opposite l) q)
  clash_on (inr (c, d, all)) = inr (c, d, (λ m k. reached_on (opposite m) (all m k)))

module _ (weak strong : List Lit → Type 0) (image name : Lit → Lit) (turn : (l : Lit) → image (opposite l) ≡ opposite (image l)) (some : weak [] → ⊥) (imitates : Imitates weak strong image) where
  module _ (start from : Lit → Type 0) (calm : Clash strong from → ⊥) (begun : (l : Lit) → start l → Reached strong from (image l)) where
    -- a weak clause with all literals but one false makes that one true
    lifted : (c : List Lit) (l : Lit) → weak c → In l c → ((m : Lit) → In m c → (m ≡ l → ⊥) → Reached strong from (image (opposite m))) → Reached strong from (image l)
    lifted c l d i others =
        let inside : (m : Lit) → OtherImages image c l m → Reached strong from m = λ m o. subst (Reached strong from) (sym o.3) (others o.0 o.1 o.2) in
        reached_on strong (OtherImages image c l) from inside (image l) (imitates c l d i (λ bad. calm (clash_on strong (OtherImages image c l) from inside bad)))

    -- what is reached there has its image here
    reached_lifts : (l : Lit) → Reached weak start l → Reached strong from (image l)
    reached_lifts x (given l s) = begun l s
    reached_lifts x (unit c l d i others) = lifted c l d i (λ m k n. reached_lifts (opposite m) (others m k n))

    clash_lifts : Clash weak start → ⊥
    clash_lifts (inl (l, p, q)) = calm (inl (image l, reached_lifts l p, subst (Reached strong from) (turn l) (reached_lifts (opposite l) q)))
    clash_lifts (inr ([], d, all)) = some d
    clash_lifts (inr (x ∷ xs, d, all)) =
        calm
        (inl (
          image x,
          lifted (x ∷ xs) x d (inl refl) (λ m k n. reached_lifts (opposite m) (all m k)),
          subst (Reached strong from) (turn x) (reached_lifts (opposite x) (all x (inl refl))),
        ))

  -- what is new over stronger propagation is new over weaker
  pub new_weaker : (c : List Lit) → ((l : Lit) → In l c → image (name l) ≡ l) → New strong c → New weak (map name c)
  new_weaker c back (l, i, calm, reaches, misses) =
      let P : Lit → Type 0 = Reached strong (Others c l) in
      let start : Lit → Type 0 = Others (map name c) (name l) in
      let begun : (m : Lit) → start m → P (image m) = λ m o.
      let one = in_map_cases name c o.0 o.1 in
      subst P (sym (ap (λ x. image x) (o.3 ∙ ap opposite (sym one.2)) ∙ turn (name one.0) ∙ ap opposite (back one.0 one.1))) (given (opposite one.0) (one.0, one.1, (λ e. o.2 (sym one.2 ∙ ap name e)), refl)) in (
        name l,
        in_map name c l i,
        clash_lifts start (Others c l) calm begun,
        (λ r. reaches (subst P (back l i) (reached_lifts start (Others c l) calm begun (name l) r))),
        (λ r. misses (subst P (turn (name l) ∙ ap opposite (back l i)) (reached_lifts start (Others c l) calm begun (opposite (name l)) r))),
      )
