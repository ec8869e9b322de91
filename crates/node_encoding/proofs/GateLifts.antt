-- Unit propagation over the defining clauses of one node, by its gate.
use Rattle.std.proofs.Common.{◌≡◌, ◌∙◌, ◌<◌, ℕ, zero, suc, Bool, true, false, not, List, [], ◌∷◌, ◌⊎◌, inl, inr, ⊎_elim, Some, length, map, refl, sym, ap, subst, arith, All}
use Rattle.std.specs.Prelude.{slice_get}
use Rattle.std.proofs.lemmas.Option.{same_Some}
use Rattle.y_tree.specs.Meaning.{is_odd}
use Rattle.clause_logic.specs.declared.Lit.{Lit}
use Rattle.clause_logic.specs.Clauses.{opposite, In, Listed}
use Rattle.node_encoding.specs.declared.Node.{Node}
use Rattle.node_encoding.specs.declared.Node.TheVariants as node_of
use Rattle.node_encoding.specs.Nodes.{arguments_of}
use Rattle.node_encoding.specs.Shapes.{unless, false_only_at, true_at, false_at, agree, are_different, IsDefining, RulesOut}
use Rattle.node_encoding.specs.Gates.{even_clauses, and_clauses, or_clauses, choice_clauses, distinct_clauses, Has, IsParity, Differ, IsGate}
use Rattle.node_encoding.specs.Encoding.{lit_at}
use Rattle.clause_logic.specs.Strength.{IsClosed}
use Rattle.clause_logic.proofs.Lits.{lit_cases, opposite_twice}
use Rattle.node_encoding.proofs.Listing.{listed_back, listed_front}
use Rattle.node_encoding.proofs.Parities.{odd_listed, length_map}
use Rattle.node_encoding.proofs.Lifting.{phi, phi_opposite, phi_combination, covered, imaged, parity_lifts}

-- a clause for each argument
pub listed_map : (f : Lit → List Lit) (xs : List Lit) (j : ℕ) (a : Lit) → slice_get xs j ≡ Some a → Listed (map f xs) (f a)
listed_map f [] j a e = absurd (cc e)
listed_map f (x ∷ xs) zero a e = (zero, ap (λ y. Some (f y)) (same_Some x a e))
listed_map f (x ∷ xs) (suc j) a e = let r = listed_map f xs j a e in (suc r.0, r.1)

pub get_map : {X Y : Type 0} (f : X → Y) (xs : List X) (j : ℕ) (a : X) → slice_get xs j ≡ Some a → slice_get (map f xs) j ≡ Some (f a)
get_map f [] j a e = absurd (cc e)
get_map f (x ∷ xs) zero a e = ap (λ y. Some (f y)) (same_Some x a e)
get_map f (x ∷ xs) (suc j) a e = get_map f xs j a e

phi_all : (lits : List Lit) (ks : List ℕ) → map (phi lits) (map true_at ks) ≡ map (lit_at lits) ks
phi_all lits [] = refl
phi_all lits (k ∷ ks) = ap (λ ls. lit_at lits k ∷ ls) (phi_all lits ks)

phi_none : (lits : List Lit) (ks : List ℕ) → map (phi lits) (map false_at ks) ≡ map opposite (map (lit_at lits) ks)
phi_none lits [] = refl
phi_none lits (k ∷ ks) = ap (λ ls. opposite (lit_at lits k) ∷ ls) (phi_none lits ks)

odd_front : (o : Bool) (bs : List Bool) → is_odd bs ≡ o → is_odd (not o ∷ bs) ≡ true
odd_front true bs e = e
odd_front false bs e = ap not e

agree_odd : (bs : List Bool) → length bs ≡ 2 → is_odd (agree bs ∷ bs) ≡ true
agree_odd [] e = absurd (cc e)
agree_odd (a ∷ []) e = absurd (cc e)
agree_odd (true ∷ true ∷ []) e = refl
agree_odd (true ∷ false ∷ []) e = refl
agree_odd (false ∷ true ∷ []) e = refl
agree_odd (false ∷ false ∷ []) e = refl
agree_odd (a ∷ b ∷ c ∷ bs) e = absurd (cc e)

turned_unless : (b : Bool) (l : Lit) → unless b (opposite l) ≡ unless (not b) l
turned_unless true l = opposite_twice l
turned_unless false l = refl

module _ (lits : List Lit) (clauses : List (List Lit)) (P : Lit → Type 0) (closed : IsClosed (Listed clauses) P) (k : ℕ) (l : Lit) where
  abbrev g : Lit
  g = lit_at lits k

  abbrev Given : List Lit → Type 0
  Given d = (m : Lit) → In m d → (m ≡ l → ⊥) → P (phi lits (opposite m))

  -- one of two literals is the other's opposite
  opposed_pair : (d : List Lit) (x y : Lit) → In x d → In y d → (x ≡ y → ⊥) → phi lits x ≡ opposite (phi lits y) → In l d → Given d → P (phi lits l)
  opposed_pair d x y i j apart same h others =
      let from_y : (y ≡ l → ⊥) → P (phi lits x) = λ n. subst P (phi_opposite lits y ∙ sym same) (others y j n) in
      let from_x : (x ≡ l → ⊥) → P (phi lits y) = λ n. subst P (phi_opposite lits x ∙ ap opposite same ∙ opposite_twice (phi lits y)) (others x i n) in
      ⊎_elim
      (λ e. subst (λ z. P (phi lits z)) e (from_y (λ f. apart (e ∙ sym f))))
      (λ n. ⊎_elim
      (λ e. subst (λ z. P (phi lits z)) e (from_x n))
      (λ f. absurd (closed.consistent (phi lits x) (from_y f) (subst P (phi_opposite lits x) (others x i n))))
      (lit_cases y l))
      (lit_cases x l)

  apart_at : (a : ℕ) → a < k → (p q : Bool) → let x : Lit = record { var = k; positive = p } in let y : Lit = record { var = a; positive = q } in x ≡ y → ⊥
  apart_at a small p q e = let same : k ≡ a = ap (λ (z : Lit). z.var) e in omega (arith, same, small)

  negation_lifts : (a : ℕ) → a < k → g ≡ opposite (lit_at lits a) → (d : List Lit) → IsDefining k (node_of.Not a) d → In l d → Given d → P (phi lits l)
  negation_lifts a small is d (inl e) h others =
      opposed_pair d (true_at k) (true_at a) (subst (In (true_at k)) (sym e) (inl refl)) (subst (In (true_at a)) (sym e) (inr (inl refl))) (apart_at a small true true) is h others
  negation_lifts a small is d (inr e) h others =
      opposed_pair d (false_at k) (false_at a) (subst (In (false_at k)) (sym e) (inl refl)) (subst (In (false_at a)) (sym e) (inr (inl refl))) (apart_at a small false false) (ap opposite is) h others

  image_lifts : (c d : List Lit) → Listed clauses c → c ≡ map (phi lits) d → In l d → Given d → P (phi lits l)
  image_lifts c d there same h others = imaged clauses P closed (phi lits) (phi_opposite lits) c d l there same h others

  and_lifts : (args : List ℕ) → Has clauses (and_clauses g (map (lit_at lits) args)) → (d : List Lit) → IsDefining k (node_of.And args) d → In l d → Given d → P (phi lits l)
  and_lifts args has d (inl (j, a, at, e)) h others =
      image_lifts (opposite g ∷ lit_at lits a ∷ []) d
      (has _ (listed_front (map (λ b. opposite g ∷ b ∷ []) (map (lit_at lits) args)) _ _ (listed_map (λ b. opposite g ∷ b ∷ []) (map (lit_at lits) args) j (lit_at lits a) (get_map (lit_at lits) args j a at))))
      (sym (ap (map (phi lits)) e)) h others
  and_lifts args has d (inr e) h others =
      image_lifts (g ∷ map opposite (map (lit_at lits) args)) d
      (has _ (listed_back (map (λ b. opposite g ∷ b ∷ []) (map (lit_at lits) args)) _ _ (zero, refl)))
      (ap (λ ls. g ∷ ls) (sym (phi_none lits args)) ∙ sym (ap (map (phi lits)) e)) h others

  or_lifts : (args : List ℕ) → Has clauses (or_clauses g (map (lit_at lits) args)) → (d : List Lit) → IsDefining k (node_of.Or args) d → In l d → Given d → P (phi lits l)
  or_lifts args has d (inl (j, a, at, e)) h others =
      image_lifts (g ∷ opposite (lit_at lits a) ∷ []) d
      (has _ (listed_front (map (λ b. g ∷ opposite b ∷ []) (map (lit_at lits) args)) _ _ (listed_map (λ b. g ∷ opposite b ∷ []) (map (lit_at lits) args) j (lit_at lits a) (get_map (lit_at lits) args j a at))))
      (sym (ap (map (phi lits)) e)) h others
  or_lifts args has d (inr e) h others =
      image_lifts (opposite g ∷ map (lit_at lits) args) d
      (has _ (listed_back (map (λ b. g ∷ opposite b ∷ []) (map (lit_at lits) args)) _ _ (zero, refl)))
      (ap (λ ls. opposite g ∷ ls) (sym (phi_all lits args)) ∙ sym (ap (map (phi lits)) e)) h others

  choice_lifts : (c a b : ℕ) → Has clauses (choice_clauses g (lit_at lits c ∷ lit_at lits a ∷ lit_at lits b ∷ [])) → (d : List Lit) → IsDefining k (node_of.Ite c a b) d → In l d → Given d → P (phi lits l)
  choice_lifts c a b has d (inl (inl e)) h others = image_lifts _ d (has _ (0, refl)) (sym (ap (map (phi lits)) e)) h others
  choice_lifts c a b has d (inl (inr e)) h others = image_lifts _ d (has _ (1, refl)) (sym (ap (map (phi lits)) e)) h others
  choice_lifts c a b has d (inr (inl e)) h others = image_lifts _ d (has _ (2, refl)) (sym (ap (map (phi lits)) e)) h others
  choice_lifts c a b has d (inr (inr e)) h others = image_lifts _ d (has _ (3, refl)) (sym (ap (map (phi lits)) e)) h others

  -- all combinations with an odd number of true ones
  even_lifts : (args : List ℕ) → Has clauses (even_clauses (g ∷ map (lit_at lits) args)) → (bs : List Bool) → length bs ≡ length args → (d : List Lit) → d ≡ false_only_at (true_at k ∷ map true_at args) (not (is_odd bs) ∷ bs) → In l d → Given d → P (phi lits l)
  even_lifts args has bs count d e h others =
      image_lifts (false_only_at (g ∷ map (lit_at lits) args) (not (is_odd bs) ∷ bs)) d
      (has _ (odd_listed [] (g ∷ map (lit_at lits) args) false (not (is_odd bs) ∷ bs) (ap suc (count ∙ sym (length_map (lit_at lits) args))) (odd_front (is_odd bs) bs refl)))
      (sym (ap (map (phi lits)) e ∙ phi_combination lits (k ∷ args) (not (is_odd bs) ∷ bs))) h others

  equality_lifts : (a b : ℕ) → Has clauses (even_clauses (opposite g ∷ lit_at lits a ∷ lit_at lits b ∷ [])) → (d : List Lit) → RulesOut agree k (a ∷ b ∷ []) d → In l d → Given d → P (phi lits l)
  equality_lifts a b has d (bs, count, e) h others =
      image_lifts (false_only_at (opposite g ∷ lit_at lits a ∷ lit_at lits b ∷ []) (agree bs ∷ bs)) d
      (has _ (odd_listed [] (opposite g ∷ lit_at lits a ∷ lit_at lits b ∷ []) false (agree bs ∷ bs) (ap suc count) (agree_odd bs count)))
      (ap (λ z. z ∷ false_only_at (lit_at lits a ∷ lit_at lits b ∷ []) bs) (turned_unless (agree bs) g)
      ∙ sym (ap (map (phi lits)) e ∙ phi_combination lits (k ∷ a ∷ b ∷ []) (not (agree bs) ∷ bs))) h others

  -- one literal alone serves
  single_lifts : (x : Lit) (c d : List Lit) → Listed clauses (phi lits x ∷ []) → d ≡ x ∷ c → In l d → Given d → P (phi lits l)
  single_lifts x c d there e h others =
      covered clauses P closed (phi lits) (phi_opposite lits) (phi lits x ∷ []) d (phi lits x) l there (inl refl)
      (λ m i. ⊎_elim (λ same. subst (λ z. In m (map (phi lits) z)) (sym e) (inl same)) (λ z. absurd z) i) h others

  distinct_lifts : (args : List ℕ) → Has clauses (distinct_clauses g (map (lit_at lits) args)) → (d : List Lit) → RulesOut are_different k args d → In l d → Given d → P (phi lits l)
  distinct_lifts [] has d ([], count, e) h others = single_lifts (true_at k) _ d (has _ (0, refl)) e h others
  distinct_lifts [] has d (b ∷ bs, count, e) h others = absurd (cc count)
  distinct_lifts (a ∷ []) has d ([], count, e) h others = absurd (cc count)
  distinct_lifts (a ∷ []) has d (b ∷ [], count, e) h others = single_lifts (true_at k) _ d (has _ (0, refl)) e h others
  distinct_lifts (a ∷ []) has d (b ∷ c ∷ bs, count, e) h others = absurd (cc count)
  distinct_lifts (a ∷ b ∷ []) has d ([], count, e) h others = absurd (cc count)
  distinct_lifts (a ∷ b ∷ []) has d (x ∷ [], count, e) h others = absurd (cc count)
  distinct_lifts (a ∷ b ∷ []) has d (x ∷ y ∷ [], count, e) h others = even_lifts (a ∷ b ∷ []) has (x ∷ y ∷ []) refl d e h others
  distinct_lifts (a ∷ b ∷ []) has d (x ∷ y ∷ z ∷ bs, count, e) h others = absurd (cc count)
  distinct_lifts (a ∷ b ∷ c ∷ args) has d ([], count, e) h others = absurd (cc count)
  distinct_lifts (a ∷ b ∷ c ∷ args) has d (x ∷ [], count, e) h others = absurd (cc count)
  distinct_lifts (a ∷ b ∷ c ∷ args) has d (x ∷ y ∷ [], count, e) h others = absurd (cc count)
  distinct_lifts (a ∷ b ∷ c ∷ args) has d (x ∷ y ∷ z ∷ bs, count, e) h others = single_lifts (false_at k) _ d (has _ (0, refl)) e h others

  parity_gate_lifts : (args : List ℕ) → All (λ a. a < k) args → (Differ args × IsParity clauses g (map (lit_at lits) args)) ⊎ Has clauses (even_clauses (g ∷ map (lit_at lits) args)) → (d : List Lit) → RulesOut is_odd k args d → In l d → Given d → P (phi lits l)
  parity_gate_lifts args below (inl chain) d (bs, count, e) h others =
      parity_lifts lits P l clauses closed k args bs count below chain.0 chain.1 (subst (In l) e h) (λ m i. others m (subst (In m) (sym e) i))
  parity_gate_lifts args below (inr has) d (bs, count, e) h others = even_lifts args has bs count d e h others

  -- the gate of a node serves for its defining clauses
  pub gate_lifts : (n : Node) → All (λ a. a < k) (arguments_of n) → IsGate clauses n g (map (lit_at lits) (arguments_of n)) → (d : List Lit) → IsDefining k n d → In l d → Given d → P (phi lits l)
  gate_lifts node_of.True below gate d is h others = absurd is
  gate_lifts node_of.False below gate d is h others = absurd is
  gate_lifts (node_of.Const number) below gate d is h others = absurd is
  gate_lifts (node_of.Not a) below gate d is h others = negation_lifts a (below 0 0 (omega arith)) gate d is h others
  gate_lifts (node_of.And args) below gate d is h others = and_lifts args gate d is h others
  gate_lifts (node_of.Or args) below gate d is h others = or_lifts args gate d is h others
  gate_lifts (node_of.Xor args) below gate d is h others = parity_gate_lifts args below gate d is h others
  gate_lifts (node_of.Ite c a b) below gate d is h others = choice_lifts c a b gate d is h others
  gate_lifts (node_of.Eq a b) below gate d is h others = equality_lifts a b gate d is h others
  gate_lifts (node_of.Distinct args) below gate d is h others = distinct_lifts args gate d is h others
