-- A node's clauses define its variable, so what was new stays new where nodes are added.
use Rattle.std.proofs.Common.{◌≡◌, ◌∙◌, ℕ, ◌<◌, ◌++◌, zero, suc, Bool, true, false, not, List, [], ◌∷◌, ◌⊎◌, inl, inr, ⊎_elim, Some, length, map, refl, sym, ap, subst, arith, All}
use Rattle.std.specs.Prelude.{slice_get}
use Rattle.std.proofs.lemmas.Option.{same_Some, slice_get_within}
use Rattle.y_tree.specs.Meaning.{is_odd}
use Rattle.clause_logic.specs.declared.Lit.{Lit}
use Rattle.clause_logic.specs.Clauses.{opposite, In, Both, New}
use Rattle.clause_logic.specs.Strength.{AreDefining}
use Rattle.clause_logic.proofs.Newness.{new_fewer}
use Rattle.clause_logic.proofs.Extending.{new_stays}
use Rattle.node_encoding.specs.declared.Node.{Node}
use Rattle.node_encoding.specs.declared.Node.TheVariants as node_of
use Rattle.node_encoding.specs.declared.NodeLit.{NodeLit}
use Rattle.node_encoding.specs.Nodes.{IsFormed, arguments_of}
use Rattle.theory_combine.specs.Learned.{Given, lit_of}
use Rattle.node_encoding.proofs.Gets.{all_get, push_cases, length_front}
use Rattle.node_encoding.specs.Shapes.{unless, false_only_at, true_at, false_at, agree, are_different, IsDefining, RulesOut}
use Rattle.clause_logic.proofs.Lits.{not_self}

-- the defining clauses of a node define it
module _ (k : ℕ) where
  -- the literal of an argument is not one of the node
  other_var : (a : ℕ) (p : Bool) → a < k → let x : Lit = record { var = a; positive = p } in x.var ≡ k → ⊥
  other_var a p small e = omega (arith, small, e)

  in_args : (args : List ℕ) (bs : List Bool) (l : Lit) → All (λ a. a < k) args → In l (false_only_at (map true_at args) bs) → l.var ≡ k → ⊥
  in_args [] bs l below i e = i
  in_args (a ∷ args) [] l below i e = i
  in_args (a ∷ args) (true ∷ bs) l below (inl s) e = let same : a ≡ k = ap (λ (x : Lit). x.var) s ∙ e in let small = below 0 0 (omega arith) in omega (arith, same, small)
  in_args (a ∷ args) (false ∷ bs) l below (inl s) e = let same : a ≡ k = ap (λ (x : Lit). x.var) s ∙ e in let small = below 0 0 (omega arith) in omega (arith, same, small)
  in_args (a ∷ args) (b ∷ bs) l below (inr j) e = in_args args bs l (λ i d h. below (suc i) d (omega (arith, h))) j e

  in_all : (f : ℕ → Lit) → ((a : ℕ) → (f a).var ≡ a) → (args : List ℕ) (l : Lit) → All (λ a. a < k) args → In l (map f args) → l.var ≡ k → ⊥
  in_all f same [] l below i e = i
  in_all f same (a ∷ args) l below (inl s) e = let one : a ≡ k = sym (same a) ∙ ap (λ (x : Lit). x.var) s ∙ e in let small = below 0 0 (omega arith) in omega (arith, one, small)
  in_all f same (a ∷ args) l below (inr j) e = in_all f same args l (λ i d h. below (suc i) d (omega (arith, h))) j e

  in_mapped : (f : ℕ → Lit) (args : List ℕ) (j a : ℕ) → slice_get args j ≡ Some a → In (f a) (map f args)
  in_mapped f [] j a h = absurd (cc h)
  in_mapped f (x ∷ args) zero a h = inl (ap f (same_Some x a h))
  in_mapped f (x ∷ args) (suc j) a h = inr (in_mapped f args j a h)

  at_below : (args : List ℕ) (j a : ℕ) → All (λ b. b < k) args → slice_get args j ≡ Some a → a < k
  at_below [] j a below h = absurd (cc h)
  at_below (x ∷ args) zero a below h = let small = below 0 0 (omega arith) in omega (arith, small, same_Some x a h)
  at_below (x ∷ args) (suc j) a below h = at_below args j a (λ i d s. below (suc i) d (omega (arith, s))) h

  -- two combinations that differ have a place where they do
  differ_at : (args : List ℕ) (bs cs : List Bool) → length bs ≡ length args → length cs ≡ length args → All (λ a. a < k) args → (bs ≡ cs → ⊥)
      → (y : Lit) × In y (false_only_at (map true_at args) bs) × In (opposite y) (false_only_at (map true_at args) cs) × (y.var ≡ k → ⊥)
  differ_at [] [] [] e f below d = absurd (d refl)
  differ_at [] (b ∷ bs) cs e f below d = absurd (cc e)
  differ_at [] [] (c ∷ cs) e f below d = absurd (cc f)
  differ_at (a ∷ args) [] cs e f below d = absurd (cc e)
  differ_at (a ∷ args) (b ∷ bs) [] e f below d = absurd (cc f)
  differ_at (a ∷ args) (true ∷ bs) (false ∷ cs) e f below d = (false_at a, inl refl, inl refl, other_var a false (below 0 0 (omega arith)))
  differ_at (a ∷ args) (false ∷ bs) (true ∷ cs) e f below d = (true_at a, inl refl, inl refl, other_var a true (below 0 0 (omega arith)))
  differ_at (a ∷ args) (true ∷ bs) (true ∷ cs) e f below d =
      let one = differ_at args bs cs (cc) (cc) (λ i x s. below (suc i) x (omega (arith, s))) (λ g. d (ap (λ w. true ∷ w) g)) in
      (one.0, inr one.1, inr one.2, one.3)
  differ_at (a ∷ args) (false ∷ bs) (false ∷ cs) e f below d =
      let one = differ_at args bs cs (cc) (cc) (λ i x s. below (suc i) x (omega (arith, s))) (λ g. d (ap (λ w. false ∷ w) g)) in
      (one.0, inr one.1, inr one.2, one.3)

  unless_positive : (b : Bool) → (unless b (true_at k)).positive ≡ not b
  unless_positive true = refl
  unless_positive false = refl

  -- a literal of the node in the clause of a combination is the first one
  first_lit : (value : List Bool → Bool) (args : List ℕ) (bs : List Bool) (l : Lit) → All (λ a. a < k) args → In l (false_only_at (true_at k ∷ map true_at args) (not (value bs) ∷ bs)) → l.var ≡ k → unless (not (value bs)) (true_at k) ≡ l
  first_lit value args bs l below (inl s) e = s
  first_lit value args bs l below (inr j) e = absurd (in_args args bs l below j e)

  table_defines : (value : List Bool → Bool) (args : List ℕ) → All (λ a. a < k) args → AreDefining k (RulesOut value k args)
  table_defines value args below = record {
    some = λ c (bs, count, e). (unless (not (value bs)) (true_at k), subst (In (unless (not (value bs)) (true_at k))) (sym e) (inl refl), unless_var (not (value bs)));
    once = λ c l m (bs, count, e) i j p q. sym (first_lit value args bs l below (subst (In l) e i) p) ∙ first_lit value args bs m below (subst (In m) e j) q;
    blocked = λ c d l (bs, count, e) (cs, length_cs, f) p i j.
        let one = first_lit value args bs l below (subst (In l) e i) p in
        let two = first_lit value args cs (opposite l) below (subst (In (opposite l)) f j) p in
        let apart : bs ≡ cs → ⊥ = λ same. not_self l.positive (sym (ap (λ (x : Lit). x.positive) two) ∙ unless_positive (not (value cs)) ∙ sym (ap (λ w. not (not (value w))) same) ∙ sym (unless_positive (not (value bs))) ∙ ap (λ (x : Lit). x.positive) one) in
        let y = differ_at args bs cs count length_cs below apart in
        (y.0, subst (In y.0) (sym e) (inr y.1), subst (In (opposite y.0)) (sym f) (inr y.2), y.3);
  }
    where
      unless_var : (b : Bool) → (unless b (true_at k)).var ≡ k
      unless_var true = refl
      unless_var false = refl

  same_sign : (x l : Lit) → x ≡ l → x ≡ opposite l → ⊥
  same_sign x l e f = not_self l.positive (sym (ap (λ (z : Lit). z.positive) f) ∙ ap (λ (z : Lit). z.positive) e)

  -- the node's literal stands first, and nowhere behind it
  at_first : (x : Lit) (c rest : List Lit) (l : Lit) → c ≡ x ∷ rest → ((m : Lit) → In m rest → m.var ≡ k → ⊥) → In l c → l.var ≡ k → x ≡ l
  at_first x c rest l e others i p = ⊎_elim (λ s. s) (λ j. absurd (others l j p)) (subst (In l) e i)

  only_one : (a : ℕ) (p : Bool) → a < k → (m : Lit) → In m (record { var = a; positive = p } ∷ []) → m.var ≡ k → ⊥
  only_one a p small m (inl s) e = let same : a ≡ k = ap (λ (x : Lit). x.var) s ∙ e in omega (arith, same, small)
  only_one a p small m (inr z) e = z

  none_defines : (added : List Lit → Type 0) → ((c : List Lit) → added c → ⊥) → AreDefining k added
  none_defines added none = record {
    some = λ c h. absurd (none c h);
    once = λ c l m h. absurd (none c h);
    blocked = λ c d l h. absurd (none c h);
  }

  negation_defines : (a : ℕ) → a < k → AreDefining k (IsDefining k (node_of.Not a))
  negation_defines a small = record { some = some; once = once; blocked = blocked }
    where
      some : (c : List Lit) → IsDefining k (node_of.Not a) c → (l : Lit) × In l c × (l.var ≡ k)
      some c (inl e) = (true_at k, subst (In (true_at k)) (sym e) (inl refl), refl)
      some c (inr e) = (false_at k, subst (In (false_at k)) (sym e) (inl refl), refl)

      once : (c : List Lit) (l m : Lit) → IsDefining k (node_of.Not a) c → In l c → In m c → l.var ≡ k → m.var ≡ k → l ≡ m
      once c l m (inl e) i j p q = sym (at_first (true_at k) c _ l e (only_one a true small) i p) ∙ at_first (true_at k) c _ m e (only_one a true small) j q
      once c l m (inr e) i j p q = sym (at_first (false_at k) c _ l e (only_one a false small) i p) ∙ at_first (false_at k) c _ m e (only_one a false small) j q

      blocked : (c d : List Lit) (l : Lit) → IsDefining k (node_of.Not a) c → IsDefining k (node_of.Not a) d → l.var ≡ k → In l c → In (opposite l) d → (y : Lit) × In y c × In (opposite y) d × (y.var ≡ k → ⊥)
      blocked c d l (inl e) (inl f) p i j = absurd (same_sign (true_at k) l (at_first (true_at k) c _ l e (only_one a true small) i p) (at_first (true_at k) d _ (opposite l) f (only_one a true small) j p))
      blocked c d l (inl e) (inr f) p i j = (true_at a, subst (In (true_at a)) (sym e) (inr (inl refl)), subst (In (false_at a)) (sym f) (inr (inl refl)), other_var a true small)
      blocked c d l (inr e) (inl f) p i j = (false_at a, subst (In (false_at a)) (sym e) (inr (inl refl)), subst (In (true_at a)) (sym f) (inr (inl refl)), other_var a false small)
      blocked c d l (inr e) (inr f) p i j = absurd (same_sign (false_at k) l (at_first (false_at k) c _ l e (only_one a false small) i p) (at_first (false_at k) d _ (opposite l) f (only_one a false small) j p))

  conjunction_defines : (args : List ℕ) → All (λ a. a < k) args → AreDefining k (IsDefining k (node_of.And args))
  conjunction_defines args below = record { some = some; once = once; blocked = blocked }
    where
      some : (c : List Lit) → IsDefining k (node_of.And args) c → (l : Lit) × In l c × (l.var ≡ k)
      some c (inl (n, a, at, e)) = (false_at k, subst (In (false_at k)) (sym e) (inl refl), refl)
      some c (inr e) = (true_at k, subst (In (true_at k)) (sym e) (inl refl), refl)

      once : (c : List Lit) (l m : Lit) → IsDefining k (node_of.And args) c → In l c → In m c → l.var ≡ k → m.var ≡ k → l ≡ m
      once c l m (inl (n, a, at, e)) i j p q = sym (at_first (false_at k) c _ l e (only_one a true (at_below args n a below at)) i p) ∙ at_first (false_at k) c _ m e (only_one a true (at_below args n a below at)) j q
      once c l m (inr e) i j p q = sym (at_first (true_at k) c _ l e (λ x. in_all false_at (λ b. refl) args x below) i p) ∙ at_first (true_at k) c _ m e (λ x. in_all false_at (λ b. refl) args x below) j q

      blocked : (c d : List Lit) (l : Lit) → IsDefining k (node_of.And args) c → IsDefining k (node_of.And args) d → l.var ≡ k → In l c → In (opposite l) d → (y : Lit) × In y c × In (opposite y) d × (y.var ≡ k → ⊥)
      blocked c d l (inl (n, a, at, e)) (inl (m, b, there, f)) p i j =
          absurd (same_sign (false_at k) l (at_first (false_at k) c _ l e (only_one a true (at_below args n a below at)) i p) (at_first (false_at k) d _ (opposite l) f (only_one b true (at_below args m b below there)) j p))
      blocked c d l (inl (n, a, at, e)) (inr f) p i j =
          (true_at a, subst (In (true_at a)) (sym e) (inr (inl refl)), subst (In (false_at a)) (sym f) (inr (in_mapped false_at args n a at)), other_var a true (at_below args n a below at))
      blocked c d l (inr e) (inl (n, a, at, f)) p i j =
          (false_at a, subst (In (false_at a)) (sym e) (inr (in_mapped false_at args n a at)), subst (In (true_at a)) (sym f) (inr (inl refl)), other_var a false (at_below args n a below at))
      blocked c d l (inr e) (inr f) p i j =
          absurd (same_sign (true_at k) l (at_first (true_at k) c _ l e (λ x. in_all false_at (λ b. refl) args x below) i p) (at_first (true_at k) d _ (opposite l) f (λ x. in_all false_at (λ b. refl) args x below) j p))

  disjunction_defines : (args : List ℕ) → All (λ a. a < k) args → AreDefining k (IsDefining k (node_of.Or args))
  disjunction_defines args below = record { some = some; once = once; blocked = blocked }
    where
      some : (c : List Lit) → IsDefining k (node_of.Or args) c → (l : Lit) × In l c × (l.var ≡ k)
      some c (inl (n, a, at, e)) = (true_at k, subst (In (true_at k)) (sym e) (inl refl), refl)
      some c (inr e) = (false_at k, subst (In (false_at k)) (sym e) (inl refl), refl)

      once : (c : List Lit) (l m : Lit) → IsDefining k (node_of.Or args) c → In l c → In m c → l.var ≡ k → m.var ≡ k → l ≡ m
      once c l m (inl (n, a, at, e)) i j p q = sym (at_first (true_at k) c _ l e (only_one a false (at_below args n a below at)) i p) ∙ at_first (true_at k) c _ m e (only_one a false (at_below args n a below at)) j q
      once c l m (inr e) i j p q = sym (at_first (false_at k) c _ l e (λ x. in_all true_at (λ b. refl) args x below) i p) ∙ at_first (false_at k) c _ m e (λ x. in_all true_at (λ b. refl) args x below) j q

      blocked : (c d : List Lit) (l : Lit) → IsDefining k (node_of.Or args) c → IsDefining k (node_of.Or args) d → l.var ≡ k → In l c → In (opposite l) d → (y : Lit) × In y c × In (opposite y) d × (y.var ≡ k → ⊥)
      blocked c d l (inl (n, a, at, e)) (inl (m, b, there, f)) p i j =
          absurd (same_sign (true_at k) l (at_first (true_at k) c _ l e (only_one a false (at_below args n a below at)) i p) (at_first (true_at k) d _ (opposite l) f (only_one b false (at_below args m b below there)) j p))
      blocked c d l (inl (n, a, at, e)) (inr f) p i j =
          (false_at a, subst (In (false_at a)) (sym e) (inr (inl refl)), subst (In (true_at a)) (sym f) (inr (in_mapped true_at args n a at)), other_var a false (at_below args n a below at))
      blocked c d l (inr e) (inl (n, a, at, f)) p i j =
          (true_at a, subst (In (true_at a)) (sym e) (inr (in_mapped true_at args n a at)), subst (In (false_at a)) (sym f) (inr (inl refl)), other_var a true (at_below args n a below at))
      blocked c d l (inr e) (inr f) p i j =
          absurd (same_sign (false_at k) l (at_first (false_at k) c _ l e (λ x. in_all true_at (λ b. refl) args x below) i p) (at_first (false_at k) d _ (opposite l) f (λ x. in_all true_at (λ b. refl) args x below) j p))

  -- the node's literal stands second
  at_second : (x y z : Lit) (c : List Lit) (l : Lit) → c ≡ x ∷ y ∷ z ∷ [] → (x.var ≡ k → ⊥) → (z.var ≡ k → ⊥) → In l c → l.var ≡ k → y ≡ l
  at_second x y z c l e first last i p = split (subst (In l) e i)
    where
      split : In l (x ∷ y ∷ z ∷ []) → y ≡ l
      split (inl s) = absurd (first (ap (λ (m : Lit). m.var) s ∙ p))
      split (inr (inl s)) = s
      split (inr (inr (inl s))) = absurd (last (ap (λ (m : Lit). m.var) s ∙ p))
      split (inr (inr (inr z))) = absurd z

  choice_defines : (t a b : ℕ) → t < k → a < k → b < k → AreDefining k (IsDefining k (node_of.Ite t a b))
  choice_defines t a b ht ha hb = record { some = some; once = once; blocked = blocked }
    where
      sign : (c : List Lit) → IsDefining k (node_of.Ite t a b) c → Lit
      sign c (inl (inl e)) = false_at k
      sign c (inl (inr e)) = true_at k
      sign c (inr (inl e)) = false_at k
      sign c (inr (inr e)) = true_at k

      own : (c : List Lit) (h : IsDefining k (node_of.Ite t a b) c) (l : Lit) → In l c → l.var ≡ k → sign c h ≡ l
      own c (inl (inl e)) l i p = at_second (false_at t) (false_at k) (true_at a) c l e (other_var t false ht) (other_var a true ha) i p
      own c (inl (inr e)) l i p = at_second (false_at t) (true_at k) (false_at a) c l e (other_var t false ht) (other_var a false ha) i p
      own c (inr (inl e)) l i p = at_second (true_at t) (false_at k) (true_at b) c l e (other_var t true ht) (other_var b true hb) i p
      own c (inr (inr e)) l i p = at_second (true_at t) (true_at k) (false_at b) c l e (other_var t true ht) (other_var b false hb) i p

      some : (c : List Lit) → IsDefining k (node_of.Ite t a b) c → (l : Lit) × In l c × (l.var ≡ k)
      some c (inl (inl e)) = (false_at k, subst (In (false_at k)) (sym e) (inr (inl refl)), refl)
      some c (inl (inr e)) = (true_at k, subst (In (true_at k)) (sym e) (inr (inl refl)), refl)
      some c (inr (inl e)) = (false_at k, subst (In (false_at k)) (sym e) (inr (inl refl)), refl)
      some c (inr (inr e)) = (true_at k, subst (In (true_at k)) (sym e) (inr (inl refl)), refl)

      once : (c : List Lit) (l m : Lit) → IsDefining k (node_of.Ite t a b) c → In l c → In m c → l.var ≡ k → m.var ≡ k → l ≡ m
      once c l m h i j p q = sym (own c h l i p) ∙ own c h m j q

      third : (c : List Lit) (x y z : Lit) → c ≡ x ∷ y ∷ z ∷ [] → In z c
      third c x y z e = subst (In z) (sym e) (inr (inr (inl refl)))

      head : (c : List Lit) (x y z : Lit) → c ≡ x ∷ y ∷ z ∷ [] → In x c
      head c x y z e = subst (In x) (sym e) (inl refl)

      clash : (c d : List Lit) (l : Lit) (h : IsDefining k (node_of.Ite t a b) c) (g : IsDefining k (node_of.Ite t a b) d) → l.var ≡ k → In l c → In (opposite l) d → sign c h ≡ sign d g → ⊥
      clash c d l h g p i j same = same_sign (sign c h) l (own c h l i p) (same ∙ own d g (opposite l) j p)

      blocked : (c d : List Lit) (l : Lit) → IsDefining k (node_of.Ite t a b) c → IsDefining k (node_of.Ite t a b) d → l.var ≡ k → In l c → In (opposite l) d → (y : Lit) × In y c × In (opposite y) d × (y.var ≡ k → ⊥)
      blocked c d l (inl (inl e)) (inl (inl f)) p i j = absurd (clash c d l (inl (inl e)) (inl (inl f)) p i j refl)
      blocked c d l (inl (inl e)) (inl (inr f)) p i j = (true_at a, third c _ _ _ e, third d _ _ _ f, other_var a true ha)
      blocked c d l (inl (inl e)) (inr (inl f)) p i j = absurd (clash c d l (inl (inl e)) (inr (inl f)) p i j refl)
      blocked c d l (inl (inl e)) (inr (inr f)) p i j = (false_at t, head c _ _ _ e, head d _ _ _ f, other_var t false ht)
      blocked c d l (inl (inr e)) (inl (inl f)) p i j = (false_at a, third c _ _ _ e, third d _ _ _ f, other_var a false ha)
      blocked c d l (inl (inr e)) (inl (inr f)) p i j = absurd (clash c d l (inl (inr e)) (inl (inr f)) p i j refl)
      blocked c d l (inl (inr e)) (inr (inl f)) p i j = (false_at t, head c _ _ _ e, head d _ _ _ f, other_var t false ht)
      blocked c d l (inl (inr e)) (inr (inr f)) p i j = absurd (clash c d l (inl (inr e)) (inr (inr f)) p i j refl)
      blocked c d l (inr (inl e)) (inl (inl f)) p i j = absurd (clash c d l (inr (inl e)) (inl (inl f)) p i j refl)
      blocked c d l (inr (inl e)) (inl (inr f)) p i j = (true_at t, head c _ _ _ e, head d _ _ _ f, other_var t true ht)
      blocked c d l (inr (inl e)) (inr (inl f)) p i j = absurd (clash c d l (inr (inl e)) (inr (inl f)) p i j refl)
      blocked c d l (inr (inl e)) (inr (inr f)) p i j = (true_at b, third c _ _ _ e, third d _ _ _ f, other_var b true hb)
      blocked c d l (inr (inr e)) (inl (inl f)) p i j = (true_at t, head c _ _ _ e, head d _ _ _ f, other_var t true ht)
      blocked c d l (inr (inr e)) (inl (inr f)) p i j = absurd (clash c d l (inr (inr e)) (inl (inr f)) p i j refl)
      blocked c d l (inr (inr e)) (inr (inl f)) p i j = (false_at b, third c _ _ _ e, third d _ _ _ f, other_var b false hb)
      blocked c d l (inr (inr e)) (inr (inr f)) p i j = absurd (clash c d l (inr (inr e)) (inr (inr f)) p i j refl)

  -- the clauses that a node brings: its defining ones, or what is literally true
  abbrev pub Brings : Node → List Lit → Type 0
  Brings node_of.True c = c ≡ true_at k ∷ []
  Brings node_of.False c = c ≡ false_at k ∷ []
  Brings n c = IsDefining k n c

  alone_defines : (x : Lit) → x.var ≡ k → AreDefining k (λ c. c ≡ x ∷ [])
  alone_defines x own = record {
    some = λ c e. (x, subst (In x) (sym e) (inl refl), own);
    once = λ c l m e i j p q. ⊎_elim (λ s. ⊎_elim (λ r. sym s ∙ r) (λ z. absurd z) (subst (In m) e j)) (λ z. absurd z) (subst (In l) e i);
    blocked = λ c d l e f p i j. absurd (same_sign x l (⊎_elim (λ s. s) (λ z. absurd z) (subst (In l) e i)) (⊎_elim (λ s. s) (λ z. absurd z) (subst (In (opposite l)) f j)));
  }

  -- each node's clauses define it
  pub brings_defines : (n : Node) → All (λ a. a < k) (arguments_of n) → AreDefining k (Brings n)
  brings_defines node_of.True below = alone_defines (true_at k) refl
  brings_defines node_of.False below = alone_defines (false_at k) refl
  brings_defines (node_of.Const number) below = none_defines (IsDefining k (node_of.Const number)) (λ c h. h)
  brings_defines (node_of.Not a) below = negation_defines a (below 0 0 (omega arith))
  brings_defines (node_of.And args) below = conjunction_defines args below
  brings_defines (node_of.Or args) below = disjunction_defines args below
  brings_defines (node_of.Xor args) below = table_defines is_odd args below
  brings_defines (node_of.Ite c a b) below = choice_defines c a b (below 0 0 (omega arith)) (below 1 0 (omega arith)) (below 2 0 (omega arith))
  brings_defines (node_of.Eq a b) below = table_defines agree (a ∷ b ∷ []) below
  brings_defines (node_of.Distinct args) below = table_defines are_different args below

-- literals over the first nodes
abbrev pub Within : ℕ → List Lit → Type 0
Within n c = (l : Lit) → In l c → l.var < n

within_more : (n : ℕ) (x : Lit) (c : List Lit) → x.var < n → Within n c → Within n (x ∷ c)
within_more n x c h w l (inl e) = subst (λ z. z.var < n) e h
within_more n x c h w l (inr i) = w l i

within_none : (n : ℕ) → Within n []
within_none n l i = absurd i

within_one : (n : ℕ) (x : Lit) → x.var < n → Within n (x ∷ [])
within_one n x h = within_more n x [] h (within_none n)

within_two : (n : ℕ) (x y : Lit) → x.var < n → y.var < n → Within n (x ∷ y ∷ [])
within_two n x y h i = within_more n x (y ∷ []) h (within_one n y i)

within_three : (n : ℕ) (x y z : Lit) → x.var < n → y.var < n → z.var < n → Within n (x ∷ y ∷ z ∷ [])
within_three n x y z h i j = within_more n x (y ∷ z ∷ []) h (within_two n y z i j)

within_is : (n : ℕ) (c d : List Lit) → c ≡ d → Within n d → Within n c
within_is n c d e w = subst (Within n) (sym e) w

within_all : (n : ℕ) (f : ℕ → Lit) (args : List ℕ) → ((a : ℕ) → (f a).var ≡ a) → All (λ a. a < n) args → Within n (map f args)
within_all n f [] same below = within_none n
within_all n f (a ∷ args) same below =
    within_more n (f a) (map f args) (let small = below 0 0 (omega arith) in omega (arith, same a, small)) (within_all n f args same (λ i d s. below (suc i) d (omega (arith, s))))

within_table : (n : ℕ) (args : List ℕ) (bs : List Bool) → All (λ a. a < n) args → Within n (false_only_at (map true_at args) bs)
within_table n [] bs below = within_none n
within_table n (a ∷ args) [] below = within_none n
within_table n (a ∷ args) (true ∷ bs) below =
    within_more n (false_at a) (false_only_at (map true_at args) bs) (below 0 0 (omega arith)) (within_table n args bs (λ i d s. below (suc i) d (omega (arith, s))))
within_table n (a ∷ args) (false ∷ bs) below =
    within_more n (true_at a) (false_only_at (map true_at args) bs) (below 0 0 (omega arith)) (within_table n args bs (λ i d s. below (suc i) d (omega (arith, s))))

-- the defining clauses of a node name it and its arguments
module _ (n k : ℕ) (here : k < n) where
  within_rules : (value : List Bool → Bool) (args : List ℕ) → All (λ a. a < n) args → (c : List Lit) → RulesOut value k args c → Within n c
  within_rules value args below c (bs, count, e) =
      within_is n c _ e (within_table n (k ∷ args) (not (value bs) ∷ bs) (λ i d s. first args below i d s))
    where
      first : (args : List ℕ) → All (λ a. a < n) args → All (λ a. a < n) (k ∷ args)
      first args below zero d s = here
      first args below (suc i) d s = below i d (omega (arith, s))

  pub within_defining : (m : Node) → All (λ a. a < n) (arguments_of m) → (c : List Lit) → IsDefining k m c → Within n c
  within_defining node_of.True below c is = absurd is
  within_defining node_of.False below c is = absurd is
  within_defining (node_of.Const number) below c is = absurd is
  within_defining (node_of.Not a) below c (inl e) = within_is n c _ e (within_two n (true_at k) (true_at a) here (below 0 0 (omega arith)))
  within_defining (node_of.Not a) below c (inr e) = within_is n c _ e (within_two n (false_at k) (false_at a) here (below 0 0 (omega arith)))
  within_defining (node_of.And args) below c (inl (j, a, at, e)) = within_is n c _ e (within_two n (false_at k) (true_at a) here (all_get (λ b. b < n) args j a below at))
  within_defining (node_of.And args) below c (inr e) = within_is n c _ e (within_more n (true_at k) (map false_at args) here (within_all n false_at args (λ a. refl) below))
  within_defining (node_of.Or args) below c (inl (j, a, at, e)) = within_is n c _ e (within_two n (true_at k) (false_at a) here (all_get (λ b. b < n) args j a below at))
  within_defining (node_of.Or args) below c (inr e) = within_is n c _ e (within_more n (false_at k) (map true_at args) here (within_all n true_at args (λ a. refl) below))
  within_defining (node_of.Xor args) below c is = within_rules is_odd args below c is
  within_defining (node_of.Ite t a b) below c (inl (inl e)) = within_is n c _ e (within_three n (false_at t) (false_at k) (true_at a) (below 0 0 (omega arith)) here (below 1 0 (omega arith)))
  within_defining (node_of.Ite t a b) below c (inl (inr e)) = within_is n c _ e (within_three n (false_at t) (true_at k) (false_at a) (below 0 0 (omega arith)) here (below 1 0 (omega arith)))
  within_defining (node_of.Ite t a b) below c (inr (inl e)) = within_is n c _ e (within_three n (true_at t) (false_at k) (true_at b) (below 0 0 (omega arith)) here (below 2 0 (omega arith)))
  within_defining (node_of.Ite t a b) below c (inr (inr e)) = within_is n c _ e (within_three n (true_at t) (true_at k) (false_at b) (below 0 0 (omega arith)) here (below 2 0 (omega arith)))
  within_defining (node_of.Eq a b) below c is = within_rules agree (a ∷ b ∷ []) below c is
  within_defining (node_of.Distinct args) below c is = within_rules are_different args below c is

-- a node more: what a record's clause says stays new
module _ (nodes : List Node) (n : Node) (lits : List NodeLit) (earlier : List Lit → Type 0) (formed : IsFormed nodes) (fits : All (λ a. a < length nodes) (arguments_of n))
    (below : All (λ (l : NodeLit). l.node < length nodes) lits) (known : (c : List Lit) → earlier c → Within (length nodes) c) where
  abbrev Old : List Lit → Type 0
  Old = Both (Given nodes lits) earlier

  brings_from : (m : Node) (c : List Lit) → IsDefining (length nodes) m c → Brings (length nodes) m c
  brings_from node_of.True c is = absurd is
  brings_from node_of.False c is = absurd is
  brings_from (node_of.Const number) c is = is
  brings_from (node_of.Not a) c is = is
  brings_from (node_of.And args) c is = is
  brings_from (node_of.Or args) c is = is
  brings_from (node_of.Xor args) c is = is
  brings_from (node_of.Ite t a b) c is = is
  brings_from (node_of.Eq a b) c is = is
  brings_from (node_of.Distinct args) c is = is

  given_split : (c : List Lit) → Both (Given (nodes ++ n ∷ []) lits) earlier c → Old c ⊎ Brings (length nodes) n c
  given_split c (inl (inl (inl (k, m, h, is)))) = ⊎_elim
      (λ q. inr (brings_from n c (subst (λ j. IsDefining j n c) q.0 (subst (λ w. IsDefining k w c) (sym q.1) is))))
      (λ old. inl (inl (inl (inl (k, m, old, is)))))
      (push_cases nodes n m k h)
  given_split c (inl (inl (inr (k, inl (h, e))))) = ⊎_elim
      (λ q. inr (subst (λ w. Brings (length nodes) w c) (sym q.1) (e ∙ ap (λ j. true_at j ∷ []) q.0)))
      (λ old. inl (inl (inl (inr (k, inl (old, e))))))
      (push_cases nodes n node_of.True k h)
  given_split c (inl (inl (inr (k, inr (h, e))))) = ⊎_elim
      (λ q. inr (subst (λ w. Brings (length nodes) w c) (sym q.1) (e ∙ ap (λ j. false_at j ∷ []) q.0)))
      (λ old. inl (inl (inl (inr (k, inr (old, e))))))
      (push_cases nodes n node_of.False k h)
  given_split c (inl (inr h)) = inl (inl (inr h))
  given_split c (inr h) = inl (inr h)

  lit_within : (xs : List NodeLit) → All (λ (l : NodeLit). l.node < length nodes) xs → Within (length nodes) (map lit_of xs)
  lit_within [] small = within_none (length nodes)
  lit_within (x ∷ xs) small = within_more (length nodes) (lit_of x) (map lit_of xs) (small 0 x (omega arith)) (lit_within xs (λ i d s. small (suc i) d (omega (arith, s))))

  old_within : (c : List Lit) → Old c → Within (length nodes) c
  old_within c (inl (inl (inl (k, m, h, is)))) =
      within_defining (length nodes) k (slice_get_within nodes k m h) m
      (λ i d s. let one = (formed.fits k m h).earlier i d s in let there = slice_get_within nodes k m h in omega (arith, one, there, length_front nodes k m h)) c is
  old_within c (inl (inl (inr (k, inl (h, e))))) = within_is (length nodes) c _ e (within_one (length nodes) (true_at k) (slice_get_within nodes k node_of.True h))
  old_within c (inl (inl (inr (k, inr (h, e))))) = within_is (length nodes) c _ e (within_one (length nodes) (false_at k) (slice_get_within nodes k node_of.False h))
  old_within c (inl (inr (p, i, e))) = within_is (length nodes) c _ e (within_one (length nodes) p (lit_within lits below p i))
  old_within c (inr h) = known c h

  -- so a record's clauses stay new where nodes are added
  pub stays_new : (c : List Lit) → Within (length nodes) c → New Old c → New (Both (Given (nodes ++ n ∷ []) lits) earlier) c
  stays_new c over new =
      new_fewer (Both (Given (nodes ++ n ∷ []) lits) earlier) (λ d. Old d ⊎ Brings (length nodes) n d) c given_split
      (new_stays Old (Brings (length nodes) n) (length nodes)
      (λ d l h i e. let small = old_within d h l i in omega (arith, small, e))
      (brings_defines (length nodes) n fits) c
      (λ l i e. let small = over l i in omega (arith, small, e)) new)
