-- Gates and truth values: where the clauses are true a gate's literal has the shape's value, and the other way round.
use Rattle.std.proofs.Common.{◌≡◌, ◌∙◌, ◌&&◌, ◌||◌, cond, ℕ, zero, suc, Bool, true, false, not, List, [], ◌∷◌, ◌⊎◌, inl, inr, ⊎_elim, Some, map, refl, sym, ap, subst}
use Rattle.std.specs.List.{list_all, list_any}
use Rattle.y_tree.specs.Meaning.{is_odd}
use Rattle.clause_logic.specs.declared.Lit.{Lit}
use Rattle.clause_logic.specs.Clauses.{opposite, In, Makes, Holds, Listed, Models}
use Rattle.node_encoding.specs.declared.Node.{Node}
use Rattle.node_encoding.specs.declared.Node.TheVariants as node_of
use Rattle.node_encoding.specs.Nodes.{arguments_of}
use Rattle.node_encoding.specs.Shapes.{agree, are_different, shape_value}
use Rattle.node_encoding.specs.Gates.{truth, even_clauses, and_clauses, or_clauses, choice_clauses, distinct_clauses, shape_clauses, IsChain, IsParity, IsGate}
use Rattle.clause_logic.proofs.Lits.{not_not}
use Rattle.clause_logic.proofs.Members.{in_map}
use Rattle.node_encoding.proofs.Listing.{listed_front, listed_back, models_append, models_one, models_more, models_none, truth_opposite, makes_truth, truth_makes, holds_first, holds_later, holds_cases, holds_empty}
use Rattle.node_encoding.proofs.Parities.{odd_with, odd_cons, even_complete, even_sound}

pub same_truth : (a b : Bool) → (a ≡ true → b ≡ true) → (b ≡ true → a ≡ true) → a ≡ b
same_truth true b h k = sym (h refl)
same_truth false true h k = k refl
same_truth false false h k = refl

not_true : (b : Bool) → not b ≡ true → b ≡ false
not_true true e = absurd (cc e)
not_true false e = refl

both_true : (b : Bool) → b ≡ true → b ≡ false → ⊥
both_true true e f = absurd (cc f)
both_true false e f = absurd (cc e)

module _ (a : ℕ → Bool) where
  abbrev all_of : List Lit → Bool
  all_of ls = list_all (λ b. b) (map (truth a) ls)

  abbrev any_of : List Lit → Bool
  any_of ls = list_any (λ b. b) (map (truth a) ls)

  all_to : (ls : List Lit) → all_of ls ≡ true → (x : Lit) → In x ls → truth a x ≡ true
  all_to [] e x h = absurd h
  all_to (l ∷ ls) e x h = split (truth a l) e refl h (λ f k. all_to ls f x k)
    where
      split : (b : Bool) → (b && all_of ls) ≡ true → truth a l ≡ b → (l ≡ x) ⊎ In x ls → (all_of ls ≡ true → In x ls → truth a x ≡ true) → truth a x ≡ true
      split true e f (inl s) go = ap (truth a) (sym s) ∙ f
      split true e f (inr k) go = go e k
      split false e f h go = absurd (cc e)

  all_from : (ls : List Lit) → ((x : Lit) → In x ls → truth a x ≡ true) → all_of ls ≡ true
  all_from [] h = refl
  all_from (l ∷ ls) h = ap (λ b. b && all_of ls) (h l (inl refl)) ∙ all_from ls (λ x k. h x (inr k))

  all_false : (ls : List Lit) → all_of ls ≡ false → (x : Lit) × In x ls × (truth a x ≡ false)
  all_false [] e = absurd (cc e)
  all_false (l ∷ ls) e = split (truth a l) e refl (λ f. all_false ls f)
    where
      split : (b : Bool) → (b && all_of ls) ≡ false → truth a l ≡ b → (all_of ls ≡ false → (x : Lit) × In x ls × (truth a x ≡ false)) → (x : Lit) × In x (l ∷ ls) × (truth a x ≡ false)
      split true e f go = let one = go e in (one.0, inr one.1, one.2)
      split false e f go = (l, inl refl, f)

  any_from : (ls : List Lit) (x : Lit) → In x ls → truth a x ≡ true → any_of ls ≡ true
  any_from [] x h e = absurd h
  any_from (l ∷ ls) x (inl s) e = ap (λ b. b || any_of ls) (ap (truth a) s ∙ e)
  any_from (l ∷ ls) x (inr k) e = step (truth a l) (any_from ls x k e)
    where
      step : (b : Bool) {r : Bool} → r ≡ true → (b || r) ≡ true
      step true f = refl
      step false f = f

  any_to : (ls : List Lit) → any_of ls ≡ true → (x : Lit) × In x ls × (truth a x ≡ true)
  any_to [] e = absurd (cc e)
  any_to (l ∷ ls) e = split (truth a l) e refl (λ f. any_to ls f)
    where
      split : (b : Bool) → (b || any_of ls) ≡ true → truth a l ≡ b → (any_of ls ≡ true → (x : Lit) × In x ls × (truth a x ≡ true)) → (x : Lit) × In x (l ∷ ls) × (truth a x ≡ true)
      split true e f go = (l, inl refl, f)
      split false e f go = let one = go e in (one.0, inr one.1, one.2)

  pub in_listed : (f : Lit → List Lit) (ls : List Lit) (x : Lit) → In x ls → Listed (map f ls) (f x)
  in_listed f [] x h = absurd h
  in_listed f (l ∷ ls) x (inl e) = (zero, ap (λ y. Some (f y)) e)
  in_listed f (l ∷ ls) x (inr k) = let r = in_listed f ls x k in (suc r.0, r.1)

  pub map_models : (f : Lit → List Lit) (ls : List Lit) → ((x : Lit) → In x ls → Holds a (f x)) → Models a (Listed (map f ls))
  map_models f [] h = models_none a
  map_models f (l ∷ ls) h = models_more a (f l) (map f ls) (h l (inl refl)) (map_models f ls (λ x k. h x (inr k)))

  -- of two literals one is true
  holds_two : (x y : Lit) → Holds a (x ∷ y ∷ []) → truth a x ≡ false → truth a y ≡ true
  holds_two x y h e = ⊎_elim (λ t. absurd (both_true (truth a x) t e)) (λ k. ⊎_elim (λ t. t) (λ n. absurd (holds_empty a n)) (holds_cases a y [] k)) (holds_cases a x (y ∷ []) h)

  opposite_false : (l : Lit) → truth a l ≡ true → truth a (opposite l) ≡ false
  opposite_false l e = truth_opposite a l ∙ ap not e

  opposite_true : (l : Lit) → truth a l ≡ false → truth a (opposite l) ≡ true
  opposite_true l e = truth_opposite a l ∙ ap not e

  -- none of the opposites holds
  no_opposite : (ls : List Lit) → all_of ls ≡ true → Holds a (map opposite ls) → ⊥
  no_opposite ls e (m, i, h) = none ls e m i h
    where
      none : (ls : List Lit) → all_of ls ≡ true → (m : Lit) → In m (map opposite ls) → Makes a m → ⊥
      none [] e m i h = i
      none (l ∷ ls) e m (inl s) h = both_true (truth a (opposite l)) (truth_makes a (opposite l) (subst (Makes a) (sym s) h)) (opposite_false l (all_to (l ∷ ls) e l (inl refl)))
      none (l ∷ ls) e m (inr k) h = none ls (all_from ls (λ x j. all_to (l ∷ ls) e x (inr j))) m k h

  pub and_complete : (g : Lit) (ls : List Lit) → Models a (Listed (and_clauses g ls)) → truth a g ≡ all_of ls
  and_complete g ls m = same_truth (truth a g) (all_of ls)
      (λ e. all_from ls (λ x i. holds_two (opposite g) x (m _ (listed_front (map (λ b. opposite g ∷ b ∷ []) ls) _ _ (in_listed (λ b. opposite g ∷ b ∷ []) ls x i))) (opposite_false g e)))
      (λ e. ⊎_elim (λ t. t) (λ n. absurd (no_opposite ls e n)) (holds_cases a g (map opposite ls) (m _ (listed_back (map (λ b. opposite g ∷ b ∷ []) ls) _ _ (zero, refl)))))

  pub and_sound : (g : Lit) (ls : List Lit) → truth a g ≡ all_of ls → Models a (Listed (and_clauses g ls))
  and_sound g ls e = models_append a (map (λ b. opposite g ∷ b ∷ []) ls) _
      (map_models (λ b. opposite g ∷ b ∷ []) ls (λ x i. each x i (truth a g) refl))
      (models_one a _ (last (truth a g) refl))
    where
      each : (x : Lit) → In x ls → (b : Bool) → truth a g ≡ b → Holds a (opposite g ∷ x ∷ [])
      each x i true f = holds_later a (opposite g) (x ∷ []) (holds_first a x [] (all_to ls (sym e ∙ f) x i))
      each x i false f = holds_first a (opposite g) (x ∷ []) (opposite_true g f)

      last : (b : Bool) → truth a g ≡ b → Holds a (g ∷ map opposite ls)
      last true f = holds_first a g _ f
      last false f = let one = all_false ls (sym e ∙ f) in holds_later a g _ (opposite one.0, in_map opposite ls one.0 one.1, makes_truth a (opposite one.0) (opposite_true one.0 one.2))

  pub or_complete : (g : Lit) (ls : List Lit) → Models a (Listed (or_clauses g ls)) → truth a g ≡ any_of ls
  or_complete g ls m = same_truth (truth a g) (any_of ls)
      (λ e. ⊎_elim (λ t. absurd (both_true (truth a (opposite g)) t (opposite_false g e))) (λ n. any_from ls n.0 n.1 (truth_makes a n.0 n.2)) (holds_cases a (opposite g) ls (m _ (listed_back (map (λ b. g ∷ opposite b ∷ []) ls) _ _ (zero, refl)))))
      (λ e. let one = any_to ls e in
      ⊎_elim (λ t. t) (λ k. ⊎_elim (λ t. absurd (both_true (truth a (opposite one.0)) t (opposite_false one.0 one.2))) (λ n. absurd (holds_empty a n)) (holds_cases a (opposite one.0) [] k))
      (holds_cases a g (opposite one.0 ∷ []) (m _ (listed_front (map (λ b. g ∷ opposite b ∷ []) ls) _ _ (in_listed (λ b. g ∷ opposite b ∷ []) ls one.0 one.1)))))

  pub or_sound : (g : Lit) (ls : List Lit) → truth a g ≡ any_of ls → Models a (Listed (or_clauses g ls))
  or_sound g ls e = models_append a (map (λ b. g ∷ opposite b ∷ []) ls) _
      (map_models (λ b. g ∷ opposite b ∷ []) ls (λ x i. each x i (truth a x) refl))
      (models_one a _ (last (truth a g) refl))
    where
      each : (x : Lit) → In x ls → (b : Bool) → truth a x ≡ b → Holds a (g ∷ opposite x ∷ [])
      each x i true f = holds_first a g (opposite x ∷ []) (e ∙ any_from ls x i f)
      each x i false f = holds_later a g (opposite x ∷ []) (holds_first a (opposite x) [] (opposite_true x f))

      last : (b : Bool) → truth a g ≡ b → Holds a (opposite g ∷ ls)
      last true f = let one = any_to ls (sym e ∙ f) in holds_later a (opposite g) ls (one.0, one.1, makes_truth a one.0 one.2)
      last false f = holds_first a (opposite g) ls (opposite_true g f)

  -- a clause of three
  three_from : (x y z : Lit) (p q r : Bool) → truth a x ≡ p → truth a y ≡ q → truth a z ≡ r → (p || (q || r)) ≡ true → Holds a (x ∷ y ∷ z ∷ [])
  three_from x y z true q r e f g h = holds_first a x (y ∷ z ∷ []) e
  three_from x y z false true r e f g h = holds_later a x (y ∷ z ∷ []) (holds_first a y (z ∷ []) f)
  three_from x y z false false true e f g h = holds_later a x (y ∷ z ∷ []) (holds_later a y (z ∷ []) (holds_first a z [] g))
  three_from x y z false false false e f g h = absurd (cc h)

  three_to : (x y z : Lit) (p q r : Bool) → truth a x ≡ p → truth a y ≡ q → truth a z ≡ r → Holds a (x ∷ y ∷ z ∷ []) → (p || (q || r)) ≡ true
  three_to x y z true q r e f g h = refl
  three_to x y z false true r e f g h = refl
  three_to x y z false false true e f g h = refl
  three_to x y z false false false e f g h =
      ⊎_elim (λ t. absurd (both_true (truth a x) t e)) (λ k. ⊎_elim (λ t. absurd (both_true (truth a y) t f)) (λ j. ⊎_elim (λ t. absurd (both_true (truth a z) t g)) (λ n. absurd (holds_empty a n)) (holds_cases a z [] j)) (holds_cases a y (z ∷ []) k)) (holds_cases a x (y ∷ z ∷ []) h)

  choose : (d g x y : Bool) → (not d || (not g || x)) ≡ true → (not d || (g || not x)) ≡ true → (d || (not g || y)) ≡ true → (d || (g || not y)) ≡ true → g ≡ cond d x y
  choose true true true y e f h k = refl
  choose true true false y e f h k = absurd (cc e)
  choose true false true y e f h k = absurd (cc f)
  choose true false false y e f h k = refl
  choose false true x true e f h k = refl
  choose false true x false e f h k = absurd (cc h)
  choose false false x true e f h k = absurd (cc k)
  choose false false x false e f h k = refl

  choose_1 : (d g x y : Bool) → g ≡ cond d x y → (not d || (not g || x)) ≡ true
  choose_1 true true true y e = refl
  choose_1 true true false y e = absurd (cc e)
  choose_1 true false x y e = refl
  choose_1 false g x y e = refl

  choose_2 : (d g x y : Bool) → g ≡ cond d x y → (not d || (g || not x)) ≡ true
  choose_2 true true x y e = refl
  choose_2 true false true y e = absurd (cc e)
  choose_2 true false false y e = refl
  choose_2 false g x y e = refl

  choose_3 : (d g x y : Bool) → g ≡ cond d x y → (d || (not g || y)) ≡ true
  choose_3 true g x y e = refl
  choose_3 false true x true e = refl
  choose_3 false true x false e = absurd (cc e)
  choose_3 false false x y e = refl

  choose_4 : (d g x y : Bool) → g ≡ cond d x y → (d || (g || not y)) ≡ true
  choose_4 true g x y e = refl
  choose_4 false true x y e = refl
  choose_4 false false x true e = absurd (cc e)
  choose_4 false false x false e = refl

  pub choice_complete : (g d x y : Lit) → Models a (Listed (choice_clauses g (d ∷ x ∷ y ∷ []))) → truth a g ≡ cond (truth a d) (truth a x) (truth a y)
  choice_complete g d x y m =
      choose (truth a d) (truth a g) (truth a x) (truth a y)
      (three_to (opposite d) (opposite g) x _ _ _ (truth_opposite a d) (truth_opposite a g) refl (m _ (0, refl)))
      (three_to (opposite d) g (opposite x) _ _ _ (truth_opposite a d) refl (truth_opposite a x) (m _ (1, refl)))
      (three_to d (opposite g) y _ _ _ refl (truth_opposite a g) refl (m _ (2, refl)))
      (three_to d g (opposite y) _ _ _ refl refl (truth_opposite a y) (m _ (3, refl)))

  pub choice_sound : (g d x y : Lit) → truth a g ≡ cond (truth a d) (truth a x) (truth a y) → Models a (Listed (choice_clauses g (d ∷ x ∷ y ∷ [])))
  choice_sound g d x y e =
      let c1 : List Lit = opposite d ∷ opposite g ∷ x ∷ [] in
      let c2 : List Lit = opposite d ∷ g ∷ opposite x ∷ [] in
      let c3 : List Lit = d ∷ opposite g ∷ y ∷ [] in
      let c4 : List Lit = d ∷ g ∷ opposite y ∷ [] in
      models_more a c1 (c2 ∷ c3 ∷ c4 ∷ []) (three_from (opposite d) (opposite g) x _ _ _ (truth_opposite a d) (truth_opposite a g) refl (choose_1 (truth a d) (truth a g) (truth a x) (truth a y) e))
      (models_more a c2 (c3 ∷ c4 ∷ []) (three_from (opposite d) g (opposite x) _ _ _ (truth_opposite a d) refl (truth_opposite a x) (choose_2 (truth a d) (truth a g) (truth a x) (truth a y) e))
      (models_more a c3 (c4 ∷ []) (three_from d (opposite g) y _ _ _ refl (truth_opposite a g) refl (choose_3 (truth a d) (truth a g) (truth a x) (truth a y) e))
      (models_one a c4 (three_from d g (opposite y) _ _ _ refl refl (truth_opposite a y) (choose_4 (truth a d) (truth a g) (truth a x) (truth a y) e)))))

  -- parities
  pub even_cons : (b : Bool) (bs : List Bool) → b ≡ is_odd bs → is_odd (b ∷ bs) ≡ false
  even_cons b bs e = odd_cons b bs ∙ cancel b (is_odd bs) e
    where
      cancel : (b o : Bool) → b ≡ o → odd_with b o ≡ false
      cancel true true e = refl
      cancel true false e = absurd (cc e)
      cancel false true e = absurd (cc e)
      cancel false false e = refl

  pub cons_even : (b : Bool) (bs : List Bool) → is_odd (b ∷ bs) ≡ false → b ≡ is_odd bs
  cons_even b bs e = cancel b (is_odd bs) (sym (odd_cons b bs) ∙ e)
    where
      cancel : (b o : Bool) → odd_with b o ≡ false → b ≡ o
      cancel true true e = refl
      cancel true false e = absurd (cc e)
      cancel false true e = absurd (cc e)
      cancel false false e = refl

  pub parity_complete : (g : Lit) (ls : List Lit) → Models a (Listed (even_clauses (g ∷ ls))) → truth a g ≡ is_odd (map (truth a) ls)
  parity_complete g ls m = cons_even (truth a g) (map (truth a) ls) (even_complete a (g ∷ ls) m)

  pub parity_sound : (g : Lit) (ls : List Lit) → truth a g ≡ is_odd (map (truth a) ls) → Models a (Listed (even_clauses (g ∷ ls)))
  parity_sound g ls e = even_sound a (g ∷ ls) (even_cons (truth a g) (map (truth a) ls) e)

  pub equality_complete : (g x y : Lit) → Models a (Listed (even_clauses (opposite g ∷ x ∷ y ∷ []))) → truth a g ≡ agree (truth a x ∷ truth a y ∷ [])
  equality_complete g x y m = sym (not_not (truth a g)) ∙ ap not (sym (truth_opposite a g) ∙ parity_complete (opposite g) (x ∷ y ∷ []) m)

  pub equality_sound : (g x y : Lit) → truth a g ≡ agree (truth a x ∷ truth a y ∷ []) → Models a (Listed (even_clauses (opposite g ∷ x ∷ y ∷ [])))
  equality_sound g x y e = parity_sound (opposite g) (x ∷ y ∷ []) (truth_opposite a g ∙ ap not e ∙ not_not (is_odd (truth a x ∷ truth a y ∷ [])))

  one_complete : (g : Lit) → Models a (Listed ((g ∷ []) ∷ [])) → truth a g ≡ true
  one_complete g m = ⊎_elim (λ t. t) (λ n. absurd (holds_empty a n)) (holds_cases a g [] (m (g ∷ []) (0, refl)))

  none_complete : (g : Lit) → Models a (Listed ((opposite g ∷ []) ∷ [])) → truth a g ≡ false
  none_complete g m = not_true (truth a g) (sym (truth_opposite a g) ∙ one_complete (opposite g) m)

  pub distinct_complete : (g : Lit) (ls : List Lit) → Models a (Listed (distinct_clauses g ls)) → truth a g ≡ are_different (map (truth a) ls)
  distinct_complete g [] m = one_complete g m
  distinct_complete g (x ∷ []) m = one_complete g m
  distinct_complete g (x ∷ y ∷ []) m = parity_complete g (x ∷ y ∷ []) m
  distinct_complete g (x ∷ y ∷ z ∷ ls) m = none_complete g m

  pub distinct_sound : (g : Lit) (ls : List Lit) → truth a g ≡ are_different (map (truth a) ls) → Models a (Listed (distinct_clauses g ls))
  distinct_sound g [] e = models_one a _ (holds_first a g [] e)
  distinct_sound g (x ∷ []) e = models_one a _ (holds_first a g [] e)
  distinct_sound g (x ∷ y ∷ []) e = parity_sound g (x ∷ y ∷ []) e
  distinct_sound g (x ∷ y ∷ z ∷ ls) e = models_one a _ (holds_first a (opposite g) [] (opposite_true g e))

  -- a chain gives the parity
  pub chain_complete : (clauses : List (List Lit)) → Models a (Listed clauses) → (p : Lit) (ls : List Lit) (q : Lit) → IsChain clauses p ls q → truth a q ≡ odd_with (truth a p) (is_odd (map (truth a) ls))
  chain_complete clauses m p [] q e = ap (truth a) (sym e) ∙ sym (alone (truth a p))
    where
      alone : (b : Bool) → odd_with b false ≡ b
      alone true = refl
      alone false = refl
  chain_complete clauses m p (l ∷ ls) q (r, has, rest) =
      chain_complete clauses m r ls q rest
      ∙ ap (λ b. odd_with b (is_odd (map (truth a) ls))) (parity_complete r (p ∷ l ∷ []) (λ c h. m c (has c h)))
      ∙ joined (truth a p) (truth a l) (is_odd (map (truth a) ls))
      ∙ ap (odd_with (truth a p)) (sym (odd_cons (truth a l) (map (truth a) ls)))
    where
      joined : (p l s : Bool) → odd_with (is_odd (p ∷ l ∷ [])) s ≡ odd_with p (odd_with l s)
      joined true true true = refl
      joined true true false = refl
      joined true false true = refl
      joined true false false = refl
      joined false true true = refl
      joined false true false = refl
      joined false false true = refl
      joined false false false = refl

pub map_map : {X Y Z : Type 0} (f : Y → Z) (g : X → Y) (xs : List X) → map f (map g xs) ≡ map (λ x. f (g x)) xs
map_map f g [] = refl
map_map f g (x ∷ xs) = ap (λ ys. f (g x) ∷ ys) (map_map f g xs)

module _ (a : ℕ → Bool) (at : ℕ → Lit) where
  -- the truth values of the arguments
  abbrev given : Node → List Bool
  given n = map (truth a) (map at (arguments_of n))

  -- where the clauses are true, a gate has the value of its shape
  abbrev IsValue : Node → Lit → Type 0
  IsValue (node_of.Const number) g = Unit {0}
  IsValue n g = truth a g ≡ shape_value n (given n)

  pub gate_complete : (clauses : List (List Lit)) → Models a (Listed clauses) → (n : Node) (g : Lit) → IsGate clauses n g (map at (arguments_of n)) → IsValue n g
  gate_complete clauses m node_of.True g gate = one_complete a g (λ c h. m c (gate c h))
  gate_complete clauses m node_of.False g gate = none_complete a g (λ c h. m c (gate c h))
  gate_complete clauses m (node_of.Const number) g gate = tt
  gate_complete clauses m (node_of.Not k) g gate = ap (truth a) gate ∙ truth_opposite a (at k) ∙ ap not (only (truth a (at k)))
    where
      only : (b : Bool) → b ≡ (b && true)
      only true = refl
      only false = refl
  gate_complete clauses m (node_of.And args) g gate = and_complete a g (map at args) (λ c h. m c (gate c h))
  gate_complete clauses m (node_of.Or args) g gate = or_complete a g (map at args) (λ c h. m c (gate c h))
  gate_complete clauses m (node_of.Xor args) g (inl (differ, parity)) = by_chain (map at args) parity
    where
      by_chain : (ls : List Lit) → IsParity clauses g ls → truth a g ≡ is_odd (map (truth a) ls)
      by_chain [] e = absurd e
      by_chain (l ∷ ls) e = chain_complete a clauses m l ls g e ∙ sym (odd_cons (truth a l) (map (truth a) ls))
  gate_complete clauses m (node_of.Xor args) g (inr has) = parity_complete a g (map at args) (λ c h. m c (has c h))
  gate_complete clauses m (node_of.Ite d x y) g gate = choice_complete a g (at d) (at x) (at y) (λ c h. m c (gate c h))
  gate_complete clauses m (node_of.Eq x y) g gate = equality_complete a g (at x) (at y) (λ c h. m c (gate c h))
  gate_complete clauses m (node_of.Distinct args) g gate = distinct_complete a g (map at args) (λ c h. m c (gate c h))

  -- and where it has, the clauses of the shape are true
  pub shape_sound : (n : Node) (g : Lit) → truth a g ≡ shape_value n (given n) → Models a (Listed (shape_clauses n g (map at (arguments_of n))))
  shape_sound node_of.True g e = models_one a (g ∷ []) (holds_first a g [] e)
  shape_sound node_of.False g e = models_one a (opposite g ∷ []) (holds_first a (opposite g) [] (truth_opposite a g ∙ ap not e))
  shape_sound (node_of.Const number) g e = models_none a
  shape_sound (node_of.Not k) g e = models_none a
  shape_sound (node_of.And args) g e = and_sound a g (map at args) e
  shape_sound (node_of.Or args) g e = or_sound a g (map at args) e
  shape_sound (node_of.Xor args) g e = parity_sound a g (map at args) e
  shape_sound (node_of.Ite d x y) g e = choice_sound a g (at d) (at x) (at y) e
  shape_sound (node_of.Eq x y) g e = equality_sound a g (at x) (at y) e
  shape_sound (node_of.Distinct args) g e = distinct_sound a g (map at args) e
