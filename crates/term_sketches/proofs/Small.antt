-- A sketch has few parts, and no atoms but those of the literals and truth.
use Rattle.std.proofs.Common.{◌≡◌, ℕ, suc, ◌≤◌, inl, inr, Bool, true, false, not, ◌||◌, List, [], ◌∷◌, length, map, refl, ap, if◌then◌else◌, cond, arith, lit≤}
use Rattle.std.specs.Prelude.{nat_lt}
use Rattle.std.specs.declared.cmp.Ordering.{Ordering}
use Rattle.std.specs.declared.cmp.Ordering.TheVariants.{Less, Equal, Greater}
use Rattle.std.specs.Ordering.{match_ordering}
use Rattle.std.specs.List.{list_any}
use Rattle.std.specs.BTreeSet.{insert_key}
use Rattle.std.specs.Set.{remove_key}
use Rattle.term_shapes.specs.declared.handles.Term.{Term}
use Rattle.term_sketches.specs.declared.items.Literal.{Literal}
use Rattle.term_sketches.specs.declared.items.Sketch.{Sketch}
use Rattle.term_sketches.specs.declared.items.Operator.{Operator}
use Rattle.term_sketches.specs.declared.items.Operator.TheVariants as operator
use Rattle.term_sketches.specs.Sketches.{the_truth, plain, opposite, constant, term_order, literal_order, same_term, same_literal, is_constant, gathered, decides, joined_as, settled, joined, odd_atoms, odd_rest, without_truth, is_odd_negated, parity_of, branched, chosen, all_placed, distinct_of, negated_first, implied, chosen_first, sketch_of}
use Rattle.term_sketches.specs.Valuing.{parts_of, IsAtomOf, AreAtomsOf, SketchesAreSmall, SketchesAreMadeOf}
use Rattle.term_sketches.proofs.Joins.{Each, term_same, each_gathered, each_odd, each_inserted}
use Rattle.term_sketches.proofs.Pairs.{if_cases}

length_inserted : {X : Type 0} (cmp : X → X → Ordering) (x : X) (xs : List X) → length (insert_key cmp xs x) ≤ suc (length xs)
length_inserted cmp x [] = omega arith
length_inserted cmp x (y ∷ ys) =
    let h = length_inserted cmp x ys in
    elim (cmp x y) as (λ o. length (match_ordering o (x ∷ y ∷ ys) (y ∷ ys) (y ∷ insert_key cmp ys x)) ≤ suc (suc (length ys)))
    [ Less ↦ omega arith | Equal ↦ omega arith | Greater ↦ omega (arith, h) ]

length_removed : {X : Type 0} (p : X → Bool) (xs : List X) → length (remove_key p xs) ≤ length xs
length_removed p [] = omega arith
length_removed p (y ∷ ys) =
    let h = length_removed p ys in
    elim (p y) as (λ b. length (cond b ys (y ∷ remove_key p ys)) ≤ suc (length ys)) [ true ↦ omega arith | false ↦ omega (arith, h) ]

length_gathered : (u : Literal) (ls : List Literal) → length (gathered u ls) ≤ length ls
length_gathered u [] = omega arith
length_gathered u (l ∷ ls) =
    let h = length_gathered u ls in
    let i = length_inserted literal_order l (gathered u ls) in
    elim (same_literal l u) as (λ b. length (if b then gathered u ls else insert_key literal_order (gathered u ls) l) ≤ suc (length ls)) [ true ↦ omega (arith, h) | false ↦ omega (arith, h, i) ]

length_odd : (ls : List Literal) → length (odd_atoms ls) ≤ length ls
length_odd [] = omega arith
length_odd (l ∷ ls) =
    let h = length_odd ls in
    let i = length_inserted term_order l.atom (odd_atoms ls) in
    let j = length_removed (same_term l.atom) (odd_atoms ls) in
    elim (list_any (same_term l.atom) (odd_atoms ls)) as (λ b. length (if b then remove_key (same_term l.atom) (odd_atoms ls) else insert_key term_order (odd_atoms ls) l.atom) ≤ suc (length ls))
    [ true ↦ omega (arith, h, j) | false ↦ omega (arith, h, i) ]

length_placed : (ls : List Literal) → length (all_placed ls) ≤ length ls
length_placed [] = omega arith
length_placed (l ∷ ls) = omega (arith, length_placed ls, length_inserted term_order l.atom (all_placed ls))

length_plain : (ts : List Term) → length (map plain ts) ≡ length ts
length_plain [] = refl
length_plain (t ∷ ts) = ap suc (length_plain ts)

-- the sketch has at most so many parts
abbrev IsSmall : ℕ → Sketch → Type 0
IsSmall n s = length (parts_of s) ≤ n

small_joined_as : (b : Bool) (ls : List Literal) → IsSmall (suc (length ls)) (joined_as b ls)
small_joined_as true ls = omega arith
small_joined_as false ls = omega arith

small_settled : (b : Bool) (ls : List Literal) → IsSmall (suc (length ls)) (settled b ls)
small_settled b [] = omega arith
small_settled b (l ∷ []) = omega arith
small_settled b (l ∷ m ∷ ls) = if_cases (IsSmall (suc (length (l ∷ m ∷ ls)))) (decides b (l ∷ m ∷ ls)) _ _ (λ h. omega arith) (λ h. small_joined_as b (l ∷ m ∷ ls))

small_joined : (b : Bool) (ls : List Literal) → IsSmall (suc (length ls)) (joined b ls)
small_joined b ls = omega (arith, small_settled b (gathered (constant b) ls), length_gathered (constant b) ls)

small_rest : (b : Bool) (ts : List Term) → IsSmall (suc (length ts)) (odd_rest b ts)
small_rest b [] = omega arith
small_rest b (t ∷ []) = omega arith
small_rest b (t ∷ u ∷ []) = omega arith
small_rest b (t ∷ u ∷ w ∷ ts) = omega (arith, length_plain (t ∷ u ∷ w ∷ ts))

small_without : (b : Bool) (ts : List Term) → IsSmall (suc (length ts)) (without_truth b ts)
small_without b [] = small_rest b []
small_without b (t ∷ ts) = if_cases (IsSmall (suc (suc (length ts)))) (same_term t the_truth) _ _ (λ h. omega (arith, small_rest (not b) ts)) (λ h. small_rest b (t ∷ ts))

small_parity : (b : Bool) (ls : List Literal) → IsSmall (suc (length ls)) (parity_of b ls)
small_parity b ls = omega (arith, small_without (if b then not (is_odd_negated ls) else is_odd_negated ls) (odd_atoms ls), length_odd ls)

small_branched : (x : Term) (a b : Literal) → IsSmall 3 (branched x a b)
small_branched x a b =
    if_cases (IsSmall 3) (same_literal a b) _ _ (λ h. lit≤ tt)
    (λ h. if_cases (IsSmall 3) (is_constant a) _ _ (λ i. small_joined a.negated (record { atom = x; negated = a.negated } ∷ b ∷ []))
    (λ i. if_cases (IsSmall 3) (is_constant b) _ _ (λ j. small_joined b.negated (record { atom = x; negated = not b.negated } ∷ a ∷ []))
    (λ j. if_cases (IsSmall 3) (same_term a.atom b.atom) _ _ (λ l. small_parity true (plain x ∷ a ∷ [])) (λ l. lit≤ tt))))

small_chosen : (c a b : Literal) → IsSmall 3 (chosen c a b)
small_chosen c a b =
    if_cases (IsSmall 3) (is_constant c) _ _ (λ h. lit≤ tt)
    (λ h. if_cases (IsSmall 3) c.negated _ _ (λ n. small_branched c.atom b a) (λ n. small_branched c.atom a b))

small_distinct : (truths : Bool) (ls : List Literal) → IsSmall (suc (length ls)) (distinct_of truths ls)
small_distinct truths [] = omega arith
small_distinct truths (l ∷ []) = omega arith
small_distinct truths (l ∷ m ∷ []) = small_parity false (l ∷ m ∷ [])
small_distinct truths (l ∷ m ∷ n ∷ ls) =
    if_cases (IsSmall (suc (length (l ∷ m ∷ n ∷ ls)))) (truths || nat_lt (length (all_placed (l ∷ m ∷ n ∷ ls))) (length (l ∷ m ∷ n ∷ ls))) _ _ (λ h. omega arith)
    (λ h. omega (arith, length_plain (all_placed (l ∷ m ∷ n ∷ ls)), length_placed (l ∷ m ∷ n ∷ ls)))

small_implied : (ls : List Literal) → IsSmall (suc (length ls)) (implied ls)
small_implied [] = omega arith
small_implied (l ∷ []) = omega arith
small_implied (l ∷ m ∷ []) = small_joined false (opposite l ∷ m ∷ [])
small_implied (l ∷ m ∷ n ∷ ls) = omega arith

small_negated : (ls : List Literal) → IsSmall (suc (length ls)) (negated_first ls)
small_negated [] = omega arith
small_negated (l ∷ ls) = omega arith

small_first : (ls : List Literal) → IsSmall (suc (length ls)) (chosen_first ls)
small_first [] = omega arith
small_first (l ∷ []) = omega arith
small_first (l ∷ m ∷ []) = omega arith
small_first (l ∷ m ∷ n ∷ []) = omega (arith, small_chosen l m n)
small_first (l ∷ m ∷ n ∷ o ∷ ls) = omega arith

pub sketches_small : SketchesAreSmall
sketches_small operator.Not truths ls = small_negated ls
sketches_small operator.And truths ls = small_joined true ls
sketches_small operator.Or truths ls = small_joined false ls
sketches_small operator.Xor truths ls = small_parity false ls
sketches_small operator.Implies truths ls = small_implied ls
sketches_small operator.Iff truths ls = small_parity true ls
sketches_small operator.Ite truths ls = small_first ls
sketches_small operator.Eq truths ls = small_parity true ls
sketches_small operator.Neq truths ls = small_parity false ls
sketches_small operator.Distinct truths ls = small_distinct truths ls

module _ (P : Term → Type 0) (truth_has : P the_truth) where
  -- the literal's atom has it
  abbrev Has : Literal → Type 0
  Has l = P l.atom

  -- each part's atom has it
  abbrev IsMade : Sketch → Type 0
  IsMade s = Each Has (parts_of s)

  each_plain : (ts : List Term) → Each P ts → Each Has (map plain ts)
  each_plain [] es = tt
  each_plain (t ∷ ts) es = (es.0, each_plain ts es.1)

  each_all : (ls : List Literal) → Each Has ls → Each P (all_placed ls)
  each_all [] es = tt
  each_all (l ∷ ls) es = each_inserted term_order term_same P l.atom (all_placed ls) es.0 (each_all ls es.1)

  made_as : (b : Bool) (ls : List Literal) → Each Has ls → IsMade (joined_as b ls)
  made_as true ls es = es
  made_as false ls es = es

  made_settled : (b : Bool) (ls : List Literal) → Each Has ls → IsMade (settled b ls)
  made_settled b [] es = (truth_has, tt)
  made_settled b (l ∷ []) es = es
  made_settled b (l ∷ m ∷ ls) es = if_cases IsMade (decides b (l ∷ m ∷ ls)) _ _ (λ h. (truth_has, tt)) (λ h. made_as b (l ∷ m ∷ ls) es)

  made_joined : (b : Bool) (ls : List Literal) → Each Has ls → IsMade (joined b ls)
  made_joined b ls es = made_settled b (gathered (constant b) ls) (each_gathered Has (constant b) ls es)

  made_rest : (b : Bool) (ts : List Term) → Each P ts → IsMade (odd_rest b ts)
  made_rest b [] es = (truth_has, tt)
  made_rest b (t ∷ []) es = es
  made_rest b (t ∷ u ∷ []) es = es
  made_rest b (t ∷ u ∷ w ∷ ts) es = each_plain (t ∷ u ∷ w ∷ ts) es

  made_without : (b : Bool) (ts : List Term) → Each P ts → IsMade (without_truth b ts)
  made_without b [] es = (truth_has, tt)
  made_without b (t ∷ ts) es = if_cases IsMade (same_term t the_truth) _ _ (λ h. made_rest (not b) ts es.1) (λ h. made_rest b (t ∷ ts) es)

  made_parity : (b : Bool) (ls : List Literal) → Each Has ls → IsMade (parity_of b ls)
  made_parity b ls es = made_without (if b then not (is_odd_negated ls) else is_odd_negated ls) (odd_atoms ls) (each_odd P ls es)

  made_branched : (x : Term) (a b : Literal) → P x → Has a → Has b → IsMade (branched x a b)
  made_branched x a b p q r =
      if_cases IsMade (same_literal a b) _ _ (λ h. (q, tt))
      (λ h. if_cases IsMade (is_constant a) _ _ (λ i. made_joined a.negated (record { atom = x; negated = a.negated } ∷ b ∷ []) (p, (r, tt)))
      (λ i. if_cases IsMade (is_constant b) _ _ (λ j. made_joined b.negated (record { atom = x; negated = not b.negated } ∷ a ∷ []) (p, (q, tt)))
      (λ j. if_cases IsMade (same_term a.atom b.atom) _ _ (λ l. made_parity true (plain x ∷ a ∷ []) (p, (q, tt))) (λ l. (p, (q, (r, tt)))))))

  one_of_two : (n : Bool) (a b : Literal) → Has a → Has b → Has (if n then b else a)
  one_of_two true a b p q = q
  one_of_two false a b p q = p

  made_chosen : (c a b : Literal) → Has c → Has a → Has b → IsMade (chosen c a b)
  made_chosen c a b p q r =
      if_cases IsMade (is_constant c) _ _ (λ h. (one_of_two c.negated a b q r, tt))
      (λ h. if_cases IsMade c.negated _ _ (λ n. made_branched c.atom b a p r q) (λ n. made_branched c.atom a b p q r))

  made_distinct : (truths : Bool) (ls : List Literal) → Each Has ls → IsMade (distinct_of truths ls)
  made_distinct truths [] es = (truth_has, tt)
  made_distinct truths (l ∷ []) es = (truth_has, tt)
  made_distinct truths (l ∷ m ∷ []) es = made_parity false (l ∷ m ∷ []) es
  made_distinct truths (l ∷ m ∷ n ∷ ls) es =
      if_cases IsMade (truths || nat_lt (length (all_placed (l ∷ m ∷ n ∷ ls))) (length (l ∷ m ∷ n ∷ ls))) _ _ (λ h. (truth_has, tt))
      (λ h. each_plain (all_placed (l ∷ m ∷ n ∷ ls)) (each_all (l ∷ m ∷ n ∷ ls) es))

  made_implied : (ls : List Literal) → Each Has ls → IsMade (implied ls)
  made_implied [] es = (truth_has, tt)
  made_implied (l ∷ []) es = (truth_has, tt)
  made_implied (l ∷ m ∷ []) es = made_joined false (opposite l ∷ m ∷ []) es
  made_implied (l ∷ m ∷ n ∷ ls) es = (truth_has, tt)

  made_negated : (ls : List Literal) → Each Has ls → IsMade (negated_first ls)
  made_negated [] es = (truth_has, tt)
  made_negated (l ∷ ls) es = (es.0, tt)

  made_first : (ls : List Literal) → Each Has ls → IsMade (chosen_first ls)
  made_first [] es = (truth_has, tt)
  made_first (l ∷ []) es = (truth_has, tt)
  made_first (l ∷ m ∷ []) es = (truth_has, tt)
  made_first (l ∷ m ∷ n ∷ []) es = made_chosen l m n es.0 es.1.0 es.1.1.0
  made_first (l ∷ m ∷ n ∷ o ∷ ls) es = (truth_has, tt)

  made : (o : Operator) (truths : Bool) (ls : List Literal) → Each Has ls → IsMade (sketch_of o truths ls)
  made operator.Not truths ls es = made_negated ls es
  made operator.And truths ls es = made_joined true ls es
  made operator.Or truths ls es = made_joined false ls es
  made operator.Xor truths ls es = made_parity false ls es
  made operator.Implies truths ls es = made_implied ls es
  made operator.Iff truths ls es = made_parity true ls es
  made operator.Ite truths ls es = made_first ls es
  made operator.Eq truths ls es = made_parity true ls es
  made operator.Neq truths ls es = made_parity false ls es
  made operator.Distinct truths ls es = made_distinct truths ls es

truth_of_all : (ls : List Literal) → IsAtomOf ls the_truth
truth_of_all [] = refl
truth_of_all (l ∷ ls) = inr (truth_of_all ls)

one_more : (x : Literal) (ls ms : List Literal) → Each (λ (l : Literal). IsAtomOf ls l.atom) ms → Each (λ (l : Literal). IsAtomOf (x ∷ ls) l.atom) ms
one_more x ls [] es = tt
one_more x ls (m ∷ ms) es = (inr es.0, one_more x ls ms es.1)

each_its_own : (ls : List Literal) → Each (λ (l : Literal). IsAtomOf ls l.atom) ls
each_its_own [] = tt
each_its_own (l ∷ ls) = (inl refl, one_more l ls ls (each_its_own ls))

each_are : (ls ms : List Literal) → Each (λ (l : Literal). IsAtomOf ls l.atom) ms → AreAtomsOf ls ms
each_are ls [] es = tt
each_are ls (m ∷ ms) es = (es.0, each_are ls ms es.1)

pub sketches_made : SketchesAreMadeOf
sketches_made o truths ls = each_are ls (parts_of (sketch_of o truths ls)) (made (IsAtomOf ls) (truth_of_all ls) o truths ls (each_its_own ls))
