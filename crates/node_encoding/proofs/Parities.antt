-- Parities of literals: what the clauses that rule out an odd number say.
use Rattle.std.proofs.Common.{◌≡◌, ◌∙◌, ◌++◌, ℕ, zero, suc, Bool, true, false, not, List, [], ◌∷◌, ◌⊎◌, inl, inr, ⊎_elim, Some, length, map, refl, sym, ap, subst, append_assoc, append-nil}
use Rattle.y_tree.specs.Meaning.{is_odd}
use Rattle.clause_logic.specs.declared.Lit.{Lit}
use Rattle.clause_logic.specs.Clauses.{opposite, Holds, Listed, Models}
use Rattle.node_encoding.specs.Shapes.{unless, false_only_at}
use Rattle.node_encoding.specs.Gates.{truth, odd_clauses, even_clauses}
use Rattle.node_encoding.proofs.Listing.{listed_back, listed_front, models_one, models_none, models_append, holds_front, holds_back, holds_first, holds_cases, holds_empty, makes_opposite, truth_opposite}
use Rattle.clause_logic.proofs.Lits.{not_not}

-- one truth value or the other, as the first is
abbrev pub odd_with : Bool → Bool → Bool
odd_with true b = not b
odd_with false b = b

pub odd_cons : (b : Bool) (bs : List Bool) → is_odd (b ∷ bs) ≡ odd_with b (is_odd bs)
odd_cons true bs = refl
odd_cons false bs = refl

moved : (a b : Bool) (v : Bool) → odd_with a (not b) ≡ v → odd_with (not a) b ≡ v
moved true b v e = sym (not_not b) ∙ e
moved false b v e = e

-- each combination with the wrong number has its clause
pub odd_listed : (front ls : List Lit) (odd : Bool) (bs : List Bool) → length bs ≡ length ls → odd_with odd (is_odd bs) ≡ true → Listed (odd_clauses front ls odd) (front ++ false_only_at ls bs)
unfolding odd_clauses
odd_listed front [] true [] h e = (zero, ap Some (sym (append-nil front)))
odd_listed front [] false [] h e = absurd (cc e)
odd_listed front [] odd (b ∷ bs) h e = absurd (cc h)
odd_listed front (l ∷ ls) odd [] h e = absurd (cc h)
odd_listed front (l ∷ ls) odd (true ∷ bs) h e =
    let xs = odd_clauses (front ++ opposite l ∷ []) ls (not odd) in
    listed_front xs (odd_clauses (front ++ l ∷ []) ls odd) (front ++ opposite l ∷ false_only_at ls bs)
    (subst (Listed xs) (append_assoc front (opposite l ∷ []) (false_only_at ls bs)) (odd_listed (front ++ opposite l ∷ []) ls (not odd) bs (cc) (moved odd (is_odd bs) true e)))
odd_listed front (l ∷ ls) odd (false ∷ bs) h e =
    let ys = odd_clauses (front ++ l ∷ []) ls odd in
    listed_back (odd_clauses (front ++ opposite l ∷ []) ls (not odd)) ys (front ++ l ∷ false_only_at ls bs)
    (subst (Listed ys) (append_assoc front (l ∷ []) (false_only_at ls bs)) (odd_listed (front ++ l ∷ []) ls odd bs (cc) e))

-- a literal more: its opposite stands in the clause, or it does
module _ (a : ℕ → Bool) (front : List Lit) (l : Lit) (bs : List Bool) (odd : Bool) where
  with_true : (b : Bool) → truth a l ≡ b → Holds a front ⊎ (odd_with odd (is_odd (b ∷ bs)) ≡ false) → Holds a (front ++ opposite l ∷ []) ⊎ (odd_with (not odd) (is_odd bs) ≡ false)
  with_true b e (inl h) = inl (holds_front a front (opposite l ∷ []) h)
  with_true true e (inr h) = inr (moved odd (is_odd bs) false h)
  with_true false e (inr h) = inl (holds_back a front (opposite l ∷ []) (opposite l, inl refl, makes_opposite a l e))

  with_false : (b : Bool) → truth a l ≡ b → Holds a front ⊎ (odd_with odd (is_odd (b ∷ bs)) ≡ false) → Holds a (front ++ l ∷ []) ⊎ (odd_with odd (is_odd bs) ≡ false)
  with_false b e (inl h) = inl (holds_front a front (l ∷ []) h)
  with_false true e (inr h) = inl (holds_back a front (l ∷ []) (holds_first a l [] e))
  with_false false e (inr h) = inr h

-- all clauses are true where the front is, or the number of true literals isn't the one ruled out
pub odd_sound : (a : ℕ → Bool) (front ls : List Lit) (odd : Bool) → Holds a front ⊎ (odd_with odd (is_odd (map (truth a) ls)) ≡ false) → Models a (Listed (odd_clauses front ls odd))
unfolding odd_clauses
odd_sound a front [] true (inl h) = models_one a front h
odd_sound a front [] true (inr h) = absurd (cc h)
odd_sound a front [] false h = models_none a
odd_sound a front (l ∷ ls) odd h =
    models_append a (odd_clauses (front ++ opposite l ∷ []) ls (not odd)) (odd_clauses (front ++ l ∷ []) ls odd)
    (odd_sound a (front ++ opposite l ∷ []) ls (not odd) (with_true a front l (map (truth a) ls) odd (truth a l) refl h))
    (odd_sound a (front ++ l ∷ []) ls odd (with_false a front l (map (truth a) ls) odd (truth a l) refl h))

-- the clause of the truth values that the literals have is false
pub false_there : (a : ℕ → Bool) (ls : List Lit) → Holds a (false_only_at ls (map (truth a) ls)) → ⊥
false_there a [] h = holds_empty a h
false_there a (l ∷ ls) h = ⊎_elim (λ e. never (truth a l) refl e) (λ k. false_there a ls k) (holds_cases a (unless (truth a l) l) (false_only_at ls (map (truth a) ls)) h)
  where
    never : (b : Bool) → truth a l ≡ b → truth a (unless b l) ≡ true → ⊥
    never true e f = absurd (cc (sym f ∙ truth_opposite a l ∙ ap not e))
    never false e f = absurd (cc (sym f ∙ e))

pub length_map : {X Y : Type 0} (f : X → Y) (xs : List X) → length (map f xs) ≡ length xs
length_map f [] = refl
length_map f (x ∷ xs) = ap suc (length_map f xs)

-- an even number of literals are true where the clauses are
pub even_complete : (a : ℕ → Bool) (ls : List Lit) → Models a (Listed (even_clauses ls)) → is_odd (map (truth a) ls) ≡ false
even_complete a ls m = decide (is_odd (map (truth a) ls)) refl
  where
    decide : (b : Bool) → is_odd (map (truth a) ls) ≡ b → is_odd (map (truth a) ls) ≡ false
    decide true e = absurd (false_there a ls (m _ (odd_listed [] ls false (map (truth a) ls) (length_map (truth a) ls) e)))
    decide false e = e

-- and then the clauses are true
pub even_sound : (a : ℕ → Bool) (ls : List Lit) → is_odd (map (truth a) ls) ≡ false → Models a (Listed (even_clauses ls))
even_sound a ls e = odd_sound a [] ls false (inr e)
