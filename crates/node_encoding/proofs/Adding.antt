-- Clauses that are added to a search, one after another.
use Rattle.std.proofs.Common.{◌≡◌, ◌∙◌, ◌+◌, ◌-◌, ◌<◌, ◌≤◌, ◌++◌, ℕ, zero, suc, Bool, true, false, not, List, [], ◌∷◌, ◌⊎◌, inl, inr, ⊎_elim, Some, length, map, take, drop, get_or, refl, sym, ap, subst, arith, append_assoc, append-nil}
use Rattle.std.specs.Prelude.{slice_get}
use Rattle.std.proofs.Math.Seq.{drop-cons}
use Rattle.std.proofs.lemmas.List.{take_all}
use Rattle.clause_logic.specs.declared.Lit.{Lit}
use Rattle.clause_logic.specs.Clauses.{opposite, In}
use Rattle.clause_search.specs.Content.{Stacked}
use Rattle.node_encoding.specs.Gates.{adding, odd_clauses}
use Rattle.node_encoding.proofs.Gets.{length_pushed, map_more}

pub in_push_cases : (xs : List Lit) (x l : Lit) → In l (xs ++ x ∷ []) → (x ≡ l) ⊎ In l xs
in_push_cases [] x l h = ⊎_elim inl (λ k. inr k) h
in_push_cases (y ∷ xs) x l h = ⊎_elim (λ e. inr (inl e)) (λ k. ⊎_elim inl (λ g. inr (inr g)) (in_push_cases xs x l k)) h

pub in_get : (xs : List Lit) (i : ℕ) (d : Lit) → i < length xs → In (get_or xs i d) xs
in_get [] i d h = absurd (omega (arith, h))
in_get (x ∷ xs) zero d h = inl refl
in_get (x ∷ xs) (suc i) d h = inr (in_get xs i d (omega (arith, h)))

-- what holds of each literal's variable holds of one more
pub below_push : (n : ℕ) (xs : List Lit) (x : Lit) → ((l : Lit) → In l xs → l.var < n) → x.var < n → (l : Lit) → In l (xs ++ x ∷ []) → l.var < n
below_push n xs x h k l i = ⊎_elim (λ e. subst (λ z. z.var < n) e k) (h l) (in_push_cases xs x l i)

pub below_opposites : (n : ℕ) (xs : List Lit) → ((l : Lit) → In l xs → l.var < n) → (l : Lit) → In l (map opposite xs) → l.var < n
below_opposites n [] h l i = absurd i
below_opposites n (x ∷ xs) h l (inl e) = subst (λ z. z.var < n) e (h x (inl refl))
below_opposites n (x ∷ xs) h l (inr k) = below_opposites n xs (λ m j. h m (inr j)) l k

pub adding_twice : (s : Stacked) (xs ys : List (List Lit)) → adding (adding s xs) ys ≡ adding s (xs ++ ys)
adding_twice s xs ys = ap (λ (w : List (List Lit)). let r : Stacked = record s { content = record s.content { clauses = w } } in r) (append_assoc s.content.clauses xs ys)

pub adding_none : (s : Stacked) → s ≡ adding s []
adding_none s = ap (λ (w : List (List Lit)). let r : Stacked = record s { content = record s.content { clauses = w } } in r) (sym (append-nil s.content.clauses))

drop_all : (n : ℕ) (xs : List Lit) → n ≡ length xs → drop n xs ≡ []
drop_all zero [] h = refl
drop_all (suc n) [] h = refl
drop_all zero (x ∷ xs) h = absurd (omega (arith, h))
drop_all (suc n) (x ∷ xs) h = drop_all n xs (omega (arith, h))

-- all literals are chosen
pub forbids_odd : (s : Stacked) (front lits : List Lit) (odd : Bool) → odd ≡ true → length front ≡ length lits → adding s (front ∷ []) ≡ adding s (odd_clauses front (drop (length front) lits) odd)
unfolding odd_clauses
forbids_odd s front lits odd e h = ap (adding s) (sym (ap (λ b. odd_clauses front (drop (length front) lits) b) e ∙ ap (λ ls. odd_clauses front ls true) (drop_all (length front) lits h)))

pub forbids_even : (s : Stacked) (front lits : List Lit) (odd : Bool) → odd ≡ false → length front ≡ length lits → s ≡ adding s (odd_clauses front (drop (length front) lits) odd)
unfolding odd_clauses
forbids_even s front lits odd e h = adding_none s ∙ ap (adding s) (sym (ap (λ b. odd_clauses front (drop (length front) lits) b) e ∙ ap (λ ls. odd_clauses front ls false) (drop_all (length front) lits h)))

-- one more is
pub forbids_more : (s one two : Stacked) (front lits : List Lit) (odd : Bool) (lit d : Lit) → length front < length lits → lit ≡ get_or lits (length front) d
    → one ≡ adding s (odd_clauses (front ++ opposite lit ∷ []) (drop (length (front ++ opposite lit ∷ [])) lits) (not odd))
    → two ≡ adding one (odd_clauses (front ++ lit ∷ []) (drop (length (front ++ lit ∷ [])) lits) odd)
    → two ≡ adding s (odd_clauses front (drop (length front) lits) odd)
unfolding odd_clauses
forbids_more s one two front lits odd lit d h is first second =
    let tail : List Lit = drop (suc (length front)) lits in
    let at : drop (length front) lits ≡ lit ∷ tail = drop-cons lits (length front) d h ∙ ap (λ z. z ∷ tail) (sym is) in
    let rest : (x : Lit) → drop (length (front ++ x ∷ [])) lits ≡ tail = λ x. ap (λ n. drop n lits) (length_pushed front x ∙ plus_one (length front)) in
    second
    ∙ ap (λ w. adding w (odd_clauses (front ++ lit ∷ []) (drop (length (front ++ lit ∷ [])) lits) odd)) first
    ∙ adding_twice s _ _
    ∙ ap (λ ls. adding s (odd_clauses (front ++ opposite lit ∷ []) ls (not odd) ++ odd_clauses (front ++ lit ∷ []) (drop (length (front ++ lit ∷ [])) lits) odd)) (rest (opposite lit))
    ∙ ap (λ ls. adding s (odd_clauses (front ++ opposite lit ∷ []) tail (not odd) ++ odd_clauses (front ++ lit ∷ []) ls odd)) (rest lit)
    ∙ ap (λ ls. adding s (odd_clauses front ls odd)) (sym at)
  where
    plus_one : (n : ℕ) → n + 1 ≡ suc n
    plus_one n = omega arith

-- the same, where the literal is read at a place and the clauses are named
pub forbids_at : (s one two : Stacked) (front lits : List Lit) (odd : Bool) (n : ℕ) (d : Lit) (first middle second : List Lit) → length front < length lits → n ≡ length front
    → first ≡ front ++ opposite (get_or lits n d) ∷ [] → middle ≡ front → second ≡ middle ++ get_or lits n d ∷ []
    → one ≡ adding s (odd_clauses first (drop (length first) lits) (not odd))
    → two ≡ adding one (odd_clauses second (drop (length second) lits) odd)
    → two ≡ adding s (odd_clauses front (drop (length front) lits) odd)
forbids_at s one two front lits odd n d first middle second h is f m g p q =
    forbids_more s one two front lits odd (get_or lits n d) d h (ap (λ k. get_or lits k d) is)
    (p ∙ ap (λ w. adding s (odd_clauses w (drop (length w) lits) (not odd))) f)
    (q ∙ ap (λ w. adding one (odd_clauses w (drop (length w) lits) odd)) (g ∙ ap (λ w. w ++ get_or lits n d ∷ []) m))

-- the last element is taken off again
pub popped : (front : List Lit) (x : Lit) (w v : List Lit) (n : ℕ) → n ≡ length w → w ≡ front ++ x ∷ [] → v ≡ take (n - 1) w → v ≡ front
popped front x w v n m e f = f ∙ ap (λ k. take (k - 1) w) m ∙ ap (λ u. take (length u - 1) u) e ∙ cut front x
  where
    cut : (front : List Lit) (x : Lit) → take (length (front ++ x ∷ []) - 1) (front ++ x ∷ []) ≡ front
    cut front x = ap (λ n. take n (front ++ x ∷ [])) (less_one front x) ∙ cut_at front x
      where
        less_one : (front : List Lit) (x : Lit) → length (front ++ x ∷ []) - 1 ≡ length front
        less_one front x = omega (arith, length_pushed front x)

        cut_at : (front : List Lit) (x : Lit) → take (length front) (front ++ x ∷ []) ≡ front
        cut_at [] x = refl
        cut_at (y ∷ front) x = ap (λ ls. y ∷ ls) (cut_at front x)

-- a clause for each argument
pub each_more : (f : Lit → List Lit) (s now later : Stacked) (xs : List Lit) (i : ℕ) (x : Lit) → slice_get xs i ≡ Some x → now ≡ adding s (map f (take i xs)) → later ≡ adding now (f x ∷ []) → later ≡ adding s (map f (take (i + 1) xs))
each_more f s now later xs i x h known grown =
    grown ∙ ap (λ w. adding w (f x ∷ [])) known ∙ adding_twice s (map f (take i xs)) (f x ∷ []) ∙ ap (adding s) (map_more f xs i x (map f (take i xs)) (map f (take i xs) ++ f x ∷ []) h refl refl)

pub each_done : (f : Lit → List Lit) (s now later : Stacked) (xs : List Lit) (i : ℕ) (last : List Lit) → length xs ≤ i → now ≡ adding s (map f (take i xs)) → later ≡ adding now (last ∷ []) → later ≡ adding s (map f xs ++ last ∷ [])
each_done f s now later xs i last h known grown =
    grown ∙ ap (λ w. adding w (last ∷ [])) known ∙ adding_twice s (map f (take i xs)) (last ∷ []) ∙ ap (λ ls. adding s (map f ls ++ last ∷ [])) (take_all i xs h)

-- what a list has where it ends
abbrev pub no_lit : Lit
no_lit = record { var = 0; positive = false }

-- the variables of a few literals
pub below_one : (m n : ℕ) (x : Lit) → m ≡ n → x.var < n → (l : Lit) → (x ≡ l) ⊎ ⊥ → l.var < m
below_one m n x e h l (inl same) = subst (λ z. z.var < m) same (omega (arith, e, h))
below_one m n x e h l (inr k) = absurd k

pub below_two : (m n : ℕ) (x y : Lit) → m ≡ n → x.var < n → y.var < n → (l : Lit) → (x ≡ l) ⊎ ((y ≡ l) ⊎ ⊥) → l.var < m
below_two m n x y e h k l (inl same) = subst (λ z. z.var < m) same (omega (arith, e, h))
below_two m n x y e h k l (inr i) = below_one m n y e k l i

pub below_three : (m n : ℕ) (x y z : Lit) → m ≡ n → x.var < n → y.var < n → z.var < n → (l : Lit) → (x ≡ l) ⊎ ((y ≡ l) ⊎ ((z ≡ l) ⊎ ⊥)) → l.var < m
below_three m n x y z e h k j l (inl same) = subst (λ w. w.var < m) same (omega (arith, e, h))
below_three m n x y z e h k j l (inr i) = below_two m n y z e k j l i

pub opposite_below : (n : ℕ) (x y : Lit) → y ≡ opposite x → x.var < n → y.var < n
opposite_below n x y e h = subst (λ z. z.var < n) (sym e) h

-- the clause whose first literal and others are known
pub below_clause : (m n : ℕ) (w : List Lit) (x : Lit) (xs : List Lit) → m ≡ n → w ≡ x ∷ xs → x.var < n → ((l : Lit) → In l xs → l.var < n) → (l : Lit) → In l w → l.var < m
below_clause m n w x xs e f h k l i = split l (subst (In l) f i)
  where
    split : (l : Lit) → (x ≡ l) ⊎ In l xs → l.var < m
    split l (inl same) = subst (λ z. z.var < m) same (omega (arith, e, h))
    split l (inr j) = let one = k l j in omega (arith, e, one)

-- the gate and an argument
module _ (n : ℕ) (gate : Lit) (args : List Lit) (known : (l : Lit) → In l (gate ∷ args) → l.var < n) where
  pub gate_known : gate.var < n
  gate_known = known gate (inl refl)

  pub arg_known : (i : ℕ) → i < length args → (get_or args i no_lit).var < n
  arg_known i h = known (get_or args i no_lit) (inr (in_get args i no_lit h))
