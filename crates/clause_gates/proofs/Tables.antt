-- The clauses of the gates.
use Rattle.std.proofs.Common.{◌≡◌, ℕ, zero, suc, ◌+◌, ◌<◌, Bool, true, false, not, ◌&&◌, ◌||◌, cond, List, [], ◌∷◌, refl, sym, ap, ap₂, subst, ⊎_elim, arith, ◌++◌, inl, inr, Result}
use Rattle.std.specs.Prelude.{IfOk}
use Rattle.std.proofs.lemmas.Option.{same_Some}
use Rattle.std.proofs.lemmas.Result.{IfOk-weaker}
use Rattle.clause_logic.specs.declared.Lit.{Lit}
use Rattle.clause_logic.specs.Clauses.{opposite, In, Listed}
use Rattle.clause_gates.specs.Defining.{Covers, and_clauses, xor_clauses, ite_clauses}
use Rattle.clause_gates.specs.declared.defining.Gate.{Gate}
use Rattle.clause_gates.specs.declared.defining.Gate.TheVariants as gate
use Rattle.clause_gates.specs.Gates.{parity_clauses, majority_clauses, choice_clauses, gate_clauses, gate_value, IsOlder}
use Rattle.clause_search.specs.Content.{AllKnown}
use Rattle.y_tree.specs.BitVectors.{differ}
use Rattle.clause_gates.specs.Bits.{value_under, majority}
use Rattle.clause_gates.specs.Circuits.{Agree, IsGate}
use Rattle.clause_gates.specs.Built.{of_var}
use Rattle.clause_gates.proofs.Truths.{iff, value_opposite}
use Rattle.clause_gates.proofs.Growth.{gate_of}

-- the literals of a clause are below
abbrev Below : ℕ → List Lit → Type 0
Below n [] = Unit {0}
Below n (l ∷ ls) = (l.var < n) × Below n ls

-- the literals of all clauses are below
abbrev AllRows : ℕ → List (List Lit) → Type 0
AllRows n [] = Unit {0}
AllRows n (c ∷ cs) = Below n c × AllRows n cs

below_in : (n : ℕ) (c : List Lit) (l : Lit) → Below n c → In l c → l.var < n
below_in n [] l h i = absurd i
below_in n (x ∷ xs) l h i = ⊎_elim (λ (e : x ≡ l). subst (λ (y : Lit). y.var < n) e h.0) (λ k. below_in n xs l h.1 k) i

rows_known : (n : ℕ) (rows : List (List Lit)) → AllRows n rows → AllKnown n rows
rows_known n [] h c lits l at i = absurd (cc at)
rows_known n (r ∷ rows) h zero lits l at i = below_in n r l h.0 (subst (In l) (sym (same_Some r lits at)) i)
rows_known n (r ∷ rows) h (suc c) lits l at i = rows_known n rows h.1 c lits l at i

pub agree_value : (vars : ℕ) (s t : ℕ → Bool) → Agree vars s t → (l : Lit) → l.var < vars → value_under s l ≡ value_under t l
agree_value vars s t a l h = ap (λ x. cond l.positive x (not x)) (a l.var h)

cong3 : {f g h k l m : Bool} (o : Bool → Bool → Bool → Bool) → f ≡ g → h ≡ k → l ≡ m → o f h l ≡ o g k m
cong3 o p q r = cc

and_table : (z x y : Bool) → (((not z || (x || false)) && ((not z || (y || false)) && ((z || (not x || (not y || false))) && true)))) ≡ iff z (x && y)
and_table true true true = refl
and_table true true false = refl
and_table true false true = refl
and_table true false false = refl
and_table false true true = refl
and_table false true false = refl
and_table false false true = refl
and_table false false false = refl

module _ (vars : ℕ) (a b : Lit) (ha : a.var < vars) (hb : b.var < vars) where
  pub and_gate : IsGate vars (λ s. value_under s a && value_under s b) (and_clauses (of_var vars) a b)
  and_gate =
      let la : a.var < vars + 1 = omega arith in
      let lb : b.var < vars + 1 = omega arith in
      let lg : vars < vars + 1 = omega arith in
      gate_of vars (λ s. value_under s a && value_under s b) (and_clauses (of_var vars) a b)
      (λ s t h. ap₂ (λ x y. x && y) (agree_value vars s t h a ha) (agree_value vars s t h b hb))
      (rows_known (vars + 1) (and_clauses (of_var vars) a b) ((lg, (la, tt)), ((lg, (lb, tt)), ((lg, (la, (lb, tt))), tt))))
      (λ s. rw (value_opposite s a, value_opposite s b) (and_table (s vars) (value_under s a) (value_under s b)))

xor_table : (z x y : Bool) → (((not z || (x || (y || false))) && ((not z || (not x || (not y || false))) && ((z || (not x || (y || false))) && ((z || (x || (not y || false))) && true))))) ≡ iff z (differ x y)
xor_table true true true = refl
xor_table true true false = refl
xor_table true false true = refl
xor_table true false false = refl
xor_table false true true = refl
xor_table false true false = refl
xor_table false false true = refl
xor_table false false false = refl

module _ (vars : ℕ) (a b : Lit) (ha : a.var < vars) (hb : b.var < vars) where
  pub xor_gate : IsGate vars (λ s. differ (value_under s a) (value_under s b)) (xor_clauses (of_var vars) a b)
  xor_gate =
      let la : a.var < vars + 1 = omega arith in
      let lb : b.var < vars + 1 = omega arith in
      let lg : vars < vars + 1 = omega arith in
      gate_of vars (λ s. differ (value_under s a) (value_under s b)) (xor_clauses (of_var vars) a b)
      (λ s t h. ap₂ differ (agree_value vars s t h a ha) (agree_value vars s t h b hb))
      (rows_known (vars + 1) (xor_clauses (of_var vars) a b) ((lg, (la, (lb, tt))), ((lg, (la, (lb, tt))), ((lg, (la, (lb, tt))), ((lg, (la, (lb, tt))), tt)))))
      (λ s. rw (value_opposite s a, value_opposite s b) (xor_table (s vars) (value_under s a) (value_under s b)))

mux_table : (z w x y : Bool) → (((not w || (not z || (x || false))) && ((not w || (z || (not x || false))) && ((w || (not z || (y || false))) && ((w || (z || (not y || false))) && ((not z || (x || (y || false))) && ((z || (not x || (not y || false))) && true))))))) ≡ iff z (cond w x y)
mux_table true true true true = refl
mux_table true true true false = refl
mux_table true true false true = refl
mux_table true true false false = refl
mux_table true false true true = refl
mux_table true false true false = refl
mux_table true false false true = refl
mux_table true false false false = refl
mux_table false true true true = refl
mux_table false true true false = refl
mux_table false true false true = refl
mux_table false true false false = refl
mux_table false false true true = refl
mux_table false false true false = refl
mux_table false false false true = refl
mux_table false false false false = refl

module _ (vars : ℕ) (c a b : Lit) (hc : c.var < vars) (ha : a.var < vars) (hb : b.var < vars) where
  pub mux_gate : IsGate vars (λ s. cond (value_under s c) (value_under s a) (value_under s b)) (choice_clauses (of_var vars) c a b)
  mux_gate =
      let lc : c.var < vars + 1 = omega arith in
      let la : a.var < vars + 1 = omega arith in
      let lb : b.var < vars + 1 = omega arith in
      let lg : vars < vars + 1 = omega arith in
      gate_of vars (λ s. cond (value_under s c) (value_under s a) (value_under s b)) (choice_clauses (of_var vars) c a b)
      (λ s t h. cong3 cond (agree_value vars s t h c hc) (agree_value vars s t h a ha) (agree_value vars s t h b hb))
      (rows_known (vars + 1) (choice_clauses (of_var vars) c a b) ((lc, (lg, (la, tt))), ((lc, (lg, (la, tt))), ((lc, (lg, (lb, tt))), ((lc, (lg, (lb, tt))), ((lg, (la, (lb, tt))), ((lg, (la, (lb, tt))), tt)))))))
      (λ s. rw (value_opposite s c, value_opposite s a, value_opposite s b) (mux_table (s vars) (value_under s c) (value_under s a) (value_under s b)))

parity_table : (z x y w : Bool) → (((not z || (x || (y || (w || false)))) && ((not z || (x || (not y || (not w || false)))) && ((not z || (not x || (y || (not w || false)))) && ((not z || (not x || (not y || (w || false)))) && ((z || (not x || (y || (w || false)))) && ((z || (x || (not y || (w || false)))) && ((z || (x || (y || (not w || false)))) && ((z || (not x || (not y || (not w || false)))) && true))))))))) ≡ iff z (differ (differ x y) w)
parity_table true true true true = refl
parity_table true true true false = refl
parity_table true true false true = refl
parity_table true true false false = refl
parity_table true false true true = refl
parity_table true false true false = refl
parity_table true false false true = refl
parity_table true false false false = refl
parity_table false true true true = refl
parity_table false true true false = refl
parity_table false true false true = refl
parity_table false true false false = refl
parity_table false false true true = refl
parity_table false false true false = refl
parity_table false false false true = refl
parity_table false false false false = refl

module _ (vars : ℕ) (a b c : Lit) (ha : a.var < vars) (hb : b.var < vars) (hc : c.var < vars) where
  pub parity_gate : IsGate vars (λ s. differ (differ (value_under s a) (value_under s b)) (value_under s c)) (parity_clauses (of_var vars) a b c)
  parity_gate =
      let la : a.var < vars + 1 = omega arith in
      let lb : b.var < vars + 1 = omega arith in
      let lc : c.var < vars + 1 = omega arith in
      let lg : vars < vars + 1 = omega arith in
      gate_of vars (λ s. differ (differ (value_under s a) (value_under s b)) (value_under s c)) (parity_clauses (of_var vars) a b c)
      (λ s t h. ap₂ differ (ap₂ differ (agree_value vars s t h a ha) (agree_value vars s t h b hb)) (agree_value vars s t h c hc))
      (rows_known (vars + 1) (parity_clauses (of_var vars) a b c) ((lg, (la, (lb, (lc, tt)))), ((lg, (la, (lb, (lc, tt)))), ((lg, (la, (lb, (lc, tt)))), ((lg, (la, (lb, (lc, tt)))), ((lg, (la, (lb, (lc, tt)))), ((lg, (la, (lb, (lc, tt)))), ((lg, (la, (lb, (lc, tt)))), ((lg, (la, (lb, (lc, tt)))), tt)))))))))
      (λ s. rw (value_opposite s a, value_opposite s b, value_opposite s c) (parity_table (s vars) (value_under s a) (value_under s b) (value_under s c)))

majority_table : (z x y w : Bool) → (((z || (not x || (not y || false))) && ((z || (not x || (not w || false))) && ((z || (not y || (not w || false))) && ((not z || (x || (y || false))) && ((not z || (x || (w || false))) && ((not z || (y || (w || false))) && true))))))) ≡ iff z (majority x y w)
majority_table true true true true = refl
majority_table true true true false = refl
majority_table true true false true = refl
majority_table true true false false = refl
majority_table true false true true = refl
majority_table true false true false = refl
majority_table true false false true = refl
majority_table true false false false = refl
majority_table false true true true = refl
majority_table false true true false = refl
majority_table false true false true = refl
majority_table false true false false = refl
majority_table false false true true = refl
majority_table false false true false = refl
majority_table false false false true = refl
majority_table false false false false = refl

module _ (vars : ℕ) (a b c : Lit) (ha : a.var < vars) (hb : b.var < vars) (hc : c.var < vars) where
  pub majority_gate : IsGate vars (λ s. majority (value_under s a) (value_under s b) (value_under s c)) (majority_clauses (of_var vars) a b c)
  majority_gate =
      let la : a.var < vars + 1 = omega arith in
      let lb : b.var < vars + 1 = omega arith in
      let lc : c.var < vars + 1 = omega arith in
      let lg : vars < vars + 1 = omega arith in
      gate_of vars (λ s. majority (value_under s a) (value_under s b) (value_under s c)) (majority_clauses (of_var vars) a b c)
      (λ s t h. cong3 majority (agree_value vars s t h a ha) (agree_value vars s t h b hb) (agree_value vars s t h c hc))
      (rows_known (vars + 1) (majority_clauses (of_var vars) a b c) ((lg, (la, (lb, tt))), ((lg, (la, (lc, tt))), ((lg, (lb, (lc, tt))), ((lg, (la, (lb, tt))), ((lg, (la, (lc, tt))), ((lg, (lb, (lc, tt))), tt)))))))
      (λ s. rw (value_opposite s a, value_opposite s b, value_opposite s c) (majority_table (s vars) (value_under s a) (value_under s b) (value_under s c)))

truth_table : (z : Bool) → ((z || false) && true) ≡ iff z true
truth_table true = refl
truth_table false = refl

pub truth_gate : (vars : ℕ) → IsGate vars (λ s. true) ((of_var vars ∷ []) ∷ [])
truth_gate vars =
    let lg : vars < vars + 1 = omega arith in
    gate_of vars (λ s. true) ((of_var vars ∷ []) ∷ []) (λ s t h. refl) (rows_known (vars + 1) ((of_var vars ∷ []) ∷ []) ((lg, tt), tt)) (λ s. truth_table (s vars))

-- each gate's clauses define it
pub gate_is : (vars : ℕ) (g : Gate) → IsOlder vars g → IsGate vars (λ s. gate_value s g) (gate_clauses (of_var vars) g)
gate_is vars gate.Truth h = truth_gate vars
gate_is vars (gate.And a b) h = and_gate vars a b h.0 h.1
gate_is vars (gate.Xor a b) h = xor_gate vars a b h.0 h.1
gate_is vars (gate.Parity a b c) h = parity_gate vars a b c h.0 h.1 h.2
gate_is vars (gate.Majority a b c) h = majority_gate vars a b c h.0 h.1 h.2
gate_is vars (gate.Choice c a b) h = mux_gate vars c a b h.0 h.1 h.2

-- a gate's clauses that are there cover those among them
pub covered_ok : {E : Type 0} (r : Result Lit E) (clauses : List (List Lit)) (wanted rows : Lit → List (List Lit)) → ((g : Lit) (c : List Lit) → Listed (wanted g) c → Listed (rows g) c)
    → IfOk r (λ g. (c : List Lit) → Listed (rows g) c → Listed clauses c) → IfOk r (λ g. Covers clauses (wanted g))
covered_ok r clauses wanted rows among h =
    IfOk-weaker r (λ g. (c : List Lit) → Listed (rows g) c → Listed clauses c) (λ g. Covers clauses (wanted g)) (λ g there c i. inl (there c (among g c i))) h

pub front_listed : (xs ys : List (List Lit)) (c : List Lit) → Listed xs c → Listed (xs ++ ys) c
front_listed [] ys c (i, at) = absurd (cc at)
front_listed (x ∷ xs) ys c (zero, at) = (zero, at)
front_listed (x ∷ xs) ys c (suc i, at) = let k = front_listed xs ys c (i, at) in (suc k.0, k.1)

-- a clause with a literal and its opposite
pub and_same : (clauses : List (List Lit)) (a b : Lit) → a ≡ b → Covers clauses (and_clauses a a b)
and_same clauses a b e c (zero, at) = inr (subst (λ (x : List Lit). (l : Lit) × In l x × In (opposite l) x) (same_Some _ c at) (a, inr (inl refl), inl refl))
and_same clauses a b e c (suc zero, at) = inr (subst (λ (x : List Lit). (l : Lit) × In l x × In (opposite l) x) (same_Some _ c at) (a, inr (inl (sym e)), inl refl))
and_same clauses a b e c (suc (suc zero), at) = inr (subst (λ (x : List Lit). (l : Lit) × In l x × In (opposite l) x) (same_Some _ c at) (a, inl refl, inr (inl refl)))
and_same clauses a b e c (suc (suc (suc i)), at) = absurd (cc at)

pub ite_same : (clauses : List (List Lit)) (d a b : Lit) → a ≡ b → Covers clauses (ite_clauses a d a b)
ite_same clauses d a b e c (zero, at) = inr (subst (λ (x : List Lit). (l : Lit) × In l x × In (opposite l) x) (same_Some _ c at) (a, inr (inr (inl refl)), inr (inl refl)))
ite_same clauses d a b e c (suc zero, at) = inr (subst (λ (x : List Lit). (l : Lit) × In l x × In (opposite l) x) (same_Some _ c at) (a, inr (inl refl), inr (inr (inl refl))))
ite_same clauses d a b e c (suc (suc zero), at) = inr (subst (λ (x : List Lit). (l : Lit) × In l x × In (opposite l) x) (same_Some _ c at) (a, inr (inr (inl (sym e))), inr (inl refl)))
ite_same clauses d a b e c (suc (suc (suc zero)), at) = inr (subst (λ (x : List Lit). (l : Lit) × In l x × In (opposite l) x) (same_Some _ c at) (a, inr (inl refl), inr (inr (inl (ap opposite (sym e))))))
ite_same clauses d a b e c (suc (suc (suc (suc i))), at) = absurd (cc at)
