-- What the gates of a circuit say of its clauses stays.
use Rattle.std.proofs.Common.{◌≡◌, ◌∙◌, ℕ, zero, suc, ◌+◌, ◌<◌, ◌≤◌, Bool, true, List, [], ◌∷◌, ◌++◌, ◌⊎◌, take, drop, length, Option, Some, None, refl, sym, ap, subst, inl, inr, ⊎_elim, arith}
use Rattle.std.specs.Prelude.{slice_get}
use Rattle.std.proofs.lemmas.List.{take-append-drop, length-append, take_all}
use Rattle.std.proofs.lemmas.Option.{same_Some}
use Rattle.clause_logic.specs.declared.Lit.{Lit}
use Rattle.clause_logic.specs.Clauses.{In, Models, Listed}
use Rattle.clause_search.specs.Content.{Stacked, AllKnown}
use Rattle.clause_gates.specs.declared.defining.Gate.{Gate}
use Rattle.clause_gates.specs.Gates.{gate_clauses, gate_value, IsOlder}
use Rattle.clause_gates.specs.Built.{Built, IsCircuit, HasGate, of_var, with_var, with_clause, with_clauses}
use Rattle.clause_gates.specs.Circuits.{Satisfies}
use Rattle.clause_gates.proofs.Growth.{get_append, get_after, get_behind, with_gate}
use Rattle.clause_gates.proofs.Tables.{front_listed, gate_is}

get_last : {X : Type 0} (xs : List X) (y : X) (i : ℕ) (x : X) → slice_get (xs ++ y ∷ []) i ≡ Some x → (slice_get xs i ≡ Some x) ⊎ ((i ≡ length xs) × (y ≡ x))
get_last [] y zero x h = inr (refl, same_Some y x h)
get_last [] y (suc i) x h = absurd (cc h)
get_last (z ∷ xs) y zero x h = inl h
get_last (z ∷ xs) y (suc i) x h = ⊎_elim inl (λ e. inr (ap suc e.0, e.1)) (get_last xs y i x h)

pub get_end : {X : Type 0} (xs : List X) (y : X) → slice_get (xs ++ y ∷ []) (length xs) ≡ Some y
get_end [] y = refl
get_end (z ∷ xs) y = get_end xs y

back_listed : (xs ys : List (List Lit)) (c : List Lit) → Listed ys c → Listed (xs ++ ys) c
back_listed xs ys c (i, at) = get_behind xs ys i c at

take_listed : (rows : List (List Lit)) (k : ℕ) (c : List Lit) → Listed (take k rows) c → Listed rows c
take_listed rows k c i = subst (λ cs. Listed cs c) (take-append-drop k rows) (front_listed (take k rows) (drop k rows) c i)

known_both : (m n : ℕ) (xs ys : List (List Lit)) → m ≤ n → AllKnown m xs → ((c : List Lit) (l : Lit) → Listed ys c → In l c → l.var < n) → AllKnown n (xs ++ ys)
known_both m n xs ys h old new i c l at inside =
    ⊎_elim
    (λ e. let below : l.var < m = old e.0 c l e.1 inside in omega (arith, below, h))
    (λ e. new c l e inside)
    (get_after xs ys i c at)

gate_again : (v w : ℕ) (g h : Gate) (c : List Lit) → v ≡ w → g ≡ h → Listed (gate_clauses (of_var w) h) c → Listed (gate_clauses (of_var v) g) c
gate_again v w g h c e f i = rw (e, f) i

older_again : (v w : ℕ) (g h : Gate) → v ≡ w → g ≡ h → IsOlder v g → IsOlder w h
older_again v w g h e f i = subst (λ x. IsOlder x h) e (subst (IsOlder v) f i)

module _ (c : Built) (is : IsCircuit c) where
  pub var_keeps : IsCircuit (with_var c)
  var_keeps = record {
    count = length-append c.gates (None ∷ []) ∙ omega (arith, is.count);
    known = λ i k l at inside. let below : l.var < c.content.vars = is.known i k l at inside in omega (arith, below);
    older = λ v g h. ⊎_elim (is.older v g) (λ e. absurd (cc e.1)) (get_last c.gates None v (Some g) h);
    there = is.there;
    only = λ k i. ⊎_elim inl (λ e. inr (e.0, e.1, get_append c.gates (None ∷ []) e.0 (Some e.1) e.2, e.3)) (is.only k i);
    all = λ w v g h k i. ⊎_elim (λ e. is.all w v g e k i) (λ e. absurd (cc e.1)) (get_last c.gates None v (Some g) h);
  }

  pub clause_keeps : (ls : List Lit) → ((l : Lit) → In l ls → l.var < c.content.vars) → IsCircuit (with_clause c ls)
  clause_keeps ls below = record {
    count = is.count;
    known = known_both c.content.vars c.content.vars c.content.clauses (ls ∷ []) (omega arith) is.known (λ k l i inside. below l (subst (In l) (sym (single ls k i)) inside));
    older = is.older;
    there = λ k i. ⊎_elim (λ e. front_listed c.content.clauses (ls ∷ []) k (is.there k e)) (λ e. back_listed c.content.clauses (ls ∷ []) k e) (get_after c.given (ls ∷ []) i.0 k i.1);
    only = λ k i. ⊎_elim
        (λ e. ⊎_elim (λ o. inl (front_listed c.given (ls ∷ []) k o)) inr (is.only k e))
        (λ e. inl (back_listed c.given (ls ∷ []) k e))
        (get_after c.content.clauses (ls ∷ []) i.0 k i.1);
    all = λ w v g h k i. front_listed c.content.clauses (ls ∷ []) k (is.all w v g h k i);
  }
    where
      single : (ls k : List Lit) → Listed (ls ∷ []) k → ls ≡ k
      single ls k (zero, at) = same_Some ls k at
      single ls k (suc i, at) = absurd (cc at)

  pub gate_keeps : (g : Gate) (k : ℕ) (w : Bool) → IsOlder c.content.vars g → (w ≡ true → (c.whole ≡ true) × (take k (gate_clauses (of_var c.content.vars) g) ≡ gate_clauses (of_var c.content.vars) g)) → IsCircuit (with_gate c g k w)
  gate_keeps g k w older full =
      let rows : List (List Lit) = gate_clauses (of_var c.content.vars) g in
      let gate = gate_is c.content.vars g older in
      record {
        count = length-append c.gates (Some g ∷ []) ∙ omega (arith, is.count);
        known = known_both c.content.vars (c.content.vars + 1) c.content.clauses (take k rows) (omega arith) is.known (λ d l i inside. let j = take_listed rows k d i in gate.known j.0 d l j.1 inside);
        older = λ v h has. ⊎_elim (is.older v h) (λ e. older_again c.content.vars v g h (sym is.count ∙ sym e.0) (same_Some g h e.1) older) (get_last c.gates (Some g) v (Some h) has);
        there = λ d i. front_listed c.content.clauses (take k rows) d (is.there d i);
        only = λ d i. ⊎_elim
            (λ e. ⊎_elim inl (λ o. inr (o.0, o.1, get_append c.gates (Some g ∷ []) o.0 (Some o.1) o.2, o.3)) (is.only d e))
            (λ e. inr (c.content.vars, g, subst (λ n. slice_get (c.gates ++ Some g ∷ []) n ≡ Some (Some g)) is.count (get_end c.gates (Some g)), take_listed rows k d e))
            (get_after c.content.clauses (take k rows) i.0 d i.1);
        all = λ h v o has d i. ⊎_elim
            (λ e. front_listed c.content.clauses (take k rows) d (is.all (full h).0 v o e d i))
            (λ e. back_listed c.content.clauses (take k rows) d (subst (λ cs. Listed cs d) (sym (full h).1) (gate_again c.content.vars v g o d (sym is.count ∙ sym e.0) (same_Some g o e.1) i)))
            (get_last c.gates (Some g) v (Some o) has);
      }

  -- the values of the gates are those that their operands give
  pub gates_exact : c.whole ≡ true → (s : ℕ → Bool) → Satisfies s c.content → (v : ℕ) (g : Gate) → HasGate c v g → s v ≡ gate_value s g
  gates_exact w s h v g has = (gate_is v g (is.older v g has)).exact s (λ k i. h k (is.all w v g has k i))

  -- and where they are, and the caller's clauses are true, all clauses are
  pub gates_suffice : (s : ℕ → Bool) → Models s (Listed c.given) → ((v : ℕ) (g : Gate) → HasGate c v g → s v ≡ gate_value s g) → Satisfies s c.content
  gates_suffice s h values k i =
      ⊎_elim
      (h k)
      (λ e. (gate_is e.0 e.1 (is.older e.0 e.1 e.2)).sound s (values e.0 e.1 e.2) k e.3)
      (is.only k i)

-- the parts of a circuit after a gate was made
pub defined : (s t u : Stacked) (v k : ℕ) (g : Gate) (gates kept longer : List (Option Gate)) (given : List (List Lit)) (before w : Bool) → v ≡ s.content.vars
    → t ≡ record { content = record { vars = s.content.vars + 1; clauses = s.content.clauses }; saved = s.saved } → u ≡ with_clauses t (take k (gate_clauses (of_var v) g)) → kept ≡ gates → longer ≡ kept ++ Some g ∷ []
    → (let x : Built = record { content = u.content; gates = longer; given = given; whole = w } in x) ≡ with_gate (record { content = s.content; gates = gates; given = given; whole = before }) g k w
defined s t u v k g gates kept longer given before w ev et eu ek el = rw (eu, et, el, ek, ev) refl

pub whole_rows : (s t : Stacked) (rows : List (List Lit)) → t ≡ with_clauses s rows → t ≡ with_clauses s (take (length rows) rows)
whole_rows s t rows e = e ∙ ap (with_clauses s) (sym (take_all (length rows) rows (omega arith)))

pub all_taken : (v w : ℕ) (g : Gate) → v ≡ w → take (length (gate_clauses (of_var v) g)) (gate_clauses (of_var w) g) ≡ gate_clauses (of_var w) g
all_taken v w g e = rw e (take_all (length (gate_clauses (of_var w) g)) (gate_clauses (of_var w) g) (omega arith))
