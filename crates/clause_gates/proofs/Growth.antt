-- Growth of circuits composes.
use Rattle.std.proofs.Common.{◌≡◌, ◌∙◌, ℕ, zero, suc, ◌+◌, ◌<◌, ◌≤◌, Bool, true, false, List, [], ◌∷◌, ◌++◌, ◌⊎◌, take, drop, map, get_or, length, Some, refl, sym, ap, subst, inl, inr, ⊎_elim, arith, cond, eqb, append_assoc, append-nil, eq-eqb, eqb-true}
use Rattle.std.specs.Prelude.{slice_get}
use Rattle.std.specs.Borrow.{Bor}
use Rattle.std.specs.Option.{option_map}
use Rattle.std.proofs.lemmas.List.{take-append-drop, take_more, take_all, length-map, get_or-map, map-append}
use Rattle.std.proofs.lemmas.Option.{slice_get-get_or, slice_get-map}
use Rattle.clause_logic.specs.declared.Lit.{Lit}
use Rattle.clause_logic.specs.Clauses.{In, Makes, Models, Listed}
use Rattle.clause_search.specs.Content.{Content, Stacked, AllKnown}
use Rattle.clause_gates.specs.declared.defining.Gate.{Gate}
use Rattle.clause_gates.specs.Gates.{gate_clauses, gate_value}
use Rattle.clause_gates.specs.Built.{Built, of_var, with_clauses}
use Rattle.clause_gates.specs.Circuits.{Satisfies, Agree, Grows, Computes, IsTruth, IsGate}
use Rattle.clause_gates.proofs.Truths.{iff, iff_true, iff_same, all_true, models_from, models_to, only_true}

pub get_append : {X : Type 0} (xs ys : List X) (i : ℕ) (x : X) → slice_get xs i ≡ Some x → slice_get (xs ++ ys) i ≡ Some x
get_append [] ys i x h = absurd (cc h)
get_append (z ∷ xs) ys zero x h = h
get_append (z ∷ xs) ys (suc i) x h = get_append xs ys i x h

pub get_after : (xs ys : List (List Lit)) (i : ℕ) (x : List Lit) → slice_get (xs ++ ys) i ≡ Some x → (Listed xs x) ⊎ (Listed ys x)
get_after [] ys i x h = inr (i, h)
get_after (z ∷ xs) ys zero x h = inl (zero, h)
get_after (z ∷ xs) ys (suc i) x h = ⊎_elim (λ e. inl (suc e.0, e.1)) inr (get_after xs ys i x h)

pub get_behind : (xs ys : List (List Lit)) (i : ℕ) (x : List Lit) → slice_get ys i ≡ Some x → Listed (xs ++ ys) x
get_behind [] ys i x h = (i, h)
get_behind (z ∷ xs) ys i x h = let k = get_behind xs ys i x h in (suc k.0, k.1)

pub models_front : (s : ℕ → Bool) (xs ys : List (List Lit)) → Models s (Listed (xs ++ ys)) → Models s (Listed xs)
models_front s xs ys h c (i, at) = h c (i, get_append xs ys i c at)

pub models_back : (s : ℕ → Bool) (xs ys : List (List Lit)) → Models s (Listed (xs ++ ys)) → Models s (Listed ys)
models_back s xs ys h c (i, at) = h c (get_behind xs ys i c at)

pub models_both : (s : ℕ → Bool) (xs ys : List (List Lit)) → Models s (Listed xs) → Models s (Listed ys) → Models s (Listed (xs ++ ys))
models_both s xs ys h k c (i, at) = ⊎_elim (h c) (k c) (get_after xs ys i c at)

pub satisfies_old : {old new : Built} {most : ℕ} → Grows old new most → (s : ℕ → Bool) → Satisfies s new.content → Satisfies s old.content
satisfies_old {old} {new} {most} g s h = models_front s old.content.clauses g.added (subst (λ cs. Models s (Listed cs)) g.clauses h)

pub grows_same : (c : Built) (n : ℕ) → Grows c c n
grows_same c n = record {
  added = [];
  clauses = sym (append-nil c.content.clauses);
  made = [];
  gates = sym (append-nil c.gates);
  given = refl;
  vars = omega arith;
  few = omega arith;
  extends = λ s h. record { extended = s; agrees = λ v k. refl; satisfies = h };
}

pub grows_more : {a b c : Built} {m k : ℕ} (n : ℕ) → Grows a b m → Grows b c k → m + k ≤ n → Grows a c n
grows_more {a} {b} {c} {m} {k} n f g h = record {
  added = f.added ++ g.added;
  clauses = g.clauses ∙ ap (λ cs. cs ++ g.added) f.clauses ∙ append_assoc a.content.clauses f.added g.added;
  made = f.made ++ g.made;
  gates = g.gates ∙ ap (λ gs. gs ++ map Some g.made) f.gates ∙ append_assoc a.gates (map Some f.made) (map Some g.made) ∙ ap (λ gs. a.gates ++ gs) (sym (map-append Some f.made g.made));
  given = g.given ∙ f.given;
  vars = omega (arith, f.vars, g.vars);
  few = omega (arith, f.few, g.few);
  extends = λ s old.
      let first = f.extends s old in
      let second = g.extends first.extended first.satisfies in
      record {
        extended = second.extended;
        agrees = λ v k. first.agrees v k ∙ second.agrees v (omega (arith, f.vars));
        satisfies = second.satisfies;
      };
}

pub grows_wide : {a b : Built} {m : ℕ} (n : ℕ) → Grows a b m → m ≤ n → Grows a b n
grows_wide {a} {b} {m} n g h = record {
  added = g.added;
  clauses = g.clauses;
  made = g.made;
  gates = g.gates;
  given = g.given;
  vars = g.vars;
  few = omega (arith, g.few);
  extends = g.extends;
}

pub computes_on : {old new : Built} {most : ℕ} (l : Lit) (f : (ℕ → Bool) → Bool) → Grows old new most → Computes old.content l f → Computes new.content l f
computes_on l f g c = record { known = omega (arith, c.known, g.vars); is = λ s h. c.is s (satisfies_old g s h) }

pub truth_on : {old new : Built} {most : ℕ} (t : Lit) → Grows old new most → IsTruth old.content t → IsTruth new.content t
truth_on t g c = computes_on t (λ s. true) g c

-- a circuit with a gate's variable and the first of its clauses
abbrev pub with_gate : Built → Gate → ℕ → Bool → Built
with_gate c g k w = record { content = record { vars = c.content.vars + 1; clauses = c.content.clauses ++ take k (gate_clauses (of_var c.content.vars) g) }; gates = c.gates ++ Some g ∷ []; given = c.given; whole = w }

-- the assignment with another value of one variable
with_value : (ℕ → Bool) → ℕ → Bool → ℕ → Bool
with_value s v b w = cond (eqb w v) b (s w)

with_value_here : (s : ℕ → Bool) (v : ℕ) (b : Bool) → with_value s v b v ≡ b
unfolding with_value
with_value_here s v b = rw (eq-eqb v v refl) refl

with_value_other : (s : ℕ → Bool) (v w : ℕ) (b : Bool) → w < v → with_value s v b w ≡ s w
unfolding with_value
with_value_other s v w b h =
    elim (eqb w v) as (λ x. (eqb w v ≡ x) → cond x b (s w) ≡ s w) [ true ↦ (λ e. absurd (let k = eqb-true w v e in omega (arith, k, h))) | false ↦ (λ e. refl) ] refl

makes_agree : (s t : ℕ → Bool) (vars : ℕ) → Agree vars s t → (l : Lit) → l.var < vars → Makes s l → Makes t l
makes_agree s t vars a l h m = sym (a l.var h) ∙ m

pub models_agree : (s t : ℕ → Bool) (vars : ℕ) (cs : List (List Lit)) → Agree vars s t → AllKnown vars cs → Models s (Listed cs) → Models t (Listed cs)
models_agree s t vars cs a known h c (i, at) =
    let m = h c (i, at) in (m.0, m.1, makes_agree s t vars a m.0 (known i c m.0 at m.1) m.2)

models_take : (s : ℕ → Bool) (rows : List (List Lit)) (k : ℕ) → Models s (Listed rows) → Models s (Listed (take k rows))
models_take s rows k h = models_front s (take k rows) (drop k rows) (subst (λ cs. Models s (Listed cs)) (sym (take-append-drop k rows)) h)

module _ (old new : Built) (g : Gate) (known : AllKnown old.content.vars old.content.clauses) (gate : IsGate old.content.vars (λ s. gate_value s g) (gate_clauses (of_var old.content.vars) g)) where
  pub gate_grows : (k : ℕ) (w : Bool) → new ≡ with_gate old g k w → Grows old new 1
  gate_grows k w e = subst (λ (x : Built). Grows old x 1) (sym e) (record {
    added = take k (gate_clauses (of_var old.content.vars) g);
    clauses = refl;
    made = g ∷ [];
    gates = refl;
    given = refl;
    vars = omega arith;
    few = omega arith;
    extends = λ s h.
        let t : ℕ → Bool = with_value s old.content.vars (gate_value s g) in
        let same : Agree old.content.vars s t = λ v b. sym (with_value_other s old.content.vars v (gate_value s g) b) in
        record {
          extended = t;
          agrees = same;
          satisfies = models_both t old.content.clauses (take k (gate_clauses (of_var old.content.vars) g)) (models_agree s t old.content.vars old.content.clauses same known h)
              (models_take t (gate_clauses (of_var old.content.vars) g) k (gate.sound t (with_value_here s old.content.vars (gate_value s g) ∙ gate.stable s t same)));
        };
  })

  pub gate_computes : (k : ℕ) (w : Bool) → new ≡ with_gate old g k w → take k (gate_clauses (of_var old.content.vars) g) ≡ gate_clauses (of_var old.content.vars) g → Computes new.content (of_var old.content.vars) (λ s. gate_value s g)
  gate_computes k w e all = subst (λ (x : Built). Computes x.content (of_var old.content.vars) (λ s. gate_value s g)) (sym e) (record {
    known = omega arith;
    is = λ s h. gate.exact s (subst (λ rows. Models s (Listed rows)) all (models_back s old.content.clauses (take k (gate_clauses (of_var old.content.vars) g)) h));
  })

  pub gate_listed : (k : ℕ) (w : Bool) (c : List Lit) → new ≡ with_gate old g k w → take k (gate_clauses (of_var old.content.vars) g) ≡ gate_clauses (of_var old.content.vars) g → Listed (gate_clauses (of_var old.content.vars) g) c → Listed new.content.clauses c
  gate_listed k w c e all i =
      let there : Listed (take k (gate_clauses (of_var old.content.vars) g)) c = subst (λ rows. Listed rows c) (sym all) i in
      subst (λ (x : Built). Listed x.content.clauses c) (sym e) (get_behind old.content.clauses (take k (gate_clauses (of_var old.content.vars) g)) there.0 c there.1)

-- a gate whose clauses hold just where the new variable has the value
pub gate_of : (vars : ℕ) (f : (ℕ → Bool) → Bool) (rows : List (List Lit)) → ((s t : ℕ → Bool) → Agree vars s t → f s ≡ f t) → AllKnown (vars + 1) rows
    → ((s : ℕ → Bool) → all_true s rows ≡ iff (s vars) (f s)) → IsGate vars f rows
gate_of vars f rows stable known table = record {
  stable = stable;
  known = known;
  sound = λ s e. models_from s rows (table s ∙ ap (λ x. iff x (f s)) e ∙ iff_same (f s));
  exact = λ s h. iff_true (s vars) (f s) (sym (table s) ∙ models_to s rows h);
}

-- what a list of borrowed clauses says
abbrev pub lent : List (Bor (List Lit)) → List (List Lit)
lent rows = map (λ r. r.now) rows

pub rows_more : (old : Stacked) (rows : List (Bor (List Lit))) (i : ℕ) (d : Bor (List Lit)) → i < length rows
    → with_clauses old (take (i + 1) (lent rows)) ≡ record { content = record { vars = old.content.vars; clauses = (old.content.clauses ++ take i (lent rows)) ++ (get_or rows i d).now ∷ [] }; saved = old.saved }
rows_more old rows i d h =
    ap (with_clauses old) (take_more (lent rows) i d.now (omega (arith, length-map rows (λ (r : Bor (List Lit)). r.now))) ∙ ap (λ x. take i (lent rows) ++ x ∷ []) (get_or-map (λ (r : Bor (List Lit)). r.now) rows i d d.now h))
    ∙ ap (λ cs. let x : Stacked = record { content = record { vars = old.content.vars; clauses = cs }; saved = old.saved } in x) (sym (append_assoc old.content.clauses (take i (lent rows)) ((get_or rows i d).now ∷ [])))

pub rows_all : (old : Stacked) (rows : List (Bor (List Lit))) (i : ℕ) → length rows ≤ i → with_clauses old (take i (lent rows)) ≡ with_clauses old (lent rows)
rows_all old rows i h = ap (with_clauses old) (take_all i (lent rows) (omega (arith, length-map rows (λ (r : Bor (List Lit)). r.now))))

pub row_known : (n : ℕ) (rows : List (Bor (List Lit))) (i : ℕ) (d : Bor (List Lit)) (l : Lit) → AllKnown n (lent rows) → i < length rows → In l (get_or rows i d).now → l.var < n
row_known n rows i d l known h k =
    known i (get_or rows i d).now l (slice_get-map (λ (r : Bor (List Lit)). r.now) rows i ∙ ap (option_map (λ (r : Bor (List Lit)). r.now)) (slice_get-get_or rows i d h)) k

pub unit_true : (c : Content) (l : Lit) → l.var < c.vars → Listed c.clauses (l ∷ []) → Computes c l (λ s. true)
unit_true c l h i = record { known = h; is = λ s m. only_true s l (m (l ∷ []) i) }
