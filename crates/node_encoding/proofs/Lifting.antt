-- Unit propagation over the defining clauses of nodes, in terms of the clauses of their gates.
use Rattle.std.proofs.Common.{◌≡◌, ◌∙◌, ◌<◌, ℕ, zero, suc, Bool, true, false, not, List, [], ◌∷◌, inl, inr, ⊎_elim, Some, length, map, refl, sym, ap, subst, arith, All}
use Rattle.std.specs.Prelude.{slice_get}
use Rattle.std.proofs.lemmas.Option.{same_Some}
use Rattle.y_tree.specs.Meaning.{is_odd}
use Rattle.clause_logic.specs.declared.Lit.{Lit}
use Rattle.clause_logic.specs.Clauses.{opposite, In, Listed}
use Rattle.node_encoding.specs.Shapes.{unless, false_only_at, true_at}
use Rattle.node_encoding.specs.Gates.{IsParity, Differ}
use Rattle.node_encoding.specs.Encoding.{lit_at, turned, image}
use Rattle.clause_logic.specs.Strength.{IsClosed}
use Rattle.clause_logic.proofs.Lits.{not_not, lit_cases, opposite_twice}
use Rattle.clause_logic.proofs.Members.{in_cases, in_map, in_map_cases}
use Rattle.node_encoding.proofs.Chains.{Valued, AllValued, OneOpen, parity_told, argument_told}

-- a literal over nodes as one of the search
abbrev pub phi : List Lit → Lit → Lit
phi = image

pub phi_opposite : (lits : List Lit) (l : Lit) → phi lits (opposite l) ≡ opposite (phi lits l)
phi_opposite lits l = turned_not l.positive (lit_at lits l.var)
  where
    turned_not : (b : Bool) (m : Lit) → turned (not b) m ≡ opposite (turned b m)
    turned_not true m = refl
    turned_not false m = sym (opposite_twice m)

phi_unless : (lits : List Lit) (b : Bool) (k : ℕ) → phi lits (unless b (true_at k)) ≡ unless b (lit_at lits k)
phi_unless lits true k = refl
phi_unless lits false k = refl

-- the clause of a combination goes to the clause of that combination
pub phi_combination : (lits : List Lit) (ks : List ℕ) (bs : List Bool) → map (phi lits) (false_only_at (map true_at ks) bs) ≡ false_only_at (map (lit_at lits) ks) bs
phi_combination lits [] bs = refl
phi_combination lits (k ∷ ks) [] = refl
phi_combination lits (k ∷ ks) (b ∷ bs) =
    ap (λ l. l ∷ map (phi lits) (false_only_at (map true_at ks) bs)) (phi_unless lits b k)
    ∙ ap (λ c. unless b (lit_at lits k) ∷ c) (phi_combination lits ks bs)

module _ (clauses : List (List Lit)) (P : Lit → Type 0) (closed : IsClosed (Listed clauses) P) (f : Lit → Lit) (turn : (l : Lit) → f (opposite l) ≡ opposite (f l)) where
  -- a clause with some of the literals' images serves for all
  pub covered : (c d : List Lit) (x l : Lit) → Listed clauses c → In x c → ((m : Lit) → In m c → In m (map f d)) → In l d → ((m : Lit) → In m d → (m ≡ l → ⊥) → P (f (opposite m))) → P (f l)
  covered c d x l there first inside h others =
      let other : (m : Lit) → In m c → (m ≡ f l → ⊥) → P (opposite m) = λ m k n.
      let one = in_map_cases f d m (inside m k) in
      subst P (turn one.0 ∙ ap opposite one.2) (others one.0 one.1 (λ e. n (sym one.2 ∙ ap f e))) in
      ⊎_elim
      (λ k. closed.unit_of c (f l) there k other)
      (λ k. absurd (closed.consistent x
      (closed.unit_of c x there first (λ m i n. other m i (λ e. k (subst (λ z. In z c) e i))))
      (other x first (λ e. k (subst (λ z. In z c) e first)))))
      (in_cases (f l) c)

  -- the image of the whole clause is there
  pub imaged : (c d : List Lit) (l : Lit) → Listed clauses c → c ≡ map f d → In l d → ((m : Lit) → In m d → (m ≡ l → ⊥) → P (f (opposite m))) → P (f l)
  imaged c d l there same h others =
      covered c d (f l) l there (subst (In (f l)) (sym same) (in_map f d l h)) (λ m k. subst (In m) same k) h others

-- the numbers differ from the first, and among themselves
pub differ_tail : (a : ℕ) (args : List ℕ) → Differ (a ∷ args) → Differ args
differ_tail a args h i j l e d = drop_suc (h (suc i) (suc j) l e d)
  where
    drop_suc : {m n : ℕ} → suc m ≡ suc n → m ≡ n
    drop_suc e = omega arith

get_true : (args : List ℕ) (b : ℕ) (bs : List Bool) → (l : Lit) → In l (false_only_at (map true_at args) bs) → (j : ℕ) × (slice_get (map true_at args) j ≡ Some (true_at l.var))
get_true [] b bs l h = absurd h
get_true (a ∷ args) b [] l h = absurd h
get_true (a ∷ args) b (true ∷ bs) l h = ⊎_elim (λ e. (zero, ap (λ (x : Lit). Some (true_at x.var)) e)) (λ k. let r = get_true args b bs l k in (suc r.0, r.1)) h
get_true (a ∷ args) b (false ∷ bs) l h = ⊎_elim (λ e. (zero, ap (λ (x : Lit). Some (true_at x.var)) e)) (λ k. let r = get_true args b bs l k in (suc r.0, r.1)) h

-- a literal of the first number stands nowhere behind it
pub differ_head : (a : ℕ) (args : List ℕ) (bs : List Bool) (l : Lit) → Differ (a ∷ args) → In l (false_only_at (map true_at args) bs) → l.var ≡ a → ⊥
differ_head a args bs l h i e =
    let r = get_true args 0 bs l i in
    none (h zero (suc r.0) (true_at l.var) (ap (λ k. Some (true_at k)) (sym e)) r.1)
  where
    none : {n : ℕ} → zero ≡ suc n → ⊥
    none e = omega arith

unless_var : (b : Bool) (k : ℕ) → (unless b (true_at k)).var ≡ k
unless_var true k = refl
unless_var false k = refl

module _ (lits : List Lit) (P : Lit → Type 0) (l : Lit) where
  abbrev Known : Lit → Type 0
  Known m = P (phi lits (opposite m))

  known_valued : (b : Bool) (a : ℕ) → Known (unless b (true_at a)) → Valued P (lit_at lits a) b
  known_valued true a h = h
  known_valued false a h = h

  -- all arguments have their truth values
  all_valued : (args : List ℕ) (bs : List Bool) → length bs ≡ length args → ((m : Lit) → In m (false_only_at (map true_at args) bs) → Known m) → AllValued P (map (lit_at lits) args) bs
  all_valued [] [] e h = tt
  all_valued [] (b ∷ bs) e h = absurd (cc e)
  all_valued (a ∷ args) [] e h = absurd (cc e)
  all_valued (a ∷ args) (b ∷ bs) e h = (known_valued b a (h (unless b (true_at a)) (inl refl)), all_valued args bs (cc) (λ m i. h m (inr i)))

  -- or all but the one that stands in the literal
  one_open : (args : List ℕ) (bs : List Bool) → length bs ≡ length args → Differ args → In l (false_only_at (map true_at args) bs) → ((m : Lit) → In m (false_only_at (map true_at args) bs) → (m ≡ l → ⊥) → Known m) → OneOpen P (phi lits l) (map (lit_at lits) args) bs
  one_open [] bs e differ i h = absurd i
  one_open (a ∷ args) [] e differ i h = absurd i
  one_open (a ∷ args) (b ∷ bs) e differ i h =
      ⊎_elim
      (λ same. inl (sym (phi_unless lits b a) ∙ ap (phi lits) same, all_valued args bs (cc) (λ m k. h m (inr k) (λ f. differ_head a args bs m differ k (ap (λ (z : Lit). z.var) (f ∙ sym same) ∙ unless_var b a)))))
      (λ other. ⊎_elim
      (λ same. absurd (other same))
      (λ k. inr (known_valued b a (h (unless b (true_at a)) (inl refl) other), one_open args bs (cc) (differ_tail a args differ) k (λ m j. h m (inr j))))
      i)
      (lit_cases (unless b (true_at a)) l)

  -- a parity over a chain
  pub parity_lifts : (clauses : List (List Lit)) → IsClosed (Listed clauses) P → (g : ℕ) (args : List ℕ) (bs : List Bool) → length bs ≡ length args → All (λ a. a < g) args → Differ args → IsParity clauses (lit_at lits g) (map (lit_at lits) args)
      → In l (false_only_at (true_at g ∷ map true_at args) (not (is_odd bs) ∷ bs)) → ((m : Lit) → In m (false_only_at (true_at g ∷ map true_at args) (not (is_odd bs) ∷ bs)) → (m ≡ l → ⊥) → Known m) → P (phi lits l)
  parity_lifts clauses closed g args bs e below differ parity i h =
      ⊎_elim
      (λ same. subst P (sym (phi_unless lits (not (is_odd bs)) g) ∙ ap (phi lits) same)
      (parity_told clauses P closed (map (lit_at lits) args) bs (lit_at lits g) parity
      (all_valued args bs e (λ m k. h m (inr k) (λ f. apart m k (ap (λ (z : Lit). z.var) (f ∙ sym same) ∙ unless_var (not (is_odd bs)) g))))))
      (λ other. ⊎_elim
      (λ same. absurd (other same))
      (λ k. argument_told clauses P closed (phi lits l) (map (lit_at lits) args) bs (lit_at lits g) (not (is_odd bs)) parity
      (known_valued (not (is_odd bs)) g (h (unless (not (is_odd bs)) (true_at g)) (inl refl) other))
      (sym (not_not (is_odd bs)))
      (one_open args bs e differ k (λ m j. h m (inr j))))
      i)
      (lit_cases (unless (not (is_odd bs)) (true_at g)) l)
    where
      at_place : (xs : List ℕ) (j a : ℕ) → slice_get (map true_at xs) j ≡ Some (true_at a) → All (λ x. x < g) xs → a < g
      at_place [] j a e all = absurd (cc e)
      at_place (x ∷ xs) zero a e all = omega (arith, all zero 0 (omega arith), var_of x a e)
        where
          var_of : (x a : ℕ) → Some (true_at x) ≡ Some (true_at a) → x ≡ a
          var_of x a e = ap (λ (l : Lit). l.var) (same_Some (true_at x) (true_at a) e)
      at_place (x ∷ xs) (suc j) a e all = at_place xs j a e (λ n d s. all (suc n) d (omega (arith, s)))

      apart : (m : Lit) → In m (false_only_at (map true_at args) bs) → m.var ≡ g → ⊥
      apart m k e = let r = get_true args 0 bs m k in let small : m.var < g = at_place args r.0 m.var r.1 below in omega (arith, small, e)
