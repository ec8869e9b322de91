-- One node more is encoded.
use Rattle.std.proofs.Common.{◌≡◌, ◌∙◌, ◌+◌, ◌<◌, ◌≤◌, ◌++◌, ◌&&◌, ℕ, zero, suc, Bool, true, false, not, List, [], ◌∷◌, Some, None, ◌⊎◌, inl, inr, ⊎_elim, length, map, take, refl, sym, ap, subst, arith, All, append-nil, Result, Ok, Err}
use Rattle.std.specs.Prelude.{slice_get, unwrap_or, IfOk}
use Rattle.std.proofs.lemmas.Option.{same_Some, slice_get_within}
use Rattle.std.proofs.lemmas.List.Sums.{sum_by-append}
use Rattle.std.specs.List.{sum_by}
use Rattle.clause_logic.specs.declared.Lit.{Lit}
use Rattle.clause_logic.specs.Clauses.{opposite, In, Listed, Models}
use Rattle.node_encoding.specs.declared.Node.{Node}
use Rattle.node_encoding.specs.declared.Node.TheVariants as node_of
use Rattle.node_encoding.specs.declared.encoding.Origin.{Origin}
use Rattle.node_encoding.specs.declared.encoding.Origin.TheVariants as origin
use Rattle.node_encoding.specs.Nodes.{IsFormed, arguments_of, number_of}
use Rattle.node_encoding.specs.Shapes.{shape_value, IsShaped, Obeys, true_at}
use Rattle.node_encoding.specs.Gates.{truth, shape_clauses, Has, IsChain, IsParity, IsGate}
use Rattle.node_encoding.specs.Encoding.{Encoded, Encodes, IsOrigin, Agrees, lit_at, weight, with_lit, IsNext, Found, HasShape}
use Rattle.node_encoding.proofs.Gets.{push_cases, push_here, push_old, length_pushed, all_get, map_same, length_front, get_append}
use Rattle.node_encoding.proofs.Combining.{take_next}
use Rattle.node_encoding.proofs.Listing.{has_front, has_back, models_append, truth_opposite}
use Rattle.node_encoding.proofs.Gating.{shape_sound, map_map}

pub some_at : {X : Type 0} (xs : List X) (k : ℕ) → k < length xs → (x : X) × (slice_get xs k ≡ Some x)
some_at [] k h = absurd (omega (arith, h))
some_at (x ∷ xs) zero h = (x, refl)
some_at (x ∷ xs) (suc k) h = some_at xs k (omega (arith, h))

-- gates stay where clauses are added
chain_more : (less more : List (List Lit)) → Has more less → (p : Lit) (ls : List Lit) (q : Lit) → IsChain less p ls q → IsChain more p ls q
chain_more less more kept p [] q e = e
chain_more less more kept p (l ∷ ls) q (r, has, rest) = (r, (λ c h. kept c (has c h)), chain_more less more kept r ls q rest)

pub parity_more : (less more : List (List Lit)) → Has more less → (g : Lit) (ls : List Lit) → IsParity less g ls → IsParity more g ls
parity_more less more kept g [] e = e
parity_more less more kept g (l ∷ ls) e = chain_more less more kept l ls g e

pub gate_more : (less more : List (List Lit)) → Has more less → (n : Node) (g : Lit) (ls : List Lit) → IsGate less n g ls → IsGate more n g ls
gate_more less more kept node_of.True g ls gate = λ c h. kept c (gate c h)
gate_more less more kept node_of.False g ls gate = λ c h. kept c (gate c h)
gate_more less more kept (node_of.Const number) g ls gate = λ c h. kept c (gate c h)
gate_more less more kept (node_of.Not a) g ls gate = gate
gate_more less more kept (node_of.And args) g ls gate = λ c h. kept c (gate c h)
gate_more less more kept (node_of.Or args) g ls gate = λ c h. kept c (gate c h)
gate_more less more kept (node_of.Xor args) g ls (inl (differ, parity)) = inl (differ, parity_more less more kept g ls parity)
gate_more less more kept (node_of.Xor args) g ls (inr gate) = inr (λ c h. kept c (gate c h))
gate_more less more kept (node_of.Ite c a b) g ls gate = λ d h. kept d (gate d h)
gate_more less more kept (node_of.Eq a b) g ls gate = λ c h. kept c (gate c h)
gate_more less more kept (node_of.Distinct args) g ls gate = λ c h. kept c (gate c h)

pub lit_pushed : (lits : List Lit) (g : Lit) (a : ℕ) → a < length lits → lit_at (lits ++ g ∷ []) a ≡ lit_at lits a
lit_pushed lits g a h = ap (λ o. unwrap_or o (true_at a)) (get_append lits (g ∷ []) a h)

pub lits_pushed : (lits : List Lit) (g : Lit) (ks : List ℕ) → All (λ a. a < length lits) ks → map (lit_at lits) ks ≡ map (lit_at (lits ++ g ∷ [])) ks
lits_pushed lits g ks h = map_same (lit_at lits) (lit_at (lits ++ g ∷ [])) ks (λ j a at. sym (lit_pushed lits g a (all_get (λ b. b < length lits) ks j a h at)))

pub arguments_below : (nodes : List Node) → IsFormed nodes → (k : ℕ) (n : Node) → slice_get nodes k ≡ Some n → All (λ a. a < k) (arguments_of n)
arguments_below nodes formed k n h i d small = let one = (formed.fits k n h).earlier i d small in omega (arith, one, length_front nodes k n h)

pub all_taken : (bound count : ℕ) (ks : List ℕ) → All (λ a. a < bound) ks → All (λ a. a < bound) (take count ks)
all_taken bound zero ks h i d small = absurd (omega (arith, small))
all_taken bound (suc count) [] h i d small = absurd (omega (arith, small))
all_taken bound (suc count) (k ∷ ks) h zero d small = h zero d (omega arith)
all_taken bound (suc count) (k ∷ ks) h (suc i) d small = all_taken bound count ks (λ j c s. h (suc j) c (omega (arith, s))) i d (omega (arith, small))

all_up : (m n : ℕ) (ks : List ℕ) → m ≤ n → All (λ a. a < m) ks → All (λ a. a < n) ks
all_up m n ks le h i d small = let one = h i d small in omega (arith, one, le)

module _ (nodes : List Node) (formed : IsFormed nodes) (e new : Encoded) (g : Lit) (k : ℕ) (encodes : Encodes nodes e) (at : k ≡ length e.lits) (small : k < length nodes) (next : IsNext nodes k e new g) where
  older_var : (v : ℕ) → v < length e.origins → v < length new.origins
  older_var v h = let one = some_at e.origins v h in slice_get_within new.origins v one.0 (next.older v one.0 one.1)

  agrees_older : (t a : ℕ → Bool) → Agrees nodes new.origins t a → Agrees nodes e.origins t a
  agrees_older t a agrees v o h = agrees v o (next.older v o h)

  -- the literals are those before, and the new one
  cases_at : (j : ℕ) (l : Lit) → slice_get (new.lits ++ g ∷ []) j ≡ Some l → ((j ≡ k) × (g ≡ l)) ⊎ (slice_get e.lits j ≡ Some l)
  cases_at j l h = ⊎_elim
      (λ q. inl (q.0 ∙ ap length next.lits ∙ sym at, q.1))
      (λ old. inr (ap (λ w. slice_get w j) (sym next.lits) ∙ old))
      (push_cases new.lits g l j h)

  moved : (ks : List ℕ) → All (λ a. a < k) ks → map (lit_at e.lits) ks ≡ map (lit_at (new.lits ++ g ∷ [])) ks
  moved ks h = lits_pushed e.lits g ks (subst (λ m. All (λ a. a < m) ks) at h) ∙ ap (λ w. map (lit_at (w ++ g ∷ [])) ks) (sym next.lits)

  gate_at : (j : ℕ) (n : Node) (l : Lit) → slice_get nodes j ≡ Some n → slice_get (new.lits ++ g ∷ []) j ≡ Some l → IsGate new.clauses n l (map (lit_at (new.lits ++ g ∷ [])) (arguments_of n))
  gate_at j n l h there = ⊎_elim
      (λ q. subst (λ ls. IsGate new.clauses n l ls) (moved (arguments_of n) (arguments_below nodes formed k n (ap (slice_get nodes) (sym q.0) ∙ h)))
      (subst (λ x. IsGate new.clauses n x (map (lit_at e.lits) (arguments_of n))) q.1 (next.gate n (ap (slice_get nodes) (sym q.0) ∙ h))))
      (λ old. subst (λ ls. IsGate new.clauses n l ls) (moved (arguments_of n) (all_up j k (arguments_of n) (omega (arith, slice_get_within e.lits j l old, at)) (arguments_below nodes formed j n h)))
      (gate_more e.clauses new.clauses next.kept n l (map (lit_at e.lits) (arguments_of n)) (encodes.gates j n l h old)))
      (cases_at j l there)

  origin_older : (v : ℕ) (o : Origin) → IsOrigin nodes e v o → IsOrigin nodes (with_lit new g) v o
  origin_older v (origin.Node j) h = push_old new.lits g (true_at v) j (ap (λ w. slice_get w j) next.lits ∙ h)
  origin_older v (origin.Prefix j count) (args, is, some, most, gate, there) = (
    args,
    is,
    some,
    most,
    subst (λ ls. IsGate new.clauses (node_of.Xor (take count args)) (true_at v) ls)
        (moved (take count args) (all_taken k count args (all_up j k args (omega (arith, there, at)) (arguments_below nodes formed j (node_of.Xor args) is))))
        (gate_more e.clauses new.clauses next.kept (node_of.Xor (take count args)) (true_at v) (map (lit_at e.lits) (take count args)) gate),
    omega (arith, there, length_pushed new.lits g, ap length next.lits),
  )

  few_more : length new.origins ≤ weight (take (length (new.lits ++ g ∷ [])) nodes)
  few_more =
      let one = some_at nodes k small in
      let size : Node → ℕ = λ n. 1 + length (arguments_of n) in
      let grown : weight (take (k + 1) nodes) ≡ weight (take k nodes) + size one.0 =
      ap weight (take_next nodes k one.0 one.1) ∙ sum_by-append size (take k nodes) (one.0 ∷ []) ∙ ap (λ m. weight (take k nodes) + m) (alone size one.0) in
      let before : length e.origins ≤ weight (take k nodes) = subst (λ m. length e.origins ≤ weight (take m nodes)) (sym at) encodes.few in
      let now = next.few one.0 one.1 in
      let last : length (new.lits ++ g ∷ []) ≡ k + 1 = omega (arith, length_pushed new.lits g, ap length next.lits, at) in
      subst (λ m. length new.origins ≤ weight (take m nodes)) (sym last) (omega (arith, grown, before, now))
    where
      alone : (f : Node → ℕ) (n : Node) → sum_by f (n ∷ []) ≡ f n
      alone f n = omega arith

  -- and all is as before, with one literal more
  pub encodes_next : Encodes nodes (with_lit new g)
  encodes_next = record {
    within = omega (arith, small, at, length_pushed new.lits g, ap length next.lits);
    known = λ j l h. ⊎_elim (λ q. subst (λ x. x.var < length new.origins) q.1 next.known) (λ old. older_var l.var (encodes.known j l old)) (cases_at j l h);
    gates = gate_at;
    constants = λ i j number l m hi hj gi gj. ⊎_elim
        (λ p. ⊎_elim
        (λ q. sym p.1 ∙ q.1)
        (λ old. sym (next.constants j number m hj (ap (slice_get nodes) (sym p.0) ∙ hi) old ∙ p.1))
        (cases_at j m gj))
        (λ before. ⊎_elim
        (λ q. next.constants i number l hi (ap (slice_get nodes) (sym q.0) ∙ hj) before ∙ q.1)
        (λ old. encodes.constants i j number l m hi hj before old)
        (cases_at j m gj))
        (cases_at i l gi);
    origins = λ v o h. ⊎_elim (λ old. origin_older v o (encodes.origins v o old)) (λ q. q) (next.origins v o h);
    means = λ t a obeys agrees j l h. ⊎_elim
        (λ q. ap (truth a) (sym q.1) ∙ next.means t a obeys agrees ∙ ap t (sym q.0))
        (λ old. encodes.means t a obeys (agrees_older t a agrees) j l old)
        (cases_at j l h);
    sound = λ t a obeys agrees. next.sound t a obeys agrees (encodes.sound t a obeys (agrees_older t a agrees));
    few = few_more;
  }

-- nothing is encoded
pub encodes_none : (nodes : List Node) (e : Encoded) → e.origins ≡ [] → e.lits ≡ [] → e.clauses ≡ [] → Encodes nodes e
encodes_none nodes e no_origins no_lits no_clauses = record {
  within = omega (arith, ap length no_lits);
  known = λ k l h. absurd (cc (ap (λ w. slice_get w k) (sym no_lits) ∙ h));
  gates = λ k n l g h. absurd (cc (ap (λ w. slice_get w k) (sym no_lits) ∙ h));
  constants = λ j k number l m f g h i. absurd (cc (ap (λ w. slice_get w j) (sym no_lits) ∙ h));
  origins = λ v o h. absurd (cc (ap (λ w. slice_get w v) (sym no_origins) ∙ h));
  means = λ t a obeys agrees k l h. absurd (cc (ap (λ w. slice_get w k) (sym no_lits) ∙ h));
  sound = λ t a obeys agrees c h. absurd (cc (ap (λ w. slice_get w h.0) (sym no_clauses) ∙ h.1));
  few = omega (arith, ap length no_origins);
}

module _ (nodes : List Node) (formed : IsFormed nodes) (e : Encoded) (k : ℕ) (n : Node) (encodes : Encodes nodes e) (at : k ≡ length e.lits) (here : slice_get nodes k ≡ Some n) where
  -- the literals of the arguments have their nodes' truth values
  pub arguments_mean : (t a : ℕ → Bool) → Obeys nodes t → Agrees nodes e.origins t a → (ks : List ℕ) → All (λ j. j < k) ks → map (truth a) (map (lit_at e.lits) ks) ≡ map t ks
  arguments_mean t a obeys agrees ks below =
      map_map (truth a) (lit_at e.lits) ks
      ∙ map_same (λ j. truth a (lit_at e.lits j)) t ks
      (λ i j there.
      let one = some_at e.lits j (omega (arith, all_get (λ b. b < k) ks i j below there, at)) in
      ap (λ o. truth a (unwrap_or o (true_at j))) one.1 ∙ encodes.means t a obeys agrees j one.0 one.1)

  -- the literal is one that is there
  pub next_known : (g : Lit) → g.var < length e.origins → IsGate e.clauses n g (map (lit_at e.lits) (arguments_of n))
      → ((j number : ℕ) (l : Lit) → slice_get nodes j ≡ Some (node_of.Const number) → slice_get nodes k ≡ Some (node_of.Const number) → slice_get e.lits j ≡ Some l → l ≡ g)
      → ((t a : ℕ → Bool) → Obeys nodes t → Agrees nodes e.origins t a → truth a g ≡ t k) → IsNext nodes k e e g
  next_known g known gate constants means = record {
    lits = refl;
    older = λ v o h. h;
    kept = λ c h. h;
    known = known;
    gate = λ m h. subst (λ x. IsGate e.clauses x g (map (lit_at e.lits) (arguments_of x))) (same_Some n m (sym here ∙ h)) gate;
    constants = constants;
    origins = λ v o h. inl h;
    means = means;
    sound = λ t a obeys agrees m. m;
    few = λ m h. omega arith;
  }

  -- the literal is a new variable, with some clauses
  pub next_fresh : (extra : List (List Lit)) (new : Encoded) → new ≡ record { origins = e.origins ++ origin.Node k ∷ []; lits = e.lits; clauses = e.clauses ++ extra }
      → IsGate (e.clauses ++ extra) n (true_at (length e.origins)) (map (lit_at e.lits) (arguments_of n))
      → ((j number : ℕ) (l : Lit) → slice_get nodes j ≡ Some (node_of.Const number) → slice_get nodes k ≡ Some (node_of.Const number) → slice_get e.lits j ≡ Some l → ⊥)
      → ((t a : ℕ → Bool) → Obeys nodes t → Agrees nodes e.origins t a → truth a (true_at (length e.origins)) ≡ t k → Models a (Listed extra)) → IsNext nodes k e new (true_at (length e.origins))
  next_fresh extra new is gate constants extra_sound =
      subst (λ w. IsNext nodes k e w (true_at (length e.origins))) (sym is)
      (record {
        lits = refl;
        older = λ v o h. push_old e.origins (origin.Node k) o v h;
        kept = has_front e.clauses extra;
        known = omega (arith, length_pushed e.origins (origin.Node k));
        gate = λ m h. subst (λ x. IsGate (e.clauses ++ extra) x (true_at (length e.origins)) (map (lit_at e.lits) (arguments_of x))) (same_Some n m (sym here ∙ h)) gate;
        constants = λ j number l f h there. absurd (constants j number l f h there);
        origins = λ v o h. ⊎_elim
            (λ q. inr (subst (λ w. IsOrigin nodes (record { origins = e.origins ++ origin.Node k ∷ []; lits = e.lits ++ true_at (length e.origins) ∷ []; clauses = e.clauses ++ extra }) v w) q.1
            (ap (slice_get (e.lits ++ true_at (length e.origins) ∷ [])) at ∙ push_here e.lits (true_at (length e.origins)) ∙ ap (λ w. Some (true_at w)) (sym q.0))))
            inl
            (push_cases e.origins (origin.Node k) o v h);
        means = λ t a obeys agrees. agrees (length e.origins) (origin.Node k) (push_here e.origins (origin.Node k));
        sound = λ t a obeys agrees m. models_append a e.clauses extra m
            (extra_sound t a obeys (λ v o h. agrees v o (push_old e.origins (origin.Node k) o v h)) (agrees (length e.origins) (origin.Node k) (push_here e.origins (origin.Node k))));
        few = λ m h. omega (arith, length_pushed e.origins (origin.Node k));
      })

made : List Origin → List Lit → List (List Lit) → Encoded
made os ls cs = record { origins = os; lits = ls; clauses = cs }

pub same_encoded : (a b : Encoded) → a.origins ≡ b.origins → a.lits ≡ b.lits → a.clauses ≡ b.clauses → a ≡ b
unfolding made
same_encoded a b e f g =
    ap (λ (os : List Origin). made os a.lits a.clauses) e ∙ ap (λ (ls : List Lit). made b.origins ls a.clauses) f ∙ ap (λ (cs : List (List Lit)). made b.origins b.lits cs) g

-- a gate by the clauses of its shape
gate_of_shape : (clauses : List (List Lit)) (n : Node) (g : Lit) (ls : List Lit) → HasShape (Some n) → IsGate (clauses ++ shape_clauses n g ls) n g ls
gate_of_shape clauses node_of.True g ls h = has_back clauses (shape_clauses node_of.True g ls)
gate_of_shape clauses node_of.False g ls h = has_back clauses (shape_clauses node_of.False g ls)
gate_of_shape clauses (node_of.Const number) g ls h = absurd h
gate_of_shape clauses (node_of.Not a) g ls h = absurd h
gate_of_shape clauses (node_of.And args) g ls h = has_back clauses (shape_clauses (node_of.And args) g ls)
gate_of_shape clauses (node_of.Or args) g ls h = has_back clauses (shape_clauses (node_of.Or args) g ls)
gate_of_shape clauses (node_of.Xor args) g ls h = inr (has_back clauses (shape_clauses (node_of.Xor args) g ls))
gate_of_shape clauses (node_of.Ite c a b) g ls h = has_back clauses (shape_clauses (node_of.Ite c a b) g ls)
gate_of_shape clauses (node_of.Eq a b) g ls h = has_back clauses (shape_clauses (node_of.Eq a b) g ls)
gate_of_shape clauses (node_of.Distinct args) g ls h = has_back clauses (shape_clauses (node_of.Distinct args) g ls)

value_of_shape : (t : ℕ → Bool) (k : ℕ) (n : Node) → HasShape (Some n) → IsShaped t k n → t k ≡ shape_value n (map t (arguments_of n))
value_of_shape t k node_of.True h e = e
value_of_shape t k node_of.False h e = e
value_of_shape t k (node_of.Const number) h e = absurd h
value_of_shape t k (node_of.Not a) h e = absurd h
value_of_shape t k (node_of.And args) h e = e
value_of_shape t k (node_of.Or args) h e = e
value_of_shape t k (node_of.Xor args) h e = e
value_of_shape t k (node_of.Ite c a b) h e = e
value_of_shape t k (node_of.Eq a b) h e = e
value_of_shape t k (node_of.Distinct args) h e = e

no_constant : (nodes : List Node) (k : ℕ) (n : Node) → slice_get nodes k ≡ Some n → HasShape (Some n) → (number : ℕ) → slice_get nodes k ≡ Some (node_of.Const number) → ⊥
no_constant nodes k n here h number g = subst HasShape (sym here ∙ g) h

module _ (nodes : List Node) (formed : IsFormed nodes) (e new : Encoded) (k : ℕ) (n : Node) (encodes : Encodes nodes e) (at : k ≡ length e.lits) (here : slice_get nodes k ≡ Some n) (shape : HasShape (Some n)) where
  -- a node with a shape gets a variable and the clauses of its shape
  pub next_gate : (g : Lit) (ls : List Lit) → g ≡ true_at (length e.origins) → ls ≡ map (lit_at e.lits) (arguments_of n)
      → new.origins ≡ e.origins ++ origin.Node k ∷ [] → new.lits ≡ e.lits → new.clauses ≡ e.clauses ++ shape_clauses n g ls → IsNext nodes k e new g
  next_gate g ls fresh are origins_are lits_are clauses_are =
      let v : Lit = true_at (length e.origins) in
      let args : List Lit = map (lit_at e.lits) (arguments_of n) in
      let extra : List (List Lit) = shape_clauses n v args in
      let is : new ≡ record { origins = e.origins ++ origin.Node k ∷ []; lits = e.lits; clauses = e.clauses ++ extra } =
      same_encoded new (record { origins = e.origins ++ origin.Node k ∷ []; lits = e.lits; clauses = e.clauses ++ extra }) origins_are lits_are
      (clauses_are ∙ ap (λ l. e.clauses ++ shape_clauses n l ls) fresh ∙ ap (λ w. e.clauses ++ shape_clauses n v w) are) in
      subst (IsNext nodes k e new) (sym fresh)
      (next_fresh nodes formed e k n encodes at here extra new is (gate_of_shape e.clauses n v args shape)
      (λ j number l f h there. no_constant nodes k n here shape number h)
      (λ t a obeys agrees same. shape_sound a (lit_at e.lits) n v
      (same ∙ value_of_shape t k n shape (obeys.shaped k n here) ∙ ap (shape_value n) (sym (arguments_mean nodes formed e k n encodes at here t a obeys agrees (arguments_of n) (arguments_below nodes formed k n here))))))

module _ (nodes : List Node) (formed : IsFormed nodes) (e new : Encoded) (k number : ℕ) (encodes : Encodes nodes e) (at : k ≡ length e.lits) (here : slice_get nodes k ≡ Some (node_of.Const number)) where
  same_constant : (m : ℕ) → slice_get nodes k ≡ Some (node_of.Const m) → number ≡ m
  same_constant m h = same_Some number m (ap number_of (sym here ∙ h))

  -- a constant that has no literal yet gets a variable
  pub next_constant : (g : Lit) → Found nodes e.lits number None → g ≡ true_at (length e.origins) → new.origins ≡ e.origins ++ origin.Node k ∷ [] → new.lits ≡ e.lits → new.clauses ≡ e.clauses → IsNext nodes k e new g
  next_constant g none fresh origins_are lits_are clauses_are =
      subst (IsNext nodes k e new) (sym fresh)
      (next_fresh nodes formed e k (node_of.Const number) encodes at here [] new
      (same_encoded new (record { origins = e.origins ++ origin.Node k ∷ []; lits = e.lits; clauses = e.clauses ++ [] }) origins_are lits_are (clauses_are ∙ sym (append-nil e.clauses)))
      (λ c h. absurd (cc h.1))
      (λ j m l f h there. none j l (f ∙ ap (λ w. Some (node_of.Const w)) (sym (same_constant m h))) there)
      (λ t a obeys agrees same c h. absurd (cc h.1)))

  -- one that has a literal keeps it
  pub next_found : (g : Lit) → Found nodes e.lits number (Some g) → IsNext nodes k e e g
  next_found g (j, there, has) =
      next_known nodes formed e k (node_of.Const number) encodes at here g (encodes.known j g has)
      (λ c h. absurd (cc h.1))
      (λ i m l f h was. encodes.constants i j number l g (f ∙ ap (λ w. Some (node_of.Const w)) (sym (same_constant m h))) there was has)
      (λ t a obeys agrees. encodes.means t a obeys agrees j g has ∙ obeys.constants j k number there here)

module _ (nodes : List Node) (formed : IsFormed nodes) (e : Encoded) (k b : ℕ) (encodes : Encodes nodes e) (at : k ≡ length e.lits) (here : slice_get nodes k ≡ Some (node_of.Not b)) where
  -- a negation has the opposite literal
  pub next_negation : (g : Lit) → g ≡ opposite (lit_at e.lits b) → IsNext nodes k e e g
  next_negation g is =
      let small : b < k = arguments_below nodes formed k (node_of.Not b) here 0 0 (omega arith) in
      let one = some_at e.lits b (omega (arith, small, at)) in
      let read : lit_at e.lits b ≡ one.0 = ap (λ o. unwrap_or o (true_at b)) one.1 in
      next_known nodes formed e k (node_of.Not b) encodes at here g
      (subst (λ l. l.var < length e.origins) (sym is) (subst (λ l. l.var < length e.origins) (sym read) (encodes.known b one.0 one.1)))
      is
      (λ j m l f h was. absurd (cc (sym (ap number_of (sym here ∙ h)))))
      (λ t a obeys agrees. ap (truth a) is ∙ truth_opposite a (lit_at e.lits b) ∙ ap not (ap (truth a) read ∙ encodes.means t a obeys agrees b one.0 one.1) ∙ ap not (alone (t b)) ∙ sym (obeys.shaped k (node_of.Not b) here))
    where
      alone : (p : Bool) → p ≡ (p && true)
      alone true = refl
      alone false = refl

-- the literals of arguments have variables
pub arguments_known : (nodes : List Node) (e : Encoded) (k : ℕ) (ks : List ℕ) → Encodes nodes e → k ≡ length e.lits → All (λ j. j < k) ks → (l : Lit) → In l (map (lit_at e.lits) ks) → l.var < length e.origins
arguments_known nodes e k [] encodes at below l i = absurd i
arguments_known nodes e k (x ∷ ks) encodes at below l (inl same) =
    let small : x < k = below 0 0 (omega arith) in
    let one = some_at e.lits x (omega (arith, small, at)) in
    subst (λ m. m.var < length e.origins) (sym (ap (λ o. unwrap_or o (true_at x)) one.1) ∙ same) (encodes.known x one.0 one.1)
arguments_known nodes e k (x ∷ ks) encodes at below l (inr i) = arguments_known nodes e k ks encodes at (λ j d s. below (suc j) d (omega (arith, s))) l i

pub has_shape : (n : Node) → ((number : ℕ) → n ≡ node_of.Const number → ⊥) → ((a : ℕ) → n ≡ node_of.Not a → ⊥) → HasShape (Some n)
has_shape node_of.True f g = tt
has_shape node_of.False f g = tt
has_shape (node_of.Const number) f g = f number refl
has_shape (node_of.Not a) f g = g a refl
has_shape (node_of.And args) f g = tt
has_shape (node_of.Or args) f g = tt
has_shape (node_of.Xor args) f g = tt
has_shape (node_of.Ite c a b) f g = tt
has_shape (node_of.Eq a b) f g = tt
has_shape (node_of.Distinct args) f g = tt

pub when_ok : {T E : Type 0} {P Q : T → Type 0} (r : Result T E) → ((x : T) → P x → Q x) → IfOk r P → IfOk r Q
when_ok (Ok x) f h = f x h
when_ok (Err e) f h = h
