-- A record over the search's variables gives one over nodes.
use Rattle.std.proofs.Common.{◌≡◌, ◌∙◌, ◌+◌, ◌^◌, ◌<◌, ◌≤◌, ◌++◌, ℕ, zero, suc, Bool, true, false, not, List, [], ◌∷◌, Some, inl, inr, ⊎_elim, length, map, take, refl, sym, ap, subst, arith, All}
use Rattle.std.specs.Prelude.{slice_get, unwrap_or}
use Rattle.std.proofs.lemmas.List.{take_all}
use Rattle.std.proofs.Math.Nat.{pow-le-pow_right}
use Rattle.std.proofs.lemmas.Option.{same_Some, slice_get_within, get_or_from_slice_get}
use Rattle.y_tree.specs.Meaning.{Assignment, is_odd, truth_of, meaning}
use Rattle.clause_logic.specs.declared.Lit.{Lit}
use Rattle.clause_logic.specs.Clauses.{opposite, In, Makes, Holds, Models, Units, Both, Listed, Same, Known, New}
use Rattle.clause_logic.specs.Clauses as clause
use Rattle.clause_search.specs.declared.Turns.{Turns}
use Rattle.clause_search.specs.declared.Turns.TheVariants as turns
use Rattle.node_encoding.specs.declared.Node.{Node}
use Rattle.node_encoding.specs.declared.Node.TheVariants as node_of
use Rattle.node_encoding.specs.declared.NodeLit.{NodeLit}
use Rattle.node_encoding.specs.declared.encoding.Origin.{Origin}
use Rattle.node_encoding.specs.declared.encoding.Origin.TheVariants as origin
use Rattle.node_encoding.specs.Nodes.{IsFormed, Fits, HasArity, arguments_of, truths_of}
use Rattle.node_encoding.specs.Shapes.{unless, true_at, false_at, IsDefining, Literal}
use Rattle.node_encoding.specs.Gates.{IsGate, unit_clauses}
use Rattle.node_encoding.specs.Encoding.{Encoded, Encodes, origin_value, arguments_at, lit_at, turned, assumed_at, weight}
use Rattle.theory_combine.specs.Learned.{lit_of, clauses_of, Given, IsRecord, IsPastLimit}
use Rattle.theory_combine.specs.Naming.{HaveParities, HasFirst, first_of, rename, added_for, names_from, IsNamed}
use Rattle.node_encoding.proofs.Gets.{get_mapped, all_get, map_same, get_append, get_cases, front_get}
use Rattle.clause_logic.proofs.Members.{in_map, in_map_cases}
use Rattle.node_encoding.proofs.Listing.{listed_front, listed_back}
use Rattle.node_encoding.proofs.Gating.{in_listed}
use Rattle.node_encoding.proofs.TreeLaws.{tree_at_older}
use Rattle.clause_logic.specs.Strength.{IsClosed}
use Rattle.clause_logic.proofs.Weakening.{imitates_closed, new_weaker, new_plain, new_holds_none, new_nonempty}
use Rattle.node_encoding.proofs.Lifting.{phi, phi_opposite, imaged}
use Rattle.node_encoding.proofs.GateLifts.{gate_lifts}
use Rattle.node_encoding.proofs.Completing.{single, only_one, earlier}
use Rattle.node_encoding.proofs.Meanings.{shaped_at}
use Rattle.theory_combine.proofs.Verdicts.{valuation, valuation_agrees, get_of_in, all_modelled}
use Rattle.theory_combine.proofs.Naming.{lits_for, added_at, name_at, length_names, get_behind, get_split, formed_append}

pub closed_fewer : (less more : List Lit → Type 0) (P : Lit → Type 0) → ((c : List Lit) → less c → more c) → IsClosed more P → IsClosed less P
closed_fewer less more P sub closed = record {
  consistent = closed.consistent;
  unit_of = λ c l h i others. closed.unit_of c l (sub c h) i others;
}

-- a defining clause has a literal
pub defining_some : (k : ℕ) (n : Node) (d : List Lit) → IsDefining k n d → (l : Lit) × In l d
defining_some k node_of.True d is = absurd is
defining_some k node_of.False d is = absurd is
defining_some k (node_of.Const number) d is = absurd is
defining_some k (node_of.Not a) d (inl e) = (true_at k, subst (In (true_at k)) (sym e) (inl refl))
defining_some k (node_of.Not a) d (inr e) = (false_at k, subst (In (false_at k)) (sym e) (inl refl))
defining_some k (node_of.And args) d (inl (j, a, at, e)) = (false_at k, subst (In (false_at k)) (sym e) (inl refl))
defining_some k (node_of.And args) d (inr e) = (true_at k, subst (In (true_at k)) (sym e) (inl refl))
defining_some k (node_of.Or args) d (inl (j, a, at, e)) = (true_at k, subst (In (true_at k)) (sym e) (inl refl))
defining_some k (node_of.Or args) d (inr e) = (false_at k, subst (In (false_at k)) (sym e) (inl refl))
defining_some k (node_of.Xor args) d (bs, count, e) = (unless (not (is_odd bs)) (true_at k), subst (In (unless (not (is_odd bs)) (true_at k))) (sym e) (inl refl))
defining_some k (node_of.Ite c a b) d (inl (inl e)) = (false_at c, subst (In (false_at c)) (sym e) (inl refl))
defining_some k (node_of.Ite c a b) d (inl (inr e)) = (false_at c, subst (In (false_at c)) (sym e) (inl refl))
defining_some k (node_of.Ite c a b) d (inr (inl e)) = (true_at c, subst (In (true_at c)) (sym e) (inl refl))
defining_some k (node_of.Ite c a b) d (inr (inr e)) = (true_at c, subst (In (true_at c)) (sym e) (inl refl))
defining_some k (node_of.Eq a b) d (bs, count, e) = some_first _ _ d e
  where
    some_first : (l : Lit) (c d : List Lit) → d ≡ l ∷ c → (l : Lit) × In l d
    some_first l c d e = (l, subst (In l) (sym e) (inl refl))
defining_some k (node_of.Distinct args) d (bs, count, e) = some_first _ _ d e
  where
    some_first : (l : Lit) (c d : List Lit) → d ≡ l ∷ c → (l : Lit) × In l d
    some_first l c d e = (l, subst (In l) (sym e) (inl refl))

mapped_in : {X : Type 0} (f : X → Lit) (xs : List X) (i : ℕ) (x : X) → slice_get xs i ≡ Some x → In (f x) (map f xs)
mapped_in f [] i x h = absurd (cc h)
mapped_in f (y ∷ xs) zero x h = inl (ap f (same_Some y x h))
mapped_in f (y ∷ xs) (suc i) x h = inr (mapped_in f xs i x h)

-- a list that goes back
returned : (f g : Lit → Lit) (c : List Lit) → ((l : Lit) → In l c → f (g l) ≡ l) → map f (map g c) ≡ c
returned f g [] h = refl
returned f g (x ∷ xs) h = ap (λ l. l ∷ map f (map g xs)) (h x (inl refl)) ∙ ap (λ ls. x ∷ ls) (returned f g xs (λ l k. h l (inr k)))

turned_true : (p : Bool) (v : ℕ) → turned p (true_at v) ≡ record { var = v; positive = p }
turned_true true v = refl
turned_true false v = refl

longer_list : (xs ys : List Node) → length xs ≤ length (xs ++ ys)
longer_list [] ys = omega arith
longer_list (x ∷ xs) ys = let one = longer_list xs ys in omega (arith, one)

some_there : (ls : List Lit) (k : ℕ) (d : Lit) → k < length ls → slice_get ls k ≡ Some (unwrap_or (slice_get ls k) d)
some_there [] k d h = absurd (omega (arith, h))
some_there (l ∷ ls) zero d h = refl
some_there (l ∷ ls) (suc k) d h = some_there ls k d (omega (arith, h))

lit_there : (ls : List Lit) (k : ℕ) → k < length ls → slice_get ls k ≡ Some (lit_at ls k)
lit_there ls k h = some_there ls k (true_at k) h

all_take : (bound count : ℕ) (ks : List ℕ) → All (λ a. a < bound) ks → All (λ a. a < bound) (take count ks)
all_take bound zero ks h i d small = absurd (omega (arith, small))
all_take bound (suc count) [] h i d small = absurd (omega (arith, small))
all_take bound (suc count) (k ∷ ks) h zero d small = h zero d (omega arith)
all_take bound (suc count) (k ∷ ks) h (suc i) d small = all_take bound count ks (λ j c s. h (suc j) c (omega (arith, s))) i d (omega (arith, small))

length_take : (count : ℕ) (ks : List ℕ) → 0 < count → count ≤ length ks → 0 < length (take count ks)
length_take zero ks h g = absurd (omega (arith, h))
length_take (suc count) [] h g = absurd (omega (arith, g))
length_take (suc count) (k ∷ ks) h g = omega arith

module _ (problem : List Node) (formed : IsFormed problem) where
  -- the arguments of a node of the problem are nodes of it
  earlier_all : (k : ℕ) (n : Node) → slice_get problem k ≡ Some n → All (λ a. a < length problem) (arguments_of n)
  earlier_all k n h i d small = let one = earlier problem formed k n h i d small in let there = slice_get_within problem k n h in omega (arith, one, there)

  module _ (origins : List Origin) (parities : HaveParities problem origins) where
    -- the parity that a variable stands for is one of the problem's, and fits all nodes behind it
    pub has_first : (v node count : ℕ) → slice_get origins v ≡ Some (origin.Prefix node count) → HasFirst (slice_get problem node) count
    has_first v node count h =
        let o = parities v node count h in
        subst (λ w. HasFirst w count) (sym o.1) o.3

    pub first_fits : (v node count : ℕ) → slice_get origins v ≡ Some (origin.Prefix node count) → (later : List Node) → length problem ≤ length later → (n : Node) → n ≡ first_of (slice_get problem node) count → Fits later n
    first_fits v node count h later far n is =
        let o = parities v node count h in
        let small = all_take (length problem) count o.0 (earlier_all node (node_of.Xor o.0) o.1) in
        subst (Fits later) (sym (is ∙ ap (λ w. first_of w count) o.1))
        (record {
          earlier = λ i d s. let one = small i d s in omega (arith, one, far);
          arity = length_take count o.0 o.2 o.3;
        })

pub have_parities : (problem : List Node) (e : Encoded) → Encodes problem e → HaveParities problem e.origins
have_parities problem e encodes v node count h = let o = encodes.origins v (origin.Prefix node count) h in (o.0, o.1, o.2, o.3)

module _ (problem : List Node) (formed : IsFormed problem) (e : Encoded) (encodes : Encodes problem e) (all : length e.lits ≡ length problem) where
  abbrev added : List Node
  added = added_for problem e.origins

  abbrev nodes : List Node
  nodes = problem ++ added

  abbrev lits : List Lit
  lits = e.lits ++ lits_for 0 e.origins

  abbrev names : List ℕ
  names = names_from problem (length problem) e.origins

  old_lit : (k : ℕ) → k < length problem → lit_at lits k ≡ lit_at e.lits k
  old_lit k h = ap (λ o. unwrap_or o (true_at k)) (get_append e.lits (lits_for 0 e.origins) k (omega (arith, all, h)))

  old_lits : (ks : List ℕ) → All (λ a. a < length problem) ks → map (lit_at lits) ks ≡ map (lit_at e.lits) ks
  old_lits ks h = map_same (lit_at lits) (lit_at e.lits) ks (λ j a at. old_lit a (all_get (λ b. b < length problem) ks j a h at))

  -- what is known of a node that is added
  pub record IsAdded (j : ℕ) (n : Node) : Type 0 where
    pub node : ℕ
    pub args : List ℕ
    pub count : ℕ
    pub whole : slice_get problem node ≡ Some (node_of.Xor args)
    pub is : n ≡ node_of.Xor (take count args)
    pub below : All (λ a. a < length problem) (take count args)
    pub some : 0 < length (take count args)
    pub gate : IsGate e.clauses (node_of.Xor (take count args)) (lit_at lits (length problem + j)) (map (lit_at lits) (take count args))

  is_added : (j : ℕ) (n : Node) → slice_get added j ≡ Some n → IsAdded j n
  is_added j n h =
      let one = added_at problem e.origins 0 j n h in
      let o = encodes.origins one.2.at (origin.Prefix one.2.node one.2.count) one.2.origin_is in
      let args : List ℕ = o.0 in
      let below : All (λ a. a < length problem) (take one.2.count args) = all_take (length problem) one.2.count args (earlier_all problem formed one.2.node (node_of.Xor args) o.1) in
      let literal : lit_at lits (length problem + j) ≡ true_at one.2.at =
      ap (λ k. unwrap_or (slice_get lits k) (true_at (length problem + j))) (ap (λ m. m + j) (sym all))
      ∙ ap (λ w. unwrap_or w (true_at (length problem + j))) (get_behind e.lits (lits_for 0 e.origins) j ∙ one.1)
      ∙ one.2.lit_is ∙ ap true_at (omega arith) in
      record {
        node = one.2.node;
        args = args;
        count = one.2.count;
        whole = o.1;
        is = one.2.node_is ∙ ap (λ w. node_of.Xor (take one.2.count (arguments_at w))) o.1;
        below = below;
        some = length_take one.2.count args o.2 o.3;
        gate = subst (λ g. IsGate e.clauses (node_of.Xor (take one.2.count args)) g (map (lit_at lits) (take one.2.count args))) (sym literal)
            (subst (λ ls. IsGate e.clauses (node_of.Xor (take one.2.count args)) (true_at one.2.at) ls) (sym (old_lits (take one.2.count args) below)) o.4);
      }

  pub formed_nodes : IsFormed nodes
  formed_nodes = formed_append problem added formed
      (λ j n h. let one = is_added j n h in (
        subst (λ m. All (λ a. a < length problem) (arguments_of m)) (sym one.is) one.below,
        subst HasArity (sym one.is) one.some,
      ))

  -- the arguments of each node are earlier
  below_all : (k : ℕ) (n : Node) → slice_get nodes k ≡ Some n → All (λ a. a < k) (arguments_of n)
  below_all k n h = ⊎_elim
      (λ old. earlier problem formed k n old)
      (λ r. let one = is_added r.0 n r.2 in
      subst (λ m. All (λ a. a < k) (arguments_of m)) (sym one.is) (λ i d small. let b = one.below i d small in omega (arith, b, r.1)))
      (get_split problem added k n h)

  -- each node is a gate
  gates_all : (k : ℕ) (n : Node) → slice_get nodes k ≡ Some n → IsGate e.clauses n (lit_at lits k) (map (lit_at lits) (arguments_of n))
  gates_all k n h = ⊎_elim
      (λ old.
      let small = slice_get_within problem k n old in
      subst (λ g. IsGate e.clauses n g (map (lit_at lits) (arguments_of n))) (sym (old_lit k small))
      (subst (λ ls. IsGate e.clauses n (lit_at e.lits k) ls) (sym (old_lits (arguments_of n) (earlier_all problem formed k n old)))
      (encodes.gates k n (lit_at e.lits k) old (lit_there e.lits k (omega (arith, all, small))))))
      (λ r. let one = is_added r.0 n r.2 in
      subst (λ m. IsGate e.clauses m (lit_at lits k) (map (lit_at lits) (arguments_of m))) (sym one.is)
      (subst (λ m. IsGate e.clauses (node_of.Xor (take one.count one.args)) (lit_at lits m) (map (lit_at lits) (take one.count one.args))) (sym r.1) one.gate))
      (get_split problem added k n h)

  -- a variable has a name, a node whose literal it is
  pub record HasName (v : ℕ) (o : Origin) : Type 0 where
    pub name : ℕ
    pub named : slice_get names v ≡ Some name
    pub there : name < length nodes
    pub back : lit_at lits name ≡ true_at v
    pub value : (s : Assignment) → truths_of nodes s name ≡ origin_value problem (truths_of problem s) o

  -- older nodes mean what they did
  older_truth : (s : Assignment) (k : ℕ) → k < length problem → truths_of nodes s k ≡ truths_of problem s k
  older_truth s k h = ap (λ t. truth_of (meaning t s)) (tree_at_older problem added k h)

  has_name : (v : ℕ) (o : Origin) → slice_get e.origins v ≡ Some o → HasName v o
  has_name v (origin.Node k) h =
      let one = name_at problem e.origins 0 (length problem) v (origin.Node k) h in
      let o = encodes.origins v (origin.Node k) h in
      let small : k < length problem = omega (arith, slice_get_within e.lits k (true_at v) o, all) in
      record {
        name = one.0;
        named = one.1;
        there = omega (arith, small, one.2, longer_list problem added);
        back = ap (lit_at lits) one.2 ∙ old_lit k small ∙ ap (λ w. unwrap_or w (true_at k)) o;
        value = λ s. ap (truths_of nodes s) one.2 ∙ older_truth s k small;
      }
  has_name v (origin.Prefix k count) h =
      let one = name_at problem e.origins 0 (length problem) v (origin.Prefix k count) h in
      let j : ℕ = one.2.0 in
      let o = encodes.origins v (origin.Prefix k count) h in
      let args : List ℕ = take count (arguments_at (slice_get problem k)) in
      let node_here : slice_get nodes one.0 ≡ Some (node_of.Xor args) = ap (slice_get nodes) one.2.1 ∙ get_behind problem added j ∙ one.2.2 in
      let below : All (λ a. a < length problem) args = subst (λ w. All (λ a. a < length problem) (take count (arguments_at w))) (sym o.1) (all_take (length problem) count o.0 (earlier_all problem formed k (node_of.Xor o.0) o.1)) in
      record {
        name = one.0;
        named = one.1;
        there = slice_get_within nodes one.0 (node_of.Xor args) node_here;
        back = ap (λ m. unwrap_or (slice_get lits m) (true_at one.0)) (one.2.1 ∙ ap (λ m. m + j) (sym all))
            ∙ ap (λ w. unwrap_or w (true_at one.0)) (get_behind e.lits (lits_for 0 e.origins) j ∙ one.2.3) ∙ ap true_at (omega arith);
        value = λ s. shaped_at nodes formed_nodes s one.0 (node_of.Xor args) node_here
            ∙ ap is_odd (map_same (truths_of nodes s) (truths_of problem s) args (λ i a at. older_truth s a (all_get (λ b. b < length problem) args i a below at)));
      }

  module _ (asserted open_lits : List NodeLit) (below : All (λ (l : NodeLit). l.node < length problem) asserted) (under : All (λ (l : NodeLit). l.node < length problem) open_lits) (stands : List Lit → Type 0) (none : (c : List Lit) → stands c → ⊥)
      (given assumed : List Lit) (given_are : given ≡ map (assumed_at e.lits) asserted) (open_are : assumed ≡ map (assumed_at e.lits) open_lits) (clauses : List (List Lit)) (whole : clauses ≡ e.clauses ++ unit_clauses given)
      (learned : List (List Lit)) (recorded : clause.IsRecord (Listed clauses) stands assumed learned)
      (known : (i : ℕ) (c : List Lit) (l : Lit) → slice_get learned i ≡ Some c → In l c → l.var < length e.origins) where
    abbrev problem_lits : List NodeLit
    problem_lits = asserted ++ open_lits

    abbrev renamed : List (List Lit)
    renamed = map (map (rename names)) learned

    -- the name of a variable that stands in a clause
    named_lit : (i : ℕ) (c : List Lit) (l : Lit) → slice_get learned i ≡ Some c → In l c → (o : Origin) × (slice_get e.origins l.var ≡ Some o) × HasName l.var o
    named_lit i c l h k =
        let one = origin_there e.origins l.var (known i c l h k) in
        (one.0, one.1, has_name l.var one.0 one.1)
      where
        origin_there : (os : List Origin) (v : ℕ) → v < length os → (o : Origin) × (slice_get os v ≡ Some o)
        origin_there [] v h = absurd (omega (arith, h))
        origin_there (o ∷ os) zero h = (o, refl)
        origin_there (o ∷ os) (suc v) h = origin_there os v (omega (arith, h))

    back : (i : ℕ) (c : List Lit) → slice_get learned i ≡ Some c → (l : Lit) → In l c → phi lits (rename names l) ≡ l
    back i c h l k =
        let one = named_lit i c l h k in
        ap (λ m. turned l.positive (lit_at lits (unwrap_or m 0))) one.2.named ∙ ap (turned l.positive) one.2.back ∙ turned_true l.positive l.var

    in_take : (i : ℕ) (xs : List (List Lit)) (c : List Lit) → Listed (take i xs) c → (j : ℕ) × (j < i) × (slice_get xs j ≡ Some c)
    in_take zero xs c (j, h) = absurd (cc h)
    in_take (suc i) [] c (j, h) = absurd (cc h)
    in_take (suc i) (x ∷ xs) c (zero, h) = (zero, omega arith, h)
    in_take (suc i) (x ∷ xs) c (suc j, h) = let r = in_take i xs c (j, h) in (suc r.0, omega (arith, r.1), r.2)

    take_in : (xs : List (List Lit)) (i j : ℕ) (c : List Lit) → i < j → slice_get xs i ≡ Some c → Listed (take j xs) c
    take_in [] i j c h e = absurd (cc e)
    take_in (x ∷ xs) i zero c h e = absurd (omega (arith, h))
    take_in (x ∷ xs) zero (suc j) c h e = (zero, e)
    take_in (x ∷ xs) (suc i) (suc j) c h e = let r = take_in xs i j c (omega (arith, h)) e in (suc r.0, r.1)

    abbrev Weak : ℕ → List Lit → Type 0
    Weak i = Both (Given nodes problem_lits) (Listed (take i renamed))

    abbrev Strong : ℕ → List Lit → Type 0
    Strong i = Known (Listed clauses) assumed (take i learned)

    -- an earlier clause of the record
    renamed_at : (i : ℕ) (d : List Lit) → Listed (take i renamed) d → (j : ℕ) × (c : List Lit) × (j < i) × (slice_get learned j ≡ Some c) × (map (rename names) c ≡ d)
    renamed_at i d h =
        let at = in_take i renamed d h in
        let from = get_mapped (map (rename names)) learned at.0 d at.2 in
        (at.0, from.0, at.1, from.1, from.2)

    -- each clause over nodes has a literal
    weak_some : (i : ℕ) (d : List Lit) → Weak i d → (l : Lit) × In l d
    weak_some i d (inl (inl (inl (k, n, h, is)))) = defining_some k n d is
    weak_some i d (inl (inl (inr (k, inl (h, is))))) = (true_at k, subst (In (true_at k)) (sym is) (inl refl))
    weak_some i d (inl (inl (inr (k, inr (h, is))))) = (false_at k, subst (In (false_at k)) (sym is) (inl refl))
    weak_some i d (inl (inr (p, k, is))) = (p, subst (In p) (sym is) (inl refl))
    weak_some i d (inr h) =
        let one = renamed_at i d h in
        let first = new_some one.1 (recorded.new one.0 one.1 one.3) in
        (rename names first.0, subst (In (rename names first.0)) one.4 (in_map (rename names) one.1 first.0 first.1))
      where
        new_some : {clauses : List Lit → Type 0} (c : List Lit) → New clauses c → (l : Lit) × In l c
        new_some c (l, k, calm, reaches, misses) = (l, k)

    -- the literal of the search of a problem's literal is a clause of the search, or an assumption
    known_unit : (i : ℕ) (x : NodeLit) (k : ℕ) → slice_get problem_lits k ≡ Some x → (x.node < length problem) × Strong i (assumed_at e.lits x ∷ [])
    known_unit i x k h =
        ⊎_elim
        (λ front. (
          all_get (λ (y : NodeLit). y.node < length problem) asserted k x below front,
          inl (inl (subst (λ w. Listed w (assumed_at e.lits x ∷ [])) (sym whole) (listed_back e.clauses (unit_clauses given) (assumed_at e.lits x ∷ [])
              (in_listed (λ v. true) (λ l. l ∷ []) given (assumed_at e.lits x) (subst (In (assumed_at e.lits x)) (sym given_are) (mapped_in (assumed_at e.lits) asserted k x front)))))),
        ))
        (λ back. (
          all_get (λ (y : NodeLit). y.node < length problem) open_lits back.0 x under back.1,
          inl (inr (assumed_at e.lits x, subst (In (assumed_at e.lits x)) (sym open_are) (mapped_in (assumed_at e.lits) open_lits back.0 x back.1), refl)),
        ))
        (get_cases asserted open_lits k x h)

    -- what is closed over the search's clauses is closed over the nodes' clauses
    lifts_all : (i : ℕ) (P : Lit → Type 0) → IsClosed (Strong i) P → (d : List Lit) (l : Lit) → Weak i d → In l d → ((m : Lit) → In m d → (m ≡ l → ⊥) → P (phi lits (opposite m))) → P (phi lits l)
    lifts_all i P closed = lift
      where
        clauses_closed : IsClosed (Listed e.clauses) P
        clauses_closed = closed_fewer (Listed e.clauses) (Strong i) P (λ c h. inl (inl (subst (λ w. Listed w c) (sym whole) (listed_front e.clauses (unit_clauses given) c h)))) closed

        lift : (d : List Lit) (l : Lit) → Weak i d → In l d → ((m : Lit) → In m d → (m ≡ l → ⊥) → P (phi lits (opposite m))) → P (phi lits l)
        lift d l (inl (inl (inl (k, n, h, is)))) j others = gate_lifts lits e.clauses P clauses_closed k l n (below_all k n h) (gates_all k n h) d is j others
        lift d l (inl (inl (inr (k, inl (h, is))))) j others =
            subst (λ x. P (phi lits x)) (only_one (true_at k) l d is j) (single P (Listed e.clauses) clauses_closed (lit_at lits k) (gates_all k node_of.True h _ (0, refl)))
        lift d l (inl (inl (inr (k, inr (h, is))))) j others =
            subst (λ x. P (phi lits x)) (only_one (false_at k) l d is j) (single P (Listed e.clauses) clauses_closed (opposite (lit_at lits k)) (gates_all k node_of.False h _ (0, refl)))
        lift d l (inl (inr (p, k, same))) j others =
            let at = get_of_in (map lit_of problem_lits) p k in
            let from = get_mapped lit_of problem_lits at.0 p at.1 in
            let one = known_unit i from.0 at.0 from.1 in
            let old = old_lit from.0.node one.0 in
            subst (λ x. P (phi lits x)) (from.2 ∙ only_one p l d same j)
            (subst (λ x. P (turned from.0.positive x)) (sym old) (single P (Strong i) closed (assumed_at e.lits from.0) one.1))
        lift d l (inr h) j others =
            let one = renamed_at i d h in
            imaged (take i learned) P (closed_fewer (Listed (take i learned)) (Strong i) P (λ c g. inr g) closed) (phi lits) (phi_opposite lits) one.1 d l
            (take_in learned one.0 i one.1 one.2 one.3) (sym (returned (phi lits) (rename names) one.1 (back one.0 one.1 one.3)) ∙ ap (map (phi lits)) one.4) j others

    new_all : (i : ℕ) (c : List Lit) → slice_get learned i ≡ Some c → New (Weak i) (map (rename names) c)
    new_all i c h =
        new_weaker (Weak i) (Strong i) (phi lits) (rename names) (phi_opposite lits) (λ d. (weak_some i [] d).1) (imitates_closed (Weak i) (Strong i) (phi lits) (lifts_all i)) c (back i c h) (recorded.new i c h)

    -- the origin's value is the name's truth value
    abbrev value_of : Assignment → ℕ → Bool
    value_of s = valuation problem e.origins (truths_of problem s)

    renamed_holds : (s : Assignment) (i : ℕ) (c : List Lit) → slice_get learned i ≡ Some c → Holds (value_of s) c → Holds (truths_of nodes s) (map (rename names) c)
    renamed_holds s i c h (l, k, m) =
        let one = named_lit i c l h k in (
          rename names l,
          in_map (rename names) c l k,
          ap (λ o. truths_of nodes s (unwrap_or o 0)) one.2.named ∙ one.2.value s ∙ sym (valuation_agrees problem e.origins (truths_of problem s) l.var one.0 one.1) ∙ m,
        )

    from_renamed : (i : ℕ) (d : List Lit) → slice_get renamed i ≡ Some d → (c : List Lit) × (slice_get learned i ≡ Some c) × (map (rename names) c ≡ d)
    from_renamed i d h = get_mapped (map (rename names)) learned i d h

    new_at : (i : ℕ) (d : List Lit) → slice_get renamed i ≡ Some d → New (Weak i) d
    new_at i d h = let one = from_renamed i d h in subst (New (Weak i)) one.2 (new_all i one.0 one.1)

    few_origins : length e.origins ≤ weight problem
    few_origins = subst (λ w. length e.origins ≤ weight w) (take_all (length e.lits) problem (omega (arith, all))) encodes.few

    -- the clauses over nodes are a record
    pub record_over_nodes : IsRecord problem problem_lits nodes renamed
    record_over_nodes = record {
      added = added;
      begins = refl;
      parities = λ j n h. let one = is_added j n h in (one.node, one.args, one.count, one.whole, one.is);
      known = λ i d l h k.
          let one = from_renamed i d h in
          let at = in_map_cases (rename names) one.0 l (subst (In l) (sym one.2) k) in
          let name = named_lit i one.0 at.0 one.1 at.1 in
          let same : name.2.name ≡ l.var = ap (λ o. unwrap_or o 0) (sym name.2.named) ∙ ap (λ (x : Lit). x.var) at.2 in
          let there : name.2.name < length nodes = name.2.there in
          omega (arith, same, there);
      nonempty = λ i h. new_nonempty (Weak i) (new_at i [] h);
      plain = λ i d l h k j. new_plain (Weak i) d l (new_at i d h) k j;
      different = λ i j c d less h g same. new_holds_none (Weak j) d c (new_at j d g) (inr (take_in renamed i j c less h)) (λ l k. (same l).0 k);
      apart = λ i j c d less h g inside. new_holds_none (Weak j) d c (new_at j d g) (inr (take_in renamed i j c less h)) inside;
      open_there = λ i d l h k given. new_holds_none (Weak i) d (l ∷ []) (new_at i d h) (from_given i (l ∷ []) given) (λ m g. ⊎_elim (λ e. subst (λ x. In x d) e k) (λ z. absurd z) g);
      follows = λ s makes i d h.
          let one = from_renamed i d h in
          subst (Holds (truths_of nodes s)) one.2
          (renamed_holds s i one.0 one.1
          (recorded.follows i one.0 one.1 (value_of s)
          (λ c g. ⊎_elim (all_modelled problem e encodes all formed s asserted below given given_are (λ k x here. makes k x (front_get asserted open_lits k x here)) clauses whole c) (λ z. absurd (none c z)) g)));
      standing = names;
      few = few_names;
      stands = λ i d l h k.
          let one = from_renamed i d h in
          let at = in_map_cases (rename names) one.0 l (subst (In l) (sym one.2) k) in
          let name = named_lit i one.0 at.0 one.1 at.1 in
          let here : slice_get names at.0.var ≡ Some l.var = name.2.named ∙ ap Some (ap (λ o. unwrap_or o 0) (sym name.2.named) ∙ ap (λ (x : Lit). x.var) at.2) in
          (at.0.var, slice_get_within names at.0.var l.var here, get_or_from_slice_get names at.0.var l.var l.var here);
      new = λ i d h. new_at i d h;
    }
      where
        from_given : (i : ℕ) (d : List Lit) → Both (Literal nodes) (Units (map lit_of problem_lits)) d → Weak i d
        from_given i d (inl h) = inl (inl (inr h))
        from_given i d (inr h) = inl (inr h)

        few_names : length names ≤ weight problem
        few_names = omega (arith, few_origins, length_names problem (length problem) e.origins)

    -- a record past the limit gives one over nodes
    pub past_limit : (limit : Turns) → (number : ℕ) → limit ≡ turns.Counted number → length learned ≡ number + 1 → number < 3 ^ length e.origins → (record_nodes : List Node) (clauses : List (List NodeLit)) → IsNamed problem e.origins learned record_nodes clauses → IsPastLimit problem problem_lits limit record_nodes clauses
    past_limit limit number counted count small record_nodes clauses named = record {
      number = number;
      counted = counted;
      count = omega (arith, lengths_of clauses renamed named.renamed, length_mapped (map (rename names)) learned, count);
      small = let grown : 3 ^ length e.origins ≤ 3 ^ weight problem = pow-le-pow_right (omega arith) few_origins in omega (arith, small, grown);
      recorded = subst (λ w. IsRecord problem problem_lits w (clauses_of clauses)) (sym named.listed) (subst (λ w. IsRecord problem problem_lits nodes w) (sym named.renamed) record_over_nodes);
    }
      where
        length_mapped : {X Y : Type 0} (f : X → Y) (xs : List X) → length (map f xs) ≡ length xs
        length_mapped f [] = refl
        length_mapped f (x ∷ xs) = ap suc (length_mapped f xs)

        lengths_of : (cs : List (List NodeLit)) (ds : List (List Lit)) → clauses_of cs ≡ ds → length cs ≡ length ds
        lengths_of cs ds same = sym (length_mapped (map lit_of) cs) ∙ ap length same
