-- What an encoding says of its nodes: sound, complete and strong.
--
-- Each literal is a gate over its arguments' literals. So where the clauses are true its truth value is the one that
-- the shape makes, and each defining clause of its node is a clause of the gate, or is propagated by some.
use Rattle.std.proofs.Common.{◌≡◌, ◌∙◌, ◌<◌, ◌≤◌, ℕ, zero, suc, Bool, List, [], ◌∷◌, inl, inr, ⊎_elim, Some, length, map, take, refl, sym, ap, subst, arith, All}
use Rattle.std.specs.Prelude.{slice_get, unwrap_or}
use Rattle.std.proofs.lemmas.Bool.{cases_eq}
use Rattle.clause_logic.specs.declared.Lit.{Lit}
use Rattle.clause_logic.specs.Clauses.{opposite, In, Models, Both, Listed}
use Rattle.clause_logic.specs.Strength.{IsClosed, Imitates}
use Rattle.clause_logic.proofs.Gets.{get_in}
use Rattle.clause_logic.proofs.Weakening.{imitates_closed}
use Rattle.node_encoding.specs.declared.Node.{Node}
use Rattle.node_encoding.specs.declared.Node.TheVariants as node_of
use Rattle.node_encoding.specs.Nodes.{IsFormed, arguments_of, truths_of}
use Rattle.node_encoding.specs.Shapes.{shape_value, IsShaped, Obeys, true_at, false_at, Defining, Literal}
use Rattle.node_encoding.specs.Gates.{truth}
use Rattle.node_encoding.specs.Encoding.{Encoded, Encodes, lit_at, image}
use Rattle.node_encoding.specs.Laws.{encoded_nodes, EncodingsAreSound, EncodingsAreShaped, EncodingsAreComplete, EncodingsAreStrong}
use Rattle.node_encoding.proofs.Gets.{length_front, all_get, map_same}
use Rattle.node_encoding.proofs.Gating.{gate_complete, map_map}
use Rattle.node_encoding.proofs.Meanings.{obeys}
use Rattle.node_encoding.proofs.Lifting.{phi}
use Rattle.node_encoding.proofs.GateLifts.{gate_lifts}

get_taken : {X : Type 0} (m : ℕ) (xs : List X) (k : ℕ) (x : X) → slice_get (take m xs) k ≡ Some x → (k < m) × (slice_get xs k ≡ Some x)
get_taken zero xs k x h = absurd (cc h)
get_taken (suc m) [] k x h = absurd (cc h)
get_taken (suc m) (y ∷ xs) zero x h = (omega arith, h)
get_taken (suc m) (y ∷ xs) (suc k) x h = let r = get_taken m xs k x h in (omega (arith, r.0), r.1)

taken_length : {X : Type 0} (m : ℕ) (xs : List X) (k : ℕ) → m ≤ length xs → k < m → k < length (take m xs)
taken_length zero xs k h small = absurd (omega (arith, small))
taken_length (suc m) [] k h small = absurd (omega (arith, h))
taken_length (suc m) (x ∷ xs) zero h small = omega arith
taken_length (suc m) (x ∷ xs) (suc k) h small = let one = taken_length m xs k (omega (arith, h)) (omega (arith, small)) in omega (arith, one)

some_there : (ls : List Lit) (k : ℕ) (d : Lit) → k < length ls → slice_get ls k ≡ Some (unwrap_or (slice_get ls k) d)
some_there [] k d h = absurd (omega (arith, h))
some_there (l ∷ ls) zero d h = refl
some_there (l ∷ ls) (suc k) d h = some_there ls k d (omega (arith, h))

-- a clause of one literal makes it true
pub single : (P : Lit → Type 0) (clauses : List Lit → Type 0) → IsClosed clauses P → (g : Lit) → clauses (g ∷ []) → P g
single P clauses closed g h = closed.unit_of (g ∷ []) g h (inl refl) (λ m k n. ⊎_elim (λ e. absurd (n (sym e))) (λ z. absurd z) k)

pub only_one : (x l : Lit) (d : List Lit) → d ≡ x ∷ [] → In l d → x ≡ l
only_one x l d e k = ⊎_elim (λ s. s) (λ z. absurd z) (subst (In l) e k)

pub sound : EncodingsAreSound
sound nodes e s a formed encodes agrees =
    (encodes.sound _ a (obeys nodes formed s) agrees, encodes.means _ a (obeys nodes formed s) agrees)

-- the arguments of a node are earlier
pub earlier : (nodes : List Node) → IsFormed nodes → (k : ℕ) (n : Node) → slice_get nodes k ≡ Some n → All (λ a. a < k) (arguments_of n)
earlier nodes formed k n h i d small = let one = (formed.fits k n h).earlier i d small in omega (arith, one, length_front nodes k n h)

-- truth values that are as the shapes say are told by those of the constants
module _ (nodes : List Node) (before_it : (k : ℕ) (n : Node) → slice_get nodes k ≡ Some n → All (λ a. a < k) (arguments_of n)) (t u : ℕ → Bool) (ot : Obeys nodes t) (ou : Obeys nodes u)
    (same : (k number : ℕ) → slice_get nodes k ≡ Some (node_of.Const number) → t k ≡ u k) where
  from_arguments : (k : ℕ) (n : Node) → slice_get nodes k ≡ Some n → ((j : ℕ) → j < k → t j ≡ u j) → map t (arguments_of n) ≡ map u (arguments_of n)
  from_arguments k n h before =
      map_same t u (arguments_of n)
      (λ j a e. before a (all_get (λ b. b < k) (arguments_of n) j a (before_it k n h) e))

  at_node : (k : ℕ) (n : Node) → slice_get nodes k ≡ Some n → ((j : ℕ) → j < k → t j ≡ u j) → t k ≡ u k
  at_node k (node_of.Const number) h before = same k number h
  at_node k node_of.True h before = ot.shaped k node_of.True h ∙ sym (ou.shaped k node_of.True h)
  at_node k node_of.False h before = ot.shaped k node_of.False h ∙ sym (ou.shaped k node_of.False h)
  at_node k (node_of.Not a) h before = ot.shaped k (node_of.Not a) h ∙ ap (shape_value (node_of.Not a)) (from_arguments k (node_of.Not a) h before) ∙ sym (ou.shaped k (node_of.Not a) h)
  at_node k (node_of.And args) h before = ot.shaped k (node_of.And args) h ∙ ap (shape_value (node_of.And args)) (from_arguments k (node_of.And args) h before) ∙ sym (ou.shaped k (node_of.And args) h)
  at_node k (node_of.Or args) h before = ot.shaped k (node_of.Or args) h ∙ ap (shape_value (node_of.Or args)) (from_arguments k (node_of.Or args) h before) ∙ sym (ou.shaped k (node_of.Or args) h)
  at_node k (node_of.Xor args) h before = ot.shaped k (node_of.Xor args) h ∙ ap (shape_value (node_of.Xor args)) (from_arguments k (node_of.Xor args) h before) ∙ sym (ou.shaped k (node_of.Xor args) h)
  at_node k (node_of.Ite c a b) h before = ot.shaped k (node_of.Ite c a b) h ∙ ap (shape_value (node_of.Ite c a b)) (from_arguments k (node_of.Ite c a b) h before) ∙ sym (ou.shaped k (node_of.Ite c a b) h)
  at_node k (node_of.Eq a b) h before = ot.shaped k (node_of.Eq a b) h ∙ ap (shape_value (node_of.Eq a b)) (from_arguments k (node_of.Eq a b) h before) ∙ sym (ou.shaped k (node_of.Eq a b) h)
  at_node k (node_of.Distinct args) h before = ot.shaped k (node_of.Distinct args) h ∙ ap (shape_value (node_of.Distinct args)) (from_arguments k (node_of.Distinct args) h before) ∙ sym (ou.shaped k (node_of.Distinct args) h)

  below_all : (bound : ℕ) → bound ≤ length nodes → (k : ℕ) → k < bound → t k ≡ u k
  below_all zero small k h = absurd (omega (arith, h))
  below_all (suc bound) small k h =
      ⊎_elim
      (λ e. let one = get_in nodes bound (omega (arith, small)) in ap t e ∙ at_node bound one.0 one.1 (λ j. below_all bound (omega (arith, small)) j) ∙ ap u (sym e))
      (λ d. below_all bound (omega (arith, small)) k (omega (arith, h, d)))
      (cases_eq k bound)

  pub told : (k : ℕ) → k < length nodes → t k ≡ u k
  told k h = below_all (length nodes) (omega arith) k h

module _ (nodes : List Node) (e : Encoded) (formed : IsFormed nodes) (encodes : Encodes nodes e) where
  -- what is known of a node that has a literal
  there : (k : ℕ) (n : Node) → slice_get (encoded_nodes nodes e) k ≡ Some n → (slice_get nodes k ≡ Some n) × (slice_get e.lits k ≡ Some (lit_at e.lits k))
  there k n h = let r = get_taken (length e.lits) nodes k n h in (r.1, some_there e.lits k (true_at k) r.0)

  module _ (a : ℕ → Bool) (models : Models a (Listed e.clauses)) where
    abbrev t : ℕ → Bool
    t k = truth a (lit_at e.lits k)

    has_shape : (k : ℕ) (n : Node) → (slice_get nodes k ≡ Some n) × (slice_get e.lits k ≡ Some (lit_at e.lits k)) → IsShaped t k n
    has_shape k node_of.True h = gate_complete a (lit_at e.lits) e.clauses models node_of.True (lit_at e.lits k) (encodes.gates k node_of.True _ h.0 h.1)
    has_shape k node_of.False h = gate_complete a (lit_at e.lits) e.clauses models node_of.False (lit_at e.lits k) (encodes.gates k node_of.False _ h.0 h.1)
    has_shape k (node_of.Const number) h = tt
    has_shape k (node_of.Not x) h = gate_complete a (lit_at e.lits) e.clauses models (node_of.Not x) (lit_at e.lits k) (encodes.gates k (node_of.Not x) _ h.0 h.1)
    has_shape k (node_of.And args) h =
        gate_complete a (lit_at e.lits) e.clauses models (node_of.And args) (lit_at e.lits k) (encodes.gates k (node_of.And args) _ h.0 h.1) ∙ ap (shape_value (node_of.And args)) (map_map (truth a) (lit_at e.lits) args)
    has_shape k (node_of.Or args) h =
        gate_complete a (lit_at e.lits) e.clauses models (node_of.Or args) (lit_at e.lits k) (encodes.gates k (node_of.Or args) _ h.0 h.1) ∙ ap (shape_value (node_of.Or args)) (map_map (truth a) (lit_at e.lits) args)
    has_shape k (node_of.Xor args) h =
        gate_complete a (lit_at e.lits) e.clauses models (node_of.Xor args) (lit_at e.lits k) (encodes.gates k (node_of.Xor args) _ h.0 h.1) ∙ ap (shape_value (node_of.Xor args)) (map_map (truth a) (lit_at e.lits) args)
    has_shape k (node_of.Ite c x y) h = gate_complete a (lit_at e.lits) e.clauses models (node_of.Ite c x y) (lit_at e.lits k) (encodes.gates k (node_of.Ite c x y) _ h.0 h.1)
    has_shape k (node_of.Eq x y) h = gate_complete a (lit_at e.lits) e.clauses models (node_of.Eq x y) (lit_at e.lits k) (encodes.gates k (node_of.Eq x y) _ h.0 h.1)
    has_shape k (node_of.Distinct args) h =
        gate_complete a (lit_at e.lits) e.clauses models (node_of.Distinct args) (lit_at e.lits k) (encodes.gates k (node_of.Distinct args) _ h.0 h.1) ∙ ap (shape_value (node_of.Distinct args)) (map_map (truth a) (lit_at e.lits) args)

    obeyed : Obeys (encoded_nodes nodes e) t
    obeyed = record {
      shaped = λ k n h. has_shape k n (there k n h);
      constants = λ j k number h g. let one = there j _ h in let two = there k _ g in ap (truth a) (encodes.constants j k number _ _ one.0 two.0 one.1 two.1);
    }

  lifts : (P : Lit → Type 0) → IsClosed (Listed e.clauses) P → (c : List Lit) (l : Lit) → Both (Defining (encoded_nodes nodes e)) (Literal (encoded_nodes nodes e)) c → In l c
      → ((m : Lit) → In m c → (m ≡ l → ⊥) → P (phi e.lits (opposite m))) → P (phi e.lits l)
  lifts P closed c l (inl (k, n, h, is)) i others =
      let one = there k n h in gate_lifts e.lits e.clauses P closed k l n (earlier nodes formed k n one.0) (encodes.gates k n (lit_at e.lits k) one.0 one.1) c is i others
  lifts P closed c l (inr (k, inl (h, is))) i others =
      let one = there k node_of.True h in
      subst (λ x. P (phi e.lits x)) (only_one (true_at k) l c is i) (single P (Listed e.clauses) closed (lit_at e.lits k) (encodes.gates k node_of.True (lit_at e.lits k) one.0 one.1 _ (0, refl)))
  lifts P closed c l (inr (k, inr (h, is))) i others =
      let one = there k node_of.False h in
      subst (λ x. P (phi e.lits x)) (only_one (false_at k) l c is i) (single P (Listed e.clauses) closed (opposite (lit_at e.lits k)) (encodes.gates k node_of.False (lit_at e.lits k) one.0 one.1 _ (0, refl)))

  strength : Imitates (Both (Defining (encoded_nodes nodes e)) (Literal (encoded_nodes nodes e))) (Listed e.clauses) (image e.lits)
  strength = imitates_closed (Both (Defining (encoded_nodes nodes e)) (Literal (encoded_nodes nodes e))) (Listed e.clauses) (image e.lits) lifts

pub shaped : EncodingsAreShaped
shaped nodes e a formed encodes models = obeyed nodes e formed encodes a models

pub complete : EncodingsAreComplete
complete nodes e a s formed encodes models same k small =
    sym (told (encoded_nodes nodes e) (λ j n h. earlier nodes formed j n (get_taken (length e.lits) nodes j n h).1) (λ j. truth a (lit_at e.lits j)) (truths_of nodes s)
    (obeyed nodes e formed encodes a models)
    (record {
      shaped = λ j n h. (obeys nodes formed s).shaped j n (get_taken (length e.lits) nodes j n h).1;
      constants = λ i j number h g. (obeys nodes formed s).constants i j number (get_taken (length e.lits) nodes i _ h).1 (get_taken (length e.lits) nodes j _ g).1;
    })
    (λ j number h. sym (same j number h)) k (taken_length (length e.lits) nodes k encodes.within small))

pub strong : EncodingsAreStrong
strong nodes e formed encodes = strength nodes e formed encodes
