-- Values of nodes as values of the constants that the nodes stand for.
use Rattle.std.proofs.Common.{◌≡◌, ◌∙◌, ◌<◌, ◌+◌, ◌++◌, ℕ, Bool, true, false, zero, suc, List, [], ◌∷◌, Option, Some, None, length, map, refl, sym, ap, subst, arith, ⊎_elim, if◌then◌else◌, add-zero, zero-add, take, get_or}
use Rattle.std.specs.Prelude.{slice_get, unwrap_or, filter}
use Rattle.std.proofs.lemmas.Option.{same_Some, slice_get_within, unwrap_or-slice_get}
use Rattle.stamped_slots.proofs.Lists.{map_some, get_in}
use Rattle.y_tree.specs.Sorts.{boolean}
use Rattle.y_tree.specs.Values.{truth}
use Rattle.y_tree.specs.Tree.{constant}
use Rattle.y_tree.specs.Meaning.{meaning, truth_of}
use Rattle.term_shapes.specs.declared.handles.Term.{Term}
use Rattle.term_shapes.specs.declared.handles.TypeId.{TypeId}
use Rattle.term_shapes.specs.declared.shapes.Shape.{Shape}
use Rattle.term_shapes.specs.declared.shapes.Shape.TheVariants as shape
use Rattle.term_shapes.specs.Shapes.{op_of}
use Rattle.term_table.specs.World.{World, HasShape, shape_at, Keeps}
use Rattle.term_orders.specs.Orders.{IsOrder, AreConstants, is_constant_shape}
use Rattle.term_orders.proofs.Chosen.{chosen_are}
use Rattle.node_encoding.specs.declared.Node.{Node}
use Rattle.node_encoding.specs.declared.Node.TheVariants as node_of
use Rattle.node_encoding.specs.declared.NodeLit.{NodeLit}
use Rattle.node_encoding.specs.Nodes as nodes
use Rattle.node_encoding.specs.Nodes.{tree_at, entry_of, number_of, number_at, constants_in, assignment_of, booleans}
use Rattle.node_encoding.proofs.Gets.{front_get}
use Rattle.theory_combine.specs.Answers.{IsSolution}
use Rattle.term_checks.specs.Listing.{no_term, term_in}
use Rattle.term_checks.specs.Answers.{IsTrueAt, AreTrueAt, constant_number, numbered, assignment_by, IsValueAt, IsModel}
use Rattle.term_checks.specs.Problems.{IsLiteral, AreLiterals}
use Rattle.term_checks.specs.Building.{AreNodes, IsNodeAt, valued}
use Rattle.term_checks.proofs.Trees.{kept_at}
use Rattle.term_checks.proofs.Starts.{in_either}
use Rattle.term_checks.proofs.Places.{mapped_more}

shifted : (base j : ℕ) → suc base + j ≡ base + suc j
shifted base j = omega arith

-- what is looked up at rising places of just those that pass is what the filter leaves
module _ {X V : Type 0} (p : X → Bool) (look : ℕ → X) where
  pub record Picks (base : ℕ) (xs : List X) (es : List (ℕ × V)) : Type 0 where
    pub looked : (j : ℕ) (x : X) → slice_get xs j ≡ Some x → look (base + j) ≡ x
    pub rising : (i j : ℕ) (e d : ℕ × V) → i < j → slice_get es i ≡ Some e → slice_get es j ≡ Some d → e.0 < d.0
    pub every : (j : ℕ) (x : X) → slice_get xs j ≡ Some x → p x ≡ true → (i : ℕ) × (v : V) × (slice_get es i ≡ Some (base + j, v))
    pub only : (i : ℕ) (e : ℕ × V) → slice_get es i ≡ Some e → (j : ℕ) × (x : X) × (e.0 ≡ base + j) × (slice_get xs j ≡ Some x) × (p x ≡ true)

  -- the first item has no place among them
  skip : (base : ℕ) (x : X) (xs : List X) (es : List (ℕ × V)) → p x ≡ false → Picks base (x ∷ xs) es → Picks (suc base) xs es
  skip base x xs es misses k = record {
    looked = λ j y at. ap look (shifted base j) ∙ k.looked (suc j) y at;
    rising = k.rising;
    every = λ j y at pass. let r = k.every (suc j) y at pass in (r.0, r.1, r.2 ∙ ap (λ z. Some (z, r.1)) (sym (shifted base j)));
    only = λ i e at. let r = k.only i e at in later i e r.0 r.1 r.2 r.3 r.4;
  }
    where
      later : (i : ℕ) (e : ℕ × V) (j : ℕ) (y : X) → e.0 ≡ base + j → slice_get (x ∷ xs) j ≡ Some y → p y ≡ true → (m : ℕ) × (z : X) × (e.0 ≡ suc base + m) × (slice_get xs m ≡ Some z) × (p z ≡ true)
      later i e zero y is at pass = absurd (cc (sym misses ∙ ap p (same_Some x y at) ∙ pass))
      later i e (suc j) y is at pass = (j, y, is ∙ sym (shifted base j), at, pass)

  -- the first item has the first place
  first_place : (base : ℕ) (x : X) (xs : List X) (e : ℕ × V) (es : List (ℕ × V)) → p x ≡ true → Picks base (x ∷ xs) (e ∷ es) → e.0 ≡ base
  first_place base x xs e es passes k = by (k.every 0 x refl passes) (k.only 0 e refl)
    where
      by : ((i : ℕ) × (v : V) × (slice_get (e ∷ es) i ≡ Some (base + 0, v))) → ((j : ℕ) × (y : X) × (e.0 ≡ base + j) × (slice_get (x ∷ xs) j ≡ Some y) × (p y ≡ true)) → e.0 ≡ base
      by (zero, v, at) r = let same : e.0 ≡ base + 0 = ap (λ (z : ℕ × V). z.0) (same_Some e (base + 0, v) at) in omega (arith, same)
      by (suc i, v, at) (j, y, is, there, pass) = absurd (let less = k.rising 0 (suc i) e (base + 0, v) (omega arith) refl at in omega (arith, less, is))

  drop_first : (base : ℕ) (x : X) (xs : List X) (e : ℕ × V) (es : List (ℕ × V)) → e.0 ≡ base → Picks base (x ∷ xs) (e ∷ es) → Picks (suc base) xs es
  drop_first base x xs e es here k = record {
    looked = λ j y at. ap look (shifted base j) ∙ k.looked (suc j) y at;
    rising = λ i j a b less at there. k.rising (suc i) (suc j) a b (omega (arith, less)) at there;
    every = λ j y at pass. let r = k.every (suc j) y at pass in earlier j r.0 r.1 r.2;
    only = λ i d at. let r = k.only (suc i) d at in later i d at r.0 r.1 r.2 r.3 r.4;
  }
    where
      earlier : (j i : ℕ) (v : V) → slice_get (e ∷ es) i ≡ Some (base + suc j, v) → (m : ℕ) × (z : V) × (slice_get es m ≡ Some (suc base + j, z))
      earlier j zero v at = absurd (let same : e.0 ≡ base + suc j = ap (λ (z : ℕ × V). z.0) (same_Some e (base + suc j, v) at) in omega (arith, same, here))
      earlier j (suc i) v at = (i, v, at ∙ ap (λ z. Some (z, v)) (sym (shifted base j)))

      later : (i : ℕ) (d : ℕ × V) → slice_get es i ≡ Some d → (j : ℕ) (y : X) → d.0 ≡ base + j → slice_get (x ∷ xs) j ≡ Some y → p y ≡ true → (m : ℕ) × (z : X) × (d.0 ≡ suc base + m) × (slice_get xs m ≡ Some z) × (p z ≡ true)
      later i d at zero y is there pass = absurd (let less = k.rising 0 (suc i) e d (omega arith) refl at in omega (arith, less, is, here))
      later i d at (suc j) y is there pass = (j, y, is ∙ sym (shifted base j), there, pass)

  -- an item that doesn't pass is left out
  without : (base : ℕ) (x : X) (xs : List X) (es : List (ℕ × V)) → ((ds : List (ℕ × V)) → Picks (suc base) xs ds → map (λ (e : ℕ × V). look e.0) ds ≡ filter p xs) → p x ≡ false → Picks base (x ∷ xs) es
      → map (λ (e : ℕ × V). look e.0) es ≡ filter p (x ∷ xs)
  without base x xs es rest misses k = rest es (skip base x xs es misses k) ∙ ap (λ b. if b then x ∷ filter p xs else filter p xs) (sym misses)

  -- and one that does comes first
  with_first : (base : ℕ) (x : X) (xs : List X) (es : List (ℕ × V)) → ((ds : List (ℕ × V)) → Picks (suc base) xs ds → map (λ (e : ℕ × V). look e.0) ds ≡ filter p xs) → p x ≡ true → Picks base (x ∷ xs) es
      → map (λ (e : ℕ × V). look e.0) es ≡ filter p (x ∷ xs)
  with_first base x xs [] rest passes k = let r = k.every 0 x refl passes in absurd (cc r.2)
  with_first base x xs (e ∷ es) rest passes k =
      let here = first_place base x xs e es passes k in
      let start : look e.0 ≡ x = ap look (here ∙ sym (add-zero base)) ∙ k.looked 0 x refl in
      ap (λ z. z ∷ map (λ (d : ℕ × V). look d.0) es) start
      ∙ ap (λ z. x ∷ z) (rest es (drop_first base x xs e es here k))
      ∙ ap (λ b. if b then x ∷ filter p xs else filter p xs) (sym passes)

  by_first : (base : ℕ) (x : X) (xs : List X) (es : List (ℕ × V)) → ((ds : List (ℕ × V)) → Picks (suc base) xs ds → map (λ (e : ℕ × V). look e.0) ds ≡ filter p xs) → (b : Bool) → p x ≡ b → Picks base (x ∷ xs) es
      → map (λ (e : ℕ × V). look e.0) es ≡ filter p (x ∷ xs)
  by_first base x xs es rest false misses k = without base x xs es rest misses k
  by_first base x xs es rest true passes k = with_first base x xs es rest passes k

  pub picked : (base : ℕ) (xs : List X) (es : List (ℕ × V)) → Picks base xs es → map (λ (e : ℕ × V). look e.0) es ≡ filter p xs
  picked base [] [] k = refl
  picked base [] (e ∷ es) k = let r = k.only 0 e refl in absurd (cc r.3)
  picked base (x ∷ xs) es k = by_first base x xs es (picked (suc base) xs) (p x) refl k

-- the shape of a constant's operator is that of a constant
constant_form : (s : Shape) (number : ℕ) → op_of s boolean ≡ constant number boolean → (of : TypeId) × (s ≡ shape.Const number of)
constant_form shape.True number h = absurd (cc h)
constant_form shape.False number h = absurd (cc h)
constant_form (shape.Const n of) number h = let same : n ≡ number = cc h in (of, ap (λ z. shape.Const z of) same)
constant_form (shape.Var n of) number h = absurd (cc h)
constant_form (shape.Number q) number h = absurd (cc h)
constant_form (shape.Bits n a) number h = absurd (cc h)
constant_form (shape.Not t) number h = absurd (cc h)
constant_form (shape.And ts) number h = absurd (cc h)
constant_form (shape.Or ts) number h = absurd (cc h)
constant_form (shape.Xor ts) number h = absurd (cc h)
constant_form (shape.Ite c t u) number h = absurd (cc h)
constant_form (shape.Eq t u) number h = absurd (cc h)
constant_form (shape.Distinct ts) number h = absurd (cc h)
constant_form (shape.App f ts) number h = absurd (cc h)
constant_form (shape.Update f ts v) number h = absurd (cc h)
constant_form (shape.Sum ms q) number h = absurd (cc h)
constant_form (shape.NonNeg t) number h = absurd (cc h)
constant_form (shape.Bv op ts) number h = absurd (cc h)
constant_form (shape.BvAt op i j t) number h = absurd (cc h)

-- and the node of a constant's operator is that of a constant
constant_node : (n : Node) (number : ℕ) → constant number boolean ≡ nodes.op_of n → n ≡ node_of.Const number
constant_node node_of.True number h = absurd (cc h)
constant_node node_of.False number h = absurd (cc h)
constant_node (node_of.Const k) number h = let same : number ≡ k = cc h in ap node_of.Const (sym same)
constant_node (node_of.Not a) number h = absurd (cc h)
constant_node (node_of.And args) number h = absurd (cc h)
constant_node (node_of.Or args) number h = absurd (cc h)
constant_node (node_of.Xor args) number h = absurd (cc h)
constant_node (node_of.Ite c a b) number h = absurd (cc h)
constant_node (node_of.Eq a b) number h = absurd (cc h)
constant_node (node_of.Distinct args) number h = absurd (cc h)

constant_shape : (o : Option Shape) → is_constant_shape o ≡ true → (number : ℕ) × (of : TypeId) × (o ≡ Some (shape.Const number of))
constant_shape None h = absurd (cc h)
constant_shape (Some shape.True) h = absurd (cc h)
constant_shape (Some shape.False) h = absurd (cc h)
constant_shape (Some (shape.Const n of)) h = (n, of, refl)
constant_shape (Some (shape.Var n of)) h = absurd (cc h)
constant_shape (Some (shape.Number q)) h = absurd (cc h)
constant_shape (Some (shape.Bits n a)) h = absurd (cc h)
constant_shape (Some (shape.Not t)) h = absurd (cc h)
constant_shape (Some (shape.And ts)) h = absurd (cc h)
constant_shape (Some (shape.Or ts)) h = absurd (cc h)
constant_shape (Some (shape.Xor ts)) h = absurd (cc h)
constant_shape (Some (shape.Ite c t u)) h = absurd (cc h)
constant_shape (Some (shape.Eq t u)) h = absurd (cc h)
constant_shape (Some (shape.Distinct ts)) h = absurd (cc h)
constant_shape (Some (shape.App f ts)) h = absurd (cc h)
constant_shape (Some (shape.Update f ts v)) h = absurd (cc h)
constant_shape (Some (shape.Sum ms q)) h = absurd (cc h)
constant_shape (Some (shape.NonNeg t)) h = absurd (cc h)
constant_shape (Some (shape.Bv op ts)) h = absurd (cc h)
constant_shape (Some (shape.BvAt op i j t)) h = absurd (cc h)

back_get : {X : Type 0} (xs ys : List X) (i : ℕ) (x : X) → slice_get ys i ≡ Some x → (j : ℕ) × (slice_get (xs ++ ys) j ≡ Some x)
back_get [] ys i x h = (i, h)
back_get (z ∷ xs) ys i x h = let r = back_get xs ys i x h in (suc r.0, r.1)

module _ (w : World) (order : List Term) (ns : List Node) (are : AreNodes w order (length order) ns) where
  -- the term of a constant's node is that constant
  pub constant_term : (k number : ℕ) → slice_get ns k ≡ Some (node_of.Const number) → (t : Term) × (of : TypeId) × (slice_get order k ≡ Some t) × HasShape w t (shape.Const number of)
  constant_term k number h =
      let far = slice_get_within ns k (node_of.Const number) h in
      let t = get_in order k (omega (arith, far, are.count)) in
      let r = are.each k t.0 (slice_get_within order k t.0 t.1) t.1 in
      let i : IsNodeAt w order t.0 r.0 = r.2 in
      let same : r.0 ≡ node_of.Const number = same_Some r.0 (node_of.Const number) (sym r.1 ∙ h) in
      let f = constant_form i.form number (i.is.op ∙ ap nodes.op_of same) in
      (t.0, f.0, t.1, i.has ∙ ap Some f.1)

  -- and the node of a constant is that constant's
  pub constant_there : (k : ℕ) (t : Term) → slice_get order k ≡ Some t → is_constant_shape (shape_at w t) ≡ true → (number : ℕ) × (slice_get ns k ≡ Some (node_of.Const number))
  constant_there k t at h =
      let r = are.each k t (slice_get_within order k t at) at in
      let i : IsNodeAt w order t r.0 = r.2 in
      let f = constant_shape (shape_at w t) h in
      let form : i.form ≡ shape.Const f.0 f.1 = same_Some i.form (shape.Const f.0 f.1) (sym i.has ∙ f.2) in
      (f.0, r.1 ∙ ap Some (constant_node r.0 f.0 (ap (λ z. op_of z boolean) (sym form) ∙ i.is.op)))

  term_at : (k : ℕ) (t : Term) → slice_get order k ≡ Some t → term_in order k ≡ t
  term_at k t at = ap (λ z. unwrap_or z no_term) at

  numbers_same : (vs : List (ℕ × Bool)) → ((i : ℕ) (e : ℕ × Bool) → slice_get vs i ≡ Some e → (number : ℕ) × (slice_get ns e.0 ≡ Some (node_of.Const number))) → numbered w (valued order vs) ≡ constants_in ns vs
  numbers_same [] only = refl
  numbers_same (e ∷ vs) only =
      let r = only 0 e refl in
      let t = constant_term e.0 r.0 r.1 in
      let shown : constant_number (shape_at w (term_in order e.0)) ≡ Some r.0 = ap (λ z. constant_number (shape_at w z)) (term_at e.0 t.0 t.2) ∙ ap constant_number t.3 in
      let counted : number_at ns e.0 ≡ Some r.0 = ap number_of r.1 in
      ap (λ z. entry_of z e.1 ++ numbered w (valued order vs)) (shown ∙ sym counted) ∙ ap (λ z. entry_of (number_at ns e.0) e.1 ++ z) (numbers_same vs (λ i. only (suc i)))

  module _ (formulas assumed : List Term) (is_order : IsOrder w (formulas ++ assumed) order) (asserted tried : List NodeLit) (lits : AreLiterals order formulas asserted) (tried_lits : AreLiterals order assumed tried)
      (vs : List (ℕ × Bool)) (solution : IsSolution ns (asserted ++ tried) vs) where
    same_assignment : assignment_by w (valued order vs) ≡ assignment_of ns vs
    same_assignment = ap booleans (numbers_same vs solution.only)

    picks : Picks (λ (t : Term). is_constant_shape (shape_at w t)) (term_in order) 0 order vs
    picks = record {
      looked = λ j t at. ap (term_in order) (zero-add j) ∙ term_at j t at;
      rising = solution.rising;
      every = λ j t at pass. let n = constant_there j t at pass in let r = solution.every j n.0 n.1 in (r.0, r.1, r.2 ∙ ap (λ z. Some (z, r.1)) (sym (zero-add j)));
      only = λ i e at. let n = solution.only i e at in let t = constant_term e.0 n.0 n.1 in (e.0, t.0, sym (zero-add e.0), t.2, ap is_constant_shape t.3);
    }

    constants_are : AreConstants w (formulas ++ assumed) (map (λ (e : Term × Bool). e.0) (valued order vs))
    constants_are =
        chosen_are w (formulas ++ assumed) order _ is_order (firsts vs ∙ picked (λ (t : Term). is_constant_shape (shape_at w t)) (term_in order) 0 order vs picks)
      where
        firsts : (es : List (ℕ × Bool)) → map (λ (e : Term × Bool). e.0) (valued order es) ≡ map (λ (e : ℕ × Bool). term_in order e.0) es
        firsts [] = refl
        firsts (e ∷ es) = ap (λ z. term_in order e.0 ∷ z) (firsts es)

    values_agree : (i : ℕ) (e : Term × Bool) → slice_get (valued order vs) i ≡ Some e → IsValueAt w (assignment_by w (valued order vs)) e
    values_agree i e at =
        let r = map_some (λ (d : ℕ × Bool). (term_in order d.0, d.1)) vs i e at in
        let n = solution.only i r.0 r.1 in
        let t = constant_term r.0.0 n.0 n.1 in
        let name : e.0 ≡ t.0 = ap (λ (z : Term × Bool). z.0) (sym r.2) ∙ term_at r.0.0 t.0 t.2 in
        let value : r.0.1 ≡ e.1 = ap (λ (z : Term × Bool). z.1) r.2 in
        record {
          tree = tree_at ns r.0.0;
          kept = subst (λ z. Keeps w z (tree_at ns r.0.0)) (sym name) (kept_at w order ns are r.0.0 t.0 t.2);
          value = ap (meaning (tree_at ns r.0.0)) same_assignment ∙ solution.agree i r.0 r.1 ∙ ap truth value;
        }

    -- a literal that is made true makes its term true
    true_term : (t : Term) (i : ℕ) (lit : NodeLit) → slice_get (asserted ++ tried) i ≡ Some lit → IsLiteral order t lit → IsTrueAt w (assignment_by w (valued order vs)) t
    true_term t i lit at is = record {
      tree = tree_at ns lit.node;
      kept = kept_at w order ns are lit.node t is.node;
      true_there = ap (λ z. truth_of (meaning (tree_at ns lit.node) z)) same_assignment ∙ solution.makes i lit at ∙ is.positive;
    }

    all_true : AreTrueAt w (assignment_by w (valued order vs)) (formulas ++ assumed)
    all_true t h = ⊎_elim
        (λ k. let r = lits.every t k in true_term t r.0 r.1 (front_get asserted tried r.0 r.1 r.2) r.3)
        (λ k. let r = tried_lits.every t k in let b = back_get asserted tried r.0 r.1 r.2 in true_term t b.0 r.1 b.1 r.3)
        (in_either formulas assumed t h)

    pub model_of : IsModel w formulas assumed (valued order vs)
    model_of = record { constants = constants_are; agree = values_agree; makes = all_true }

-- the value of one node more
pub values_more : (order : List Term) (vs : List (ℕ × Bool)) (i : ℕ) (found more : List (Term × Bool)) → i < length vs → found ≡ valued order (take i vs)
    → more ≡ found ++ (get_or order (get_or vs i (0, false)).0 no_term, (get_or vs i (0, false)).1) ∷ [] → more ≡ valued order (take (i + 1) vs)
values_more order vs i found more small before e =
    let x : ℕ × Bool = get_or vs i (0, false) in
    let read : get_or order x.0 no_term ≡ term_in order x.0 = sym (unwrap_or-slice_get order x.0 no_term) in
    e ∙ mapped_more (λ (d : ℕ × Bool). (term_in order d.0, d.1)) vs i (0, false) found (get_or order x.0 no_term, x.1) small before (ap {B = Term × Bool} (λ z. (z, x.1)) read)
