-- A sketch's tree has few subtrees that the arguments' trees have not.
use Rattle.std.proofs.Common.{◌≡◌, ◌∙◌, suc, ◌+◌, ◌≤◌, ◌⊎◌, inl, inr, Bool, true, false, List, [], ◌∷◌, ◌++◌, length, map, Some, refl, ap, subst, arith}
use Rattle.y_tree.specs.Tree.{Op, truth, falsity, constant, variable, negation, conjunction, disjunction, parity, choice, equality, distinctness, Tree, Trees, node, none, more, count}
use Rattle.term_shapes.specs.declared.handles.Term.{Term}
use Rattle.term_shapes.specs.declared.shapes.Shape.{Shape}
use Rattle.term_shapes.specs.declared.shapes.Shape.TheVariants as shape
use Rattle.term_shapes.specs.Shapes.{args_of}
use Rattle.term_table.specs.World.{World, Keeps, KeepsAll, IsTable}
use Rattle.term_sketches.specs.declared.items.Literal.{Literal}
use Rattle.term_sketches.specs.declared.items.Sketch.{Sketch}
use Rattle.term_sketches.specs.declared.items.Sketch.TheVariants as sketch
use Rattle.term_sketches.specs.Sketches.{the_truth, same_term, plain}
use Rattle.term_sketches.specs.Valuing.{IsAtomOf, AreAtomsOf, parts_of}
use Rattle.term_build.specs.Building.{literal_of, literal_at, IsIn, itself, below, IsInSome, first, later, IsAmong, IsNearly}
use Rattle.term_build.proofs.Standing.{signed_tree, literal_tree, literal_trees, atom_trees, flagged_tree, sketch_tree}
use Rattle.term_build.proofs.Called.{tree_at, tree_is, true_tree}

cases : {A B C : Type 0} → A ⊎ B → (A → C) → (B → C) → C
cases (inl a) f g = f a
cases (inr b) f g = g b

-- what is in a tree is the tree itself, or in one below it
abbrev children : Tree → Trees
children (node op bs) = bs

in_cases : (a w : Tree) → IsIn a w → (a ≡ w) ⊎ IsInSome a (children w)
in_cases a w (itself b) = inl refl
in_cases a w (below b op bs h) = inr h

abbrev InFirst : Tree → Trees → Type 0
InFirst a none = ⊥
InFirst a (more b bs) = IsIn a b ⊎ IsInSome a bs

some_cases : (a : Tree) (bs : Trees) → IsInSome a bs → InFirst a bs
some_cases a bs (first x b cs h) = inl h
some_cases a bs (later x b cs h) = inr h

-- the trees that may be new: the sketch's own nodes, and a negation for each part
abbrev part_tree : Tree → Bool → Bool → Tree
part_tree a false c = node truth none
part_tree a true c = signed_tree a true c

abbrev parts_trees : (Term → Tree) → List Literal → List Tree
parts_trees f [] = []
parts_trees f (l ∷ ls) = part_tree (f l.atom) l.negated (same_term l.atom the_truth) ∷ parts_trees f ls

abbrev own_trees : (Term → Tree) → Sketch → List Tree
own_trees f (sketch.OneLiteral l) = []
own_trees f (sketch.AllOf ls) = node conjunction (literal_trees f ls) ∷ []
own_trees f (sketch.AnyOf ls) = node disjunction (literal_trees f ls) ∷ []
own_trees f (sketch.OddOf b ts) = flagged_tree b (node parity (atom_trees f ts)) ∷ node parity (atom_trees f ts) ∷ []
own_trees f (sketch.OneOf x a b) = node choice (more (f x) (more (literal_tree f a) (more (literal_tree f b) none))) ∷ []
own_trees f (sketch.Equal b t u) = flagged_tree b (node equality (more (f t) (more (f u) none))) ∷ node equality (more (f t) (more (f u) none)) ∷ []
own_trees f (sketch.Apart ts) = node distinctness (atom_trees f ts) ∷ []

abbrev other_trees : (Term → Tree) → Sketch → List Tree
other_trees f sk = own_trees f sk ++ (node truth none ∷ parts_trees f (parts_of sk))

-- none of them is a constant or a variable
abbrev is_atom : Op → Bool
is_atom (constant n k) = true
is_atom (variable n k) = true
is_atom _ = false

abbrev root : Tree → Op
root (node op bs) = op

abbrev AreOperators : List Tree → Type 0
AreOperators [] = Unit {0}
AreOperators (x ∷ xs) = (is_atom (root x) ≡ false) × AreOperators xs

among_operators : (x : Tree) (xs : List Tree) → AreOperators xs → IsAmong x xs → is_atom (root x) ≡ false
among_operators x [] h is = absurd is
among_operators x (y ∷ ys) h (inl e) = ap (λ z. is_atom (root z)) e ∙ h.0
among_operators x (y ∷ ys) h (inr is) = among_operators x ys h.1 is

plain_trees : (f : Term → Tree) (ts : List Term) → atom_trees f ts ≡ literal_trees f (map plain ts)
plain_trees f [] = refl
plain_trees f (t ∷ ts) = ap (more (f t)) (plain_trees f ts)

part_operator : (a : Tree) (n c : Bool) → is_atom (root (part_tree a n c)) ≡ false
part_operator a false c = refl
part_operator a true true = refl
part_operator a true false = refl

parts_operators : (f : Term → Tree) (ls : List Literal) → AreOperators (parts_trees f ls)
parts_operators f [] = tt
parts_operators f (l ∷ ls) = (part_operator (f l.atom) l.negated (same_term l.atom the_truth), parts_operators f ls)

flagged_operator : (b : Bool) (op : Op) (bs : Trees) → is_atom op ≡ false → is_atom (root (flagged_tree b (node op bs))) ≡ false
flagged_operator false op bs h = h
flagged_operator true op bs h = refl

sketch_operators : (f : Term → Tree) (sk : Sketch) → AreOperators (other_trees f sk)
sketch_operators f (sketch.OneLiteral l) = (refl, parts_operators f (l ∷ []))
sketch_operators f (sketch.AllOf ls) = (refl, (refl, parts_operators f ls))
sketch_operators f (sketch.AnyOf ls) = (refl, (refl, parts_operators f ls))
sketch_operators f (sketch.OddOf b ts) = (flagged_operator b parity (atom_trees f ts) refl, (refl, (refl, parts_operators f (map plain ts))))
sketch_operators f (sketch.OneOf x a b) = (refl, (refl, parts_operators f (plain x ∷ a ∷ b ∷ [])))
sketch_operators f (sketch.Equal b t u) = (flagged_operator b equality (more (f t) (more (f u) none)) refl, (refl, (refl, parts_operators f (plain t ∷ plain u ∷ []))))
sketch_operators f (sketch.Apart ts) = (refl, (refl, parts_operators f (map plain ts)))

-- and they are few
parts_length : (f : Term → Tree) (ls : List Literal) → length (parts_trees f ls) ≡ length ls
parts_length f [] = refl
parts_length f (l ∷ ls) = ap suc (parts_length f ls)

sketch_few : (f : Term → Tree) (sk : Sketch) → length (other_trees f sk) ≤ length (parts_of sk) + 3
sketch_few f (sketch.OneLiteral l) = omega (arith, parts_length f (l ∷ []))
sketch_few f (sketch.AllOf ls) = omega (arith, parts_length f ls)
sketch_few f (sketch.AnyOf ls) = omega (arith, parts_length f ls)
sketch_few f (sketch.OddOf b ts) = omega (arith, parts_length f (map plain ts))
sketch_few f (sketch.OneOf x a b) = omega (arith, parts_length f (plain x ∷ a ∷ b ∷ []))
sketch_few f (sketch.Equal b t u) = omega (arith, parts_length f (plain t ∷ plain u ∷ []))
sketch_few f (sketch.Apart ts) = omega (arith, parts_length f (map plain ts))

-- each subtree of the sketch's tree is one of the arguments', or one of these
module _ (args : Trees) (f : Term → Tree) where
  abbrev Near : List Tree → Tree → Type 0
  Near others a = IsInSome a args ⊎ IsAmong a others

  abbrev pub IsNearAtom : Term → Type 0
  IsNearAtom u = (a : Tree) → IsIn a (f u) → IsInSome a args ⊎ (a ≡ node truth none)

  abbrev pub AtomsNear : List Literal → Type 0
  AtomsNear [] = Unit {0}
  AtomsNear (l ∷ ls) = IsNearAtom l.atom × AtomsNear ls

  one_more : (y : Tree) (xs : List Tree) (a : Tree) → Near xs a → Near (y ∷ xs) a
  one_more y xs a (inl h) = inl h
  one_more y xs a (inr h) = inr (inr h)

  first_two : (x y : Tree) (xs : List Tree) (a : Tree) → Near (x ∷ y ∷ []) a → Near (x ∷ y ∷ xs) a
  first_two x y xs a (inl h) = inl h
  first_two x y xs a (inr (inl e)) = inr (inl e)
  first_two x y xs a (inr (inr (inl e))) = inr (inr (inl e))
  first_two x y xs a (inr (inr (inr h))) = absurd h

  all_but_second : (x y : Tree) (xs : List Tree) (a : Tree) → Near (x ∷ xs) a → Near (x ∷ y ∷ xs) a
  all_but_second x y xs a (inl h) = inl h
  all_but_second x y xs a (inr (inl e)) = inr (inl e)
  all_but_second x y xs a (inr (inr h)) = inr (inr (inr h))

  atom_near : (y : Tree) (a : Tree) → IsInSome a args ⊎ (a ≡ node truth none) → Near (node truth none ∷ y ∷ []) a
  atom_near y a (inl h) = inl h
  atom_near y a (inr e) = inr (inl e)

  signed_near : (u : Term) (n c : Bool) → IsNearAtom u → (a : Tree) → IsIn a (signed_tree (f u) n c) → Near (node truth none ∷ part_tree (f u) n c ∷ []) a
  signed_near u false c g a h = atom_near (node truth none) a (g a h)
  signed_near u true true g a h = cases (in_cases a (node falsity none) h) (λ e. inr (inr (inl e))) (λ x. absurd (some_cases a none x))
  signed_near u true false g a h =
      cases (in_cases a (node negation (more (f u) none)) h) (λ e. inr (inr (inl e)))
      (λ x. cases (some_cases a (more (f u) none) x) (λ y. atom_near (node negation (more (f u) none)) a (g a y)) (λ z. absurd (some_cases a none z)))

  literals_near : (ls : List Literal) → AtomsNear ls → (a : Tree) → IsInSome a (literal_trees f ls) → Near (node truth none ∷ parts_trees f ls) a
  literals_near [] g a h = absurd (some_cases a none h)
  literals_near (l ∷ ls) g a h =
      let y : Tree = part_tree (f l.atom) l.negated (same_term l.atom the_truth) in
      cases (some_cases a (literal_trees f (l ∷ ls)) h) (λ x. first_two (node truth none) y (parts_trees f ls) a (signed_near l.atom l.negated (same_term l.atom the_truth) g.0 a x))
      (λ x. all_but_second (node truth none) y (parts_trees f ls) a (literals_near ls g.1 a x))

  node_near : (op : Op) (bs : Trees) (others : List Tree) (a : Tree) → IsIn a (node op bs) → (IsInSome a bs → Near others a) → Near (node op bs ∷ others) a
  node_near op bs others a h k = cases (in_cases a (node op bs) h) (λ e. inr (inl e)) (λ x. one_more (node op bs) others a (k x))

  flagged_near : (b : Bool) (op : Op) (bs : Trees) (others : List Tree) (a : Tree) → IsIn a (flagged_tree b (node op bs)) → (IsInSome a bs → Near others a) → Near (flagged_tree b (node op bs) ∷ node op bs ∷ others) a
  flagged_near false op bs others a h k = one_more (node op bs) (node op bs ∷ others) a (node_near op bs others a h k)
  flagged_near true op bs others a h k =
      node_near negation (more (node op bs) none) (node op bs ∷ others) a h
      (λ x. cases (some_cases a (more (node op bs) none) x) (λ y. node_near op bs others a y k) (λ z. absurd (some_cases a none z)))

  sketch_near : (sk : Sketch) → AtomsNear (parts_of sk) → (a : Tree) → IsIn a (sketch_tree f sk) → Near (other_trees f sk) a
  sketch_near (sketch.OneLiteral l) g a h = literals_near (l ∷ []) g a (first a (literal_tree f l) none h)
  sketch_near (sketch.AllOf ls) g a h = node_near conjunction (literal_trees f ls) (node truth none ∷ parts_trees f ls) a h (literals_near ls g a)
  sketch_near (sketch.AnyOf ls) g a h = node_near disjunction (literal_trees f ls) (node truth none ∷ parts_trees f ls) a h (literals_near ls g a)
  sketch_near (sketch.OddOf b ts) g a h =
      flagged_near b parity (atom_trees f ts) (node truth none ∷ parts_trees f (map plain ts)) a h (λ x. literals_near (map plain ts) g a (subst (IsInSome a) (plain_trees f ts) x))
  sketch_near (sketch.OneOf x l m) g a h =
      node_near choice (literal_trees f (plain x ∷ l ∷ m ∷ [])) (node truth none ∷ parts_trees f (plain x ∷ l ∷ m ∷ [])) a h (literals_near (plain x ∷ l ∷ m ∷ []) g a)
  sketch_near (sketch.Equal b t u) g a h =
      flagged_near b equality (literal_trees f (plain t ∷ plain u ∷ [])) (node truth none ∷ parts_trees f (plain t ∷ plain u ∷ [])) a h (literals_near (plain t ∷ plain u ∷ []) g a)
  sketch_near (sketch.Apart ts) g a h =
      node_near distinctness (atom_trees f ts) (node truth none ∷ parts_trees f (map plain ts)) a h (λ x. literals_near (map plain ts) g a (subst (IsInSome a) (plain_trees f ts) x))

  pub sketch_nearly : (sk : Sketch) → AtomsNear (parts_of sk) → length (parts_of sk) ≤ suc (count args) → IsNearly (4 + count args) (sketch_tree f sk) args
  sketch_nearly sk g small = record {
    others = other_trees f sk;
    few = omega (arith, sketch_few f sk, small);
    each = sketch_near sk g;
    no_constant = λ n k is. absurd (cc (among_operators (node (constant n k) none) (other_trees f sk) (sketch_operators f sk) is));
    no_variable = λ n k is. absurd (cc (among_operators (node (variable n k) none) (other_trees f sk) (sketch_operators f sk) is));
  }

-- what is in the tree of a call's atom is in an argument's tree, or it is truth
module _ (w : World) (table : IsTable w) where
  truth_near : (a : Tree) → IsIn a (tree_at w table the_truth) → a ≡ node truth none
  truth_near a h = cases (in_cases a (node truth none) (subst (IsIn a) (true_tree w table) h)) (λ e. e) (λ x. absurd (some_cases a none x))

  not_near : (u : Term) (bs : Trees) → KeepsAll w (u ∷ []) bs → (a : Tree) → IsIn a (tree_at w table u) → IsInSome a bs
  unfolding Keeps
  not_near u none h a x = absurd h
  not_near u (more c cs) h a x = first a c cs (subst (IsIn a) (tree_is w table u c h.0) x)

  by_shape : (t : Term) (r : Shape) (b : Tree) (bs : Trees) → KeepsAll w (args_of r) bs → ((a : Tree) → IsInSome a bs → IsIn a b) → tree_at w table t ≡ b → (a : Tree) → IsIn a (tree_at w table (literal_of t (Some r)).atom)
      → IsIn a b ⊎ (a ≡ node truth none)
  by_shape t (shape.Not u) b bs h up e a x = inl (up a (not_near u bs h a x))
  by_shape t shape.False b bs h up e a x = inr (truth_near a x)
  by_shape t _ b bs h up e a x = inl (subst (IsIn a) e x)

  argument_near : (t : Term) (b : Tree) → Keeps w t b → (a : Tree) → IsIn a (tree_at w table (literal_at w t).atom) → IsIn a b ⊎ (a ≡ node truth none)
  unfolding Keeps
  argument_near t (node op bs) (r, k, has, names, is, kept) a x =
      by_shape t r (node op bs) bs kept (λ c y. below c op bs y) (tree_is w table t (node op bs) (r, k, has, names, is, kept)) a (subst (λ o. IsIn a (tree_at w table (literal_of t o).atom)) has x)

  atoms_near : (ts : List Term) (args : Trees) → KeepsAll w ts args → (u : Term) → IsAtomOf (map (literal_at w) ts) u → IsNearAtom args (tree_at w table) u
  unfolding Keeps
  atoms_near [] args h u is a x = inr (truth_near a (subst (λ z. IsIn a (tree_at w table z)) is x))
  atoms_near (t ∷ ts) none h u is a x = absurd h
  atoms_near (t ∷ ts) (more b bs) h u (inl e) a x = cases (argument_near t b h.0 a (subst (λ z. IsIn a (tree_at w table z)) e x)) (λ y. inl (first a b bs y)) (λ y. inr y)
  atoms_near (t ∷ ts) (more b bs) h u (inr is) a x = cases (atoms_near ts bs h.1 u is a x) (λ y. inl (later a b bs y)) (λ y. inr y)

  pub parts_near : (ts : List Term) (args : Trees) → KeepsAll w ts args → (ms : List Literal) → AreAtomsOf (map (literal_at w) ts) ms → AtomsNear args (tree_at w table) ms
  parts_near ts args h [] are = tt
  parts_near ts args h (m ∷ ms) are = (atoms_near ts args h m.atom are.0, parts_near ts args h ms are.1)
