-- A term that is made as a sketch says keeps the sketch's tree.
use Rattle.std.proofs.Common.{Bool, true, false, List, [], ◌∷◌, map, refl, sym, subst}
use Rattle.y_tree.specs.Sorts.{boolean}
use Rattle.y_tree.specs.Tree.{Tree, Trees, node, none, more, falsity, negation, conjunction, disjunction, parity, choice, equality, distinctness}
use Rattle.term_shapes.specs.declared.handles.Term.{Term}
use Rattle.term_shapes.specs.declared.shapes.Shape.{Shape}
use Rattle.term_shapes.specs.declared.shapes.Shape.TheVariants as shape
use Rattle.term_table.specs.World.{World, HasShape, Keeps, KeepsAll, IsTable}
use Rattle.term_sketches.specs.declared.items.Literal.{Literal}
use Rattle.term_sketches.specs.declared.items.Sketch.{Sketch}
use Rattle.term_sketches.specs.declared.items.Sketch.TheVariants as sketch
use Rattle.term_sketches.specs.Sketches.{the_truth, same_term, plain}
use Rattle.term_sketches.specs.Valuing.{parts_of}
use Rattle.term_build.specs.Building.{IsSigned, IsLiteral, AreLiterals, IsFlagged, IsMade}

-- the tree of a term with its sign, where the flag says whether the term is truth
abbrev pub signed_tree : Tree → Bool → Bool → Tree
signed_tree a false c = a
signed_tree a true true = node falsity none
signed_tree a true false = node negation (more a none)

-- the tree of a literal, where atoms have these trees
abbrev pub literal_tree : (Term → Tree) → Literal → Tree
literal_tree f l = signed_tree (f l.atom) l.negated (same_term l.atom the_truth)

abbrev pub literal_trees : (Term → Tree) → List Literal → Trees
literal_trees f [] = none
literal_trees f (l ∷ ls) = more (literal_tree f l) (literal_trees f ls)

abbrev pub atom_trees : (Term → Tree) → List Term → Trees
atom_trees f [] = none
atom_trees f (t ∷ ts) = more (f t) (atom_trees f ts)

abbrev pub flagged_tree : Bool → Tree → Tree
flagged_tree false a = a
flagged_tree true a = node negation (more a none)

-- the tree of a sketch
abbrev pub sketch_tree : (Term → Tree) → Sketch → Tree
sketch_tree f (sketch.OneLiteral l) = literal_tree f l
sketch_tree f (sketch.AllOf ls) = node conjunction (literal_trees f ls)
sketch_tree f (sketch.AnyOf ls) = node disjunction (literal_trees f ls)
sketch_tree f (sketch.OddOf b ts) = flagged_tree b (node parity (atom_trees f ts))
sketch_tree f (sketch.OneOf x a b) = node choice (more (f x) (more (literal_tree f a) (more (literal_tree f b) none)))
sketch_tree f (sketch.Equal b t u) = flagged_tree b (node equality (more (f t) (more (f u) none)))
sketch_tree f (sketch.Apart ts) = node distinctness (atom_trees f ts)

module _ (w : World) (table : IsTable w) (f : Term → Tree) where
  -- each literal's atom keeps its tree
  abbrev pub AtomsKeep : List Literal → Type 0
  AtomsKeep [] = Unit {0}
  AtomsKeep (l ∷ ls) = Keeps w l.atom (f l.atom) × AtomsKeep ls

  signed_keeps : (t u : Term) (n c : Bool) → IsSigned w t u n c → Keeps w u (f u) → Keeps w t (signed_tree (f u) n c)
  unfolding Keeps
  signed_keeps t u false c is h = subst (λ z. Keeps w z (f u)) (sym is) h
  signed_keeps t u true true is h = subst (λ z. Keeps w z (node falsity none)) (sym is) (shape.False, boolean, table.permanents.falsity, tt, refl, tt)
  signed_keeps t u true false is h = (shape.Not u, boolean, is, tt, refl, (h, tt))

  literal_keeps : (t : Term) (l : Literal) → IsLiteral w t l → Keeps w l.atom (f l.atom) → Keeps w t (literal_tree f l)
  literal_keeps t l is h = signed_keeps t l.atom l.negated (same_term l.atom the_truth) is.1 h

  literals_keep : (ts : List Term) (ls : List Literal) → AreLiterals w ts ls → AtomsKeep ls → KeepsAll w ts (literal_trees f ls)
  unfolding Keeps
  literals_keep [] [] is h = tt
  literals_keep [] (l ∷ ls) is h = absurd is
  literals_keep (t ∷ ts) [] is h = absurd is
  literals_keep (t ∷ ts) (l ∷ ls) is h = (literal_keeps t l is.0 h.0, literals_keep ts ls is.1 h.1)

  atoms_keep : (ts : List Term) → AtomsKeep (map plain ts) → KeepsAll w ts (atom_trees f ts)
  unfolding Keeps
  atoms_keep [] h = tt
  atoms_keep (t ∷ ts) h = (h.0, atoms_keep ts h.1)

  flagged_keeps : (t : Term) (b : Bool) (s : Shape) (a : Tree) → IsFlagged w t b s → ((u : Term) → HasShape w u s → Keeps w u a) → Keeps w t (flagged_tree b a)
  unfolding Keeps
  flagged_keeps t false s a is h = h t is
  flagged_keeps t true s a (u, inner, outer) h = (shape.Not u, boolean, outer, tt, refl, (h u inner, tt))

  pub made_keeps : (t : Term) (sk : Sketch) → IsMade w t sk → AtomsKeep (parts_of sk) → Keeps w t (sketch_tree f sk)
  unfolding Keeps
  made_keeps t (sketch.OneLiteral l) is h = literal_keeps t l is h.0
  made_keeps t (sketch.AllOf ls) (ts, has, are) h = (shape.And ts, boolean, has, tt, refl, literals_keep ts ls are h)
  made_keeps t (sketch.AnyOf ls) (ts, has, are) h = (shape.Or ts, boolean, has, tt, refl, literals_keep ts ls are h)
  made_keeps t (sketch.OddOf b ts) is h = flagged_keeps t b (shape.Xor ts) (node parity (atom_trees f ts)) is (λ u has. (shape.Xor ts, boolean, has, tt, refl, atoms_keep ts h))
  made_keeps t (sketch.OneOf x a b) (u, v, has, ua, vb) h = (shape.Ite x u v, boolean, has, tt, refl, (h.0, (literal_keeps u a ua h.1.0, (literal_keeps v b vb h.1.1.0, tt))))
  made_keeps t (sketch.Equal b x y) is h =
      flagged_keeps t b (shape.Eq x y) (node equality (more (f x) (more (f y) none))) is (λ u has. (shape.Eq x y, boolean, has, tt, refl, (h.0, (h.1.0, tt))))
  made_keeps t (sketch.Apart ts) is h = (shape.Distinct ts, boolean, is, tt, refl, atoms_keep ts h)
