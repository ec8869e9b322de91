-- What a term of the table has to do with a tree as it was written.
use Rattle.std.specs.Prelude.{◌≡◌, List, [], ◌∷◌, Some, map}
use Rattle.y_tree.specs.Sorts.{Sort, boolean}
use Rattle.y_tree.specs.Tree.{Op, truth, falsity, constant, Tree, Trees, node}
use Rattle.y_tree.specs.Tree as tree
use Rattle.y_tree.specs.Typing.{sort_of}
use Rattle.y_tree.specs.Meaning.{Assignment, meaning}
use Rattle.term_shapes.specs.declared.handles.Term.{Term}
use Rattle.term_shapes.specs.declared.shapes.Shape.TheVariants as shape
use Rattle.term_table.specs.World.{World, HasShape, Keeps}
use Rattle.term_table.specs.Checking.{HaveSorts}
use Rattle.term_sketches.specs.declared.items.Operator.{Operator}
use Rattle.term_sketches.specs.Sketches.{sketch_of, operator_of}
use Rattle.term_sketches.specs.Valuing.{are_truths}
use Rattle.term_build.specs.Building.{IsMade, literal_at}

-- the term stands for a tree that has, under every assignment, the meaning of that one
pub record StandsFor (w : World) (plain : Tree) (t : Term) : Type 0 where
  pub kept : Tree
  pub keeps : Keeps w t kept
  pub same : (a : Assignment) → meaning kept a ≡ meaning plain a

-- a constructor made the term of terms with those types
pub record IsMadeOf (w : World) (op : Op) (ts : List Term) (t : Term) : Type 0 where
  pub constructor : Operator
  pub is : operator_of constructor ≡ op
  pub sorts : List Sort
  pub have : HaveSorts w ts sorts
  pub made : IsMade w t (sketch_of constructor (are_truths sorts) (map (literal_at w) ts))

-- the term is what the constructors make of the tree, from its constants up; all that they made on the way is live
unfoldable mutual
  pub IsBuiltFor : World → Tree → Term → Type 0
  IsBuiltFor w (node truth ts) t = HasShape w t shape.True
  IsBuiltFor w (node falsity ts) t = HasShape w t shape.False
  IsBuiltFor w (node (constant n k) ts) t = Keeps w t (node (constant n k) tree.none)
  IsBuiltFor w (node op ts) t = (us : List Term) × AreBuiltFor w ts us × IsMadeOf w op us t

  pub AreBuiltFor : World → Trees → List Term → Type 0
  AreBuiltFor w tree.none [] = Unit {0}
  AreBuiltFor w (tree.more d ds) (t ∷ ts) = IsBuiltFor w d t × AreBuiltFor w ds ts
  AreBuiltFor w tree.none (t ∷ ts) = ⊥
  AreBuiltFor w (tree.more d ds) [] = ⊥

-- the tree is a truth value
abbrev pub IsBoolean : Tree → Type 0
IsBoolean d = sort_of d ≡ Some boolean
