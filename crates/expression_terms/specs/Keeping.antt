-- Terms that were built for trees, where all that was built on the way is among those that are kept.
use Rattle.std.specs.Prelude.{◌≡◌, ℕ, ◌++◌, List, [], ◌∷◌, Some, Ok}
use Rattle.y_tree.specs.Tree.{Op, truth, falsity, constant, Tree, Trees, node}
use Rattle.y_tree.specs.Tree as tree
use Rattle.term_shapes.specs.declared.handles.Term.{Term}
use Rattle.term_shapes.specs.declared.shapes.Shape.TheVariants as shape
use Rattle.term_table.specs.World.{World, HasShape, Keeps}
use Rattle.term_orders.specs.Orders.{IsIn}
use Rattle.term_build.specs.Building.{IsAmong}
use Rattle.yices_grammar.specs.Commands.{Expr, Exprs, Binds}
use Rattle.expression_terms.specs.Trees.{Scope, tree_named, tree_of, trees_of, bindings_of}
use Rattle.expression_terms.specs.Standing.{IsMadeOf, IsBuiltFor}
use Rattle.expression_terms.specs.Growth.{written_trees}
use Rattle.expression_terms.specs.Building.{Named, term_named, AreNamed}

-- the term was built for the tree, and it and all that were built on the way to it are kept
unfoldable mutual
  pub IsBuiltWithin : World → List Term → Tree → Term → Type 0
  IsBuiltWithin w ks (node truth ts) t = HasShape w t shape.True
  IsBuiltWithin w ks (node falsity ts) t = HasShape w t shape.False
  IsBuiltWithin w ks (node (constant n k) ts) t = IsIn ks t × Keeps w t (node (constant n k) tree.none)
  IsBuiltWithin w ks (node op ts) t = IsIn ks t × ((us : List Term) × AreBuiltWithin w ks ts us × IsMadeOf w op us t)

  pub AreBuiltWithin : World → List Term → Trees → List Term → Type 0
  AreBuiltWithin w ks tree.none [] = Unit {0}
  AreBuiltWithin w ks (tree.more d ds) (t ∷ ts) = IsBuiltWithin w ks d t × AreBuiltWithin w ks ds ts
  AreBuiltWithin w ks tree.none (t ∷ ts) = ⊥
  AreBuiltWithin w ks (tree.more d ds) [] = ⊥

-- each of the terms is kept
abbrev pub AllKept : List Term → List Term → Type 0
AllKept ts ks = (t : Term) → IsIn ts t → IsIn ks t

-- the term of each name was built for its tree, and what was built on the way is kept
abbrev pub AreNamedWithin : World → List Term → Scope → Named → Type 0
AreNamedWithin w ks s ns = (name : List ℕ) (d : Tree) → tree_named s name ≡ Some d → (t : Term) × (term_named ns name ≡ Some t) × IsBuiltWithin w ks d t

-- the names that are bound, each with a term that was built within what is kept for its tree
abbrev pub AreBoundWithin : World → List Term → Scope → List (List ℕ × Term) → Type 0
AreBoundWithin w ks [] [] = Unit {0}
AreBoundWithin w ks (n ∷ ns) (p ∷ ps) = (p.0 ≡ n.0) × IsBuiltWithin w ks n.1 p.1 × AreBoundWithin w ks ns ps
AreBoundWithin w ks [] (p ∷ ps) = ⊥
AreBoundWithin w ks (n ∷ ns) [] = ⊥

-- whatever is kept beside what was built for the names and these parts, the answer was built within it
abbrev pub StaysWithin : Named → World → World → List Term → Expr → Term → Type 0
StaysWithin ns old new parts e t = (s : Scope) (ks : List Term) → AreNamed old s ns → AreNamedWithin old ks s ns → AllKept parts ks → (d : Tree) → tree_of s e ≡ Ok d → IsBuiltWithin new ks d t

-- so were the answers for expressions
abbrev pub AllStayWithin : Named → World → World → List Term → Exprs → List Term → Type 0
AllStayWithin ns old new parts es ts = (s : Scope) (ks : List Term) → AreNamed old s ns → AreNamedWithin old ks s ns → AllKept parts ks → (ds : Trees) → trees_of s es ≡ Ok ds → AreBuiltWithin new ks ds ts

-- and those for what names are bound to
abbrev pub BoundStayWithin : Named → World → World → List Term → Binds → List (List ℕ × Term) → Type 0
BoundStayWithin ns old new parts bs ps = (s : Scope) (ks : List Term) → AreNamed old s ns → AreNamedWithin old ks s ns → AllKept parts ks → (xs : Scope) → bindings_of s bs ≡ Ok xs → AreBoundWithin new ks xs ps

-- the parts were added behind the old ones, and each was built for a tree that is written
pub record AddsParts (ns : Named) (old new : World) (e : Expr) (before after : List Term) : Type 0 where
  pub added : List Term
  pub is : after ≡ before ++ added
  pub each : (s : Scope) → AreNamed old s ns → (t : Term) → IsIn added t → (d : Tree) × IsAmong d (written_trees s e) × IsBuiltFor new d t

-- the parts were added behind the old ones, and each was built for one of the trees, whatever the names stand for
pub record AddsAmong (ns : Named) (old new : World) (written : Scope → List Tree) (before after : List Term) : Type 0 where
  pub added : List Term
  pub is : after ≡ before ++ added
  pub each : (s : Scope) → AreNamed old s ns → (t : Term) → IsIn added t → (d : Tree) × IsAmong d (written s) × IsBuiltFor new d t
